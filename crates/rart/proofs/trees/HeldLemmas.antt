-- What a key that is held has.
use Rattle.std.proofs.Common.{◌≡◌, ℕ, List, true, refl, sym, ◌∙◌, Option, Some, None}
use Rattle.std.specs.Prelude.{◌≢◌, is_some}
use Rattle.std.specs.Option.{UnwrapsOrElse, unwrap_or}
use Rattle.rart_keys.specs.SortedMap.{lookup, put}
use Rattle.rart.specs.Edits.{PutsIfNew}

module _ {V : Type 0} where
  is-stored : (o : Option V) → is_some o ≡ true → o ≢ None
  is-stored None h e = let t = h in cc
  is-stored (Some v) h e = cc

  held-found : (k : List ℕ) (New : V → Type 0) (es ds : List (List ℕ × V)) (o : Option V)
      → ((v : V) → o ≡ Some v → put k v es ≡ es) → o ≢ None → ds ≡ es
      → (v : V) × UnwrapsOrElse o New v × (ds ≡ put k v es)
  held-found k New es ds None same n e = absurd (n refl)
  held-found k New es ds (Some v) same n e = (v, refl, e ∙ sym (same v refl))

  -- a stored key keeps its value in an unchanged map
  pub held-stored : (k : List ℕ) (New : V → Type 0) (es ds : List (List ℕ × V))
      → ((v : V) → lookup k es ≡ Some v → put k v es ≡ es) → lookup k es ≢ None → ds ≡ es → PutsIfNew k New es ds
  held-stored k New es ds same n e = held-found k New es ds (lookup k es) same n e

  pub held-contained : (k : List ℕ) (New : V → Type 0) (es : List (List ℕ × V))
      → ((v : V) → lookup k es ≡ Some v → put k v es ≡ es) → is_some (lookup k es) ≡ true → PutsIfNew k New es es
  held-contained k New es same h = held-stored k New es es same (is-stored (lookup k es) h) refl

  -- the value of a key that gets this one if it is new
  pub held-or : (o : Option V) (value x : V) → UnwrapsOrElse o (λ v. v ≡ value) x → x ≡ unwrap_or o value
  held-or None value x h = h
  held-or (Some v) value x h = h
