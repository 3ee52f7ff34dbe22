-- Calls of a callback with a loan of each value in turn, and what they leave of a list of pairs.
use Rattle.std.specs.Prelude.{ℕ, ◌≡◌, ◌&&◌, Bool, true, false, List, [], ◌∷◌}
use Rattle.std.specs.Borrow.{MutBor}
use Rattle.std.specs.Fn.{CalledAtMut, Mut, Takes}
use Rattle.std.specs.declared.ops.Bound.{Bound}
use Rattle.rart_keys.specs.ByteStrings.{begins}
use Rattle.rart_keys.specs.Ranges.{is_from, is_to}
use Rattle.rart_trie.specs.walks.Calls.{CallableAtEach}

module _ {F V : Type 0} (call : Mut F (MutBor V × Unit {0}) (Unit {0} × (MutBor V × Unit {0}))) where
  -- f may be called with a loan of v
  abbrev pub TakesLoan : F → V → Type 0
  TakesLoan f v = (lent : MutBor V) → lent.now ≡ v → Takes call f (lent, tt)

  -- f was called with a loan of v, and is then f'
  abbrev pub LentValue : F → V → F → Type 0
  LentValue f v f' = (w : V) × CalledAtMut call f v tt f' w

  -- f may be called with a loan of each value in turn
  abbrev pub CanLend : F → List V → Type 0
  CanLend f vs = CallableAtEach (λ f v f'. LentValue f v f') (λ f v. TakesLoan f v) f vs

  -- w is what a call of f left of v, or, without a call, v itself
  abbrev pub ChangesValue : Bool → F → V → V → F → Type 0
  ChangesValue true f v w f' = CalledAtMut call f v tt f' w
  ChangesValue false f v w f' = (v ≡ w) × (f ≡ f')

  -- f was called with a loan of the value of each pair of whose key t holds, in turn, and is then f'. Those pairs hold
  -- what their calls left, the others what they held
  abbrev pub ChangesWhere : (List ℕ → Bool) → F → List (List ℕ × V) → List (List ℕ × V) → F → Type 0
  ChangesWhere t f [] [] f' = f ≡ f'
  ChangesWhere t f [] (d ∷ ds) f' = ⊥
  ChangesWhere t f (e ∷ es) [] f' = ⊥
  ChangesWhere t f (e ∷ es) (d ∷ ds) f' = (e.0 ≡ d.0)
      × ((g : F) × (ChangesValue (t e.0) f e.1 d.1 g × ChangesWhere t g es ds f'))

  -- of each pair whose key p begins
  abbrev pub ChangesBelow : List ℕ → F → List (List ℕ × V) → List (List ℕ × V) → F → Type 0
  ChangesBelow p f es ds f' = ChangesWhere (λ k. begins p k) f es ds f'

  -- of each pair whose key is within two bounds
  abbrev pub ChangesBetween : Bound (List ℕ) → Bound (List ℕ) → F → List (List ℕ × V) → List (List ℕ × V) → F → Type 0
  ChangesBetween a b f es ds f' = ChangesWhere (λ k. is_from a k && is_to b k) f es ds f'

  -- `ChangesBelow` for an f taken by value
  abbrev pub ChangesBelowByValue : List ℕ → F → List (List ℕ × V) → List (List ℕ × V) → Type 0
  ChangesBelowByValue p f es ds = (last : F) × ChangesBelow p f es ds last

  -- `ChangesBetween` for an f taken by value
  abbrev pub ChangesBetweenByValue : Bound (List ℕ) → Bound (List ℕ) → F → List (List ℕ × V) → List (List ℕ × V)
      → Type 0
  ChangesBetweenByValue a b f es ds = (last : F) × ChangesBetween a b f es ds last
