-- A callback that may be called at each key of either map may be given each of them.
use Rattle.std.proofs.Common.{◌≡◌, ℕ, List, [], ◌∷◌, Option, ap, refl, subst, ◌∙◌}
use Rattle.std.specs.Borrow.{Bor}
use Rattle.std.specs.Fn.{Mut, always_mut}
use Rattle.rart_trie.specs.walks.Calls.{CallableAtEach}
use Rattle.rart.specs.UnionCalls.{CallsAtEither}

module _ {F A : Type 0} (R : F → A → F → Type 0) (Q : F → A → Type 0) where
  -- the first of the items
  pub can-first : (f : F) (xs : List A) (x : A) (ys : List A) → xs ≡ x ∷ ys → CallableAtEach R Q f xs → Q f x
  can-first f xs x ys e h = h.at [] x ys f e refl

  -- those after the first
  pub can-rest : (f : F) (xs : List A) (x : A) (ys : List A) (g : F) → xs ≡ x ∷ ys → R f x g → CallableAtEach R Q f xs
      → CallableAtEach R Q g ys
  can-rest f xs x ys g e r h = record {
    at = λ before y after j same k. h.at (x ∷ before) y after j (e ∙ ap (λ z. x ∷ z) same) (g, r, k);
  }

module _ {F K V W : Type 0} (g : Mut F (K × (Option (Bor V) × (Option (Bor W) × Unit {0}))) (Unit {0}))
    (bytes : K → List ℕ) where
  -- a callback that may always be called still may after the calls
  pub always-after-either : (f : F) (xs : List (List ℕ × (Option V × Option W))) (f' : F)
      → CallsAtEither g bytes f xs f' → always_mut g f → always_mut g f'
  always-after-either f [] f' k h = subst (λ (p : F). always_mut g p) k h
  always-after-either f (x ∷ xs) f' k h = always-after-either k.0 xs f' k.2
      (record { at = λ ys. (h.at ((k.1.key, (k.1.left, (k.1.right, tt))) ∷ ys)).1 tt k.0 k.1.called })
