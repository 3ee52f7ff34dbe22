-- What holds of a callback along the items that it is called with.
use Rattle.std.proofs.Common.{◌≡◌, List, [], ◌∷◌, ap, refl, subst, ◌∙◌}
use Rattle.std.specs.Fn.{Mut, Called, always_mut}
use Rattle.std.specs.List.{FoldsTo}
use Rattle.rart_trie.specs.walks.Calls.{CallableAtEach}

module _ {F A : Type 0} (R : F → A → F → Type 0) where
  -- what each call keeps holds after all
  pub folds-keep : (I : F → Type 0) → ((p : F) (x : A) (q : F) → R p x q → I p → I q) → (xs : List A) (p q : F)
      → FoldsTo R p xs q → I p → I q
  folds-keep I keeps [] p q h i = subst I h i
  folds-keep I keeps (x ∷ xs) p q h i = folds-keep I keeps xs h.0 q h.2 (keeps p x h.0 h.1 i)

  module _ (Q : F → A → Type 0) where
    -- the first of the items
    pub can-first : (f : F) (xs : List A) (x : A) (ys : List A) → xs ≡ x ∷ ys → CallableAtEach R Q f xs → Q f x
    can-first f xs x ys e h = h.at [] x ys f e refl

    -- those after the first
    pub can-rest : (f : F) (xs : List A) (x : A) (ys : List A) (g : F) → xs ≡ x ∷ ys → R f x g → CallableAtEach R Q f xs
        → CallableAtEach R Q g ys
    can-rest f xs x ys g e r h = record {
      at
          = λ before y after j same k. h.at (x ∷ before) y after j (e ∙ ap (λ z. x ∷ z) same) (g, r, k);
    }

module _ {F A R : Type 0} (g : Mut F A R) where
  -- it may always be called after one call more
  pub always-on : (f : F) (a : A) (r : R) (f' : F) → Called g f a r f' → always_mut g f → always_mut g f'
  always-on f a r f' c h = record { at = λ xs. (h.at (a ∷ xs)).1 r f' c }
