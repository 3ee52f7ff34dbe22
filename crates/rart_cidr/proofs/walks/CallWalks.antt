-- A walk that calls a callback with each item that is left.
use Rattle.std.proofs.Common.{◌≡◌, List, [], ◌∷◌, refl, sym, subst}
use Rattle.std.specs.List.{FoldsTo}
use Rattle.rart_trie.proofs.edits.CallbackLemmas.{can-first, can-rest}
use Rattle.rart_trie.specs.walks.Calls.{CallableAtEach}

module _ {F A : Type 0} (R : F → A → F → Type 0) (Q : F → A → Type 0) where
  -- f was called with the items before these, and may be called with these in turn
  pub record Remains (f0 : F) (all : List A) (f : F) (xs : List A) : Type 0 where
    pub callable : CallableAtEach R Q f xs
    pub folds : (last : F) → FoldsTo R f xs last → FoldsTo R f0 all last

  pub remains-all : (f : F) (xs : List A) → CallableAtEach R Q f xs → Remains f xs f xs
  remains-all f xs h = record { callable = h; folds = λ last k. k }

  pub remains-next : (f0 : F) (all : List A) (f g : F) (x : A) (xs ys : List A) → xs ≡ x ∷ ys → R f x g
      → Remains f0 all f xs → Remains f0 all g ys
  remains-next f0 all f g x xs ys e c r = record {
    callable = can-rest R Q f xs x ys g e c r.callable;
    folds = λ last k. r.folds last (subst (λ z. FoldsTo R f z last) (sym e) (g, c, k));
  }

  pub remains-first : (f0 : F) (all : List A) (f : F) (x : A) (xs ys : List A) → xs ≡ x ∷ ys → Remains f0 all f xs
      → Q f x
  remains-first f0 all f x xs ys e r = can-first R Q f xs x ys e r.callable

  pub remains-none : (f0 : F) (all : List A) (f : F) (xs : List A) → xs ≡ [] → Remains f0 all f xs → FoldsTo R f0 all f
  remains-none f0 all f xs e r = r.folds f (subst (λ z. FoldsTo R f z f) (sym e) refl)
