-- A walk that lends values: its calls along lists of pairs, one after another.
use Rattle.std.proofs.Common.{◌≡◌, ℕ, Bool, true, false, List, [], ◌∷◌, ◌++◌}
use Rattle.std.proofs.Common.{refl, sym, ap, ◌∙◌, subst, MutBor, if◌then◌else◌}
use Rattle.std.specs.Fn.{Mut, always_mut}
use Rattle.std.specs.List.{FoldsTo, filter}
use Rattle.std.proofs.lemmas.List.{append_assoc}
use Rattle.rart_keys.specs.SortedMap.{keys_of, values_of}
use Rattle.rart_trie.specs.edits.ValueChanges.{ChangesValue, ChangesWhere, LentValue}
use Rattle.rart_trie.specs.tries.Trie.{StartsWith, with_prefix}
use Rattle.rart_trie.specs.walks.Calls.{CallableAtEach}
use Rattle.rart_trie.proofs.edits.CallbackLemmas.{always-on, folds-keep}
use Rattle.rart_trie.proofs.tries.FirstBytes.{AllFirst}

module _ {V : Type 0} where
  -- the pairs of whose key t holds
  abbrev pub pairs_where : (List ℕ → Bool) → List (List ℕ × V) → List (List ℕ × V)
  pairs_where t es = filter (λ e. t e.0) es

  -- two tests agree at each key
  abbrev pub Agree : (List ℕ → Bool) → (List ℕ → Bool) → List (List ℕ × V) → Type 0
  Agree t r [] = Unit {0}
  Agree t r (e ∷ es) = (t e.0 ≡ r e.0) × Agree t r es

  pub agree-all : (t r : List ℕ → Bool) (es : List (List ℕ × V)) → ((k : List ℕ) → t k ≡ r k) → Agree t r es
  agree-all t r [] h = tt
  agree-all t r (e ∷ es) h = (h e.0, agree-all t r es h)

  pub agree-first : (c : ℕ) (t r : List ℕ → Bool) (es : List (List ℕ × V))
      → ((k : List ℕ) → StartsWith c k → t k ≡ r k) → AllFirst c es → Agree t r es
  agree-first c t r [] h f = tt
  agree-first c t r (e ∷ es) h f = (h e.0 f.0, agree-first c t r es h f.1)

  -- they keep the same pairs
  pub where-agree : (t r : List ℕ → Bool) (es : List (List ℕ × V)) → Agree t r es
      → pairs_where t es ≡ pairs_where r es
  where-agree t r [] h = refl
  where-agree t r (e ∷ es) h = rw h.0 (elim (r e.0) as (λ z. (if z then e ∷ pairs_where t es else pairs_where t es)
      ≡ (if z then e ∷ pairs_where r es else pairs_where r es)) [
        | true ↦ ap (λ z. e ∷ z) (where-agree t r es h.1)
        | false ↦ where-agree t r es h.1
      ])

  pub where-none : (es : List (List ℕ × V)) → pairs_where (λ k. false) es ≡ []
  where-none [] = refl
  where-none (e ∷ es) = where-none es

  -- after a prefix q, where t holds of just the keys of which r holds after it
  pub where-after : (t r : List ℕ → Bool) (q : List ℕ) (es : List (List ℕ × V))
      → ((k : List ℕ) → t (q ++ k) ≡ r k) → pairs_where t (with_prefix q es) ≡ with_prefix q (pairs_where r es)
  where-after t r q [] h = refl
  where-after t r q (e ∷ es) h = rw (h e.0) (elim (r e.0)
      as (λ z. (if z then (q ++ e.0, e.1) ∷ pairs_where t (with_prefix q es) else pairs_where t (with_prefix q es))
      ≡ with_prefix q (if z then e ∷ pairs_where r es else pairs_where r es)) [
        | true ↦ ap (λ z. (q ++ e.0, e.1) ∷ z) (where-after t r q es h)
        | false ↦ where-after t r q es h
      ])

-- a callback along two lists, one after the other
module _ {F A : Type 0} (R : F → A → F → Type 0) where
  folds-append : (xs ys : List A) (f g h : F) → FoldsTo R f xs g → FoldsTo R g ys h → FoldsTo R f (xs ++ ys) h
  folds-append [] ys f g h i j = subst (λ p. FoldsTo R p ys h) (sym i) j
  folds-append (x ∷ xs) ys f g h i j = (i.0, i.1, folds-append xs ys i.0 g h i.2 j)

  module _ (Q : F → A → Type 0) where
    pub can-front : (f : F) (xs ys : List A) → CallableAtEach R Q f (xs ++ ys) → CallableAtEach R Q f xs
    can-front f xs ys h = record {
      at = λ before x after g e k. h.at before x (after ++ ys) g
          (ap (λ z. z ++ ys) e ∙ append_assoc before (x ∷ after) ys) k;
    }

    pub can-back : (f g : F) (xs ys : List A) → FoldsTo R f xs g → CallableAtEach R Q f (xs ++ ys)
        → CallableAtEach R Q g ys
    can-back f g xs ys i h = record {
      at = λ before x after j e k. h.at (xs ++ before) x after j
          (ap (λ z. xs ++ z) e ∙ sym (append_assoc xs before (x ∷ after))) (folds-append xs before f g j i k);
    }

module _ {F V : Type 0} (call : Mut F (MutBor V × Unit {0}) (Unit {0} × (MutBor V × Unit {0}))) where
  -- the keys stay
  pub changes-keys : (t : List ℕ → Bool) (es ds : List (List ℕ × V)) (f g : F) → ChangesWhere call t f es ds g
      → keys_of ds ≡ keys_of es
  changes-keys t [] [] f g h = refl
  changes-keys t [] (d ∷ ds) f g h = absurd h
  changes-keys t (e ∷ es) [] f g h = absurd h
  changes-keys t (e ∷ es) (d ∷ ds) f g h = rw (h.0, changes-keys t es ds h.1.0 g h.1.1.1) refl

  -- the calls are those at the values of whose keys t holds
  pub changes-folds : (t : List ℕ → Bool) (es ds : List (List ℕ × V)) (f g : F) → ChangesWhere call t f es ds g
      → FoldsTo (λ p v q. LentValue call p v q) f (values_of (pairs_where t es)) g
  changes-folds t [] [] f g h = h
  changes-folds t [] (d ∷ ds) f g h = absurd h
  changes-folds t (e ∷ es) [] f g h = absurd h
  changes-folds t (e ∷ es) (d ∷ ds) f g h = elim (t e.0) as (λ z. ChangesValue call z f e.1 d.1 h.1.0
      → FoldsTo (λ p v q. LentValue call p v q) f
      (values_of (if z then e ∷ pairs_where t es else pairs_where t es)) g) [
        | true ↦ λ c. (h.1.0, (d.1, c), changes-folds t es ds h.1.0 g h.1.1.1)
        | false ↦ λ c. subst (λ q. FoldsTo (λ p v q. LentValue call p v q) q (values_of (pairs_where t es)) g) (sym c.1)
            (changes-folds t es ds h.1.0 g h.1.1.1)
      ] h.1.1.0

  pub always-after-changes : (t : List ℕ → Bool) (es ds : List (List ℕ × V)) (f g : F) → ChangesWhere call t f es ds g
      → always_mut call f → always_mut call g
  always-after-changes t es ds f g c h = folds-keep _ (always_mut call)
      (λ p v q s i. always-on call p (s.1.shown, tt) (tt, (s.1.left, tt)) q s.1.called i)
      (values_of (pairs_where t es)) f g (changes-folds t es ds f g c) h

  -- one list after another
  pub changes-append : (t : List ℕ → Bool) (xs xs' ys ys' : List (List ℕ × V)) (f g h : F)
      → ChangesWhere call t f xs xs' g → ChangesWhere call t g ys ys' h
      → ChangesWhere call t f (xs ++ ys) (xs' ++ ys') h
  changes-append t [] [] ys ys' f g h i j = subst (λ q. ChangesWhere call t q ys ys' h) (sym i) j
  changes-append t [] (d ∷ xs') ys ys' f g h i j = absurd i
  changes-append t (e ∷ xs) [] ys ys' f g h i j = absurd i
  changes-append t (e ∷ xs) (d ∷ xs') ys ys' f g h i j
      = (i.0, (i.1.0, (i.1.1.0, changes-append t xs xs' ys ys' i.1.0 g h i.1.1.1 j)))

  -- after a prefix q, where t holds of just the keys of which r holds after it
  pub changes-after : (t r : List ℕ → Bool) (q : List ℕ) (es ds : List (List ℕ × V)) (f g : F)
      → ((k : List ℕ) → t (q ++ k) ≡ r k) → ChangesWhere call r f es ds g
      → ChangesWhere call t f (with_prefix q es) (with_prefix q ds) g
  changes-after t r q [] [] f g s h = h
  changes-after t r q [] (d ∷ ds) f g s h = absurd h
  changes-after t r q (e ∷ es) [] f g s h = absurd h
  changes-after t r q (e ∷ es) (d ∷ ds) f g s h = (
    ap (λ k. q ++ k) h.0,
    (h.1.0, (rw (s e.0) h.1.1.0, changes-after t r q es ds h.1.0 g s h.1.1.1)),
  )

  -- by a test that agrees at each key
  pub changes-agree : (t r : List ℕ → Bool) (es ds : List (List ℕ × V)) (f g : F) → Agree t r es
      → ChangesWhere call r f es ds g → ChangesWhere call t f es ds g
  changes-agree t r [] [] f g s h = h
  changes-agree t r [] (d ∷ ds) f g s h = absurd h
  changes-agree t r (e ∷ es) [] f g s h = absurd h
  changes-agree t r (e ∷ es) (d ∷ ds) f g s h = (
    h.0,
    (h.1.0, (rw s.0 h.1.1.0, changes-agree t r es ds h.1.0 g s.1 h.1.1.1)),
  )

  -- pairs of none of whose keys t holds stay
  pub changes-none : (t : List ℕ → Bool) (es : List (List ℕ × V)) (f : F) → pairs_where t es ≡ []
      → ChangesWhere call t f es es f
  changes-none t [] f n = refl
  changes-none t (e ∷ es) f n = (
    refl,
    (
      f,
      elim (t e.0) as (λ z. (if z then e ∷ pairs_where t es else pairs_where t es) ≡ []
          → ChangesValue call z f e.1 e.1 f × ChangesWhere call t f es es f) [
            | true ↦ λ n. absurd (cc)
            | false ↦ λ n. ((refl, refl), changes-none t es f n)
          ] n,
    ),
  )
