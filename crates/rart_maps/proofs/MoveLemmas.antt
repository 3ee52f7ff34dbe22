-- Entries that are moved one by one from one map to another.
use Rattle.std.proofs.Common.{◌≡◌, ℕ, ◌<◌, ◌≤◌, List, [], ◌∷◌, ◌++◌, Some, None, length, sym, ap, ◌∙◌, refl}
use Rattle.std.proofs.Common.{arith, ⊎_elim, subst, append_assoc}
use Rattle.std.proofs.lemmas.List.{length-append}
use Rattle.std.proofs.lemmas.Bool.Decides.{eqb_tells}
use Rattle.std.proofs.lemmas.Bool.{cases_lt}
use Rattle.rart_parts.specs.Entries.{child_at, with_entry, without_byte, StartsAbove, BytesAscend}
use Rattle.rart_parts.proofs.entries.EntryLemmas.{at_same, at_other, with_before, with_after, without_same, below_start}

module _ {X : Type 0} (k : ℕ) (x : X) (s : List (ℕ × X)) where
  all_below : (b : ℕ) (t : List (ℕ × X)) → StartsAbove b (t ++ (k, x) ∷ s) → BytesAscend (t ++ (k, x) ∷ s) → b < k
  all_below b [] h a = h
  all_below b (e ∷ t) h a = omega (arith, h, all_below e.0 t a.0 a.1)

  -- the next entry is moved to the end
  put_last : (t : List (ℕ × X)) → BytesAscend (t ++ (k, x) ∷ s) → with_entry k x t ≡ t ++ (k, x) ∷ []
  put_last [] a = refl
  put_last (e ∷ t) a = with_after k x e t (all_below e.0 t a.0 a.1) ∙ ap (λ l. e ∷ l) (put_last t a.1)

  absent_last : (t : List (ℕ × X)) → BytesAscend (t ++ (k, x) ∷ s) → child_at k t ≡ None
  absent_last [] a = refl
  absent_last (e ∷ t) a = at_other k e t (λ q. omega (arith, q, all_below e.0 t a.0 a.1)) ∙ absent_last t a.1

  -- the previous entry is moved to the front
  back_ascends : (t : List (ℕ × X)) → BytesAscend (s ++ (k, x) ∷ t) → BytesAscend ((k, x) ∷ t)
  back_ascends t a = go s a
    where
      go : (s : List (ℕ × X)) → BytesAscend (s ++ (k, x) ∷ t) → BytesAscend ((k, x) ∷ t)
      go [] a = a
      go (e ∷ s) a = go s a.1

  put_first : (t : List (ℕ × X)) → BytesAscend (s ++ (k, x) ∷ t) → with_entry k x t ≡ (k, x) ∷ t
  put_first [] a = refl
  put_first (e ∷ t) a = with_before k x e t (back_ascends (e ∷ t) a).0

  absent_first : (t : List (ℕ × X)) → BytesAscend (s ++ (k, x) ∷ t) → child_at k t ≡ None
  absent_first t a = let b = back_ascends t a in below_start k k t b.0 b.1 (omega arith)

some_none : {X : Type 0} {x : X} → Some x ≡ None → ⊥
some_none h = cc

-- the entry at the least byte that has one
pub first_entry : {X : Type 0} (k : ℕ) (x : X) (es : List (ℕ × X)) → BytesAscend es → child_at k es ≡ Some x
    → ((b : ℕ) → b < k → child_at b es ≡ None) → es ≡ (k, x) ∷ without_byte k es
first_entry k x [] a e none = cc
first_entry k x (f ∷ es) a e none = ⊎_elim
    (λ t.
    let one : Some f.1 ≡ Some x = sym (at_same k f es t.1) ∙ e in
    let value : f.1 ≡ x = cc in
    (λ i. (t.1 i, value i) ∷ sym (without_same k f es t.1) i))
    (λ t. ⊎_elim
    (λ l. absurd (some_none (sym (at_same f.0 f es refl) ∙ none f.0 l)))
    (λ l. absurd (some_none (sym e ∙ at_other k f es t.1 ∙ below_start f.0 k es a.0 a.1 l)))
    (cases_lt f.0 k))
    (eqb_tells f.0 k)

pub empty_map : {X : Type 0} (es : List (ℕ × X)) → ((b : ℕ) → child_at b es ≡ None) → es ≡ []
empty_map [] h = refl
empty_map (e ∷ es) h = absurd (some_none (sym (at_same e.0 e es refl) ∙ h e.0))

-- ---- one step of a move, from the front of `rest` to the end of `moved`
module _ {X : Type 0} (whole moved rest : List (ℕ × X)) (e : ℕ × X) (a : BytesAscend whole)
    (is : moved ++ e ∷ rest ≡ whole) where
  split_ascends : BytesAscend (moved ++ e ∷ rest)
  split_ascends = subst BytesAscend (sym is) a

  pub moved_absent : child_at e.0 moved ≡ None
  moved_absent = absent_last e.0 e.1 rest moved split_ascends

  pub moved_next : with_entry e.0 e.1 moved ++ rest ≡ whole
  moved_next = ap (λ l. l ++ rest) (put_last e.0 e.1 rest moved split_ascends) ∙ append_assoc moved (e ∷ []) rest ∙ is

  pub moved_fits : (width : ℕ) → length whole ≤ width → length moved < width
  moved_fits width h = omega (arith, ap length is, length-append moved (e ∷ rest), h)

-- from the end of `rest` to the front of `moved`
module _ {X : Type 0} (whole rest moved : List (ℕ × X)) (e : ℕ × X) (a : BytesAscend whole)
    (is : (rest ++ e ∷ []) ++ moved ≡ whole) where
  joined : rest ++ e ∷ moved ≡ whole
  joined = sym (append_assoc rest (e ∷ []) moved) ∙ is

  pub taken_absent : child_at e.0 moved ≡ None
  taken_absent = absent_first e.0 e.1 rest moved (subst BytesAscend (sym joined) a)

  pub taken_next : rest ++ with_entry e.0 e.1 moved ≡ whole
  taken_next = ap (λ l. rest ++ l) (put_first e.0 e.1 rest moved (subst BytesAscend (sym joined) a)) ∙ joined

  pub taken_fits : (width : ℕ) → length whole ≤ width → length moved < width
  taken_fits width h = omega (arith, ap length joined, length-append rest (e ∷ moved), h)

suffix-ascends : {X : Type 0} (t s : List (ℕ × X)) → BytesAscend (t ++ s) → BytesAscend s
suffix-ascends [] s a = a
suffix-ascends (e ∷ t) s a = suffix-ascends t s a.1

-- ---- a move that takes one byte after another
module _ {X : Type 0} (whole moved rest : List (ℕ × X)) (k : ℕ) (a : BytesAscend whole) (is : moved ++ rest ≡ whole)
    (passed : (b : ℕ) → b < k → child_at b rest ≡ None) where
  rest_ascends : BytesAscend rest
  rest_ascends = suffix-ascends moved rest (subst BytesAscend (sym is) a)

  -- the byte has a child, which is the first that is left
  pub next_first : (x : X) → child_at k rest ≡ Some x → moved ++ (k, x) ∷ without_byte k rest ≡ whole
  next_first x e = ap (λ l. moved ++ l) (sym (first_entry k x rest rest_ascends e passed)) ∙ is
