-- A column of keys beside a column of children, read as entries: the keys past the children do not count.
use Rattle.std.proofs.Common.{◌≡◌, ◌≢◌, ℕ, zero, suc, ◌<◌, ◌≤◌, ◌+◌, List, [], ◌∷◌, ◌++◌, Some, None, length, get_or}
use Rattle.std.proofs.Common.{set, sym, ap, ◌∙◌, refl, arith}
use Rattle.std.specs.Prelude.{insert, remove}
use Rattle.std.specs.List.{zip}
use Rattle.rart_parts.specs.Entries.{child_at, with_entry, without_byte}
use Rattle.rart_parts.specs.Entries.{replaced_at, set_child, StartsAbove, BytesAscend}
use Rattle.rart_parts.specs.Keys.{IsAscendingBelow}
use Rattle.rart_parts.proofs.entries.EntryLemmas.{at_same, at_other, with_before, with_after, without_same}
use Rattle.rart_parts.proofs.entries.EntryLemmas.{without_other}
use Rattle.rart_parts.proofs.entries.EntryLemmas.{replaced_same, replaced_other, first_absent}

pub length_zipped : {A B : Type 0} (ks : List A) (vs : List B) → length vs ≤ length ks → length (zip ks vs) ≡ length vs
length_zipped [] [] h = refl
length_zipped [] (v ∷ vs) h = absurd (omega arith)
length_zipped (k ∷ ks) [] h = refl
length_zipped (k ∷ ks) (v ∷ vs) h = omega (arith, length_zipped ks vs (omega arith))

-- keys that agree as far as there are children
pub zip_same : {X : Type 0} (ks ks' : List ℕ) (vs : List X) → length vs ≤ length ks → length vs ≤ length ks'
    → ((j : ℕ) → j < length vs → get_or ks' j 0 ≡ get_or ks j 0) → zip ks' vs ≡ zip ks vs
zip_same [] [] [] h h' e = refl
zip_same [] (k' ∷ ks') [] h h' e = refl
zip_same [] ks' (v ∷ vs) h h' e = absurd (omega arith)
zip_same (k ∷ ks) [] [] h h' e = refl
zip_same (k ∷ ks) (k' ∷ ks') [] h h' e = refl
zip_same (k ∷ ks) [] (v ∷ vs) h h' e = absurd (omega arith)
zip_same (k ∷ ks) (k' ∷ ks') (v ∷ vs) h h' e =
    λ i. (e 0 (omega arith) i, v) ∷ zip_same ks ks' vs (omega arith) (omega arith) (λ j l. e (suc j) (omega arith)) i

-- ---- a key's place
module _ {X : Type 0} (k : ℕ) where
  zip_nothing : (ks : List ℕ) → (let none : List X = [] in ◌≡◌ {A = List (ℕ × X)} (zip ks none) [])
  zip_nothing [] = refl
  zip_nothing (y ∷ ks) = refl

  pub child_none : (ks : List ℕ) (vs : List X) → ((j : ℕ) → j < length vs → get_or ks j 0 ≡ k → ⊥)
      → child_at k (zip ks vs) ≡ None
  child_none [] vs h = refl
  child_none (y ∷ ks) [] h = refl
  child_none (y ∷ ks) (v ∷ vs) h = at_other k (y, v) (zip ks vs) (h 0 (omega arith))
      ∙ child_none ks vs (λ j l. h (suc j) (omega arith))

  pub child_found : (ks : List ℕ) (vs : List X) (i : ℕ) (v : X) → length vs ≤ length ks → i < length vs
      → get_or ks i 0 ≡ k → ((j : ℕ) → j < i → get_or ks j 0 ≡ k → ⊥) → v ≡ get_or vs i v
      → child_at k (zip ks vs) ≡ Some v
  child_found [] [] i v e lt at none is = absurd (omega arith)
  child_found [] (x ∷ vs) i v e lt at none is = absurd (omega arith)
  child_found (y ∷ ks) [] i v e lt at none is = absurd (omega arith)
  child_found (y ∷ ks) (x ∷ vs) zero v e lt at none is = at_same k (y, x) (zip ks vs) at ∙ ap Some (sym is)
  child_found (y ∷ ks) (x ∷ vs) (suc i) v e lt at none is =
      at_other k (y, x) (zip ks vs) (none 0 (omega arith))
      ∙ child_found ks vs i v (omega arith) (omega arith) at (λ j l. none (suc j) (omega arith)) is

  pub replaced_found : (ks : List ℕ) (vs : List X) (i : ℕ) (w : X) → length vs ≤ length ks → i < length vs
      → get_or ks i 0 ≡ k → ((j : ℕ) → j < i → get_or ks j 0 ≡ k → ⊥)
      → set_child i w (zip ks vs) ≡ replaced_at k w (zip ks vs)
  replaced_found [] [] i w e lt at none = absurd (omega arith)
  replaced_found [] (x ∷ vs) i w e lt at none = absurd (omega arith)
  replaced_found (y ∷ ks) [] i w e lt at none = absurd (omega arith)
  replaced_found (y ∷ ks) (x ∷ vs) zero w e lt at none = (λ j. (at j, w) ∷ zip ks vs)
      ∙ sym (replaced_same k (y, x) (zip ks vs) w at)
  replaced_found (y ∷ ks) (x ∷ vs) (suc i) w e lt at none =
      ap (λ es. (y, x) ∷ es) (replaced_found ks vs i w (omega arith) (omega arith) at
      (λ j l. none (suc j) (omega arith))) ∙ sym (replaced_other k (y, x) (zip ks vs) w (none 0 (omega arith)))

  -- the later keys and children move down over one that is taken out
  pub removed : (ks ks' : List ℕ) (vs : List X) (i : ℕ) → length vs ≤ length ks → length ks' ≡ length ks → i < length vs
      → get_or ks i 0 ≡ k → ((j : ℕ) → j < i → get_or ks j 0 ≡ k → ⊥)
      → ((j : ℕ) → j < i → get_or ks' j 0 ≡ get_or ks j 0)
      → ((j : ℕ) → i ≤ j → j + 1 < length vs → get_or ks' j 0 ≡ get_or ks (j + 1) 0)
      → zip ks' (remove vs i) ≡ without_byte k (zip ks vs)
  removed [] ks' [] i e n lt at none before moved = absurd (omega arith)
  removed [] ks' (x ∷ vs) i e n lt at none before moved = absurd (omega arith)
  removed (y ∷ ks) ks' [] i e n lt at none before moved = absurd (omega arith)
  removed (y ∷ ks) ks' (x ∷ vs) zero e n lt at none before moved =
      zip_same ks ks' vs (omega arith) (omega arith) (λ j l. moved j (omega arith) (omega arith)
      ∙ (let next : j + 1 ≡ suc j = omega arith in ap (λ m. get_or (y ∷ ks) m 0) next))
      ∙ sym (without_same k (y, x) (zip ks vs) at)
  removed (y ∷ ks) [] (x ∷ vs) (suc i) e n lt at none before moved = absurd (omega arith)
  removed (y ∷ ks) (y' ∷ ks') (x ∷ vs) (suc i) e n lt at none before moved =
      (λ r. (before 0 (omega arith) r, x) ∷ removed ks ks' vs i (omega arith) (omega arith) (omega arith) at
      (λ j l. none (suc j) (omega arith)) (λ j l. before (suc j) (omega arith))
      (λ j l m. moved (suc j) (omega arith) (omega arith)
      ∙ (let next : suc j + 1 ≡ suc (j + 1) = omega arith in ap (λ q. get_or (y ∷ ks) q 0) next)) r)
      ∙ sym (without_other k (y, x) (zip ks vs) (none 0 (omega arith)))

  -- the later keys and children move up before one that is put in
  pub inserted : (x : X) (ks ks' : List ℕ) (vs : List X) (i : ℕ) → length vs < length ks → length ks' ≡ length ks
      → i ≤ length vs
      → ((j : ℕ) → j < i → get_or ks j 0 ≤ k) → (i < length vs → k < get_or ks i 0) → child_at k (zip ks vs) ≡ None
      → ((j : ℕ) → j < i → get_or ks' j 0 ≡ get_or ks j 0) → get_or ks' i 0 ≡ k
      → ((j : ℕ) → i ≤ j → j < length vs → get_or ks' (j + 1) 0 ≡ get_or ks j 0)
      → zip ks' (insert vs i x) ≡ with_entry k x (zip ks vs)
  inserted x [] ks' vs i e n le before here absent same at moved = absurd (omega arith)
  inserted x (y ∷ ks) [] vs i e n le before here absent same at moved = absurd (omega arith)
  inserted x (y ∷ ks) (y' ∷ ks') [] zero e n le before here absent same at moved = λ r. (at r, x) ∷ zip_nothing ks' r
  inserted x (y ∷ ks) (y' ∷ ks') [] (suc i) e n le before here absent same at moved = absurd (omega arith)
  inserted x (y ∷ ks) (y' ∷ ks') (v ∷ vs) zero e n le before here absent same at moved =
      let rest : zip ks' (v ∷ vs) ≡ zip (y ∷ ks) (v ∷ vs)
      = zip_same (y ∷ ks) ks' (v ∷ vs) (omega arith) (omega arith)
      (λ j l. (let next : suc j ≡ j + 1 = omega arith in ap (λ m. get_or (y' ∷ ks') m 0) next)
      ∙ moved j (omega arith) l) in
      (λ r. (at r, x) ∷ rest r) ∙ sym (with_before k x (y, v) (zip ks vs) (here (omega arith)))
  inserted x (y ∷ ks) (y' ∷ ks') (v ∷ vs) (suc i) e n le before here absent same at moved =
      let apart : y ≢ k = first_absent k (y, v) (zip ks vs) absent in
      (λ r. (same 0 (omega arith) r, v) ∷ inserted x ks ks' vs i (omega arith) (omega arith) (omega arith)
      (λ j l. before (suc j) (omega arith)) (λ l. here (omega arith))
      (sym (at_other k (y, v) (zip ks vs) apart) ∙ absent) (λ j l. same (suc j) (omega arith)) at
      (λ j l m. (let next : suc (j + 1) ≡ suc j + 1 = omega arith in ap (λ q. get_or (y' ∷ ks') q 0) next)
      ∙ moved (suc j) (omega arith) (omega arith)) r)
      ∙ sym (with_after k x (y, v) (zip ks vs) (omega (arith, before 0 (omega arith), apart)))

pub set_zip : {X : Type 0} (ks : List ℕ) (vs : List X) (i : ℕ) (w : X) → zip ks (set vs i w) ≡ set_child i w (zip ks vs)
set_zip [] vs i w = refl
set_zip (y ∷ ks) [] i w = refl
set_zip (y ∷ ks) (x ∷ vs) zero w = refl
set_zip (y ∷ ks) (x ∷ vs) (suc i) w = ap (λ es. (y, x) ∷ es) (set_zip ks vs i w)

-- ---- the order of the keys
first_key : {X : Type 0} (ks : List ℕ) (vs : List X) (b j : ℕ) → length vs ≤ length ks → StartsAbove b (zip ks vs)
    → BytesAscend (zip ks vs) → j < length vs → b < get_or ks j 0
first_key [] [] b j e s a h = absurd (omega arith)
first_key [] (v ∷ vs) b j e s a h = absurd (omega arith)
first_key (y ∷ ks) [] b j e s a h = absurd (omega arith)
first_key (y ∷ ks) (v ∷ vs) b zero e s a h = s
first_key (y ∷ ks) (v ∷ vs) b (suc j) e s a h
    = omega (arith, s, first_key ks vs y j (omega arith) a.0 a.1 (omega arith))

pub keys_ascend : {X : Type 0} (ks : List ℕ) (vs : List X) → length vs ≤ length ks → BytesAscend (zip ks vs)
    → IsAscendingBelow ks (length vs)
keys_ascend [] [] e a i j l m = absurd (omega arith)
keys_ascend [] (v ∷ vs) e a i j l m = absurd (omega arith)
keys_ascend (y ∷ ks) [] e a i j l m = absurd (omega arith)
keys_ascend (y ∷ ks) (v ∷ vs) e a i zero l m = absurd (omega arith)
keys_ascend (y ∷ ks) (v ∷ vs) e a zero (suc j) l m = first_key ks vs y j (omega arith) a.0 a.1 (omega arith)
keys_ascend (y ∷ ks) (v ∷ vs) e a (suc i) (suc j) l m
    = keys_ascend ks vs (omega arith) a.1 i j (omega arith) (omega arith)

pub set_child-ascends : {X : Type 0} (i : ℕ) (w : X) (es : List (ℕ × X)) → BytesAscend es
    → BytesAscend (set_child i w es)
set_child-ascends i w [] a = a
set_child-ascends zero w (e ∷ es) a = a
set_child-ascends (suc i) w (e ∷ es) a = (starts i w e.0 es a.0, set_child-ascends i w es a.1)
  where
    starts : {X : Type 0} (i : ℕ) (w : X) (b : ℕ) (es : List (ℕ × X)) → StartsAbove b es
        → StartsAbove b (set_child i w es)
    starts i w b [] s = s
    starts zero w b (e ∷ es) s = s
    starts (suc i) w b (e ∷ es) s = s

-- the last child with its key
pub zip_last : {X : Type 0} (ks : List ℕ) (vs : List X) (x : X) → length vs < length ks
    → zip ks (vs ++ x ∷ []) ≡ zip ks vs ++ (get_or ks (length vs) 0, x) ∷ []
zip_last [] vs x h = absurd (omega arith)
zip_last (k ∷ []) [] x h = refl
zip_last (k ∷ l ∷ ks) [] x h = refl
zip_last (k ∷ ks) (v ∷ vs) x h = ap (λ es. (k, v) ∷ es) (zip_last ks vs x (omega arith))

pub front-ascends : {X : Type 0} (es ds : List (ℕ × X)) → BytesAscend (es ++ ds) → BytesAscend es
front-ascends [] ds a = tt
front-ascends (e ∷ []) ds a = (tt, tt)
front-ascends (e ∷ f ∷ es) ds a = (a.0, front-ascends (f ∷ es) ds a.1)
