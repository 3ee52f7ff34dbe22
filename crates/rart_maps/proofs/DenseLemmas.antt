-- Children in slots without gaps through the calls of an indexed map.
use Rattle.std.proofs.Common.{◌≡◌, ◌≢◌, ℕ, zero, suc, ◌<◌, ◌≤◌, ◌+◌, true, cond, List, [], ◌∷◌, ◌++◌, Option}
use Rattle.std.proofs.Common.{Some, None, length, get_or, set, replicate, sym, ap, ◌∙◌, refl, arith, ⊎_elim, subst}
use Rattle.std.specs.List.{zip}
use Rattle.std.proofs.lemmas.Bool.{eq-eqb, ne_eqb, cases_lt, lt-ltb, le-ltb}
use Rattle.std.proofs.lemmas.Bool.Decides.{eqb_tells}
use Rattle.std.proofs.lemmas.List.{length-set, length-append, length-replicate, get_or-set_same, get_or-set_other}
use Rattle.std.proofs.lemmas.List.{map-set}
use Rattle.std.proofs.lemmas.List.{get_or_past}
use Rattle.std.proofs.Math.ListN.{get_or-append}
use Rattle.rart_parts.specs.Entries.{child_at, with_entry, replaced_at, sorted_entries, with_another}
use Rattle.rart_parts.specs.Entries.{BytesAscend, entries_above}
use Rattle.rart_maps.specs.Indexed.{names, byte_of, with_bytes, by_slots, IsIndex}
use Rattle.rart_parts.specs.Places.{is_used, numbered_values}
use Rattle.rart_parts.proofs.entries.EntryLemmas.{same_lookups, child_at-with_entry}
use Rattle.rart_parts.proofs.entries.EntryLemmas.{child_at-replaced, with_entry-ascends}
use Rattle.rart_parts.proofs.entries.EntryLemmas.{replaced-ascends}
use Rattle.rart_parts.proofs.PlaceLemmas.{used_place}
use Rattle.rart_maps.proofs.IndexLemmas.{indexed_none, indexed_some, map_of_ascends, by_index}
use Rattle.rart_maps.proofs.IndexWalk.{walk_is}
use Rattle.rart_maps.proofs.Zipped.{length_zipped}
use Rattle.rart_maps.specs.Contents.{Contents}
use Rattle.rart_maps.specs.Dense.{IsDense, AreSlotsBelow, filled}

none_some : {X : Type 0} {x : X} → None ≡ Some x → ⊥
none_some h = cc

some_same : {X : Type 0} {x y : X} → Some x ≡ Some y → x ≡ y
some_same h = cc

-- ---- as places, all of which have a child
length-filled : {X : Type 0} (vs : List X) → length (filled vs) ≡ length vs
length-filled [] = refl
length-filled (v ∷ vs) = omega (arith, length-filled vs)

all_used : {X : Type 0} (vs : List X) (p : ℕ) → p < length vs → is_used (filled vs) p ≡ true
all_used [] p h = absurd (omega arith)
all_used (v ∷ vs) zero h = refl
all_used (v ∷ vs) (suc p) h = all_used vs p (omega arith)

pub filled_read : {X : Type 0} (vs : List X) (p : ℕ) → p < length vs → (x : X) × (get_or (filled vs) p None ≡ Some x)
filled_read [] p h = absurd (omega arith)
filled_read (v ∷ vs) zero h = (v, refl)
filled_read (v ∷ vs) (suc p) h = filled_read vs p (omega arith)

pub filled_at : {X : Type 0} (vs : List X) (p : ℕ) (x : X) → p < length vs → x ≡ get_or vs p x
    → get_or (filled vs) p None ≡ Some x
filled_at [] p x h e = absurd (omega arith)
filled_at (v ∷ vs) zero x h e = ap Some (sym e)
filled_at (v ∷ vs) (suc p) x h e = filled_at vs p x (omega arith) e

filled-append : {X : Type 0} (vs us : List X) → filled (vs ++ us) ≡ filled vs ++ filled us
filled-append [] us = refl
filled-append (v ∷ vs) us = ap (λ l. Some v ∷ l) (filled-append vs us)

pub filled_front : {X : Type 0} (vs us : List X) (p : ℕ) → p < length vs
    → get_or (filled (vs ++ us)) p None ≡ get_or (filled vs) p None
filled_front vs us p h = ap (λ l. get_or l p None) (filled-append vs us)
    ∙ get_or-append (filled vs) (filled us) None p (omega (arith, h, length-filled vs))

pub filled_last : {X : Type 0} (vs : List X) (x : X) → get_or (filled (vs ++ x ∷ [])) (length vs) None ≡ Some x
filled_last [] x = refl
filled_last (v ∷ vs) x = filled_last vs x

pub filled_set : {X : Type 0} (vs : List X) (p : ℕ) (x : X) → p < length vs → get_or (filled
    (set vs p x)) p None ≡ Some x
filled_set vs p x h = ap (λ l. get_or l p None) (map-set Some vs p x)
    ∙ get_or-set_same (filled vs) p (Some x) None (omega (arith, h, length-filled vs))

pub filled_set_other : {X : Type 0} (vs : List X) (p q : ℕ) (x : X) → q ≢ p
    → get_or (filled (set vs p x)) q None ≡ get_or (filled vs) q None
filled_set_other vs p q x n = ap (λ l. get_or l q None) (map-set Some vs p x)
    ∙ get_or-set_other (filled vs) p q (Some x) None n

-- the only byte that an index sends to a slot is the first
byte_of_only : (at : List (Option ℕ)) (k p : ℕ) → get_or at k None ≡ Some p
    → ((j : ℕ) → get_or at j None ≡ Some p → j ≡ k) → byte_of at p ≡ k
byte_of_only [] k p e one = absurd (none_some e)
byte_of_only (o ∷ at) zero p e one = ap (λ b. cond b 0 (suc (byte_of at p)))
    (ap (λ a. names a p) e ∙ eq-eqb p p refl)
byte_of_only (None ∷ at) (suc k) p e one
    = ap suc (byte_of_only at k p e (λ j f. let s : suc j ≡ suc k = one (suc j) f in omega (arith, s)))
byte_of_only (Some q ∷ at) (suc k) p e one =
    ap (λ b. cond b 0 (suc (byte_of at p)))
    (ne_eqb q p (λ s. let z : 0 ≡ suc k = one 0 (ap Some s) in omega (arith, z)))
    ∙ ap suc (byte_of_only at k p e (λ j f. let s : suc j ≡ suc k = one (suc j) f in omega (arith, s)))

bytes_zip : {X : Type 0} (at : List (Option ℕ)) (p : ℕ) (ks : List ℕ) (vs : List X) → length vs ≤ length ks
    → ((r : ℕ) → r < length vs → byte_of at (p + r) ≡ get_or ks r 0) → with_bytes at p (filled vs) ≡ zip ks vs
bytes_zip at p [] [] h e = refl
bytes_zip at p (k ∷ ks) [] h e = refl
bytes_zip at p [] (v ∷ vs) h e = absurd (omega arith)
bytes_zip at p (k ∷ ks) (v ∷ vs) h e =
    let here : p ≡ p + 0 = omega arith in
    let first : byte_of at p ≡ k = ap (byte_of at) here ∙ e 0 (omega arith) in
    λ i. (first i, v) ∷ bytes_zip at (suc p) ks vs (omega arith)
    (λ r l. (let next : suc p + r ≡ p + suc r = omega arith in ap (byte_of at) next) ∙ e (suc r) (omega arith)) i

-- the slots of an index
slots_below : (m n : ℕ) (at : List (Option ℕ)) → ((k p : ℕ) → get_or at k None ≡ Some p → p < m)
    → AreSlotsBelow m (numbered_values n at)
slots_below m n [] h = tt
slots_below m n (None ∷ at) h = slots_below m (suc n) at (λ k p e. h (suc k) p e)
slots_below m n (Some q ∷ at) h = (h 0 q refl, slots_below m (suc n) at (λ k p e. h (suc k) p e))

pub slots_below-above : (m k : ℕ) (es : List (ℕ × ℕ)) → AreSlotsBelow m es → AreSlotsBelow m (entries_above k es)
slots_below-above m k [] h = tt
slots_below-above m k (e ∷ es) h = ⊎_elim
    (λ l. subst (AreSlotsBelow m)
    (sym (ap (λ b. cond b (e ∷ entries_above k es) (entries_above k es)) (lt-ltb k e.0 l)))
    (h.0, slots_below-above m k es h.1))
    (λ l. subst (AreSlotsBelow m)
    (sym (ap (λ b. cond b (e ∷ entries_above k es) (entries_above k es)) (le-ltb k e.0 l)))
    (slots_below-above m k es h.1))
    (cases_lt k e.0)

-- an index without slots
nowhere : (n k : ℕ) (d : Option ℕ) → d ≡ None → get_or (replicate n None) k d ≡ None
nowhere zero k d e = e
nowhere (suc n) zero d e = refl
nowhere (suc n) (suc k) d e = nowhere n k d e

pub dense_start : (X : Type 0) (width : ℕ) → width ≤ 255
    → IsDense {X = X} width (replicate 256 None) (replicate width 0) []
dense_start X width narrow = record {
  whole = length-replicate {A = Option ℕ} 256 None;
  full = length-replicate width 0;
  narrow = narrow;
  few = omega arith;
  has_child = λ k p e. absurd (none_some (sym (nowhere 256 k None refl) ∙ e));
  has_byte = λ k p e. absurd (none_some (sym (nowhere 256 k None refl) ∙ e));
  is_named = λ p l. absurd (omega (arith, l));
}

pub nothing_yet : (X : Type 0) {E : Type 0} (e : E) (ks : List ℕ)
    → (let new : Contents X E = record { extra = e; entries = zip ks [] } in
    let none : Contents X E = record { extra = e; entries = [] } in new ≡ none)
nothing_yet X e [] = refl
nothing_yet X e (k ∷ ks) = refl

length-sorted : {X : Type 0} (es : List (ℕ × X)) → length (sorted_entries es) ≡ length es
length-sorted [] = refl
length-sorted (e ∷ es) = length-with_another e.0 e.1 (sorted_entries es) ∙ ap suc (length-sorted es)
  where
    length-with_another : {X : Type 0} (k : ℕ) (x : X) (es : List (ℕ × X))
        → length (with_another k x es) ≡ suc (length es)
    length-with_another k x [] = refl
    length-with_another k x (e ∷ es) = grind (arith, length-with_another k x es)

module _ {X : Type 0} {width : ℕ} {at : List (Option ℕ)} {bs : List ℕ} {vs : List X} (d : IsDense width at bs vs) where
  fits : length vs ≤ length bs
  fits = omega (arith, d.full, d.few)

  byte_at : (p : ℕ) → p < length vs → byte_of at p ≡ get_or bs p 0
  byte_at p l = byte_of_only at (get_or bs p 0) p (d.is_named p l) (λ j e. sym (d.has_byte j p e))

  index_of : IsIndex at (filled vs)
  index_of = record {
    whole = d.whole;
    one_byte = λ k p e. byte_at p (d.has_child k p e) ∙ d.has_byte k p e;
    has_child = λ k p e. all_used vs p (d.has_child k p e);
    is_named = λ p u. let l : p < length vs = omega (arith, used_place (filled vs) p u, length-filled vs) in
        ap (λ k. get_or at k None) (byte_at p l) ∙ d.is_named p l;
  }

  bytes_are : with_bytes at 0 (filled vs) ≡ zip bs vs
  bytes_are = bytes_zip at 0 bs vs fits
      (λ r l. (let z : 0 + r ≡ r = omega arith in ap (byte_of at) z) ∙ byte_at r l)

  pub dense_ascends : BytesAscend (sorted_entries (zip bs vs))
  dense_ascends = subst (λ es. BytesAscend (sorted_entries es)) bytes_are (map_of_ascends index_of)

  pub dense_none : (k : ℕ) → get_or at k None ≡ None → child_at k (sorted_entries (zip bs vs)) ≡ None
  dense_none k e = sym (ap (λ es. child_at k (sorted_entries es)) bytes_are) ∙ indexed_none index_of k e

  pub dense_some : (k p : ℕ) → get_or at k None ≡ Some p
      → child_at k (sorted_entries (zip bs vs)) ≡ get_or (filled vs) p None
  dense_some k p e = sym (ap (λ es. child_at k (sorted_entries es)) bytes_are) ∙ indexed_some index_of k p e

  dense_unnamed : (k : ℕ) → child_at k (sorted_entries (zip bs vs)) ≡ None → get_or at k None ≡ None
  dense_unnamed k e = by_index _ (get_or at k None) refl
      (λ p f. absurd (none_some (sym e ∙ dense_some k p f ∙ (filled_read vs p (d.has_child k p f)).1)))
      (λ f. f)

  pub dense_walk : by_slots (numbered_values 0 at) (filled vs) ≡ sorted_entries (zip bs vs)
  dense_walk = walk_is (filled vs) at index_of ∙ ap sorted_entries bytes_are

  pub dense_count : length (sorted_entries (zip bs vs)) ≡ length vs
  dense_count = length-sorted (zip bs vs) ∙ length_zipped bs vs fits

  pub dense_slots : AreSlotsBelow (length vs) (numbered_values 0 at)
  dense_slots = slots_below (length vs) 0 at d.has_child

  pub byte_within : (k p : ℕ) → get_or at k None ≡ Some p → k < length at
  byte_within k p e = ⊎_elim (λ l. l) (λ l. absurd (none_some (sym (get_or_past at k None l) ∙ e)))
      (cases_lt k (length at))

  -- a child was pushed
  module _ (k n : ℕ) (x : X) (hk : k < 256) (count : n ≡ length vs) (free : length vs < width)
      (absent : child_at k (sorted_entries (zip bs vs)) ≡ None) where
    unnamed : get_or at k None ≡ None
    unnamed = dense_unnamed k absent

    hk' : k < length at
    hk' = omega (arith, hk, d.whole)

    pushed : length (vs ++ x ∷ []) ≡ length vs + 1
    pushed = length-append vs (x ∷ [])

    here : get_or (set at k (Some n)) k None ≡ Some n
    here = get_or-set_same at k (Some n) None hk'

    there : (j : ℕ) → k ≢ j → get_or (set at k (Some n)) j None ≡ get_or at j None
    there j o = get_or-set_other at k j (Some n) None (λ e. o (sym e))

    byte_here : get_or (set bs n k) n 0 ≡ k
    byte_here = get_or-set_same bs n k 0 (omega (arith, count, free, d.full))

    byte_there : (p : ℕ) → p < length vs → get_or (set bs n k) p 0 ≡ get_or bs p 0
    byte_there p l = get_or-set_other bs n p k 0 (λ e. omega (arith, e, l, count))

    pub pushed_dense : IsDense width (set at k (Some n)) (set bs n k) (vs ++ x ∷ [])
    pushed_dense = record {
      whole = length-set at k (Some n) ∙ d.whole;
      full = length-set bs n k ∙ d.full;
      narrow = d.narrow;
      few = omega (arith, pushed, free);
      has_child = λ j p e. ⊎_elim
          (λ t. let same : n ≡ p = some_same (sym here ∙ ap (λ m. get_or (set at k (Some n)) m None) t.1 ∙ e) in
          omega (arith, same, count, pushed))
          (λ t. omega (arith, d.has_child j p (sym (there j t.1) ∙ e), pushed))
          (eqb_tells k j);
      has_byte = λ j p e. ⊎_elim
          (λ t. let same : n ≡ p = some_same (sym here ∙ ap (λ m. get_or (set at k (Some n)) m None) t.1 ∙ e) in
          ap (λ m. get_or (set bs n k) m 0) (sym same) ∙ byte_here ∙ t.1)
          (λ t. let old = sym (there j t.1) ∙ e in byte_there p (d.has_child j p old) ∙ d.has_byte j p old)
          (eqb_tells k j);
      is_named = λ p l. ⊎_elim
          (λ t. ap (λ m. get_or (set at k (Some n)) (get_or (set bs n k) m 0) None) t.1
          ∙ ap (λ m. get_or (set at k (Some n)) m None) byte_here ∙ here ∙ ap Some (sym t.1))
          (λ t. let within : p < length vs = omega (arith, l, t.1, count, pushed) in
          ap (λ m. get_or (set at k (Some n)) m None) (byte_there p within)
          ∙ there (get_or bs p 0) (λ e. none_some (sym unnamed ∙ ap (λ m. get_or at m None) e ∙ d.is_named p within))
          ∙ d.is_named p within)
          (eqb_tells p n);
    }

module _ {X : Type 0} {width : ℕ} {at : List (Option ℕ)} {bs : List ℕ} {vs : List X} (d : IsDense width at bs vs) where
  pub pushed_map : (k n : ℕ) (x : X) (hk : k < 256) (count : n ≡ length vs) (free : length vs < width)
      (absent : child_at k (sorted_entries (zip bs vs)) ≡ None)
      → sorted_entries (zip (set bs n k) (vs ++ x ∷ [])) ≡ with_entry k x (sorted_entries (zip bs vs))
  pushed_map k n x hk count free absent =
      let new = pushed_dense d k n x hk count free absent in
      let at' = set at k (Some n) in
      same_lookups _ _ (dense_ascends new) (with_entry-ascends k x _ (dense_ascends d)) (λ b. ⊎_elim
      (λ t. dense_some new b n (ap (λ m. get_or at' m None) (sym t.1)
      ∙ get_or-set_same at k (Some n) None (omega (arith, hk, d.whole)))
      ∙ ap (λ m. get_or (filled (vs ++ x ∷ [])) m None) count ∙ filled_last vs x
      ∙ sym (ap (λ c. cond c (Some x) (child_at b (sorted_entries (zip bs vs)))) t.0))
      (λ t. let same : get_or at' b None ≡ get_or at b None
      = get_or-set_other at k b (Some n) None (λ e. t.1 (sym e)) in
      by_index _ (get_or at b None) refl
      (λ q e. dense_some new b q (same ∙ e) ∙ filled_front vs (x ∷ []) q (d.has_child b q e) ∙ sym (dense_some d b q e))
      (λ e. dense_none new b (same ∙ e) ∙ sym (dense_none d b e))
      ∙ sym (ap (λ c. cond c (Some x) (child_at b (sorted_entries (zip bs vs)))) t.0))
      (eqb_tells k b) ∙ sym (child_at-with_entry k x (sorted_entries (zip bs vs)) b))

  -- another child in a slot
  module _ (k p : ℕ) (named : get_or at k None ≡ Some p) (w : X) where
    written_dense : IsDense width at bs (set vs p w)
    written_dense = record {
      whole = d.whole;
      full = d.full;
      narrow = d.narrow;
      few = omega (arith, length-set vs p w, d.few);
      has_child = λ j q e. omega (arith, length-set vs p w, d.has_child j q e);
      has_byte = d.has_byte;
      is_named = λ q l. d.is_named q (omega (arith, l, length-set vs p w));
    }

    pub written_map : sorted_entries (zip bs (set vs p w)) ≡ replaced_at k w (sorted_entries (zip bs vs))
    written_map =
        let old = filled_read vs p (d.has_child k p named) in
        same_lookups _ _ (dense_ascends written_dense) (replaced-ascends k w _ (dense_ascends d)) (λ b. ⊎_elim
        (λ t. dense_some written_dense b p (ap (λ m. get_or at m None) (sym t.1) ∙ named)
        ∙ filled_set vs p w (d.has_child k p named)
        ∙ sym (ap (λ c. cond c (Some w) (child_at b (sorted_entries (zip bs vs)))) t.0))
        (λ t. by_index _ (get_or at b None) refl
        (λ q e. dense_some written_dense b q e ∙ filled_set_other vs p q w
        (λ s. t.1 (sym (d.has_byte k p named) ∙ ap (λ m. get_or bs m 0) (sym s) ∙ d.has_byte b q e))
        ∙ sym (dense_some d b q e))
        (λ e. dense_none written_dense b e ∙ sym (dense_none d b e))
        ∙ sym (ap (λ c. cond c (Some w) (child_at b (sorted_entries (zip bs vs)))) t.0))
        (eqb_tells k b) ∙ sym (child_at-replaced k w old.0 (sorted_entries (zip bs vs))
        (dense_some d k p named ∙ old.1) b))
