-- A child is removed from slots without gaps: the last child moves into its slot.
use Rattle.std.proofs.Common.{◌≡◌, ◌≢◌, ℕ, ◌<◌, ◌+◌, cond, List, [], ◌∷◌, ◌++◌, Option, Some, None, length, get_or}
use Rattle.std.proofs.Common.{set, sym, ap, ◌∙◌, refl, arith, ⊎_elim}
use Rattle.std.specs.List.{zip}
use Rattle.std.proofs.lemmas.Bool.Decides.{eqb_tells}
use Rattle.std.proofs.lemmas.List.{length-set, length-append, get_or-set_same, get_or-set_other}
use Rattle.rart_parts.specs.Entries.{child_at, without_byte, sorted_entries}
use Rattle.rart_parts.proofs.entries.EntryLemmas.{same_lookups, child_at-without_byte, without_byte-ascends}
use Rattle.rart_maps.proofs.IndexLemmas.{by_index}
use Rattle.rart_maps.specs.Dense.{IsDense, filled}
use Rattle.rart_maps.proofs.DenseLemmas.{filled_front, filled_last, filled_set, filled_set_other, filled_at}
use Rattle.rart_maps.proofs.DenseLemmas.{dense_ascends, dense_none, dense_some, byte_within}

none_some : {X : Type 0} {x : X} → None ≡ Some x → ⊥
none_some h = cc

some_same : {X : Type 0} {x y : X} → Some x ≡ Some y → x ≡ y
some_same h = cc

module _ {X : Type 0} {width : ℕ} {at : List (Option ℕ)} {bs : List ℕ} {vs : List X} (d : IsDense width at bs vs)
    (rest : List X) (last : X) (split : vs ≡ rest ++ last ∷ []) (k p n : ℕ) (named : get_or at k None ≡ Some p)
    (count : n ≡ length rest) where
  all : length vs ≡ n + 1
  all = ap length split ∙ length-append rest (last ∷ []) ∙ omega (arith, count)

  within : k < length at
  within = byte_within d k p named

  kept_child : (q : ℕ) → q < n → get_or (filled rest) q None ≡ get_or (filled vs) q None
  kept_child q l = sym (ap (λ us. get_or (filled us) q None) split
      ∙ filled_front rest (last ∷ []) q (omega (arith, l, count)))

  last_child : get_or (filled vs) n None ≡ Some last
  last_child = ap (λ us. get_or (filled us) n None) split ∙ ap (λ m. get_or (filled (rest ++ last ∷ [])) m None) count
      ∙ filled_last rest last

  -- a byte has one slot, and a slot one byte
  one_slot : (j q : ℕ) → get_or at j None ≡ Some q → q ≡ p → k ≡ j
  one_slot j q e s = sym (d.has_byte k p named) ∙ ap (λ m. get_or bs m 0) (sym s) ∙ d.has_byte j q e

  erased_same : get_or (set at k None) k None ≡ None
  erased_same = get_or-set_same at k None None within

  erased_other : (j : ℕ) → k ≢ j → get_or (set at k None) j None ≡ get_or at j None
  erased_other j o = get_or-set_other at k j None None (λ e. o (sym e))

  -- it was in the last slot
  module _ (same : p ≡ n) where
    below_last : (j q : ℕ) → k ≢ j → get_or at j None ≡ Some q → q < n
    below_last j q o e = omega (arith, d.has_child j q e, all, λ (s : q ≡ n). o (one_slot j q e (s ∙ sym same)))

    pub last_dense : IsDense width (set at k None) bs rest
    last_dense = record {
      whole = length-set at k None ∙ d.whole;
      full = d.full;
      narrow = d.narrow;
      few = omega (arith, d.few, all, count);
      has_child = λ j q e. ⊎_elim
          (λ t. absurd (none_some (sym erased_same ∙ ap (λ m. get_or (set at k None) m None) t.1 ∙ e)))
          (λ t. omega (arith, below_last j q t.1 (sym (erased_other j t.1) ∙ e), count))
          (eqb_tells k j);
      has_byte = λ j q e. ⊎_elim
          (λ t. absurd (none_some (sym erased_same ∙ ap (λ m. get_or (set at k None) m None) t.1 ∙ e)))
          (λ t. d.has_byte j q (sym (erased_other j t.1) ∙ e))
          (eqb_tells k j);
      is_named = λ q l.
          let here = d.is_named q (omega (arith, l, all, count)) in
          erased_other (get_or bs q 0) (λ e. let s : p ≡ q = some_same
          (sym named ∙ ap (λ m. get_or at m None) e ∙ here) in
          omega (arith, s, same, l, count)) ∙ here;
    }

    pub last_map : sorted_entries (zip bs rest) ≡ without_byte k (sorted_entries (zip bs vs))
    last_map = same_lookups _ _ (dense_ascends last_dense) (without_byte-ascends k _ (dense_ascends d)) (λ b. ⊎_elim
        (λ t. dense_none last_dense b (ap (λ m. get_or (set at k None) m None) (sym t.1) ∙ erased_same)
        ∙ sym (ap (λ c. cond c None (child_at b (sorted_entries (zip bs vs)))) t.0))
        (λ t. by_index _ (get_or at b None) refl
        (λ q e. dense_some last_dense b q (erased_other b t.1 ∙ e) ∙ kept_child q (below_last b q t.1 e)
        ∙ sym (dense_some d b q e))
        (λ e. dense_none last_dense b (erased_other b t.1 ∙ e) ∙ sym (dense_none d b e))
        ∙ sym (ap (λ c. cond c None (child_at b (sorted_entries (zip bs vs)))) t.0))
        (eqb_tells k b) ∙ sym (child_at-without_byte k (sorted_entries (zip bs vs)) (dense_ascends d) b))

    pub last_taken : child_at k (sorted_entries (zip bs vs)) ≡ Some last
    last_taken = dense_some d k p named ∙ ap (λ m. get_or (filled vs) m None) same ∙ last_child

  -- it was in another
  module _ (other : p ≢ n) where
    abbrev bl : ℕ
    bl = get_or bs n 0

    abbrev at' : List (Option ℕ)
    at' = set (set at k None) bl (Some p)

    pub lower : p < n
    lower = omega (arith, d.has_child k p named, all, other)

    named_last : get_or at bl None ≡ Some n
    named_last = d.is_named n (omega (arith, all))

    apart : k ≢ bl
    apart e = other (some_same (sym named ∙ ap (λ m. get_or at m None) e ∙ named_last))

    read_last : get_or at' bl None ≡ Some p
    read_last = get_or-set_same (set at k None) bl (Some p) None
        (omega (arith, length-set at k None, byte_within d bl n named_last))

    read_other : (j : ℕ) → bl ≢ j → get_or at' j None ≡ get_or (set at k None) j None
    read_other j o = get_or-set_other (set at k None) bl j (Some p) None (λ e. o (sym e))

    read_gone : get_or at' k None ≡ None
    read_gone = read_other k (λ e. apart (sym e)) ∙ erased_same

    read_kept : (j : ℕ) → bl ≢ j → k ≢ j → get_or at' j None ≡ get_or at j None
    read_kept j o o' = read_other j o ∙ erased_other j o'

    -- what the new index has at a byte
    module _ (P : Type 0) (j q : ℕ) (e : get_or at' j None ≡ Some q) (moved : bl ≡ j → q ≡ p → P)
        (kept : get_or at j None ≡ Some q → q < n → q ≢ p → P) where
      named_now : P
      named_now = ⊎_elim
          (λ t. moved t.1 (some_same (sym e ∙ ap (λ m. get_or at' m None) (sym t.1) ∙ read_last)))
          (λ t. ⊎_elim
          (λ u. absurd (none_some (sym read_gone ∙ ap (λ m. get_or at' m None) u.1 ∙ e)))
          (λ u. let old = sym (read_kept j t.1 u.1) ∙ e in
          kept old (omega (
            arith,
            d.has_child j q old,
            all,
            λ (s : q ≡ n). t.1 (ap (λ m. get_or bs m 0) (sym s) ∙ d.has_byte j q old),
          ))
          (λ s. u.1 (one_slot j q old s)))
          (eqb_tells k j))
          (eqb_tells bl j)

    pub moved_dense : IsDense width at' (set bs p bl) (set rest p last)
    moved_dense = record {
      whole = length-set (set at k None) bl (Some p) ∙ length-set at k None ∙ d.whole;
      full = length-set bs p bl ∙ d.full;
      narrow = d.narrow;
      few = omega (arith, d.few, all, count, length-set rest p last);
      has_child = λ j q e. named_now (q < length (set rest p last)) j q e
          (λ _ s. omega (arith, s, lower, count, length-set rest p last))
          (λ _ l _. omega (arith, l, count, length-set rest p last));
      has_byte = λ j q e. named_now (get_or (set bs p bl) q 0 ≡ j) j q e
          (λ b s. ap (λ m. get_or (set bs p bl) m 0) s
          ∙ get_or-set_same bs p bl 0 (omega (arith, lower, all, d.few, d.full)) ∙ b)
          (λ old _ o. get_or-set_other bs p q bl 0 o ∙ d.has_byte j q old);
      is_named = λ q l. ⊎_elim
          (λ t. ap (λ m. get_or at' (get_or (set bs p bl) m 0) None) t.1
          ∙ ap (λ m. get_or at' m None) (get_or-set_same bs p bl 0 (omega (arith, lower, all, d.few, d.full)))
          ∙ read_last ∙ ap Some (sym t.1))
          (λ t.
          let below : q < n = omega (arith, l, count, length-set rest p last) in
          let here = d.is_named q (omega (arith, below, all)) in
          ap (λ m. get_or at' m None) (get_or-set_other bs p q bl 0 t.1)
          ∙ read_kept (get_or bs q 0)
          (λ e. let s : n ≡ q = some_same (sym named_last ∙ ap (λ m. get_or at m None) e ∙ here) in omega
          (arith, s, below))
          (λ e. t.1 (sym (some_same (sym named ∙ ap (λ m. get_or at m None) e ∙ here)))) ∙ here)
          (eqb_tells q p);
    }

    pub moved_map : sorted_entries (zip (set bs p bl) (set rest p last)) ≡ without_byte k (sorted_entries (zip bs vs))
    moved_map = same_lookups _ _ (dense_ascends moved_dense) (without_byte-ascends k _ (dense_ascends d)) (λ b. ⊎_elim
        (λ t. dense_none moved_dense b (ap (λ m. get_or at' m None) (sym t.1) ∙ read_gone)
        ∙ sym (ap (λ c. cond c None (child_at b (sorted_entries (zip bs vs)))) t.0))
        (λ t. ⊎_elim
        (λ u. dense_some moved_dense b p (ap (λ m. get_or at' m None) (sym u.1) ∙ read_last)
        ∙ filled_set rest p last (omega (arith, lower, count)) ∙ sym last_child
        ∙ sym (dense_some d b n (ap (λ m. get_or at m None) (sym u.1) ∙ named_last)))
        (λ u. by_index _ (get_or at b None) refl
        (λ q e.
        let now = read_kept b u.1 t.1 ∙ e in
        dense_some moved_dense b q now
        ∙ filled_set_other rest p q last (λ s. t.1 (one_slot b q e s))
        ∙ kept_child q (omega (
          arith,
          d.has_child b q e,
          all,
          λ (s : q ≡ n). u.1 (ap (λ m. get_or bs m 0) (sym s) ∙ d.has_byte b q e),
        ))
        ∙ sym (dense_some d b q e))
        (λ e. dense_none moved_dense b (read_kept b u.1 t.1 ∙ e) ∙ sym (dense_none d b e)))
        (eqb_tells bl b)
        ∙ sym (ap (λ c. cond c None (child_at b (sorted_entries (zip bs vs)))) t.0))
        (eqb_tells k b) ∙ sym (child_at-without_byte k (sorted_entries (zip bs vs)) (dense_ascends d) b))

    pub moved_taken : (x : X) → x ≡ get_or rest p x → child_at k (sorted_entries (zip bs vs)) ≡ Some x
    moved_taken x is = dense_some d k p named ∙ sym (kept_child p lower)
        ∙ filled_at rest p x (omega (arith, lower, count)) is
