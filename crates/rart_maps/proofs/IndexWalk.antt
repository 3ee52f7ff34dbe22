-- The walk over an indexed mapping, in the order of its index.
use Rattle.std.proofs.Common.{◌≡◌, ℕ, zero, suc, ◌<◌, ◌≤◌, ◌+◌, cond, ⊎_elim, List, [], ◌∷◌, Option, Some, None, get_or}
use Rattle.std.proofs.Common.{sym, ap, ◌∙◌, refl, arith}
use Rattle.std.proofs.lemmas.Bool.{lt-ltb, le-ltb, cases_lt}
use Rattle.rart_parts.specs.Entries.{child_at, entries_above, sorted_entries, StartsAbove, BytesAscend}
use Rattle.rart_maps.specs.Indexed.{with_bytes, by_slots, IsIndex}
use Rattle.rart_parts.specs.Places.{numbered_values}
use Rattle.rart_parts.proofs.entries.EntryLemmas.{at_same, at_other, same_lookups}
use Rattle.rart_maps.proofs.IndexLemmas.{indexed_none, indexed_some, map_of_ascends, by_index}

none_some : {X : Type 0} {x : X} → None ≡ Some x → ⊥
none_some h = cc

some_same : {X : Type 0} {x y : X} → Some x ≡ Some y → x ≡ y
some_same h = cc

-- the children in the order of the index, whose first entry is that of byte n
abbrev by_bytes : {X : Type 0} → ℕ → List (Option ℕ) → List (Option X) → List (ℕ × X)
by_bytes n at os = by_slots (numbered_values n at) os

-- the children in slots, from the bytes above k on
module _ {X : Type 0} (k : ℕ) (os : List (Option X)) where
  -- an entry whose slot has o, before the entries es
  abbrev in_slot : ℕ → Option X → List (ℕ × X) → List (ℕ × X)
  in_slot b None es = es
  in_slot b (Some x) es = (b, x) ∷ es

  slot_above : (b : ℕ) (o : Option X) (es : List (ℕ × X)) → k < b
      → in_slot b o (entries_above k es) ≡ entries_above k (in_slot b o es)
  slot_above b None es l = refl
  slot_above b (Some x) es l = rw (lt-ltb k b l) refl

  slot_passed : (b : ℕ) (o : Option X) (es : List (ℕ × X)) → b ≤ k
      → entries_above k es ≡ entries_above k (in_slot b o es)
  slot_passed b None es l = refl
  slot_passed b (Some x) es l = rw (le-ltb k b l) refl

  in_slot_is : (e : ℕ × ℕ) (es : List (ℕ × ℕ))
      → by_slots (e ∷ es) os ≡ in_slot e.0 (get_or os e.1 None) (by_slots es os)
  in_slot_is e es = elim (get_or os e.1 None)
      as (λ o. (elim o [ None ↦ by_slots es os | Some x ↦ (e.0, x) ∷ by_slots es os ]) ≡ in_slot e.0 o (by_slots es os))
      [ None ↦ refl | Some x ↦ refl ]

  pub slots_above : (es : List (ℕ × ℕ)) → by_slots (entries_above k es) os ≡ entries_above k (by_slots es os)
  slots_above [] = refl
  slots_above (e ∷ es) = ⊎_elim
      (λ l. ap (λ b. by_slots (cond b (e ∷ entries_above k es) (entries_above k es)) os) (lt-ltb k e.0 l)
      ∙ in_slot_is e (entries_above k es) ∙ ap (in_slot e.0 (get_or os e.1 None)) (slots_above es)
      ∙ slot_above e.0 (get_or os e.1 None) (by_slots es os) l ∙ ap (entries_above k) (sym (in_slot_is e es)))
      (λ l. ap (λ b. by_slots (cond b (e ∷ entries_above k es) (entries_above k es)) os) (le-ltb k e.0 l)
      ∙ slots_above es ∙ slot_passed e.0 (get_or os e.1 None) (by_slots es os) l
      ∙ ap (entries_above k) (sym (in_slot_is e es)))
      (cases_lt k e.0)

module _ {X : Type 0} (os : List (Option X)) where
  walk_below : (n k : ℕ) (at : List (Option ℕ)) → k < n → child_at k (by_bytes n at os) ≡ None
  walk_below n k [] h = refl
  walk_below n k (None ∷ at) h = walk_below (suc n) k at (omega arith)
  walk_below n k (Some p ∷ at) h =
      let rest : child_at k (by_bytes (suc n) at os) ≡ None = walk_below (suc n) k at (omega arith) in
      elim (get_or os p None) as (λ o. child_at k
      (elim o [ None ↦ by_bytes (suc n) at os | Some x ↦ (n, x) ∷ by_bytes (suc n) at os ]) ≡ None) [
        | None ↦ rest
        | Some x ↦ at_other k (n, x) (by_bytes (suc n) at os) (λ e. omega (arith, e, h)) ∙ rest
      ]

  walk_none : (n k i : ℕ) (at : List (Option ℕ)) → k ≡ n + i → get_or at i None ≡ None
      → child_at k (by_bytes n at os) ≡ None
  walk_none n k i [] e f = refl
  walk_none n k zero (None ∷ at) e f = walk_below (suc n) k at (omega arith)
  walk_none n k zero (Some p ∷ at) e f = absurd (none_some (sym f))
  walk_none n k (suc i) (None ∷ at) e f = walk_none (suc n) k i at (omega arith) f
  walk_none n k (suc i) (Some p ∷ at) e f =
      let rest : child_at k (by_bytes (suc n) at os) ≡ None = walk_none (suc n) k i at (omega arith) f in
      elim (get_or os p None) as (λ o. child_at k
      (elim o [ None ↦ by_bytes (suc n) at os | Some x ↦ (n, x) ∷ by_bytes (suc n) at os ]) ≡ None) [
        | None ↦ rest
        | Some x ↦ at_other k (n, x) (by_bytes (suc n) at os) (λ g. omega (arith, e, g)) ∙ rest
      ]

  walk_some : (n k i p : ℕ) (at : List (Option ℕ)) → k ≡ n + i → get_or at i None ≡ Some p
      → child_at k (by_bytes n at os) ≡ get_or os p None
  walk_some n k i p [] e f = absurd (none_some f)
  walk_some n k zero p (None ∷ at) e f = absurd (none_some f)
  walk_some n k zero p (Some q ∷ at) e f =
      let rest : child_at k (by_bytes (suc n) at os) ≡ None = walk_below (suc n) k at (omega arith) in
      elim (get_or os q None) as (λ o. child_at k
      (elim o [ None ↦ by_bytes (suc n) at os | Some x ↦ (n, x) ∷ by_bytes (suc n) at os ]) ≡ o) [
        | None ↦ rest
        | Some x ↦ at_same k (n, x) (by_bytes (suc n) at os) (omega arith)
      ] ∙ ap (λ m. get_or os m None) (some_same f)
  walk_some n k (suc i) p (None ∷ at) e f = walk_some (suc n) k i p at (omega arith) f
  walk_some n k (suc i) p (Some q ∷ at) e f =
      let rest : child_at k (by_bytes (suc n) at os) ≡ get_or os p None = walk_some (suc n) k i p at (omega arith) f in
      elim (get_or os q None) as (λ o. child_at k
      (elim o [ None ↦ by_bytes (suc n) at os | Some x ↦ (n, x) ∷ by_bytes (suc n) at os ]) ≡ get_or os p None) [
        | None ↦ rest
        | Some x ↦ at_other k (n, x) (by_bytes (suc n) at os) (λ g. omega (arith, e, g)) ∙ rest
      ]

  walk_starts : (b n : ℕ) (at : List (Option ℕ)) → b < n → StartsAbove b (by_bytes n at os)
  walk_starts b n [] h = tt
  walk_starts b n (None ∷ at) h = walk_starts b (suc n) at (omega arith)
  walk_starts b n (Some p ∷ at) h =
      let rest : StartsAbove b (by_bytes (suc n) at os) = walk_starts b (suc n) at (omega arith) in
      elim (get_or os p None) as (λ o. StartsAbove b
      (elim o [ None ↦ by_bytes (suc n) at os | Some x ↦ (n, x) ∷ by_bytes (suc n) at os ])) [
        | None ↦ rest
        | Some x ↦ h
      ]

  walk-ascends : (n : ℕ) (at : List (Option ℕ)) → BytesAscend (by_bytes n at os)
  walk-ascends n [] = tt
  walk-ascends n (None ∷ at) = walk-ascends (suc n) at
  walk-ascends n (Some p ∷ at) =
      let rest : BytesAscend (by_bytes (suc n) at os) = walk-ascends (suc n) at in
      let starts : StartsAbove n (by_bytes (suc n) at os) = walk_starts n (suc n) at (omega arith) in
      elim (get_or os p None) as (λ o. BytesAscend
      (elim o [ None ↦ by_bytes (suc n) at os | Some x ↦ (n, x) ∷ by_bytes (suc n) at os ])) [
        | None ↦ rest
        | Some x ↦ (starts, rest)
      ]

  pub walk_is : (at : List (Option ℕ)) → IsIndex at os → by_bytes 0 at os ≡ sorted_entries (with_bytes at 0 os)
  walk_is at i = same_lookups _ _ (walk-ascends 0 at) (map_of_ascends i) (λ b.
      let here : b ≡ 0 + b = omega arith in
      by_index _ (get_or at b None) refl
      (λ p e. walk_some 0 b b p at here e ∙ sym (indexed_some i b p e))
      (λ e. walk_none 0 b b at here e ∙ sym (indexed_none i b e)))
