-- Children in slots, and an index from bytes to slots.
use Rattle.std.specs.Prelude.{◌≡◌, ℕ, suc, Bool, true, false, ◌==◌, List, [], ◌∷◌, length, Option, Some, None}
use Rattle.std.specs.Prelude.{slice_index_or, if◌then◌else◌}
use Rattle.rart_parts.specs.Places.{is_used}

-- whether an entry of the index is slot p
abbrev pub names : Option ℕ → ℕ → Bool
names None p = false
names (Some q) p = q == p

-- the first byte that the index sends to slot p
abbrev pub byte_of : List (Option ℕ) → ℕ → ℕ
byte_of [] p = 0
byte_of (o ∷ os) p = if names o p then 0 else suc (byte_of os p)

-- the children with their bytes, in the order of their slots, the first slot being slot p
abbrev pub with_bytes : {X : Type 0} → List (Option ℕ) → ℕ → List (Option X) → List (ℕ × X)
with_bytes at p [] = []
with_bytes at p (None ∷ os) = with_bytes at (suc p) os
with_bytes at p (Some x ∷ os) = (byte_of at p, x) ∷ with_bytes at (suc p) os

-- the children in slots, by the bytes that the slots are given for
abbrev pub by_slots : {X : Type 0} → List (ℕ × ℕ) → List (Option X) → List (ℕ × X)
by_slots [] os = []
by_slots (e ∷ es) os = elim (slice_index_or os e.1 None) [ None ↦ by_slots es os | Some x ↦ (e.0, x) ∷ by_slots es os ]

-- each slot that the index names has a child and one byte alone, and each child's slot is named
pub record IsIndex {X : Type 0} (at : List (Option ℕ)) (os : List (Option X)) : Type 0 where
  pub whole : length at ≡ 256
  pub one_byte : (k p : ℕ) → slice_index_or at k None ≡ Some p → byte_of at p ≡ k
  pub has_child : (k p : ℕ) → slice_index_or at k None ≡ Some p → is_used os p ≡ true
  pub is_named : (p : ℕ) → is_used os p ≡ true → slice_index_or at (byte_of at p) None ≡ Some p
