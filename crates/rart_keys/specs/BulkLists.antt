-- Lists of pairs that a bulk load reads: where they first fail to ascend, and what stays of equal keys.
use Rattle.std.specs.Prelude.{◌≡◌, ℕ, ◌-◌, ◌<◌, suc, List, [], ◌∷◌, length, slice_index_or, Option, Some, None}
use Rattle.std.specs.Prelude.{if◌then◌else◌}
use Rattle.std.specs.declared.cmp.Ordering.{Ordering}
use Rattle.std.specs.declared.cmp.Ordering.TheVariants.{Less}
use Rattle.std.specs.Ordering.{nat_cmp, match_ordering}
use Rattle.std.specs.Cmp.Lexicographic.{slice_cmp}
use Rattle.rart_keys.specs.ByteStrings.{bytes_eq, IsLess}
use Rattle.rart_keys.specs.SortedMap.{keys_of, put, values_of}

-- the key at a place is below the one before it
abbrev pub IsFaultAt : {V : Type 0} → List (List ℕ × V) → ℕ → Type 0
IsFaultAt es i = (0 < i) × (i < length es)
    × IsLess (slice_index_or (keys_of es) i []) (slice_index_or (keys_of es) (i - 1) [])

-- the first place, from `place` on, whose key is below the one before it, where k comes before the first
abbrev pub first_fault_after : {V : Type 0} → ℕ → List ℕ → List (List ℕ × V) → Option ℕ
first_fault_after place k [] = None
first_fault_after place k (e ∷ es) = match_ordering (slice_cmp nat_cmp e.0 k) (Some place)
    (first_fault_after (suc place) e.0 es) (first_fault_after (suc place) e.0 es)

-- the first place whose key is below the one before it
abbrev pub first_fault : {V : Type 0} → List (List ℕ × V) → Option ℕ
first_fault [] = None
first_fault (e ∷ es) = first_fault_after 1 e.0 es

-- the pairs, e in front of them, without those whose key comes again next
abbrev pub last_wins_from : {V : Type 0} → List ℕ × V → List (List ℕ × V) → List (List ℕ × V)
last_wins_from e [] = e ∷ []
last_wins_from e (f ∷ es) = if bytes_eq e.0 f.0 then last_wins_from f es else e ∷ last_wins_from f es

-- the pairs without those whose key comes again next: of equal keys the last stays
abbrev pub last_wins : {V : Type 0} → List (List ℕ × V) → List (List ℕ × V)
last_wins [] = []
last_wins (e ∷ es) = last_wins_from e es

-- how the last of some keys compares with k; below it, where there is none
abbrev pub order_of_last : List (List ℕ) → List ℕ → Ordering
order_of_last [] k = Less
order_of_last (l ∷ []) k = slice_cmp nat_cmp l k
order_of_last (l ∷ m ∷ ks) k = order_of_last (m ∷ ks) k

-- a list without fault was read, and these keys and values of it stay
pub record WasRead {V : Type 0} (es : List (List ℕ × V)) (ks : List (List ℕ)) (vs : List V) : Type 0 where
  pub faultless : first_fault es ≡ None
  pub keys : ks ≡ keys_of (last_wins es)
  pub values : vs ≡ values_of (last_wins es)

-- the pairs put into m, one after the other
abbrev pub put_all : {V : Type 0} → List (List ℕ × V) → List (List ℕ × V) → List (List ℕ × V)
put_all [] m = m
put_all (e ∷ es) m = put_all es (put e.0 e.1 m)
