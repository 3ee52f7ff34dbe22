-- The pairs before an upper bound, and the walk from it down to a lower one.
use Rattle.std.specs.Prelude.{ℕ, ◌≡◌, Bool, true, false, List, [], ◌∷◌, Option, None, MatchOption, if◌then◌else◌}
use Rattle.std.specs.Borrow.{Bor}
use Rattle.std.specs.List.{filter}
use Rattle.std.specs.declared.ops.Bound.{Bound}
use Rattle.rart_keys.specs.Ranges.{is_from, is_to, is_until}
use Rattle.rart_trie.specs.walks.Walk.{SegmentList, joined_bytes}

-- the entries whose key comes before s, and the one at s if h
abbrev pub entries_until : {V : Type 0} → Bool → List ℕ → List (SegmentList × V) → List (SegmentList × V)
entries_until h s es = filter (λ e. is_until h s (joined_bytes e.0)) es

-- `entries_until` for pairs
abbrev pub pairs_until : {V : Type 0} → Bool → List ℕ → List (List ℕ × V) → List (List ℕ × V)
pairs_until h s es = filter (λ e. is_until h s e.0) es

-- the pairs within an upper bound
abbrev pub to_bound : {V : Type 0} → Bound (List ℕ) → List (List ℕ × V) → List (List ℕ × V)
to_bound b es = filter (λ e. is_to b e.0) es

-- a value, if h
abbrev pub if_included : {V : Type 0} → Bool → Option V → Option V
if_included true v = v
if_included false v = None

-- of descending pairs, those before the first one below a lower bound
abbrev pub down_to : {V : Type 0} → Bound (List ℕ) → List (List ℕ × V) → List (List ℕ × V)
down_to a [] = []
down_to a (e ∷ es) = if is_from a e.0 then e ∷ down_to a es else []

-- the first pair within the lower bound was given, as a key of these bytes; or there is none, and none remains
abbrev pub TakesDownTo : {K V : Type 0} → (K → List ℕ) → Bound (List ℕ) × List (List ℕ × V) → Option (K × Bor V)
    → Bound (List ℕ) × List (List ℕ × V) → Type 0
TakesDownTo bytes old given new = MatchOption given ((down_to old.0 old.1 ≡ []) × (new.1 ≡ []))
    (λ p. down_to old.0 old.1 ≡ (bytes p.0, p.1.now) ∷ down_to new.0 new.1)
