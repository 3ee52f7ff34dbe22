-- What a walk has ahead of it from a start on.
use Rattle.std.specs.Prelude.{ℕ, ◌+◌, Bool, nat_lt, List, [], ◌≡◌, ◌∷◌, length, Option, Some, None, MatchOption}
use Rattle.std.specs.Prelude.{if◌then◌else◌}
use Rattle.std.specs.Borrow.{Bor}
use Rattle.std.specs.List.{filter}
use Rattle.std.specs.declared.ops.Bound.{Bound}
use Rattle.rart_keys.specs.Ranges.{is_from_bound, is_to, up_to}
use Rattle.rart_parts.specs.Entries.{entries_above}
use Rattle.rart_trie.specs.tries.Trie.{Children, no_children, child}
use Rattle.rart_trie.specs.walks.Walk.{SegmentList, joined_bytes}

-- the children whose byte is above b
abbrev pub children_above : {V : Type 0} → ℕ → Children V → Children V
children_above b no_children = no_children
children_above b (child c t cs) = if nat_lt b c then child c t (children_above b cs) else children_above b cs

-- the entries of a map from bytes whose byte is above a bound, all if there is none
abbrev pub entries_after : {X : Type 0} → Option ℕ → List (ℕ × X) → List (ℕ × X)
entries_after None es = es
entries_after (Some b) es = entries_above b es

-- the entries whose key comes after s, and where h says so the one at s
abbrev pub entries_from : {V : Type 0} → Bool → List ℕ → List (SegmentList × V) → List (SegmentList × V)
entries_from h s es = filter (λ e. is_from_bound h s (joined_bytes e.0)) es

-- the entries before the first one past an end
abbrev pub entries_to : {V : Type 0} → Bound (List ℕ) → List (SegmentList × V) → List (SegmentList × V)
entries_to b [] = []
entries_to b (e ∷ es) = if is_to b (joined_bytes e.0) then e ∷ entries_to b es else []

-- one more than the bytes of the first key, or nothing where no pair is left
abbrev pub bytes_taken : {V : Type 0} → List (List ℕ × V) → ℕ
bytes_taken [] = 0
bytes_taken (e ∷ es) = length e.0 + 1

-- the first pair within the end was given, as a key of these bytes; or there is none, and nothing is left
abbrev pub TakesUpTo : {K V : Type 0} → (K → List ℕ) → Bound (List ℕ) × List (List ℕ × V) → Option (K × Bor V)
    → Bound (List ℕ) × List (List ℕ × V) → Type 0
TakesUpTo bytes old given new = MatchOption given ((up_to old.0 old.1 ≡ []) × (new.1 ≡ []))
    (λ p. up_to old.0 old.1 ≡ (bytes p.0, p.1.now) ∷ up_to new.0 new.1)
