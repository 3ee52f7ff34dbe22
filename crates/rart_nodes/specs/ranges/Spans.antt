-- What walks and counts between two bounds give, and how many nodes they may visit.
use Rattle.std.specs.Prelude.{ℕ, ◌+◌, ◌*◌, List, length}
use Rattle.std.specs.declared.ops.Bound.{Bound}
use Rattle.rart_keys.specs.Ranges.{between, bound_bytes}
use Rattle.rart_keys.specs.SortedMap.{keys_of}
use Rattle.rart_trie.specs.stats.Stats.{height}
use Rattle.rart_trie.specs.walks.Cut.{cut_pairs}
use Rattle.rart_trie.specs.walks.ProbeCount.{probe_count}
use Rattle.rart_trie.specs.walks.Walk.{SegmentList}

-- the pairs between two bounds, with their keys cut
abbrev pub cut_between : {V : Type 0} → Bound (List ℕ) → Bound (List ℕ) → List (List ℕ × V) → List (SegmentList × V)
cut_between a b es = cut_pairs (keys_of es) (between a b es)

-- the path to the start, two nodes for each pair, and the tree's height
abbrev pub span_visits : {V : Type 0} → Bound (List ℕ) → Bound (List ℕ) → List (List ℕ × V) → ℕ
span_visits a b es = probe_count (keys_of es) (bound_bytes a) + 2 * length (between a b es) + height (keys_of es)

-- at least as many: with the start's bytes in place of the branch points on its path
abbrev pub span_bound : {V : Type 0} → Bound (List ℕ) → Bound (List ℕ) → List (List ℕ × V) → ℕ
span_bound a b es = length (bound_bytes a) + 1 + 2 * length (between a b es) + height (keys_of es)

-- the path to a prefix, two nodes for each of n calls, and the tree's height
abbrev pub call_visits : {V : Type 0} → List ℕ → ℕ → List (List ℕ × V) → ℕ
call_visits p n es = probe_count (keys_of es) p + 2 * n + height (keys_of es)

-- what a count of the pairs between two bounds visits: the paths to both, and two nodes for each pair
abbrev pub count_visits : {V : Type 0} → Bound (List ℕ) → Bound (List ℕ) → List (List ℕ × V) → ℕ
count_visits a b es = probe_count (keys_of es) (bound_bytes a) + probe_count (keys_of es) (bound_bytes b)
    + 2 * length (between a b es)

-- at least as many: with the bytes of both in place of the branch points on their paths
abbrev pub count_bound : {V : Type 0} → Bound (List ℕ) → Bound (List ℕ) → List (List ℕ × V) → ℕ
count_bound a b es = length (bound_bytes a) + length (bound_bytes b) + 2 + 2 * length (between a b es)
