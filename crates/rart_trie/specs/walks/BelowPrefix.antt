-- What a walk over views below a prefix gives, and how many nodes it may visit.
use Rattle.std.specs.Prelude.{ℕ, ◌≡◌, ◌≢◌, ◌+◌, ◌*◌, List, Option, Some, None, length}
use Rattle.rart_parts.specs.declared.error.TreeError.{TreeError}
use Rattle.rart_parts.specs.declared.error.TreeError.TheVariants.{Memory}
use Rattle.rart_keys.specs.Filters.{below, longest_match}
use Rattle.rart_keys.specs.SortedMap.{keys_of, values_of}
use Rattle.rart_trie.specs.walks.Cut.{cut, cut_pairs}
use Rattle.rart_trie.specs.walks.ProbeCount.{probe_count}
use Rattle.rart_trie.specs.walks.Walk.{SegmentList}

-- the values of the pairs below a prefix
abbrev pub values_below : {V : Type 0} → List ℕ → List (List ℕ × V) → List V
values_below p es = values_of (below p es)

-- the pairs below a prefix, with their keys cut
abbrev pub cut_below : {V : Type 0} → List ℕ → List (List ℕ × V) → List (SegmentList × V)
cut_below p es = cut_pairs (keys_of es) (below p es)

-- the path to the prefix, and two nodes for each pair
abbrev pub below_visits : {V : Type 0} → List ℕ → List (List ℕ × V) → ℕ
below_visits p es = probe_count (keys_of es) p + 2 * length (below p es)

-- at least as many: with the bytes of the prefix in place of the branch points on its path
abbrev pub below_bound : {V : Type 0} → List ℕ → List (List ℕ × V) → ℕ
below_bound p es = length p + 1 + 2 * length (below p es)

-- the path to a key that is found, once more, and its segments
abbrev pub found_visits : {V : Type 0} → List (List ℕ) → Option (List ℕ × V) → ℕ
found_visits s None = 0
found_visits s (Some e) = probe_count s e.0 + length (cut s e.0)

-- the path along a probe, and that to the longest key that begins it
abbrev pub match_visits : {V : Type 0} → List ℕ → List (List ℕ × V) → ℕ
match_visits p es = probe_count (keys_of es) p + found_visits (keys_of es) (longest_match p es)

-- memory was refused, and some key begins the probe
abbrev pub MayLackMatch : {V : Type 0} → List ℕ → List (List ℕ × V) → TreeError → Type 0
MayLackMatch p es e = (e ≡ Memory) × (longest_match p es ≢ None)
