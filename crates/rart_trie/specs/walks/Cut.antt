-- A key, cut at the branch points that begin it.
use Rattle.std.specs.Prelude.{ℕ, List, [], ◌∷◌, ◌++◌, map, Option, is_some, if◌then◌else◌}
use Rattle.rart_trie.specs.shapes.Shape.{NodeRecord, record_at}
use Rattle.rart_trie.specs.walks.Walk.{SegmentList}

-- a segment in front, unless it is empty
abbrev pub with_segment : List ℕ → SegmentList → SegmentList
with_segment [] ps = ps
with_segment (b ∷ p) ps = (b ∷ p) ∷ ps

-- after the segment p so far, a string that is cut after each beginning of which f has a record
abbrev pub cut_by : (List ℕ → Option NodeRecord) → List ℕ → List ℕ → SegmentList
cut_by f p [] = with_segment p []
cut_by f p (b ∷ k) = if is_some (f []) then with_segment p (cut_by (λ z. f (b ∷ z)) (b ∷ []) k)
    else cut_by (λ z. f (b ∷ z)) (p ++ b ∷ []) k

-- k, cut at the lengths of the branch points of s that begin it, without empty segments
abbrev pub cut : List (List ℕ) → List ℕ → SegmentList
cut s k = cut_by (record_at s) [] k

-- pairs with their keys cut
abbrev pub cut_pairs : {V : Type 0} → List (List ℕ) → List (List ℕ × V) → List (SegmentList × V)
cut_pairs s es = map (λ e. (cut s e.0, e.1)) es
