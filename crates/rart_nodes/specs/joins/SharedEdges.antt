-- The strings at which two trees branch and both continue, and the visits of an intersection.
use Rattle.std.specs.Prelude.{ℕ, ◌+◌, ◌||◌, ◌&&◌, Bool, false, List, [], ◌∷◌, ◌++◌, map, length, is_some}
use Rattle.std.specs.List.{filter}
use Rattle.rart_nodes.specs.joins.Intersections.{Pairing, pair_child, pair_down, pair_each, pair_in, pair_prefixes}
use Rattle.rart_nodes.specs.joins.Intersections.{pair_tries}
use Rattle.rart_trie.specs.shapes.BranchPoints.{begins_any}
use Rattle.rart_keys.specs.SortedMap.{keys_of, put}
use Rattle.rart_trie.specs.shapes.Shape.{record_at}
use Rattle.rart_trie.specs.tries.Trie.{Trie, Children}

-- f at x without its last byte; d where x is empty
abbrev pub above : Bool → (List ℕ → Bool) → List ℕ → Bool
above d f [] = d
above d f (b ∷ x) = above (f []) (λ p. f (b ∷ p)) x

abbrev pub is_branch : List (List ℕ) → List ℕ → Bool
is_branch s p = is_some (record_at s p)

-- x is p·b, p a branch point of s or of t, and it begins a member of each
abbrev pub is_shared : List (List ℕ) → List (List ℕ) → List ℕ → Bool
is_shared s t x = above false (λ p. is_branch s p || is_branch t p) x && (begins_any x s && begins_any x t)

-- the beginnings of a key that aren't empty
abbrev pub starts : List ℕ → List (List ℕ)
starts [] = []
starts (b ∷ k) = (b ∷ []) ∷ map (λ x. b ∷ x) (starts k)

abbrev pub all_starts : List (List ℕ) → List (List ℕ)
all_starts [] = []
all_starts (k ∷ s) = starts k ++ all_starts s

-- a list of strings as a set: ascending, each once
abbrev pub set_map : List (List ℕ) → List (List ℕ × Unit {0})
set_map [] = []
set_map (x ∷ xs) = put x tt (set_map xs)

-- strings as a map, to say that they ascend
abbrev pub as_map : List (List ℕ) → List (List ℕ × Unit {0})
as_map [] = []
as_map (x ∷ xs) = (x, tt) ∷ as_map xs

abbrev pub shared_edges : List (List ℕ) → List (List ℕ) → List (List ℕ)
shared_edges s t = keys_of (set_map (filter (λ x. is_shared s t x) (all_starts s)))

-- 1 for each child that is entered, alone where the other side continues with it, or with the other side's child
abbrev pub counts_visits : Pairing ℕ
counts_visits = record { apart = 0; shared = λ x n. n; also = λ m n. m + n; entered = λ b n. 1 + n }

abbrev pub more_visits : {V W : Type 0} → Trie V → Trie W → ℕ
more_visits t u = pair_tries counts_visits (λ v w n. n) t u

-- `more_visits`, step by step
abbrev pub count_prefixes : List ℕ → List ℕ → ℕ → (ℕ → List ℕ → ℕ) → (ℕ → List ℕ → ℕ) → ℕ
count_prefixes p q ended f g = pair_prefixes 0 (λ x n. n) p q ended f g

abbrev pub visits_each : {W : Type 0} → (ℕ → Trie W → ℕ) → Children W → ℕ
visits_each f ds = pair_each 0 (λ m n. m + n) f ds

abbrev pub visits_in : {W : Type 0} → List ℕ → (ℕ → Trie W → ℕ) → Trie W → ℕ
visits_in p f u = pair_in counts_visits p (λ w n. n) f u

abbrev pub visits_down : {W : Type 0} → ℕ → List ℕ → (ℕ → Trie W → ℕ) → Children W → ℕ
visits_down b l f ds = pair_down counts_visits b l (λ w n. n) f ds

abbrev pub visits_child : {V W : Type 0} → ℕ → Trie W → Children V → ℕ
visits_child b u cs = pair_child counts_visits (λ v w n. n) b u cs

-- 1 for the two roots
abbrev pub intersect_visits : {V W : Type 0} → Trie V → Trie W → ℕ
intersect_visits t u = 1 + more_visits t u

-- the visits of an intersection of two maps with these keys: none where one is empty, else 1 for the roots and 1 for
-- each shared_edges edge
abbrev pub joint_visits : List (List ℕ) → List (List ℕ) → ℕ
joint_visits [] t = 0
joint_visits (k ∷ s) [] = 0
joint_visits (k ∷ s) (l ∷ t) = 1 + length (shared_edges (k ∷ s) (l ∷ t))
