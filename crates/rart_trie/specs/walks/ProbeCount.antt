-- How many nodes a look-up enters.
use Rattle.std.specs.Prelude.{ℕ, ◌≡◌, ◌≤◌, ◌+◌, ◌==◌, List, [], ◌∷◌, Option, Some, None, MatchOption, if◌then◌else◌}
use Rattle.std.specs.List.{list_any}
use Rattle.rart_trie.specs.shapes.Shape.{NodeRecord, record_at}
use Rattle.rart_trie.specs.tries.Trie.{Trie, Descent, descend, descend_tree}

-- 1 where there is a branch point after which keys continue by b
abbrev pub continues_by : Option NodeRecord → ℕ → ℕ
continues_by None b = 0
continues_by (Some r) b = if list_any (λ c. c == b) r.edges then 1 else 0

-- over the proper beginnings of a string, whose records f gives
abbrev pub steps_along : (List ℕ → Option NodeRecord) → List ℕ → ℕ
steps_along f [] = 0
steps_along f (b ∷ q) = continues_by (f []) b + steps_along (λ p. f (b ∷ p)) q

-- 1 for the root, and 1 for each branch point that properly begins q and continues by q's next byte
abbrev pub probe_count : List (List ℕ) → List ℕ → ℕ
probe_count [] q = 0
probe_count (k ∷ s) q = 1 + steps_along (record_at (k ∷ s)) q

-- the nodes that a descent enters
abbrev pub counts : {V : Type 0} → Descent V ℕ
counts = record { left = λ k t. 1; ended = λ t. 1; absent = 0; on = λ t n. 1 + n }

abbrev pub entered_nodes : {V : Type 0} → List ℕ → Trie V → ℕ
entered_nodes k t = descend counts k t

-- `entered_nodes` for a tree
abbrev pub tree_entered : {V : Type 0} → List ℕ → Option (Trie V) → ℕ
tree_entered k o = descend_tree counts k o

-- where a step gave x the count rose by `most x` at most, and else it stayed
abbrev pub VisitsAtMost : {A : Type 0} → (A → ℕ) → ℕ → Option A → ℕ → Type 0
VisitsAtMost most n r n' = MatchOption r (n' ≡ n) (λ x. n' ≤ n + most x)

-- where a step gave x the count rose by `visits x`, and else it stayed
abbrev pub VisitsExactly : {A : Type 0} → (A → ℕ) → ℕ → Option A → ℕ → Type 0
VisitsExactly visits n r n' = MatchOption r (n' ≡ n) (λ x. n' ≡ n + visits x)
