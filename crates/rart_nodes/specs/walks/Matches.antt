-- The values that a descent along a string passes, with the bytes up to each.
use Rattle.std.specs.Prelude.{ℕ, ◌≡◌, ◌+◌, ◌<◌, ◌≤◌, List, [], ◌∷◌, ◌++◌, length, take, drop, Option, Some, None}
use Rattle.std.specs.Prelude.{MatchOption, option_map}
use Rattle.rart_keys.specs.declared.partials.Partial.{Ghosts}
use Rattle.rart_nodes.specs.declared.node.calls.matching.Matching.{Matching}
use Rattle.rart_nodes.specs.declared.node.seen.Shared.{Shared}
use Rattle.rart_trie.specs.tries.Trie.{Trie, Descent, descend_tree, node, own_pair, prefix_of, value_of, with_prefix}
use Rattle.rart_trie.specs.tries.TrieCode.{node_count}
use Rattle.rart_trie.specs.walks.ProbeCount.{tree_entered}
use Rattle.rart_trie.specs.walks.Walk.{tree_count}

-- of a node its own pair, in front of those below it
abbrev pub collects : {V : Type 0} → Descent V (List (List ℕ × V))
collects = record {
  left = λ k t. [];
  ended = λ t. with_prefix (prefix_of t) (own_pair (value_of t));
  absent = [];
  on = λ t es. with_prefix (prefix_of t) (own_pair (value_of t) ++ es);
}

abbrev pub tree_matches : {V : Type 0} → List ℕ → Option (Trie V) → List (List ℕ × V)
tree_matches k o = descend_tree collects k o

-- what a descent along q has still to pass, where it is before the tree o after the first d bytes
abbrev pub matches_ahead : {V : Type 0} → List ℕ → ℕ → Option (Trie V) → List (List ℕ × V)
matches_ahead q d o = with_prefix (take d q) (tree_matches (drop d q) o)

-- and the nodes that it has still to enter
abbrev pub entered_ahead : {V : Type 0} → List ℕ → ℕ → Option (Trie V) → ℕ
entered_ahead q d o = tree_entered (drop d q) o

-- the matches and the nodes that are ahead of a descent
abbrev pub matches_left : {P V C : Type 0} {G : Ghosts P} → List ℕ → Matching P V C G → List (List ℕ × V)
matches_left q m = matches_ahead q m.depth (option_map (λ s. s.node.now) m.below)

abbrev pub entered_left : {P V C : Type 0} {G : Ghosts P} → List ℕ → Matching P V C G → ℕ
entered_left q m = entered_ahead q m.depth (option_map (λ s. s.node.now) m.below)

-- by how many bytes at least a descent gets deeper at the node that it is before; 1 where there is none
abbrev pub least_bytes : {V : Type 0} → Option (Trie V) → ℕ
least_bytes None = 1
least_bytes (Some (node [] v n cs)) = 0
least_bytes (Some (node (b ∷ p) v n cs)) = 1

-- A descent along q was before the tree o after d bytes, with n visits, and is before o1 after d1, with n1. Of each
-- beginning of q that goes on there, it entered so far what a descent along that beginning enters.
pub record Descends {V : Type 0} (q : List ℕ) (d : ℕ) (o : Option (Trie V)) (n d1 : ℕ) (o1 : Option (Trie V)) (n1 : ℕ)
    : Type 0 where
  pub deeper : d + least_bytes o ≤ d1 + least_bytes o1
  pub onward : (m : ℕ) → least_bytes o1 ≤ m
      → n1 + entered_ahead (take (d1 + m) q) d1 o1 ≡ n + entered_ahead (take (d1 + m) q) d o

-- it has passed a node, which ends after d1 bytes
pub record DescendsPast {V : Type 0} (q : List ℕ) (d : ℕ) (o : Option (Trie V)) (n d1 : ℕ) (o1 : Option (Trie V))
    (n1 : ℕ) : Type 0 where
  pub deeper : d + least_bytes o ≤ d1
  pub nonempty : least_bytes o1 ≡ 1
  pub here : n1 ≡ n + entered_ahead (take d1 q) d o
  pub onward : (m : ℕ) → 0 < m
      → n1 + entered_ahead (take (d1 + m) q) d1 o1 ≡ n + entered_ahead (take (d1 + m) q) d o

-- the value at the key k, if there is one
abbrev pub pair_at : {V : Type 0} → List ℕ → Option V → List (List ℕ × V)
pair_at k None = []
pair_at k (Some v) = (k, v) ∷ []

-- at the node t, after the first d bytes of q, the descent ends without a value
pub record PassesNone {V : Type 0} (q : List ℕ) (d : ℕ) (t : Trie V) : Type 0 where
  pub still : matches_ahead q d (Some t) ≡ []
  pub counted : entered_ahead q d (Some t) ≡ 1

-- there it passes the node, and continues before the tree o after the first d1 bytes
pub record Passes {V : Type 0} (q : List ℕ) (d : ℕ) (t : Trie V) (d1 : ℕ) (o : Option (Trie V)) : Type 0 where
  pub within : d1 ≤ length q
  pub still : matches_ahead q d (Some t) ≡ pair_at (take d1 q) (value_of t) ++ matches_ahead q d1 o
  pub counted : entered_ahead q d (Some t) ≡ 1 + entered_ahead q d1 o
  pub falls : tree_count o < node_count t
  pub past : (n : ℕ) → DescendsPast q d (Some t) n d1 o (n + 1)

-- at the node t the descent continues before what r shows, or ends
abbrev pub PassesTo : {P V C : Type 0} {G : Ghosts P} → List ℕ → ℕ → Trie V → Option (Option (Shared P V C G) × ℕ)
    → Type 0
PassesTo q d t r = MatchOption r (PassesNone q d t) (λ e. Passes q d t e.1 (option_map (λ s. s.node.now) e.0))
