-- The pairs of children that a walk over two nodes has still to visit.
use Rattle.std.specs.Prelude.{ℕ, ◌≡◌, List, [], ◌∷◌, length, Option, MatchOption}
use Rattle.rart_keys.specs.declared.partials.Partial.{Ghosts}
use Rattle.rart_nodes.specs.declared.node.intersect.shared_children.SharedChildren.{SharedChildren}
use Rattle.rart_nodes.specs.declared.node.intersect.shared_children.SharedChildren.TheVariants.{OverLeft, OverRight}
use Rattle.rart_nodes.specs.declared.node.seen.Entered.{Entered}
use Rattle.rart_nodes.specs.joins.SharedChildren.{shared_left, shared_right}
use Rattle.rart_trie.specs.tries.Trie.{Trie, edges_of}

abbrev pub shared_ahead : {P V W C : Type 0} → SharedChildren P V W C → Trie V → Trie W → List (Trie V × Trie W)
shared_ahead (OverLeft branches) t u = shared_left branches u
shared_ahead (OverRight branches) t u = shared_right t branches

-- how many children it has still to read, each of which it seeks at the other node
abbrev pub children_ahead : {P V W C : Type 0} → SharedChildren P V W C → ℕ
children_ahead (OverLeft branches) = length (edges_of branches)
children_ahead (OverRight branches) = length (edges_of branches)

-- a walk with these shared children ahead came from s to s': it entered the first of them, or there were none
abbrev pub EntersSharedChildren : {P V W C D S : Type 0} {G : Ghosts P} → (S → List (Trie V × Trie W)) → S
    → Option (Entered P V C G × Entered P W D G) → S → Type 0
EntersSharedChildren ahead s r s' = MatchOption r (ahead s ≡ [])
    (λ e. ahead s ≡ (e.0.node.now, e.1.node.now) ∷ ahead s')
