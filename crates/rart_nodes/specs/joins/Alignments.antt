-- The step of an intersection to the next two nodes whose prefixes end together.
use Rattle.std.specs.Prelude.{ℕ, ◌≡◌, ◌+◌, List, [], ◌∷◌, Option, Some, None, MatchOption}
use Rattle.std.specs.Borrow.{Bor}
use Rattle.rart_keys.specs.declared.partials.Partial.{Ghosts}
use Rattle.rart_nodes.specs.declared.node.seen.Entered.{Entered}
use Rattle.rart_nodes.specs.joins.Intersections.{intersect_nodes}
use Rattle.rart_nodes.specs.joins.SharedEdges.{more_visits}
use Rattle.rart_nodes.specs.joins.SharedChildren.{IsAligned, shared_right, visits_all}
use Rattle.rart_nodes.specs.joins.JoinPaths.{Kept, PathGrown}
use Rattle.rart_trie.specs.tries.Trie.{Trie, children_in, prefix_of}

-- the child o at the byte b was entered, and shown with that byte as a segment of its prefix, and the rest of it
abbrev pub EntersAfter : {P V C : Type 0} {G : Ghosts P} → ℕ → Option (Trie V)
    → Option (Entered P V C G × Bor (List ℕ) × Bor (List ℕ)) → Type 0
EntersAfter b o r = MatchOption r (o ≡ None) (λ e. (o ≡ Some e.0.node.now) × (e.1.now ≡ b ∷ [])
    × (prefix_of e.0.node.now ≡ b ∷ e.2.now))

-- from the nodes t and u the walk came to two nodes whose prefixes end together. Its path grew by the bytes between. Or
-- the two have no key in common
abbrev pub FindsAligned : {P V W C D : Type 0} {G : Ghosts P} → Trie V → Trie W → Kept
    → Option (Entered P V C G × Entered P W D G) → Kept → Type 0
FindsAligned t u k r k' = (p : List ℕ) × PathGrown k p k'
    × MatchOption r (intersect_nodes t u ≡ []) (λ e. IsAligned t u p e.0.node.now e.1.node.now)

-- the visits from t and u on: those up to these two nodes, and those that are then ahead
abbrev pub VisitsAligned : {P V W C D : Type 0} {G : Ghosts P} → Trie V → Trie W → ℕ
    → Option (Entered P V C G × Entered P W D G) → ℕ → Type 0
VisitsAligned t u n r n' = MatchOption r (n' ≡ n + more_visits t u)
    (λ e. n' + visits_all (shared_right e.0.node.now (children_in e.1.node.now)) ≡ n + more_visits t u)
