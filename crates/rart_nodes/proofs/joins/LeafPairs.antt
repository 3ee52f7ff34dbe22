-- Two leaves in an intersection: they have a key in common only if their prefixes are equal, and no visit is ahead.
use Rattle.std.proofs.Common.{◌≡◌, ℕ, List, [], ◌∷◌, ⊎_elim, refl}
use Rattle.rart_keys.proofs.strings.ByteOrder.{eq-yes, eq-no, equal_or_not}
use Rattle.rart_nodes.specs.joins.Intersections.{intersect_nodes, intersect_prefixes}
use Rattle.rart_nodes.specs.joins.SharedEdges.{count_prefixes, more_visits}
use Rattle.rart_trie.specs.tries.Trie.{Trie, node, children_in, no_children, prefix_of}

apart : {X : Type 0} (p q : List ℕ) (es : List (List ℕ × X)) → (p ≡ q → ⊥)
    → intersect_prefixes p q es (λ b r. []) (λ b l. []) ≡ []
apart [] [] es d = absurd (d refl)
apart [] (y ∷ q) es d = refl
apart (x ∷ p) [] es d = refl
apart (x ∷ p) (y ∷ q) es d = ⊎_elim
    (λ e. rw (eq-yes x y e, apart p q es (λ f. d (rw (e, f) refl))) refl)
    (λ n. rw (eq-no x y n) refl) (equal_or_not x y)

unvisited : (p q : List ℕ) → count_prefixes p q 0 (λ b r. 0) (λ b l. 0) ≡ 0
unvisited [] [] = refl
unvisited [] (y ∷ q) = refl
unvisited (x ∷ p) [] = refl
unvisited (x ∷ p) (y ∷ q) = ⊎_elim (λ e. rw (eq-yes x y e) (unvisited p q)) (λ n. rw (eq-no x y n) refl)
    (equal_or_not x y)

module _ {V W : Type 0} where
  pub leaves-apart : (t : Trie V) (u : Trie W) → children_in t ≡ no_children → children_in u ≡ no_children
      → (prefix_of t ≡ prefix_of u → ⊥) → intersect_nodes t u ≡ []
  leaves-apart (node p v n cs) (node q w m ds) e f d = rw (e, f) (apart p q _ d)

  pub leaves-unvisited : (t : Trie V) (u : Trie W) → children_in t ≡ no_children → children_in u ≡ no_children
      → more_visits t u ≡ 0
  leaves-unvisited (node p v n cs) (node q w m ds) e f = rw (e, f) (unvisited p q)
