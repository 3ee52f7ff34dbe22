-- An intersection of two tries, step by step: after the bytes that two prefixes share, at their ends, and at
-- the children of two nodes.
use Rattle.std.proofs.Common.{◌≡◌, ℕ, suc, ◌+◌, ⊎_elim, true, List, [], ◌∷◌, ◌++◌, Option, Some, None, refl, arith, sym}
use Rattle.std.proofs.Common.{ap}
use Rattle.rart_keys.specs.Joins.{both}
use Rattle.rart_keys.proofs.strings.ByteOrder.{order, is_less, is_equal, is_greater, eq-yes, eq-no}
use Rattle.rart_nodes.specs.joins.Intersections.{intersect_prefixes, intersect_each, intersect_down, intersect_nodes}
use Rattle.rart_nodes.specs.joins.Intersections.{intersect_child, with_rest}
use Rattle.rart_trie.specs.tries.PrefixLaws.{prefix-none, prefix-twice}
use Rattle.rart_nodes.specs.joins.SharedEdges.{count_prefixes, visits_each, visits_down, more_visits, visits_child}
use Rattle.rart_nodes.specs.joins.SharedChildren.{shared_child_if, shared_right, intersect_all, visits_all}
use Rattle.rart_trie.specs.tries.CanonicalTest.{is_canonical}
use Rattle.rart_trie.specs.tries.Trie.{Trie, node, Children, no_children, child, prefix_of, value_of, children_in}
use Rattle.rart_trie.specs.tries.Trie.{with_prefix, own_pair, AreCanonical, child_of, child_in}
use Rattle.rart_trie.proofs.tries.CanonicalTests.{IsCanonical-test}
use Rattle.rart_trie.proofs.tries.Descents.{child_of-low}

pub with_rest-whole : {V : Type 0} (p : List ℕ) (t : Trie V) → p ≡ prefix_of t → with_rest p t ≡ t
with_rest-whole p (node q v n cs) e = ap (λ z. node z v n cs) e

module _ {X : Type 0} where
  prefixes-after : (w p q : List ℕ) (a : List (List ℕ × X)) (f g : ℕ → List ℕ → List (List ℕ × X))
      → intersect_prefixes (w ++ p) (w ++ q) a f g ≡ with_prefix w (intersect_prefixes p q a f g)
  prefixes-after [] p q a f g = rw (prefix-none (intersect_prefixes p q a f g)) refl
  prefixes-after (c ∷ w) p q a f g = rw (eq-yes c c refl, prefixes-after w p q a f g)
      (prefix-twice (c ∷ []) w (intersect_prefixes p q a f g))

count-after : (w p q : List ℕ) (a : ℕ) (f g : ℕ → List ℕ → ℕ) → count_prefixes (w ++ p) (w ++ q) a f g
    ≡ count_prefixes p q a f g
count-after [] p q a f g = refl
count-after (c ∷ w) p q a f g = rw (eq-yes c c refl) (count-after w p q a f g)

module _ {V W : Type 0} where
  -- the intersection of two trees, of which either may be empty
  abbrev pub met : Option (Trie V) → Option (Trie W) → List (List ℕ × (V × W))
  met None u = []
  met (Some t) None = []
  met (Some t) (Some u) = intersect_nodes t u

  -- the visits, with that of the first of them
  abbrev pub met_visits : Option (Trie V) → Option (Trie W) → ℕ
  met_visits None u = 0
  met_visits (Some t) None = 0
  met_visits (Some t) (Some u) = 1 + more_visits t u

  child-of : (b low : ℕ) (u : Trie W) (cs : Children V) → AreCanonical low cs
      → (intersect_child b u cs ≡ met (child_of b cs) (Some u))
      × (visits_child b u cs ≡ met_visits (child_of b cs) (Some u))
  child-of b low u no_children w = (refl, refl)
  child-of b low u (child c t cs) w = ⊎_elim
      (λ h. rw (is_less b c h, eq-no c b (λ q. omega arith), child_of-low b (suc c) cs (omega arith) w.3) (refl, refl))
      (⊎_elim (λ h. rw (is_equal b c h, eq-yes c b (sym h)) (refl, refl))
      (λ h. rw (is_greater b c h, eq-no c b (λ q. omega arith)) (child-of b (suc c) u cs w.3))) (order b c)

  down-of : (b low : ℕ) (l : List ℕ) (v : Option V) (n : ℕ) (cs : Children V) (ds : Children W)
      → AreCanonical low ds
      → (intersect_down b l v (λ b z. intersect_child b z cs) ds ≡ met (Some (node l v n cs)) (child_of b ds))
      × (visits_down b l (λ b z. visits_child b z cs) ds ≡ met_visits (Some (node l v n cs)) (child_of b ds))
  down-of b low l v n cs no_children w = (refl, refl)
  down-of b low l v n cs (child c u ds) w = ⊎_elim
      (λ h. rw (is_less b c h, eq-no c b (λ q. omega arith), child_of-low b (suc c) ds (omega arith) w.3) (refl, refl))
      (⊎_elim (λ h. rw (is_equal b c h, eq-yes c b (sym h)) (refl, refl))
      (λ h. rw (is_greater b c h, eq-no c b (λ q. omega arith)) (down-of b (suc c) l v n cs ds w.3))) (order b c)

  -- what two nodes with some rests of their prefixes give, and in how many visits
  pub record Turn (t : Trie V) (u : Trie W) (es : List (List ℕ × (V × W))) (n : ℕ) : Type 0 where
    pub given : intersect_nodes t u ≡ es
    pub visited : more_visits t u ≡ n

  pub turn-common : (w l r : List ℕ) (t : Trie V) (u : Trie W)
      → Turn (with_rest (w ++ l) t) (with_rest (w ++ r) u)
      (with_prefix w (intersect_nodes (with_rest l t) (with_rest r u))) (more_visits (with_rest l t) (with_rest r u))
  turn-common w l r (node p v n cs) (node q x m ds)
      = record { given = prefixes-after w l r _ _ _; visited = count-after w l r _ _ _ }

  pub turn-apart : (x y : ℕ) (l r : List ℕ) (t : Trie V) (u : Trie W) → (x ≡ y → ⊥)
      → Turn (with_rest (x ∷ l) t) (with_rest (y ∷ r) u) [] 0
  turn-apart x y l r (node p v n cs) (node q z m ds) d
      = record { given = rw (eq-no x y d) refl; visited = rw (eq-no x y d) refl }

  -- the left prefix ends first
  pub turn-left : (y : ℕ) (r : List ℕ) (t : Trie V) (u : Trie W) → is_canonical t ≡ true
      → Turn (with_rest [] t) (with_rest (y ∷ r) u) (met (child_in y t) (Some (with_rest (y ∷ r) u)))
      (met_visits (child_in y t) (Some (with_rest (y ∷ r) u)))
  turn-left y r (node p v n cs) (node q x m ds) c =
      let below = child-of y 0 (node (y ∷ r) x m ds) cs (IsCanonical-test (node p v n cs) c).2 in
      record { given = below.0; visited = below.1 }

  -- the right prefix ends first
  pub turn-right : (x : ℕ) (l : List ℕ) (t : Trie V) (u : Trie W) → is_canonical u ≡ true
      → Turn (with_rest (x ∷ l) t) (with_rest [] u) (met (Some (with_rest (x ∷ l) t)) (child_in x u))
      (met_visits (Some (with_rest (x ∷ l) t)) (child_in x u))
  turn-right x l (node p v n cs) (node q w m ds) c =
      let below = down-of x 0 (x ∷ l) v n cs ds (IsCanonical-test (node q w m ds) c).2 in
      record { given = below.0; visited = below.1 }

  -- all children, as pairs
  shared_children-met : (low : ℕ) (p : List ℕ) (v : Option V) (n : ℕ) (cs : Children V) (ds : Children W)
      → AreCanonical low cs
      → (intersect_each (λ b z. intersect_child b z cs) ds ≡ intersect_all (shared_right (node p v n cs) ds))
      × (visits_each (λ b z. visits_child b z cs) ds ≡ visits_all (shared_right (node p v n cs) ds))
  shared_children-met low p v n cs no_children c = (refl, refl)
  shared_children-met low p v n cs (child b u ds) c =
      let here = child-of b low u cs c in
      let rest = shared_children-met low p v n cs ds c in
      rw (here.0, here.1, rest.0, rest.1) (shared_child-met (child_of b cs) u (shared_right (node p v n cs) ds))
    where
      shared_child-met : (o : Option (Trie V)) (u : Trie W) (ps : List (Trie V × Trie W))
          → (met o (Some u) ++ intersect_all ps ≡ intersect_all (shared_child_if (both o (Some u)) ps))
          × (met_visits o (Some u) + visits_all ps ≡ visits_all (shared_child_if (both o (Some u)) ps))
      shared_child-met None u ps = (refl, omega arith)
      shared_child-met (Some t) u ps = (refl, refl)

  -- both prefixes end
  pub turn-both : (t : Trie V) (u : Trie W) → is_canonical t ≡ true
      → Turn (with_rest [] t) (with_rest [] u)
      (own_pair (both (value_of t) (value_of u)) ++ intersect_all (shared_right t (children_in u)))
      (visits_all (shared_right t (children_in u)))
  turn-both (node p v n cs) (node q w m ds) c =
      let below = shared_children-met 0 p v n cs ds (IsCanonical-test (node p v n cs) c).2 in
      record { given = ap (λ z. own_pair (both v w) ++ z) below.0; visited = below.1 }
