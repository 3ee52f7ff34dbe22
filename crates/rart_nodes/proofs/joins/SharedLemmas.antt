-- The edges of an intersection are the shared edges of the keys.
use Rattle.std.proofs.Common.{◌≡◌, ℕ, ◌==◌, ◌||◌, ◌&&◌, Bool, ⊎_elim, suc, true, false, List, [], ◌∷◌, refl, sym, ap}
use Rattle.std.proofs.Common.{◌∙◌, Option, Some, None, is_some, if◌then◌else◌}
use Rattle.std.specs.List.{filter}
use Rattle.std.proofs.Math.Bool.{and-false}
use Rattle.rart_trie.specs.shapes.BranchPoints.{begins_any}
use Rattle.rart_keys.specs.ByteStrings.{bytes_eq, IsLess}
use Rattle.rart_keys.specs.SortedMap.{AreAbove, IsAscending, lookup, keys_of}
use Rattle.rart_trie.specs.shapes.Shape.{contains_key}
use Rattle.rart_trie.specs.tries.Trie.{Trie, node, Children, no_children, child, pairs_of, with_prefix, prefix_of}
use Rattle.rart_trie.specs.tries.Trie.{StartsWith, IsCanonical, AreCanonical}
use Rattle.rart_nodes.specs.joins.Intersections.{intersect_each}
use Rattle.rart_nodes.specs.joins.SharedEdges.{above, is_branch, is_shared, all_starts, set_map, as_map, shared_edges}
use Rattle.rart_keys.proofs.strings.ByteOrder.{order, is_less, is_equal, is_greater, equal_or_not, bytes_eq-equal}
use Rattle.rart_keys.proofs.maps.SortedMaps.{equal_by_lookups, lookup-first}
use Rattle.rart_trie.proofs.tries.FirstBytes.{AllFirst, AllFrom, ascending-append, ascending-with_prefix}
use Rattle.rart_trie.proofs.tries.FirstBytes.{all_from-first, all_first-looks}
use Rattle.rart_trie.proofs.shapes.ShapeLemmas.{record_is, contains_key-keys_of}
use Rattle.rart_nodes.proofs.joins.Reach.{reaches, reaches_child}
use Rattle.rart_nodes.proofs.joins.EdgeLemmas.{edges_in, edges_down, edges, edges_child, same_above, reach-other, mark}
use Rattle.rart_nodes.proofs.joins.EdgeLemmas.{mark-nil, child_mark, Edges, edges-in, lookup-edges, lookup-edges_kid}
use Rattle.rart_nodes.proofs.joins.StringSets.{set-ascends, lookup-set, contains-filter, contains-all_starts, reach-any}

no-some : {X : Type 0} (x : Option X) (v : X) → is_some x ≡ false → x ≡ Some v → ⊥
no-some None v h s = cc
no-some (Some y) v h s = cc

above-looks : {X : Type 0} (k : List ℕ) (es : List (List ℕ × X))
    → ((q : List ℕ) (v : X) → lookup q es ≡ Some v → IsLess k q) → AreAbove k es
above-looks k [] h = tt
above-looks k (e ∷ es) h = let f = h e.0 e.1 (lookup-first e.0 e.1 es) in (
  f,
  above-looks k es (λ q v l. elim (bytes_eq e.0 q) as (λ b. bytes_eq e.0 q ≡ b → IsLess k q) [
    | true ↦ λ s. rw (← bytes_eq-equal e.0 q s) f
    | false ↦ λ s. h q v (rw s l)
  ] refl),
)

units : (x y : Option (Unit {0})) → is_some x ≡ is_some y → x ≡ y
units None None h = refl
units None (Some v) h = cc
units (Some v) None h = cc
units (Some v) (Some w) h = refl

abbrev Ascend : {W : Type 0} → (ℕ → Trie W → List (List ℕ × Unit {0})) → Type 0
Ascend {W} f = (b : ℕ) (u : Trie W) → IsCanonical u → StartsWith b (prefix_of u) → IsAscending (f b u)

twice : (a b c : Bool) → ((a && (b && c)) && b) ≡ (a && (b && c))
twice true true c = elim c as (λ c. ((true && (true && c)) && true) ≡ (true && (true && c))) [
  | true ↦ refl
  | false ↦ refl
]
twice true false c = refl
twice false b c = refl

in-shared : (x : List ℕ) (s t : List (List ℕ))
    → is_some (lookup x (set_map (filter (λ x. is_shared s t x) (all_starts s)))) ≡ is_shared s t x
in-shared x s t = lookup-set x (filter (λ x. is_shared s t x) (all_starts s))
    ∙ contains-filter (λ x. is_shared s t x) x (all_starts s) ∙
    elim x as (λ x. (is_shared s t x && contains_key (all_starts s) x) ≡ is_shared s t x) [
      | [] ↦ refl
      | y ∷ x ↦ ap (λ z. is_shared s t (y ∷ x) && z) (contains-all_starts y x s)
          ∙ twice (above false (λ p. is_branch s p || is_branch t p) (y ∷ x)) (begins_any (y ∷ x) s)
          (begins_any (y ∷ x) t)
    ]

pub shared-each : (x : List ℕ) (s t : List (List ℕ)) → contains_key (shared_edges s t) x ≡ is_shared s t x
shared-each x s t = contains_key-keys_of x (set_map (filter (λ x. is_shared s t x) (all_starts s))) ∙ in-shared x s t

marked-keys : (es : List (List ℕ × Unit {0})) → as_map (keys_of es) ≡ es
marked-keys [] = refl
marked-keys (e ∷ es) = ap (λ z. e ∷ z) (marked-keys es)

pub shared-ascends : (s t : List (List ℕ)) → IsAscending (as_map (shared_edges s t))
shared-ascends s t = rw (marked-keys (set_map (filter (λ x. is_shared s t x) (all_starts s))))
    (set-ascends (filter (λ x. is_shared s t x) (all_starts s)))

module _ {V W : Type 0} where
  edge-above : (b : ℕ) (t : Trie V) (u : Trie W) (es : List (List ℕ × Unit {0})) → StartsWith b (prefix_of t)
      → StartsWith b (prefix_of u) →
      ((x : List ℕ) → is_some (lookup x es) ≡ (above false (λ p. mark t p || mark u p) x &&
      (reaches x t && reaches x u))) → AreAbove (b ∷ []) es
  edge-above b t u es f g h = above-looks (b ∷ []) es
      (λ q. elim q as (λ q. (v : Unit {0}) → lookup q es ≡ Some v → IsLess (b ∷ []) q) [
        | [] ↦ λ v l. absurd (no-some (lookup [] es) v (h []) l)
        | y ∷ q ↦ elim q as (λ q. (v : Unit {0}) → lookup (y ∷ q) es ≡ Some v → IsLess (b ∷ []) (y ∷ q)) [
          | [] ↦ λ v l. absurd (no-some (lookup (y ∷ []) es) v (h (y ∷ []) ∙ rw (mark-nil b t f, mark-nil b u g) refl)
              l)
          | c ∷ q ↦ λ v l. ⊎_elim (λ e. rw (is_equal b y e) refl)
              (λ d. absurd (no-some (lookup (y ∷ c ∷ q) es) v (h (y ∷ c ∷ q)
              ∙ ap (λ z. above false (λ p. mark t p || mark u p) (y ∷ c ∷ q) && (z && reaches (y ∷ c ∷ q) u))
              (reach-other b y (c ∷ q) t f d) ∙ and-false (above false (λ p. mark t p || mark u p) (y ∷ c ∷ q))) l))
              (equal_or_not b y)
        ]
      ])

  first-edges : (b : ℕ) (f : ℕ → Trie W → List (List ℕ × Unit {0})) (cs : Children V) (u : Trie W) → Edges f cs
      → IsCanonical u → StartsWith b (prefix_of u) → AllFirst b (f b u)
  first-edges b f cs u h w i = all_first-looks b (f b u)
      (λ k. elim k as (λ k. (v : Unit {0}) → lookup k (f b u) ≡ Some v → StartsWith b k) [
        | [] ↦ λ v l. absurd (no-some (lookup [] (f b u)) v (h b [] u w i) l)
        | y ∷ k ↦ λ v l. ⊎_elim (λ e. sym e)
            (λ d. absurd (no-some (lookup (y ∷ k) (f b u)) v (h b (y ∷ k) u w i
            ∙ rw (reach-other b y k u i d, and-false (reaches_child b (y ∷ k) cs))
            (and-false (above true (λ p. child_mark b (y ∷ p) cs || mark u (y ∷ p)) k))) l)) (equal_or_not b y)
      ])

  each-from : (f : ℕ → Trie W → List (List ℕ × Unit {0})) (cs : Children V) (low : ℕ) (ds : Children W) → Edges f cs
      → AreCanonical low ds → AllFrom low (intersect_each f ds)
  each-from f cs low no_children h w = tt
  each-from f cs low (child c u ds) h w = all_from-first low c (f c u) (intersect_each f ds) w.0
      (first-edges c f cs u h w.2 w.1) (each-from f cs (suc c) ds h w.3)

  each-ascends : (f : ℕ → Trie W → List (List ℕ × Unit {0})) (cs : Children V) (low : ℕ) (ds : Children W) → Edges f cs
      → Ascend f → AreCanonical low ds → IsAscending (intersect_each f ds)
  each-ascends f cs low no_children h a w = tt
  each-ascends f cs low (child c u ds) h a w
      = ascending-append c (f c u) (intersect_each f ds) (first-edges c f cs u h w.2 w.1)
      (each-from f cs (suc c) ds h w.3) (a c u w.2 w.1) (each-ascends f cs (suc c) ds h a w.3)

  node-ascends : (p q : List ℕ) (cs : Children V) (f : ℕ → Trie W → List (List ℕ × Unit {0})) (w : Option W) (m : ℕ)
      (ds : Children W) → Edges f cs → Ascend f → IsCanonical (node q w m ds) →
      ((b : ℕ) (l : List ℕ) → StartsWith b l → IsAscending (edges_down b l f ds))
      → IsAscending (edges_in p f (node q w m ds))
  node-ascends [] [] cs f w m ds h a z g = each-ascends f cs 0 ds h a z.2
  node-ascends [] (y ∷ q) cs f w m ds h a z g = a y (node (y ∷ q) w m ds) z refl
  node-ascends (x ∷ p) [] cs f w m ds h a z g = g x (x ∷ p) refl
  node-ascends (x ∷ p) (y ∷ q) cs f w m ds h a z g
      = elim (x == y) as (λ b. IsAscending (if b then with_prefix (x ∷ []) (edges_in p f (node q w m ds)) else [])) [
        | true ↦ ascending-with_prefix (x ∷ []) (edges_in p f (node q w m ds)) (node-ascends p q cs f w m ds h a z g)
        | false ↦ tt
      ]

  mutual
    in-ascends : (p : List ℕ) (v : Option V) (n : ℕ) (cs : Children V) (f : ℕ → Trie W → List (List ℕ × Unit {0}))
        (u : Trie W) → Edges f cs → Ascend f → IsCanonical u → IsAscending (edges_in p f u)
    in-ascends p v n cs f (node q w m ds) h a z
        = node-ascends p q cs f w m ds h a z (λ b l i. down-ascends b l v n cs f 0 ds h a z.2 i)

    down-ascends : (b : ℕ) (l : List ℕ) (v : Option V) (n : ℕ) (cs : Children V) (f : ℕ → Trie W
        → List (List ℕ × Unit {0})) (low : ℕ) (ds : Children W) → Edges f cs → Ascend f → AreCanonical low ds
        → StartsWith b l → IsAscending (edges_down b l f ds)
    down-ascends b l v n cs f low no_children h a z i = tt
    down-ascends b l v n cs f low (child c u ds) h a z i = ⊎_elim (λ j. rw (is_less b c j) tt)
        (⊎_elim (λ e. rw (is_equal b c e) (
          edge-above b (node l v n cs) u (edges_in l f u) i (rw e z.1)
              (λ x. edges-in x l v n cs f u h z.2),
          in-ascends l v n cs f u h a z.2,
        ))
        (λ j. rw (is_greater b c j) (down-ascends b l v n cs f (suc c) ds h a z.3 i))) (order b c)

  mutual
    edges-ascend : (t : Trie V) (u : Trie W) → IsCanonical t → IsCanonical u → IsAscending (edges t u)
    edges-ascend (node p v n cs) u w z = in-ascends p v n cs (λ b z. edges_child b z cs) u
        (λ b x u z i. lookup-edges_kid b x 0 cs u w.2 z i) (λ b u z i. kid-ascends b 0 cs u w.2 z i) z

    kid-ascends : (b : ℕ) (low : ℕ) (cs : Children V) (u : Trie W) → AreCanonical low cs → IsCanonical u
        → StartsWith b (prefix_of u) → IsAscending (edges_child b u cs)
    kid-ascends b low no_children u w z i = tt
    kid-ascends b low (child c t cs) u w z i = ⊎_elim (λ j. rw (is_less b c j) tt)
        (⊎_elim (λ e. rw (is_equal b c e) (
          edge-above b t u (edges t u) (rw e w.1) i (λ x. lookup-edges x t u w.2 z),
          edges-ascend t u w.2 z,
        ))
        (λ j. rw (is_greater b c j) (kid-ascends b (suc c) cs u w.3 z i))) (order b c)

  -- the same set
  edge-shared : (x : List ℕ) (t : Trie V) (u : Trie W) → IsCanonical t → IsCanonical u
      → is_some (lookup x (edges t u)) ≡ is_shared (keys_of (pairs_of t)) (keys_of (pairs_of u)) x
  edge-shared x t u w z = lookup-edges x t u w z ∙
      ap (λ a. a && (reaches x t && reaches x u))
      (same_above false (λ p. mark t p || mark u p)
      (λ p. is_branch (keys_of (pairs_of t)) p || is_branch (keys_of (pairs_of u)) p) x
      (λ p. ap (λ o. is_some o || mark u p) (record_is p t w)
      ∙ ap (λ o. is_branch (keys_of (pairs_of t)) p || is_some o) (record_is p u z))) ∙
      ap (λ r. above false (λ p. is_branch (keys_of (pairs_of t)) p || is_branch (keys_of (pairs_of u)) p) x &&
      (r && reaches x u)) (reach-any x t w) ∙
      ap (λ r. above false (λ p. is_branch (keys_of (pairs_of t)) p || is_branch (keys_of (pairs_of u)) p) x &&
      (begins_any x (keys_of (pairs_of t)) && r)) (reach-any x u z)

  pub edges-shared : (t : Trie V) (u : Trie W) → IsCanonical t → IsCanonical u
      → keys_of (edges t u) ≡ shared_edges (keys_of (pairs_of t)) (keys_of (pairs_of u))
  edges-shared t u w z = ap keys_of (equal_by_lookups (edges t u)
      (set_map (filter (λ x. is_shared (keys_of (pairs_of t)) (keys_of (pairs_of u)) x)
      (all_starts (keys_of (pairs_of t))))) (edges-ascend t u w z)
      (set-ascends (filter (λ x. is_shared (keys_of (pairs_of t)) (keys_of (pairs_of u)) x)
      (all_starts (keys_of (pairs_of t)))))
      (λ x. units (lookup x (edges t u)) (lookup x
      (set_map (filter (λ x. is_shared (keys_of (pairs_of t)) (keys_of (pairs_of u)) x)
      (all_starts (keys_of (pairs_of t)))))) (edge-shared x t u w z
      ∙ sym (in-shared x (keys_of (pairs_of t)) (keys_of (pairs_of u))))))
