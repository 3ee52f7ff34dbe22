-- The strings at which an intersection enters a node or a pair.
use Rattle.std.proofs.Common.{◌≡◌, ℕ, ◌<◌, ◌==◌, ◌||◌, ◌&&◌, Bool, ⊎_elim, suc, true, false, List, [], ◌∷◌, ◌++◌, refl}
use Rattle.std.proofs.Common.{sym, ap, ◌∙◌, arith, Option, Some, None, is_some, if◌then◌else◌}
use Rattle.std.proofs.Math.Bool.{and-false, or-false}
use Rattle.rart_keys.specs.SortedMap.{lookup}
use Rattle.rart_trie.specs.tries.Trie.{Trie, node, Children, no_children, child, trie_lookup, child_lookup}
use Rattle.rart_trie.specs.tries.Trie.{with_records, children_with_records, with_prefix, prefix_of, StartsWith}
use Rattle.rart_trie.specs.tries.Trie.{IsCanonical, AreCanonical}
use Rattle.rart_nodes.specs.joins.Intersections.{Pairing, intersect_each, pair_child, pair_down, pair_in, pair_tries}
use Rattle.rart_nodes.specs.joins.SharedEdges.{above}
use Rattle.rart_keys.proofs.strings.ByteOrder.{order, is_less, is_equal, is_greater, eq-yes, eq-no, equal_or_not}
use Rattle.rart_trie.proofs.tries.PairLemmas.{or_else, lookup-append}
use Rattle.rart_trie.proofs.tries.LongerPrefix.{longer}
use Rattle.rart_nodes.proofs.joins.IntersectLemmas.{lookup-step, lookup-step_nil}
use Rattle.rart_nodes.proofs.joins.Reach.{reaches, reaches_child}

abbrev marks_edges : Pairing (List (List ℕ × Unit {0}))
marks_edges = record {
  apart = [];
  shared = λ x es. with_prefix (x ∷ []) es;
  also = λ xs ys. xs ++ ys;
  entered
      = λ b es. (b ∷ [], tt) ∷ es;
}

abbrev pub edges_in : {W : Type 0} → List ℕ → (ℕ → Trie W → List (List ℕ × Unit {0})) → Trie W
    → List (List ℕ × Unit {0})
edges_in p f u = pair_in marks_edges p (λ w es. es) f u

abbrev pub edges_down : {W : Type 0} → ℕ → List ℕ → (ℕ → Trie W → List (List ℕ × Unit {0})) → Children W
    → List (List ℕ × Unit {0})
edges_down b l f ds = pair_down marks_edges b l (λ w es. es) f ds

abbrev pub edges : {V W : Type 0} → Trie V → Trie W → List (List ℕ × Unit {0})
edges t u = pair_tries marks_edges (λ v w es. es) t u

abbrev pub edges_child : {V W : Type 0} → ℕ → Trie W → Children V → List (List ℕ × Unit {0})
edges_child b u cs = pair_child marks_edges (λ v w es. es) b u cs

none-of : (a b c d e : Bool) → ((a && (b && false)) || (c && (d && false))) ≡ (e && (d && false))
none-of a b c d e = rw (and-false b, and-false d, and-false a, and-false c, and-false e) refl

first-of : (a r u c : Bool) → ((a && (r && u)) || (c && (r && false))) ≡ (a && (r && u))
first-of a r u c = rw (and-false r, and-false c) (or-false (a && (r && u)))

rest-of : (a r c : Bool) → ((a && (r && false)) || c) ≡ c
rest-of a r c = rw (and-false r, and-false a) refl

some-or : {X : Type 0} (x y : Option X) → is_some (or_else x y) ≡ (is_some x || is_some y)
some-or None y = refl
some-or (Some x) y = refl

pub same_above : (d : Bool) (f g : List ℕ → Bool) (x : List ℕ) → ((p : List ℕ) → f p ≡ g p) → above d f x ≡ above d g x
same_above d f g [] h = refl
same_above d f g (b ∷ x) h = rw (h []) (same_above (g []) (λ p. f (b ∷ p)) (λ p. g (b ∷ p)) x (λ p. h (b ∷ p)))

-- reaches
reach-longer : {V : Type 0} (x y : ℕ) (k : List ℕ) (t : Trie V)
    → reaches (y ∷ k) (longer x t) ≡ (if x == y then reaches k t else false)
reach-longer x y k (node p v n cs) = ⊎_elim (λ e. rw (eq-yes x y e, eq-yes y x (sym e)) refl)
    (λ d. rw (eq-no x y d, eq-no y x (λ e. d (sym e))) refl) (equal_or_not x y)

reach-nil : {V : Type 0} (t : Trie V) → reaches [] t ≡ true
reach-nil (node [] v n cs) = refl
reach-nil (node (x ∷ p) v n cs) = refl

reach-first : {V : Type 0} (b : ℕ) (t : Trie V) → StartsWith b (prefix_of t) → reaches (b ∷ []) t ≡ true
reach-first b (node [] v n cs) f = absurd f
reach-first b (node (x ∷ p) v n cs) f = reach-longer x b [] (node p v n cs)
    ∙ rw (eq-yes x b f) (reach-nil (node p v n cs))

pub reach-other : {V : Type 0} (b y : ℕ) (k : List ℕ) (t : Trie V) → StartsWith b (prefix_of t) → (b ≡ y → ⊥)
    → reaches (y ∷ k) t ≡ false
reach-other b y k (node [] v n cs) f d = absurd f
reach-other b y k (node (x ∷ p) v n cs) f d = reach-longer x y k (node p v n cs)
    ∙ rw (eq-no x y (λ e. d (sym f ∙ e))) refl

reach_kid-low : {V : Type 0} (b low : ℕ) (k : List ℕ) (cs : Children V) → b < low → AreCanonical low cs
    → reaches_child b k cs ≡ false
reach_kid-low b low k no_children h w = refl
reach_kid-low b low k (child c t cs) h w = rw (is_less b c (omega (arith, w.0))) refl

abbrev pub mark : {V : Type 0} → Trie V → List ℕ → Bool
mark t p = is_some (trie_lookup p (with_records t))

abbrev pub child_mark : {V : Type 0} → ℕ → List ℕ → Children V → Bool
child_mark b p cs = is_some (child_lookup b p (children_with_records cs))

pub mark-nil : {V : Type 0} (b : ℕ) (t : Trie V) → StartsWith b (prefix_of t) → mark t [] ≡ false
mark-nil b (node [] v n cs) f = absurd f
mark-nil b (node (x ∷ p) v n cs) f = refl

-- G, or true at the root
abbrev from_root : (List ℕ → Bool) → List ℕ → Bool
from_root g [] = true
from_root g (c ∷ p) = g (c ∷ p)

module _ {V W : Type 0} where
  -- the edge to a pair of children, in front of the edges after it
  root-edge : (b : ℕ) (x : List ℕ) (t : Trie V) (u : Trie W) (es : List (List ℕ × Unit {0}))
      → StartsWith b (prefix_of t) → StartsWith b (prefix_of u) →
      is_some (lookup x es) ≡ (above false (λ p. mark t p || mark u p) x && (reaches x t && reaches x u)) →
      is_some (lookup x ((b ∷ [], tt) ∷ es)) ≡ (above false (from_root (λ p. mark t p || mark u p)) x &&
      (reaches x t && reaches x u))
  root-edge b [] t u es f g h = h
  root-edge b (y ∷ []) t u es f g h = ⊎_elim
      (λ e. rw (← e, eq-yes b b refl, reach-first b t f, reach-first b u g) refl)
      (λ d. let q = rw (reach-other b y [] t f d, and-false (mark t [] || mark u [])) at h in
      rw (eq-no b y d, q, reach-other b y [] t f d) refl) (equal_or_not b y)
  root-edge b (y ∷ c ∷ k) t u es f g h = ⊎_elim (λ e. rw (eq-yes b y e) h) (λ d. rw (eq-no b y d) h) (equal_or_not b y)

  -- f b u has the edges of the child by b in cs and u
  abbrev pub Edges : (ℕ → Trie W → List (List ℕ × Unit {0})) → Children V → Type 0
  Edges f cs = (b : ℕ) (x : List ℕ) (u : Trie W) → IsCanonical u → StartsWith b (prefix_of u) →
      is_some (lookup x (f b u)) ≡ (above false (from_root (λ p. child_mark b p cs || mark u p)) x &&
      (reaches_child b x cs && reaches x u))

  each-nil : (f : ℕ → Trie W → List (List ℕ × Unit {0})) (cs : Children V) (low : ℕ) (ds : Children W) → Edges f cs
      → AreCanonical low ds → is_some (lookup [] (intersect_each f ds)) ≡ false
  each-nil f cs low no_children h w = refl
  each-nil f cs low (child c u ds) h w = ap is_some (lookup-append [] (f c u) (intersect_each f ds))
      ∙ some-or (lookup [] (f c u)) (lookup [] (intersect_each f ds))
      ∙ rw (h c [] u w.2 w.1) (each-nil f cs (suc c) ds h w.3)

  each-edges : (y : ℕ) (k : List ℕ) (f : ℕ → Trie W → List (List ℕ × Unit {0})) (cs : Children V) (low : ℕ)
      (ds : Children W) → Edges f cs → AreCanonical low ds →
      is_some (lookup (y ∷ k) (intersect_each f ds))
      ≡ (above true (λ z. child_mark y (y ∷ z) cs || child_mark y (y ∷ z) ds) k &&
      (reaches_child y (y ∷ k) cs && reaches_child y (y ∷ k) ds))
  each-edges y k f cs low no_children h w = sym
      (ap (λ z. above true (λ z. child_mark y (y ∷ z) cs || false) k && z) (and-false (reaches_child y (y ∷ k) cs))
      ∙ and-false (above true (λ z. child_mark y (y ∷ z) cs || false) k))
  each-edges y k f cs low (child c u ds) h w = ap is_some (lookup-append (y ∷ k) (f c u) (intersect_each f ds))
      ∙ some-or (lookup (y ∷ k) (f c u)) (lookup (y ∷ k) (intersect_each f ds)) ∙
      ⊎_elim (λ l. rw (
        h c (y ∷ k) u w.2 w.1,
        each-edges y k f cs (suc c) ds h w.3,
        is_less y c l,
        reach-other c y k u
            w.1 (λ e. omega arith),
        reach_kid-low y (suc c) (y ∷ k) ds (omega arith) w.3,
      )
      (none-of (above true (λ z. child_mark c (y ∷ z) cs || mark u (y ∷ z)) k) (reaches_child c (y ∷ k) cs)
      (above true (λ z. child_mark y (y ∷ z) cs || child_mark y (y ∷ z) ds) k) (reaches_child y (y ∷ k) cs)
      (above true (λ z. child_mark y (y ∷ z) cs || false) k)))
      (⊎_elim (λ e. rw (
        h c (y ∷ k) u w.2 w.1,
        each-edges y k f cs (suc c) ds h w.3,
        is_equal y c e,
        reach_kid-low y
            (suc c) (y ∷ k) ds (omega arith) w.3,
        ← e,
      )
      (first-of (above true (λ z. child_mark y (y ∷ z) cs || mark u (y ∷ z)) k) (reaches_child y (y ∷ k) cs)
      (reaches (y ∷ k) u) (above true (λ z. child_mark y (y ∷ z) cs || child_mark y (y ∷ z) ds) k)))
      (λ g. rw (
        h c (y ∷ k) u w.2 w.1,
        each-edges y k f cs (suc c) ds h w.3,
        is_greater y c g,
        reach-other c y k u w.1
            (λ e. omega arith),
      ) (rest-of (above true (λ z. child_mark c (y ∷ z) cs || mark u (y ∷ z)) k)
      (reaches_child c (y ∷ k) cs) (above true (λ z. child_mark y (y ∷ z) cs || child_mark y (y ∷ z) ds) k &&
      (reaches_child y (y ∷ k) cs && reaches_child y (y ∷ k) ds))))) (order y c)

  edges-node : (x p q : List ℕ) (v : Option V) (n : ℕ) (cs : Children V) (f : ℕ → Trie W → List (List ℕ × Unit {0}))
      (w : Option W) (m : ℕ) (ds : Children W) → Edges f cs → IsCanonical (node q w m ds) →
      ((b : ℕ) (l x : List ℕ) → StartsWith b l → is_some (lookup x (edges_down b l f ds))
      ≡ (above false (from_root (λ p. mark (node l v n cs) p || child_mark b p ds)) x &&
      (reaches x (node l v n cs) && reaches_child b x ds))) →
      is_some (lookup x (edges_in p f (node q w m ds)))
      ≡ (above false (λ z. mark (node p v n cs) z || mark (node q w m ds) z) x &&
      (reaches x (node p v n cs) && reaches x (node q w m ds)))
  edges-node [] [] [] v n cs f w m ds h z g = each-nil f cs 0 ds h z.2
  edges-node (y ∷ k) [] [] v n cs f w m ds h z g = each-edges y k f cs 0 ds h z.2
  edges-node [] [] (y ∷ q) v n cs f w m ds h z g = h y [] (node (y ∷ q) w m ds) z refl
  edges-node (i ∷ k) [] (y ∷ q) v n cs f w m ds h z g = h y (i ∷ k) (node (y ∷ q) w m ds) z refl ∙ ⊎_elim
      (λ e. rw e refl)
      (λ d. rw (
        reach-other y i k (node (y ∷ q) w m ds) refl d,
        and-false (reaches_child y (i ∷ k) cs),
        and-false
            (reaches_child i (i ∷ k) cs),
      )
      (and-false (above true (λ p. child_mark y (i ∷ p) cs || mark (node (y ∷ q) w m ds) (i ∷ p)) k)
      ∙ sym (and-false (above true (λ p. child_mark i (i ∷ p) cs || mark (node (y ∷ q) w m ds) (i ∷ p)) k))))
      (equal_or_not y i)
  edges-node [] (x ∷ p) [] v n cs f w m ds h z g = g x (x ∷ p) [] refl
  edges-node (i ∷ k) (x ∷ p) [] v n cs f w m ds h z g = g x (x ∷ p) (i ∷ k) refl ∙ ⊎_elim
      (λ e. rw e refl)
      (λ d. rw (reach-other x i k (node (x ∷ p) v n cs) refl d)
      (and-false (above true (λ j. mark (node (x ∷ p) v n cs) (i ∷ j) || child_mark x (i ∷ j) ds) k)
      ∙ sym (and-false (above true (λ j. mark (node (x ∷ p) v n cs) (i ∷ j) || child_mark i (i ∷ j) ds) k))))
      (equal_or_not x i)
  edges-node [] (x ∷ p) (y ∷ q) v n cs f w m ds h z g
      = elim (x == y) as (λ b. is_some (lookup [] (if b then with_prefix (x ∷ []) (edges_in p f (node q w m ds))
      else [])) ≡ false) [ true ↦ ap is_some (lookup-step_nil x (edges_in p f (node q w m ds))) | false ↦ refl ]
  edges-node (i ∷ k) (x ∷ p) (y ∷ q) v n cs f w m ds h z g = ⊎_elim
      (λ e. rw (← e, eq-yes x x refl, lookup-step x i k (edges_in p f (node q w m ds))) (⊎_elim
      (λ j. rw (eq-yes x i j, eq-yes i x (sym j)) (edges-node k p q v n cs f w m ds h z g))
      (λ j. rw (eq-no x i j, eq-no i x (λ e. j (sym e))) (sym (and-false (above false (λ z. false) k))))
      (equal_or_not x i)))
      (λ d. rw (eq-no x y d) (⊎_elim
      (λ j. rw (
        reach-other y i k (node (y ∷ q) w m ds) refl (λ e. d (j ∙ sym e)),
        and-false
            (reaches (i ∷ k) (node (x ∷ p) v n cs)),
      )
      (sym (and-false (above false (λ z. mark (node (x ∷ p) v n cs) (i ∷ z) || mark (node (y ∷ q) w m ds) (i ∷ z))
      k))))
      (λ j. rw (reach-other x i k (node (x ∷ p) v n cs) refl j)
      (sym (and-false (above false (λ z. mark (node (x ∷ p) v n cs) (i ∷ z) || mark (node (y ∷ q) w m ds) (i ∷ z))
      k)))) (equal_or_not x i))) (equal_or_not x y)

  mutual
    pub edges-in : (x p : List ℕ) (v : Option V) (n : ℕ) (cs : Children V) (f : ℕ → Trie W → List (List ℕ × Unit {0}))
        (u : Trie W) → Edges f cs → IsCanonical u →
        is_some (lookup x (edges_in p f u)) ≡ (above false (λ z. mark (node p v n cs) z || mark u z) x &&
        (reaches x (node p v n cs) && reaches x u))
    edges-in x p v n cs f (node q w m ds) h z
        = edges-node x p q v n cs f w m ds h z (λ b l x i. edges-down b x l v n cs f 0 ds h z.2 i)

    edges-down : (b : ℕ) (x l : List ℕ) (v : Option V) (n : ℕ) (cs : Children V) (f : ℕ → Trie W
        → List (List ℕ × Unit {0})) (low : ℕ) (ds : Children W) → Edges f cs → AreCanonical low ds → StartsWith b l →
        is_some (lookup x (edges_down b l f ds))
        ≡ (above false (from_root (λ p. mark (node l v n cs) p || child_mark b p ds)) x &&
        (reaches x (node l v n cs) && reaches_child b x ds))
    edges-down b x l v n cs f low no_children h z i
        = sym (rw (and-false (reaches x (node l v n cs)))
        (and-false (above false (from_root (λ p. mark (node l v n cs) p || false)) x)))
    edges-down b x l v n cs f low (child c u ds) h z i = ⊎_elim
        (λ j. rw (is_less b c j, and-false (reaches x (node l v n cs)))
        (sym (and-false (above false (from_root (λ p. mark (node l v n cs) p || false)) x))))
        (⊎_elim (λ e. rw (is_equal b c e) (root-edge b x (node l v n cs) u (edges_in l f u) i (rw e z.1)
        (edges-in x l v n cs f u h z.2)))
        (λ j. rw (is_greater b c j) (edges-down b x l v n cs f (suc c) ds h z.3 i))) (order b c)

  mutual
    pub lookup-edges : (x : List ℕ) (t : Trie V) (u : Trie W) → IsCanonical t → IsCanonical u
        → is_some (lookup x (edges t u)) ≡ (above false (λ p. mark t p || mark u p) x && (reaches x t && reaches x u))
    lookup-edges x (node p v n cs) u w z = edges-in x p v n cs (λ b z. edges_child b z cs) u
        (λ b x u z i. lookup-edges_kid b x 0 cs u w.2 z i) z

    pub lookup-edges_kid : (b : ℕ) (x : List ℕ) (low : ℕ) (cs : Children V) (u : Trie W) → AreCanonical low cs
        → IsCanonical u → StartsWith b (prefix_of u) →
        is_some (lookup x (edges_child b u cs)) ≡ (above false (from_root (λ p. child_mark b p cs || mark u p)) x &&
        (reaches_child b x cs && reaches x u))
    lookup-edges_kid b x low no_children u w z i = sym (and-false (above false (from_root (λ p. mark u p)) x))
    lookup-edges_kid b x low (child c t cs) u w z i = ⊎_elim
        (λ j. rw (is_less b c j) (sym (and-false (above false (from_root (λ p. mark u p)) x))))
        (⊎_elim (λ e. rw (is_equal b c e) (root-edge b x t u (edges t u) (rw e w.1) i (lookup-edges x t u w.2 z)))
        (λ j. rw (is_greater b c j) (lookup-edges_kid b x (suc c) cs u w.3 z i))) (order b c)
