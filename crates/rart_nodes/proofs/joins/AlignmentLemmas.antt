-- The path of two places through two tries to the next two nodes whose prefixes end together.
use Rattle.std.proofs.Common.{◌≡◌, ℕ, ◌+◌, ◌<◌, ◌≤◌, ◌==◌, Bool, true, false, List, [], ◌∷◌, ◌++◌, length}
use Rattle.std.proofs.Common.{length-append, drop, IsTrue, Some, None, refl, arith, sym, ap, subst, ◌∙◌}
use Rattle.std.proofs.lemmas.List.{append-nil}
use Rattle.rart_keys.specs.ByteStrings.{strip_prefix}
use Rattle.rart_keys.specs.SortedMap.{longest_key}
use Rattle.rart_keys.proofs.strings.ByteOrder.{eq-yes, eq-no}
use Rattle.rart_nodes.specs.joins.Intersections.{intersect_nodes, with_rest}
use Rattle.rart_trie.specs.tries.PrefixLaws.{prefix-none, prefix-twice}
use Rattle.rart_nodes.specs.joins.SharedEdges.{more_visits}
use Rattle.rart_nodes.specs.joins.SharedChildren.{shared_right, visits_all, IsAligned}
use Rattle.rart_trie.specs.tries.CanonicalTest.{is_canonical}
use Rattle.rart_trie.specs.tries.Trie.{Trie, node, Children, child, prefix_of, value_of, children_in, children_pairs}
use Rattle.rart_trie.specs.tries.Trie.{pairs_of, with_prefix, own_pair, StartsWith, child_in}
use Rattle.rart_trie.specs.tries.TrieCode.{child_count, node_count}
use Rattle.rart_nodes.proofs.joins.IntersectSteps.{Turn, met, met_visits, turn-common, turn-apart, turn-left}
use Rattle.rart_nodes.proofs.joins.IntersectSteps.{turn-right, turn-both, with_rest-whole}
use Rattle.rart_trie.proofs.tries.CanonicalTests.{IsCanonical-test, longest_key-append, longest_key-after}
use Rattle.rart_trie.proofs.tries.NodeCounts.{some-after}
use Rattle.rart_trie.proofs.tries.StepLemmas.{child-falls, longest-of}
use Rattle.rart_trie.proofs.tries.Descents.{child-first}
use Rattle.rart_trie.proofs.tries.EndLemmas.{strip_prefix-append}
use Rattle.rart_trie.proofs.tries.PrefixedStrings.{strip_prefix-is}

-- a test for an empty string
nil-of : (q : List ℕ) → true ≡ (length q == 0) → q ≡ []
nil-of [] h = refl
nil-of (x ∷ q) h = absurd (cc (h, eq-no (length (x ∷ q)) 0 (λ e. omega arith)))

some-of : (q : List ℕ) → false ≡ (length q == 0) → 0 < length q
some-of [] h = absurd (cc (h, eq-yes 0 0 refl))
some-of (x ∷ q) h = omega arith

pub nil-when : (q : List ℕ) (b : Bool) → b ≡ (length q == 0) → b ≡ true → q ≡ []
nil-when q b e h = nil-of q (sym h ∙ e)

pub some-when : (q : List ℕ) (b : Bool) → b ≡ (length q == 0) → b ≡ false → 0 < length q
some-when q b e h = some-of q (sym h ∙ e)

-- two strings are equal if the first begins the second and nothing is left of that
whole : (p : List ℕ) → strip_prefix p p ≡ Some []
whole p = ap (strip_prefix p) (sym (append-nil p)) ∙ strip_prefix-append p []

pub equal-ended : (p q k r : List ℕ) (b : Bool) → Some r ≡ strip_prefix p k → k ≡ q → b ≡ (length r == 0)
    → (IsTrue b → p ≡ q) × (p ≡ q → IsTrue b)
equal-ended p q k r b e f h = (
  λ t. sym (append-nil p) ∙ ap (λ z. p ++ z) (sym (nil-when r b h t)) ∙ strip_prefix-is p k r (sym e) ∙ f,
  λ s. let n : r ≡ [] = cc (e, f, s, whole q) in rw (h, n) refl,
)

pub equal-never : (p q k : List ℕ) → None ≡ strip_prefix p k → k ≡ q → (IsTrue false → p ≡ q) × (p ≡ q → IsTrue false)
equal-never p q k e f = (λ t. absurd (cc (t)), λ s. absurd (cc (e, f, s, whole q)))

-- how many nodes are left
pub some-count : {V : Type 0} (t : Trie V) → 0 < node_count t
some-count (node p v n cs) = omega arith

pub fewer-left : {V : Type 0} (b : ℕ) (t : Trie V) (cs ds : Children V) → cs ≡ child b t ds
    → child_count ds < child_count cs
fewer-left b t cs ds e = rw e (omega (arith, some-count t))

-- a child that is left has fewer nodes
pub fewer-below : {V : Type 0} (t u : Trie V) (b : ℕ) (cs ds : Children V) → cs ≡ child b u ds
    → child_count cs ≤ child_count (children_in t) → node_count u < node_count t
fewer-below (node p v n es) u b cs ds e h = omega (arith, h, ap child_count e)

-- a count that takes in the next child stays within that of the node
pub counted-next : {V : Type 0} (t u : Trie V) (b : ℕ) (cs ds : Children V) (n m k : ℕ) → cs ≡ child b u ds
    → k + child_count cs ≤ m + child_count (children_in t) → n ≤ k + node_count u → n + 1 ≤ m + node_count t
counted-next (node p v w es) u b cs ds n m k e h l = omega (arith, h, l, ap child_count e)

-- lengths of keys
module _ {V : Type 0} where
  -- the longest key below a node, without its prefix
  abbrev longest_below : Trie V → ℕ
  longest_below t = longest_key (own_pair (value_of t) ++ children_pairs (children_in t))

  longest-rest : (l : List ℕ) (t : Trie V) → is_canonical t ≡ true → longest_key (pairs_of (with_rest l t))
      ≡ length l + longest_below t
  longest-rest l (node p v n cs) c = longest_key-after l (own_pair v ++ children_pairs cs)
      (some-after p v n cs (IsCanonical-test (node p v n cs) c))

  pub longest-child : (b : ℕ) (t z : Trie V) → child_in b t ≡ Some z
      → longest_key (pairs_of z) ≤ longest_key (children_pairs (children_in t))
  longest-child b (node p v n cs) z e = longest-of b z cs e

  longest-children : (t : Trie V) → longest_key (children_pairs (children_in t)) ≤ longest_below t
  longest-children (node p v n cs) = omega (arith, longest_key-append (own_pair v) (children_pairs cs))

  -- a child's prefix begins with its byte
  pub child-starts : (b : ℕ) (t z : Trie V) (q : List ℕ) → is_canonical t ≡ true → child_in b t ≡ Some z
      → q ≡ prefix_of z → q ≡ b ∷ drop 1 q
  child-starts b (node p v n cs) z q c e f
      = starts-cons q (rw f (child-first b 0 z cs (IsCanonical-test (node p v n cs) c).2 e))
    where
      starts-cons : (q : List ℕ) → StartsWith b q → q ≡ b ∷ drop 1 q
      starts-cons [] s = absurd s
      starts-cons (x ∷ q) s = ap (λ y. y ∷ q) s

module _ {V W : Type 0} where
  -- p is the path from the beginnings of t and u to a and b, of whose prefixes the rests l and r are left; there were j
  -- visits before it, and i after it
  pub record Place (t : Trie V) (u : Trie W) (p : List ℕ) (a : Trie V) (l : List ℕ) (b : Trie W) (r : List ℕ)
      (i j : ℕ) : Type 0 where
    pub given : intersect_nodes t u ≡ with_prefix p (intersect_nodes (with_rest l a) (with_rest r b))
    pub visits : i + more_visits (with_rest l a) (with_rest r b) ≡ j + more_visits t u
    pub few : node_count a + node_count b ≤ node_count t + node_count u
    pub short : length p + (length l + longest_below a) ≤ longest_key (pairs_of t)

  -- at the beginnings
  pub place-start : (t : Trie V) (u : Trie W) (l r : List ℕ) (i : ℕ) → is_canonical t ≡ true → l ≡ prefix_of t
      → r ≡ prefix_of u → Place t u [] t l u r i i
  place-start t u l r i c e f =
      let same = with_rest-whole l t e in
      record {
        given = rw (same, with_rest-whole r u f) (sym (prefix-none (intersect_nodes t u)));
        visits = rw (same, with_rest-whole r u f) refl;
        few = omega arith;
        short = omega (arith, longest-rest l t c, ap (λ z. longest_key (pairs_of z)) same);
      }

  -- after the bytes that both rests begin with
  pub place-common : {t : Trie V} {u : Trie W} {p l r k q : List ℕ} {a : Trie V} {b : Trie W} {i j : ℕ} (w : List ℕ)
      → k ≡ w ++ l
      → q ≡ w ++ r → Place t u p a k b q i j → Place t u (p ++ w) a l b r i j
  place-common {t} {u} {p} {l} {r} {a} {b} {i} {j} w e f h =
      let h' : Place t u p a (w ++ l) b (w ++ r) i j = rw (← e, ← f) h in
      let step = turn-common w l r a b in
      record {
        given = h'.given ∙ ap (λ es. with_prefix p es) step.given
            ∙ prefix-twice p w (intersect_nodes (with_rest l a) (with_rest r b));
        visits = omega (arith, h'.visits, step.visited);
        few = h'.few;
        short = omega (arith, h'.short, length-append p w, length-append w l);
      }

  -- nothing more is given
  pub record IsEnd (t : Trie V) (u : Trie W) (i j : ℕ) : Type 0 where
    pub given : intersect_nodes t u ≡ []
    pub visits : i ≡ j + more_visits t u

  ended : (t : Trie V) (u : Trie W) (p l r : List ℕ) (a : Trie V) (b : Trie W) (i j : ℕ) → Place t u p a l b r i j
      → Turn (with_rest l a) (with_rest r b) [] 0 → IsEnd t u i j
  ended t u p l r a b i j h s = record {
    given = h.given ∙ ap (λ es. with_prefix p es) s.given;
    visits
        = omega (arith, h.visits, s.visited);
  }

  place-apart : (t : Trie V) (u : Trie W) (p l r k q : List ℕ) (x y : ℕ) (a : Trie V) (b : Trie W) (i j : ℕ)
      → l ≡ x ∷ k → r ≡ y ∷ q → (x ≡ y → ⊥) → Place t u p a l b r i j → IsEnd t u i j
  place-apart t u p l r k q x y a b i j e f d h = ended t u p l r a b i j h (rw (e, f) (turn-apart x y k q a b d))

  pub place-parted : {t : Trie V} {u : Trie W} {p l r k : List ℕ} {x : ℕ} {a : Trie V} {b : Trie W} {i j : ℕ}
      → l ≡ x ∷ k → 0 < length r
      → ((x y : ℕ) (k q : List ℕ) → l ≡ x ∷ k → r ≡ y ∷ q → x ≡ y → ⊥) → Place t u p a l b r i j → IsEnd t u i j
  place-parted {r = []} e n d h = absurd (omega arith)
  place-parted {t} {u} {p} {l} {r = y ∷ q} {k} {x} {a} {b} {i} {j} e n d h
      = place-apart t u p l (y ∷ q) k q x y a b i j e refl (d x y k q e refl) h

  pub place-left_none : (t : Trie V) (u : Trie W) (p l r q : List ℕ) (y : ℕ) (a : Trie V) (b : Trie W) (i j : ℕ)
      → is_canonical a ≡ true → l ≡ [] → r ≡ y ∷ q → child_in y a ≡ None → Place t u p a l b r i j → IsEnd t u i j
  place-left_none t u p l r q y a b i j c e f n h =
      let step = turn-left y q a b c in
      ended t u p l r a b i j h (rw (e, f) (record {
        given = step.given
            ∙ ap (λ o. met o (Some (with_rest (y ∷ q) b))) n;
        visited = step.visited
            ∙ ap (λ o. met_visits o (Some (with_rest (y ∷ q) b))) n;
      }))

  pub place-right_none : (t : Trie V) (u : Trie W) (p l r k : List ℕ) (x : ℕ) (a : Trie V) (b : Trie W) (i j : ℕ)
      → is_canonical b ≡ true → l ≡ x ∷ k → r ≡ [] → child_in x b ≡ None → Place t u p a l b r i j → IsEnd t u i j
  place-right_none t u p l r k x a b i j c e f n h =
      let step = turn-right x k a b c in
      ended t u p l r a b i j h (rw (e, f) (record {
        given = step.given
            ∙ ap (λ o. met (Some (with_rest (x ∷ k) a)) o) n;
        visited = step.visited
            ∙ ap (λ o. met_visits (Some (with_rest (x ∷ k) a)) o) n;
      }))

  -- on by the byte of the longer prefix, with a child of the other node
  pub record Step (t : Trie V) (u : Trie W) (p : List ℕ) (a : Trie V) (l : List ℕ) (b : Trie W) (r : List ℕ)
      (i j n : ℕ) : Type 0 where
    pub place : Place t u p a l b r i j
    pub falls : node_count a + node_count b < n

  place-on : (t : Trie V) (u : Trie W) (p l r k q : List ℕ) (x : ℕ) (a z : Trie V) (b y : Trie W) (i j : ℕ)
      → Turn (with_rest l a) (with_rest r b) (with_prefix (x ∷ []) (intersect_nodes (with_rest k z) (with_rest q y)))
      (1 + more_visits (with_rest k z) (with_rest q y)) → node_count z + node_count y < node_count a + node_count b
      → length k + 1 + longest_below z ≤ length l + longest_below a → Place t u p a l b r i j
      → Step t u (p ++ x ∷ []) z k y q (i + 1) j (node_count a + node_count b)
  place-on t u p l r k q x a z b y i j s f g h = record {
    place = record {
      given = h.given ∙ ap (λ es. with_prefix p es) s.given
          ∙ prefix-twice p (x ∷ []) (intersect_nodes (with_rest k z) (with_rest q y));
      visits = omega (arith, h.visits, s.visited);
      few = omega (arith, h.few, f);
      short = omega (arith, h.short, length-append p (x ∷ []), g);
    };
    falls = f;
  }

  pub place-left : {t : Trie V} {u : Trie W} {p l r q k : List ℕ} {y : ℕ} {a z : Trie V} {b : Trie W} {i j : ℕ}
      → is_canonical a ≡ true → is_canonical z ≡ true → l ≡ [] → r ≡ y ∷ q → child_in y a ≡ Some z → prefix_of z ≡ y ∷ k
      → Place t u p a l b r i j → Step t u (p ++ y ∷ []) z k b q (i + 1) j (node_count a + node_count b)
  place-left {t} {u} {p} {l} {r} {q} {k} {y} {a} {z} {b} {i} {j} c d e f n m h =
      let step = turn-left y q a b c in
      let same : with_rest (y ∷ k) z ≡ z = with_rest-whole (y ∷ k) z (sym m) in
      let next = turn-common (y ∷ []) k q z b in
      place-on t u p l r k q y a z b b i j (rw (e, f) (record {
        given = step.given ∙ ap (λ o. met o (Some (with_rest (y ∷ q) b))) n
            ∙ ap (λ x. intersect_nodes x (with_rest (y ∷ q) b)) (sym same) ∙ next.given;
        visited = step.visited ∙ ap (λ o. met_visits o (Some (with_rest (y ∷ q) b))) n
            ∙ ap (λ x. 1 + more_visits x (with_rest (y ∷ q) b)) (sym same) ∙ ap (λ x. 1 + x) next.visited;
      })) (omega (arith, child-falls y a (Some z) n))
      (omega (
        arith,
        longest-child y a z n,
        longest-children a,
        longest-rest (y ∷ k) z d,
        ap (λ x. longest_key (pairs_of x)) same,
      )) h

  pub place-right : {t : Trie V} {u : Trie W} {p l r k q : List ℕ} {x : ℕ} {a : Trie V} {b z : Trie W} {i j : ℕ}
      → is_canonical b ≡ true → l ≡ x ∷ k → r ≡ [] → child_in x b ≡ Some z → prefix_of z ≡ x ∷ q
      → Place t u p a l b r i j → Step t u (p ++ x ∷ []) a k z q (i + 1) j (node_count a + node_count b)
  place-right {t} {u} {p} {l} {r} {k} {q} {x} {a} {b} {z} {i} {j} c e f n m h =
      let step = turn-right x k a b c in
      let same : with_rest (x ∷ q) z ≡ z = with_rest-whole (x ∷ q) z (sym m) in
      let next = turn-common (x ∷ []) k q a z in
      place-on t u p l r k q x a a b z i j (rw (e, f) (record {
        given = step.given ∙ ap (λ o. met (Some (with_rest (x ∷ k) a)) o) n
            ∙ ap (λ y. intersect_nodes (with_rest (x ∷ k) a) y) (sym same) ∙ next.given;
        visited = step.visited ∙ ap (λ o. met_visits (Some (with_rest (x ∷ k) a)) o) n
            ∙ ap (λ y. 1 + more_visits (with_rest (x ∷ k) a) y) (sym same) ∙ ap (λ y. 1 + y) next.visited;
      })) (omega (arith, child-falls x b (Some z) n)) (omega (arith, ap length e)) h

  -- both prefixes end
  pub record Aligned (t : Trie V) (u : Trie W) (p : List ℕ) (a : Trie V) (b : Trie W) (i j : ℕ) : Type 0 where
    pub aligned : IsAligned t u p a b
    pub visits : i + visits_all (shared_right a (children_in b)) ≡ j + more_visits t u

  pub place-aligned : {t : Trie V} {u : Trie W} {p l r : List ℕ} {a : Trie V} {b : Trie W} {i j : ℕ}
      → is_canonical a ≡ true → l ≡ [] → r ≡ [] → Place t u p a l b r i j → Aligned t u p a b i j
  place-aligned {t} {u} {p} {l} {a} {b} {i} {j} c e f h =
      let step = turn-both a b c in
      let h' : Place t u p a [] b [] i j = subst (λ (z : List ℕ). Place t u p a z b [] i j) e
      (subst (λ (z : List ℕ). Place t u p a l b z i j) f h) in
      record {
        aligned = record {
          given = h'.given ∙ ap (λ es. with_prefix p es) step.given;
          few = h'.few;
          short = omega (arith, h'.short, longest-children a);
        };
        visits = omega (arith, h'.visits, step.visited);
      }

  -- the prefixes are equal
  pub place-equal : (t : Trie V) (u : Trie W) (l : List ℕ) (i : ℕ) → is_canonical t ≡ true → l ≡ prefix_of t
      → prefix_of t ≡ prefix_of u → Aligned t u l t u i i
  place-equal t u l i c e f =
      let whole_left : l ≡ l ++ [] = sym (append-nil l) in
      place-aligned {t = t} {u = u} {p = l} {l = []} {r = []} {a = t} {b = u} {i = i} {j = i} c refl refl
      (place-common {t = t} {u = u} {p = []} {l = []} {r = []} {k = l} {q = prefix_of u} {a = t} {b = u} {i = i} {j = i}
      l whole_left (sym f ∙ sym e ∙ whole_left)
      (place-start t u l (prefix_of u) i c e refl))
