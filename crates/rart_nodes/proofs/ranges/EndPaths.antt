-- The path to the pair at an end of a node, after bytes in front.
use Rattle.std.proofs.Common.{◌≡◌, ℕ, ◌+◌, ◌≤◌, List, ◌++◌, length, drop, Option, Some, None, option_map, refl, sym, ap}
use Rattle.std.proofs.Common.{◌∙◌, true, arith, length-append, IfSome}
use Rattle.std.proofs.Math.Seq.{drop-append_seam}
use Rattle.std.proofs.lemmas.List.{append_assoc}
use Rattle.rart_keys.specs.KeyBytes.{IsWithin}
use Rattle.rart_keys.specs.SortedMap.{keys_of, longest_key}
use Rattle.rart_trie.specs.declared.node.ends.End.{End}
use Rattle.rart_trie.specs.tries.CanonicalTest.{is_canonical}
use Rattle.rart_trie.specs.tries.Ends.{end_child, end_of}
use Rattle.rart_trie.specs.tries.Trie.{Trie, node, children_pairs, own_pair, pairs_of, prefix_of, value_of}
use Rattle.rart_trie.specs.walks.ProbeCount.{probe_count}
use Rattle.rart_trie.proofs.edits.InsertLemmas.{fewer-within}
use Rattle.rart_nodes.specs.tries.KeysAfter.{after_bytes}
use Rattle.rart_trie.proofs.tries.CanonicalTests.{IsCanonical-test}
use Rattle.rart_trie.proofs.tries.EndLemmas.{TreePath, end-short, end_of-map, tree-start, tree-step, tree-end}

module _ {V : Type 0} where
  -- the key of the pair begins with the prefix of the node
  prefix-within : (e : End) (t : Trie V) (x : List ℕ × V) → end_of e (pairs_of t) ≡ Some x
      → length (prefix_of t) ≤ length x.0
  prefix-within e (node p v n cs) x h = within (end_of e (own_pair v ++ children_pairs cs))
      (sym (end_of-map e (λ y. (p ++ y.0, y.1)) (own_pair v ++ children_pairs cs)) ∙ h)
    where
      within : (o : Option (List ℕ × V)) → option_map (λ y. (p ++ y.0, y.1)) o ≡ Some x → length p ≤ length x.0
      within None s = absurd (cc)
      within (Some y) s = let same : ◌≡◌ {A = List ℕ × V} (p ++ y.0, y.1) x = cc in
          omega (arith, ap (λ z. length z.0) same, length-append p y.0)

  -- A descent from the node u to t along bytes q, the first of which are k, which raised a count from m to n.
  pub record PathAfter (k : List ℕ) (e : End) (u : Trie V) (m : ℕ) (q : List ℕ) (t : Trie V) (n : ℕ) : Type 0 where
    pub rest : List ℕ
    pub path : q ≡ k ++ rest
    pub below : TreePath e (Some u) m rest t n

  pub path-start : (k : List ℕ) (e : End) (u t : Trie V) (m n : ℕ) (q : List ℕ) → is_canonical t ≡ true → t ≡ u
      → q ≡ k ++ prefix_of t → n ≡ m + 1 → PathAfter k e u m q t n
  path-start k e u t m n q w h p i = record {
    rest = prefix_of t;
    path = p;
    below = tree-start e (Some u) t m n (prefix_of t) w (ap Some (sym h)) refl i;
  }

  pub path-step : (k : List ℕ) (e : End) (u t s : Trie V) (m n l : ℕ) (q r : List ℕ) → is_canonical t ≡ true
      → PathAfter k e u m q t n → option_map (λ e. e.1) (end_child e t) ≡ Some s → r ≡ q ++ prefix_of s → l ≡ n + 1
      → PathAfter k e u m r s l
  path-step k e u t s m n l q r w c h p i = record {
    rest = c.rest ++ prefix_of s;
    path = p ∙ ap (λ z. z ++ prefix_of s) c.path ∙ append_assoc k c.rest (prefix_of s);
    below = tree-step e (Some u) t s m n l c.rest (c.rest ++ prefix_of s) w c.below h refl i;
  }

  -- it fits where the whole key does
  pub path-fits : (maximum : Option ℕ) (k : List ℕ) (e : End) (u t : Trie V) (m n l : ℕ) (q : List ℕ)
      → PathAfter k e u m q t n → IfSome (end_of e (pairs_of u)) (λ x. IsWithin maximum (length k + length x.0))
      → l ≤ length q → IsWithin maximum l
  path-fits maximum k e u t m n l q c w h =
      let whole : IsWithin maximum (length k + length (c.below.front ++ c.below.rest.0)) = rw c.below.whole at w in
      fewer-within maximum (length k + length (c.below.front ++ c.below.rest.0)) l (omega (
        arith,
        h,
        ap length c.path,
        length-append k c.rest,
        ap length c.below.path,
        length-append c.below.front (prefix_of t),
        length-append c.below.front c.below.rest.0,
        prefix-within e t c.below.rest c.below.here,
      )) whole

  -- what isn't longer than a key of the longest length can be
  pub ends-within : (maximum : Option ℕ) (e : End) (es : List (List ℕ × V)) (size : List ℕ × V → ℕ) (l : ℕ)
      → ((x : List ℕ × V) → length x.0 ≤ longest_key es → size x ≤ l) → IsWithin maximum l
      → IfSome (end_of e es) (λ x. IsWithin maximum (size x))
  ends-within maximum e es size l h w = found (end_of e es) refl
    where
      found : (o : Option (List ℕ × V)) → end_of e es ≡ o → IfSome o (λ x. IsWithin maximum (size x))
      found None s = tt
      found (Some x) s = fewer-within maximum l (size x) (h x (end-short e x es s)) w

  -- where it ends
  pub record PathEnd (k : List ℕ) (e : End) (u : Trie V) (m : ℕ) (q : List ℕ) (t : Trie V) (n : ℕ) : Type 0 where
    pub value : V
    pub own : value_of t ≡ Some value
    pub pair : after_bytes k (end_of e (pairs_of u)) ≡ Some (q, value)
    pub visits : n ≡ m + probe_count (keys_of (pairs_of u)) (drop (length k) q)

  pub path-end : (k : List ℕ) (e : End) (u t : Trie V) (m n : ℕ) (q : List ℕ) → is_canonical u ≡ true
      → is_canonical t ≡ true → PathAfter k e u m q t n
      → ◌≡◌ {A = Option (Trie V)} (option_map (λ e. e.1) (end_child e t)) None → PathEnd k e u m q t n
  path-end k e u t m n q c w p h =
      let end = tree-end e (Some u) t m n p.rest (IsCanonical-test u c) w p.below h in
      record {
        value = end.value;
        own = end.own;
        pair = ap (after_bytes k) end.pair ∙ ap (λ z. Some (z, end.value)) (sym p.path);
        visits = end.visits ∙ ap (λ z. m + probe_count (keys_of (pairs_of u)) z)
            (sym (drop-append_seam k p.rest) ∙ ap (drop (length k)) (sym p.path));
      }
