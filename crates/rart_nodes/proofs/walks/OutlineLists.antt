-- The text of a tree, node by node, is that of its list of nodes.
use Rattle.std.proofs.Common.{◌≡◌, ℕ, suc, ◌+◌, List, [], ◌∷◌, ◌++◌, length, drop, length-append, Option, Some}
use Rattle.std.proofs.Common.{None, is_some, true, false, refl, ap, ap₂, ◌∙◌, sym, arith, if◌then◌else◌}
use Rattle.std.specs.Fmt.{◌++?◌}
use Rattle.std.proofs.lemmas.List.{append-nil}
use Rattle.std.proofs.lemmas.List.Elements.{filter-append}
use Rattle.rart_keys.specs.ByteStrings.{byte_after, bytes_eq}
use Rattle.rart_keys.specs.SortedMap.{longest_key, lookup}
use Rattle.rart_keys.proofs.strings.ByteOrder.{eq-no, eq-yes}
use Rattle.rart_trie.specs.shapes.Shape.{NodeRecord}
use Rattle.rart_trie.specs.tries.PrefixLaws.{length-with_prefix}
use Rattle.rart_trie.specs.tries.Trie.{Trie, node, Children, no_children, child, children_pairs, own_pair, pairs_of}
use Rattle.rart_trie.specs.tries.Trie.{with_prefix, with_records, children_with_records, nodes_of, record_of}
use Rattle.rart_trie.specs.tries.Trie.{StartsWith, IsCanonical, AreCanonical}
use Rattle.rart_trie.proofs.tries.FirstBytes.{AllFirst, AllFrom, IsFrom, children_pairs-from, pairs_of-first}
use Rattle.rart_trie.proofs.tries.PairLemmas.{lookup-append, lookup-nil, lookup-own_pair, or_else, or_none}
use Rattle.rart_trie.proofs.shapes.ShapeLemmas.{canonical-children_with_records, prefix-with_records}
use Rattle.rart_nodes.specs.walks.Outlines.{children_outline, line_under, lines, listed_outline, node_line, nodes_above}
use Rattle.rart_nodes.specs.walks.Outlines.{outline_below}
use Rattle.rart_nodes.proofs.walks.OutlineLemmas.{then-assoc}

after-both : (p x q : List ℕ) → byte_after (p ++ x) (p ++ q) ≡ byte_after x q
after-both [] x q = refl
after-both (b ∷ p) x q = rw (eq-yes b b refl) (after-both p x q)

equal-both : (p x q : List ℕ) → bytes_eq (p ++ x) (p ++ q) ≡ bytes_eq x q
equal-both [] x q = refl
equal-both (b ∷ p) x q = rw (eq-yes b b refl) (equal-both p x q)

after-none : (x : List ℕ) → byte_after x [] ≡ None
after-none [] = refl
after-none (b ∷ x) = refl

drop-both : (p q : List ℕ) (k : ℕ) → drop (length p + k) (p ++ q) ≡ drop k q
drop-both [] q k = let none : 0 + k ≡ k = omega arith in ap (λ n. drop n q) none
drop-both (b ∷ p) q k = let one_more : suc (length p) + k ≡ suc (length p + k) = omega arith in
    ap (λ n. drop n (b ∷ p ++ q)) one_more ∙ drop-both p q k

nothing-then : (o : Option (List ℕ)) → Some [] ++? o ≡ o
nothing-then None = refl
nothing-then (Some a) = refl

module _ {X : Type 0} where
  lookup-both : (p q : List ℕ) (es : List (List ℕ × X)) → lookup (p ++ q) (with_prefix p es) ≡ lookup q es
  lookup-both p q [] = refl
  lookup-both p q (e ∷ es) = rw (equal-both p e.0 q, lookup-both p q es) refl

  lookup-none_from : (low : ℕ) (es : List (List ℕ × X)) → AllFrom low es → lookup [] es ≡ None
  lookup-none_from low [] f = refl
  lookup-none_from low (([], v) ∷ es) f = absurd f.0
  lookup-none_from low ((x ∷ k, v) ∷ es) f = lookup-none_from low es f.1

  lookup-later : (b : ℕ) (q : List ℕ) (es : List (List ℕ × X)) → StartsWith b q → AllFrom (suc b) es
      → lookup q es ≡ None
  lookup-later b q [] s f = refl
  lookup-later b [] (e ∷ es) s f = absurd s
  lookup-later b (x ∷ q) (([], v) ∷ es) s f = absurd f.0
  lookup-later b (x ∷ q) ((y ∷ k, v) ∷ es) s f
      = rw (eq-no y x (λ e. absurd (omega (arith, e, s, f.0)))) (lookup-later b (x ∷ q) es s f.1)

  lookup-earlier : (b : ℕ) (q : List ℕ) (es : List (List ℕ × X)) → IsFrom (suc b) q → AllFirst b es
      → lookup q es ≡ None
  lookup-earlier b q [] s f = refl
  lookup-earlier b [] (e ∷ es) s f = absurd s
  lookup-earlier b (x ∷ q) (([], v) ∷ es) s f = absurd f.0
  lookup-earlier b (x ∷ q) ((y ∷ k, v) ∷ es) s f
      = rw (eq-no y x (λ e. absurd (omega (arith, e, s, f.0)))) (lookup-earlier b (x ∷ q) es s f.1)

-- the nodes above a string that begins as a node's child does are the node and those below it
above-both : (p q : List ℕ) (ns : List (List ℕ × NodeRecord))
    → nodes_above (p ++ q) (with_prefix p ns) ≡ with_prefix p (nodes_above q ns)
above-both p q [] = refl
above-both p q (n ∷ ns) = rw (after-both p n.0 q) (elim (is_some (byte_after n.0 q))
    as (λ z. (if z then (p ++ n.0, n.1) ∷ nodes_above (p ++ q) (with_prefix p ns)
    else nodes_above (p ++ q) (with_prefix p ns))
    ≡ with_prefix p (if z then n ∷ nodes_above q ns else nodes_above q ns))
    [ true ↦ ap (λ z. (p ++ n.0, n.1) ∷ z) (above-both p q ns) | false ↦ above-both p q ns ])

above-none : (ns : List (List ℕ × NodeRecord)) → nodes_above [] ns ≡ []
above-none [] = refl
above-none (n ∷ ns) = rw (after-none n.0) (above-none ns)

above-later : (b : ℕ) (q : List ℕ) (ns : List (List ℕ × NodeRecord)) → StartsWith b q → AllFrom (suc b) ns
    → nodes_above q ns ≡ []
above-later b q [] s f = refl
above-later b [] (n ∷ ns) s f = absurd s
above-later b (x ∷ q) (([], r) ∷ ns) s f = absurd f.0
above-later b (x ∷ q) ((y ∷ k, r) ∷ ns) s f
    = rw (eq-no x y (λ e. absurd (omega (arith, e, s, f.0)))) (above-later b (x ∷ q) ns s f.1)

above-earlier : (b : ℕ) (q : List ℕ) (ns : List (List ℕ × NodeRecord)) → IsFrom (suc b) q → AllFirst b ns
    → nodes_above q ns ≡ []
above-earlier b q [] s f = refl
above-earlier b [] (n ∷ ns) s f = absurd s
above-earlier b (x ∷ q) (([], r) ∷ ns) s f = absurd f.0
above-earlier b (x ∷ q) ((y ∷ k, r) ∷ ns) s f
    = rw (eq-no x y (λ e. absurd (omega (arith, e, s, f.0)))) (above-earlier b (x ∷ q) ns s f.1)

longest-after : (p : List ℕ) (ns : List (List ℕ × NodeRecord)) (r : NodeRecord)
    → longest_key ((p ++ [], r) ∷ with_prefix p ns) ≡ length p + longest_key ns
longest-after p [] r = omega (arith, length-append p [])
longest-after p (n ∷ ns) r = omega (arith, length-append p [], length-append p n.0, longest-after p ns r)

module _ {X : Type 0} where
  lines-append : (f : X → Option (List ℕ)) (xs ys : List X) → lines f (xs ++ ys) ≡ lines f xs ++? lines f ys
  lines-append f [] ys = sym (nothing-then (lines f ys))
  lines-append f (x ∷ xs) ys = ap (λ z. f x ++? z) (lines-append f xs ys)
      ∙ sym (then-assoc (f x) (lines f xs) (lines f ys))

module _ {X : Type 0} where
  lines-both : (f : List ℕ × X → Option (List ℕ)) (p : List ℕ) (ns : List (List ℕ × X))
      → lines f (with_prefix p ns) ≡ lines (λ n. f (p ++ n.0, n.1)) ns
  lines-both f p [] = refl
  lines-both f p (n ∷ ns) = ap (λ z. f (p ++ n.0, n.1) ++? z) (lines-both f p ns)

module _ {X : Type 0} (f g : List ℕ × X → Option (List ℕ)) where
  lines-first : (b : ℕ) (ns : List (List ℕ × X)) → AllFirst b ns
      → ((n : List ℕ × X) → StartsWith b n.0 → f n ≡ g n) → lines f ns ≡ lines g ns
  lines-first b [] a h = refl
  lines-first b (n ∷ ns) a h = ap₂ (λ x y. x ++? y) (h n a.0) (lines-first b ns a.1 h)

  lines-from : (low : ℕ) (ns : List (List ℕ × X)) → AllFrom low ns
      → ((n : List ℕ × X) → IsFrom low n.0 → f n ≡ g n) → lines f ns ≡ lines g ns
  lines-from low [] a h = refl
  lines-from low (n ∷ ns) a h = ap₂ (λ x y. x ++? y) (h n a.0) (lines-from low ns a.1 h)

module _ {V : Type 0} (shown : V → Option (List ℕ)) where
  abbrev line : ℕ → List (List ℕ × V) → List (List ℕ × NodeRecord) → List ℕ × NodeRecord → Option (List ℕ)
  line level es ns n = line_under shown level (nodes_above n.0 ns) (lookup n.0 es) n

  -- below a node, its prefix is in front and it is one more node above
  line-below : (level : ℕ) (p : List ℕ) (v : Option V) (r : NodeRecord) (es : List (List ℕ × V))
      (ns : List (List ℕ × NodeRecord)) (n : List ℕ × NodeRecord) → IsFrom 0 n.0
      → line level (with_prefix p (own_pair v ++ es)) ((p ++ [], r) ∷ with_prefix p ns) (p ++ n.0, n.1)
      ≡ line (suc level) es ns n
  line-below level p v r es ns ([], m) f = absurd f
  line-below level p v r es ns (x ∷ q, m) f =
      let above = nodes_above (x ∷ q) ns in
      let more : nodes_above (p ++ x ∷ q) ((p ++ [], r) ∷ with_prefix p ns) ≡ (p ++ [], r) ∷ with_prefix p above
      = rw (after-both p [] (x ∷ q)) (ap (λ z. (p ++ [], r) ∷ z) (above-both p (x ∷ q) ns)) in
      let value : lookup (p ++ x ∷ q) (with_prefix p (own_pair v ++ es)) ≡ lookup (x ∷ q) es
      = lookup-both p (x ∷ q) (own_pair v ++ es) ∙ lookup-own_pair x q v es in
      let deep : level + length ((p ++ [], r) ∷ with_prefix p above) ≡ suc level + length above
      = omega (arith, length-with_prefix p above) in
      let rest : drop (longest_key ((p ++ [], r) ∷ with_prefix p above)) (p ++ x ∷ q)
      ≡ drop (longest_key above) (x ∷ q)
      = ap (λ z. drop z (p ++ x ∷ q)) (longest-after p above r) ∙ drop-both p (x ∷ q) (longest_key above) in
      ap₂ (λ a z. line_under shown level a z (p ++ x ∷ q, m)) more value
      ∙ ap₂ (λ d z. node_line shown d z (lookup (x ∷ q) es) m.capacity) deep rest

  mutual
    outline-listed : (level : ℕ) (t : Trie V) → IsCanonical t
        → outline_below shown level t ≡ lines (line level (pairs_of t) (nodes_of t)) (nodes_of t)
    outline-listed level (node p v n cs) w =
        let r = record_of (node p v n cs) in
        let below = children_pairs (children_with_records cs) in
        let es = children_pairs cs in
        let up = canonical-children_with_records 0 cs w.2 in
        let f = line level (with_prefix p (own_pair v ++ es)) ((p ++ [], r) ∷ with_prefix p below) in
        let none : nodes_above (p ++ []) ((p ++ [], r) ∷ with_prefix p below) ≡ []
        = above-both p [] (([], r) ∷ below) ∙ ap (with_prefix p) (above-none (([], r) ∷ below)) in
        let own : lookup (p ++ []) (with_prefix p (own_pair v ++ es)) ≡ v
        = lookup-both p [] (own_pair v ++ es)
        ∙ lookup-nil v es (lookup-none_from 0 es (children_pairs-from 0 cs w.2)) in
        let flat : level + 0 ≡ level = omega arith in
        let head : f (p ++ [], r) ≡ node_line shown level p v n
        = ap₂ (λ a z. line_under shown level a z (p ++ [], r)) none own
        ∙ ap₂ (λ d z. node_line shown d z v n) flat (append-nil p) in
        sym (ap₂ (λ x y. x ++? y) head (lines-both f p below
        ∙ lines-from (λ e. f (p ++ e.0, e.1)) (line (suc level) es below) 0 below
        (children_pairs-from 0 (children_with_records cs) up) (λ e z. line-below level p v r es below e z)
        ∙ sym (children-listed (suc level) 0 cs w.2)))

    children-listed : (level low : ℕ) (cs : Children V) → AreCanonical low cs → children_outline shown level cs
        ≡ lines (line level (children_pairs cs) (children_pairs (children_with_records cs)))
        (children_pairs (children_with_records cs))
    children-listed level low no_children w = refl
    children-listed level low (child b t cs) w =
        let es = pairs_of t in
        let fs = children_pairs cs in
        let ns = nodes_of t in
        let ms = children_pairs (children_with_records cs) in
        let first : AllFirst b ns = pairs_of-first b (with_records t) (rw (prefix-with_records t) w.1) in
        let later : AllFrom (suc b) ms
        = children_pairs-from (suc b) (children_with_records cs) (canonical-children_with_records (suc b) cs w.3) in
        let f = line level (es ++ fs) (ns ++ ms) in
        let own : (n : List ℕ × NodeRecord) → StartsWith b n.0 → f n ≡ line level es ns n
        = λ n s. ap₂ (λ a z. line_under shown level a z n)
        (filter-append (λ m. is_some (byte_after m.0 n.0)) ns ms
        ∙ ap (λ z. nodes_above n.0 ns ++ z) (above-later b n.0 ms s later) ∙ append-nil (nodes_above n.0 ns))
        (lookup-append n.0 es fs ∙ ap (λ z. or_else (lookup n.0 es) z)
        (lookup-later b n.0 fs s (children_pairs-from (suc b) cs w.3)) ∙ or_none (lookup n.0 es)) in
        let others : (n : List ℕ × NodeRecord) → IsFrom (suc b) n.0 → f n ≡ line level fs ms n
        = λ n s. ap₂ (λ a z. line_under shown level a z n)
        (filter-append (λ m. is_some (byte_after m.0 n.0)) ns ms
        ∙ ap (λ z. z ++ nodes_above n.0 ms) (above-earlier b n.0 ns s first))
        (lookup-append n.0 es fs ∙ ap (λ z. or_else z (lookup n.0 fs))
        (lookup-earlier b n.0 es s (pairs_of-first b t w.1))) in
        ap₂ (λ x y. x ++? y)
        (outline-listed level t w.2 ∙ sym (lines-first f (line level es ns) b ns first own))
        (children-listed level (suc b) cs w.3 ∙ sym (lines-from f (line level fs ms) (suc b) ms later others))
        ∙ sym (lines-append f ns ms)

  -- of a whole tree
  pub outline-tree : (t : Trie V) → IsCanonical t
      → outline_below shown 0 t ≡ listed_outline shown (pairs_of t) (nodes_of t)
  outline-tree t w = outline-listed 0 t w
