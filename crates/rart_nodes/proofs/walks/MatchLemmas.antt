-- A descent that collects what it passes gives the pairs whose key begins the string.
use Rattle.std.proofs.Common.{◌≡◌, ℕ, ◌+◌, ◌-◌, ◌≤◌, ◌<◌, ◌==◌, Bool, true, false, List, [], ◌∷◌, ◌++◌, length}
use Rattle.std.proofs.Common.{length-append, take, drop, refl, sym, ap, subst, ◌∙◌, arith, Option, Some, None, is_some}
use Rattle.std.proofs.Common.{if◌then◌else◌, suc, zero}
use Rattle.std.specs.Prelude.{slice_get, IfSome, MatchOption}
use Rattle.std.proofs.lemmas.List.{
  append-nil,
  append_assoc,
  drop-take,
  length-drop,
  length-take-le,
  take-append-drop,
  take-append-le,
  take_all,
}
use Rattle.std.proofs.Math.Seq.{drop-append_seam}
use Rattle.rart_keys.specs.ByteStrings.{strip_prefix, begins}
use Rattle.rart_keys.specs.Filters.{last_or, longest_match, matches}
use Rattle.rart_keys.specs.SortedMap.{keys_of, longest_key}
use Rattle.rart_keys.proofs.strings.ByteOrder.{eq-no}
use Rattle.rart_trie.specs.tries.PrefixLaws.{prefix-none, prefix-twice}
use Rattle.rart_trie.specs.tries.CanonicalTest.{is_canonical}
use Rattle.rart_trie.specs.tries.Tree.{tree_pairs, IsCanonicalTree}
use Rattle.rart_trie.specs.tries.Trie.{AreCanonical, Children, StartsWith, Trie, child, child_in, child_of}
use Rattle.rart_trie.specs.tries.Trie.{children_pairs, no_children, node, own_pair, prefix_of, with_prefix}
use Rattle.rart_nodes.specs.walks.Matches.{Descends, DescendsPast, Passes, collects, entered_ahead, least_bytes}
use Rattle.rart_nodes.specs.walks.Matches.{matches_ahead, pair_at, tree_matches}
use Rattle.rart_trie.specs.walks.ProbeCount.{probe_count, counts, tree_entered}
use Rattle.rart_trie.proofs.tries.CanonicalTests.{IsCanonical-test}
use Rattle.rart_trie.proofs.tries.Descents.{Keeps, children-filter, descend-ended, descend-on, descends}
use Rattle.rart_trie.proofs.tries.PrefixedStrings.{strip_prefix-is}
use Rattle.rart_trie.proofs.tries.FirstBytes.{AllFrom, children_pairs-from}
use Rattle.rart_trie.proofs.tries.StepLemmas.{child-falls, few-tree_entered, tree_entered-probe_count}

abbrev begins_within : List ℕ → Option (List ℕ) → Bool
begins_within l None = false
begins_within l (Some r) = begins l r

begins-append : (p l q : List ℕ) → begins (p ++ l) q ≡ begins_within l (strip_prefix p q)
begins-append [] l q = refl
begins-append (x ∷ p) l [] = refl
begins-append (x ∷ p) l (y ∷ q) = elim (x == y) as (λ b. is_some (if b then strip_prefix (p ++ l) q else None)
    ≡ begins_within l (if b then strip_prefix p q else None)) [ true ↦ begins-append p l q | false ↦ refl ]

-- where a string is read on after d bytes and the prefix p, and r is left
pub record SplitAt (p q r : List ℕ) (d d1 : ℕ) : Type 0 where
  pub within : d1 ≤ length q
  pub longer : d1 ≡ d + length p
  pub front : take d1 q ≡ take d q ++ p
  pub after : drop d1 q ≡ r

pub split-at : (p q k r : List ℕ) (d d1 : ℕ) → d ≤ length q → k ≡ drop d q → Some r ≡ strip_prefix p k
    → d1 ≡ length q - length r → SplitAt p q r d d1
split-at p q k r d d1 l i e f =
    let a : List ℕ = take d q ++ p in
    let whole : q ≡ a ++ r = sym (take-append-drop d q)
    ∙ ap (λ z. take d q ++ z) (sym i ∙ sym (strip_prefix-is p k r (sym e))) ∙ sym (append_assoc (take d q) p r) in
    let n : d1 ≡ length a = omega (arith, f, ap length whole, length-append a r) in
    record {
      within = omega arith;
      longer = omega (arith, n, length-append (take d q) p, length-take-le d q l);
      front = ap (take d1) whole ∙ ap (λ m. take m (a ++ r)) n ∙ take-append-le (length a) a r (omega arith)
          ∙ take_all (length a) a (omega arith);
      after = ap (drop d1) whole ∙ ap (λ m. drop m (a ++ r)) n ∙ drop-append_seam a r;
    }

-- of fewer bytes as much is left as there are of them
strip-cut : (p k r : List ℕ) (m : ℕ) → Some r ≡ strip_prefix p k
    → Some (take m r) ≡ strip_prefix p (take (length p + m) k)
strip-cut [] k r m e =
    let i : r ≡ k = cc in
    let n : length {A = ℕ} [] + m ≡ m = omega arith in
    rw (n, i) refl
strip-cut (x ∷ p) [] r m e = absurd (cc)
strip-cut (x ∷ p) (y ∷ k) r m e =
    let n : length (x ∷ p) + m ≡ suc (length p + m) = omega arith in
    rw n (elim (x == y) as (λ b. Some r ≡ (if b then strip_prefix p k else None)
    → Some (take m r) ≡ (if b then strip_prefix p (take (length p + m) k) else None)) [
      | true ↦ strip-cut p k r m
      | false ↦ λ h. absurd (cc)
    ] e)

cut-after : (p q k : List ℕ) (d d1 m : ℕ) → k ≡ drop d q → d1 ≡ d + length p
    → drop d (take (d1 + m) q) ≡ take (length p + m) k
cut-after p q k d d1 m i e =
    let n : d1 + m ≡ d + (length p + m) = omega (arith, e) in
    ap (λ z. drop d (take z q)) n ∙ drop-take d (length p + m) q ∙ ap (take (length p + m)) (sym i)

nothing-cut : (m : ℕ) (r : List ℕ) → None ≡ slice_get r 0 → None ≡ slice_get (take m r) 0
nothing-cut zero r h = refl
nothing-cut (suc m) [] h = refl
nothing-cut (suc m) (x ∷ r) h = h

first-cut : (m : ℕ) (r : List ℕ) (b : ℕ) → 0 < m → Some b ≡ slice_get r 0 → Some b ≡ slice_get (take m r) 0
first-cut zero r b more h = absurd (omega (arith, more))
first-cut (suc m) [] b more h = h
first-cut (suc m) (x ∷ r) b more h = h

pub rest-fits : (p q k r : List ℕ) (d : ℕ) → k ≡ drop d q → Some r ≡ strip_prefix p k → length r ≤ length q
rest-fits p q k r d i e = omega (
  arith,
  ap length (sym (strip_prefix-is p k r (sym e))),
  length-append p r,
  ap length i,
  length-drop d q,
)

module _ {V : Type 0} where
  abbrev matches_within : List ℕ → Option (List ℕ) → List (List ℕ × V) → List (List ℕ × V)
  matches_within p None es = []
  matches_within p (Some r) es = with_prefix p (matches r es)

  matches-after : (p q : List ℕ) (es : List (List ℕ × V))
      → matches q (with_prefix p es) ≡ matches_within p (strip_prefix p q) es
  matches-after p q [] = elim (strip_prefix p q) as (λ o. ◌≡◌ {A = List (List ℕ × V)} [] (matches_within p o []))
      [ None ↦ refl | Some r ↦ refl ]
  matches-after p q (e ∷ es) = rw (begins-append p e.0 q, matches-after p q es)
      (elim (strip_prefix p q) as (λ o. (if begins_within e.0 o then (p ++ e.0, e.1) ∷ matches_within p o es
      else matches_within p o es) ≡ matches_within p o (e ∷ es)) [
        | None ↦ refl
        | Some r ↦ elim (begins e.0 r) as (λ b. (if b then (p ++ e.0, e.1) ∷ with_prefix p (matches r es)
            else with_prefix p (matches r es)) ≡ with_prefix p (if b then e ∷ matches r es else matches r es))
            [ true ↦ refl | false ↦ refl ]
      ])

  matches-nil : (low : ℕ) (es : List (List ℕ × V)) → AllFrom low es → matches [] es ≡ []
  matches-nil low [] f = refl
  matches-nil low (([], v) ∷ es) f = absurd f.0
  matches-nil low ((x ∷ k, v) ∷ es) f = matches-nil low es f.1

  matches-here : (q : List ℕ) (v : Option V) (es : List (List ℕ × V))
      → matches q (own_pair v ++ es) ≡ own_pair v ++ matches q es
  matches-here q None es = refl
  matches-here q (Some v) es = refl

  matches-kept : Keeps {V = V} collects (λ q o a. a ≡ matches q (tree_pairs o))
  matches-kept = record {
    absent = λ q. refl;
    left = λ q p v n cs w s. sym (matches-after p q (own_pair v ++ children_pairs cs) ∙ rw s refl);
    ended = λ q p v n cs w s. sym (matches-after p q (own_pair v ++ children_pairs cs)
        ∙ rw s (ap (with_prefix p) (matches-here [] v (children_pairs cs)
        ∙ rw (matches-nil 0 (children_pairs cs) (children_pairs-from 0 cs w.2)) (append-nil (own_pair v)))));
    on = λ q p v n cs b r a w s h. sym (matches-after p q (own_pair v ++ children_pairs cs)
        ∙ rw s (ap (with_prefix p) (matches-here (b ∷ r) v (children_pairs cs)
        ∙ ap (λ z. own_pair v ++ z) (children-filter (λ e. begins e.0 (b ∷ r)) b cs w.2
        (λ x k v n. rw (eq-no x b n) refl) ∙ sym h))));
  }

  prefix-own : (q : List ℕ) (v : Option V) (es : List (List ℕ × V))
      → with_prefix q (own_pair v ++ es) ≡ pair_at q v ++ with_prefix q es
  prefix-own q None es = refl
  prefix-own q (Some v) es = ap (λ k. (k, v) ∷ with_prefix q es) (append-nil q)

  not-shorter : (p : List ℕ) (v : Option V) (n : ℕ) (cs : Children V) (d d1 : ℕ) → d1 ≡ d + length p
      → d + least_bytes (Some (node p v n cs)) ≤ d1
  not-shorter [] v n cs d d1 e = omega (arith, e)
  not-shorter (b ∷ p) v n cs d d1 e = omega (arith, e)

  first-nonempty : (b : ℕ) (t : Trie V) → StartsWith b (prefix_of t) → least_bytes (Some t) ≡ 1
  first-nonempty b (node [] v n cs) s = absurd s
  first-nonempty b (node (x ∷ p) v n cs) s = refl

  child-nonempty : (b low : ℕ) (cs : Children V) → AreCanonical low cs → least_bytes (child_of b cs) ≡ 1
  child-nonempty b low no_children w = refl
  child-nonempty b low (child c t cs) w = elim (c == b)
      as (λ x. least_bytes (if x then Some t else child_of b cs) ≡ 1) [
        | true ↦ first-nonempty c t w.1
        | false ↦ child-nonempty b (suc c) cs w.3
      ]

  -- A descent along q at the node t after d bytes, where r is left after its prefix, at d1. One along fewer bytes of q
  -- ends there, after d1 bytes,
  ended-here : (t : Trie V) (q k r : List ℕ) (d d1 : ℕ) → d ≤ length q → k ≡ drop d q
      → Some r ≡ strip_prefix (prefix_of t) k → d1 ≡ length q - length r → entered_ahead (take d1 q) d (Some t) ≡ 1
  ended-here (node p v n cs) q k r d d1 l i e f =
      let s = split-at p q k r d d1 l i e f in
      let z : d1 ≡ d1 + 0 = omega arith in
      rw (z, cut-after p q k d d1 0 i s.longer)
      (descend-ended counts (node p v n cs) (take (length p + 0) k) [] (strip-cut p k r 0 e) refl)

  -- or, if q ends there, also after more bytes,
  cut-ended : (t : Trie V) (q k r : List ℕ) (d d1 m : ℕ) → d ≤ length q → k ≡ drop d q
      → Some r ≡ strip_prefix (prefix_of t) k → d1 ≡ length q - length r → None ≡ slice_get r 0
      → entered_ahead (take (d1 + m) q) d (Some t) ≡ 1
  cut-ended (node p v n cs) q k r d d1 m l i e f h =
      let s = split-at p q k r d d1 l i e f in
      rw (cut-after p q k d d1 m i s.longer) (descend-ended counts (node p v n cs) (take (length p + m) k) (take m r)
      (strip-cut p k r m e) (nothing-cut m r h))

  -- or goes on to the same child
  cut-on : (t : Trie V) (q k r : List ℕ) (b d d1 m : ℕ) (o : Option (Trie V)) → is_canonical t ≡ true → d ≤ length q
      → k ≡ drop d q → Some r ≡ strip_prefix (prefix_of t) k → d1 ≡ length q - length r → Some b ≡ slice_get r 0
      → o ≡ child_in b t → 0 < m
      → entered_ahead (take (d1 + m) q) d (Some t) ≡ 1 + entered_ahead (take (d1 + m) q) d1 o
  cut-on (node p v n cs) q k r b d d1 m o c l i e f h j more =
      let s = split-at p q k r d d1 l i e f in
      let after : drop d1 (take (d1 + m) q) ≡ take m r = drop-take d1 m q ∙ ap (take m) s.after in
      rw (cut-after p q k d d1 m i s.longer, after, j) (descend-on counts (node p v n cs) (take (length p + m) k)
      (take m r) b c (strip-cut p k r m e) (first-cut m r b more h))

  -- a descent along q at the node t after d bytes: q ends after its prefix
  pub pass-ended : (t : Trie V) (q k r : List ℕ) (d d1 : ℕ) → d ≤ length q → k ≡ drop d q
      → Some r ≡ strip_prefix (prefix_of t) k → d1 ≡ length q - length r → None ≡ slice_get r 0 → Passes q d t d1 None
  pass-ended (node p v n cs) q k r d d1 l i e f h =
      let s = split-at p q k r d d1 l i e f in
      record {
        within = s.within;
        still = rw (← i) (ap (with_prefix (take d q)) (descend-ended collects (node p v n cs) k r e h)
            ∙ prefix-twice (take d q) p (own_pair v) ∙ ap (λ z. with_prefix z (own_pair v)) (sym s.front))
            ∙ ap (with_prefix (take d1 q)) (sym (append-nil (own_pair v))) ∙ prefix-own (take d1 q) v [];
        counted = rw (← i) (descend-ended counts (node p v n cs) k r e h);
        falls = omega arith;
        past = λ i1. record {
          deeper = not-shorter p v n cs d d1 s.longer;
          nonempty = refl;
          here = omega (arith, ended-here (node p v n cs) q k r d d1 l i e f);
          onward = λ m h1. omega (arith, cut-ended (node p v n cs) q k r d d1 m l i e f h);
        };
      }

  -- or continues by b
  pub pass-on : (t : Trie V) (q k r : List ℕ) (b d d1 : ℕ) (o : Option (Trie V)) → is_canonical t ≡ true → d ≤ length q
      → k ≡ drop d q → Some r ≡ strip_prefix (prefix_of t) k → d1 ≡ length q - length r → Some b ≡ slice_get r 0
      → o ≡ child_in b t → Passes q d t d1 o
  pass-on (node p v n cs) q k r b d d1 o c l i e f h j =
      let s = split-at p q k r d d1 l i e f in
      let below = λ (z : Option (Trie V)). with_prefix p (own_pair v ++ tree_matches r z) in
      record {
        within = s.within;
        still = rw (← i) (ap (with_prefix (take d q)) (descend-on collects (node p v n cs) k r b c e h
            ∙ ap below (sym j)) ∙ prefix-twice (take d q) p (own_pair v ++ tree_matches r o)
            ∙ ap (λ z. with_prefix z (own_pair v ++ tree_matches r o)) (sym s.front))
            ∙ prefix-own (take d1 q) v (tree_matches r o)
            ∙ ap (λ z. pair_at (take d1 q) v ++ with_prefix (take d1 q) (tree_matches z o)) (sym s.after);
        counted = rw (← i) (descend-on counts (node p v n cs) k r b c e h ∙ ap (λ z. 1 + tree_entered r z) (sym j)
            ∙ ap (λ z. 1 + tree_entered z o) (sym s.after));
        falls = child-falls b (node p v n cs) o (sym j);
        past = λ i1. record {
          deeper = not-shorter p v n cs d d1 s.longer;
          nonempty = subst (λ z. least_bytes z ≡ 1) (sym j)
              (child-nonempty b 0 cs (IsCanonical-test (node p v n cs) c).2);
          here = omega (arith, ended-here (node p v n cs) q k r d d1 l i e f);
          onward = λ m h1. omega (arith, cut-on (node p v n cs) q k r b d d1 m o c l i e f h j h1);
        };
      }

  -- or leaves the string at t
  pub pass-none : (t : Trie V) (q k : List ℕ) (d : ℕ) → k ≡ drop d q → None ≡ strip_prefix (prefix_of t) k
      → entered_ahead q d (Some t) ≡ 1
  pass-none (node p v n cs) q k d i e = rw (← i, ← e) refl

  -- what a descent from the top has to pass
  pub matches-ahead : (q : List ℕ) (d : ℕ) (o root : Option (Trie V)) → d ≡ 0 → o ≡ root → IsCanonicalTree root
      → matches_ahead q d o ≡ matches q (tree_pairs root)
  matches-ahead q d o root e f w = rw (e, f) (prefix-none (tree_matches q root)
      ∙ descends collects (λ q o a. a ≡ matches q (tree_pairs o)) matches-kept q root w)

  -- a way down that has ended, m visits after it began at n, entered the nodes that the keys say
  pub all-entered : (q : List ℕ) (d : ℕ) (o root : Option (Trie V)) (m n i : ℕ) → IsCanonicalTree root → o ≡ None
      → m + entered_ahead q d o ≡ i → i ≡ n + tree_entered q root
      → (m ≡ n + probe_count (keys_of (tree_pairs root)) q) × (m ≤ n + length q + 1)
  all-entered q d o root m n i w e h k =
      let none : entered_ahead q d o ≡ 0 = ap (entered_ahead q d) e in
      let count = tree_entered-probe_count q root w in
      let few = few-tree_entered q root w in
      (omega (arith, none, h, k, count), omega (arith, none, h, k, few))

  -- a way down that i visits have led to, with l nodes left of those that it may enter
  pub few-entered : (q : List ℕ) (l : ℕ) (root : Option (Trie V)) (m n i e : ℕ) → IsCanonicalTree root
      → m + l ≡ i + e → i + e ≡ n + tree_entered q root
      → (m ≤ n + probe_count (keys_of (tree_pairs root)) q) × (m ≤ n + length q + 1)
  few-entered q l root m n i e w h k =
      let count = tree_entered-probe_count q root w in
      let few = few-tree_entered q root w in
      (omega (arith, h, k, count), omega (arith, h, k, few))

  pub not-moved : {q : List ℕ} {d n : ℕ} {o : Option (Trie V)} → Descends q d o n d o n
  not-moved = record { deeper = omega arith; onward = λ m h. refl }

  pub moved-past : {q : List ℕ} {d n d1 n1 : ℕ} {o o1 : Option (Trie V)} → DescendsPast q d o n d1 o1 n1
      → Descends q d o n d1 o1 n1
  moved-past p = record {
    deeper = omega (arith, p.deeper, p.nonempty);
    onward = λ m h. p.onward m (omega (arith, h, p.nonempty));
  }

  -- a descent that continues past a node
  pub past-next : {q : List ℕ} {d n d1 n1 d2 n2 : ℕ} {o o1 o2 : Option (Trie V)} → Descends q d o n d1 o1 n1
      → DescendsPast q d1 o1 n1 d2 o2 n2 → DescendsPast q d o n d2 o2 n2
  past-next {q} {d} {n} {d1} {n1} {d2} {n2} {o} {o1} a b =
      let on : (m : ℕ) → n1 + entered_ahead (take (d2 + m) q) d1 o1 ≡ n + entered_ahead (take (d2 + m) q) d o
      = λ m. let e : d1 + (d2 - d1 + m) ≡ d2 + m = omega (arith, b.deeper) in
      subst (λ z. n1 + entered_ahead (take z q) d1 o1 ≡ n + entered_ahead (take z q) d o) e
      (a.onward (d2 - d1 + m) (omega (arith, b.deeper))) in
      let z : d2 + 0 ≡ d2 = omega arith in
      record {
        deeper = omega (arith, a.deeper, b.deeper);
        nonempty = b.nonempty;
        here = b.here ∙ subst (λ x. n1 + entered_ahead (take x q) d1 o1 ≡ n + entered_ahead (take x q) d o) z (on 0);
        onward = λ m h. b.onward m h ∙ on m;
      }

  -- it is before the node t, enters it, and passes it
  pub past-node : {q : List ℕ} {d n d1 n1 d2 n2 : ℕ} {o o1 o2 : Option (Trie V)} {t : Trie V}
      → Descends q d o n d1 o1 n1 → o1 ≡ Some t → Passes q d1 t d2 o2 → n2 ≡ n1 + 1 → DescendsPast q d o n d2 o2 n2
  past-node {q} {d1 = d1} {n1} {d2} {o2 = o2} a e p f = past-next a (rw (e, f) (p.past n1))

  -- a descent from the top, past a node that ends after d1 bytes, entered the nodes that the keys say of these bytes
  pub entered-to : {q : List ℕ} {n d1 n1 : ℕ} {root o1 : Option (Trie V)} → IsCanonicalTree root
      → DescendsPast q 0 root n d1 o1 n1 → n1 ≡ n + probe_count (keys_of (tree_pairs root)) (take d1 q)
  entered-to {q} {n} {d1} {n1} {root} w p = p.here ∙ ap (λ z. n + z) (tree_entered-probe_count (take d1 q) root w)

  pub entered-ahead : (q : List ℕ) (d : ℕ) (o root : Option (Trie V)) → d ≡ 0 → o ≡ root
      → entered_ahead q d o ≡ tree_entered q root
  entered-ahead q d o root e f = rw (e, f) refl

-- a value that was passed is the last so far, and no value leaves the last as it is
pub last-passed : {V : Type 0} (o p : Option (List ℕ × V)) (k : List ℕ) (v : Option V) (es : List (List ℕ × V))
    → MatchOption v (p ≡ o) (λ x. p ≡ Some (k, x)) → last_or p es ≡ last_or o (pair_at k v ++ es)
last-passed o p k None es e = ap (λ z. last_or z es) e
last-passed o p k (Some v) es e = ap (λ z. last_or z es) e

last-short : {V : Type 0} (n : ℕ) (q : List ℕ) (o : Option (List ℕ × V)) (es : List (List ℕ × V))
    → IfSome o (λ p. length p.0 ≤ n) → longest_key es ≤ n → IfSome (last_or o (matches q es)) (λ p. length p.0 ≤ n)
last-short n q o [] h s = h
last-short n q o (e ∷ es) h s = elim (begins e.0 q)
    as (λ b. IfSome (last_or o (if b then e ∷ matches q es else matches q es)) (λ p. length p.0 ≤ n)) [
      | true ↦ last-short n q (Some e) es (omega (arith, s)) (omega (arith, s))
      | false ↦ last-short n q o es h (omega (arith, s))
    ]

-- the longest match is not longer than the longest key
pub match-short : {V : Type 0} (q : List ℕ) (es : List (List ℕ × V)) (k : List ℕ) (v : V)
    → Some (k, v) ≡ longest_match q es → length k ≤ longest_key es
match-short q es k v e = subst (λ o. IfSome o (λ p. length p.0 ≤ longest_key es)) (sym e)
    (last-short (longest_key es) q None es tt (omega arith))
