-- What a walk has visited beyond two nodes for each pair, level by level.
use Rattle.std.proofs.Common.{◌≡◌, ℕ, ◌+◌, ◌≤◌, ⊎_elim, true, eqb, List, [], ◌∷◌, ◌++◌}
use Rattle.std.proofs.Common.{length, length-append, reverse, Option, Some, None, refl, ap, ◌∙◌, arith, subst}
use Rattle.std.proofs.lemmas.List.{length-reverse}
use Rattle.rart_keys.specs.SortedMap.{keys_of}
use Rattle.rart_nodes.specs.ranges.Potential.{up_to_one, up_to_two, amortized_visits, potential, AreLow, IsAmortized}
use Rattle.rart_nodes.specs.ranges.Potential.{tree_height}
use Rattle.rart_trie.specs.stats.Stats.{children_height, height, trie_height}
use Rattle.rart_trie.specs.tries.CanonicalTest.{is_canonical}
use Rattle.rart_trie.specs.tries.Tree.{tree_pairs}
use Rattle.rart_trie.specs.tries.Trie.{Trie, node, Children, no_children, child, child_of, children_in}
use Rattle.rart_trie.specs.tries.Trie.{child_in, value_of, IsCanonical}
use Rattle.rart_trie.specs.walks.Walk.{Level}
use Rattle.rart_nodes.specs.walks.WalkSteps.{DeepestLeft, DeepestStep, PushesLevel}
use Rattle.rart_trie.proofs.tree_stats.StatsLemmas.{height-keys}
use Rattle.rart_trie.proofs.tries.CanonicalTests.{IsCanonical-test}
use Rattle.rart_trie.proofs.tries.StepLemmas.{pick}
use Rattle.rart_nodes.proofs.walks.PathLemmas.{IsChildOf, deepest}
use Rattle.rart_nodes.proofs.walks.WalkLemmas.{left-level, level-before, went}
use Rattle.rart_nodes.proofs.walks.WalkVisits.{has-child}

alone : (V : Type 0) (p : List ℕ) (n b : ℕ) (t : Trie V) → IsCanonical {V = V} (node p None n (child b t no_children))
    → ⊥
alone V p n b t w = ⊎_elim (λ h. cc) (λ h. absurd h) w.0

module _ {V : Type 0} where
  one-few : (cs : Children V) → up_to_one cs ≤ 1
  one-few no_children = omega arith
  one-few (child b t cs) = omega arith

  two-few : (cs : Children V) → up_to_two cs ≤ 2
  two-few no_children = omega arith
  two-few (child b t cs) = omega (arith, one-few cs)

  one-two : (cs : Children V) → up_to_one cs ≤ up_to_two cs
  one-two no_children = omega arith
  one-two (child b t cs) = omega arith

  height-node : (t : Trie V) → trie_height t ≡ 1 + children_height (children_in t)
  height-node (node p v n cs) = refl

  amortized_visits-few : (l : Level V) (ls : List (Level V)) → amortized_visits (l ∷ ls) ≤ length ls
  amortized_visits-few l [] = omega arith
  amortized_visits-few l (m ∷ ls) = omega (arith, one-few l.0, amortized_visits-few m ls)

  amortized_visits-potential : (ls : List (Level V)) → amortized_visits ls ≤ potential ls
  amortized_visits-potential [] = omega arith
  amortized_visits-potential (l ∷ []) = omega arith
  amortized_visits-potential (l ∷ m ∷ ls) = omega (arith, one-two l.0)

  potential-low : (h : ℕ) (ls : List (Level V)) → AreLow h ls → potential ls ≤ h
  potential-low h [] w = omega arith
  potential-low h (l ∷ []) w = omega (arith, w.0, one-few l.0)
  potential-low h (l ∷ m ∷ ls) w = omega (arith, w.0, two-few l.0, amortized_visits-few m ls)

  -- the deepest level with a child left, and without one
  potential-child : (b d : ℕ) (t : Trie V) (cs : Children V) (ls : List (Level V)) → potential ((child b t cs, d) ∷ ls)
      ≡ 1 + amortized_visits ((cs, d) ∷ ls)
  potential-child b d t cs [] = omega arith
  potential-child b d t cs (m ∷ ls) = omega arith

  potential-left : (d : ℕ) (ls : List (Level V)) → potential ((no_children, d) ∷ ls) ≤ potential ls
  potential-left d [] = omega arith
  potential-left d (m ∷ ls) = omega (arith, amortized_visits-potential (m ∷ ls))

  two-children : (t : Trie V) → is_canonical t ≡ true → None ≡ value_of t → up_to_two (children_in t) ≡ 2
  two-children (node p None n no_children) w v = absurd (has-child (node p None n no_children) w v refl)
  two-children (node p None n (child b t no_children)) w v
      = absurd (alone V p n b t (IsCanonical-test {V = V} (node p None n (child b t no_children)) w))
  two-children (node p None n (child b t (child c u cs))) w v = refl
  two-children (node p (Some x) n cs) w v = absurd (cc)

  low-child : (h b d n : ℕ) (t : Trie V) (cs : Children V) (ls : List (Level V)) → AreLow h ((child b t cs, d) ∷ ls)
      → AreLow h ((children_in t, n) ∷ (cs, d) ∷ ls)
  low-child h b d n t cs ls w = (omega (arith, w.0, height-node t), (omega (arith, w.0), w.1))

  potential-step : (d : ℕ) (t : Trie V) (st st1 : List (Level V)) → (s : DeepestStep st t d st1)
      → potential (reverse st) ≡ 1 + amortized_visits ((s.others, d) ∷ reverse s.rest)
  potential-step d t st st1 s = ap potential (level-before d t st st1 s)
      ∙ potential-child s.edge d t s.others (reverse s.rest)

  -- the node that was visited has no value
  pub potential-on : (n m m1 k d p : ℕ) (t : Trie V) (st st1 st2 : List (Level V)) → is_canonical t ≡ true
      → None ≡ value_of t → DeepestStep st t d st1 → PushesLevel st1 t p st2 → m1 ≡ m + 1
      → m + k ≤ n + potential (reverse st) → m1 + k ≤ n + potential (reverse st2)
  potential-on n m m1 k d p t st st1 st2 w v s o i h = ⊎_elim
      (λ e. let f : potential (reverse st2) ≡ up_to_two (children_in t)
      + amortized_visits ((s.others, d) ∷ reverse s.rest) = ap potential e in
      omega (arith, i, h, f, two-children t w v, potential-step d t st st1 s))
      (λ e. absurd (has-child t w v e.1)) (went d p t st st1 st2 s o)

  pub low-on : (h d p : ℕ) (t : Trie V) (st st1 st2 : List (Level V)) → DeepestStep st t d st1 → PushesLevel st1 t p st2
      → AreLow h (reverse st) → AreLow h (reverse st2)
  low-on h d p t st st1 st2 s o w =
      let q : AreLow h ((child s.edge t s.others, d) ∷ reverse s.rest)
      = rw (level-before d t st st1 s) at w in
      let r = low-child h s.edge d p t s.others (reverse s.rest) q in
      ⊎_elim (λ e. rw e r) (λ e. rw e.0 r.1) (went d p t st st1 st2 s o)

  -- it has one
  pub amortized-given : (n m m1 d p : ℕ) (t : Trie V) (st0 st st1 st2 : List (Level V)) → DeepestStep st t d st1
      → PushesLevel st1 t p st2 → m1 ≡ m + 1 → m + potential (reverse st0) ≤ n + potential (reverse st)
      → ((h : ℕ) → AreLow h (reverse st0) → AreLow h (reverse st)) → IsAmortized n m1 (reverse st0) (reverse st2)
  amortized-given n m m1 d p t st0 st st1 st2 s o i h w =
      let u : potential (reverse st) ≡ 1 + amortized_visits ((s.others, d) ∷ reverse s.rest)
      = potential-step d t st st1 s in
      record {
        next = ⊎_elim
            (λ e. let f : potential (reverse st2) ≡ up_to_two (children_in t)
            + amortized_visits ((s.others, d) ∷ reverse s.rest) = ap potential e in omega (arith, i, h, f, u))
            (λ e. omega (arith, i, h, ap potential e.0, amortized_visits-potential ((s.others, d) ∷ reverse s.rest), u))
            (went d p t st st1 st2 s o);
        last = λ l q.
            let r : AreLow l ((child s.edge t s.others, d) ∷ reverse s.rest)
            = rw (level-before d t st st1 s) at (w l q) in
            omega (arith, i, h, u, amortized_visits-few (s.others, d) (reverse s.rest), r.0, height-node t);
        low = λ l q. low-on l d p t st st1 st2 s o (w l q);
      }

  -- a pair is given for which nothing is visited
  pub amortized-first : (n : ℕ) (ls : List (Level V)) → IsAmortized n n ls ls
  amortized-first n ls = record {
    next = omega arith;
    last = λ h w. omega (arith, potential-low h ls w);
    low = λ h w.
        w;
  }

  -- the deepest level is left
  pub potential-leave : (n m m1 k : ℕ) (st st1 rest : List (Level V)) (l : Level V) → DeepestLeft st st1
      → st1 ≡ rest ++ l ∷ [] → m1 ≡ m + 0 → m + k ≤ n + potential (reverse st) → m1 + k ≤ n + potential (reverse rest)
  potential-leave n m m1 k st st1 rest l s e i h = let z = left-level st st1 rest l s e in
      omega (arith, i, h, ap potential z.1, potential-left z.0 (reverse rest))

  pub low-leave : (h : ℕ) (st st1 rest : List (Level V)) (l : Level V) → DeepestLeft st st1 → st1 ≡ rest ++ l ∷ []
      → AreLow h (reverse st) → AreLow h (reverse rest)
  low-leave h st st1 rest l s e w =
      let z = left-level st st1 rest l s e in
      let q : AreLow h ((no_children, z.0) ∷ reverse rest) = rw z.1 at w in
      q.1

  -- the way down to a start: a node below n levels is at most h deep
  abbrev pub HasHeight : ℕ → ℕ → Option (Trie V) → Type 0
  HasHeight h n None = Unit {0}
  HasHeight h n (Some t) = n + trie_height t ≤ h

  -- a level of some of the children comes after the others
  pub low-some : (h n : ℕ) (t : Trie V) (cs : Children V) (st st1 : List (Level V)) → AreLow h (reverse st)
      → HasHeight h (length st) (Some t) → children_height cs ≤ children_height (children_in t)
      → st1 ≡ st ++ (cs, n) ∷ [] → AreLow h (reverse st1)
  low-some h n t cs st st1 w i a e = rw (deepest st1 st (cs, n) e)
      (omega (arith, length-reverse st, i, height-node t, a), w)

  child-lower : (b : ℕ) (u : Trie V) (cs : Children V) → child_of b cs ≡ Some u → trie_height u ≤ children_height cs
  child-lower b u no_children e = absurd (cc)
  child-lower b u (child c t cs) e = ⊎_elim (λ q. omega (arith, ap trie_height q))
      (λ q. omega (arith, child-lower b u cs q)) (pick (eqb c b) t u (child_of b cs) e)

  -- a child is lower than its node
  pub tree-lower : (b : ℕ) (t : Trie V) (o : Option (Trie V)) → child_in b t ≡ o → tree_height o ≤ trie_height t
  tree-lower b t None e = omega arith
  tree-lower b t (Some u) e = omega (arith, height-node t, child-lower b u (children_in t) e)

  -- one level with the children of a node
  pub low-start : (h d : ℕ) (t : Trie V) (cs : Children V) (st st1 : List (Level V)) → cs ≡ children_in t → st ≡ []
      → st1 ≡ st ++ (cs, d) ∷ [] → trie_height t ≤ h → AreLow h (reverse st1)
  low-start h d t cs st st1 e i f w = rw (deepest st1 st (cs, d) f)
      (omega (arith, length-reverse st, ap length i, height-node t, ap children_height e, w), rw i tt)

  pub height-on : (h : ℕ) (t : Trie V) (o : Option (Trie V)) (st st1 : List (Level V)) (l : Level V)
      → HasHeight h (length st) (Some t) → st1 ≡ st ++ l ∷ [] → IsChildOf t o → HasHeight h (length st1) o
  height-on h t None st st1 l w f e = tt
  height-on h t (Some u) st st1 l w f e = omega
      (arith, w, height-node t, child-lower e.0 u (children_in t) e.1, ap length f, length-append st (l ∷ []))

  pub low-tree : (t : Trie V) (o : Option (Trie V)) (ls : List (Level V)) → is_canonical t ≡ true → Some t ≡ o
      → AreLow (trie_height t) ls → AreLow (height (keys_of (tree_pairs o))) ls
  low-tree t o ls i e w = subst (λ h. AreLow h ls) (height-keys t (IsCanonical-test t i)
      ∙ ap (λ z. height (keys_of (tree_pairs z))) e) w
