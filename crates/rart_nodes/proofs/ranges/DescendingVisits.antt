-- A descending walk visits no more nodes on its way to a key than that has bytes.
use Rattle.std.proofs.Common.{◌≡◌, ℕ, ◌+◌, ◌≤◌, ◌⊎◌, inl, inr, ⊎_elim, true, List, [], ◌∷◌, ◌++◌, length}
use Rattle.std.proofs.Common.{take, reverse, None, refl, sym, ap, ◌∙◌, arith}
use Rattle.std.specs.Option.{option_copied}
use Rattle.std.proofs.lemmas.List.{length-take}
use Rattle.rart_nodes.specs.ranges.DescendingWalk.{DescendingLevel, DescendingLeft, DescendingStep, IsDescendingWalk}
use Rattle.rart_nodes.specs.ranges.DescendingWalk.{PushesNode}
use Rattle.rart_trie.specs.ranges.Under.{with_last}
use Rattle.rart_trie.specs.tries.CanonicalTest.{is_canonical}
use Rattle.rart_trie.specs.tries.Trie.{Trie, no_children, children_in, prefix_of}
use Rattle.rart_trie.specs.walks.Walk.{SegmentList, Grown, KeepsEach}
use Rattle.rart_nodes.proofs.ranges.LevelLemmas.{left-level, level-before, levels_of, next-child}
use Rattle.rart_nodes.proofs.walks.PathLemmas.{child-longer, deepest}
use Rattle.rart_nodes.proofs.walks.WalkVisits.{has-child}

module _ {V : Type 0} where
  -- the deepest level is at the end of the path, and its node has a value or children
  abbrev IsFresh : SegmentList → List (DescendingLevel V) → Type 0
  IsFresh k [] = ⊥
  IsFresh k (l ∷ ls) = (l.0.1 ≡ length k) × (l.0.0 ≡ no_children → option_copied l.1 ≡ None → ⊥)

  -- a walk that began with n visits has m: as many, or no more than its path has segments, and a pair comes next below
  -- it
  abbrev pub HasVisited : ℕ → ℕ → SegmentList → List (DescendingLevel V) → Type 0
  HasVisited n m k ls = (m ≡ n) ⊎ ((m ≤ n + length k) × IsFresh k ls)

  -- a child of the deepest level is visited
  pub visit-one : (g : Grown) {longest places n m m1 d : ℕ} {k k1 : SegmentList} (t : Trie V)
      {st st1 : List (DescendingLevel V)} → KeepsEach g → IsDescendingWalk longest places k (reverse st)
      → HasVisited n m k (reverse st) → DescendingStep st t d st1 → k1 ≡ take d k ++ g (prefix_of t) → m1 ≡ m + 1
      → m1 ≤ n + length k1
  visit-one g {longest} {places} {n} {m} {d} {k} {k1} t {st} {st1} bytes p h s i f =
      let more = child-longer g longest places d k k1 t s.others (levels_of (reverse s.rest)) bytes
      (next-child longest places d k t st st1 p s) i in
      let v : HasVisited n m k (((with_last s.others s.edge t, d), s.value) ∷ reverse s.rest)
      = rw (level-before d t st st1 s) at h in
      ⊎_elim (λ z. omega (arith, f, z, more)) (λ z. omega (arith, f, z.0, z.1.0, more)) v

  pub visit-on : (n m : ℕ) (t : Trie V) (k : SegmentList) (st1 st2 : List (DescendingLevel V)) → is_canonical t ≡ true
      → PushesNode st1 t (length k) st2 → m ≤ n + length k → HasVisited n m k (reverse st2)
  visit-on n m t k st1 st2 w o h = rw (deepest st2 st1 ((children_in t, length k), o.0) o.1.0)
      (inr (h, (refl, λ e v. has-child t w (sym v ∙ o.1.1) e)))

  -- the deepest level is left, with its node's value
  pub visit-value : (n m m1 : ℕ) (k k1 : SegmentList) (l : DescendingLevel V) (st st1 rest : List (DescendingLevel V))
      → HasVisited n m k (reverse st) → DescendingLeft st st1 → st1 ≡ rest ++ l ∷ [] → k1 ≡ take l.0.1 k → m1 ≡ m + 0
      → m1 ≤ n + length k1
  visit-value n m m1 k k1 l st st1 rest h s e i q =
      let r = left-level st st1 rest l s e in
      let v : HasVisited n m k (l ∷ reverse rest) = rw r.0 at h in
      ⊎_elim (λ z. omega (arith, q, z)) (λ z. omega (arith, q, z.0, z.1.0, ap length i, length-take l.0.1 k)) v

  -- or without one
  pub visit-none : (n m m1 : ℕ) (k k1 : SegmentList) (l : DescendingLevel V) (st st1 rest : List (DescendingLevel V))
      → HasVisited n m k (reverse st) → DescendingLeft st st1 → st1 ≡ rest ++ l ∷ [] → option_copied l.1 ≡ None
      → m1 ≡ m + 0 → HasVisited n m1 k1 (reverse rest)
  visit-none n m m1 k k1 l st st1 rest h s e o q =
      let r = left-level st st1 rest l s e in
      let v : HasVisited n m k (l ∷ reverse rest) = rw r.0 at h in
      inl (⊎_elim (λ z. omega (arith, q, z)) (λ z. absurd (z.1.1 r.1 o)) v)
