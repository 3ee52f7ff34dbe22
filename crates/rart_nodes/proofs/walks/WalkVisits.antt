-- A walk whose path keeps the bytes of a key visits no more nodes on its way to the key than that has bytes.
use Rattle.std.proofs.Common.{◌≡◌, ℕ, ◌+◌, ◌≤◌, ◌⊎◌, inl, inr, ⊎_elim, true, List, [], ◌∷◌, ◌++◌, length}
use Rattle.std.proofs.Common.{take, reverse, Some, None, refl, arith}
use Rattle.rart_trie.specs.tries.CanonicalTest.{is_canonical}
use Rattle.rart_trie.specs.walks.Walk.{SegmentList, Grown, KeepsEach, Level, IsWalk}
use Rattle.rart_nodes.specs.walks.WalkSteps.{DeepestLeft, DeepestStep, PushesLevel}
use Rattle.rart_trie.specs.tries.Trie.{Trie, node, no_children, child, children_in, prefix_of, value_of}
use Rattle.rart_trie.specs.tries.Trie.{IsCanonical}
use Rattle.rart_trie.proofs.tries.CanonicalTests.{IsCanonical-test}
use Rattle.rart_nodes.proofs.walks.PathLemmas.{child-longer, deepest}
use Rattle.rart_nodes.proofs.walks.WalkLemmas.{level-before, next-child}

not-childless : (V : Type 0) (p : List ℕ) (n : ℕ) → IsCanonical {V = V} (node p None n no_children) → ⊥
not-childless V p n w = ⊎_elim (λ h. cc) (λ h. absurd h) w.0

module _ {V : Type 0} where
  -- the deepest level is at the end of the path, and has children
  abbrev IsFresh : SegmentList → List (Level V) → Type 0
  IsFresh k [] = ⊥
  IsFresh k (l ∷ ls) = (l.1 ≡ length k) × (l.0 ≡ no_children → ⊥)

  -- a walk that began with n visits has m: as many, or no more than its path has segments, and a pair remains below
  -- it
  abbrev pub HasVisited : ℕ → ℕ → SegmentList → List (Level V) → Type 0
  HasVisited n m k ls = (m ≡ n) ⊎ ((m ≤ n + length k) × IsFresh k ls)

  -- a child of the deepest level is visited
  pub visit-one : (g : Grown) {longest places n m m1 d : ℕ} {k k1 : SegmentList} (t : Trie V) {st st1 : List (Level V)}
      → KeepsEach g → IsWalk longest places k (reverse st) → HasVisited n m k (reverse st)
      → DeepestStep st t d st1 → k1 ≡ take d k ++ g (prefix_of t) → m1 ≡ m + 1 → m1 ≤ n + length k1
  visit-one g {longest} {places} {n} {m} {d} {k} {k1} t {st} {st1} bytes p h s i f =
      let more = child-longer g longest places d k k1 t s.others (reverse s.rest) bytes
      (next-child longest places d k t st st1 p s) i in
      let v : HasVisited n m k ((child s.edge t s.others, d) ∷ reverse s.rest) = rw (level-before d t st st1 s) at h in
      ⊎_elim (λ z. omega (arith, f, z, more)) (λ z. omega (arith, f, z.0, z.1.0, more)) v

  pub has-child : (t : Trie V) → is_canonical t ≡ true → None ≡ value_of t → children_in t ≡ no_children → ⊥
  has-child (node p None n no_children) w v e = not-childless V p n
      (IsCanonical-test {V = V} (node p None n no_children) w)
  has-child (node p None n (child b t cs)) w v e = cc
  has-child (node p (Some x) n cs) w v e = cc

  -- the node that was visited has no value
  pub visit-on : (n m : ℕ) (t : Trie V) (k : SegmentList) (st1 st2 : List (Level V)) → is_canonical t ≡ true
      → None ≡ value_of t → PushesLevel st1 t (length k) st2 → m ≤ n + length k → HasVisited n m k (reverse st2)
  visit-on n m t k st1 st2 w v o h = ⊎_elim
      (λ e. rw (deepest st2 st1 (children_in t, length k) e.0) (inr (h, (refl, has-child t w v))))
      (λ e. absurd (has-child t w v e.1)) o

  -- the deepest level has no more children, or there is no level
  pub visit-none : (n m m1 : ℕ) (k : SegmentList) (st st1 rest : List (Level V)) → HasVisited n m k (reverse st)
      → DeepestLeft st st1 → m1 ≡ m + 0 → HasVisited n m1 k (reverse rest)
  visit-none n m m1 k st st1 rest h s q = ⊎_elim
      (λ e. let h1 : HasVisited n m k (reverse []) = rw e at h in
      inl (⊎_elim (λ f. omega (arith, f, q)) (λ f. absurd f.1) h1))
      (λ z. let h1 : HasVisited n m k ((no_children, z.1.0) ∷ reverse z.0)
      = rw (deepest st z.0 (no_children, z.1.0) z.1.1) at h in
      inl (⊎_elim (λ f. omega (arith, f, q)) (λ f. absurd (f.1.1 refl)) h1)) s.left
