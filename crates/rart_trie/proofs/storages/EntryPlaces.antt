-- One entry among ascending ones: what is before and after it, and what another child in its place leaves.
use Rattle.std.proofs.Common.{◌≡◌, ℕ, suc, ◌<◌, ◌≤◌, ⊎_elim, inl, inr, false, List, [], ◌∷◌, ◌++◌, length, refl, sym}
use Rattle.std.proofs.Common.{ap, ◌∙◌, arith, subst, Option, Some, None, is_some, option_map}
use Rattle.std.specs.Prelude.{IsSome, slice_get}
use Rattle.std.proofs.lemmas.List.{append_assoc}
use Rattle.rart_keys.specs.ByteStrings.{begins}
use Rattle.rart_keys.specs.Filters.{below}
use Rattle.rart_keys.proofs.strings.ByteOrder.{eq-yes, eq-no}
use Rattle.rart_parts.specs.Entries.{child_at, entries_above, replaced_at, with_entry}
use Rattle.rart_trie.specs.shapes.Shape.{capacity_of}
use Rattle.rart_trie.specs.tries.Trie.{Trie, node, Children, child, no_children, pairs_of, children_pairs}
use Rattle.rart_trie.specs.tries.Trie.{AreCanonical, HasTwoChildren, IsCanonical, StartsWith, edges_of, prefix_of}
use Rattle.rart_trie.specs.tries.TrieCode.{as_children, child_count, node_count}
use Rattle.rart_trie.proofs.storages.ChildLemmas.{at_first, after_first, found, lt-no, lt-yes}
use Rattle.rart_trie.proofs.tries.FirstBytes.{AllFirst, AllFrom, IsFrom}

pub begins-first : (b c : ℕ) (r k : List ℕ) → (c ≡ b → ⊥) → StartsWith c k → begins (b ∷ r) k ≡ false
begins-first b c r [] n h = absurd h
begins-first b c r (x ∷ k) n h = rw (eq-no b x (λ q. n (sym h ∙ sym q))) refl

begins-from : (b : ℕ) (r k : List ℕ) → IsFrom (suc b) k → begins (b ∷ r) k ≡ false
begins-from b r [] h = absurd h
begins-from b r (x ∷ k) h = rw (eq-no b x (λ q. omega (arith, h, q))) refl

module _ {V : Type 0} where
  -- no key that takes another edge is below the prefix
  pub below-first : (b c : ℕ) (r : List ℕ) (es : List (List ℕ × V)) → (c ≡ b → ⊥) → AllFirst c es
      → below (b ∷ r) es ≡ []
  below-first b c r [] n h = refl
  below-first b c r (e ∷ es) n h = rw (begins-first b c r e.0 n h.0) (below-first b c r es n h.1)

  pub below-from : (b : ℕ) (r : List ℕ) (es : List (List ℕ × V)) → AllFrom (suc b) es → below (b ∷ r) es ≡ []
  below-from b r [] h = refl
  below-from b r (e ∷ es) h = rw (begins-from b r e.0 h.0) (below-from b r es h.1)

  -- a child in the place of one with its prefix
  replaced-canonical : (b low : ℕ) (t u : Trie V) (es : List (ℕ × Trie V)) → AreCanonical low (as_children es)
      → Some t ≡ child_at b es → IsCanonical u → prefix_of u ≡ prefix_of t
      → AreCanonical low (as_children (replaced_at b u es))
  replaced-canonical b low t u [] w s c q = absurd (cc)
  replaced-canonical b low t u (e ∷ es) w s c q = elim (found b low t e es w s) [
    | at_first h d ↦ rw (eq-yes e.0 b (sym h)) (
      omega (arith, w.0, h),
      subst (StartsWith b) (sym (q ∙ ap prefix_of d)) (rw h w.1),
      c,
      rw h w.3,
    )
    | after_first h d ↦ rw (eq-no e.0 b (λ z. omega (arith, h, z)))
        (w.0, w.1, w.2, replaced-canonical b (suc e.0) t u es w.3 d c q)
  ]

  replaced-edges : (b low : ℕ) (t u : Trie V) (es : List (ℕ × Trie V)) → AreCanonical low (as_children es)
      → Some t ≡ child_at b es → edges_of (as_children (replaced_at b u es)) ≡ edges_of (as_children es)
  replaced-edges b low t u [] w s = absurd (cc)
  replaced-edges b low t u (e ∷ es) w s = elim (found b low t e es w s) [
    | at_first h d ↦ rw (eq-yes e.0 b (sym h)) (ap (λ z. z ∷ edges_of (as_children es)) h)
    | after_first h d ↦ rw (eq-no e.0 b (λ z. omega (arith, h, z)))
        (ap (λ z. e.0 ∷ z) (replaced-edges b (suc e.0) t u es w.3 d))
  ]

  two-alike : (cs ds : Children V) → edges_of ds ≡ edges_of cs → HasTwoChildren cs → HasTwoChildren ds
  two-alike no_children ds e h = absurd h
  two-alike (child b t no_children) ds e h = absurd h
  two-alike (child b t (child c u cs)) no_children e h = absurd (cc)
  two-alike (child b t (child c u cs)) (child d x no_children) e h = absurd (cc)
  two-alike (child b t (child c u cs)) (child d x (child f y ds)) e h = tt

  some-alike : (v w : Option V) → is_some w ≡ is_some v → IsSome v → IsSome w
  some-alike v w e h = e ∙ h

  -- a node with the same edges, and a value where there was one
  pub alike-canonical : (p : List ℕ) (v w : Option V) (n : ℕ) (cs ds : Children V) → is_some w ≡ is_some v
      → edges_of ds ≡ edges_of cs → AreCanonical 0 ds → IsCanonical (node p v n cs) → IsCanonical (node p w n ds)
  alike-canonical p v w n cs ds s e d c = (
    ⊎_elim (λ h. inl (some-alike v w s h)) (λ h. inr (two-alike cs ds e h)) c.0,
    c.1 ∙ ap (λ es. capacity_of (length es)) (sym e),
    d,
  )

  pub child-canonical : (q : List ℕ) (v : Option V) (n m b : ℕ) (u x : Trie V) (es ds : List (ℕ × Trie V))
      → IsCanonical (node q v n (as_children es)) → Some u ≡ child_at b es → IsCanonical x → prefix_of x ≡ prefix_of u
      → m ≡ n → ds ≡ replaced_at b x es → IsCanonical (node q v m (as_children ds))
  child-canonical q v n m b u x es ds c a w p e d = rw (e, d) (alike-canonical q v v n (as_children es)
      (as_children (replaced_at b x es)) refl (replaced-edges b 0 u x es c.2 a)
      (replaced-canonical b 0 u x es c.2 a w p) c)

  -- entries in their order, with one of them at b
  pub middle-low : (b low : ℕ) (u : Trie V) (xs ys : List (ℕ × Trie V))
      → AreCanonical low (as_children (xs ++ (b, u) ∷ ys)) → low ≤ b
  middle-low b low u [] ys w = w.0
  middle-low b low u (x ∷ xs) ys w = omega (arith, w.0, middle-low b (suc x.0) u xs ys w.3)

  pub lower-canonical : (low high : ℕ) (ys : List (ℕ × Trie V)) → low ≤ high → AreCanonical high (as_children ys)
      → AreCanonical low (as_children ys)
  lower-canonical low high [] l c = tt
  lower-canonical low high (y ∷ ys) l c = (omega (arith, l, c.0), c.1, c.2, c.3)

  -- those from it on
  pub tail-canonical : (e : ℕ × Trie V) (low : ℕ) (xs ys : List (ℕ × Trie V))
      → AreCanonical low (as_children (xs ++ e ∷ ys)) → AreCanonical e.0 (as_children (e ∷ ys))
  tail-canonical e low [] ys w = (omega arith, w.1, w.2, w.3)
  tail-canonical e low (x ∷ xs) ys w = tail-canonical e (suc x.0) xs ys w.3

  pub back-canonical : (low : ℕ) (xs ys : List (ℕ × Trie V)) → AreCanonical low (as_children (xs ++ ys))
      → AreCanonical low (as_children ys)
  back-canonical low [] ys w = w
  back-canonical low (x ∷ xs) ys w = lower-canonical low (suc x.0) ys (omega (arith, w.0))
      (back-canonical (suc x.0) xs ys w.3)

  pub middle-at : (b low : ℕ) (u : Trie V) (xs ys : List (ℕ × Trie V))
      → AreCanonical low (as_children (xs ++ (b, u) ∷ ys)) → child_at b (xs ++ (b, u) ∷ ys) ≡ Some u
  middle-at b low u [] ys w = rw (eq-yes b b refl) refl
  middle-at b low u (x ∷ xs) ys w = rw (eq-no x.0 b (λ q. omega (arith, q, middle-low b (suc x.0) u xs ys w.3)))
      (middle-at b (suc x.0) u xs ys w.3)

  pub middle-replaced : (b low : ℕ) (u w : Trie V) (xs ys : List (ℕ × Trie V))
      → AreCanonical low (as_children (xs ++ (b, u) ∷ ys))
      → replaced_at b w (xs ++ (b, u) ∷ ys) ≡ xs ++ (b, w) ∷ ys
  middle-replaced b low u w [] ys c = rw (eq-yes b b refl) refl
  middle-replaced b low u w (x ∷ xs) ys c = rw (eq-no x.0 b (λ q. omega (arith, q, middle-low b (suc x.0) u xs ys c.3)))
      (ap (λ z. x ∷ z) (middle-replaced b (suc x.0) u w xs ys c.3))

  pub above-all : (b low : ℕ) (ys : List (ℕ × Trie V)) → b < low → AreCanonical low (as_children ys)
      → entries_above b ys ≡ ys
  above-all b low [] h w = refl
  above-all b low (y ∷ ys) h w = rw (lt-yes b y.0 (omega (arith, h, w.0)))
      (ap (λ z. y ∷ z) (above-all b (suc y.0) ys (omega (arith, h, w.0)) w.3))

  pub middle-above : (b low : ℕ) (u : Trie V) (xs ys : List (ℕ × Trie V))
      → AreCanonical low (as_children (xs ++ (b, u) ∷ ys)) → entries_above b (xs ++ (b, u) ∷ ys) ≡ ys
  middle-above b low u [] ys w = rw (lt-no b b (omega arith)) (above-all b (suc b) ys (omega arith) w.3)
  middle-above b low u (x ∷ xs) ys w = rw (lt-no b x.0 (omega (arith, middle-low b (suc x.0) u xs ys w.3)))
      (middle-above b (suc x.0) u xs ys w.3)

  -- how many there are from a byte on, that of one of them
  abbrev pub ahead_count : Option ℕ → List (ℕ × Trie V) → ℕ
  ahead_count None es = 0
  ahead_count (Some b) es = suc (length (entries_above b es))

  pub ahead-first : (low : ℕ) (xs rest es : List (ℕ × Trie V)) (next : Option ℕ) → es ≡ xs ++ rest
      → AreCanonical low (as_children (xs ++ rest)) → next ≡ option_map (λ e. e.0) (slice_get rest 0)
      → ahead_count next es ≡ length rest
  ahead-first low xs [] es next e w h = rw h refl
  ahead-first low xs (y ∷ rest) es next e w h = rw (h, e)
      (ap (λ z. suc (length z)) (middle-above y.0 low y.1 xs rest w))

  pub middle-canonical : (b low : ℕ) (u : Trie V) (xs ys : List (ℕ × Trie V))
      → AreCanonical low (as_children (xs ++ (b, u) ∷ ys)) → IsCanonical u
  middle-canonical b low u [] ys w = w.2
  middle-canonical b low u (x ∷ xs) ys w = middle-canonical b (suc x.0) u xs ys w.3

  pub middle-first : (b low : ℕ) (u : Trie V) (xs ys : List (ℕ × Trie V))
      → AreCanonical low (as_children (xs ++ (b, u) ∷ ys)) → StartsWith b (prefix_of u)
  middle-first b low u [] ys w = w.1
  middle-first b low u (x ∷ xs) ys w = middle-first b (suc x.0) u xs ys w.3

  -- those in front of it have no child at b, and it goes behind them
  pub front-absent : (b low : ℕ) (u : Trie V) (xs ys : List (ℕ × Trie V))
      → AreCanonical low (as_children (xs ++ (b, u) ∷ ys)) → child_at b xs ≡ None
  front-absent b low u [] ys w = refl
  front-absent b low u (x ∷ xs) ys w = rw (eq-no x.0 b (λ q. omega (arith, q, middle-low b (suc x.0) u xs ys w.3)))
      (front-absent b (suc x.0) u xs ys w.3)

  pub goes-behind : (b low : ℕ) (u : Trie V) (xs ys : List (ℕ × Trie V))
      → AreCanonical low (as_children (xs ++ (b, u) ∷ ys)) → with_entry b u xs ≡ xs ++ (b, u) ∷ []
  goes-behind b low u [] ys w = refl
  goes-behind b low u (x ∷ xs) ys w = let l = middle-low b (suc x.0) u xs ys w.3 in
      rw (lt-no b x.0 (omega (arith, l)), eq-no x.0 b (λ q. omega (arith, q, l)))
      (ap (λ z. x ∷ z) (goes-behind b (suc x.0) u xs ys w.3))

  pub middle-count : (b : ℕ) (u : Trie V) (xs ys : List (ℕ × Trie V))
      → node_count u ≤ child_count (as_children (xs ++ (b, u) ∷ ys))
  middle-count b u [] ys = omega arith
  middle-count b u (x ∷ xs) ys = omega (arith, middle-count b u xs ys)

  pub pairs-append : (xs ys : List (ℕ × Trie V))
      → children_pairs (as_children (xs ++ ys)) ≡ children_pairs (as_children xs) ++ children_pairs (as_children ys)
  pairs-append [] ys = refl
  pairs-append (x ∷ xs) ys = ap (λ z. pairs_of x.1 ++ z) (pairs-append xs ys)
      ∙ sym (append_assoc (pairs_of x.1) (children_pairs (as_children xs)) (children_pairs (as_children ys)))
