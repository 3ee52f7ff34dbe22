-- The children that two nodes have in common are the same from either side.
use Rattle.std.proofs.Common.{◌≡◌, ℕ, suc, ◌<◌, ⊎_elim, List, [], ◌∷◌, Option, Some, true, refl, arith, sym, ap, ◌∙◌}
use Rattle.rart_keys.specs.Joins.{both}
use Rattle.rart_keys.proofs.strings.ByteOrder.{order, eq-yes, eq-no}
use Rattle.rart_nodes.specs.joins.SharedChildren.{shared_child_if, shared_left, shared_right}
use Rattle.rart_trie.specs.tries.CanonicalTest.{is_canonical}
use Rattle.rart_trie.specs.tries.Trie.{Trie, node, Children, no_children, child, children_in, AreCanonical, child_of}
use Rattle.rart_trie.proofs.tries.CanonicalTests.{IsCanonical-test}
use Rattle.rart_trie.proofs.tries.Descents.{child_of-low}

module _ {V W : Type 0} where
  abbrev over_left : Children V → Children W → List (Trie V × Trie W)
  over_left no_children ds = []
  over_left (child b t cs) ds = shared_child_if (both (Some t) (child_of b ds)) (over_left cs ds)

  abbrev over_right : Children V → Children W → List (Trie V × Trie W)
  over_right cs no_children = []
  over_right cs (child b u ds) = shared_child_if (both (child_of b cs) (Some u)) (over_right cs ds)

  left-none : (cs : Children V) → over_left cs no_children ≡ []
  left-none no_children = refl
  left-none (child b t cs) = left-none cs

  right-none : (ds : Children W) → over_right no_children ds ≡ []
  right-none no_children = refl
  right-none (child b u ds) = right-none ds

  -- a child below all others is sought by none of them
  left-skips : (b low : ℕ) (u : Trie W) (cs : Children V) (ds : Children W) → AreCanonical low cs → b < low
      → over_left cs (child b u ds) ≡ over_left cs ds
  left-skips b low u no_children ds w h = refl
  left-skips b low u (child c t cs) ds w h
      = rw (eq-no b c (λ q. omega (arith, w.0)), left-skips b (suc c) u cs ds w.3 (omega (arith, w.0))) refl

  right-skips : (b low : ℕ) (t : Trie V) (cs : Children V) (ds : Children W) → AreCanonical low ds → b < low
      → over_right (child b t cs) ds ≡ over_right cs ds
  right-skips b low t cs no_children w h = refl
  right-skips b low t cs (child c u ds) w h
      = rw (eq-no b c (λ q. omega (arith, w.0)), right-skips b (suc c) t cs ds w.3 (omega (arith, w.0))) refl

  same-over : (low high : ℕ) (cs : Children V) (ds : Children W) → AreCanonical low cs → AreCanonical high ds
      → over_left cs ds ≡ over_right cs ds
  same-over low high no_children ds w z = sym (right-none ds)
  same-over low high (child b t cs) no_children w z = left-none cs
  same-over low high (child b t cs) (child c u ds) w z = ⊎_elim
      (λ h. rw (eq-no c b (λ q. omega arith), child_of-low b (suc c) ds (omega arith) z.3)
      (same-over (suc b) c cs (child c u ds) w.3 (omega arith, z.1, z.2, z.3)
      ∙ sym (right-skips b c t cs (child c u ds) (omega arith, z.1, z.2, z.3) h)))
      (⊎_elim
      (λ h. rw (
        eq-yes c b (sym h),
        eq-yes b c h,
        left-skips c (suc b) u cs ds w.3 (omega arith),
        right-skips b (suc c)
            t cs ds z.3 (omega arith),
      ) (ap (λ ps. (t, u) ∷ ps) (same-over (suc b) (suc c) cs ds w.3 z.3)))
      (λ h. rw (eq-no b c (λ q. omega arith), child_of-low c (suc b) cs (omega arith) w.3)
      (left-skips-first b c t u cs ds w h ∙ same-over b (suc c) (child b t cs) ds (omega arith, w.1, w.2, w.3)
      z.3)))
      (order b c)
    where
      left-skips-first : (b c : ℕ) (t : Trie V) (u : Trie W) (cs : Children V) (ds : Children W)
          → AreCanonical low (child b t cs) → c < b → over_left (child b t cs) (child c u ds)
          ≡ over_left (child b t cs) ds
      left-skips-first b c t u cs ds w h = left-skips c b u (child b t cs) ds (omega arith, w.1, w.2, w.3) h

  left-is : (p : List ℕ) (w : Option W) (m : ℕ) (cs : Children V) (ds : Children W)
      → shared_left cs (node p w m ds) ≡ over_left cs ds
  left-is p w m no_children ds = refl
  left-is p w m (child b t cs) ds = ap (λ ps. shared_child_if (both (Some t) (child_of b ds)) ps) (left-is p w m cs ds)

  right-is : (p : List ℕ) (v : Option V) (n : ℕ) (cs : Children V) (ds : Children W)
      → shared_right (node p v n cs) ds ≡ over_right cs ds
  right-is p v n cs no_children = refl
  right-is p v n cs (child b u ds) = ap (λ ps. shared_child_if (both (child_of b cs) (Some u)) ps)
      (right-is p v n cs ds)

  pub same-shared_children : (t : Trie V) (u : Trie W) → is_canonical t ≡ true → is_canonical u ≡ true
      → shared_left (children_in t) u ≡ shared_right t (children_in u)
  same-shared_children (node p v n cs) (node q w m ds) c d =
      left-is q w m cs ds ∙ same-over 0 0 cs ds (IsCanonical-test (node p v n cs) c).2
      (IsCanonical-test (node q w m ds) d).2 ∙ sym (right-is p v n cs ds)
