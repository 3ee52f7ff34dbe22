-- What a descent gives at each node, and a relation that its steps keep.
use Rattle.std.proofs.Common.{◌≡◌, ℕ, suc, ◌<◌, ⊎_elim, true, false, cond, eqb, List, [], ◌∷◌, Option, Some, None, refl}
use Rattle.std.proofs.Common.{arith, sym, ap, ◌∙◌}
use Rattle.std.specs.Prelude.{Bool, slice_get}
use Rattle.std.specs.List.{filter}
use Rattle.std.proofs.lemmas.List.{append-nil}
use Rattle.std.proofs.lemmas.List.Elements.{filter-append}
use Rattle.rart_keys.specs.ByteStrings.{strip_prefix}
use Rattle.rart_keys.proofs.strings.ByteOrder.{order, is_less, is_equal, is_greater, eq-yes, eq-no, equal_or_not}
use Rattle.rart_parts.specs.Entries.{child_at}
use Rattle.rart_trie.specs.tries.CanonicalTest.{is_canonical, starts_with_byte}
use Rattle.rart_trie.specs.tries.Tree.{tree_pairs, IsCanonicalTree}
use Rattle.rart_trie.specs.tries.Trie.{Trie, node, Children, no_children, child, children_pairs, pairs_of, prefix_of}
use Rattle.rart_trie.specs.tries.Trie.{StartsWith, child_of, child_in, Descent, by_rest, descend, descend_child}
use Rattle.rart_trie.specs.tries.Trie.{descend_tree, IsCanonical, AreCanonical}
use Rattle.rart_trie.specs.tries.TrieCode.{as_children}
use Rattle.rart_trie.proofs.storages.ChildLemmas.{tail-none}
use Rattle.rart_trie.proofs.tries.CanonicalTests.{IsCanonical-test}
use Rattle.rart_trie.proofs.tries.FirstBytes.{AllFirst, AllFrom, pairs_of-first, children_pairs-from}

module _ {V : Type 0} where
  pub child_of-entries : (b : ℕ) (es : List (ℕ × Trie V)) → child_of b (as_children es) ≡ child_at b es
  child_of-entries b [] = refl
  child_of-entries b (e ∷ es) = ap (λ r. cond (eqb e.0 b) (Some e.1) r) (child_of-entries b es)

  -- a child that a byte doesn't reach
  pub child_of-low : (b low : ℕ) (cs : Children V) → b < low → AreCanonical low cs → child_of b cs ≡ None
  child_of-low b low no_children h w = refl
  child_of-low b low (child c t cs) h w = rw (eq-no c b (λ q. omega (arith, w.0)))
      (child_of-low b (suc c) cs (omega (arith, w.0)) w.3)

  -- the child at a byte begins with it
  pub child-first : (b low : ℕ) (t : Trie V) (cs : Children V) → AreCanonical low cs → child_of b cs ≡ Some t
      → StartsWith b (prefix_of t)
  child-first b low t no_children w e = absurd (cc)
  child-first b low t (child c u cs) w e = ⊎_elim
      (λ q. let s : Some u ≡ Some t = sym (ap (λ z. cond z (Some u) (child_of b cs)) (eq-yes c b q)) ∙ e in
      let same : u ≡ t = cc in rw (← same, ← q) w.1)
      (λ n. child-first b _ t cs w.3 (sym (ap (λ z. cond z (Some u) (child_of b cs)) (eq-no c b n)) ∙ e))
      (equal_or_not c b)

  -- the pairs whose key begins with b
  abbrev pub by_byte : ℕ → List (List ℕ × V) → List (List ℕ × V)
  by_byte b es = filter (λ e. starts_with_byte b e.0) es

  by-same : (b : ℕ) (es : List (List ℕ × V)) → AllFirst b es → by_byte b es ≡ es
  by-same b [] f = refl
  by-same b (([], v) ∷ es) f = absurd f.0
  by-same b ((x ∷ k, v) ∷ es) f = rw (eq-yes x b f.0) (ap (λ z. (x ∷ k, v) ∷ z) (by-same b es f.1))

  by-other : (b c : ℕ) (es : List (List ℕ × V)) → AllFirst c es → (c ≡ b → ⊥) → by_byte b es ≡ []
  by-other b c [] f n = refl
  by-other b c (([], v) ∷ es) f n = absurd f.0
  by-other b c ((x ∷ k, v) ∷ es) f n = rw (eq-no x b (λ e. n (sym f.0 ∙ e))) (by-other b c es f.1 n)

  by-above : (b low : ℕ) (es : List (List ℕ × V)) → AllFrom low es → b < low → by_byte b es ≡ []
  by-above b low [] f n = refl
  by-above b low (([], v) ∷ es) f n = absurd f.0
  by-above b low ((x ∷ k, v) ∷ es) f n = rw (eq-no x b (λ e. omega (arith, f.0))) (by-above b low es f.1 n)

  -- they are those of the child at b
  pub children-by : (b low : ℕ) (cs : Children V) → AreCanonical low cs
      → by_byte b (children_pairs cs) ≡ tree_pairs (child_of b cs)
  children-by b low no_children w = refl
  children-by b low (child c t cs) w = rw (filter-append (λ e. starts_with_byte b e.0) (pairs_of t) (children_pairs cs))
      (⊎_elim
      (λ e. rw (
        eq-yes c b e,
        by-same b (pairs_of t) (pairs_of-first b t (rw (← e) w.1)),
        by-above b (suc c)
            (children_pairs cs) (children_pairs-from (suc c) cs w.3) (omega arith),
      ) (append-nil (pairs_of t)))
      (λ n. rw (eq-no c b n, by-other b c (pairs_of t) (pairs_of-first c t w.1) n) (children-by b (suc c) cs w.3))
      (equal_or_not c b))

  filter-by : (h : List ℕ × V → Bool) (b low : ℕ) (es : List (List ℕ × V)) → AllFrom low es
      → ((x : ℕ) (k : List ℕ) (v : V) → (x ≡ b → ⊥) → h (x ∷ k, v) ≡ false) → filter h es ≡ filter h (by_byte b es)
  filter-by h b low [] f n = refl
  filter-by h b low (([], v) ∷ es) f n = absurd f.0
  filter-by h b low ((x ∷ k, v) ∷ es) f n = ⊎_elim (λ e. rw (eq-yes x b e, filter-by h b low es f.1 n) refl)
      (λ d. rw (eq-no x b d, n x k v d) (filter-by h b low es f.1 n)) (equal_or_not x b)

  -- so a test that only such keys pass finds the same in both
  pub children-filter : (h : List ℕ × V → Bool) (b : ℕ) (cs : Children V) → AreCanonical 0 cs
      → ((x : ℕ) (k : List ℕ) (v : V) → (x ≡ b → ⊥) → h (x ∷ k, v) ≡ false)
      → filter h (children_pairs cs) ≡ filter h (tree_pairs (child_of b cs))
  children-filter h b cs w n = filter-by h b 0 (children_pairs cs) (children_pairs-from 0 cs w) n
      ∙ ap (filter h) (children-by b 0 cs w)

module _ {V A : Type 0} where
  pub descend-child_of : (d : Descent V A) (b low : ℕ) (k : List ℕ) (cs : Children V) → AreCanonical low cs
      → descend_child d b k cs ≡ descend_tree d k (child_of b cs)
  descend-child_of d b low k no_children w = refl
  descend-child_of d b low k (child c t cs) w = ⊎_elim
      (λ h. rw (is_less b c h, eq-no c b (λ q. omega arith), child_of-low b (suc c) cs (omega arith) w.3) refl)
      (⊎_elim (λ h. rw (is_equal b c h, eq-yes c b (sym h)) refl)
      (λ h. rw (is_greater b c h, eq-no c b (λ q. omega arith)) (descend-child_of d b (suc c) k cs w.3)))
      (order b c)

  -- a descent to k at a node: k leaves the prefix, ends after it, or continues by b
  pub descend-left : (d : Descent V A) (t : Trie V) (k : List ℕ) → None ≡ strip_prefix (prefix_of t) k
      → descend d k t ≡ d.left k t
  descend-left d (node p v n cs) k e = rw (← e) refl

  pub descend-ended : (d : Descent V A) (t : Trie V) (k r : List ℕ) → Some r ≡ strip_prefix (prefix_of t) k
      → None ≡ slice_get r 0 → descend d k t ≡ d.ended t
  descend-ended d (node p v n cs) k [] e h = rw (← e) refl
  descend-ended d (node p v n cs) k (b ∷ r) e h = absurd (cc)

  pub descend-followed : (d : Descent V A) (p k r : List ℕ) (b : ℕ) (v : Option V) (n : ℕ) (cs : Children V)
      → Some r ≡ strip_prefix p k → Some b ≡ slice_get r 0
      → descend d k (node p v n cs) ≡ d.on (node p v n cs) (descend_child d b r cs)
  descend-followed d p k [] b v n cs e h = absurd (cc)
  descend-followed d p k (x ∷ r) b v n cs e h = let same : b ≡ x = cc in rw (← e, same) refl

  pub descend-on : (d : Descent V A) (t : Trie V) (k r : List ℕ) (b : ℕ) → is_canonical t ≡ true
      → Some r ≡ strip_prefix (prefix_of t) k → Some b ≡ slice_get r 0
      → descend d k t ≡ d.on t (descend_tree d r (child_in b t))
  descend-on d (node p v n cs) k r b c e h = descend-followed d p k r b v n cs e h
      ∙ ap (d.on (node p v n cs)) (descend-child_of d b 0 r cs (IsCanonical-test (node p v n cs) c).2)

  -- `descend-on`, over children that are given as entries
  pub descend-at : (d : Descent V A) (b low : ℕ) (k : List ℕ) (o : Option (Trie V)) (es : List (ℕ × Trie V))
      → AreCanonical low (as_children es) → o ≡ child_at b es → descend_child d b k (as_children es)
      ≡ descend_tree d k o
  descend-at d b low k o es w s = descend-child_of d b low k (as_children es) w
      ∙ ap (descend_tree d k) (child_of-entries b es ∙ sym s)

  pub descend-absent : (d : Descent V A) (b : ℕ) (k : List ℕ) (es : List (ℕ × Trie V)) → None ≡ child_at b es
      → descend_child d b k (as_children es) ≡ d.absent
  descend-absent d b k [] s = refl
  descend-absent d b k (e ∷ es) s = let t = tail-none b e es s in ⊎_elim
      (λ h. rw (is_less b e.0 h) refl)
      (⊎_elim (λ h. absurd (t.0 h)) (λ h. rw (is_greater b e.0 h) (descend-absent d b k es t.1))) (order b e.0)

  -- a relation that holds where a descent ends and is passed up from a child
  pub record Keeps (d : Descent V A) (R : List ℕ → Option (Trie V) → A → Type 0) : Type 0 where
    pub absent : (k : List ℕ) → R k None d.absent
    pub left : (k p : List ℕ) (v : Option V) (n : ℕ) (cs : Children V) → IsCanonical (node p v n cs)
        → strip_prefix p k ≡ None → R k (Some (node p v n cs)) (d.left k (node p v n cs))
    pub ended : (k p : List ℕ) (v : Option V) (n : ℕ) (cs : Children V) → IsCanonical (node p v n cs)
        → strip_prefix p k ≡ Some [] → R k (Some (node p v n cs)) (d.ended (node p v n cs))
    pub on : (k p : List ℕ) (v : Option V) (n : ℕ) (cs : Children V) (b : ℕ) (r : List ℕ) (a : A)
        → IsCanonical (node p v n cs) → strip_prefix p k ≡ Some (b ∷ r) → R (b ∷ r) (child_of b cs) a
        → R k (Some (node p v n cs)) (d.on (node p v n cs) a)

  -- holds of what it gives
  mutual
    descends-node : (d : Descent V A) (R : List ℕ → Option (Trie V) → A → Type 0) → Keeps d R
        → (k : List ℕ) (t : Trie V) → IsCanonical t → R k (Some t) (descend d k t)
    descends-node d R h k (node p v n cs) w = elim (strip_prefix p k) as (λ o. strip_prefix p k ≡ o
        → R k (Some (node p v n cs)) (by_rest (d.left k (node p v n cs)) (d.ended (node p v n cs))
        (d.on (node p v n cs))
        o (λ b r. descend_child d b r cs))) [
          | None ↦ λ s. h.left k p v n cs w s
          | Some r ↦ elim r as (λ r. strip_prefix p k ≡ Some r
              → R k (Some (node p v n cs)) (by_rest (d.left k (node p v n cs)) (d.ended (node p v n cs))
              (d.on (node p v n cs)) (Some r) (λ b r. descend_child d b r cs))) [
                | [] ↦ λ s. h.ended k p v n cs w s
                | b ∷ r ↦ λ s. h.on k p v n cs b r (descend_child d b (b ∷ r) cs) w s
                    (descends-child d R h b 0 (b ∷ r) cs w.2)
              ]
        ] refl

    descends-child : (d : Descent V A) (R : List ℕ → Option (Trie V) → A → Type 0) → Keeps d R
        → (b low : ℕ) (k : List ℕ) (cs : Children V) → AreCanonical low cs
        → R k (child_of b cs) (descend_child d b k cs)
    descends-child d R h b low k no_children w = h.absent k
    descends-child d R h b low k (child c t cs) w = ⊎_elim
        (λ l. rw (is_less b c l, eq-no c b (λ q. omega arith), child_of-low b (suc c) cs (omega arith) w.3)
        (h.absent k))
        (⊎_elim (λ l. rw (is_equal b c l, eq-yes c b (sym l)) (descends-node d R h k t w.2))
        (λ l. rw (is_greater b c l, eq-no c b (λ q. omega arith)) (descends-child d R h b (suc c) k cs w.3)))
        (order b c)

  pub descends : (d : Descent V A) (R : List ℕ → Option (Trie V) → A → Type 0) → Keeps d R
      → (k : List ℕ) (o : Option (Trie V)) → IsCanonicalTree o → R k o (descend_tree d k o)
  descends d R h k None w = h.absent k
  descends d R h k (Some t) w = descends-node d R h k t w
