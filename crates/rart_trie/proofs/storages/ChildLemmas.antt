-- A trie's children that are given as entries: what is stored at a byte, and what an edit there leaves.
use Rattle.std.proofs.Common.{◌≡◌, ℕ, suc, ◌<◌, ◌≤◌, ⊎_elim, true, false, cond, eqb, ltb, List, [], ◌∷◌, length, Some}
use Rattle.std.proofs.Common.{None, refl, arith, sym, ap, ◌∙◌}
use Rattle.std.proofs.lemmas.Bool.Decides.{nat_tests}
use Rattle.rart_keys.proofs.strings.ByteOrder.{order, is_less, is_equal, is_greater, eq-yes, eq-no}
use Rattle.rart_parts.specs.Entries.{child_at, with_entry, replaced_at}
use Rattle.rart_parts.proofs.entries.EntryLemmas.{length-with_entry}
use Rattle.rart_trie.specs.tries.Trie.{Trie, child, edges_of, IsCanonical, AreCanonical, trie_put, put_child, leaf}
use Rattle.rart_trie.specs.tries.Trie.{two_children}
use Rattle.rart_trie.specs.tries.TrieCode.{as_children, node_count, child_count}

pub lt-yes : (b c : ℕ) → b < c → ltb b c ≡ true
lt-yes b c h = grind (arith, nat_tests)

pub lt-no : (b c : ℕ) → c ≤ b → ltb b c ≡ false
lt-no b c h = grind (arith, nat_tests)

module _ {V : Type 0} where
  pub edges_of-length : (es : List (ℕ × Trie V)) → length (edges_of (as_children es)) ≡ length es
  edges_of-length [] = refl
  edges_of-length (e ∷ es) = omega (arith, edges_of-length es)

  pub replaced-length : (b : ℕ) (t : Trie V) (es : List (ℕ × Trie V)) → length (replaced_at b t es) ≡ length es
  replaced-length b t [] = refl
  replaced-length b t (e ∷ es) = elim (eqb e.0 b) as (λ z. length (cond z ((b, t) ∷ es) (e ∷ replaced_at b t es))
      ≡ length (e ∷ es)) [ true ↦ refl | false ↦ ap suc (replaced-length b t es) ]

  pub with_entry-length : (b : ℕ) (t : Trie V) (es : List (ℕ × Trie V)) → None ≡ child_at b es
      → length (with_entry b t es) ≡ suc (length es)
  with_entry-length b t es s = omega (arith, length-with_entry b t es (sym s))

  -- there is no child below the least byte
  child_at-low : (b low : ℕ) (es : List (ℕ × Trie V)) → b < low → AreCanonical low (as_children es)
      → child_at b es ≡ None
  child_at-low b low [] h w = refl
  child_at-low b low (e ∷ es) h w = rw (eq-no e.0 b (λ q. omega (arith, w.0)))
      (child_at-low b (suc e.0) es (omega (arith, w.0)) w.3)

  -- how a byte with a child compares with the first entry's
  pub data Found (b : ℕ) (t : Trie V) (e : ℕ × Trie V) (es : List (ℕ × Trie V)) : Type 0 where
    at_first : b ≡ e.0 → t ≡ e.1 → Found b t e es
    after_first : e.0 < b → Some t ≡ child_at b es → Found b t e es

  pub some-equal : (t u : Trie V) → Some t ≡ Some u → t ≡ u
  some-equal t u e = cc

  pub found : (b low : ℕ) (t : Trie V) (e : ℕ × Trie V) (es : List (ℕ × Trie V))
      → AreCanonical low (as_children (e ∷ es)) → Some t ≡ child_at b (e ∷ es) → Found b t e es
  found b low t e es w s = ⊎_elim
      (λ h. let n = child_at-low b e.0 (e ∷ es) h (omega arith, w.1, w.2, w.3) in absurd (cc (s, n)))
      (⊎_elim (λ h. at_first h (some-equal t e.1 (rw (eq-yes e.0 b (sym h)) at s)))
      (λ h. after_first h (rw (eq-no e.0 b (λ q. omega arith)) at s))) (order b e.0)

  pub canonical-found : (b low : ℕ) (t : Trie V) (es : List (ℕ × Trie V)) → AreCanonical low (as_children es)
      → Some t ≡ child_at b es → IsCanonical t
  canonical-found b low t [] w s = absurd (cc)
  canonical-found b low t (e ∷ es) w s = elim (found b low t e es w s) [
    | at_first h q ↦ rw q w.2
    | after_first h q ↦ canonical-found b (suc e.0) t es w.3 q
  ]

  pub count-found : (b low : ℕ) (t : Trie V) (es : List (ℕ × Trie V)) → AreCanonical low (as_children es)
      → Some t ≡ child_at b es → node_count t ≤ child_count (as_children es)
  count-found b low t [] w s = absurd (cc)
  count-found b low t (e ∷ es) w s = elim (found b low t e es w s) [
    | at_first h q ↦ rw q (omega arith)
    | after_first h q ↦ omega (arith, count-found b (suc e.0) t es w.3 q)
  ]

  pub put_child-found : (b low : ℕ) (k : List ℕ) (v : V) (t : Trie V) (es : List (ℕ × Trie V))
      → AreCanonical low (as_children es) → Some t ≡ child_at b es
      → put_child b k v (as_children es) ≡ as_children (replaced_at b (trie_put k v t) es)
  put_child-found b low k v t [] w s = absurd (cc)
  put_child-found b low k v t (e ∷ es) w s = elim (found b low t e es w s) [
    | at_first h q ↦ rw (is_equal b e.0 h, eq-yes e.0 b (sym h), q, h) refl
    | after_first h q ↦ rw (is_greater b e.0 h, eq-no e.0 b (λ z. omega arith))
        (ap (child e.0 e.1) (put_child-found b (suc e.0) k v t es w.3 q))
  ]

  -- where there is no child
  pub tail-none : (b : ℕ) (e : ℕ × Trie V) (es : List (ℕ × Trie V)) → None ≡ child_at b (e ∷ es) → (b ≡ e.0 → ⊥)
      × (None ≡ child_at b es)
  tail-none b e es s = ⊎_elim (λ h. (
    λ q. let f = rw (eq-yes e.0 b (sym q)) at s in
        cc,
    rw (eq-no e.0 b (λ q. omega arith)) at s,
  ))
      (⊎_elim (λ h. let f = rw (eq-yes e.0 b (sym h)) at s in absurd (cc))
      (λ h. (λ q. omega arith, rw (eq-no e.0 b (λ q. omega arith)) at s))) (order b e.0)

  pub put_child-none : (b : ℕ) (k : List ℕ) (v : V) (es : List (ℕ × Trie V)) → None ≡ child_at b es
      → put_child b k v (as_children es) ≡ as_children (with_entry b (leaf k v) es)
  put_child-none b k v [] s = refl
  put_child-none b k v (e ∷ es) s = let t = tail-none b e es s in ⊎_elim
      (λ h. rw (is_less b e.0 h, lt-yes b e.0 h) refl)
      (⊎_elim (λ h. absurd (t.0 h)) (λ h. rw (
        is_greater b e.0 h,
        lt-no b e.0 (omega arith),
        eq-no e.0 b
            (λ q. omega arith),
      ) (ap (child e.0 e.1) (put_child-none b k v es t.1)))) (order b e.0)

  -- two children are two insertions
  pub two_children-is : (b c : ℕ) (s t : Trie V) → (b ≡ c → ⊥)
      → as_children (with_entry c t ((b, s) ∷ [])) ≡ two_children b s c t
  two_children-is b c s t n = ⊎_elim
      (λ h. rw (is_less b c h, lt-no c b (omega arith), eq-no b c n) refl)
      (⊎_elim (λ h. absurd (n h)) (λ h. rw (is_greater b c h, lt-yes c b h) refl)) (order b c)

  -- there is no child beside an only one
  pub child_at-beside : (b c : ℕ) (s : Trie V) (es : List (ℕ × Trie V)) → es ≡ (b, s) ∷ [] → (b ≡ c → ⊥)
      → child_at c es ≡ None
  child_at-beside b c s es e n = ap (child_at c) e ∙ ap (λ z. cond z (Some s) None) (eq-no b c n)
