-- A walk over the bytes of a storage that changes each child in its place, whatever the order of its entries.
use Rattle.std.proofs.Common.{◌≡◌, ◌≢◌, ℕ, suc, ◌<◌, ◌≤◌, ⊎_elim, List, [], ◌∷◌, length, Option, Some, None, refl}
use Rattle.std.proofs.Common.{sym, ap, ◌∙◌, arith, subst, option_map, true, false, cond, ltb, ◌⊎◌, inl, inr}
use Rattle.std.proofs.lemmas.Bool.{cases_lt}
use Rattle.std.specs.Prelude.{slice_get}
use Rattle.rart_keys.proofs.strings.ByteOrder.{eq-yes, eq-no, order}
use Rattle.rart_parts.specs.Entries.{child_at, entries_above, replaced_at}
use Rattle.rart_trie.specs.tries.Trie.{Trie, node}
use Rattle.rart_trie.specs.tries.TrieCode.{as_children, child_count, node_count}
use Rattle.rart_trie.proofs.storages.ChildLemmas.{lt-no, lt-yes, some-equal}
use Rattle.rart_trie.proofs.storages.EntryPlaces.{ahead_count}

same-or-not : (b c : ℕ) → (b ≡ c) ⊎ (b ≡ c → ⊥)
same-or-not b c = ⊎_elim (λ l. inr (λ q. omega (arith, l, q)))
    (⊎_elim (λ q. inl q) (λ g. inr (λ q. omega (arith, g, q)))) (order b c)

module _ {V : Type 0} where
  fewer-above : (b c : ℕ) (es : List (ℕ × Trie V)) → b ≤ c → length (entries_above c es) ≤ length (entries_above b es)
  fewer-above b c [] h = omega arith
  fewer-above b c (e ∷ es) h = ⊎_elim
      (λ l. rw (lt-yes c e.0 l, lt-yes b e.0 (omega (arith, h, l))) (omega (arith, fewer-above b c es h)))
      (λ m. rw (lt-no c e.0 m) (⊎_elim
      (λ l. rw (lt-yes b e.0 l) (omega (arith, fewer-above b c es h)))
      (λ n. rw (lt-no b e.0 n) (fewer-above b c es h))
      (cases_lt b e.0)))
      (cases_lt c e.0)

  -- the first entry after a byte
  record After (b : ℕ) (x : ℕ × Trie V) (es : List (ℕ × Trie V)) : Type 0 where
    later : b < x.0
    there : child_at x.0 es ≢ None
    fewer : length (entries_above x.0 es) < length (entries_above b es)

  pair-equal : (x y : ℕ × Trie V) → Some x ≡ Some y → x ≡ y
  pair-equal x y e = cc

  first-there : (x : ℕ × Trie V) (es : List (ℕ × Trie V)) → child_at x.0 (x ∷ es) ≢ None
  first-there x es n = let q = rw (eq-yes x.0 x.0 refl) at n in absurd (cc)

  after : (b : ℕ) (x : ℕ × Trie V) (es : List (ℕ × Trie V)) → slice_get (entries_above b es) 0 ≡ Some x → After b x es
  after b x [] s = absurd (cc)
  after b x (e ∷ es) s = ⊎_elim
      (λ l. subst (λ z. After b z (e ∷ es)) (pair-equal e x (rw (lt-yes b e.0 l) at s)) (record {
        later = l;
        there = first-there e es;
        fewer = rw (lt-no e.0 e.0 (omega arith), lt-yes b e.0 l)
            (omega (arith, fewer-above b e.0 es (omega (arith, l))));
      }))
      (λ m. let i = after b x es (rw (lt-no b e.0 m) at s) in record {
        later = i.later;
        there = λ n. i.there (rw (eq-no e.0 x.0 (λ q. omega (arith, m, q, i.later))) at n);
        fewer = rw (lt-no x.0 e.0 (omega (arith, m, i.later)), lt-no b e.0 m) i.fewer;
      })
      (cases_lt b e.0)

  above-replaced : (b c : ℕ) (u : Trie V) (es : List (ℕ × Trie V))
      → length (entries_above b (replaced_at c u es)) ≡ length (entries_above b es)
  above-replaced b c u [] = refl
  above-replaced b c u (e ∷ es) = ⊎_elim
      (λ q. rw (eq-yes e.0 c q, q) (elim (ltb b c) as (λ z.
      length (cond z ((c, u) ∷ entries_above b es) (entries_above b es))
      ≡ length (cond z ((c, e.1) ∷ entries_above b es) (entries_above b es))) [ true ↦ refl | false ↦ refl ]))
      (λ n. rw (eq-no e.0 c n) (elim (ltb b e.0) as (λ z. length (cond z (e ∷ entries_above b (replaced_at c u es))
      (entries_above b (replaced_at c u es))) ≡ length (cond z (e ∷ entries_above b es) (entries_above b es))) [
        | true ↦ ap suc (above-replaced b c u es)
        | false ↦ above-replaced b c u es
      ]))
      (same-or-not e.0 c)

  count-at : (b : ℕ) (t : Trie V) (es : List (ℕ × Trie V)) → Some t ≡ child_at b es
      → node_count t ≤ child_count (as_children es)
  count-at b t [] s = absurd (cc)
  count-at b t (e ∷ es) s = ⊎_elim
      (λ q. rw (some-equal t e.1 (rw (eq-yes e.0 b q) at s)) (omega arith))
      (λ n. omega (arith, count-at b t es (rw (eq-no e.0 b n) at s)))
      (same-or-not e.0 b)

  count-replaced : (b : ℕ) (t u : Trie V) (es : List (ℕ × Trie V)) → Some t ≡ child_at b es
      → node_count u ≤ node_count t
      → child_count (as_children (replaced_at b u es)) ≤ child_count (as_children es)
  count-replaced b t u [] s h = omega arith
  count-replaced b t u (e ∷ es) s h = ⊎_elim
      (λ q. rw (eq-yes e.0 b q) (omega (arith, h, ap node_count (some-equal t e.1 (rw (eq-yes e.0 b q) at s)))))
      (λ n. rw (eq-no e.0 b n) (omega (arith, count-replaced b t u es (rw (eq-no e.0 b n) at s) h)))
      (same-or-not e.0 b)

  -- What a walk over the children keeps: there are no more nodes than at first, n of them, and one is at `next`.
  pub record Dropping (n : ℕ) (es : List (ℕ × Trie V)) (next : Option ℕ) : Type 0 where
    pub few : child_count (as_children es) ≤ n
    pub there : (b : ℕ) → next ≡ Some b → child_at b es ≢ None

  pub dropping-first : (es : List (ℕ × Trie V)) (next : Option ℕ) → next ≡ option_map (λ e. e.0) (slice_get es 0)
      → Dropping (child_count (as_children es)) es next
  dropping-first [] next a = record { few = omega arith; there = λ b e. absurd (let q = sym e ∙ a in cc) }
  dropping-first (x ∷ es) next a = record {
    few = omega arith;
    there = λ b e n. let q : Some b ≡ Some x.0 = sym e ∙ a in
        let h : b ≡ x.0 = cc in first-there x es (subst (λ z. child_at z (x ∷ es) ≡ None) h n);
  }

  pub dropping-fewer : (n b : ℕ) (t : Trie V) (es : List (ℕ × Trie V)) → Dropping n es (Some b) → Some t ≡ child_at b es
      → node_count t ≤ n
  dropping-fewer n b t es i s = omega (arith, i.few, count-at b t es s)

  record Dropped (n b : ℕ) (es : List (ℕ × Trie V)) (next : Option ℕ) : Type 0 where
    pub walk : Dropping n es next
    pub ahead : ahead_count next es ≤ length (entries_above b es)

  dropped-at : (n b : ℕ) (es : List (ℕ × Trie V)) (next : Option ℕ) (x : Option (ℕ × Trie V))
      → child_count (as_children es) ≤ n → slice_get (entries_above b es) 0 ≡ x → next ≡ option_map (λ e. e.0) x
      → Dropped n b es next
  dropped-at n b es next None f s a = rw a (record {
    walk = record { few = f; there = λ c e. absurd (cc) };
    ahead = omega arith;
  })
  dropped-at n b es next (Some x) f s a = let i = after b x es s in rw a (record {
    walk = record {
      few = f;
      there = λ c e m. let h : x.0 ≡ c = cc in i.there (subst (λ z. child_at z es ≡ None) (sym h) m);
    };
    ahead = omega (arith, i.fewer);
  })

  childless-fewer : (p : List ℕ) (v : Option V) (w : ℕ) (ds : List (ℕ × Trie V)) (t : Trie V) → ds ≡ []
      → node_count (node p v w (as_children ds)) ≤ node_count t
  childless-fewer p v w ds (node q x m cs) e = omega (arith, ap (λ z. child_count (as_children z)) e)

  -- a child loses its children, and the walk continues above it
  pub dropping-step : (n b w : ℕ) (p : List ℕ) (v : Option V) (t : Trie V) (ds es es' : List (ℕ × Trie V))
      (next : Option ℕ) → Dropping n es (Some b) → Some t ≡ child_at b es → ds ≡ []
      → es' ≡ replaced_at b (node p v w (as_children ds)) es
      → next ≡ option_map (λ e. e.0) (slice_get (entries_above b es') 0)
      → Dropping n es' next × (ahead_count next es' < ahead_count (Some b) es)
  dropping-step n b w p v t ds es es' next i s h r a =
      let u : Trie V = node p v w (as_children ds) in
      let few : child_count (as_children es') ≤ n
      = omega (
        arith,
        ap (λ z. child_count (as_children z)) r,
        count-replaced b t u es s (childless-fewer p v w ds t h),
        i.few,
      ) in
      let d = dropped-at n b es' next (slice_get (entries_above b es') 0) few refl a in
      (d.walk, omega (arith, d.ahead, ap (λ z. length (entries_above b z)) r, above-replaced b b u es))
