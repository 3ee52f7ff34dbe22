-- The children under a byte and above one, as a storage has them, and a node's children without the last.
use Rattle.std.proofs.Common.{◌≡◌, ℕ, suc, ◌+◌, ◌<◌, ◌≤◌, ⊎_elim, true, false, cond, ltb, List, [], ◌∷◌, ◌++◌}
use Rattle.std.proofs.Common.{Option, Some, None, refl, sym, ap, ◌∙◌, arith}
use Rattle.std.proofs.lemmas.Bool.{lt-ltb, le-ltb, cases_lt}
use Rattle.std.proofs.lemmas.List.{append-nil, append_assoc}
use Rattle.rart_keys.specs.Filters.{last_or}
use Rattle.rart_keys.proofs.strings.ByteOrder.{equal_or_not}
use Rattle.rart_parts.specs.Entries.{BytesAscend, IsLastUnder, StartsAbove, child_at, entries_above}
use Rattle.rart_parts.proofs.entries.EntryLemmas.{at_same, at_other, first_absent}
use Rattle.rart_trie.specs.ranges.Under.{entries_under, children_under, children_before, with_last}
use Rattle.rart_trie.specs.tries.CanonicalTest.{is_canonical}
use Rattle.rart_trie.specs.tries.Ends.{last_child}
use Rattle.rart_trie.specs.tries.Trie.{Trie, Children, no_children, child, children_pairs, pairs_of, prefix_of}
use Rattle.rart_trie.specs.tries.Trie.{StartsWith, IsCanonical, AreCanonical}
use Rattle.rart_trie.specs.tries.TrieCode.{as_children, node_count, child_count}
use Rattle.rart_trie.specs.walks.Walk.{Grown, children_entries, entries_of}
use Rattle.rart_trie.proofs.tries.CanonicalTests.{canonical-lower, test-IsCanonical}
use Rattle.rart_trie.specs.ranges.Starts.{children_above}

module _ {X : Type 0} where
  some-none : (x : X) → Some x ≡ None → ⊥
  some-none x h = cc

  under-yes : (b : ℕ) (e : ℕ × X) (es : List (ℕ × X)) → e.0 < b → entries_under b (e ∷ es) ≡ e ∷ entries_under b es
  under-yes b e es h = ap (λ z. cond z (e ∷ entries_under b es) (entries_under b es)) (lt-ltb e.0 b h)

  under-no : (b : ℕ) (e : ℕ × X) (es : List (ℕ × X)) → b ≤ e.0 → entries_under b (e ∷ es) ≡ entries_under b es
  under-no b e es h = ap (λ z. cond z (e ∷ entries_under b es) (entries_under b es)) (le-ltb e.0 b h)

  under-empty : (b c : ℕ) (es : List (ℕ × X)) → StartsAbove c es → BytesAscend es
      → ((d : ℕ) → c < d → d < b → child_at d es ≡ None) → entries_under b es ≡ []
  under-empty b c [] s w n = refl
  under-empty b c (e ∷ es) s w n = ⊎_elim
      (λ l. absurd (some-none e.1 (sym (at_same e.0 e es refl) ∙ n e.0 s l)))
      (λ l. under-no b e es l ∙ under-empty b e.0 es w.0 w.1
      (λ d m h. sym (at_other d e es (λ q. omega arith)) ∙ n d (omega (arith, s)) h)) (cases_lt e.0 b)

  under-none : (b : ℕ) (es : List (ℕ × X)) → ((d : ℕ) → d < b → child_at d es ≡ None) → entries_under b es ≡ []
  under-none b [] n = refl
  under-none b (e ∷ es) n = ⊎_elim
      (λ l. absurd (some-none e.1 (sym (at_same e.0 e es refl) ∙ n e.0 l)))
      (λ l. under-no b e es l
      ∙ under-none b es (λ d h. sym (at_other d e es (λ q. omega arith)) ∙ n d h)) (cases_lt e.0 b)

  last_or-some : (o : Option X) (x : X) (xs : List X) → last_or None xs ≡ Some x → last_or o xs ≡ Some x
  last_or-some o x [] h = absurd (cc)
  last_or-some o x (y ∷ xs) h = h

module _ {X : Type 0} where
  last-more : (b : ℕ) (e x : ℕ × X) (es : List (ℕ × X)) → last_or None (entries_under b es) ≡ Some x
      → last_or None (entries_under b (e ∷ es)) ≡ Some x
  last-more b e x es h = ⊎_elim
      (λ l. ap (last_or None) (under-yes b e es l) ∙ last_or-some (Some e) x (entries_under b es) h)
      (λ l. ap (last_or None) (under-no b e es l) ∙ h) (cases_lt e.0 b)

  -- the entry at c, between which and b there is none
  last-under : (b c : ℕ) (x : X) (es : List (ℕ × X)) → BytesAscend es → child_at c es ≡ Some x → c < b
      → ((d : ℕ) → c < d → d < b → child_at d es ≡ None) → last_or None (entries_under b es) ≡ Some (c, x)
  last-under b c x [] w h l n = absurd (cc)
  last-under b c x (e ∷ es) w h l n = ⊎_elim
      (λ s. let same : e.1 ≡ x = let q = sym (at_same c e es s) ∙ h in cc in
      let rest : entries_under b es ≡ []
      = under-empty b e.0 es w.0 w.1
      (λ d m k. sym (at_other d e es (λ q. omega arith)) ∙ n d (omega arith) k) in
      ap (last_or None) (under-yes b e es (omega arith) ∙ ap (λ z. e ∷ z) rest)
      ∙ ap (λ z. Some (z, e.1)) s ∙ ap (λ z. Some (c, z)) same)
      (λ s. last-more b e (c, x) es (last-under b c x es w.1 (sym (at_other c e es s) ∙ h) l
      (λ d m k. let q = n d m k in sym (at_other d e es (first_absent d e es q)) ∙ q)))
      (equal_or_not e.0 c)

  pub last-entry_under : (b : ℕ) (es : List (ℕ × X)) (answer : Option (ℕ × X)) → BytesAscend es
      → IsLastUnder b es answer → answer ≡ last_or None (entries_under b es)
  last-entry_under b es None w h = sym (ap (last_or None) (under-none b es h))
  last-entry_under b es (Some e) w h = sym (last-under b e.0 e.1 es w h.1 h.0 h.2)

-- the children of a storage under a byte are those of the trie
pub as_children-under : {V : Type 0} (b : ℕ) (es : List (ℕ × Trie V))
    → as_children (entries_under b es) ≡ children_under b (as_children es)
as_children-under b [] = refl
as_children-under b (e ∷ es) = elim (ltb e.0 b)
    as (λ z. as_children (cond z (e ∷ entries_under b es) (entries_under b es))
    ≡ cond z (child e.0 e.1 (children_under b (as_children es))) (children_under b (as_children es))) [
      | true ↦ ap (λ z. child e.0 e.1 z) (as_children-under b es)
      | false ↦ as_children-under b es
    ]

module _ {V : Type 0} where
  under-canonical : (b low : ℕ) (cs : Children V) → AreCanonical low cs → AreCanonical low (children_under b cs)
  under-canonical b low no_children w = tt
  under-canonical b low (child c t cs) w = elim (ltb c b)
      as (λ z. AreCanonical low (cond z (child c t (children_under b cs)) (children_under b cs))) [
        | true ↦ (w.0, w.1, w.2, under-canonical b (suc c) cs w.3)
        | false ↦ canonical-lower low (suc c) (children_under b cs) (omega (arith, w.0))
            (under-canonical b (suc c) cs w.3)
      ]

  child-yes : (b c : ℕ) (t : Trie V) (cs : Children V) → c < b → children_under b (child c t cs)
      ≡ child c t (children_under b cs)
  child-yes b c t cs h = ap (λ z. cond z (child c t (children_under b cs)) (children_under b cs)) (lt-ltb c b h)

  child-no : (b c : ℕ) (t : Trie V) (cs : Children V) → b ≤ c → children_under b (child c t cs) ≡ children_under b cs
  child-no b c t cs h = ap (λ z. cond z (child c t (children_under b cs)) (children_under b cs)) (le-ltb c b h)

  under-under : (b e : ℕ) (cs : Children V) → b ≤ e → children_under b (children_under e cs) ≡ children_under b cs
  under-under b e no_children h = refl
  under-under b e (child c t cs) h = ⊎_elim
      (λ l. ap (children_under b) (child-yes e c t cs l)
      ∙ ap (λ z. cond (ltb c b) (child c t z) z) (under-under b e cs h))
      (λ l. ap (children_under b) (child-no e c t cs l) ∙ under-under b e cs h
      ∙ sym (child-no b c t cs (omega arith))) (cases_lt c e)

  same-last : (b c : ℕ) (t u : Trie V) → ◌≡◌ {A = Option (ℕ × Trie V)} (Some (c, u)) (Some (b, t)) → (c ≡ b) × (u ≡ t)
  same-last b c t u h = let s : ◌≡◌ {A = ℕ × Trie V} (c, u) (b, t) = cc in (ap (λ z. z.0) s, ap (λ z. z.1) s)

  last-least : (low b : ℕ) (t : Trie V) (cs : Children V) → AreCanonical low cs → last_child cs ≡ Some (b, t) → low ≤ b
  last-least low b t no_children w h = absurd (cc)
  last-least low b t (child c u no_children) w h = let s = same-last b c t u h in omega (arith, w.0, s.0)
  last-least low b t (child c u (child d s cs)) w h
      = omega (arith, w.0, last-least (suc c) b t (child d s cs) w.3 h)

  last-split : (low b : ℕ) (t : Trie V) (cs : Children V) → AreCanonical low cs → last_child cs ≡ Some (b, t)
      → cs ≡ with_last (children_under b cs) b t
  last-split low b t no_children w h = absurd (cc)
  last-split low b t (child c u no_children) w h = let s = same-last b c t u h in
      rw (child-no b c u no_children (omega (arith, s.0))) (ap (λ z. child z u no_children) s.0
      ∙ ap (λ z. child b z no_children) s.1)
  last-split low b t (child c u (child d s cs)) w h =
      let l = last-least (suc c) b t (child d s cs) w.3 h in
      ap (λ z. child c u z) (last-split (suc c) b t (child d s cs) w.3 h)
      ∙ ap (λ z. with_last z b t) (sym (child-yes b c u (child d s cs) (omega (arith, l))))

  last-first : (e b c : ℕ) (t u : Trie V) (cs : Children V) → (last_child cs ≡ Some (b, t) → b < e)
      → last_child (child c u cs) ≡ Some (b, t) → c < e → b < e
  last-first e b c t u no_children f h l = let s = same-last b c t u h in omega (arith, s.0)
  last-first e b c t u (child d s cs) f h l = f h

  last-lower : (e b : ℕ) (t : Trie V) (cs : Children V) → last_child (children_under e cs) ≡ Some (b, t) → b < e
  last-lower e b t no_children h = absurd (cc)
  last-lower e b t (child c u cs) h = ⊎_elim
      (λ l. last-first e b c t u (children_under e cs) (λ k. last-lower e b t cs k)
      (sym (ap last_child (child-yes e c u cs l)) ∙ h) l)
      (λ l. last-lower e b t cs (sym (ap last_child (child-no e c u cs l)) ∙ h)) (cases_lt c e)

  before-canonical : (o : Option ℕ) (cs : Children V) → AreCanonical 0 cs → AreCanonical 0 (children_before o cs)
  before-canonical None cs w = w
  before-canonical (Some b) cs w = under-canonical b 0 cs w

  -- the last child before an end, and the others
  pub last-before : (o : Option ℕ) (b : ℕ) (t : Trie V) (cs : Children V) → AreCanonical 0 cs
      → Some (b, t) ≡ last_child (children_before o cs)
      → children_before o cs ≡ with_last (children_before (Some b) cs) b t
  last-before None b t cs w h = last-split 0 b t cs w (sym h)
  last-before (Some e) b t cs w h =
      let l = last-lower e b t cs (sym h) in
      last-split 0 b t (children_under e cs) (under-canonical e 0 cs w) (sym h)
      ∙ ap (λ z. with_last z b t) (under-under b e cs (omega (arith, l)))

  pub none-last : (cs : Children V) → None ≡ last_child cs → cs ≡ no_children
  none-last no_children h = refl
  none-last (child b t no_children) h = absurd (cc)
  none-last (child b t (child c u cs)) h = let q = none-last (child c u cs) h in absurd (cc)

  -- what is known of the last child and of the others
  pub last-canonical : (low b : ℕ) (t : Trie V) (cs : Children V) → AreCanonical low (with_last cs b t)
      → AreCanonical low cs × StartsWith b (prefix_of t) × IsCanonical t
  last-canonical low b t no_children w = (tt, w.1, w.2)
  last-canonical low b t (child c u cs) w = let r = last-canonical (suc c) b t cs w.3 in
      ((w.0, w.1, w.2, r.0), r.1, r.2)

  pub pairs-last : (b : ℕ) (t : Trie V) (cs : Children V) → children_pairs (with_last cs b t)
      ≡ children_pairs cs ++ pairs_of t
  pairs-last b t no_children = append-nil (pairs_of t)
  pairs-last b t (child c u cs) = ap (λ z. pairs_of u ++ z) (pairs-last b t cs)
      ∙ sym (append_assoc (pairs_of u) (children_pairs cs) (pairs_of t))

  pub entries-last : (g : Grown) (b : ℕ) (t : Trie V) (cs : Children V) → children_entries g (with_last cs b t)
      ≡ children_entries g cs ++ entries_of g t
  entries-last g b t no_children = append-nil (entries_of g t)
  entries-last g b t (child c u cs) = ap (λ z. entries_of g u ++ z) (entries-last g b t cs)
      ∙ sym (append_assoc (entries_of g u) (children_entries g cs) (entries_of g t))

  pub count-last : (b : ℕ) (t : Trie V) (cs : Children V) → child_count (with_last cs b t)
      ≡ child_count cs + node_count t
  count-last b t no_children = omega arith
  count-last b t (child c u cs) = omega (arith, count-last b t cs)

  pub last-part : (o : Option ℕ) (b : ℕ) (t : Trie V) (cs : Children V) → AreCanonical 0 cs
      → Some (b, t) ≡ last_child (children_before o cs) → is_canonical t ≡ true
  last-part o b t cs w h =
      let e = last-before o b t cs w h in
      let r : AreCanonical 0 (with_last (children_under b cs) b t) = rw (← e) (before-canonical o cs w) in
      test-IsCanonical t (last-canonical 0 b t (children_under b cs) r).2

-- the children of a storage above a byte are those of the trie
pub as_children-above : {V : Type 0} (b : ℕ) (es : List (ℕ × Trie V))
    → as_children (entries_above b es) ≡ children_above b (as_children es)
as_children-above b [] = refl
as_children-above b (e ∷ es) = elim (ltb b e.0)
    as (λ z. as_children (cond z (e ∷ entries_above b es) (entries_above b es))
    ≡ cond z (child e.0 e.1 (children_above b (as_children es))) (children_above b (as_children es))) [
      | true ↦ ap (λ z. child e.0 e.1 z) (as_children-above b es)
      | false ↦ as_children-above b es
    ]
