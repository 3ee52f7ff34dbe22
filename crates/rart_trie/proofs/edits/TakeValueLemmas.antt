-- A walk that moves the values out of a tree continues child by child: the emptied children keep their bytes.
use Rattle.std.proofs.Common.{◌≡◌, ℕ, suc, ◌+◌, ◌<◌, ◌≤◌, List, [], ◌∷◌, ◌++◌, length, refl, sym, ap, ◌∙◌, arith}
use Rattle.std.proofs.Common.{Option, Some, None, option_map, length-append}
use Rattle.std.specs.Prelude.{slice_get}
use Rattle.std.proofs.lemmas.List.{append-nil, append_assoc}
use Rattle.rart_keys.specs.SortedMap.{values_of}
use Rattle.rart_keys.proofs.strings.ByteOrder.{eq-yes, eq-no}
use Rattle.rart_parts.specs.Entries.{child_at, entries_above, replaced_at}
use Rattle.rart_trie.specs.tries.PrefixLaws.{values-append, values-with_prefix}
use Rattle.rart_trie.specs.tries.Trie.{Children, Trie, node, pairs_of, children_pairs, own_pair, AreCanonical}
use Rattle.rart_trie.specs.tries.Trie.{IsCanonical}
use Rattle.rart_trie.specs.tries.TrieCode.{as_children, child_count, node_count}
use Rattle.rart_trie.proofs.storages.ChildLemmas.{lt-no, lt-yes}
use Rattle.rart_trie.proofs.storages.EntryPlaces.{ahead_count}

module _ {V : Type 0} where
  -- the bytes ascend, from `low` on
  abbrev AreOrdered : ℕ → List (ℕ × Trie V) → Type 0
  AreOrdered low [] = Unit {0}
  AreOrdered low (e ∷ es) = (low ≤ e.0) × AreOrdered (suc e.0) es

  canonical-ordered : (low : ℕ) (es : List (ℕ × Trie V)) → AreCanonical low (as_children es) → AreOrdered low es
  canonical-ordered low [] w = tt
  canonical-ordered low (e ∷ es) w = (w.0, canonical-ordered (suc e.0) es w.3)

  ordered-low : (b low : ℕ) (u : Trie V) (xs ys : List (ℕ × Trie V)) → AreOrdered low (xs ++ (b, u) ∷ ys) → low ≤ b
  ordered-low b low u [] ys w = w.0
  ordered-low b low u (x ∷ xs) ys w = omega (arith, w.0, ordered-low b (suc x.0) u xs ys w.1)

  ordered-at : (b low : ℕ) (u : Trie V) (xs ys : List (ℕ × Trie V)) → AreOrdered low (xs ++ (b, u) ∷ ys)
      → child_at b (xs ++ (b, u) ∷ ys) ≡ Some u
  ordered-at b low u [] ys w = rw (eq-yes b b refl) refl
  ordered-at b low u (x ∷ xs) ys w = rw (eq-no x.0 b (λ q. omega (arith, q, ordered-low b (suc x.0) u xs ys w.1)))
      (ordered-at b (suc x.0) u xs ys w.1)

  ordered-replaced : (b low : ℕ) (u w : Trie V) (xs ys : List (ℕ × Trie V)) → AreOrdered low (xs ++ (b, u) ∷ ys)
      → replaced_at b w (xs ++ (b, u) ∷ ys) ≡ xs ++ (b, w) ∷ ys
  ordered-replaced b low u w [] ys c = rw (eq-yes b b refl) refl
  ordered-replaced b low u w (x ∷ xs) ys c = rw (eq-no x.0 b (λ q. omega (
    arith,
    q,
    ordered-low b
        (suc x.0) u xs ys c.1,
  )))
      (ap (λ z. x ∷ z) (ordered-replaced b (suc x.0) u w xs ys c.1))

  ordered-with : (b low : ℕ) (u w : Trie V) (xs ys : List (ℕ × Trie V)) → AreOrdered low (xs ++ (b, u) ∷ ys)
      → AreOrdered low (xs ++ (b, w) ∷ ys)
  ordered-with b low u w [] ys c = c
  ordered-with b low u w (x ∷ xs) ys c = (c.0, ordered-with b (suc x.0) u w xs ys c.1)

  above-all : (b low : ℕ) (ys : List (ℕ × Trie V)) → b < low → AreOrdered low ys → entries_above b ys ≡ ys
  above-all b low [] h w = refl
  above-all b low (y ∷ ys) h w = rw (lt-yes b y.0 (omega (arith, h, w.0)))
      (ap (λ z. y ∷ z) (above-all b (suc y.0) ys (omega (arith, h, w.0)) w.1))

  ordered-above : (b low : ℕ) (u : Trie V) (xs ys : List (ℕ × Trie V)) → AreOrdered low (xs ++ (b, u) ∷ ys)
      → entries_above b (xs ++ (b, u) ∷ ys) ≡ ys
  ordered-above b low u [] ys w = rw (lt-no b b (omega arith)) (above-all b (suc b) ys (omega arith) w.1)
  ordered-above b low u (x ∷ xs) ys w = rw (lt-no b x.0 (omega (arith, ordered-low b (suc x.0) u xs ys w.1)))
      (ordered-above b (suc x.0) u xs ys w.1)

  ahead-rest : (xs rest es : List (ℕ × Trie V)) (next : Option ℕ) → es ≡ xs ++ rest → AreOrdered 0 es
      → next ≡ option_map (λ e. e.0) (slice_get rest 0) → ahead_count next es ≡ length rest
  ahead-rest xs [] es next e w h = rw h refl
  ahead-rest xs (y ∷ rest) es next e w h = rw (h, e)
      (ap (λ z. suc (length z)) (ordered-above y.0 0 y.1 xs rest (rw e at w)))

  length-values : (es : List (List ℕ × V)) → length (values_of es) ≡ length es
  length-values [] = refl
  length-values (e ∷ es) = ap suc (length-values es)

  -- What a walk over the children keeps: `taken` has what was moved so far, and the children from `next` on are as
  -- they were.
  pub record Taking (t0 : Trie V) (first taken : List V) (es : List (ℕ × Trie V)) (next : Option ℕ) : Type 0 where
    pub low : ℕ
    pub left : List (ℕ × Trie V)
    pub rest : List (ℕ × Trie V)
    pub all : es ≡ left ++ rest
    pub ordered : AreOrdered 0 es
    pub canonical : AreCanonical low (as_children rest)
    pub ahead : next ≡ option_map (λ e. e.0) (slice_get rest 0)
    pub same : taken ++ values_of (children_pairs (as_children rest)) ≡ first ++ values_of (pairs_of t0)
    pub fewer : child_count (as_children rest) < node_count t0

  values-node : (p : List ℕ) (v : Option V) (n : ℕ) (cs : Children V) → values_of (pairs_of (node p v n cs))
      ≡ values_of (own_pair v) ++ values_of (children_pairs cs)
  values-node p v n cs = values-with_prefix p (own_pair v ++ children_pairs cs)
      ∙ values-append (own_pair v) (children_pairs cs)

  pub taking-start : (p : List ℕ) (v : Option V) (n : ℕ) (es : List (ℕ × Trie V)) (first taken : List V)
      (next : Option ℕ) → IsCanonical (node p v n (as_children es)) → taken ≡ first ++ values_of (own_pair v)
      → next ≡ option_map (λ e. e.0) (slice_get es 0) → Taking (node p v n (as_children es)) first taken es next
  taking-start p v n es first taken next c t a = record {
    low = 0;
    left = [];
    rest = es;
    all = refl;
    ordered = canonical-ordered 0 es c.2;
    canonical = c.2;
    ahead = a;
    same = ap (λ z. z ++ values_of (children_pairs (as_children es))) t
        ∙ append_assoc first (values_of (own_pair v)) (values_of (children_pairs (as_children es)))
        ∙ ap (λ z. first ++ z) (sym (values-node p v n (as_children es)));
    fewer = omega arith;
  }

  -- the value was moved, or there is none
  pub own-taken : (v : Option V) (x : V) (first taken : List V) → v ≡ Some x → taken ≡ first ++ x ∷ []
      → taken ≡ first ++ values_of (own_pair v)
  own-taken v x first taken e t = rw e t

  pub own-none : (v : Option V) (first : List V) → v ≡ None → first ≡ first ++ values_of (own_pair v)
  own-none v first e = rw e (sym (append-nil first))

  -- the child that comes next
  pub record Next (t0 : Trie V) (first taken : List V) (b : ℕ) (es : List (ℕ × Trie V)) (u : Trie V) : Type 0 where
    pub left : List (ℕ × Trie V)
    pub rest : List (ℕ × Trie V)
    pub all : es ≡ left ++ (b, u) ∷ rest
    pub there : child_at b es ≡ Some u
    pub canonical : IsCanonical u
    pub later : AreCanonical (suc b) (as_children rest)
    pub same : taken ++ (values_of (pairs_of u) ++ values_of (children_pairs (as_children rest)))
        ≡ first ++ values_of (pairs_of t0)
    pub fewer : node_count u + child_count (as_children rest) < node_count t0
    pub count : ahead_count (Some b) es ≡ suc (length rest)

  next-of : (t0 : Trie V) (first taken : List V) (b : ℕ) (es : List (ℕ × Trie V))
      (i : Taking t0 first taken es (Some b)) (rest : List (ℕ × Trie V)) → i.rest ≡ rest
      → (u : Trie V) × Next t0 first taken b es u
  next-of t0 first taken b es i [] e = let h : Some b ≡ None = i.ahead
      ∙ ap (λ r. option_map (λ e. e.0) (slice_get r 0)) e in absurd (cc)
  next-of t0 first taken b es i (x ∷ rest) e =
      let h : Some b ≡ Some x.0 = i.ahead ∙ ap (λ r. option_map (λ e. e.0) (slice_get r 0)) e in
      let byte : b ≡ x.0 = cc in
      let tail : i.rest ≡ (b, x.1) ∷ rest = e ∙ ap (λ z. (z, x.1) ∷ rest) (sym byte) in
      let all : es ≡ i.left ++ (b, x.1) ∷ rest = i.all ∙ ap (λ r. i.left ++ r) tail in
      let ordered : AreOrdered 0 (i.left ++ (b, x.1) ∷ rest) = rw all at i.ordered in
      let canonical : AreCanonical i.low (as_children ((b, x.1) ∷ rest)) = rw tail at i.canonical in (
        x.1,
        record {
          left = i.left;
          rest = rest;
          all = all;
          there = ap (child_at b) all ∙ ordered-at b 0 x.1 i.left rest ordered;
          canonical = canonical.2;
          later = canonical.3;
          same = ap (λ z. taken ++ z) (sym (values-append (pairs_of x.1) (children_pairs (as_children rest))))
              ∙ ap (λ r. taken ++ values_of (children_pairs (as_children r))) (sym tail) ∙ i.same;
          fewer = omega (arith, i.fewer, ap (λ r. child_count (as_children r)) tail);
          count = ap (λ es. suc (length (entries_above b es))) all
              ∙ ap (λ es. suc (length es)) (ordered-above b 0 x.1 i.left rest ordered);
        },
      )

  pub next-child : (t0 : Trie V) (first taken : List V) (b : ℕ) (es : List (ℕ × Trie V)) (u : Trie V)
      → Taking t0 first taken es (Some b) → Some u ≡ child_at b es → Next t0 first taken b es u
  next-child t0 first taken b es u i s =
      let x = next-of t0 first taken b es i i.rest refl in
      let e : u ≡ x.0 = let q = s ∙ x.1.there in cc in rw e x.1

  pub next-there : (t0 : Trie V) (first taken : List V) (b : ℕ) (es : List (ℕ × Trie V))
      → Taking t0 first taken es (Some b) → None ≡ child_at b es → ⊥
  next-there t0 first taken b es i s =
      let x = next-of t0 first taken b es i i.rest refl in
      let q = s ∙ x.1.there in absurd (cc)

  -- there is capacity for the values of the next child
  pub next-fits : (t0 : Trie V) (first taken : List V) (b most : ℕ) (es : List (ℕ × Trie V)) (u : Trie V)
      → Next t0 first taken b es u → length first + length (pairs_of t0) ≤ most
      → length taken + length (pairs_of u) ≤ most
  next-fits t0 first taken b most es u k h = omega (
    arith,
    h,
    length-append first (values_of (pairs_of t0)),
    length-append taken (values_of (pairs_of u) ++ values_of (children_pairs (as_children k.rest))),
    length-append (values_of (pairs_of u)) (values_of (children_pairs (as_children k.rest))),
    ap length k.same,
    length-values (pairs_of t0),
    length-values (pairs_of u),
  )

  -- after it
  pub taking-step : (t0 : Trie V) (first taken more : List V) (b : ℕ) (es ds : List (ℕ × Trie V)) (u x : Trie V)
      (next : Option ℕ) → Taking t0 first taken es (Some b) → Some u ≡ child_at b es
      → more ≡ taken ++ values_of (pairs_of u) → ds ≡ replaced_at b x es
      → next ≡ option_map (λ e. e.0) (slice_get (entries_above b ds) 0)
      → Taking t0 first more ds next × (ahead_count next ds < ahead_count (Some b) es)
  taking-step t0 first taken more b es ds u x next i s m d a =
      let k = next-child t0 first taken b es u i s in
      let all : AreOrdered 0 (k.left ++ (b, u) ∷ k.rest) = rw k.all at i.ordered in
      let changed : ds ≡ k.left ++ (b, x) ∷ k.rest = d ∙ ap (replaced_at b x) k.all
      ∙ ordered-replaced b 0 u x k.left k.rest all in
      let ordered : AreOrdered 0 (k.left ++ (b, x) ∷ k.rest) = ordered-with b 0 u x k.left k.rest all in
      let above : entries_above b ds ≡ k.rest = ap (entries_above b) changed
      ∙ ordered-above b 0 x k.left k.rest ordered in
      let first-ahead : next ≡ option_map (λ e. e.0) (slice_get k.rest 0) = a
      ∙ ap (λ r. option_map (λ e. e.0) (slice_get r 0)) above in
      let joined : ds ≡ (k.left ++ (b, x) ∷ []) ++ k.rest = changed
      ∙ sym (append_assoc k.left ((b, x) ∷ []) k.rest) in (
        record {
          low = suc b;
          left = k.left ++ (b, x) ∷ [];
          rest = k.rest;
          all = joined;
          ordered = rw changed ordered;
          canonical = k.later;
          ahead = first-ahead;
          same = ap (λ z. z ++ values_of (children_pairs (as_children k.rest))) m
              ∙ append_assoc taken (values_of (pairs_of u)) (values_of (children_pairs (as_children k.rest))) ∙ k.same;
          fewer = omega (arith, k.fewer);
        },
        omega (
          arith,
          k.count,
          ahead-rest (k.left ++ (b, x) ∷ []) k.rest ds next joined (rw changed ordered) first-ahead,
        ),
      )

  -- the walk is over
  pub taking-end : (t0 : Trie V) (first taken : List V) (es : List (ℕ × Trie V)) → Taking t0 first taken es None
      → taken ≡ first ++ values_of (pairs_of t0)
  taking-end t0 first taken es i = over i.rest refl
    where
      over : (rest : List (ℕ × Trie V)) → i.rest ≡ rest → taken ≡ first ++ values_of (pairs_of t0)
      over [] e = sym (append-nil taken) ∙ ap (λ r. taken ++ values_of (children_pairs (as_children r))) (sym e)
          ∙ i.same
      over (x ∷ rest) e = let h : ◌≡◌ {A = Option ℕ} None (Some x.0) = i.ahead
          ∙ ap (λ r. option_map (λ e. e.0) (slice_get r 0)) e in absurd (cc)
