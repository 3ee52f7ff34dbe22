-- The moves of a node's children to both sides, from the last child to the first.
use Rattle.std.proofs.Common.{◌≡◌, ℕ, ◌+◌, ◌<◌, ◌≤◌, ⊎_elim, suc, Bool, not}
use Rattle.std.proofs.Common.{List, [], ◌∷◌, ◌++◌, length, length-append, refl, sym, ap, ap₂, ◌∙◌, arith, subst}
use Rattle.std.proofs.Common.{Option, Some, None}
use Rattle.std.proofs.lemmas.List.{append-nil, append_assoc}
use Rattle.std.specs.Prelude.{IfSome, reverse}
use Rattle.rart_keys.specs.Filters.{last_or}
use Rattle.rart_keys.specs.KeyBytes.{IsWithin}
use Rattle.rart_keys.specs.SortedMap.{longest_key}
use Rattle.rart_parts.specs.Entries.{child_at, replaced_at, with_entry, without_byte}
use Rattle.rart_trie.specs.declared.node.edits.split.Sides.{Sides}
use Rattle.rart_trie.specs.declared.node.edits.split.Step.{Step}
use Rattle.rart_trie.specs.declared.node.edits.split.Step.TheVariants.{Whole, Split}
use Rattle.rart_trie.specs.declared.node.storage.Kind.{Kind}
use Rattle.rart_trie.specs.edits.Splits.{AreSides, ChildrenSplitBy, HasSlot, IsEmptyFor, IsSide, IsWhole}
use Rattle.rart_trie.specs.edits.Splits.{MakesNode, SplitsBy, TakesChild, children_where, complement, option_where}
use Rattle.rart_trie.specs.edits.Splits.{side_node, trie_where, with_side}
use Rattle.rart_trie.specs.shapes.Shape.{capacity_of}
use Rattle.rart_trie.specs.storages.Stored.{HoldsSo, child_entries, storage_capacity, stored_value}
use Rattle.rart_trie.specs.tries.Trie.{Trie, node, child_if, edges_of, AreCanonical}
use Rattle.rart_trie.specs.tries.Trie.{IsCanonical, children_in, collapsed_node, pairs_of, prefix_of, value_of}
use Rattle.rart_trie.specs.tries.TrieCode.{as_children, child_count, node_count}
use Rattle.rart_keys.proofs.strings.ByteOrder.{eq-no, eq-yes, equal_or_not}
use Rattle.rart_trie.proofs.edits.InsertLemmas.{fewer-within}
use Rattle.rart_trie.proofs.edits.JoinedLengths.{entry-short}
use Rattle.rart_trie.proofs.splits.PlanSteps.{splits-last}
use Rattle.rart_trie.proofs.splits.SplitTries.{child_if-count, children_canonical-where, count-append, joins-where}
use Rattle.rart_trie.proofs.splits.SplitTries.{one_if}
use Rattle.rart_trie.proofs.retentions.ChangedChildren.{middle-without}
use Rattle.rart_trie.proofs.storages.ChildLemmas.{edges_of-length, lt-yes}
use Rattle.rart_trie.proofs.storages.EntryPlaces.{back-canonical, middle-at, middle-canonical, middle-count}

-- a list ends with x
pub record EndsWith {A : Type 0} (es : List A) (x : A) : Type 0 where
  pub front : List A
  pub whole : es ≡ front ++ x ∷ []

ends-from : {A : Type 0} (e x : A) (es : List A) → Some x ≡ last_or (Some e) es → EndsWith (e ∷ es) x
ends-from e x [] h = let same : e ≡ x = cc in record { front = []; whole = ap (λ z. z ∷ []) same }
ends-from e x (f ∷ es) h =
    let r = ends-from f x es h in
    record { front = e ∷ r.front; whole = ap (λ z. e ∷ z) r.whole }

ends-with : {A : Type 0} (x : A) (es : List A) → Some x ≡ last_or None es → EndsWith es x
ends-with x [] h = absurd (cc)
ends-with x (e ∷ es) h = ends-from e x es h

none-from : {A : Type 0} (e : A) (es : List A) → None ≡ last_or (Some e) es → ⊥
none-from e [] h = cc
none-from e (f ∷ es) h = none-from f es h

no-last : {A : Type 0} (es : List A) → None ≡ last_or None es → es ≡ []
no-last [] h = refl
no-last (e ∷ es) h = absurd (none-from e es h)

module _ {V : Type 0} where
  -- canonical nodes at bytes from `low` on have none at a byte below
  none-below : (b low : ℕ) (es : List (ℕ × Trie V)) → b < low → AreCanonical low (as_children es) → child_at b es ≡ None
  none-below b low [] l h = refl
  none-below b low (e ∷ es) l h = rw (eq-no e.0 b (λ q. omega (arith, q, l, h.0)))
      (none-below b (suc e.0) es (omega (arith, l, h.0)) h.3)

  -- and a child at a byte below goes in front
  in-front : (b : ℕ) (t : Trie V) (es : List (ℕ × Trie V)) → AreCanonical (suc b) (as_children es)
      → with_entry b t es ≡ (b, t) ∷ es
  in-front b t [] h = refl
  in-front b t (e ∷ es) h = rw (lt-yes b e.0 (omega (arith, h.0))) refl

  -- entries of which one is replaced
  without-replaced : (b : ℕ) (w : Trie V) (es : List (ℕ × Trie V))
      → without_byte b (replaced_at b w es) ≡ without_byte b es
  without-replaced b w [] = refl
  without-replaced b w (e ∷ es) = ⊎_elim
      (λ q. rw (eq-yes e.0 b q, eq-yes b b refl) refl)
      (λ n. rw (eq-no e.0 b n, eq-no e.0 b n) (ap (λ z. e ∷ z) (without-replaced b w es))) (equal_or_not e.0 b)

  at-replaced : (b : ℕ) (u w : Trie V) (es : List (ℕ × Trie V)) → child_at b es ≡ Some u
      → child_at b (replaced_at b w es) ≡ Some w
  at-replaced b u w [] h = absurd (cc)
  at-replaced b u w (e ∷ es) h = ⊎_elim
      (λ q. rw (eq-yes e.0 b q, eq-yes b b refl) refl)
      (λ n. rw (eq-no e.0 b n, eq-no e.0 b n) (at-replaced b u w es (rw (eq-no e.0 b n) at h))) (equal_or_not e.0 b)

  front-canonical : (low : ℕ) (xs ys : List (ℕ × Trie V)) → AreCanonical low (as_children (xs ++ ys))
      → AreCanonical low (as_children xs)
  front-canonical low [] ys w = tt
  front-canonical low (x ∷ xs) ys w = (w.0, w.1, w.2, front-canonical (suc x.0) xs ys w.3)

  after-canonical : (b low : ℕ) (u : Trie V) (xs ys : List (ℕ × Trie V))
      → AreCanonical low (as_children (xs ++ (b, u) ∷ ys)) → AreCanonical (suc b) (as_children ys)
  after-canonical b low u xs ys w = (back-canonical low xs ((b, u) ∷ ys) w).3

  children-canonical : (u : Trie V) → IsCanonical u → AreCanonical 0 (children_in u)
  children-canonical (node p v n cs) w = w.2

  count-of : (u : Trie V) → node_count u ≡ child_count (children_in u) + 1
  count-of (node p v n cs) = refl

  short-of : (b : ℕ) (t u : Trie V) (es : List (ℕ × Trie V)) → children_in t ≡ as_children es → child_at b es ≡ Some u
      → longest_key (pairs_of u) ≤ longest_key (pairs_of t)
  short-of b (node p v n cs) u es e h = rw e (entry-short p v n b u es (sym h))

  -- a child in front of others, if there is one
  with-front : (b : ℕ) (o : Option (Trie V)) (es : List (ℕ × Trie V)) → AreCanonical (suc b) (as_children es)
      → as_children (with_side b o es) ≡ child_if b o (as_children es)
  with-front b None es w = refl
  with-front b (Some t) es w = ap as_children (in-front b t es w)

module _ {P V : Type 0} where
  -- a side is a part of the trie
  pub side-is : (t : List ℕ → Bool) (u : Trie V) (s : Kind P V (Trie V)) → IsSide t u s
      → side_node (prefix_of u) s ≡ trie_where t u
  side-is t (node p v n cs) s h = ap₂ (collapsed_node p) h.1 h.0

  pub side-makes : (m : Option ℕ) (t : List ℕ → Bool) (u : Trie V) (s : Kind P V (Trie V)) → IsCanonical u
      → IsWithin m (longest_key (pairs_of u)) → IsSide t u s → MakesNode m (prefix_of u) s
  side-makes m t (node p v n cs) s w l h = (h.2, rw h.0 (joins-where m (λ k. t (p ++ k)) p v n cs w l))

  -- the children `done` of a node have their parts on one side
  pub record Filling (t : List ℕ → Bool) (u : Trie V) (done : List (ℕ × Trie V)) (s : Kind P V (Trie V)) : Type 0 where
    pub entries : as_children (child_entries s) ≡ children_where (λ k. t (prefix_of u ++ k)) (as_children done)
    pub value : stored_value s ≡ option_where (t (prefix_of u ++ [])) (value_of u)
    pub capacity : storage_capacity s
        ≡ capacity_of (length (edges_of (children_where (λ k. t (prefix_of u ++ k)) (children_in u))))
    pub fits : length (edges_of (children_where (λ k. t (prefix_of u ++ k)) (children_in u))) ≤ storage_capacity s

  filling-start : (t : List ℕ → Bool) (u : Trie V) (s s' : Kind P V (Trie V))
      → IsEmptyFor (length (edges_of (children_where (λ k. t (prefix_of u ++ k)) (children_in u)))) s
      → HoldsSo s (option_where (t (prefix_of u ++ [])) (value_of u)) s' → Filling t u [] s'
  filling-start t u s s' e h = record {
    entries = ap as_children (h.1 ∙ e.entries);
    value = h.2;
    capacity = h.0 ∙ e.capacity;
    fits = rw h.0 e.fits;
  }

  -- all of them
  filled : (t : List ℕ → Bool) (u : Trie V) (done : List (ℕ × Trie V)) (s : Kind P V (Trie V))
      → children_in u ≡ as_children done → Filling t u done s → IsSide t u s
  filled t (node p v n cs) done s e f =
      let entries : as_children (child_entries s) ≡ children_where (λ k. t (p ++ k)) cs
      = f.entries ∙ ap (children_where (λ k. t (p ++ k))) (sym e) in (
        entries,
        f.value,
        f.capacity ∙ ap capacity_of (ap (λ z. length (edges_of z)) (sym entries) ∙ edges_of-length (child_entries s)),
      )

module _ {P V : Type 0} where
  pub splits-whole : (t : List ℕ → Bool) (h : Bool) (u : Trie V) (steps rest : List (Step P V))
      → SplitsBy t u (Whole h ∷ steps) rest → (steps ≡ rest) × IsWhole t u h
  splits-whole t h (node p v n cs) steps rest x = x

  pub no-steps : (t : List ℕ → Bool) (u : Trie V) (rest : List (Step P V)) → SplitsBy t u [] rest → ⊥
  no-steps t (node p v n cs) rest x = x

  pub splits-empty : (t : List ℕ → Bool) (u : Trie V) (s : Sides P V) (steps rest : List (Step P V))
      → SplitsBy t u (Split s ∷ steps) rest → (stored_value s.inside ≡ None) × (stored_value s.outside ≡ None)
  splits-empty t (node p v n cs) s steps rest x = (x.0.inside.value, x.0.outside.value)

  pub some-items : (items : List (Step P V)) → (reverse items ≡ [] → ⊥) → 0 < length items
  some-items [] h = absurd (h refl)
  some-items (x ∷ items) h = omega arith

  -- the children `es` are still to be moved
  pub record Moving (t : List ℕ → Bool) (u : Trie V) (rest : List (Step P V)) (es : List (ℕ × Trie V))
      (steps : List (Step P V)) (s : Sides P V) : Type 0 where
    pub done : List (ℕ × Trie V)
    pub whole : children_in u ≡ as_children (es ++ done)
    pub splits : ChildrenSplitBy (λ k. t (prefix_of u ++ k)) (as_children es) steps rest
    pub inside : Filling t u done s.inside
    pub outside : Filling (complement t) u done s.outside

  pub moving-start : (t : List ℕ → Bool) (p : List ℕ) (v : Option V) (n : ℕ) (es : List (ℕ × Trie V))
      (steps rest : List (Step P V)) (s s' : Sides P V)
      → SplitsBy t (node p v n (as_children es)) (Split s ∷ steps) rest
      → HoldsSo s.inside (option_where s.value_inside v) s'.inside
      → HoldsSo s.outside (option_where (not s.value_inside) v) s'.outside
      → Moving t (node p v n (as_children es)) rest es steps s'
  moving-start t p v n es steps rest s s' h i o = record {
    done = [];
    whole = ap as_children (sym (append-nil es));
    splits = h.1;
    inside = filling-start t (node p v n (as_children es)) s.inside s'.inside h.0.inside (rw h.0.value at i);
    outside = filling-start (complement t) (node p v n (as_children es)) s.outside s'.outside h.0.outside
        (rw h.0.value at o);
  }

  -- the last child is moved
  module _ {t : List ℕ → Bool} {u : Trie V} {rest : List (Step P V)} {es : List (ℕ × Trie V)} {steps : List (Step P V)}
      {s : Sides P V} (m : Moving t u rest es steps s) (w : IsCanonical u) {b : ℕ} {x : Trie V}
      (l : Some (b, x) ≡ last_or None es) where
    pub ends : EndsWith es (b, x)
    ends = ends-with (b, x) es l

    whole : children_in u ≡ as_children (ends.front ++ (b, x) ∷ m.done)
    whole = m.whole ∙ ap (λ z. as_children (z ++ m.done)) ends.whole
        ∙ ap as_children (append_assoc ends.front ((b, x) ∷ []) m.done)

    ascending : AreCanonical 0 (as_children (ends.front ++ (b, x) ∷ m.done))
    ascending = subst (AreCanonical 0) whole (children-canonical u w)

    last-ascending : AreCanonical 0 (as_children (ends.front ++ (b, x) ∷ []))
    last-ascending = front-canonical 0 (ends.front ++ (b, x) ∷ []) m.done
        (subst (λ z. AreCanonical 0 (as_children z)) (sym (append_assoc ends.front ((b, x) ∷ []) m.done)) ascending)

    pub last-there : child_at b es ≡ Some x
    last-there = ap (child_at b) ends.whole ∙ middle-at b 0 x ends.front [] last-ascending

    pub same-last : {y : Trie V} → Some y ≡ child_at b es → Some (b, y) ≡ last_or None es
    same-last {y} h = let z : Some y ≡ Some x = h ∙ last-there in let e : y ≡ x = cc in rw e l

    last-without : without_byte b es ≡ ends.front
    last-without = ap (without_byte b) ends.whole ∙ middle-without b 0 x ends.front [] last-ascending
        ∙ append-nil ends.front

    pub last-canonical : IsCanonical x
    last-canonical = middle-canonical b 0 x ends.front m.done ascending

    pub last-fewer : node_count x < node_count u
    last-fewer = omega (arith, count-of u, ap child_count whole, middle-count b x ends.front m.done)

    pub last-within : (n : Option ℕ) → IsWithin n (longest_key (pairs_of u)) → IsWithin n (longest_key (pairs_of x))
    last-within n h = fewer-within n (longest_key (pairs_of u)) (longest_key (pairs_of x))
        (short-of b u x (ends.front ++ (b, x) ∷ m.done) whole (middle-at b 0 x ends.front m.done ascending)) h

    pub shorter : (ds : List (ℕ × Trie V)) → ds ≡ without_byte b es → length ds < length es
    shorter ds e = omega (
      arith,
      ap length (e ∙ last-without),
      ap length ends.whole,
      length-append ends.front ((b, x) ∷ []),
    )

    splits : (mid : List (Step P V)) × (SplitsBy (λ k. t (prefix_of u ++ k)) x steps mid
        × ChildrenSplitBy (λ k. t (prefix_of u ++ k)) (as_children ends.front) mid rest)
    splits = splits-last (λ k. t (prefix_of u ++ k)) ends.front b x steps rest
        (subst (λ z. ChildrenSplitBy (λ k. t (prefix_of u ++ k)) (as_children z) steps rest) ends.whole m.splits)

    pub some-step : steps ≡ [] → ⊥
    some-step e = no-steps (λ k. t (prefix_of u ++ k)) x splits.0
        (subst (λ z. SplitsBy (λ k. t (prefix_of u ++ k)) x z splits.0) e splits.1.0)

    -- on one side
    module _ {r : List ℕ → Bool} {o : Kind (Unit {0}) V (Trie V)} (f : Filling r u m.done o) where
      side-ascending : AreCanonical (suc b) (as_children (child_entries o))
      side-ascending = rw f.entries (children_canonical-where (λ k. r (prefix_of u ++ k)) (suc b) (as_children m.done)
          (after-canonical b 0 x ends.front m.done ascending))

      side-slot : HasSlot b (trie_where (λ k. r (prefix_of u ++ k)) x) o
      side-slot = λ h. (
        none-below b (suc b) (child_entries o) (omega arith) side-ascending,
        omega (
          arith,
          f.fits,
          ap (λ cs. length (edges_of (children_where (λ k. r (prefix_of u ++ k)) cs))) whole,
          count-append (λ k. r (prefix_of u ++ k)) ends.front ((b, x) ∷ m.done),
          child_if-count b (trie_where (λ k. r (prefix_of u ++ k)) x)
              (children_where (λ k. r (prefix_of u ++ k)) (as_children m.done)),
          ap one_if h,
          edges_of-length (child_entries o),
          ap (λ cs. length (edges_of cs)) f.entries,
        ),
      )

      side-takes : (o' : Kind (Unit {0}) V (Trie V)) → TakesChild b (trie_where (λ k. r (prefix_of u ++ k)) x) o o'
          → Filling r u ((b, x) ∷ m.done) o'
      side-takes o' h = record {
        entries = ap as_children h.0
            ∙ with-front b (trie_where (λ k. r (prefix_of u ++ k)) x) (child_entries o) side-ascending
            ∙ ap (child_if b (trie_where (λ k. r (prefix_of u ++ k)) x)) f.entries;
        value = h.2 ∙ f.value;
        capacity = h.1 ∙ f.capacity;
        fits = rw h.1 f.fits;
      }

    moved : (ds : List (ℕ × Trie V)) (after : List (Step P V)) (s' : Sides P V) → ds ≡ ends.front
        → ChildrenSplitBy (λ k. t (prefix_of u ++ k)) (as_children ends.front) after rest
        → TakesChild b (trie_where (λ k. t (prefix_of u ++ k)) x) s.inside s'.inside
        → TakesChild b (trie_where (λ k. complement t (prefix_of u ++ k)) x) s.outside s'.outside
        → Moving t u rest ds after s'
    moved ds after s' e a i o = record {
      done = (b, x) ∷ m.done;
      whole = whole ∙ ap (λ z. as_children (z ++ (b, x) ∷ m.done)) (sym e);
      splits = rw e a;
      inside = side-takes m.inside s'.inside i;
      outside = side-takes m.outside s'.outside o;
    }

    -- as it is
    module _ {h : Bool} {after : List (Step P V)} (e : steps ≡ Whole h ∷ after) where
      is-whole : (after ≡ splits.0) × IsWhole (λ k. t (prefix_of u ++ k)) x h
      is-whole = splits-whole (λ k. t (prefix_of u ++ k)) h x after splits.0
          (subst (λ z. SplitsBy (λ k. t (prefix_of u ++ k)) x z splits.0) e splits.1.0)

      inside-is : option_where h (child_at b es) ≡ trie_where (λ k. t (prefix_of u ++ k)) x
      inside-is = ap (option_where h) last-there ∙ sym is-whole.1.0

      outside-is : option_where (not h) (child_at b es) ≡ trie_where (λ k. complement t (prefix_of u ++ k)) x
      outside-is = ap (option_where (not h)) last-there ∙ sym is-whole.1.1

      pub whole-inside_slot : HasSlot b (option_where h (child_at b es)) s.inside
      whole-inside_slot = rw inside-is (side-slot m.inside)

      pub whole-outside_slot : HasSlot b (option_where (not h) (child_at b es)) s.outside
      whole-outside_slot = rw outside-is (side-slot m.outside)

      pub whole-moved : (ds : List (ℕ × Trie V)) (s' : Sides P V) → ds ≡ without_byte b es
          → TakesChild b (option_where h (child_at b es)) s.inside s'.inside
          → TakesChild b (option_where (not h) (child_at b es)) s.outside s'.outside → Moving t u rest ds after s'
      whole-moved ds s' q i o = moved ds after s' (q ∙ last-without) (rw is-whole.0 splits.1.1) (rw inside-is at i)
          (rw outside-is at o)

    -- by its sides
    module _ {below : Sides P V} {after : List (Step P V)} (e : steps ≡ Split below ∷ after) where
      pub below-splits : (mid : List (Step P V)) × (SplitsBy (λ k. t (prefix_of u ++ k)) x (Split below ∷ after) mid
          × ChildrenSplitBy (λ k. t (prefix_of u ++ k)) (as_children ends.front) mid rest)
      below-splits = (
        splits.0,
        (subst (λ z. SplitsBy (λ k. t (prefix_of u ++ k)) x z splits.0) e splits.1.0, splits.1.1),
      )

      module _ (y : Trie V) {fs : List (ℕ × Trie V)} {left : List (Step P V)} (made : Sides P V)
          (q : fs ≡ replaced_at b y es) (p : prefix_of y ≡ prefix_of x)
          (f : (r : List ℕ → Bool) (mid : List (Step P V)) → SplitsBy r x (Split below ∷ after) mid
          → (left ≡ mid) × AreSides r x made) where
        a : (left ≡ below-splits.0) × AreSides (λ k. t (prefix_of u ++ k)) x made
        a = f (λ k. t (prefix_of u ++ k)) below-splits.0 below-splits.1.0

        below-there : child_at b fs ≡ Some y
        below-there = ap (child_at b) q ∙ at-replaced b x y es last-there

        pub split-stored : child_at b fs ≡ None → ⊥
        split-stored n = let z : Some y ≡ None = sym below-there ∙ n in cc

        inside-side : side_node (prefix_of y) made.inside ≡ trie_where (λ k. t (prefix_of u ++ k)) x
        inside-side = ap (λ z. side_node z made.inside) p ∙ side-is (λ k. t (prefix_of u ++ k)) x made.inside a.1.0

        outside-side : side_node (prefix_of y) made.outside ≡ trie_where (λ k. complement t (prefix_of u ++ k)) x
        outside-side = ap (λ z. side_node z made.outside) p
            ∙ side-is (λ k. complement t (prefix_of u ++ k)) x made.outside a.1.1

        pub split-inside_makes : (n : Option ℕ) → IsWithin n (longest_key (pairs_of u))
            → IfSome (child_at b fs) (λ c. MakesNode n (prefix_of c) made.inside)
        split-inside_makes n h = rw (below-there, p) (side-makes n (λ k. t (prefix_of u ++ k)) x made.inside
            last-canonical (last-within n h) a.1.0)

        pub split-outside_makes : (n : Option ℕ) → IsWithin n (longest_key (pairs_of u))
            → IfSome (child_at b fs) (λ c. MakesNode n (prefix_of c) made.outside)
        split-outside_makes n h = rw (below-there, p) (side-makes n (λ k. complement t (prefix_of u ++ k)) x
            made.outside last-canonical (last-within n h) a.1.1)

        pub split-inside_slot : IfSome (child_at b fs) (λ c. HasSlot b (side_node (prefix_of c) made.inside) s.inside)
        split-inside_slot = rw (below-there, inside-side) (side-slot m.inside)

        pub split-outside_slot : IfSome (child_at b fs)
            (λ c. HasSlot b (side_node (prefix_of c) made.outside) s.outside)
        split-outside_slot = rw (below-there, outside-side) (side-slot m.outside)

        pub split-rest : without_byte b fs ≡ without_byte b es
        split-rest = ap (without_byte b) q ∙ without-replaced b y es

        pub split-moved : (ds : List (ℕ × Trie V)) (s' : Sides P V) → ds ≡ without_byte b fs
            → IfSome (child_at b fs) (λ c. TakesChild b (side_node (prefix_of c) made.inside) s.inside s'.inside)
            → IfSome (child_at b fs) (λ c. TakesChild b (side_node (prefix_of c) made.outside) s.outside s'.outside)
            → Moving t u rest ds left s'
        split-moved ds s' d i o = moved ds left s' (d ∙ split-rest ∙ last-without) (rw a.0 below-splits.1.1)
            (rw (below-there, inside-side) at i) (rw (below-there, outside-side) at o)

  -- all children are moved
  pub moved-all : {t : List ℕ → Bool} {u : Trie V} {rest : List (Step P V)} {es : List (ℕ × Trie V)}
      {steps : List (Step P V)} {s : Sides P V} → Moving t u rest es steps s → None ≡ last_or None es
      → (steps ≡ rest) × AreSides t u s
  moved-all {t} {u} {rest} {es} {steps} {s} m l =
      let none : es ≡ [] = no-last es l in
      let all : children_in u ≡ as_children m.done = m.whole ∙ ap (λ z. as_children (z ++ m.done)) none in (
        rw none at m.splits,
        (filled t u m.done s.inside all m.inside, filled (complement t) u m.done s.outside all m.outside),
      )
