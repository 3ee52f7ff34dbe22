-- After the walk over a child: what is done with it, and how the walk over its parent continues.
use Rattle.std.proofs.Common.{◌≡◌, ℕ, ◌+◌, ◌<◌, ◌≤◌, ⊎_elim, inl, inr, Bool, true, false, List, [], ◌∷◌, ◌++◌}
use Rattle.std.proofs.Common.{length, refl, sym, ap, ◌∙◌, arith, subst, Option, Some, None, MutBor, is_some, option_map}
use Rattle.std.proofs.Common.{length-append, if◌then◌else◌}
use Rattle.std.specs.Prelude.{slice_get}
use Rattle.std.specs.Borrow.{Bor}
use Rattle.std.specs.Fn.{Mut}
use Rattle.std.proofs.lemmas.List.{append-nil, append_assoc}
use Rattle.rart_parts.specs.Entries.{child_at, entries_above, replaced_at, without_byte}
use Rattle.rart_trie.specs.declared.node.edits.retain.Retention.{Retention}
use Rattle.rart_trie.specs.declared.node.edits.retain.Retention.TheVariants.{Done, Rejected, Refused}
use Rattle.rart_trie.specs.declared.node.part.Part.{Part}
use Rattle.rart_trie.specs.declared.node.storage.Kind.{Kind}
use Rattle.rart_trie.specs.edits.Retentions.{CanRetain, EndsBelowRefused, Fate, kept, removed, refused}
use Rattle.rart_trie.specs.edits.Retentions.{key_refused, refusals, refused_key, remaining_pairs}
use Rattle.rart_trie.specs.edits.RetainSteps.{AppliesChild, CallsWhere, KeepsFirst, RetainsSubtree, next_byte}
use Rattle.rart_trie.specs.ranges.Parts.{byte_within, is_in_part, pairs_in}
use Rattle.rart_trie.specs.shapes.Shape.{capacity_of}
use Rattle.rart_trie.specs.storages.Capacities.{shrunk_capacity}
use Rattle.rart_trie.specs.storages.Stored.{child_entries, storage_capacity}
use Rattle.rart_trie.specs.tries.Trie.{Trie, node, no_children, child, AreCanonical, IsCanonical, StartsWith}
use Rattle.rart_trie.specs.tries.Trie.{children_in, children_pairs, pairs_of, prefix_of, with_prefix}
use Rattle.rart_trie.specs.tries.TrieCode.{as_children}
use Rattle.rart_trie.proofs.retentions.CallsAfterRefusal.{ends-append, ends-front, ends-none}
use Rattle.rart_trie.proofs.retentions.RetainWalkLemmas.{Retaining, Upcoming, WalksOn, refusals_of}
use Rattle.rart_trie.proofs.retentions.ChangedChildren.{middle-after, middle-other, middle-removed, middle-without}
use Rattle.rart_trie.proofs.retentions.RetentionLemmas.{all_fulfilled, calls-append, calls-folds, calls-front}
use Rattle.rart_trie.proofs.retentions.RetentionLemmas.{calls-fulfilled, calls-length, length-fulfilled}
use Rattle.rart_trie.proofs.retentions.RetentionLemmas.{refusals-append, refusals-fulfilled, remaining-append}
use Rattle.rart_trie.proofs.retentions.RetentionLemmas.{remaining-front, remaining-fulfilled, refused_key-append}
use Rattle.rart_trie.proofs.retentions.RetentionLemmas.{refused_key-front, refused_key-only}
use Rattle.rart_trie.proofs.changes.ValueChangeLemmas.{can-back}
use Rattle.rart_trie.proofs.ranges.PartLemmas.{IsAhead, ahead-few, ahead-is}
use Rattle.rart_trie.proofs.removals.PopLemmas.{first-is, leaf-here}
use Rattle.rart_trie.proofs.removals.RemoveSteps.{shrunk-capacity}
use Rattle.rart_trie.proofs.storages.EntryPlaces.{ahead_count, back-canonical, middle-above, middle-at, middle-first}
use Rattle.rart_trie.proofs.storages.EntryPlaces.{middle-replaced, pairs-append}
use Rattle.rart_trie.proofs.tries.FirstBytes.{AllFirst, pairs_of-first}

-- a refused key begins with a byte if they all do
key-first : (b : ℕ) (k : List ℕ) (x : Fate) (o : Option (List ℕ)) (j : List ℕ) → StartsWith b k
    → (o ≡ Some j → StartsWith b j) → key_refused k x o ≡ Some j → StartsWith b j
key-first b k kept o j s f h = f h
key-first b k removed o j s f h = f h
key-first b k refused o j s f h = let same : k ≡ j = cc in rw (← same) s

module _ {V : Type 0} where
  no-entries : (es : List (ℕ × Trie V)) → length es ≡ 0 → es ≡ []
  no-entries [] h = refl
  no-entries (e ∷ es) h = absurd (omega (arith, h))

  no-pairs : (es : List (List ℕ × V)) → length es ≡ 0 → es ≡ []
  no-pairs [] h = refl
  no-pairs (e ∷ es) h = absurd (omega (arith, h))

  -- a leaf has at most one pair
  leaf-pairs : (t : Trie V) → children_in t ≡ no_children → length (pairs_of t) ≤ 1
  leaf-pairs (node p None n no_children) h = omega arith
  leaf-pairs (node p (Some v) n no_children) h = omega arith
  leaf-pairs (node p v n (child b t cs)) h = absurd (cc)

  -- a leaf whose removal was put off, removed
  pub leaf-fulfilled : (t : Trie V) (es : List (List ℕ × V)) (xs : List (V × Fate)) → children_in t ≡ no_children
      → length xs ≡ length es → refusals xs ≡ 1 → pairs_of t ≡ remaining_pairs es xs → remaining_pairs es
      (all_fulfilled xs) ≡ []
  leaf-fulfilled t es xs l a r h = no-pairs (remaining_pairs es (all_fulfilled xs)) (omega (
    arith,
    leaf-pairs t l,
    ap length h,
    remaining-fulfilled es xs a,
    r,
  ))

  -- a rejected leaf is the pair whose removal was put off
  leaf-key : (t : Trie V) (es : List (List ℕ × V)) (xs : List (V × Fate)) → children_in t ≡ no_children
      → length xs ≡ length es → refusals xs ≡ 1 → pairs_of t ≡ remaining_pairs es xs
      → refused_key es xs ≡ Some (prefix_of t)
  leaf-key (node p None n no_children) es xs l a r h
      = absurd (omega (arith, ap length h, remaining-fulfilled es xs a, r))
  leaf-key (node p (Some v) n no_children) es xs l a r h = refused_key-only es xs (p ++ []) v a r (sym h)
      ∙ ap Some (append-nil p)
  leaf-key (node p v n (child b t cs)) es xs l a r h = absurd (cc)

  -- the keys begin with a byte
  refused-first : (b : ℕ) (es : List (List ℕ × V)) (xs : List (V × Fate)) (j : List ℕ) → AllFirst b es
      → refused_key es xs ≡ Some j → StartsWith b j
  refused-first b [] xs j s h = absurd (cc)
  refused-first b (e ∷ es) [] j s h = absurd (cc)
  refused-first b (e ∷ es) (x ∷ xs) j s h = key-first b e.0 x.1 (refused_key es xs) j s.0
      (λ i. refused-first b es xs j s.1 i) h

  length-middle : (xs ys : List (ℕ × Trie V)) (e : ℕ × Trie V) → length (xs ++ e ∷ ys) ≡ length (xs ++ ys) + 1
  length-middle xs ys e = omega (arith, length-append xs (e ∷ ys), length-append xs ys)

module _ {F V : Type 0} (call : Mut F (Bor (List ℕ) × (MutBor V × Unit {0})) (Bool × (MutBor V × Unit {0})))
    (s : Part) where
  -- The walk continues from `next`, with the entries `mid` in the place of the child u.
  visited : (q : List ℕ) (f0 : F) (t0 : Trie V) (keeps holds : Bool) (f g : F) (p : List ℕ) (w : Option V) (n m b : ℕ)
      (es ds : List (ℕ × Trie V)) (u : Trie V) (i : Upcoming call s q f0 t0 keeps holds f p w n b es u)
      (walk : Retention) (mid : List (ℕ × Trie V)) (xs : List (V × Fate)) (next : Option ℕ)
      → ds ≡ i.left ++ (mid ++ i.rest) → AreCanonical 0 (as_children ds) → m ≡ capacity_of (length ds)
      → (is_some w ≡ false → 0 < length ds) → CallsWhere call (is_in_part s) (q ++ p) f (pairs_of u) xs g
      → children_pairs (as_children mid) ≡ remaining_pairs (pairs_of u) xs → refusals xs ≡ refusals_of walk
      → EndsBelowRefused (pairs_of u) xs
      → WalksOn call s walk (q ++ p) g w m (i.fates ++ xs) (i.done ++ (b, u) ∷ []) (i.left ++ mid) i.rest next
      → Retaining call s q f0 t0 keeps holds walk g p w m ds next
  visited q f0 t0 keeps holds f g p w n m b es ds u i walk mid xs next d c v l a h r j y =
      let some = calls-length call (is_in_part s) (q ++ p) (pairs_of u) xs f g a in
      let below : children_pairs (as_children (i.done ++ (b, u) ∷ []))
      ≡ children_pairs (as_children i.done) ++ (pairs_of u ++ []) = pairs-append i.done ((b, u) ∷ []) in record {
        own = i.own;
        width = i.width;
        done = i.done ++ (b, u) ∷ [];
        left = i.left ++ mid;
        rest = i.rest;
        before = i.before ∙ ap (λ z. node p i.own i.width (as_children z))
            (sym (append_assoc i.done ((b, u) ∷ []) i.rest));
        now = d ∙ sym (append_assoc i.left mid i.rest);
        canonical = c;
        capacity = v;
        held = i.held;
        lives = l;
        first = i.first;
        called = i.called;
        fates = i.fates ++ xs;
        calls = rw below (calls-append call (is_in_part s) (q ++ p) (children_pairs (as_children i.done)) (pairs_of u
            ++ []) i.fates xs
            i.first f g i.whole i.calls (calls-front call (is_in_part s) (q ++ p) (pairs_of u) [] xs f g a));
        stay = rw below (pairs-append i.left mid
            ∙ ap (λ z. z ++ children_pairs (as_children mid)) i.stay
            ∙ ap (λ z. remaining_pairs (children_pairs (as_children i.done)) i.fates ++ z)
            (h ∙ sym (remaining-front (pairs_of u) [] xs some ∙ append-nil (remaining_pairs (pairs_of u) xs)))
            ∙ sym (remaining-append (children_pairs (as_children i.done)) (pairs_of u ++ []) i.fates xs i.whole));
        refused = refusals-append i.fates xs ∙ omega (arith, i.refused, r);
        ends = rw below (ends-append (children_pairs (as_children i.done)) (pairs_of u ++ []) i.fates xs i.whole
            i.refused (ends-front (pairs_of u) [] xs some j));
        state = y;
      }

  -- all pairs of the child were visited
  all-visited : (q : List ℕ) (f0 : F) (t0 : Trie V) (keeps holds : Bool) (f : F) (p : List ℕ) (w : Option V) (n b : ℕ)
      (es : List (ℕ × Trie V)) (u : Trie V) (i : Upcoming call s q f0 t0 keeps holds f p w n b es u)
      (xs : List (V × Fate)) → length xs ≡ length (pairs_of u)
      → length (i.fates ++ xs) ≡ length (children_pairs (as_children (i.done ++ (b, u) ∷ [])))
  all-visited q f0 t0 keeps holds f p w n b es u i xs h = omega (
    arith,
    h,
    i.whole,
    length-append i.fates xs,
    ap length (pairs-append i.done ((b, u) ∷ [])),
    length-append (children_pairs (as_children i.done)) (pairs_of u ++ []),
    length-append (pairs_of u) [],
  )

  -- f may be called with the pairs of the children that follow
  rest-callable : (q : List ℕ) (f0 : F) (t0 : Trie V) (keeps holds : Bool) (f g : F) (p : List ℕ) (w : Option V)
      (n b : ℕ) (es : List (ℕ × Trie V)) (u : Trie V) (i : Upcoming call s q f0 t0 keeps holds f p w n b es u)
      (xs : List (V × Fate)) → length xs ≡ length (pairs_of u) → CallsWhere call (is_in_part s) (q ++ p) f (pairs_of
      u) xs g
      → CanRetain call g (with_prefix (q ++ p) (pairs_in s (children_pairs (as_children i.rest))))
  rest-callable q f0 t0 keeps holds f g p w n b es u i xs l a = can-back _ _ f g
      (with_prefix (q ++ p) (pairs_in s (pairs_of u)))
      (with_prefix (q ++ p) (pairs_in s (children_pairs (as_children i.rest))))
      (calls-folds call (is_in_part s) (q ++ p) (pairs_of u) xs f g l a) i.later

  -- the premises of a step, and its conclusion
  abbrev Steps : (q : List ℕ) (f0 : F) (t0 : Trie V) (keeps holds : Bool) (walk : Retention) (g : F) (p : List ℕ)
      (w : Option V) (m b : ℕ) (es ds : List (ℕ × Trie V)) (next : Option ℕ) → Type 0
  Steps q f0 t0 keeps holds walk g p w m b es ds next = Retaining call s q f0 t0 keeps holds walk g p w m ds next
      × (ahead_count next ds < ahead_count (Some b) es)

  -- the child stays as x
  stays : (q : List ℕ) (f0 : F) (t0 : Trie V) (keeps holds : Bool) (f g : F) (p : List ℕ) (w : Option V) (n m b : ℕ)
      (es ds : List (ℕ × Trie V)) (u x : Trie V) (i : Upcoming call s q f0 t0 keeps holds f p w n b es u)
      (walk : Retention) (xs : List (V × Fate)) (next : Option ℕ) → IsCanonical x
      → KeepsFirst (prefix_of u) (prefix_of x) → m ≡ n → ds ≡ replaced_at b x es
      → CallsWhere call (is_in_part s) (q ++ p) f (pairs_of u) xs g → pairs_of x ≡ remaining_pairs (pairs_of u) xs
      → refusals xs ≡ refusals_of walk → EndsBelowRefused (pairs_of u) xs
      → WalksOn call s walk (q ++ p) g w m (i.fates ++ xs) (i.done ++ (b, u) ∷ []) (i.left ++ (b, x) ∷ []) i.rest next
      → Retaining call s q f0 t0 keeps holds walk g p w m ds next
  stays q f0 t0 keeps holds f g p w n m b es ds u x i walk xs next c k v d a h r j y =
      let changed : ds ≡ i.left ++ (b, x) ∷ i.rest = d ∙ ap (replaced_at b x) i.now
      ∙ middle-replaced b 0 u x i.left i.rest i.all in
      let same : length ds ≡ length es = omega (
        arith,
        ap length changed,
        ap length i.now,
        length-middle i.left i.rest (b, x),
        length-middle i.left i.rest (b, u),
      ) in
      visited q f0 t0 keeps holds f g p w n m b es ds u i walk ((b, x) ∷ []) xs next changed
      (rw changed (middle-other b 0 u x i.left i.rest i.all c k)) (v ∙ i.capacity ∙ ap capacity_of (sym same))
      (λ z. omega (arith, ap length changed, length-middle i.left i.rest (b, x))) a
      (append-nil (pairs_of x) ∙ h) r j y

  -- the key whose removal was refused is one of the child's
  child-key : (q : List ℕ) (f0 : F) (t0 : Trie V) (keeps holds : Bool) (f g : F) (p : List ℕ) (w : Option V) (n b : ℕ)
      (es : List (ℕ × Trie V)) (u : Trie V) (i : Upcoming call s q f0 t0 keeps holds f p w n b es u)
      (xs : List (V × Fate)) → CallsWhere call (is_in_part s) (q ++ p) f (pairs_of u) xs g
      → refused_key (children_pairs (as_children (i.done ++ (b, u) ∷ []))) (i.fates ++ xs)
      ≡ refused_key (pairs_of u) xs
  child-key q f0 t0 keeps holds f g p w n b es u i xs a = ap (λ z. refused_key z (i.fates ++ xs))
      (pairs-append i.done ((b, u) ∷ []))
      ∙ refused_key-append (children_pairs (as_children i.done)) (pairs_of u ++ []) i.fates xs i.whole i.refused
      ∙ refused_key-front (pairs_of u) [] xs (calls-length call (is_in_part s) (q ++ p) (pairs_of u) xs f g a)

  no-value : (w : Option V) → false ≡ is_some w → w ≡ None
  no-value None h = refl
  no-value (Some v) h = absurd (cc)

  -- the walk is over
  stopped : (q : List ℕ) (f0 : F) (t0 : Trie V) (keeps holds : Bool) (f g : F) (p : List ℕ) (w : Option V) (n m b : ℕ)
      (es ds : List (ℕ × Trie V)) (u : Trie V) (i : Upcoming call s q f0 t0 keeps holds f p w n b es u)
      (walk : Retention) (next : Option ℕ) → next ≡ None
      → Retaining call s q f0 t0 keeps holds walk g p w m ds next
      → Steps q f0 t0 keeps holds walk g p w m b es ds next
  stopped q f0 t0 keeps holds f g p w n m b es ds u i walk next e r = (r, rw e (omega (arith, i.count)))

  pub retaining-step : {P : Type 0} (q : List ℕ) (f0 : F) (t0 : Trie V) (keeps holds : Bool) (f g : F) (p : List ℕ)
      (w : Option V)
      (n b : ℕ) (es : List (ℕ × Trie V)) (u x : Trie V) (i : Upcoming call s q f0 t0 keeps holds f p w n b es u)
      (below walk : Retention) (o o' : Kind P V (Trie V)) (next : Option ℕ) → IsCanonical x
      → KeepsFirst (prefix_of u) (prefix_of x) → RetainsSubtree call s (q ++ p) below f u x g
      → storage_capacity o ≡ n → child_entries o ≡ replaced_at b x es → AppliesChild holds b below walk o o'
      → next ≡ next_byte s walk b (child_entries o')
      → Steps q f0 t0 keeps holds walk g p w (storage_capacity o') b es (child_entries o') next
  retaining-step q f0 t0 keeps holds f g p w n b es u x i Done Done o o' next c k h v d a e =
      let ds : child_entries o' ≡ replaced_at b x es = ap child_entries a ∙ d in
      let changed : child_entries o' ≡ i.left ++ (b, x) ∷ i.rest = ds ∙ ap (replaced_at b x) i.now
      ∙ middle-replaced b 0 u x i.left i.rest i.all in
      let low = middle-other b 0 u x i.left i.rest i.all c k in
      let ahead : IsAhead s next i.rest = ahead-is s 0 i.rest next (back-canonical 0 (i.left ++ (b, x) ∷ []) i.rest
      (subst (λ z. AreCanonical 0 (as_children z)) (sym (append_assoc i.left ((b, x) ∷ []) i.rest)) low)) (e
      ∙ ap (λ r. byte_within s (option_map (λ e. e.0) (slice_get r 0))) (ap (entries_above b) changed
      ∙ middle-above b 0 x i.left i.rest low)) in
      let joined : child_entries o' ≡ (i.left ++ (b, x) ∷ []) ++ i.rest = changed
      ∙ sym (append_assoc i.left ((b, x) ∷ []) i.rest) in (
        stays q f0 t0 keeps holds f g p w n (storage_capacity o') b es (child_entries o') u x i Done h.fates next c k
            (ap storage_capacity a ∙ v) ds h.calls h.left h.refused h.ends (
              all-visited q f0 t0 keeps holds f p w n b es u i h.fates h.all,
              ahead,
              rest-callable q f0 t0 keeps holds f g p w n b es u i h.fates h.all h.calls,
            ),
        omega (
          arith,
          i.count,
          ahead-few s 0 (i.left ++ (b, x) ∷ []) i.rest (child_entries o') next joined
              (subst (λ z. AreCanonical 0 (as_children z)) (sym (append_assoc i.left ((b, x) ∷ []) i.rest)) low) ahead,
        ),
      )
  retaining-step q f0 t0 keeps holds f g p w n b es u x i Done Rejected o o' next c k h v d a e = absurd a
  retaining-step q f0 t0 keeps holds f g p w n b es u x i Done Refused o o' next c k h v d a e = absurd a
  retaining-step q f0 t0 keeps holds f g p w n b es u x i Rejected Done o o' next c k h v d a e =
      let old : child_entries o ≡ i.left ++ (b, x) ∷ i.rest = d ∙ ap (replaced_at b x) i.now
      ∙ middle-replaced b 0 u x i.left i.rest i.all in
      let low = middle-other b 0 u x i.left i.rest i.all c k in
      let changed : child_entries o' ≡ i.left ++ i.rest = a.0 ∙ ap (without_byte b) old
      ∙ middle-without b 0 x i.left i.rest low in
      let removed = middle-removed b 0 x i.left i.rest low in
      let ahead : IsAhead s next i.rest = ahead-is s 0 i.rest next (back-canonical 0 i.left i.rest removed) (e
      ∙ ap (λ r. byte_within s (option_map (λ e. e.0) (slice_get r 0))) (ap (entries_above b) changed
      ∙ middle-after b 0 x i.left i.rest low)) in
      let there : child_at b (child_entries o) ≡ Some x = ap (child_at b) old ∙ middle-at b 0 x i.left i.rest low in
      let fewer : length es ≡ length (child_entries o') + 1 = omega (
        arith,
        ap length changed,
        ap length i.now,
        length-middle i.left i.rest (b, u),
      ) in
      let capacity : storage_capacity o' ≡ capacity_of (length (child_entries o')) = a.1
      ∙ ap (λ z. if is_some z then shrunk_capacity (length (child_entries o')) (storage_capacity o)
      else storage_capacity o) there
      ∙ ap (shrunk_capacity (length (child_entries o'))) (v ∙ i.capacity ∙ ap capacity_of fewer)
      ∙ shrunk-capacity (length (child_entries o')) in (
        visited q f0 t0 keeps holds f g p w n (storage_capacity o') b es (child_entries o') u i Done []
            (all_fulfilled h.1.fates) next changed (rw changed removed) capacity
            (λ z. ⊎_elim (λ y. let no : true ≡ false = sym y ∙ i.held ∙ z in absurd (cc))
            (λ y. omega (arith, y, ap length old, ap length changed, length-middle i.left i.rest (b, x))) a.2)
            (calls-fulfilled call (is_in_part s) (q ++ p) (pairs_of u) h.1.fates f g h.1.calls)
            (sym (leaf-fulfilled x (pairs_of u) h.1.fates h.0 h.1.all h.1.refused h.1.left))
            (refusals-fulfilled h.1.fates)
            (ends-none (pairs_of u) (all_fulfilled h.1.fates) (refusals-fulfilled h.1.fates)) (
              all-visited q f0 t0 keeps holds f p w n b es u i (all_fulfilled h.1.fates)
                  (length-fulfilled h.1.fates ∙ h.1.all),
              ahead,
              rest-callable q f0 t0 keeps holds f g p w n b es u i h.1.fates h.1.all h.1.calls,
            ),
        omega (arith, i.count, ahead-few s 0 i.left i.rest (child_entries o') next changed removed ahead),
      )
  retaining-step q f0 t0 keeps holds f g p w n b es u x i Rejected Rejected o o' next c k h v d a e =
      let ds : child_entries o' ≡ replaced_at b x es = ap child_entries a.0 ∙ d in
      let changed : child_entries o ≡ i.left ++ (b, x) ∷ i.rest = d ∙ ap (replaced_at b x) i.now
      ∙ middle-replaced b 0 u x i.left i.rest i.all in
      let few : length i.left + length i.rest ≡ 0 = omega (
        arith,
        a.2,
        ap length changed,
        length-middle i.left i.rest (b, x),
        length-append i.left i.rest,
      ) in
      let front : i.left ≡ [] = no-entries i.left (omega (arith, few)) in
      stopped q f0 t0 keeps holds f g p w n (storage_capacity o') b es (child_entries o') u i Rejected next e
      (stays q f0 t0 keeps holds f g p w n (storage_capacity o') b es (child_entries o') u x i Rejected h.1.fates next
      c k (ap storage_capacity a.0 ∙ v) ds h.1.calls h.1.left h.1.refused h.1.ends (
        all-visited q f0 t0 keeps holds f p w n b es u i h.1.fates h.1.all,
        e,
        no-entries i.rest (omega (arith, few)),
        no-value w (sym a.1 ∙ i.held),
        record { byte = b; leaf = x; one = ap (λ z. z ++ (b, x) ∷ []) front; childless = h.0 },
      ))
  retaining-step q f0 t0 keeps holds f g p w n b es u x i Rejected Refused o o' next c k h v d a e =
      let old : child_entries o ≡ i.left ++ (b, x) ∷ i.rest = d ∙ ap (replaced_at b x) i.now
      ∙ middle-replaced b 0 u x i.left i.rest i.all in
      let all : child_entries o ≡ (i.left ++ (b, x) ∷ []) ++ i.rest = old
      ∙ sym (append_assoc i.left ((b, x) ∷ []) i.rest) in
      let low = middle-other b 0 u x i.left i.rest i.all c k in
      stopped q f0 t0 keeps holds f g p w n (storage_capacity o') b es (child_entries o') u i Refused next e
      (stays q f0 t0 keeps holds f g p w n (storage_capacity o') b es (child_entries o') u x i Refused h.1.fates next
      c k (ap storage_capacity a.0 ∙ v) (ap child_entries a.0 ∙ d) h.1.calls h.1.left h.1.refused h.1.ends (
        e,
        record {
          key = prefix_of x;
          key_is = child-key q f0 t0 keeps holds f g p w n b es u i h.1.fates h.1.calls
              ∙ leaf-key x (pairs_of u) h.1.fates h.0 h.1.all h.1.refused h.1.left;
          byte = b;
          held = x;
          there = sym (ap (child_at b) (sym all ∙ old) ∙ middle-at b 0 x i.left i.rest low);
          first = first-is b (prefix_of x) (middle-first b 0 x i.left i.rest low);
          why = inl (
            leaf-here x h.0,
            rw (ap storage_capacity a.0) a.1.1,
            rw (← all, ap storage_capacity a.0) a.1.2,
          );
        },
      ))
  retaining-step q f0 t0 keeps holds f g p w n b es u x i Refused Done o o' next c k h v d a e = absurd a
  retaining-step q f0 t0 keeps holds f g p w n b es u x i Refused Rejected o o' next c k h v d a e = absurd a
  retaining-step q f0 t0 keeps holds f g p w n b es u x i Refused Refused o o' next c k h v d a e =
      let old : child_entries o ≡ i.left ++ (b, x) ∷ i.rest = d ∙ ap (replaced_at b x) i.now
      ∙ middle-replaced b 0 u x i.left i.rest i.all in
      let all : child_entries o ≡ (i.left ++ (b, x) ∷ []) ++ i.rest = old
      ∙ sym (append_assoc i.left ((b, x) ∷ []) i.rest) in
      let low = middle-other b 0 u x i.left i.rest i.all c k in
      stopped q f0 t0 keeps holds f g p w n (storage_capacity o') b es (child_entries o') u i Refused next e
      (stays q f0 t0 keeps holds f g p w n (storage_capacity o') b es (child_entries o') u x i Refused h.retains.fates
      next c k (ap storage_capacity a ∙ v) (ap child_entries a ∙ d) h.retains.calls h.retains.left h.retains.refused
      h.retains.ends (
        e,
        record {
          key = h.key;
          key_is = child-key q f0 t0 keeps holds f g p w n b es u i h.retains.fates h.retains.calls ∙ h.retains.key;
          byte = b;
          held = x;
          there = sym (ap (child_at b) (sym all ∙ old) ∙ middle-at b 0 x i.left i.rest low);
          first = first-is b h.key (refused-first b (pairs_of u) h.retains.fates h.key
              (pairs_of-first b u (middle-first b 0 u i.left i.rest i.all)) h.retains.key);
          why = inr (h.inner, h.allocates);
        },
      ))
