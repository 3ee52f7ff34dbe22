-- After the walk over the children of a node: what becomes of the node.
use Rattle.std.proofs.Common.{◌≡◌, ℕ, ◌+◌, ◌≤◌, inl, Bool, true, false, List, [], ◌∷◌, ◌++◌, length, refl, sym, ap, ◌∙◌}
use Rattle.std.proofs.Common.{arith, subst, Option, Some, None, MutBor, is_some, option_map, length-append}
use Rattle.std.specs.Borrow.{Bor}
use Rattle.std.specs.Fn.{Mut}
use Rattle.std.proofs.lemmas.List.{append-nil}
use Rattle.rart_keys.specs.KeyBytes.{IsWithin}
use Rattle.rart_keys.specs.SortedMap.{longest_key}
use Rattle.rart_parts.specs.Entries.{child_at}
use Rattle.rart_trie.specs.declared.node.edits.retain.Retention.{Retention}
use Rattle.rart_trie.specs.declared.node.edits.retain.Retention.TheVariants.{Done, Rejected, Refused}
use Rattle.rart_trie.specs.declared.node.part.Part.{Part}
use Rattle.rart_trie.specs.edits.Deletion.{JoinsWithin, merged_if_needed}
use Rattle.rart_trie.specs.edits.Retentions.{CanRetain, EndsBelowRefused, Fate, kept, removed, refused, refusals}
use Rattle.rart_trie.specs.edits.Retentions.{refused_key, remaining_pairs}
use Rattle.rart_trie.specs.edits.RetainSteps.{CallsForOwn, CallsWhere, KeepsFirst, RetainsAllWhere, RetainsFirstWhere}
use Rattle.rart_trie.specs.edits.RetainSteps.{RetainsSubtree, finished_as, finished_node}
use Rattle.rart_trie.specs.ranges.Parts.{is_in_part}
use Rattle.rart_trie.specs.tries.PrefixLaws.{length-with_prefix}
use Rattle.rart_trie.specs.tries.Trie.{Trie, node, no_children, IsCanonical}
use Rattle.rart_trie.specs.tries.Trie.{children_pairs, own_pair, pairs_of, prefix_of, with_prefix}
use Rattle.rart_trie.specs.tries.TrieCode.{as_children}
use Rattle.rart_trie.proofs.edits.InsertLemmas.{fewer-within}
use Rattle.rart_trie.proofs.edits.JoinedLengths.{joins-children, prefix-before}
use Rattle.rart_trie.proofs.retentions.CallsAfterRefusal.{ends-after, ends-append, ends-front, ends-none, ends-own}
use Rattle.rart_trie.proofs.retentions.RetainJoins.{joined-canonical, joined-first, joined-leaf, joined-pairs}
use Rattle.rart_trie.proofs.retentions.RetainWalkLemmas.{RefusesAmong, Retaining, refusals_of}
use Rattle.rart_trie.proofs.retentions.RetentionLemmas.{calls-after, calls-append, calls-front, calls-length}
use Rattle.rart_trie.proofs.retentions.RetentionLemmas.{calls-passed, length-passed, passed, refusals-append}
use Rattle.rart_trie.proofs.retentions.RetentionLemmas.{refusals-passed, refused_key-after, refused_key-append}
use Rattle.rart_trie.proofs.retentions.RetentionLemmas.{refused_key-front, remaining-after, remaining-append}
use Rattle.rart_trie.proofs.retentions.RetentionLemmas.{remaining-front, remaining-longest, remaining-passed}
use Rattle.rart_trie.proofs.removals.RefusedRemovals.{refuses-inner, refuses-joined}
use Rattle.rart_trie.proofs.storages.EntryPlaces.{pairs-append}
use Rattle.rart_trie.proofs.tries.CanonicalTests.{longest_key-append}

module _ {V : Type 0} where
  -- the children have the pairs that are left
  left-short : (xs ys es : List (List ℕ × V)) (zs : List (V × Fate)) → xs ≡ remaining_pairs es zs
      → longest_key (xs ++ ys) ≤ longest_key (es ++ ys)
  left-short xs ys es zs h = omega (
    arith,
    ap longest_key h,
    remaining-longest es zs,
    longest_key-append xs ys,
    longest_key-append es ys,
  )

module _ {F V : Type 0} (call : Mut F (Bor (List ℕ) × (MutBor V × Unit {0})) (Bool × (MutBor V × Unit {0})))
    (s : Part) where
  pub retaining-within : (m : Option ℕ) (q : List ℕ) (f0 : F) (t0 : Trie V) (keeps holds : Bool) (walk : Retention)
      (f : F) (p : List ℕ) (w : Option V) (n : ℕ) (es : List (ℕ × Trie V)) (next : Option ℕ) → IsCanonical t0
      → Retaining call s q f0 t0 keeps holds walk f p w n es next → IsWithin m (length q + longest_key (pairs_of t0))
      → JoinsWithin m p (as_children es)
  retaining-within m q f0 t0 keeps holds walk f p w n es next c i h =
      let was : IsCanonical (node p i.own i.width (as_children (i.done ++ i.rest))) = rw i.before at c in
      let all = own_pair i.own ++ children_pairs (as_children (i.done ++ i.rest)) in
      joins-children m p (longest_key all) 0 (as_children es) i.canonical (omega (
        arith,
        longest_key-append (own_pair i.own) (children_pairs (as_children (i.done ++ i.rest))),
        ap (λ z. longest_key (children_pairs (as_children z))) i.now,
        ap longest_key (pairs-append i.left i.rest),
        ap longest_key (pairs-append i.done i.rest),
        left-short (children_pairs (as_children i.left)) (children_pairs (as_children i.rest))
            (children_pairs (as_children i.done)) i.fates i.stay,
      )) (fewer-within m (length q + longest_key (pairs_of t0)) (length p + longest_key all) (omega (
        arith,
        ap (λ t. longest_key (pairs_of t)) i.before,
        prefix-before p i.own i.width (as_children (i.done ++ i.rest)) was,
      )) h)

  -- the fate of the node's own pair
  record OwnFate (k : List ℕ) (f0 f : F) (v w : Option V) (n : ℕ) : Type 0 where
    pub fates : List (V × Fate)
    pub refused : refusals fates ≡ n
    pub calls : CallsWhere call (is_in_part s) k f0 (own_pair v) fates f
    pub all : length fates ≡ length (own_pair v)
    pub left : own_pair w ≡ remaining_pairs (own_pair v) fates

  -- the calls at a node and at its children, and what they leave
  record Gathered (s' : Part) (q : List ℕ) (f0 f : F) (t t' : Trie V) (n : ℕ) (whole : Type 0)
      (later : List ℕ → Type 0) : Type 0 where
    pub fates : List (V × Fate)
    pub calls : CallsWhere call (is_in_part s') q f0 (pairs_of t) fates f
    pub left : pairs_of t' ≡ remaining_pairs (pairs_of t) fates
    pub refused : refusals fates ≡ n
    pub ends : EndsBelowRefused (pairs_of t) fates
    pub all : whole → length fates ≡ length (pairs_of t)
    pub key : (k : List ℕ) → later k → refused_key (pairs_of t) fates ≡ Some k

  gathered : (s' : Part) (q : List ℕ) (f0 : F) (t0 : Trie V) (keeps holds : Bool) (walk : Retention) (f : F) (p : List
      ℕ)
      (w v : Option V) (n m : ℕ) (es : List (ℕ × Trie V)) (next : Option ℕ)
      (i : Retaining call s q f0 t0 keeps holds walk f p w n es next) (j : ℕ) (o : OwnFate (q ++ p) f0 i.first i.own v
      j)
      (k : ℕ) → ((l : List ℕ) → is_in_part s' (p ++ l) ≡ is_in_part s l) → j + refusals_of walk ≡ k
      → Gathered s' q f0 f t0 (node p v m (as_children es)) k
      ((length i.fates ≡ length (children_pairs (as_children i.done))) × (i.rest ≡ []))
      (λ z. (j ≡ 0) × ((r : List ℕ) × ((z ≡ p ++ r)
      × (refused_key (children_pairs (as_children i.done)) i.fates ≡ Some r))))
  gathered s' q f0 t0 keeps holds walk f p w v n m es next i j o k at r =
      let below : children_pairs (as_children (i.done ++ i.rest))
      ≡ children_pairs (as_children i.done) ++ children_pairs (as_children i.rest) = pairs-append i.done i.rest in
      let some = calls-length call (is_in_part s) (q ++ p) (children_pairs (as_children i.done)) i.fates i.first f
      i.calls in
      rw i.before record {
        fates = o.fates ++ i.fates;
        calls = calls-after call (is_in_part s') (is_in_part s) q p
            (own_pair i.own ++ children_pairs (as_children (i.done ++ i.rest))) (o.fates ++ i.fates) f0 f at
            (calls-append call (is_in_part s) (q ++ p) (own_pair i.own)
            (children_pairs (as_children (i.done ++ i.rest))) o.fates i.fates f0 i.first f o.all o.calls
            (rw below (calls-front call (is_in_part s) (q ++ p) (children_pairs (as_children i.done))
            (children_pairs (as_children i.rest)) i.fates i.first f i.calls)));
        left = ap (with_prefix p) (ap (λ z. own_pair v ++ children_pairs (as_children z)) i.now
            ∙ ap (λ z. own_pair v ++ z) (pairs-append i.left i.rest
            ∙ ap (λ z. z ++ children_pairs (as_children i.rest)) i.stay
            ∙ sym (remaining-front (children_pairs (as_children i.done)) (children_pairs (as_children i.rest)) i.fates
            some) ∙ ap (λ z. remaining_pairs z i.fates) (sym below))
            ∙ ap (λ z. z ++ remaining_pairs (children_pairs (as_children (i.done ++ i.rest))) i.fates) o.left
            ∙ sym (remaining-append (own_pair i.own) (children_pairs (as_children (i.done ++ i.rest))) o.fates i.fates
            o.all))
            ∙ sym (remaining-after p (own_pair i.own ++ children_pairs (as_children (i.done ++ i.rest)))
            (o.fates ++ i.fates));
        refused = refusals-append o.fates i.fates ∙ omega (arith, i.refused, o.refused, r);
        ends = ends-after p (own_pair i.own ++ children_pairs (as_children (i.done ++ i.rest))) (o.fates ++ i.fates)
            (ends-own i.own (children_pairs (as_children (i.done ++ i.rest))) o.fates i.fates o.all
            (rw below (ends-front (children_pairs (as_children i.done)) (children_pairs (as_children i.rest)) i.fates
            some i.ends)));
        all = λ h. omega (
          arith,
          h.0,
          o.all,
          length-append o.fates i.fates,
          length-with_prefix p (own_pair i.own ++ children_pairs (as_children (i.done ++ i.rest))),
          length-append (own_pair i.own) (children_pairs (as_children (i.done ++ i.rest))),
          ap length below,
          length-append (children_pairs (as_children i.done)) (children_pairs (as_children i.rest)),
          ap (λ z. length (children_pairs (as_children z))) h.1,
        );
        key = λ z h. refused_key-after p (own_pair i.own ++ children_pairs (as_children (i.done ++ i.rest)))
            (o.fates ++ i.fates) ∙ ap (option_map (λ y. p ++ y)) (refused_key-append (own_pair i.own)
            (children_pairs (as_children (i.done ++ i.rest))) o.fates i.fates o.all (o.refused ∙ h.0)
            ∙ ap (λ y. refused_key y i.fates) below ∙ refused_key-front (children_pairs (as_children i.done))
            (children_pairs (as_children i.rest)) i.fates some ∙ h.1.1.1) ∙ ap Some (sym h.1.1.0);
      }

  own-kept : (h : Bool) (k : List ℕ) (f0 f : F) (v w : Option V) → is_in_part s [] ≡ h
      → CallsForOwn call h k f0 v true w f → OwnFate k f0 f v w 0
  own-kept false k f0 f None w e h
      = record { fates = []; refused = refl; calls = h.2; all = refl; left = ap own_pair (sym h.1) }
  own-kept false k f0 f (Some v) w e h = record {
    fates = (v, kept) ∷ [];
    refused = refl;
    calls = (f0, (rw e (refl, refl), h.2));
    all = refl;
    left = ap own_pair (sym h.1);
  }
  own-kept true k f0 f None None e h = record { fates = []; refused = refl; calls = h.1; all = refl; left = refl }
  own-kept true k f0 f None (Some x) e h = absurd h
  own-kept true k f0 f (Some v) None e h = absurd h
  own-kept true k f0 f (Some v) (Some x) e h = record {
    fates = (x, kept) ∷ [];
    refused = refl;
    calls = (f, (rw (e, append-nil k) h, refl));
    all = refl;
    left = refl;
  }

  own-rejected : (h : Bool) (k : List ℕ) (f0 f : F) (v w : Option V) → CallsForOwn call h k f0 v false w f
      → (x : V) × (w ≡ Some x)
  own-rejected false k f0 f v w h = absurd (cc (h.0))
  own-rejected true k f0 f None None h = absurd (cc (h.0))
  own-rejected true k f0 f None (Some x) h = absurd h
  own-rejected true k f0 f (Some v) None h = absurd h
  own-rejected true k f0 f (Some v) (Some x) h = (x, refl)

  own-removed : (h : Bool) (k : List ℕ) (f0 f : F) (v w : Option V) → is_in_part s [] ≡ h
      → CallsForOwn call h k f0 v false w f → OwnFate k f0 f v None 0
  own-removed false k f0 f v w e h = absurd (cc (h.0))
  own-removed true k f0 f None None e h = absurd (cc (h.0))
  own-removed true k f0 f None (Some x) e h = absurd h
  own-removed true k f0 f (Some v) None e h = absurd h
  own-removed true k f0 f (Some v) (Some x) e h = record {
    fates = (x, removed) ∷ [];
    refused = refl;
    calls = (f, (rw (e, append-nil k) h, refl));
    all = refl;
    left = refl;
  }

  own-put_off : (h : Bool) (k : List ℕ) (f0 f : F) (v w : Option V) → is_in_part s [] ≡ h
      → CallsForOwn call h k f0 v false w f → OwnFate k f0 f v w 1
  own-put_off false k f0 f v w e h = absurd (cc (h.0))
  own-put_off true k f0 f None None e h = absurd (cc (h.0))
  own-put_off true k f0 f None (Some x) e h = absurd h
  own-put_off true k f0 f (Some v) None e h = absurd h
  own-put_off true k f0 f (Some v) (Some x) e h = record {
    fates = (x, refused) ∷ [];
    refused = refl;
    calls = (f, (rw (e, append-nil k) h, refl));
    all = refl;
    left = refl;
  }

  retains-all : (s' : Part) (q : List ℕ) (f0 f : F) (t t' u : Trie V) (n : ℕ) (W : Type 0) (L : List ℕ → Type 0)
      → Gathered s' q f0 f t t' n W L → W → pairs_of u ≡ pairs_of t'
      → RetainsAllWhere call (is_in_part s') q f0 (pairs_of t) (pairs_of u) n f
  retains-all s' q f0 f t t' u n W L g w e = record {
    fates = g.fates;
    calls = g.calls;
    all = g.all w;
    refused = g.refused;
    ends = g.ends;
    left = e ∙ g.left;
  }

  retains-first : (s' : Part) (q : List ℕ) (f0 f : F) (t t' u : Trie V) (k : List ℕ) (W : Type 0) (L : List ℕ → Type 0)
      → Gathered s' q f0 f t t' 1 W L → L k → pairs_of u ≡ pairs_of t'
      → RetainsFirstWhere call (is_in_part s') q f0 (pairs_of t) (pairs_of u) k f
  retains-first s' q f0 f t t' u k W L g l e = record {
    fates = g.fates;
    calls = g.calls;
    refused = g.refused;
    key = g.key k l;
    ends = g.ends;
    left = e ∙ g.left;
  }

  -- where the walk is over the children that are left, of which the part has no key, were passed
  closed : (q : List ℕ) (f0 : F) (t0 : Trie V) (keeps holds : Bool) (f : F) (p : List ℕ) (w : Option V) (n : ℕ)
      (es : List (ℕ × Trie V)) → Retaining call s q f0 t0 keeps holds Done f p w n es None
      → (j : Retaining call s q f0 t0 keeps holds Done f p w n es None) × (j.rest ≡ [])
  closed q f0 t0 keeps holds f p w n es i =
      let before = children_pairs (as_children i.done) in
      let after = children_pairs (as_children i.rest) in
      let below : children_pairs (as_children (i.done ++ i.rest)) ≡ before ++ after = pairs-append i.done i.rest in (
        record {
          own = i.own;
          width = i.width;
          done = i.done ++ i.rest;
          left = i.left ++ i.rest;
          rest = [];
          before = i.before
              ∙ ap (λ z. node p i.own i.width (as_children z)) (sym (append-nil (i.done ++ i.rest)));
          now = i.now ∙ sym (append-nil (i.left ++ i.rest));
          canonical = i.canonical;
          capacity = i.capacity;
          held = i.held;
          lives = i.lives;
          first = i.first;
          called = i.called;
          fates = i.fates ++ passed after;
          calls = rw below (calls-append call (is_in_part s) (q ++ p) before after i.fates (passed after) i.first f f
              i.state.0 i.calls (calls-passed call (is_in_part s) (q ++ p) after f i.state.1));
          stay = pairs-append i.left i.rest ∙ ap (λ z. z ++ after) i.stay
              ∙ ap (λ z. remaining_pairs before i.fates ++ z) (sym (remaining-passed after))
              ∙ sym (remaining-append before after i.fates (passed after) i.state.0)
              ∙ ap (λ z. remaining_pairs z (i.fates ++ passed after)) (sym below);
          refused = refusals-append i.fates (passed after) ∙ omega (arith, i.refused, refusals-passed after);
          ends = rw below (ends-append before after i.fates (passed after) i.state.0 i.refused
              (ends-none after (passed after) (refusals-passed after)));
          state = (
            omega (
              arith,
              i.state.0,
              length-append i.fates (passed after),
              length-passed after,
              ap length below,
              length-append before after,
            ),
            refl,
            subst (λ z. CanRetain call f (with_prefix (q ++ p) z)) i.state.1 i.state.2,
          );
        },
        refl,
      )

  -- what the walk leaves of the node, where s' is the part with the node's prefix
  pub record Finished (s' : Part) (q : List ℕ) (f0 : F) (t0 : Trie V) (walk : Retention) (f : F) (t : Trie V) : Type 0
    where
      pub canonical : IsCanonical t
      pub first : KeepsFirst (prefix_of t0) (prefix_of t)
      pub retains : RetainsSubtree call s' q walk f0 t0 t f

  -- all children were visited or passed
  ended-done : (s' : Part) (q : List ℕ) (f0 : F) (t0 : Trie V) (keeps holds : Bool) (f : F) (p : List ℕ)
      (w v : Option V) (n : ℕ) (es : List (ℕ × Trie V)) (u : Trie V)
      (i : Retaining call s q f0 t0 keeps holds Done f p w n es None) (j : ℕ) → OwnFate (q ++ p) f0 i.first i.own v j
      → ((l : List ℕ) → is_in_part s' (p ++ l) ≡ is_in_part s l) → pairs_of u ≡ pairs_of (node p v n (as_children es))
      → RetainsAllWhere call (is_in_part s') q f0 (pairs_of t0) (pairs_of u) j f
  unfolding closed
  ended-done s' q f0 t0 keeps holds f p w v n es u i j o at e =
      let c = closed q f0 t0 keeps holds f p w n es i in
      retains-all s' q f0 f t0 (node p v n (as_children es)) u j _ _
      (gathered s' q f0 t0 keeps holds Done f p w v n n es None c.0 j o j at (omega arith)) (c.0.state.0, c.1) e

  -- or a removal was refused below
  ended-refused : (s' : Part) (q : List ℕ) (f0 : F) (t0 : Trie V) (keeps holds : Bool) (f : F) (p : List ℕ)
      (w v : Option V) (n : ℕ) (es : List (ℕ × Trie V))
      (i : Retaining call s q f0 t0 keeps holds Refused f p w n es None) → OwnFate (q ++ p) f0 i.first i.own v 0
      → ((l : List ℕ) → is_in_part s' (p ++ l) ≡ is_in_part s l)
      → RetainsSubtree call s' q Refused f0 t0 (merged_if_needed (node p v n (as_children es))) f
  ended-refused s' q f0 t0 keeps holds f p w v n es i o at =
      let among : RefusesAmong n (children_pairs (as_children i.done)) i.fates es = rw i.now i.state.1 in record {
        key = p ++ among.key;
        retains = retains-first s' q f0 f t0 (node p v n (as_children es))
            (merged_if_needed (node p v n (as_children es))) (p ++ among.key) _ _
            (gathered s' q f0 t0 keeps holds Refused f p w v n n es None i 0 o 1 at (omega arith))
            (refl, (among.key, (refl, among.key_is))) (joined-pairs p v n es);
        inner = refuses-inner p v n es (children_pairs (as_children i.done)) i.fates i.capacity i.canonical among;
        allocates = refuses-joined p v n es (children_pairs (as_children i.done)) i.fates i.capacity i.canonical among;
      }

  -- its value is kept, or it has none
  ended-kept : (s' : Part) (q : List ℕ) (f0 : F) (t0 : Trie V) (holds : Bool) (walk : Retention) (f : F) (p : List ℕ)
      (w : Option V) (n : ℕ) (es : List (ℕ × Trie V)) → ((l : List ℕ) → is_in_part s' (p ++ l) ≡ is_in_part s l)
      → Retaining call s q f0 t0 true holds walk f p w n es None
      → RetainsSubtree call s' q walk f0 t0 (merged_if_needed (node p w n (as_children es))) f
  ended-kept s' q f0 t0 holds Done f p w n es at i = ended-done s' q f0 t0 true holds f p w w n es
      (merged_if_needed (node p w n (as_children es))) i 0
      (own-kept (is_in_part s []) (q ++ p) f0 i.first i.own w refl i.called) at (joined-pairs p w n es)
  ended-kept s' q f0 t0 holds Rejected f p w n es at i =
      let one : es ≡ (i.state.4.byte, i.state.4.leaf) ∷ [] = i.now ∙ ap (λ z. i.left ++ z) i.state.2
      ∙ append-nil i.left ∙ i.state.4.one in (
        rw i.state.3 (joined-leaf p n es
            (record { byte = i.state.4.byte; leaf = i.state.4.leaf; one = one; childless = i.state.4.childless })),
        retains-all s' q f0 f t0 (node p w n (as_children es)) (merged_if_needed (node p w n (as_children es))) 1 _ _
            (gathered s' q f0 t0 true holds Rejected f p w w n n es None i 0
            (own-kept (is_in_part s []) (q ++ p) f0 i.first i.own w refl i.called) 1 at (omega arith))
            (i.state.0, i.state.2) (joined-pairs p w n es),
      )
  ended-kept s' q f0 t0 holds Refused f p w n es at i = ended-refused s' q f0 t0 true holds f p w w n es i
      (own-kept (is_in_part s []) (q ++ p) f0 i.first i.own w refl i.called) at

  -- its value is not kept: it has children
  ended-removed : (s' : Part) (q : List ℕ) (f0 : F) (t0 : Trie V) (holds : Bool) (walk : Retention) (f : F)
      (p : List ℕ) (w : Option V) (n : ℕ) (es : List (ℕ × Trie V))
      → ((l : List ℕ) → is_in_part s' (p ++ l) ≡ is_in_part s l)
      → Retaining call s q f0 t0 false holds walk f p w n es None
      → RetainsSubtree call s' q walk f0 t0 (merged_if_needed (node p None n (as_children es))) f
  ended-removed s' q f0 t0 holds Done f p w n es at i = ended-done s' q f0 t0 false holds f p w None n es
      (merged_if_needed (node p None n (as_children es))) i 0
      (own-removed (is_in_part s []) (q ++ p) f0 i.first i.own w refl i.called) at (joined-pairs p None n es)
  ended-removed s' q f0 t0 holds Rejected f p w n es at i =
      let x = own-rejected (is_in_part s []) (q ++ p) f0 i.first i.own w i.called in
      let no : Some x.0 ≡ None = sym x.1 ∙ i.state.3 in absurd (cc)
  ended-removed s' q f0 t0 holds Refused f p w n es at i = ended-refused s' q f0 t0 false holds f p w None n es i
      (own-removed (is_in_part s []) (q ++ p) f0 i.first i.own w refl i.called) at

  -- or it has none, and is a leaf
  ended-leaf : (s' : Part) (q : List ℕ) (f0 : F) (t0 : Trie V) (holds : Bool) (walk : Retention) (f : F) (p : List ℕ)
      (w : Option V) (n : ℕ) → ((l : List ℕ) → is_in_part s' (p ++ l) ≡ is_in_part s l)
      → Retaining call s q f0 t0 false holds walk f p w n [] None
      → Finished s' q f0 t0 Rejected f (node p w n no_children)
  ended-leaf s' q f0 t0 holds Done f p w n at i =
      let x = own-rejected (is_in_part s []) (q ++ p) f0 i.first i.own w i.called in record {
        canonical = (inl (ap is_some x.1), i.capacity, tt);
        first = rw i.before (λ b h. h);
        retains = (
          refl,
          ended-done s' q f0 t0 false holds f p w w n [] (node p w n no_children) i 1
              (own-put_off (is_in_part s []) (q ++ p) f0 i.first i.own w refl i.called) at refl,
        );
      }
  ended-leaf s' q f0 t0 holds Rejected f p w n at i =
      let x = own-rejected (is_in_part s []) (q ++ p) f0 i.first i.own w i.called in
      let no : Some x.0 ≡ None = sym x.1 ∙ i.state.3 in absurd (cc)
  ended-leaf s' q f0 t0 holds Refused f p w n at i =
      let none : Some i.state.1.held ≡ None = i.state.1.there ∙ ap (child_at i.state.1.byte) (sym i.now) in absurd (cc)

  finished-at : (s' : Part) (q : List ℕ) (f0 : F) (t0 : Trie V) (keeps holds : Bool) (walk : Retention) (f : F)
      (p : List ℕ) (w : Option V) (n : ℕ) (es : List (ℕ × Trie V))
      → ((l : List ℕ) → is_in_part s' (p ++ l) ≡ is_in_part s l)
      → Retaining call s q f0 t0 keeps holds walk f p w n es None
      → Finished s' q f0 t0 (finished_as keeps walk (as_children es)) f
      (finished_node keeps (node p w n (as_children es)))
  finished-at s' q f0 t0 true holds walk f p w n es at i = record {
    canonical = joined-canonical p w n es i.capacity i.lives i.canonical;
    first = rw i.before (joined-first p w n es);
    retains = ended-kept s' q f0 t0 holds walk f p w n es at i;
  }
  finished-at s' q f0 t0 false holds walk f p w n [] at i = ended-leaf s' q f0 t0 holds walk f p w n at i
  finished-at s' q f0 t0 false holds walk f p w n (e ∷ es) at i = record {
    canonical = joined-canonical p None n (e ∷ es) i.capacity (λ z. omega arith) i.canonical;
    first = rw i.before (joined-first p None n (e ∷ es));
    retains = ended-removed s' q f0 t0 holds walk f p w n (e ∷ es) at i;
  }

  pub retaining-end : (s' : Part) (q : List ℕ) (f0 : F) (t0 : Trie V) (keeps holds : Bool) (walk : Retention) (f : F)
      (p : List ℕ) (w : Option V) (n : ℕ) (es : List (ℕ × Trie V))
      → ((l : List ℕ) → is_in_part s' (prefix_of t0 ++ l) ≡ is_in_part s l)
      → Retaining call s q f0 t0 keeps holds walk f p w n es None
      → Finished s' q f0 t0 (finished_as keeps walk (as_children es)) f
      (finished_node keeps (node p w n (as_children es)))
  retaining-end s' q f0 t0 keeps holds walk f p w n es at i = finished-at s' q f0 t0 keeps holds walk f p w n es
      (λ l. ap (λ t. is_in_part s' (prefix_of t ++ l)) (sym i.before) ∙ at l) i
