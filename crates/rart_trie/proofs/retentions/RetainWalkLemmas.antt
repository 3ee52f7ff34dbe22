-- A walk that retains pairs continues child by child.
use Rattle.std.proofs.Common.{◌≡◌, ◌≢◌, ℕ, suc, ◌+◌, ◌<◌, ◌≤◌, ◌⊎◌, ⊎_elim, Bool, true, false, List, [], ◌∷◌, ◌++◌}
use Rattle.std.proofs.Common.{length, refl, sym, ap, ◌∙◌, arith, subst, Option, Some, None, MutBor, is_some, option_map}
use Rattle.std.specs.Prelude.{slice_get}
use Rattle.std.specs.Borrow.{Bor}
use Rattle.std.specs.Fn.{Mut}
use Rattle.std.specs.List.{FoldsTo}
use Rattle.std.proofs.lemmas.List.{append-nil}
use Rattle.std.proofs.lemmas.List.Elements.{filter-append}
use Rattle.rart_keys.specs.KeyBytes.{IsWithin}
use Rattle.rart_keys.specs.SortedMap.{longest_key}
use Rattle.rart_parts.specs.Entries.{child_at, entries_above}
use Rattle.rart_trie.specs.declared.node.edits.retain.Retention.{Retention}
use Rattle.rart_trie.specs.declared.node.part.Part.{Part}
use Rattle.rart_trie.specs.declared.node.edits.retain.Retention.TheVariants.{Done, Rejected, Refused}
use Rattle.rart_trie.specs.edits.Deletion.{is_leaf_at}
use Rattle.rart_trie.specs.edits.RemoveAllocations.{trie_remove_allocates}
use Rattle.rart_trie.specs.edits.Retentions.{CalledForPair, CanRetain, EndsBelowRefused, Fate, TakesPair}
use Rattle.rart_trie.specs.edits.Retentions.{refusals, refused_key, remaining_pairs}
use Rattle.rart_trie.specs.edits.RetainSteps.{CallsForOwn, CallsWhere}
use Rattle.rart_trie.specs.ranges.Parts.{byte_within, is_in_part, pairs_in, part_low}
use Rattle.rart_trie.specs.ranges.Starts.{entries_after}
use Rattle.rart_trie.specs.shapes.Shape.{capacity_of}
use Rattle.rart_trie.specs.storages.Capacities.{previous_capacity}
use Rattle.rart_trie.specs.tries.PrefixLaws.{prefix-append, prefix-twice}
use Rattle.rart_trie.specs.tries.Trie.{Trie, node, Children, no_children, AreCanonical, HasTwoChildren, IsCanonical}
use Rattle.rart_trie.specs.tries.Trie.{StartsWith, children_in, children_pairs, own_pair, pairs_of, prefix_of}
use Rattle.rart_trie.specs.tries.Trie.{with_prefix}
use Rattle.rart_trie.specs.tries.TrieCode.{as_children, node_count}
use Rattle.rart_trie.proofs.changes.ValueChangeLemmas.{agree-first, can-back, can-front, where-after, where-agree}
use Rattle.rart_trie.proofs.ranges.PartLemmas.{IsAhead, ahead-is, none-low}
use Rattle.rart_trie.proofs.ranges.PassedChildren.{skipped}
use Rattle.rart_trie.proofs.retentions.CallsAfterRefusal.{ends-none}
use Rattle.rart_trie.proofs.retentions.RetentionLemmas.{calls-passed, length-passed, passed, refusals-passed}
use Rattle.rart_trie.proofs.retentions.RetentionLemmas.{remaining-passed}
use Rattle.rart_trie.proofs.removals.PopLemmas.{below-within}
use Rattle.rart_trie.proofs.storages.ChildLemmas.{edges_of-length}
use Rattle.rart_trie.proofs.storages.EntryPlaces.{ahead_count, back-canonical, middle-above, middle-at}
use Rattle.rart_trie.proofs.storages.EntryPlaces.{middle-canonical, middle-count, middle-first, pairs-append}
use Rattle.rart_trie.proofs.tries.FirstBytes.{pairs_of-first}
use Rattle.rart_trie.proofs.edits.CallbackLemmas.{can-first}

-- how many removals were refused, or put off
abbrev pub refusals_of : Retention → ℕ
refusals_of Done = 0
refusals_of Rejected = 1
refusals_of Refused = 1

-- one entry, and it has no children
pub record IsOneLeaf {V : Type 0} (es : List (ℕ × Trie V)) : Type 0 where
  pub byte : ℕ
  pub leaf : Trie V
  pub one : es ≡ (byte, leaf) ∷ []
  pub childless : children_in leaf ≡ no_children

-- a key that one of the children holds, whose removal from the children, or below, requests memory
abbrev IsWide : {V : Type 0} → List ℕ → ℕ → Trie V → ℕ → Type 0
IsWide k n t m = ((is_leaf_at k t ≡ true) × (4 < n) × (m ≤ previous_capacity n + 1))
    ⊎ ((children_in t ≢ no_children) × (trie_remove_allocates None k t ≡ true))

-- the removal that was refused among these children, at a node of capacity n
pub record RefusesAmong {V : Type 0} (n : ℕ) (before : List (List ℕ × V)) (xs : List (V × Fate))
    (es : List (ℕ × Trie V)) : Type 0 where
  pub key : List ℕ
  pub key_is : refused_key before xs ≡ Some key
  pub byte : ℕ
  pub held : Trie V
  pub there : Some held ≡ child_at byte es
  pub first : Some byte ≡ slice_get key 0
  pub why : IsWide key n held (length es)

module _ {F V : Type 0} (call : Mut F (Bor (List ℕ) × (MutBor V × Unit {0})) (Bool × (MutBor V × Unit {0})))
    (s : Part) where
  -- where the walk is, at children of which the calls have these fates
  abbrev pub WalksOn : Retention → List ℕ → F → Option V → ℕ → List (V × Fate) → List (ℕ × Trie V)
      → List (ℕ × Trie V) → List (ℕ × Trie V) → Option ℕ → Type 0
  WalksOn Done k f w n xs done left rest next = (length xs ≡ length (children_pairs (as_children done)))
      × IsAhead s next rest × CanRetain call f (with_prefix k (pairs_in s (children_pairs (as_children rest))))
  WalksOn Rejected k f w n xs done left rest next = (length xs ≡ length (children_pairs (as_children done)))
      × (next ≡ None) × (rest ≡ []) × (w ≡ None) × IsOneLeaf left
  WalksOn Refused k f w n xs done left rest next = (next ≡ None)
      × RefusesAmong n (children_pairs (as_children done)) xs (left ++ rest)

  -- What a walk over a part of the children of a node keeps, where s is the part after the node's prefix: from f0 and
  -- the node t0 at q, those before `next` were visited or passed, and es are those that it has now.
  pub record Retaining (q : List ℕ) (f0 : F) (t0 : Trie V) (keeps holds : Bool) (walk : Retention) (f : F) (p : List ℕ)
      (w : Option V) (n : ℕ) (es : List (ℕ × Trie V)) (next : Option ℕ) : Type 0 where
    pub own : Option V
    pub width : ℕ
    pub done : List (ℕ × Trie V)
    pub left : List (ℕ × Trie V)
    pub rest : List (ℕ × Trie V)
    pub before : t0 ≡ node p own width (as_children (done ++ rest))
    pub now : es ≡ left ++ rest
    pub canonical : AreCanonical 0 (as_children es)
    pub capacity : n ≡ capacity_of (length es)
    pub held : holds ≡ is_some w
    pub lives : is_some w ≡ false → 0 < length es
    pub first : F
    pub called : CallsForOwn call (is_in_part s []) (q ++ p) f0 own keeps w first
    pub fates : List (V × Fate)
    pub calls : CallsWhere call (is_in_part s) (q ++ p) first (children_pairs (as_children done)) fates f
    pub stay : children_pairs (as_children left) ≡ remaining_pairs (children_pairs (as_children done)) fates
    pub refused : refusals fates ≡ refusals_of walk
    pub ends : EndsBelowRefused (children_pairs (as_children done)) fates
    pub state : WalksOn walk (q ++ p) f w n fates done left rest next

  own-some : (h : Bool) (k : List ℕ) (f g : F) (v w : Option V) (r : Bool) → CallsForOwn call h k f v r w g
      → is_some w ≡ is_some v
  own-some false k f g v w r h = ap is_some (sym h.1)
  own-some true k f g None None r h = refl
  own-some true k f g None (Some w) r h = absurd h
  own-some true k f g (Some v) None r h = absurd h
  own-some true k f g (Some v) (Some w) r h = refl

  -- the node's own pair, if the part has it
  abbrev own_part : List ℕ → Option V → List (List ℕ × V)
  own_part k v = with_prefix k (pairs_in s (own_pair v))

  own-outside : (k : List ℕ) (v : Option V) → is_in_part s [] ≡ false → own_part k v ≡ []
  own-outside k None h = refl
  own-outside k (Some v) h = rw h refl

  own-inside : (k : List ℕ) (v : V) → is_in_part s [] ≡ true → own_part k (Some v) ≡ (k, v) ∷ []
  own-inside k v h = rw (h, append-nil k) refl

  own-folds : (h : Bool) (k : List ℕ) (f g : F) (v w : Option V) (r : Bool) → is_in_part s [] ≡ h
      → CallsForOwn call h k f v r w g → FoldsTo (λ p e h. CalledForPair call p e h) f (own_part k v) g
  own-folds false k f g v w r e h = rw (own-outside k v e) h.2
  own-folds true k f g None None r e h = h.1
  own-folds true k f g None (Some w) r e h = absurd h
  own-folds true k f g (Some v) None r e h = absurd h
  own-folds true k f g (Some v) (Some w) r e h = rw (own-inside k v e) (g, (r, (w, h)), refl)

  -- the pairs of the part s' that a node at q has, where s is that part after the node's prefix
  parts-split : (s' : Part) (q p : List ℕ) (v : Option V) (n : ℕ) (cs : Children V)
      → ((k : List ℕ) → is_in_part s' (p ++ k) ≡ is_in_part s k)
      → with_prefix q (pairs_in s' (pairs_of (node p v n cs)))
      ≡ own_part (q ++ p) v ++ with_prefix (q ++ p) (pairs_in s (children_pairs cs))
  parts-split s' q p v n cs a = ap (with_prefix q) (where-after (is_in_part s') (is_in_part s) p
      (own_pair v ++ children_pairs cs) a) ∙ prefix-twice q p (pairs_in s (own_pair v ++ children_pairs cs))
      ∙ ap (with_prefix (q ++ p)) (filter-append (λ e. is_in_part s e.0) (own_pair v) (children_pairs cs))
      ∙ prefix-append (q ++ p) (pairs_in s (own_pair v)) (pairs_in s (children_pairs cs))

  -- f may be called with the value of the node, which is the first
  pub own-callable : (s' : Part) (q p : List ℕ) (f : F) (v : Option V) (x : V) (n : ℕ) (cs : Children V)
      → ((k : List ℕ) → is_in_part s' (p ++ k) ≡ is_in_part s k) → v ≡ Some x → is_in_part s [] ≡ true
      → CanRetain call f (with_prefix q (pairs_in s' (pairs_of (node p v n cs)))) → TakesPair call f (q ++ p, x)
  own-callable s' q p f v x n cs a e i h = can-first _ _ f (with_prefix q (pairs_in s' (pairs_of (node p v n cs))))
      (q ++ p, x) (with_prefix (q ++ p) (pairs_in s (children_pairs cs))) (parts-split s' q p v n cs a
      ∙ ap (λ o. own_part (q ++ p) o ++ with_prefix (q ++ p) (pairs_in s (children_pairs cs))) e
      ∙ ap (λ es. es ++ with_prefix (q ++ p) (pairs_in s (children_pairs cs))) (own-inside (q ++ p) x i)) h

  two-some : (es : List (ℕ × Trie V)) → HasTwoChildren (as_children es) → 0 < length es
  two-some [] h = absurd h
  two-some (e ∷ es) h = omega arith

  lives-first : (v w : Option V) (es : List (ℕ × Trie V)) → is_some w ≡ is_some v
      → (is_some v ≡ true) ⊎ HasTwoChildren (as_children es) → is_some w ≡ false → 0 < length es
  lives-first v w es e h n = ⊎_elim (λ s. let z : true ≡ false = sym (e ∙ s) ∙ n in absurd (cc)) (λ s. two-some es s) h

  -- where the children `done` are passed, of which the part has no key
  retaining-from : (s' : Part) (q p : List ℕ) (f g : F) (v w : Option V) (keeps holds : Bool) (n : ℕ)
      (done rest es : List (ℕ × Trie V)) (next : Option ℕ) → es ≡ done ++ rest
      → pairs_in s (children_pairs (as_children done)) ≡ []
      → ((k : List ℕ) → is_in_part s' (p ++ k) ≡ is_in_part s k) → IsCanonical (node p v n (as_children es))
      → CallsForOwn call (is_in_part s []) (q ++ p) f v keeps w g → holds ≡ is_some w
      → CanRetain call f (with_prefix q (pairs_in s' (pairs_of (node p v n (as_children es))))) → IsAhead s next rest
      → Retaining q f (node p v n (as_children es)) keeps holds Done g p w n es next
  retaining-from s' q p f g v w keeps holds n done rest es next e none at c h l k a =
      let kept : with_prefix q (pairs_in s' (pairs_of (node p v n (as_children es))))
      ≡ own_part (q ++ p) v ++ with_prefix (q ++ p) (pairs_in s (children_pairs (as_children rest)))
      = parts-split s' q p v n (as_children es) at
      ∙ ap (λ z. own_part (q ++ p) v ++ with_prefix (q ++ p) z)
      (ap (λ z. pairs_in s (children_pairs (as_children z))) e ∙ ap (pairs_in s) (pairs-append done rest)
      ∙ filter-append (λ e. is_in_part s e.0) (children_pairs (as_children done)) (children_pairs (as_children rest))
      ∙ ap (λ z. z ++ pairs_in s (children_pairs (as_children rest))) none) in
      let before = children_pairs (as_children done) in
      record {
        own = v;
        width = n;
        done = done;
        left = done;
        rest = rest;
        before = ap (λ z. node p v n (as_children z)) e;
        now = e;
        canonical = c.2;
        capacity = c.1 ∙ ap capacity_of (edges_of-length es);
        held = l;
        lives = lives-first v w es (own-some (is_in_part s []) (q ++ p) f g v w keeps h) c.0;
        first = g;
        called = h;
        fates = passed before;
        calls = calls-passed call (is_in_part s) (q ++ p) before g none;
        stay = sym (remaining-passed before);
        refused = refusals-passed before;
        ends = ends-none before (passed before) (refusals-passed before);
        state = (
          length-passed before,
          a,
          can-back _ _ f g (own_part (q ++ p) v)
              (with_prefix (q ++ p) (pairs_in s (children_pairs (as_children rest))))
              (own-folds (is_in_part s []) (q ++ p) f g v w keeps refl h) (subst (λ es. CanRetain call f es) kept k),
        );
      }

  start-at : (s' : Part) (q p : List ℕ) (f g : F) (v w : Option V) (keeps holds : Bool) (n : ℕ) (d : Option ℕ)
      (es : List (ℕ × Trie V)) (next : Option ℕ) → part_low s ≡ d
      → ((k : List ℕ) → is_in_part s' (p ++ k) ≡ is_in_part s k) → IsCanonical (node p v n (as_children es))
      → CallsForOwn call (is_in_part s []) (q ++ p) f v keeps w g → holds ≡ is_some w
      → CanRetain call f (with_prefix q (pairs_in s' (pairs_of (node p v n (as_children es)))))
      → next ≡ byte_within s (option_map (λ e. e.0) (slice_get (entries_after d es) 0))
      → Retaining q f (node p v n (as_children es)) keeps holds Done g p w n es next
  start-at s' q p f g v w keeps holds n None es next i at c h l k a = retaining-from s' q p f g v w keeps holds n [] es
      es next refl refl at c h l k (ahead-is s 0 es next c.2 a)
  start-at s' q p f g v w keeps holds n (Some d) es next i at c h l k a =
      let x = skipped (is_in_part s) d 0 es c.2 (none-low s d i) in
      retaining-from s' q p f g v w keeps holds n x.done (entries_above d es) es next x.whole x.none at c h l k
      (ahead-is s 0 (entries_above d es) next
      (back-canonical 0 x.done (entries_above d es) (subst (λ z. AreCanonical 0 (as_children z)) x.whole c.2)) a)

  pub retaining-start : (s' : Part) (q p : List ℕ) (f g : F) (v w : Option V) (keeps holds : Bool) (n : ℕ)
      (es : List (ℕ × Trie V)) (next : Option ℕ) → ((k : List ℕ) → is_in_part s' (p ++ k) ≡ is_in_part s k)
      → IsCanonical (node p v n (as_children es)) → CallsForOwn call (is_in_part s []) (q ++ p) f v keeps w g
      → holds ≡ is_some w → CanRetain call f (with_prefix q (pairs_in s' (pairs_of (node p v n (as_children es)))))
      → next ≡ byte_within s (option_map (λ e. e.0) (slice_get (entries_after (part_low s) es) 0))
      → Retaining q f (node p v n (as_children es)) keeps holds Done g p w n es next
  retaining-start s' q p f g v w keeps holds n es next at c h l k a = start-at s' q p f g v w keeps holds n (part_low s)
      es next refl at c h l k a

  -- the child that comes next
  pub record Upcoming (q : List ℕ) (f0 : F) (t0 : Trie V) (keeps holds : Bool) (f : F) (p : List ℕ) (w : Option V)
      (n b : ℕ) (es : List (ℕ × Trie V)) (u : Trie V) : Type 0 where
    pub own : Option V
    pub width : ℕ
    pub done : List (ℕ × Trie V)
    pub left : List (ℕ × Trie V)
    pub rest : List (ℕ × Trie V)
    pub before : t0 ≡ node p own width (as_children (done ++ (b, u) ∷ rest))
    pub now : es ≡ left ++ (b, u) ∷ rest
    pub all : AreCanonical 0 (as_children (left ++ (b, u) ∷ rest))
    pub capacity : n ≡ capacity_of (length es)
    pub held : holds ≡ is_some w
    pub first : F
    pub called : CallsForOwn call (is_in_part s []) (q ++ p) f0 own keeps w first
    pub fates : List (V × Fate)
    pub calls : CallsWhere call (is_in_part s) (q ++ p) first (children_pairs (as_children done)) fates f
    pub whole : length fates ≡ length (children_pairs (as_children done))
    pub stay : children_pairs (as_children left) ≡ remaining_pairs (children_pairs (as_children done)) fates
    pub refused : refusals fates ≡ 0
    pub there : child_at b es ≡ Some u
    pub canonical : IsCanonical u
    pub fewer : node_count u < node_count t0
    pub start : StartsWith b (prefix_of u)
    pub callable : CanRetain call f (with_prefix (q ++ p) (pairs_in s (pairs_of u)))
    pub later : CanRetain call f (with_prefix (q ++ p) (pairs_in s (pairs_of u))
        ++ with_prefix (q ++ p) (pairs_in s (children_pairs (as_children rest))))
    pub count : ahead_count (Some b) es ≡ suc (length rest)

  upcoming-of : (q : List ℕ) (f0 : F) (t0 : Trie V) (keeps holds : Bool) (f : F) (p : List ℕ) (w : Option V) (n b : ℕ)
      (es : List (ℕ × Trie V)) (i : Retaining q f0 t0 keeps holds Done f p w n es (Some b))
      (rest : List (ℕ × Trie V)) → i.rest ≡ rest → (u : Trie V) × Upcoming q f0 t0 keeps holds f p w n b es u
  upcoming-of q f0 t0 keeps holds f p w n b es i [] e = let h : Some b ≡ None = i.state.1
      ∙ ap (λ r. option_map (λ e. e.0) (slice_get r 0)) e in absurd (cc)
  upcoming-of q f0 t0 keeps holds f p w n b es i (x ∷ rest) e =
      let h : Some b ≡ Some x.0 = i.state.1 ∙ ap (λ r. option_map (λ e. e.0) (slice_get r 0)) e in
      let byte : b ≡ x.0 = cc in
      let tail : i.rest ≡ (b, x.1) ∷ rest = e ∙ ap (λ z. (z, x.1) ∷ rest) (sym byte) in
      let all : es ≡ i.left ++ (b, x.1) ∷ rest = i.now ∙ ap (λ r. i.left ++ r) tail in
      let low : AreCanonical 0 (as_children (i.left ++ (b, x.1) ∷ rest)) = rw all at i.canonical in
      let was : t0 ≡ node p i.own i.width (as_children (i.done ++ (b, x.1) ∷ rest))
      = i.before ∙ ap (λ r. node p i.own i.width (as_children (i.done ++ r))) tail in
      let calls : CanRetain call f (with_prefix (q ++ p) (pairs_in s (pairs_of x.1))
      ++ with_prefix (q ++ p) (pairs_in s (children_pairs (as_children rest))))
      = subst (λ es. CanRetain call f es) (ap (with_prefix (q ++ p))
      (ap (λ r. pairs_in s (children_pairs (as_children r))) tail
      ∙ filter-append (λ e. is_in_part s e.0) (pairs_of x.1) (children_pairs (as_children rest)))
      ∙ prefix-append (q ++ p) (pairs_in s (pairs_of x.1)) (pairs_in s (children_pairs (as_children rest))))
      i.state.2 in (
        x.1,
        record {
          own = i.own;
          width = i.width;
          done = i.done;
          left = i.left;
          rest = rest;
          before = was;
          now = all;
          all = low;
          capacity = i.capacity;
          held = i.held;
          first = i.first;
          called = i.called;
          fates = i.fates;
          calls = i.calls;
          whole = i.state.0;
          stay = i.stay;
          refused = i.refused;
          there = ap (child_at b) all ∙ middle-at b 0 x.1 i.left rest low;
          canonical = middle-canonical b 0 x.1 i.left rest low;
          fewer = omega (arith, ap node_count was, middle-count b x.1 i.done rest);
          start = middle-first b 0 x.1 i.left rest low;
          callable = can-front _ _ f (with_prefix (q ++ p) (pairs_in s (pairs_of x.1)))
              (with_prefix (q ++ p) (pairs_in s (children_pairs (as_children rest)))) calls;
          later = calls;
          count = ap (λ es. suc (length (entries_above b es))) all
              ∙ ap (λ es. suc (length es)) (middle-above b 0 x.1 i.left rest low);
        },
      )

  upcoming-any : (q : List ℕ) (f0 : F) (t0 : Trie V) (keeps holds : Bool) (walk : Retention) (f : F) (p : List ℕ)
      (w : Option V) (n b : ℕ) (es : List (ℕ × Trie V)) → Retaining q f0 t0 keeps holds walk f p w n es (Some b)
      → (u : Trie V) × Upcoming q f0 t0 keeps holds f p w n b es u
  upcoming-any q f0 t0 keeps holds Done f p w n b es i = upcoming-of q f0 t0 keeps holds f p w n b es i i.rest refl
  upcoming-any q f0 t0 keeps holds Rejected f p w n b es i = let h : Some b ≡ None = i.state.1 in absurd (cc)
  upcoming-any q f0 t0 keeps holds Refused f p w n b es i = let h : Some b ≡ None = i.state.0 in absurd (cc)

  pub upcoming : (q : List ℕ) (f0 : F) (t0 : Trie V) (keeps holds : Bool) (walk : Retention) (f : F) (p : List ℕ)
      (w : Option V) (n b : ℕ) (es : List (ℕ × Trie V)) (u : Trie V)
      → Retaining q f0 t0 keeps holds walk f p w n es (Some b) → Some u ≡ child_at b es
      → Upcoming q f0 t0 keeps holds f p w n b es u
  upcoming q f0 t0 keeps holds walk f p w n b es u i s =
      let x = upcoming-any q f0 t0 keeps holds walk f p w n b es i in
      let e : u ≡ x.0 = let z = s ∙ x.1.there in cc in rw e x.1

  pub upcoming-there : (q : List ℕ) (f0 : F) (t0 : Trie V) (keeps holds : Bool) (walk : Retention) (f : F) (p : List ℕ)
      (w : Option V) (n b : ℕ) (es : List (ℕ × Trie V)) → Retaining q f0 t0 keeps holds walk f p w n es (Some b)
      → None ≡ child_at b es → ⊥
  upcoming-there q f0 t0 keeps holds walk f p w n b es i s =
      let x = upcoming-any q f0 t0 keeps holds walk f p w n b es i in
      let z = s ∙ x.1.there in absurd (cc)

  -- f may be called with the pairs of the child that its part has
  pub child-callable : (s' : Part) (k : List ℕ) (f : F) (b : ℕ) (u : Trie V) → StartsWith b (prefix_of u)
      → ((l : List ℕ) → StartsWith b l → is_in_part s' l ≡ is_in_part s l)
      → CanRetain call f (with_prefix k (pairs_in s (pairs_of u)))
      → CanRetain call f (with_prefix k (pairs_in s' (pairs_of u)))
  child-callable s' k f b u c a h = subst (λ es. CanRetain call f (with_prefix k es))
      (sym (where-agree (is_in_part s') (is_in_part s) (pairs_of u)
      (agree-first b (is_in_part s') (is_in_part s) (pairs_of u) a (pairs_of-first b u c)))) h

  -- the paths below the child are within the maximum
  pub upcoming-within : (m : Option ℕ) (q : List ℕ) (f0 : F) (t0 : Trie V) (keeps holds : Bool) (f : F) (p r : List ℕ)
      (w : Option V) (n b : ℕ) (es : List (ℕ × Trie V)) (u : Trie V) → IsCanonical t0
      → Upcoming q f0 t0 keeps holds f p w n b es u → r ≡ q ++ p
      → IsWithin m (length q + longest_key (pairs_of t0)) → IsWithin m (length r + longest_key (pairs_of u))
  upcoming-within m q f0 t0 keeps holds f p r w n b es u c i s h =
      let was : IsCanonical (node p i.own i.width (as_children (i.done ++ (b, u) ∷ i.rest))) = rw i.before at c in
      below-within m q r b p i.own i.width u (i.done ++ (b, u) ∷ i.rest) was
      (sym (middle-at b 0 u i.done i.rest was.2)) s (rw i.before at h)
