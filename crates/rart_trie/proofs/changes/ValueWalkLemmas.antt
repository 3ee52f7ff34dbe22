-- A walk that lends the values of a tree continues child by child, and leaves keys and nodes as they are.
use Rattle.std.proofs.Common.{◌≡◌, ℕ, suc, ◌<◌, Bool, List, [], ◌∷◌, ◌++◌, length, refl, sym, ap, ◌∙◌, arith, subst}
use Rattle.std.proofs.Common.{Option, Some, None, MutBor, is_some, option_map}
use Rattle.std.specs.Prelude.{slice_get}
use Rattle.std.specs.Fn.{CalledAtMut, Mut}
use Rattle.std.proofs.lemmas.List.{append_assoc}
use Rattle.std.proofs.lemmas.List.Elements.{filter-append}
use Rattle.rart_keys.specs.ByteStrings.{begins}
use Rattle.rart_keys.specs.SortedMap.{values_of}
use Rattle.rart_parts.specs.Entries.{child_at, entries_above, replaced_at}
use Rattle.rart_trie.specs.edits.ValueChanges.{CanLend, ChangesWhere, TakesLoan}
use Rattle.rart_trie.specs.tries.PrefixLaws.{values-append, values-with_prefix}
use Rattle.rart_trie.specs.tries.Trie.{Trie, node, Children, pairs_of, children_pairs, own_pair, AreCanonical}
use Rattle.rart_trie.specs.tries.Trie.{IsCanonical, StartsWith, prefix_of}
use Rattle.rart_trie.specs.tries.TrieCode.{as_children, node_count}
use Rattle.rart_trie.proofs.edits.CallbackLemmas.{can-first}
use Rattle.rart_trie.proofs.tries.BelowLemmas.{below-nil}
use Rattle.rart_trie.proofs.tries.FirstBytes.{AllFirst, pairs_of-first}
use Rattle.rart_trie.proofs.changes.ValueChangeLemmas.{can-back, can-front, changes-after, changes-append}
use Rattle.rart_trie.proofs.changes.ValueChangeLemmas.{changes-folds, changes-none, pairs_where}
use Rattle.rart_trie.proofs.storages.EntryPlaces.{ahead-first, ahead_count, alike-canonical, child-canonical}
use Rattle.rart_trie.proofs.storages.EntryPlaces.{middle-above, middle-at, middle-canonical, middle-count, middle-first}
use Rattle.rart_trie.proofs.storages.EntryPlaces.{middle-replaced, pairs-append}

module _ {F V : Type 0} (call : Mut F (MutBor V × Unit {0}) (Unit {0} × (MutBor V × Unit {0}))) where
  own-some : (t : List ℕ → Bool) (f g : F) (v w : Option V) → ChangesWhere call t f (own_pair v) (own_pair w) g
      → is_some w ≡ is_some v
  own-some t f g None None h = refl
  own-some t f g None (Some w) h = absurd h
  own-some t f g (Some v) None h = absurd h
  own-some t f g (Some v) (Some w) h = refl

  -- What a walk over the children of a node keeps, which lends the values of whose keys t holds, after the node's
  -- prefix: from f0 and the node t0, those before `next` are changed, and es are all of them.
  pub record Changing (t : List ℕ → Bool) (f0 : F) (t0 : Trie V) (f : F) (p : List ℕ) (w : Option V) (n : ℕ)
      (es : List (ℕ × Trie V)) (next : Option ℕ) : Type 0 where
    pub own : Option V
    pub done : List (ℕ × Trie V)
    pub left : List (ℕ × Trie V)
    pub rest : List (ℕ × Trie V)
    pub before : t0 ≡ node p own n (as_children (done ++ rest))
    pub now : es ≡ left ++ rest
    pub canonical : IsCanonical (node p w n (as_children es))
    pub ahead : next ≡ option_map (λ e. e.0) (slice_get rest 0)
    pub calls : ChangesWhere call t f0 (own_pair own ++ children_pairs (as_children done))
        (own_pair w ++ children_pairs (as_children left)) f
    pub callable : CanLend call f (values_of (pairs_where t (children_pairs (as_children rest))))

  -- the values that are lent of one list and then of another
  pub values-where : (t : List ℕ → Bool) (xs ys : List (List ℕ × V)) → values_of (pairs_where t (xs ++ ys))
      ≡ values_of (pairs_where t xs) ++ values_of (pairs_where t ys)
  values-where t xs ys = ap values_of (filter-append (λ e. t e.0) xs ys)
      ∙ values-append (pairs_where t xs) (pairs_where t ys)

  values-node : (p : List ℕ) (v : Option V) (n : ℕ) (cs : Children V) → values_of (pairs_of (node p v n cs))
      ≡ values_of (own_pair v) ++ values_of (children_pairs cs)
  values-node p v n cs = values-with_prefix p (own_pair v ++ children_pairs cs)
      ∙ values-append (own_pair v) (children_pairs cs)

  -- the value of the node is the first that is lent
  pub own-callable : (f : F) (p : List ℕ) (v : Option V) (x : V) (n : ℕ) (cs : Children V) → v ≡ Some x
      → CanLend call f (values_of (pairs_of (node p v n cs))) → TakesLoan call f x
  own-callable f p v x n cs s h = can-first _ _ f (values_of (pairs_of (node p v n cs))) x
      (values_of (children_pairs cs))
      (values-node p v n cs ∙ ap (λ o. values_of (own_pair o) ++ values_of (children_pairs cs)) s) h

  -- every key begins with no byte
  pub all-callable : (f : F) (es : List (List ℕ × V)) → CanLend call f (values_of (pairs_where (begins []) es))
      → CanLend call f (values_of es)
  all-callable f es k = subst (λ xs. CanLend call f (values_of xs)) (below-nil es) k

  callable-all : (f : F) (p : List ℕ) (v : Option V) (n : ℕ) (cs : Children V)
      → CanLend call f (values_of (pairs_of (node p v n cs)))
      → CanLend call f (values_of (pairs_where (begins []) (own_pair v ++ children_pairs cs)))
  callable-all f p v n cs k = subst (λ vs. CanLend call f vs)
      (values-with_prefix p (own_pair v ++ children_pairs cs)
      ∙ ap values_of (sym (below-nil (own_pair v ++ children_pairs cs)))) k

  -- where the children `done` are passed, of none of whose keys t holds
  pub changing-from : (t : List ℕ → Bool) (p : List ℕ) (v w : Option V) (n : ℕ) (done rest es : List (ℕ × Trie V))
      (f g : F) (next : Option ℕ) → es ≡ done ++ rest → pairs_where t (children_pairs (as_children done)) ≡ []
      → IsCanonical (node p v n (as_children es)) → ChangesWhere call t f (own_pair v) (own_pair w) g
      → CanLend call f (values_of (pairs_where t (own_pair v ++ children_pairs (as_children es))))
      → next ≡ option_map (λ e. e.0) (slice_get rest 0)
      → Changing t f (node p v n (as_children es)) g p w n es next
  changing-from t p v w n done rest es f g next e none c h k a =
      let own : List V = values_of (pairs_where t (own_pair v)) in
      let kept : values_of (pairs_where t (own_pair v ++ children_pairs (as_children es)))
      ≡ own ++ values_of (pairs_where t (children_pairs (as_children rest)))
      = values-where t (own_pair v) (children_pairs (as_children es))
      ∙ ap (λ z. own ++ values_of (pairs_where t (children_pairs (as_children z)))) e
      ∙ ap (λ z. own ++ values_of (pairs_where t z)) (pairs-append done rest)
      ∙ ap (λ z. own ++ z) (values-where t (children_pairs (as_children done)) (children_pairs (as_children rest)))
      ∙ ap (λ z. own ++ (values_of z ++ values_of (pairs_where t (children_pairs (as_children rest))))) none in
      record {
        own = v;
        done = done;
        left = done;
        rest = rest;
        before = ap (λ z. node p v n (as_children z)) e;
        now = e;
        canonical = alike-canonical p v w n (as_children es) (as_children es) (own-some t f g v w h) refl c.2 c;
        ahead = a;
        calls = changes-append call t (own_pair v) (own_pair w) (children_pairs (as_children done))
            (children_pairs (as_children done)) f g g h
            (changes-none call t (children_pairs (as_children done)) g none);
        callable = can-back _ _ f g own (values_of (pairs_where t (children_pairs (as_children rest))))
            (changes-folds call t (own_pair v) (own_pair w) f g h) (subst (λ vs. CanLend call f vs) kept k);
      }

  -- a walk over all: the value was lent, or there is none
  pub changing-lent : (p : List ℕ) (v : Option V) (x y : V) (n : ℕ) (es : List (ℕ × Trie V)) (f g : F) (next : Option ℕ)
      → IsCanonical (node p v n (as_children es)) → v ≡ Some x → CalledAtMut call f x tt g y
      → CanLend call f (values_of (pairs_of (node p v n (as_children es))))
      → next ≡ option_map (λ e. e.0) (slice_get es 0)
      → Changing (begins []) f (node p v n (as_children es)) g p (Some y) n es next
  changing-lent p v x y n es f g next c s h k a = changing-from (begins []) p v (Some y) n [] es es f g next refl refl c
      (rw s (refl, (g, (h, refl)))) (callable-all f p v n (as_children es) k) a

  pub changing-childless : (p : List ℕ) (v : Option V) (n : ℕ) (es : List (ℕ × Trie V)) (f : F) (next : Option ℕ)
      → IsCanonical (node p v n (as_children es)) → v ≡ None
      → CanLend call f (values_of (pairs_of (node p v n (as_children es))))
      → next ≡ option_map (λ e. e.0) (slice_get es 0)
      → Changing (begins []) f (node p v n (as_children es)) f p v n es next
  changing-childless p v n es f next c s k a = changing-from (begins []) p v v n [] es es f f next refl refl c
      (rw s refl) (callable-all f p v n (as_children es) k) a

  -- the child that comes next
  pub record Next (t : List ℕ → Bool) (f0 : F) (t0 : Trie V) (f : F) (p : List ℕ) (w : Option V) (n b : ℕ)
      (es : List (ℕ × Trie V)) (u : Trie V) : Type 0 where
    pub own : Option V
    pub done : List (ℕ × Trie V)
    pub left : List (ℕ × Trie V)
    pub rest : List (ℕ × Trie V)
    pub before : t0 ≡ node p own n (as_children (done ++ (b, u) ∷ rest))
    pub now : es ≡ left ++ (b, u) ∷ rest
    pub calls : ChangesWhere call t f0 (own_pair own ++ children_pairs (as_children done))
        (own_pair w ++ children_pairs (as_children left)) f
    pub there : child_at b es ≡ Some u
    pub first : StartsWith b (prefix_of u)
    pub canonical : IsCanonical u
    pub fewer : node_count u < node_count t0
    pub callable : CanLend call f (values_of (pairs_where t (pairs_of u)))
    pub later : CanLend call f (values_of (pairs_where t (pairs_of u))
        ++ values_of (pairs_where t (children_pairs (as_children rest))))
    pub count : ahead_count (Some b) es ≡ suc (length rest)

  next-of : (t : List ℕ → Bool) (f0 : F) (t0 : Trie V) (f : F) (p : List ℕ) (w : Option V) (n b : ℕ)
      (es : List (ℕ × Trie V)) (i : Changing t f0 t0 f p w n es (Some b)) (rest : List (ℕ × Trie V)) → i.rest ≡ rest
      → (u : Trie V) × Next t f0 t0 f p w n b es u
  next-of t f0 t0 f p w n b es i [] e = let h : Some b ≡ None = i.ahead
      ∙ ap (λ r. option_map (λ e. e.0) (slice_get r 0)) e in absurd (cc)
  next-of t f0 t0 f p w n b es i (x ∷ rest) e =
      let h : Some b ≡ Some x.0 = i.ahead ∙ ap (λ r. option_map (λ e. e.0) (slice_get r 0)) e in
      let byte : b ≡ x.0 = cc in
      let tail : i.rest ≡ (b, x.1) ∷ rest = e ∙ ap (λ z. (z, x.1) ∷ rest) (sym byte) in
      let all : es ≡ i.left ++ (b, x.1) ∷ rest = i.now ∙ ap (λ r. i.left ++ r) tail in
      let low : AreCanonical 0 (as_children (i.left ++ (b, x.1) ∷ rest)) = rw all at i.canonical.2 in
      let was : t0 ≡ node p i.own n (as_children (i.done ++ (b, x.1) ∷ rest))
      = i.before ∙ ap (λ r. node p i.own n (as_children (i.done ++ r))) tail in
      let calls : CanLend call f (values_of (pairs_where t (pairs_of x.1))
      ++ values_of (pairs_where t (children_pairs (as_children rest))))
      = subst (λ vs. CanLend call f vs) (ap (λ r. values_of (pairs_where t (children_pairs (as_children r)))) tail
      ∙ values-where t (pairs_of x.1) (children_pairs (as_children rest))) i.callable in (
        x.1,
        record {
          own = i.own;
          done = i.done;
          left = i.left;
          rest = rest;
          before = was;
          now = all;
          calls = i.calls;
          there = ap (child_at b) all ∙ middle-at b 0 x.1 i.left rest low;
          first = middle-first b 0 x.1 i.left rest low;
          canonical = middle-canonical b 0 x.1 i.left rest low;
          fewer = omega (arith, ap node_count was, middle-count b x.1 i.done rest);
          callable = can-front _ _ f (values_of (pairs_where t (pairs_of x.1)))
              (values_of (pairs_where t (children_pairs (as_children rest)))) calls;
          later = calls;
          count = ap (λ es. suc (length (entries_above b es))) all
              ∙ ap (λ es. suc (length es)) (middle-above b 0 x.1 i.left rest low);
        },
      )

  pub next-child : (t : List ℕ → Bool) (f0 : F) (t0 : Trie V) (f : F) (p : List ℕ) (w : Option V) (n b : ℕ)
      (es : List (ℕ × Trie V)) (u : Trie V) → Changing t f0 t0 f p w n es (Some b) → Some u ≡ child_at b es
      → Next t f0 t0 f p w n b es u
  next-child t f0 t0 f p w n b es u i s =
      let x = next-of t f0 t0 f p w n b es i i.rest refl in
      let e : u ≡ x.0 = let q = s ∙ x.1.there in cc in rw e x.1

  pub next-there : (t : List ℕ → Bool) (f0 : F) (t0 : Trie V) (f : F) (p : List ℕ) (w : Option V) (n b : ℕ)
      (es : List (ℕ × Trie V)) → Changing t f0 t0 f p w n es (Some b) → None ≡ child_at b es → ⊥
  next-there t f0 t0 f p w n b es i s =
      let x = next-of t f0 t0 f p w n b es i i.rest refl in
      let q = s ∙ x.1.there in absurd (cc)

  -- after it
  pub changing-step : (t : List ℕ → Bool) (f0 : F) (t0 : Trie V) (f g : F) (p : List ℕ) (w : Option V) (n m b : ℕ)
      (es ds : List (ℕ × Trie V)) (u x : Trie V) (next : Option ℕ)
      → Changing t f0 t0 f p w n es (Some b) → Some u ≡ child_at b es → IsCanonical x → prefix_of x ≡ prefix_of u
      → ChangesWhere call t f (pairs_of u) (pairs_of x) g → m ≡ n → ds ≡ replaced_at b x es
      → next ≡ option_map (λ e. e.0) (slice_get (entries_above b ds) 0)
      → Changing t f0 t0 g p w m ds next × (ahead_count next ds < ahead_count (Some b) es)
  changing-step t f0 t0 f g p w n m b es ds u x next i s c q h v d a =
      let k = next-child t f0 t0 f p w n b es u i s in
      let all : AreCanonical 0 (as_children (k.left ++ (b, u) ∷ k.rest)) = rw k.now at i.canonical.2 in
      let changed : ds ≡ k.left ++ (b, x) ∷ k.rest = d ∙ ap (replaced_at b x) k.now
      ∙ middle-replaced b 0 u x k.left k.rest all in
      let canonical = child-canonical p w n n b u x es ds i.canonical s c q refl d in
      let low : AreCanonical 0 (as_children (k.left ++ (b, x) ∷ k.rest)) = rw changed at canonical.2 in
      let above : entries_above b ds ≡ k.rest = ap (entries_above b) changed
      ∙ middle-above b 0 x k.left k.rest low in
      let first : next ≡ option_map (λ e. e.0) (slice_get k.rest 0) = a
      ∙ ap (λ r. option_map (λ e. e.0) (slice_get r 0)) above in
      let joined : ds ≡ (k.left ++ (b, x) ∷ []) ++ k.rest = changed ∙ sym (append_assoc k.left ((b, x) ∷ []) k.rest) in
      rw v (
        record {
          own = k.own;
          done = k.done ++ (b, u) ∷ [];
          left = k.left ++ (b, x) ∷ [];
          rest = k.rest;
          before = k.before ∙ ap (λ z. node p k.own n (as_children z)) (sym (append_assoc k.done ((b, u) ∷ []) k.rest));
          now = joined;
          canonical = canonical;
          ahead = first;
          calls = rw (pairs-append k.done ((b, u) ∷ []), pairs-append k.left ((b, x) ∷ []))
              (rw (
                sym (append_assoc (own_pair k.own) (children_pairs (as_children k.done)) (pairs_of u ++ [])),
                sym (append_assoc (own_pair w) (children_pairs (as_children k.left)) (pairs_of x ++ [])),
              )
              (changes-append call t (own_pair k.own ++ children_pairs (as_children k.done))
              (own_pair w ++ children_pairs (as_children k.left)) (pairs_of u ++ []) (pairs_of x ++ []) f0 f g k.calls
              (changes-append call t (pairs_of u) (pairs_of x) [] [] f g g h refl)));
          callable = can-back _ _ f g (values_of (pairs_where t (pairs_of u)))
              (values_of (pairs_where t (children_pairs (as_children k.rest))))
              (changes-folds call t (pairs_of u) (pairs_of x) f g h) k.later;
        },
        omega (
          arith,
          k.count,
          ahead-first 0 (k.left ++ (b, x) ∷ []) k.rest ds next joined
              (subst (λ z. AreCanonical 0 (as_children z)) joined canonical.2) first,
        ),
      )

  -- after one that t holds of no key of, so that it stays
  pub changing-skip : (t : List ℕ → Bool) (f0 : F) (t0 : Trie V) (f : F) (p : List ℕ) (w : Option V) (n b : ℕ)
      (es : List (ℕ × Trie V)) (next : Option ℕ) → Changing t f0 t0 f p w n es (Some b)
      → ((ps : List (List ℕ × V)) → AllFirst b ps → pairs_where t ps ≡ [])
      → next ≡ option_map (λ e. e.0) (slice_get (entries_above b es) 0)
      → Changing t f0 t0 f p w n es next × (ahead_count next es < ahead_count (Some b) es)
  changing-skip t f0 t0 f p w n b es next i none a =
      let x = next-of t f0 t0 f p w n b es i i.rest refl in
      let u : Trie V = x.0 in
      let k = x.1 in
      let all : AreCanonical 0 (as_children (k.left ++ (b, u) ∷ k.rest)) = rw k.now at i.canonical.2 in
      let same : es ≡ replaced_at b u es = k.now
      ∙ sym (ap (replaced_at b u) k.now ∙ middle-replaced b 0 u u k.left k.rest all) in
      changing-step t f0 t0 f f p w n n b es es u u next i (sym k.there) k.canonical refl
      (changes-none call t (pairs_of u) f (none (pairs_of u) (pairs_of-first b u k.first))) refl same a

  -- the walk is over: t holds of no key that is left
  pub changing-over : (t r : List ℕ → Bool) (f0 : F) (t0 : Trie V) (f : F) (p : List ℕ) (w : Option V) (n : ℕ)
      (es : List (ℕ × Trie V)) (next : Option ℕ) (i : Changing t f0 t0 f p w n es next)
      → pairs_where t (children_pairs (as_children i.rest)) ≡ [] → ((k : List ℕ) → r (p ++ k) ≡ t k)
      → ChangesWhere call r f0 (pairs_of t0) (pairs_of (node p w n (as_children es))) f
  changing-over t r f0 t0 f p w n es next i none s =
      let was : List (List ℕ × V) = own_pair i.own ++ children_pairs (as_children i.done) in
      let is : List (List ℕ × V) = own_pair w ++ children_pairs (as_children i.left) in
      let kept : List (List ℕ × V) = children_pairs (as_children i.rest) in
      rw (i.before, i.now) (changes-after call r t p (own_pair i.own ++ children_pairs (as_children (i.done ++ i.rest)))
      (own_pair w ++ children_pairs (as_children (i.left ++ i.rest))) f0 f s
      (rw (pairs-append i.done i.rest, pairs-append i.left i.rest)
      (rw (
        sym (append_assoc (own_pair i.own) (children_pairs (as_children i.done)) kept),
        sym (append_assoc (own_pair w) (children_pairs (as_children i.left)) kept),
      )
      (changes-append call t was is kept kept f0 f f i.calls (changes-none call t kept f none)))))

  -- no child is left
  pub changing-end : (t r : List ℕ → Bool) (f0 : F) (t0 : Trie V) (f : F) (p : List ℕ) (w : Option V) (n : ℕ)
      (es : List (ℕ × Trie V)) → Changing t f0 t0 f p w n es None → ((k : List ℕ) → r (p ++ k) ≡ t k)
      → ChangesWhere call r f0 (pairs_of t0) (pairs_of (node p w n (as_children es))) f
  changing-end t r f0 t0 f p w n es i s = changing-over t r f0 t0 f p w n es None i (over i.rest refl) s
    where
      over : (rest : List (ℕ × Trie V)) → i.rest ≡ rest → pairs_where t (children_pairs (as_children i.rest)) ≡ []
      over [] e = rw e refl
      over (x ∷ rest) e = let h : ◌≡◌ {A = Option ℕ} None (Some x.0) = i.ahead
          ∙ ap (λ r. option_map (λ e. e.0) (slice_get r 0)) e in absurd (cc)
