-- A walk that lends the values within two bounds: at a node, at its own value, and at its children.
use Rattle.std.proofs.Common.{◌≡◌, ℕ, ◌<◌, ◌||◌, Bool, true, false, List, [], ◌∷◌, ◌++◌, refl, sym, ap, ◌∙◌, arith}
use Rattle.std.proofs.Common.{subst}
use Rattle.std.proofs.Common.{Option, Some, None, MutBor, option_map}
use Rattle.std.specs.Prelude.{slice_get}
use Rattle.std.specs.Fn.{CalledAtMut, Mut}
use Rattle.std.specs.declared.ops.Bound.{Bound}
use Rattle.rart_keys.specs.ByteStrings.{begins}
use Rattle.rart_keys.specs.Ranges.{between, bound_bytes}
use Rattle.rart_keys.specs.SortedMap.{values_of}
use Rattle.rart_parts.specs.Entries.{entries_above}
use Rattle.rart_trie.specs.declared.node.ends.End.TheVariants.{First, Last}
use Rattle.rart_trie.specs.edits.ValueChanges.{CanLend, ChangesBelow, ChangesBetween, TakesLoan}
use Rattle.rart_trie.specs.ranges.BoundCuts.{bound_at, bound_past, byte_below, is_bounded}
use Rattle.rart_trie.specs.ranges.Starts.{entries_after}
use Rattle.rart_trie.specs.tries.PrefixLaws.{values-with_prefix}
use Rattle.rart_trie.specs.tries.Trie.{Trie, node, Children, pairs_of, children_pairs, own_pair, AreCanonical}
use Rattle.rart_trie.specs.tries.Trie.{IsCanonical, StartsWith, prefix_of, with_prefix}
use Rattle.rart_trie.specs.tries.TrieCode.{as_children}
use Rattle.rart_trie.proofs.changes.ValueChangeLemmas.{agree-all, agree-first, can-front, changes-agree, changes-none}
use Rattle.rart_trie.proofs.changes.ValueChangeLemmas.{pairs_where, where-after, where-agree, where-none}
use Rattle.rart_trie.proofs.changes.ValueWalkLemmas.{Changing, all-callable, changing-end, changing-from, changing-over}
use Rattle.rart_trie.proofs.changes.ValueWalkLemmas.{changing-skip, values-where}
use Rattle.rart_trie.proofs.edits.CallbackLemmas.{can-first}
use Rattle.rart_trie.proofs.ranges.BetweenLemmas.{at-between, at-end, at-start, is_between, past-between, past-end}
use Rattle.rart_trie.proofs.ranges.BetweenLemmas.{past-start, unbounded}
use Rattle.rart_trie.proofs.ranges.BoundCutLemmas.{later-none, none-before}
use Rattle.rart_trie.proofs.ranges.PassedChildren.{later-children, none-first, skipped}
use Rattle.rart_trie.proofs.storages.EntryPlaces.{ahead_count, tail-canonical}
use Rattle.rart_trie.proofs.tries.FirstBytes.{pairs_of-first}

module _ {V : Type 0} where
  none-after : (t : List ℕ → Bool) (q : List ℕ) (es : List (List ℕ × V)) → ((k : List ℕ) → t (q ++ k) ≡ false)
      → pairs_where t (with_prefix q es) ≡ []
  none-after t q es h = where-after t (λ k. false) q es h ∙ ap (with_prefix q) (where-none es)

module _ {F V : Type 0} (call : Mut F (MutBor V × Unit {0}) (Unit {0} × (MutBor V × Unit {0}))) where
  -- a node without a bound
  pub whole-callable : (a b : Bound (List ℕ)) (es : List (List ℕ × V)) (f : F) → is_bounded a || is_bounded b ≡ false
      → CanLend call f (values_of (between a b es)) → CanLend call f (values_of es)
  whole-callable a b es f h k = all-callable call f es (subst (λ xs. CanLend call f (values_of xs))
      (where-agree (is_between a b) (begins []) es
      (agree-all (is_between a b) (begins []) es (λ k. unbounded a b k h))) k)

  pub whole-changes : (a b : Bound (List ℕ)) (es ds : List (List ℕ × V)) (f g : F)
      → is_bounded a || is_bounded b ≡ false → ChangesBelow call [] f es ds g → ChangesBetween call a b f es ds g
  whole-changes a b es ds f g h c = changes-agree call (is_between a b) (begins []) es ds f g
      (agree-all (is_between a b) (begins []) es (λ k. unbounded a b k h)) c

  -- a node past one of the bounds
  pub outside-start : (a b : Bound (List ℕ)) (t : Trie V) (f : F) → bound_past First (prefix_of t) a ≡ None
      → ChangesBetween call a b f (pairs_of t) (pairs_of t) f
  outside-start a b (node p v n cs) f h = changes-none call (is_between a b) (pairs_of (node p v n cs)) f
      (none-after (is_between a b) p (own_pair v ++ children_pairs cs) (λ k. past-start a b p k h))

  pub outside-end : (a b : Bound (List ℕ)) (t : Trie V) (f : F) → bound_past Last (prefix_of t) b ≡ None
      → ChangesBetween call a b f (pairs_of t) (pairs_of t) f
  outside-end a b (node p v n cs) f h = changes-none call (is_between a b) (pairs_of (node p v n cs)) f
      (none-after (is_between a b) p (own_pair v ++ children_pairs cs) (λ k. past-end a b p k h))

  -- another, where the bounds after its prefix are o and u
  node-callable : (a b o u : Bound (List ℕ)) (p : List ℕ) (es : List (List ℕ × V)) (f : F)
      → bound_past First p a ≡ Some o → bound_past Last p b ≡ Some u
      → CanLend call f (values_of (between a b (with_prefix p es))) → CanLend call f (values_of (between o u es))
  node-callable a b o u p es f x y k = subst (λ vs. CanLend call f vs)
      (ap values_of (where-after (is_between a b) (is_between o u) p es (λ l. past-between a b o u p l x y))
      ∙ values-with_prefix p (between o u es)) k

  -- its own value
  pub own-within : (a b o u : Bound (List ℕ)) (p : List ℕ) (v : Option V) (n : ℕ) (cs : Children V) (f : F)
      → bound_past First p a ≡ Some o → bound_past Last p b ≡ Some u
      → CanLend call f (values_of (between a b (pairs_of (node p v n cs))))
      → CanLend call f (values_of (between o u (own_pair v)))
  own-within a b o u p v n cs f x y k = can-front _ _ f (values_of (between o u (own_pair v)))
      (values_of (between o u (children_pairs cs))) (subst (λ vs. CanLend call f vs)
      (values-where call (is_between o u) (own_pair v) (children_pairs cs))
      (node-callable a b o u p (own_pair v ++ children_pairs cs) f x y k))

  pub own-outside : (a b : Bound (List ℕ)) (v : Option V) (f : F) → is_between a b [] ≡ false
      → ChangesBetween call a b f (own_pair v) (own_pair v) f
  own-outside a b None f h = refl
  own-outside a b (Some x) f h = (refl, (f, (rw h (refl, refl), refl)))

  pub own-lent : (a b : Bound (List ℕ)) (v : Option V) (x : V) (f : F) → v ≡ Some x → is_between a b [] ≡ true
      → CanLend call f (values_of (between a b (own_pair v))) → TakesLoan call f x
  own-lent a b v x f s h k =
      let one : between a b (([], x) ∷ []) ≡ ([], x) ∷ [] = rw h refl in
      can-first _ _ f (values_of (between a b (own_pair v))) x []
      (ap (λ o. values_of (between a b (own_pair o))) s ∙ ap values_of one) k

  pub own-called : (a b : Bound (List ℕ)) (x y : V) (f g : F) → is_between a b [] ≡ true
      → CalledAtMut call f x tt g y → ChangesBetween call a b f (([], x) ∷ []) (([], y) ∷ []) g
  own-called a b x y f g h k = (refl, (g, (rw h k, refl)))

  -- the children from the start on
  pub within-start : (a b o u : Bound (List ℕ)) (d : Option ℕ) (p : List ℕ) (v w : Option V) (n : ℕ)
      (es : List (ℕ × Trie V)) (f g : F) (next : Option ℕ) → bound_past First p a ≡ Some o
      → bound_past Last p b ≡ Some u → byte_below (bound_bytes o) ≡ d → IsCanonical (node p v n (as_children es))
      → ChangesBetween call o u f (own_pair v) (own_pair w) g
      → CanLend call f (values_of (between a b (pairs_of (node p v n (as_children es)))))
      → next ≡ option_map (λ e. e.0) (slice_get (entries_after d es) 0)
      → Changing call (is_between o u) f (node p v n (as_children es)) g p w n es next
  within-start a b o u None p v w n es f g next x y i c h k z = changing-from call (is_between o u) p v w n [] es es f g
      next refl refl c h (node-callable a b o u p (own_pair v ++ children_pairs (as_children es)) f x y k) z
  within-start a b o u (Some d) p v w n es f g next x y i c h k z =
      let s = skipped (is_between o u) d 0 es c.2 (λ e l k b. at-start o u e k b (none-before o d e i l)) in
      changing-from call (is_between o u) p v w n s.done (entries_above d es) es f g next s.whole s.none c h
      (node-callable a b o u p (own_pair v ++ children_pairs (as_children es)) f x y k) z

  -- a child at c, where the bounds are o and u
  pub child-within : (a b o u : Bound (List ℕ)) (c : ℕ) (t : Trie V) (f : F) → StartsWith c (prefix_of t)
      → Some o ≡ bound_at First c a → Some u ≡ bound_at Last c b
      → CanLend call f (values_of (pairs_where (is_between a b) (pairs_of t)))
      → CanLend call f (values_of (between o u (pairs_of t)))
  child-within a b o u c t f s x y k = subst (λ es. CanLend call f (values_of es))
      (where-agree (is_between a b) (is_between o u) (pairs_of t) (agree-first c (is_between a b) (is_between o u)
      (pairs_of t) (λ l i. at-between a b o u c l i x y) (pairs_of-first c t s))) k

  pub child-between : (a b o u : Bound (List ℕ)) (c : ℕ) (t z : Trie V) (f g : F) → StartsWith c (prefix_of t)
      → Some o ≡ bound_at First c a → Some u ≡ bound_at Last c b
      → ChangesBetween call o u f (pairs_of t) (pairs_of z) g → ChangesBetween call a b f (pairs_of t) (pairs_of z) g
  child-between a b o u c t z f g s x y h = changes-agree call (is_between a b) (is_between o u) (pairs_of t)
      (pairs_of z) f g (agree-first c (is_between a b) (is_between o u) (pairs_of t)
      (λ l i. at-between a b o u c l i x y) (pairs_of-first c t s)) h

  -- one before the start
  pub child-before : (a b : Bound (List ℕ)) (f0 : F) (t0 : Trie V) (f : F) (p : List ℕ) (w : Option V) (n c : ℕ)
      (es : List (ℕ × Trie V)) (next : Option ℕ) → Changing call (is_between a b) f0 t0 f p w n es (Some c)
      → None ≡ bound_at First c a → next ≡ option_map (λ e. e.0) (slice_get (entries_above c es) 0)
      → Changing call (is_between a b) f0 t0 f p w n es next × (ahead_count next es < ahead_count (Some c) es)
  child-before a b f0 t0 f p w n c es next i h z = changing-skip call (is_between a b) f0 t0 f p w n c es next i
      (λ ps first. none-first (is_between a b) c ps (λ k s. at-start a b c k s (sym h)) first) z

  -- one past the end: the walk is over
  pub child-past : (a b o u : Bound (List ℕ)) (f0 : F) (t0 : Trie V) (f : F) (p : List ℕ) (w : Option V) (n c : ℕ)
      (es : List (ℕ × Trie V)) → bound_past First (prefix_of t0) a ≡ Some o → bound_past Last (prefix_of t0) b ≡ Some u
      → (i : Changing call (is_between o u) f0 t0 f p w n es (Some c)) → None ≡ bound_at Last c u
      → ChangesBetween call a b f0 (pairs_of t0) (pairs_of (node p w n (as_children es))) f
  child-past a b o u f0 t0 f p w n c es x y i h = changing-over call (is_between o u) (is_between a b) f0 t0 f p w n es
      (Some c) i (over i.rest refl)
      (λ k. past-between a b o u p k (ap (λ t. bound_past First (prefix_of t) a) (sym i.before) ∙ x)
      (ap (λ t. bound_past Last (prefix_of t) b) (sym i.before) ∙ y))
    where
      over : (rest : List (ℕ × Trie V)) → i.rest ≡ rest
          → pairs_where (is_between o u) (children_pairs (as_children i.rest)) ≡ []
      over [] e = rw e refl
      over (r ∷ rest) e =
          let first : Some c ≡ Some r.0 = i.ahead ∙ ap (λ z. option_map (λ e. e.0) (slice_get z 0)) e in
          let byte : c ≡ r.0 = cc in
          let all : AreCanonical 0 (as_children (i.left ++ r ∷ rest)) = rw (i.now, e) at i.canonical.2 in
          rw e (later-children (is_between o u) c r.0 (r ∷ rest) (omega (arith, byte))
          (tail-canonical r 0 i.left rest all) (λ d l k b. at-end o u d k b (later-none u c d l (sym h))))

  -- no child is left
  pub within-end : (a b o u : Bound (List ℕ)) (f0 : F) (t0 : Trie V) (f : F) (p : List ℕ) (w : Option V) (n : ℕ)
      (es : List (ℕ × Trie V)) → bound_past First (prefix_of t0) a ≡ Some o → bound_past Last (prefix_of t0) b ≡ Some u
      → Changing call (is_between o u) f0 t0 f p w n es None
      → ChangesBetween call a b f0 (pairs_of t0) (pairs_of (node p w n (as_children es))) f
  within-end a b o u f0 t0 f p w n es x y i = changing-end call (is_between o u) (is_between a b) f0 t0 f p w n es i
      (λ k. past-between a b o u p k (ap (λ t. bound_past First (prefix_of t) a) (sym i.before) ∙ x)
      (ap (λ t. bound_past Last (prefix_of t) b) (sym i.before) ∙ y))
