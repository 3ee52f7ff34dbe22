-- A walk that lends the values below a prefix: at a node, and at the child on its way.
use Rattle.std.proofs.Common.{◌≡◌, ℕ, suc, true, false, List, [], ◌∷◌, ◌++◌, refl, sym, ap, ◌∙◌, arith, subst, Option}
use Rattle.std.proofs.Common.{Some, None, MutBor, nat_eq}
use Rattle.std.specs.Prelude.{slice_get}
use Rattle.std.specs.Fn.{Mut}
use Rattle.std.specs.List.{starts_with}
use Rattle.rart_keys.specs.ByteStrings.{begins, strip_prefix}
use Rattle.rart_keys.specs.Filters.{below}
use Rattle.rart_keys.specs.SortedMap.{values_of}
use Rattle.rart_keys.proofs.strings.ByteOrder.{eq-yes, eq-no}
use Rattle.rart_parts.specs.Entries.{child_at, replaced_at}
use Rattle.rart_trie.specs.edits.ValueChanges.{CanLend, ChangesBelow}
use Rattle.rart_trie.specs.tries.PrefixLaws.{values-with_prefix}
use Rattle.rart_trie.specs.tries.Tree.{tree_pairs}
use Rattle.rart_trie.specs.tries.Trie.{Trie, node, pairs_of, children_pairs, own_pair, AreCanonical, IsCanonical}
use Rattle.rart_trie.specs.tries.Trie.{prefix_of, child_of, with_prefix}
use Rattle.rart_trie.specs.tries.TrieCode.{as_children}
use Rattle.rart_trie.proofs.changes.ValueChangeLemmas.{changes-after, changes-append, changes-none}
use Rattle.rart_trie.proofs.storages.ChildLemmas.{at_first, after_first, found}
use Rattle.rart_trie.proofs.storages.EntryPlaces.{below-first, below-from}
use Rattle.rart_trie.proofs.tries.BelowLemmas.{below-apart, below-child, starts_with-begins}
use Rattle.rart_trie.proofs.tries.Descents.{child_of-entries}
use Rattle.rart_trie.proofs.tries.FirstBytes.{children_pairs-from, pairs_of-first}
use Rattle.rart_trie.proofs.tries.PrefixedStrings.{begins-after, begins-apart}

-- p begins each key after the prefix q
abbrev BeginsAll : List ℕ → List ℕ → Type 0
BeginsAll p q = (k : List ℕ) → begins p (q ++ k) ≡ true

-- where it ends within a node's prefix, or after it
pub begins-within : (p q r : List ℕ) → r ≡ q → None ≡ strip_prefix q p → true ≡ starts_with nat_eq q p → BeginsAll p r
begins-within p q r e s h k = begins-apart r p k (ap (λ z. strip_prefix z p) e ∙ sym s) ∙ ap (begins p) e
    ∙ sym (h ∙ starts_with-begins p q)

pub begins-ended : (p q r l : List ℕ) → r ≡ q → Some l ≡ strip_prefix q p → None ≡ slice_get l 0 → BeginsAll p r
begins-ended p q r [] e s h k = begins-after r p [] k (ap (λ z. strip_prefix z p) e ∙ sym s)
begins-ended p q r (b ∷ l) e s h k = absurd (cc)

module _ {V : Type 0} where
  below-whole : (p q : List ℕ) (es : List (List ℕ × V)) → BeginsAll p q → below p (with_prefix q es) ≡ with_prefix q es
  below-whole p q [] h = refl
  below-whole p q (e ∷ es) h = rw (h e.0) (ap (λ z. (q ++ e.0, e.1) ∷ z) (below-whole p q es h))

module _ {F V : Type 0} (call : Mut F (MutBor V × Unit {0}) (Unit {0} × (MutBor V × Unit {0}))) where
  -- what changes below the child at b changes among the children
  changes-child : (b low : ℕ) (r : List ℕ) (t u : Trie V) (es : List (ℕ × Trie V)) (f g : F)
      → AreCanonical low (as_children es) → Some t ≡ child_at b es
      → ChangesBelow call (b ∷ r) f (pairs_of t) (pairs_of u) g
      → ChangesBelow call (b ∷ r) f (children_pairs (as_children es))
      (children_pairs (as_children (replaced_at b u es))) g
  changes-child b low r t u [] f g w s h = absurd (cc)
  changes-child b low r t u (e ∷ es) f g w s h = elim (found b low t e es w s) [
    | at_first q d ↦ rw (eq-yes e.0 b (sym q)) (changes-append call (begins (b ∷ r)) (pairs_of e.1) (pairs_of u)
        (children_pairs (as_children es)) (children_pairs (as_children es)) f g g
        (subst (λ z. ChangesBelow call (b ∷ r) f (pairs_of z) (pairs_of u) g) d h)
        (changes-none call (begins (b ∷ r)) (children_pairs (as_children es)) g
        (below-from b r (children_pairs (as_children es)) (children_pairs-from (suc b) (as_children es) (rw q w.3)))))
    | after_first l d ↦ rw (eq-no e.0 b (λ q. omega (arith, q, l))) (changes-append call (begins (b ∷ r))
        (pairs_of e.1) (pairs_of e.1) (children_pairs (as_children es))
        (children_pairs (as_children (replaced_at b u es))) f f g
        (changes-none call (begins (b ∷ r)) (pairs_of e.1) f
        (below-first b e.0 r (pairs_of e.1) (λ q. omega (arith, q, l)) (pairs_of-first e.0 e.1 w.1)))
        (changes-child b (suc e.0) r t u es f g w.3 d h))
  ]

  -- a walk to the values below p, at a node all of whose keys p begins
  pub whole-callable : (p : List ℕ) (t : Trie V) (f : F) → BeginsAll p (prefix_of t)
      → CanLend call f (values_of (below p (pairs_of t))) → CanLend call f (values_of (pairs_of t))
  whole-callable p (node q v n cs) f h k = subst (λ es. CanLend call f (values_of es))
      (below-whole p q (own_pair v ++ children_pairs cs) h) k

  changes-whole : (p q : List ℕ) (es ds : List (List ℕ × V)) (f g : F) → BeginsAll p q
      → ChangesBelow call [] f (with_prefix q es) ds g → ChangesBelow call p f (with_prefix q es) ds g
  changes-whole p q [] [] f g h c = c
  changes-whole p q [] (d ∷ ds) f g h c = absurd c
  changes-whole p q (e ∷ es) [] f g h c = absurd c
  changes-whole p q (e ∷ es) (d ∷ ds) f g h c = (
    c.0,
    (c.1.0, (rw (h e.0) c.1.1.0, changes-whole p q es ds c.1.0 g h c.1.1.1)),
  )

  pub whole-changes : (p : List ℕ) (t u : Trie V) (f g : F) → BeginsAll p (prefix_of t)
      → ChangesBelow call [] f (pairs_of t) (pairs_of u) g → ChangesBelow call p f (pairs_of t) (pairs_of u) g
  whole-changes p (node q v n cs) u f g h c = changes-whole p q (own_pair v ++ children_pairs cs) (pairs_of u) f g h c

  -- at a node that the prefix leaves
  pub changes-apart : (p r : List ℕ) (t : Trie V) (f : F) → prefix_of t ≡ r → None ≡ strip_prefix r p
      → false ≡ starts_with nat_eq r p → ChangesBelow call p f (pairs_of t) (pairs_of t) f
  changes-apart p r (node q v n cs) f e s h = changes-none call (begins p) (pairs_of (node q v n cs)) f
      (below-apart q p (own_pair v ++ children_pairs cs) (ap (λ z. strip_prefix z p) e ∙ sym s)
      ∙ rw (ap (begins p) e ∙ sym (h ∙ starts_with-begins p r)) refl)

  -- at a node without a child on its way
  pub changes-absent : (p r : List ℕ) (b : ℕ) (q : List ℕ) (v : Option V) (n : ℕ) (es : List (ℕ × Trie V)) (f : F)
      → IsCanonical (node q v n (as_children es)) → Some r ≡ strip_prefix q p → Some b ≡ slice_get r 0
      → None ≡ child_at b es
      → ChangesBelow call p f (pairs_of (node q v n (as_children es))) (pairs_of (node q v n (as_children es))) f
  changes-absent p [] b q v n es f c s h a = absurd (cc)
  changes-absent p (x ∷ r) b q v n es f c s h a =
      let byte : b ≡ x = cc in
      changes-none call (begins p) (pairs_of (node q v n (as_children es))) f
      (below-child q p r x v n (as_children es) c.2 (sym s) ∙ ap (λ o. with_prefix q (below (x ∷ r) (tree_pairs o)))
      (child_of-entries x es ∙ sym (a ∙ ap (λ z. child_at z es) byte)))

  -- at a node with a child u on its way, which becomes x
  pub child-callable : (p r : List ℕ) (b : ℕ) (q : List ℕ) (v : Option V) (n : ℕ) (u : Trie V)
      (es : List (ℕ × Trie V)) (f : F) → IsCanonical (node q v n (as_children es)) → Some r ≡ strip_prefix q p
      → Some b ≡ slice_get r 0 → Some u ≡ child_at b es
      → CanLend call f (values_of (below p (pairs_of (node q v n (as_children es)))))
      → CanLend call f (values_of (below r (pairs_of u)))
  child-callable p [] b q v n u es f c s h a k = absurd (cc)
  child-callable p (x ∷ r) b q v n u es f c s h a k =
      let byte : b ≡ x = cc in
      subst (λ vs. CanLend call f vs) (ap values_of (below-child q p r x v n (as_children es) c.2 (sym s))
      ∙ values-with_prefix q (below (x ∷ r) (tree_pairs (child_of x (as_children es))))
      ∙ ap (λ o. values_of (below (x ∷ r) (tree_pairs o)))
      (child_of-entries x es ∙ sym (a ∙ ap (λ z. child_at z es) byte))) k

  pub child-changes : (p r : List ℕ) (b : ℕ) (q : List ℕ) (v : Option V) (n m : ℕ) (u x : Trie V)
      (es ds : List (ℕ × Trie V)) (f g : F) → IsCanonical (node q v n (as_children es)) → Some r ≡ strip_prefix q p
      → Some b ≡ slice_get r 0 → Some u ≡ child_at b es → ChangesBelow call r f (pairs_of u) (pairs_of x) g
      → ds ≡ replaced_at b x es
      → ChangesBelow call p f (pairs_of (node q v n (as_children es))) (pairs_of (node q v m (as_children ds))) g
  child-changes p [] b q v n m u x es ds f g c s h a k d = absurd (cc)
  child-changes p (y ∷ r) b q v n m u x es ds f g c s h a k d =
      let byte : y ≡ b = cc in
      rw d (changes-after call (begins p) (begins (y ∷ r)) q (own_pair v ++ children_pairs (as_children es))
      (own_pair v ++ children_pairs (as_children (replaced_at b x es))) f g (λ k. begins-after q p (y ∷ r) k (sym s))
      (changes-append call (begins (y ∷ r)) (own_pair v) (own_pair v) (children_pairs (as_children es))
      (children_pairs (as_children (replaced_at b x es))) f f g (own-stays v)
      (rw byte (changes-child b 0 r u x es f g c.2 a (rw byte at k)))))
    where
      own-stays : (o : Option V) → ChangesBelow call (y ∷ r) f (own_pair o) (own_pair o) f
      own-stays None = refl
      own-stays (Some z) = (refl, (f, ((refl, refl), refl)))
