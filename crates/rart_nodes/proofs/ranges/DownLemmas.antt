-- A walk from an end that stops at the first key past its start gives what is between, the last first.
use Rattle.std.proofs.Common.{◌≡◌, ℕ, ⊎_elim, ◌&&◌, true, false, List, [], ◌∷◌, ◌++◌, refl, sym, ap, ◌∙◌}
use Rattle.std.proofs.Common.{Option, Some, None, reverse, arith, if◌then◌else◌}
use Rattle.std.specs.declared.ops.Bound.{Bound}
use Rattle.std.specs.declared.ops.Bound.TheVariants.{Included, Excluded, Unbounded}
use Rattle.std.proofs.lemmas.List.{reverse-append}
use Rattle.rart_keys.specs.ByteStrings.{IsLess}
use Rattle.rart_keys.specs.Ranges.{between, is_from, is_to}
use Rattle.rart_keys.specs.SortedMap.{AreAbove, IsAscending, count_of, keys_of}
use Rattle.rart_keys.proofs.strings.ByteOrder.{compare, below-trans, below-greater}
use Rattle.rart_nodes.specs.ranges.UpperBounds.{down_to, to_bound}
use Rattle.rart_trie.specs.tries.Tree.{tree_pairs, IsCanonicalTree}
use Rattle.rart_trie.specs.tries.Trie.{Trie, node}
use Rattle.rart_trie.specs.walks.ProbeCount.{probe_count, tree_entered}
use Rattle.rart_trie.proofs.tries.PairLemmas.{tree_pairs-ascend}
use Rattle.rart_trie.proofs.tries.StepLemmas.{tree_entered-probe_count}

-- what comes after a string within a start is within it
later : (a : Bound (List ℕ)) (k l : List ℕ) → IsLess k l → is_from a k ≡ true → is_from a l ≡ true
later Unbounded k l h f = refl
later (Included a) k l h f = ⊎_elim (λ s. let g = rw s at f in absurd (cc))
    (⊎_elim (λ e. rw (below-greater a l (rw e at h)) refl) (λ s. rw (below-greater a l (below-trans a k l s h)) refl))
    (compare k a)
later (Excluded a) k l h f = ⊎_elim (λ s. let g = rw s at f in absurd (cc))
    (⊎_elim (λ e. rw (below-greater a l (rw e at h)) refl) (λ s. rw (below-greater a l (below-trans a k l s h)) refl))
    (compare k a)

module _ {V : Type 0} where
  -- each is within a start
  abbrev AllWithin : Bound (List ℕ) → List (List ℕ × V) → Type 0
  AllWithin a [] = Unit {0}
  AllWithin a (e ∷ es) = (is_from a e.0 ≡ true) × AllWithin a es

  within-append : (a : Bound (List ℕ)) (xs ys : List (List ℕ × V)) → AllWithin a xs → AllWithin a ys
      → AllWithin a (xs ++ ys)
  within-append a [] ys w x = x
  within-append a (e ∷ xs) ys w x = (w.0, within-append a xs ys w.1 x)

  within-reverse : (a : Bound (List ℕ)) (xs : List (List ℕ × V)) → AllWithin a xs → AllWithin a (reverse xs)
  within-reverse a [] w = tt
  within-reverse a (e ∷ xs) w = rw (reverse-append (e ∷ []) xs)
      (within-append a (reverse xs) (e ∷ []) (within-reverse a xs w.1) (w.0, tt))

  down-all : (a : Bound (List ℕ)) (xs : List (List ℕ × V)) → AllWithin a xs → down_to a xs ≡ xs
  down-all a [] w = refl
  down-all a (e ∷ xs) w = rw w.0 (ap (λ z. e ∷ z) (down-all a xs w.1))

  down-past : (a : Bound (List ℕ)) (e : List ℕ × V) (xs : List (List ℕ × V)) → is_from a e.0 ≡ false
      → down_to a (xs ++ e ∷ []) ≡ down_to a xs
  down-past a e [] f = rw f refl
  down-past a e (x ∷ xs) f = elim (is_from a x.0)
      as (λ z. (if z then x ∷ down_to a (xs ++ e ∷ []) else []) ≡ (if z then x ∷ down_to a xs else []))
      [ true ↦ ap (λ z. x ∷ z) (down-past a e xs f) | false ↦ refl ]

  within-above : (a b : Bound (List ℕ)) (k : List ℕ) (es : List (List ℕ × V)) → is_from a k ≡ true → AreAbove k es
      → AllWithin a (to_bound b es) × (between a b es ≡ to_bound b es)
  within-above a b k [] f h = (tt, refl)
  within-above a b k (e ∷ es) f h =
      let r = within-above a b k es f h.1 in
      let l : is_from a e.0 ≡ true = later a k e.0 h.0 f in
      elim (is_to b e.0) as (λ z. AllWithin a (if z then e ∷ to_bound b es else to_bound b es)
      × ((if is_from a e.0 && z then e ∷ between a b es else between a b es)
      ≡ (if z then e ∷ to_bound b es else to_bound b es))) [
        | true ↦ ((l, r.0), rw l (ap (λ z. e ∷ z) r.1))
        | false ↦ (r.0, rw l r.1)
      ]

  down_to-bound : (a b : Bound (List ℕ)) (es : List (List ℕ × V)) → IsAscending es
      → down_to a (reverse (to_bound b es)) ≡ reverse (between a b es)
  down_to-bound a b [] w = refl
  down_to-bound a b (e ∷ es) w = elim (is_from a e.0) as (λ y. is_from a e.0 ≡ y
      → down_to a (reverse (if is_to b e.0 then e ∷ to_bound b es else to_bound b es))
      ≡ reverse (if y && is_to b e.0 then e ∷ between a b es else between a b es)) [
        | true ↦ λ f. let r = within-above a b e.0 es f w.0 in
            elim (is_to b e.0) as (λ z. down_to a (reverse (if z then e ∷ to_bound b es else to_bound b es))
            ≡ reverse (if z then e ∷ between a b es else between a b es)) [
              | true ↦ down-all a (reverse (e ∷ to_bound b es)) (within-reverse a (e ∷ to_bound b es) (f, r.0))
                  ∙ ap (λ z. reverse (e ∷ z)) (sym r.1)
              | false ↦ down_to-bound a b es w.1
            ]
        | false ↦ λ f. elim (is_to b e.0)
            as (λ z. down_to a (reverse (if z then e ∷ to_bound b es else to_bound b es)) ≡ reverse (between a b es)) [
              | true ↦ ap (down_to a) (reverse-append (e ∷ []) (to_bound b es))
                  ∙ down-past a e (reverse (to_bound b es)) f ∙ down_to-bound a b es w.1
              | false ↦ down_to-bound a b es w.1
            ]
      ] refl

  pub to_bound-all : (es : List (List ℕ × V)) → to_bound Unbounded es ≡ es
  to_bound-all [] = refl
  to_bound-all (e ∷ es) = ap (λ z. e ∷ z) (to_bound-all es)

  pub down_to-tree : (a b : Bound (List ℕ)) (o : Option (Trie V)) → IsCanonicalTree o
      → down_to a (reverse (to_bound b (tree_pairs o))) ≡ reverse (between a b (tree_pairs o))
  down_to-tree a b o w = down_to-bound a b (tree_pairs o) (tree_pairs-ascend o w)

  root-entered : (o : Option (Trie V)) → tree_entered [] o ≡ count_of o
  root-entered None = refl
  root-entered (Some (node [] v n cs)) = refl
  root-entered (Some (node (x ∷ p) v n cs)) = refl

  -- a look-up of the empty key enters the root
  pub root-probe : (o : Option (Trie V)) → IsCanonicalTree o → count_of o ≡ probe_count (keys_of (tree_pairs o)) []
  root-probe o w = omega (arith, root-entered o, tree_entered-probe_count [] o w)
