-- What `trie_put` does to look-ups, and that it keeps a tree canonical.
use Rattle.std.proofs.Common.{◌≡◌, ℕ, ◌<◌, ◌≤◌, ◌==◌, inl, inr, ⊎_elim, suc, true, false, List, [], ◌∷◌, refl, sym, ap}
use Rattle.std.proofs.Common.{◌∙◌, arith, Option, Some, None, Less, Equal, Greater, nat_cmp, if◌then◌else◌}
use Rattle.std.specs.Ordering.{match_ordering}
use Rattle.rart_keys.specs.ByteStrings.{bytes_eq}
use Rattle.rart_keys.specs.SortedMap.{put}
use Rattle.rart_trie.specs.tries.Trie.{Trie, node, Children, no_children, child, trie_lookup, child_lookup, pairs_of}
use Rattle.rart_trie.specs.tries.Trie.{prefix_of, StartsWith, HasTwoChildren, IsCanonical, AreCanonical, trie_put}
use Rattle.rart_trie.specs.tries.Trie.{put_child, two_children, leaf}
use Rattle.rart_keys.proofs.strings.ByteOrder.{order, is_less, is_equal, is_greater, eq-no, equal_or_not}
use Rattle.rart_keys.proofs.maps.SortedMaps.{equal_by_lookups, ascending-put, lookup-put}
use Rattle.rart_trie.proofs.tries.PairLemmas.{trie_lookup-other, or_else, or_none, pairs_of-ascend, lookup-pairs_of}
use Rattle.rart_trie.proofs.tries.LongerPrefix.{put-longer, trie_lookup-longer, look_nil-longer, canonical-longer}
use Rattle.rart_trie.proofs.tries.LongerPrefix.{first-longer}

module _ {V : Type 0} where
  trie_lookup-leaf : (q k : List ℕ) (v : V) → trie_lookup q (leaf k v) ≡ (if bytes_eq k q then Some v else None)
  trie_lookup-leaf [] [] v = refl
  trie_lookup-leaf (c ∷ q) [] v = refl
  trie_lookup-leaf [] (b ∷ k) v = refl
  trie_lookup-leaf (c ∷ q) (b ∷ k) v = trie_lookup-longer b c q (leaf k v)
      ∙ (elim (b == c) as (λ z. (if z then trie_lookup q (leaf k v) else None)
      ≡ (if (if z then bytes_eq k q else false) then Some v else None)) [
        | true ↦ trie_lookup-leaf q k v
        | false ↦ refl
      ])

  pub trie_lookup-one : (c b : ℕ) (q : List ℕ) (t : Trie V) → StartsWith b (prefix_of t)
      → child_lookup c (c ∷ q) (child b t no_children) ≡ trie_lookup (c ∷ q) t
  trie_lookup-one c b q t f = ⊎_elim (λ h. rw (is_less c b h, trie_lookup-other c b q t f (λ e. omega arith)) refl)
      (⊎_elim (λ h. rw (is_equal c b h) refl) (λ h.
      rw (is_greater c b h, trie_lookup-other c b q t f (λ e. omega arith)) refl)) (order c b)

  trie_lookup-pair : (c b d : ℕ) (q : List ℕ) (t u : Trie V) → b < d → StartsWith b (prefix_of t)
      → StartsWith d (prefix_of u) →
      child_lookup c (c ∷ q) (child b t (child d u no_children))
      ≡ or_else (trie_lookup (c ∷ q) t) (trie_lookup (c ∷ q) u)
  trie_lookup-pair c b d q t u l f g = ⊎_elim
      (λ h. rw (
        is_less c b h,
        trie_lookup-other c b q t f (λ e. omega arith),
        trie_lookup-other c d q u g
            (λ e. omega arith),
      ) refl)
      (⊎_elim (λ h. rw (is_equal c b h, trie_lookup-other c d q u g (λ e. omega arith))
      (sym (or_none (trie_lookup (c ∷ q) t))))
      (λ h. rw (is_greater c b h, trie_lookup-other c b q t f (λ e. omega arith)) (trie_lookup-one c d q u g)))
      (order c b)

  -- two children: one of them doesn't have the key
  trie_lookup-split_left : (c b d : ℕ) (q : List ℕ) (t u : Trie V) → (b ≡ d → ⊥) → StartsWith b (prefix_of t)
      → StartsWith d (prefix_of u) → (d ≡ c → ⊥) → child_lookup c (c ∷ q) (two_children b t d u) ≡ trie_lookup (c ∷ q) t
  trie_lookup-split_left c b d q t u n f g z = ⊎_elim
      (λ h. rw (is_less b d h, trie_lookup-pair c b d q t u h f g, trie_lookup-other c d q u g z)
      (or_none (trie_lookup (c ∷ q) t)))
      (⊎_elim (λ h. absurd (n h)) (λ h. rw (
        is_greater b d h,
        trie_lookup-pair c d b q u t h g f,
        trie_lookup-other c d
            q u g z,
      ) refl)) (order b d)

  trie_lookup-split_right : (c b d : ℕ) (q : List ℕ) (t u : Trie V) → (b ≡ d → ⊥) → StartsWith b (prefix_of t)
      → StartsWith d (prefix_of u) → (b ≡ c → ⊥) → child_lookup c (c ∷ q) (two_children b t d u) ≡ trie_lookup (c ∷ q) u
  trie_lookup-split_right c b d q t u n f g z = ⊎_elim
      (λ h. rw (is_less b d h, trie_lookup-pair c b d q t u h f g, trie_lookup-other c b q t f z) refl)
      (⊎_elim (λ h. absurd (n h)) (λ h. rw (
        is_greater b d h,
        trie_lookup-pair c d b q u t h g f,
        trie_lookup-other c b
            q t f z,
      ) (or_none (trie_lookup (c ∷ q) u)))) (order b d)

  -- a node, by what `put_child` does to look-ups below it
  trie_lookup-put_node : (k q : List ℕ) (v : V) (p : List ℕ) (old : Option V) (n : ℕ) (cs : Children V) →
      ((b c : ℕ) (r s : List ℕ) → child_lookup c (c ∷ s) (put_child b (b ∷ r) v cs)
      ≡ (if bytes_eq (b ∷ r) (c ∷ s) then Some v else child_lookup c (c ∷ s) cs)) →
      trie_lookup q (trie_put k v (node p old n cs))
      ≡ (if bytes_eq k q then Some v else trie_lookup q (node p old n cs))
  trie_lookup-put_node [] [] v [] old n cs ih = refl
  trie_lookup-put_node [] (c ∷ q) v [] old n cs ih = refl
  trie_lookup-put_node (b ∷ k) [] v [] old n cs ih = refl
  trie_lookup-put_node (b ∷ k) (c ∷ q) v [] old n cs ih = ih b c k q
  trie_lookup-put_node [] [] v (x ∷ p) old n cs ih = refl
  trie_lookup-put_node [] (c ∷ q) v (x ∷ p) old n cs ih = trie_lookup-one c x q (node (x ∷ p) old n cs) refl
  trie_lookup-put_node (y ∷ k) [] v (x ∷ p) old n cs ih = ⊎_elim
      (λ e. ap (trie_lookup []) (put-longer x y k v (node p old n cs) e)
      ∙ look_nil-longer x (trie_put k v (node p old n cs))) (λ d. rw (eq-no x y d) refl) (equal_or_not x y)
  trie_lookup-put_node (y ∷ k) (c ∷ q) v (x ∷ p) old n cs ih = ⊎_elim
      (λ e. ap (trie_lookup (c ∷ q)) (put-longer x y k v (node p old n cs) e)
      ∙ trie_lookup-longer x c q (trie_put k v (node p old n cs)) ∙
      rw (trie_lookup-put_node k q v p old n cs ih, trie_lookup-longer x c q (node p old n cs), ← e)
      (elim (x == c) as (λ z. (if z then (if bytes_eq k q then Some v else trie_lookup q (node p old n cs)) else None)
      ≡ (if (if z then bytes_eq k q else false) then Some v
      else (if z then trie_lookup q (node p old n cs) else None))) [ true ↦ refl | false ↦ refl ]))
      (λ d. rw (eq-no x y d) (⊎_elim
      (λ e. trie_lookup-split_right c x y q (node (x ∷ p) old n cs) (leaf (y ∷ k) v) d refl refl (λ z. d (z ∙ sym e))
      ∙ trie_lookup-leaf (c ∷ q) (y ∷ k) v ∙ rw (trie_lookup-other c x q (node (x ∷ p) old n cs) refl
      (λ z. d (z ∙ sym e))) refl)
      (λ z. trie_lookup-split_left c x y q (node (x ∷ p) old n cs) (leaf (y ∷ k) v) d refl refl z
      ∙ rw (eq-no y c z) refl)
      (equal_or_not y c)))
      (equal_or_not x y)

  mutual
    trie_lookup-put : (k q : List ℕ) (v : V) (t : Trie V)
        → trie_lookup q (trie_put k v t) ≡ (if bytes_eq k q then Some v else trie_lookup q t)
    trie_lookup-put k q v (node p old n cs) = trie_lookup-put_node k q v p old n cs
        (λ b c r s. trie_lookup-put_child b c r s v cs)

    trie_lookup-put_child : (b c : ℕ) (r s : List ℕ) (v : V) (cs : Children V)
        → child_lookup c (c ∷ s) (put_child b (b ∷ r) v cs)
        ≡ (if bytes_eq (b ∷ r) (c ∷ s) then Some v else child_lookup c (c ∷ s) cs)
    trie_lookup-put_child b c r s v no_children = trie_lookup-one c b s (leaf (b ∷ r) v) refl
        ∙ trie_lookup-leaf (c ∷ s) (b ∷ r) v
    trie_lookup-put_child b c r s v (child d t cs) = ⊎_elim
        (λ h. rw (is_less b d h) (⊎_elim
        (λ g. rw (is_less c b g, eq-no b c (λ e. omega arith), is_less c d (omega arith)) refl)
        (⊎_elim (λ g. rw (is_equal c b g, is_less c d (omega arith)) (trie_lookup-leaf (c ∷ s) (b ∷ r) v))
        (λ g. rw (is_greater c b g, eq-no b c (λ e. omega arith)) refl)) (order c b)))
        (⊎_elim
        (λ h. rw (is_equal b d h) (⊎_elim
        (λ g. rw (is_less c d g, eq-no b c (λ e. omega arith)) refl)
        (⊎_elim (λ g. rw (is_equal c d g) (trie_lookup-put (b ∷ r) (c ∷ s) v t))
        (λ g. rw (is_greater c d g, eq-no b c (λ e. omega arith)) refl)) (order c d)))
        (λ h. rw (is_greater b d h) (⊎_elim
        (λ g. rw (is_less c d g, eq-no b c (λ e. omega arith)) refl)
        (⊎_elim (λ g. rw (is_equal c d g, eq-no b c (λ e. omega arith)) refl)
        (λ g. rw (is_greater c d g) (trie_lookup-put_child b c r s v cs))) (order c d)))) (order b d)

  -- it keeps a tree canonical
  two-put : (b : ℕ) (k : List ℕ) (v : V) (cs : Children V) → HasTwoChildren cs → HasTwoChildren (put_child b k v cs)
  two-put b k v no_children h = absurd h
  two-put b k v (child c t no_children) h = absurd h
  two-put b k v (child c t (child d u cs)) h
      = elim (nat_cmp b c) as (λ o. HasTwoChildren
      (match_ordering o (child b (leaf k v) (child c t (child d u cs))) (child c (trie_put k v t) (child d u cs))
      (child c t (put_child b k v (child d u cs))))) [
        | Less ↦ tt
        | Equal ↦ tt
        | Greater ↦ elim (nat_cmp b d) as (λ o. HasTwoChildren
            (child c t (match_ordering o (child b (leaf k v) (child d u cs)) (child d (trie_put k v u) cs)
            (child d u (put_child b k v cs))))) [ Less ↦ tt | Equal ↦ tt | Greater ↦ tt ]
      ]

  HasTwoChildren-two_children : (b c : ℕ) (t u : Trie V) → HasTwoChildren (two_children b t c u)
  HasTwoChildren-two_children b c t u = elim (nat_cmp b c)
      as (λ o. HasTwoChildren (match_ordering o (child b t (child c u no_children)) (child b t (child c u no_children))
      (child c u (child b t no_children)))) [ Less ↦ tt | Equal ↦ tt | Greater ↦ tt ]

  canonical-aligned : (b c : ℕ) (t u : Trie V) → (b ≡ c → ⊥) → StartsWith b (prefix_of t) → StartsWith c (prefix_of u)
      → IsCanonical t → IsCanonical u → AreCanonical 0 (two_children b t c u)
  canonical-aligned b c t u n f g w z = ⊎_elim
      (λ h. rw (is_less b c h) (omega arith, f, w, (omega arith, g, z, tt)))
      (⊎_elim (λ h. absurd (n h)) (λ h. rw (is_greater b c h) (omega arith, g, z, (omega arith, f, w, tt)))) (order b c)

  first-put : (b : ℕ) (k : List ℕ) (v : V) (t : Trie V) → StartsWith b (prefix_of t)
      → StartsWith b (prefix_of (trie_put (b ∷ k) v t))
  first-put b k v (node [] old n cs) f = absurd f
  first-put b k v (node (x ∷ p) old n cs) f
      = rw (put-longer x b k v (node p old n cs) f, f) (first-longer b (trie_put k v (node p old n cs)))

  canonical-put_node : (k : List ℕ) (v : V) (p : List ℕ) (old : Option V) (n : ℕ) (cs : Children V) →
      ((b : ℕ) (r : List ℕ) → AreCanonical 0 (put_child b (b ∷ r) v cs)) → IsCanonical (node p old n cs)
      → IsCanonical (trie_put k v (node p old n cs))
  canonical-put_node [] v [] old n cs ih w = (inl refl, w.1, w.2)
  canonical-put_node (b ∷ k) v [] old n cs ih w
      = (⊎_elim (λ h. inl h) (λ h. inr (two-put b (b ∷ k) v cs h)) w.0, refl, ih b k)
  canonical-put_node [] v (x ∷ p) old n cs ih w = (inl refl, refl, (omega arith, refl, w, tt))
  canonical-put_node (y ∷ k) v (x ∷ p) old n cs ih w = ⊎_elim
      (λ e. rw (put-longer x y k v (node p old n cs) e)
      (canonical-longer x (trie_put k v (node p old n cs)) (canonical-put_node k v p old n cs ih w)))
      (λ d. rw (eq-no x y d) (
        inr (HasTwoChildren-two_children x y (node (x ∷ p) old n cs) (leaf (y ∷ k) v)),
        refl,
        canonical-aligned x
            y (node (x ∷ p) old n cs) (leaf (y ∷ k) v) d refl refl w (inl refl, refl, tt),
      ))
      (equal_or_not x y)

  mutual
    pub canonical-put : (k : List ℕ) (v : V) (t : Trie V) → IsCanonical t → IsCanonical (trie_put k v t)
    canonical-put k v (node p old n cs) w = canonical-put_node k v p old n cs
        (λ b r. canonical-put_child 0 b r v cs (omega arith) w.2) w

    canonical-put_child : (low b : ℕ) (r : List ℕ) (v : V) (cs : Children V) → low ≤ b → AreCanonical low cs
        → AreCanonical low (put_child b (b ∷ r) v cs)
    canonical-put_child low b r v no_children l w = (l, refl, (inl refl, refl, tt), tt)
    canonical-put_child low b r v (child c t cs) l w = ⊎_elim
        (λ h. rw (is_less b c h) (l, refl, (inl refl, refl, tt), (omega arith, w.1, w.2, w.3)))
        (⊎_elim
        (λ h. rw (is_equal b c h) (w.0, rw h (first-put c r v t w.1), canonical-put (b ∷ r) v t w.2, w.3))
        (λ h. rw (is_greater b c h) (w.0, w.1, w.2, canonical-put_child (suc c) b r v cs (omega arith) w.3)))
        (order b c)

  pub pairs_of-put : (k : List ℕ) (v : V) (t : Trie V) → IsCanonical t
      → pairs_of (trie_put k v t) ≡ put k v (pairs_of t)
  pairs_of-put k v t w = let z = canonical-put k v t w in
      equal_by_lookups (pairs_of (trie_put k v t)) (put k v (pairs_of t)) (pairs_of-ascend (trie_put k v t) z)
      (ascending-put k v (pairs_of t) (pairs_of-ascend t w))
      (λ q. lookup-pairs_of q (trie_put k v t) z ∙ trie_lookup-put k q v t
      ∙ ap (λ o. if bytes_eq k q then Some v else o) (sym (lookup-pairs_of q t w))
      ∙ sym (lookup-put q k v (pairs_of t)))
