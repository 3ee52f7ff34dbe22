-- Maps are determined by their look-ups.
use Rattle.std.proofs.Common.{◌≡◌, ℕ, ◌+◌, ⊎_elim, length, arith, List, [], ◌∷◌, true, false, not, refl, sym, ap, ◌∙◌}
use Rattle.std.proofs.Common.{Option, Some, None, if◌then◌else◌}
use Rattle.rart_keys.specs.ByteStrings.{bytes_eq, IsLess}
use Rattle.rart_keys.specs.SortedMap.{AreAbove, IsAscending, lookup, put, without, count_of}
use Rattle.rart_keys.proofs.strings.ByteOrder.{below-trans, below-not_eq, bytes_eq-back, bytes_eq-itself}
use Rattle.rart_keys.proofs.strings.ByteOrder.{bytes_eq-differ}
use Rattle.rart_keys.proofs.strings.ByteOrder.{bytes_eq-equal, compare, below-greater, cmp-itself}

module _ {V : Type 0} where
  pub above-trans : (k l : List ℕ) (es : List (List ℕ × V)) → IsLess k l → AreAbove l es → AreAbove k es
  above-trans k l [] b h = tt
  above-trans k l (e ∷ es) b h = (below-trans k l e.0 b h.0, above-trans k l es b h.1)

  pub lookup-above : (k : List ℕ) (es : List (List ℕ × V)) → AreAbove k es → lookup k es ≡ None
  lookup-above k [] h = refl
  lookup-above k (e ∷ es) h = rw (bytes_eq-back e.0 k, below-not_eq k e.0 h.0) (lookup-above k es h.1)

  pub lookup-first : (k : List ℕ) (v : V) (es : List (List ℕ × V)) → lookup k ((k, v) ∷ es) ≡ Some v
  lookup-first k v es = rw (bytes_eq-itself k) refl

  -- the lists after equal first pairs
  after_first : (k l : List ℕ) (v w : V) (xs ys : List (List ℕ × V)) → k ≡ l → AreAbove k xs → AreAbove l ys
      → ((q : List ℕ) → lookup q ((k, v) ∷ xs) ≡ lookup q ((l, w) ∷ ys)) → (q : List ℕ) → lookup q xs ≡ lookup q ys
  after_first k l v w xs ys e f g h q = elim (bytes_eq k q) as (λ b. bytes_eq k q ≡ b → lookup q xs ≡ lookup q ys) [
    | true ↦ λ s. let m = bytes_eq-equal k q s in lookup-above q xs (rw (← m) f)
        ∙ sym (lookup-above q ys (rw (← m, e) g))
    | false ↦ λ s. let a = h q in rw (← e, s) at a
  ] refl

  pub equal_by_lookups : (xs ys : List (List ℕ × V)) → IsAscending xs → IsAscending ys
      → ((q : List ℕ) → lookup q xs ≡ lookup q ys) → xs ≡ ys
  equal_by_lookups [] [] a b h = refl
  equal_by_lookups [] (y ∷ ys) a b h = let f = h y.0 in let g = lookup-first y.0 y.1 ys in cc
  equal_by_lookups (x ∷ xs) [] a b h = let f = h x.0 in let g = lookup-first x.0 x.1 xs in cc
  equal_by_lookups (x ∷ xs) (y ∷ ys) a b h = ⊎_elim
      (λ s. let g = lookup-first x.0 x.1 xs in let n = lookup-above x.0 (y ∷ ys) (s, above-trans x.0 y.0 ys s b.0) in
      let f = h x.0 in cc)
      (⊎_elim (λ e. let g = lookup-first x.0 x.1 xs in let n = lookup-first y.0 y.1 ys in let f = h y.0 in
      let t = equal_by_lookups xs ys a.1 b.1 (after_first x.0 y.0 x.1 y.1 xs ys e a.0 b.0 h) in
      let w : x.1 ≡ y.1 = cc in
      let k : x ≡ (y.0, y.1) = ap (λ z. (z, x.1)) e ∙ ap (λ z. (y.0, z)) w in cc)
      (λ s. let g = lookup-first y.0 y.1 ys in let n = lookup-above y.0 (x ∷ xs) (s, above-trans y.0 x.0 xs s a.0) in
      let f = h y.0 in cc)) (compare x.0 y.0)

  -- put
  above-put : (l k : List ℕ) (v : V) (es : List (List ℕ × V)) → IsLess l k → AreAbove l es → AreAbove l (put k v es)
  above-put l k v [] b h = (b, tt)
  above-put l k v (e ∷ es) b h = ⊎_elim
      (λ s. rw s (b, h))
      (⊎_elim (λ q. rw (← q, cmp-itself k) (b, h.1)) (λ s. rw (below-greater e.0 k s) (h.0, above-put l k v es b h.1)))
      (compare k e.0)

  pub ascending-put : (k : List ℕ) (v : V) (es : List (List ℕ × V)) → IsAscending es → IsAscending (put k v es)
  ascending-put k v [] h = (tt, tt)
  ascending-put k v (e ∷ es) h = ⊎_elim
      (λ s. rw s ((s, above-trans k e.0 es s h.0), h))
      (⊎_elim (λ q. rw (← q, cmp-itself k) (rw q h.0, h.1))
      (λ s. rw (below-greater e.0 k s) (above-put e.0 k v es s h.0, ascending-put k v es h.1))) (compare k e.0)

  pub lookup-put : (q k : List ℕ) (v : V) (es : List (List ℕ × V))
      → lookup q (put k v es) ≡ (if bytes_eq k q then Some v else lookup q es)
  lookup-put q k v [] = refl
  lookup-put q k v (e ∷ es) = ⊎_elim
      (λ s. rw s refl)
      (⊎_elim (λ m. rw (← m, cmp-itself k) (elim (bytes_eq k q) as (λ b. (if b then Some v else lookup q es)
      ≡ (if b then Some v else (if b then Some e.1 else lookup q es))) [ true ↦ refl | false ↦ refl ]))
      (λ s. rw (below-greater e.0 k s, lookup-put q k v es)
      (elim (bytes_eq k q) as (λ b. bytes_eq k q ≡ b
      → (if bytes_eq e.0 q then Some e.1 else (if b then Some v else lookup q es))
      ≡ (if b then Some v else (if bytes_eq e.0 q then Some e.1 else lookup q es))) [
        | true ↦ λ m. rw (← bytes_eq-equal k q m, below-not_eq e.0 k s) refl
        | false ↦ λ m. refl
      ] refl))) (compare k e.0)

  -- one pair more, unless the key was there
  pub length-put : (k : List ℕ) (v : V) (es : List (List ℕ × V)) → IsAscending es
      → length (put k v es) + count_of (lookup k es) ≡ length es + 1
  length-put k v [] h = refl
  length-put k v (e ∷ es) h = ⊎_elim
      (λ s. let none = lookup-above k (e ∷ es) (s, above-trans k e.0 es s h.0) in
      let more : put k v (e ∷ es) ≡ (k, v) ∷ e ∷ es = rw s refl in omega (arith, ap length more, ap count_of none))
      (⊎_elim (λ q. let some : lookup k (e ∷ es) ≡ Some e.1 = rw (← q, bytes_eq-itself k) refl in
      let same : put k v (e ∷ es) ≡ (k, v) ∷ es = rw (← q, cmp-itself k) refl in
      omega (arith, ap length same, ap count_of some))
      (λ s. let below : lookup k (e ∷ es) ≡ lookup k es = rw (below-not_eq e.0 k s) refl in
      let more : put k v (e ∷ es) ≡ e ∷ put k v es = rw (below-greater e.0 k s) refl in
      omega (arith, length-put k v es h.1, ap length more, ap count_of below))) (compare k e.0)

  -- without
  above-without : (l k : List ℕ) (es : List (List ℕ × V)) → AreAbove l es → AreAbove l (without k es)
  above-without l k [] h = tt
  above-without l k (e ∷ es) h = elim (bytes_eq e.0 k)
      as (λ b. AreAbove l (if not b then e ∷ without k es else without k es)) [
        | true ↦ above-without l k es h.1
        | false ↦ (h.0, above-without l k es h.1)
      ]

  pub ascending-without : (k : List ℕ) (es : List (List ℕ × V)) → IsAscending es → IsAscending (without k es)
  ascending-without k [] h = tt
  ascending-without k (e ∷ es) h = elim (bytes_eq e.0 k)
      as (λ b. IsAscending (if not b then e ∷ without k es else without k es)) [
        | true ↦ ascending-without k es h.1
        | false ↦ (above-without e.0 k es h.0, ascending-without k es h.1)
      ]

  pub lookup-without : (q k : List ℕ) (es : List (List ℕ × V))
      → lookup q (without k es) ≡ (if bytes_eq k q then None else lookup q es)
  lookup-without q k [] = elim (bytes_eq k q) as (λ b. ◌≡◌ {A = Option V} None (if b then None else None)) [
    | true ↦ refl
    | false ↦ refl
  ]
  lookup-without q k (e ∷ es) = elim (bytes_eq e.0 k) as (λ b. bytes_eq e.0 k ≡ b
      → lookup q (if not b then e ∷ without k es else without k es)
      ≡ (if bytes_eq k q then None else (if bytes_eq e.0 q then Some e.1 else lookup q es))) [
        | true ↦ λ s. lookup-without q k es ∙ rw (bytes_eq-equal e.0 k s)
            (elim (bytes_eq k q) as (λ b. (if b then None else lookup q es)
            ≡ (if b then None else (if b then Some e.1 else lookup q es))) [ true ↦ refl | false ↦ refl ])
        | false ↦ λ s. rw (lookup-without q k es)
            (elim (bytes_eq k q) as (λ b. bytes_eq k q ≡ b
            → (if bytes_eq e.0 q then Some e.1 else (if b then None else lookup q es))
            ≡ (if b then None else (if bytes_eq e.0 q then Some e.1 else lookup q es))) [
              | true ↦ λ m. rw (← bytes_eq-equal k q m, s) refl
              | false ↦ λ m. refl
            ] refl)
      ] refl

  -- the look-ups at the key of an edit, and at other keys
  pub lookup-put_at : (k : List ℕ) (v : V) (es : List (List ℕ × V)) → lookup k (put k v es) ≡ Some v
  lookup-put_at k v es = lookup-put k k v es ∙ rw (bytes_eq-itself k) refl

  pub lookup-put_elsewhere : (q k : List ℕ) (v : V) (es : List (List ℕ × V)) → (q ≡ k → ⊥)
      → lookup q (put k v es) ≡ lookup q es
  lookup-put_elsewhere q k v es n = lookup-put q k v es ∙ rw (bytes_eq-differ k q (λ e. n (sym e))) refl

  pub lookup-without_at : (k : List ℕ) (es : List (List ℕ × V)) → lookup k (without k es) ≡ None
  lookup-without_at k es = lookup-without k k es ∙ rw (bytes_eq-itself k) refl

  pub lookup-without_elsewhere : (q k : List ℕ) (es : List (List ℕ × V)) → (q ≡ k → ⊥)
      → lookup q (without k es) ≡ lookup q es
  lookup-without_elsewhere q k es n = lookup-without q k es ∙ rw (bytes_eq-differ k q (λ e. n (sym e))) refl

  -- of two values put at one key the second stays
  pub put-twice : (k : List ℕ) (v w : V) (es : List (List ℕ × V)) → IsAscending es → put k w (put k v es) ≡ put k w es
  put-twice k v w es h = equal_by_lookups (put k w (put k v es)) (put k w es)
      (ascending-put k w (put k v es) (ascending-put k v es h)) (ascending-put k w es h)
      (λ q. rw (lookup-put q k w (put k v es), lookup-put q k v es, lookup-put q k w es) (elim (bytes_eq k q)
      as (λ b. (if b then Some w else (if b then Some v else lookup q es)) ≡ (if b then Some w else lookup q es)) [
        | true ↦ refl
        | false ↦ refl
      ]))

  -- a new key that is taken out again leaves the list unchanged
  pub without-put : (k : List ℕ) (v : V) (es : List (List ℕ × V)) → IsAscending es → lookup k es ≡ None
      → without k (put k v es) ≡ es
  without-put k v es h none = equal_by_lookups (without k (put k v es)) es
      (ascending-without k (put k v es) (ascending-put k v es h)) h
      (λ q. lookup-without q k (put k v es) ∙ elim (bytes_eq k q) as (λ b. bytes_eq k q ≡ b
      → (if b then None else lookup q (put k v es)) ≡ lookup q es) [
        | true ↦ λ m. sym (rw (bytes_eq-equal k q m) at none)
        | false ↦ λ m. lookup-put q k v es ∙ rw m refl
      ] refl)
