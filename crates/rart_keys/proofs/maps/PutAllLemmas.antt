-- Pairs that ascend strictly: what inserting them in any order leaves, and how they are recognized.
use Rattle.std.proofs.Common.{◌≡◌, ℕ, ◌<◌, ◌⊎◌, inl, inr, ⊎_elim, zero, suc, true, false, List, [], ◌∷◌, ◌++◌, length}
use Rattle.std.proofs.Common.{get_or, refl, ap, ◌∙◌, arith, Some, None, if◌then◌else◌}
use Rattle.std.specs.List.{Contains}
use Rattle.std.specs.List.Sorted.{IsPermutation}
use Rattle.std.proofs.lemmas.List.Sorted.{IsPermutation-sym, Contains-permutation}
use Rattle.rart_keys.specs.ByteStrings.{bytes_eq, IsLess}
use Rattle.rart_keys.specs.SortedMap.{AreAbove, IsAscending, keys_of, lookup, put}
use Rattle.rart_keys.specs.BulkLists.{put_all}
use Rattle.rart_keys.proofs.strings.ByteOrder.{below-not_eq, bytes_eq-differ, bytes_eq-equal, bytes_eq-itself}
use Rattle.rart_keys.proofs.maps.SortedMaps.{above-trans, ascending-put, equal_by_lookups, lookup-put}

contains-split : {A : Type 0} (y : A) (ys : List A) (x : A) → Contains (y ∷ ys) x → (y ≡ x) ⊎ Contains ys x
contains-split y ys x (zero, l, e) = inl e
contains-split y ys x (suc k, l, e) = inr (k, omega (arith, l), e)

contains-after : {A : Type 0} (y : A) (ys : List A) (x : A) → Contains ys x → Contains (y ∷ ys) x
contains-after y ys x c = (suc c.0, omega (arith, c.1), c.2)

contains-first : {A : Type 0} (y : A) (ys : List A) (x : A) → y ≡ x → Contains (y ∷ ys) x
contains-first y ys x e = (0, omega arith, e)

module _ {V : Type 0} where
  all-ascend : (es m : List (List ℕ × V)) → IsAscending m → IsAscending (put_all es m)
  all-ascend [] m h = h
  all-ascend (e ∷ es) m h = all-ascend es (put e.0 e.1 m) (ascending-put e.0 e.1 m h)

  found-contained : (q : List ℕ) (v : V) (es : List (List ℕ × V)) → lookup q es ≡ Some v → Contains es (q, v)
  found-contained q v [] h = absurd (cc)
  found-contained q v (e ∷ es) h = elim (bytes_eq e.0 q) as (λ b. bytes_eq e.0 q ≡ b
      → (if b then Some e.1 else lookup q es) ≡ Some v → Contains (e ∷ es) (q, v)) [
        | true ↦ λ m s. let k : e.0 ≡ q = bytes_eq-equal e.0 q m in let w : e.1 ≡ v = cc in
            contains-first e es (q, v) (ap (λ z. (z, e.1)) k ∙ ap (λ z. (q, z)) w)
        | false ↦ λ m s. contains-after e es (q, v) (found-contained q v es s)
      ] refl h

  above-contained : (k q : List ℕ) (v : V) (es : List (List ℕ × V)) → AreAbove k es → Contains es (q, v) → IsLess k q
  above-contained k q v [] a c = absurd (omega (arith, c.1))
  above-contained k q v (e ∷ es) a c = ⊎_elim (λ s. let t : e.0 ≡ q = ap (λ z. z.0) s in rw (← t) a.0)
      (λ s. above-contained k q v es a.1 s) (contains-split e es (q, v) c)

  contained-found : (q : List ℕ) (v : V) (es : List (List ℕ × V)) → IsAscending es → Contains es (q, v)
      → lookup q es ≡ Some v
  contained-found q v [] a c = absurd (omega (arith, c.1))
  contained-found q v (e ∷ es) a c = ⊎_elim
      (λ s. let k : e.0 ≡ q = ap (λ z. z.0) s in let w : e.1 ≡ v = ap (λ z. z.1) s in let m : bytes_eq e.0 q ≡ true
      = ap (λ z. bytes_eq z q) k ∙ bytes_eq-itself q in rw m (ap Some w))
      (λ s. rw (below-not_eq e.0 q (above-contained e.0 q v es a.0 s)) (contained-found q v es a.1 s))
      (contains-split e es (q, v) c)

  absent-stays : (q : List ℕ) (es m : List (List ℕ × V)) → ((w : V) → Contains es (q, w) → ⊥)
      → lookup q (put_all es m) ≡ lookup q m
  absent-stays q [] m n = refl
  absent-stays q (e ∷ es) m n =
      let other : e.0 ≡ q → ⊥ = λ s. n e.1 (contains-first e es (q, e.1) (ap (λ z. (z, e.1)) s)) in
      absent-stays q es (put e.0 e.1 m) (λ w c. n w (contains-after e es (q, w) c)) ∙ lookup-put q e.0 e.1 m
      ∙ ap (λ b. if b then Some e.1 else lookup q m) (bytes_eq-differ e.0 q other)

  one-contained : (q : List ℕ) (v : V) (es m : List (List ℕ × V)) → ((w : V) → Contains es (q, w) → w ≡ v)
      → Contains es (q, v) ⊎ (lookup q m ≡ Some v) → lookup q (put_all es m) ≡ Some v
  one-contained q v [] m u h = ⊎_elim (λ c. absurd (omega (arith, c.1))) (λ s. s) h
  one-contained q v (e ∷ es) m u h = one-contained q v es (put e.0 e.1 m) (λ w c. u w (contains-after e es (q, w) c))
      (elim (bytes_eq e.0 q) as (λ b. bytes_eq e.0 q ≡ b → Contains es (q, v) ⊎ (lookup q (put e.0 e.1 m) ≡ Some v)) [
        | true ↦ λ s. let k : e.0 ≡ q = bytes_eq-equal e.0 q s in
            inr (lookup-put q e.0 e.1 m ∙ ap (λ b. if b then Some e.1 else lookup q m) s
            ∙ ap Some (u e.1 (contains-first e es (q, e.1) (ap (λ z. (z, e.1)) k))))
        | false ↦ λ s. ⊎_elim
            (λ c. ⊎_elim (λ t. absurd (let k : e.0 ≡ q = ap (λ z. z.0) t in let y : bytes_eq e.0 q ≡ true
            = ap (λ z. bytes_eq z q) k ∙ bytes_eq-itself q in cc)) (λ c'. inl c') (contains-split e es (q, v) c))
            (λ t. inr (lookup-put q e.0 e.1 m ∙ ap (λ b. if b then Some e.1 else lookup q m) s ∙ t)) h
      ] refl)

  pub any-order : (xs ys : List (List ℕ × V)) → IsAscending xs → IsPermutation xs ys → put_all ys [] ≡ xs
  any-order xs ys up p = equal_by_lookups (put_all ys []) xs (all-ascend ys [] tt) up (λ q. at q)
    where
      back : (q : List ℕ) (w : V) → Contains ys (q, w) → lookup q xs ≡ Some w
      back q w c = contained-found q w xs up (Contains-permutation ys xs (q, w) (IsPermutation-sym xs ys p) c)

      at : (q : List ℕ) → lookup q (put_all ys []) ≡ lookup q xs
      at q = elim (lookup q xs) as (λ o. lookup q xs ≡ o → lookup q (put_all ys []) ≡ o) [
        | None ↦ λ n. absent-stays q ys [] (λ w c. let s = back q w c in cc)
        | Some v ↦ λ s. one-contained q v ys [] (λ w c. let t = back q w c in
            cc) (inl (Contains-permutation xs ys (q, v) p (found-contained q v xs s)))
      ] refl

module _ {V : Type 0} where
  -- what a caller knows of neighbours, and what then holds of any two
  pub ascends-on : (e f : List ℕ × V) (es : List (List ℕ × V)) → IsLess e.0 f.0 → IsAscending (f ∷ es)
      → IsAscending (e ∷ f ∷ es)
  ascends-on e f es b up = ((b, above-trans e.0 f.0 es b up.0), up)

  above-at : (k : List ℕ) (es : List (List ℕ × V)) (j : ℕ) → AreAbove k es → j < length es
      → IsLess k (get_or (keys_of es) j [])
  above-at k [] j a l = absurd (omega (arith, l))
  above-at k (e ∷ es) zero a l = a.0
  above-at k (e ∷ es) (suc j) a l = above-at k es j a.1 (omega (arith, l))

  pub below-later : (es : List (List ℕ × V)) (i j : ℕ) → IsAscending es → i < j → j < length es
      → IsLess (get_or (keys_of es) i []) (get_or (keys_of es) j [])
  below-later [] i j up a l = absurd (omega (arith, l))
  below-later (e ∷ es) i zero up a l = absurd (omega (arith, a))
  below-later (e ∷ es) zero (suc j) up a l = above-at e.0 es j up.0 (omega (arith, l))
  below-later (e ∷ es) (suc i) (suc j) up a l = below-later es i j up.1 (omega (arith, a)) (omega (arith, l))

  begun-above : (k : List ℕ) (es more : List (List ℕ × V)) → AreAbove k (es ++ more) → AreAbove k es
  begun-above k [] more a = tt
  begun-above k (e ∷ es) more a = (a.0, begun-above k es more a.1)

  pub begun-ascends : (es more : List (List ℕ × V)) → IsAscending (es ++ more) → IsAscending es
  begun-ascends [] more up = tt
  begun-ascends (e ∷ es) more up = (begun-above e.0 es more up.0, begun-ascends es more up.1)
