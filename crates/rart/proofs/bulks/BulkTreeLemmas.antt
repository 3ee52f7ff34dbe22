-- The keys of a bulk load, and what the tree that is made of them keeps.
use Rattle.std.proofs.Common.{◌≡◌, ℕ, ◌+◌, ◌<◌, zero, suc, List, [], ◌∷◌, ◌++◌, length, get_or, refl, ap, ◌∙◌}
use Rattle.std.proofs.Common.{arith, subst}
use Rattle.rart_keys.specs.SortedMap.{keys_of, values_of}
use Rattle.rart.specs.BulkLoads.{AreKeysAt}

-- keys at their places
module _ (At : ℕ → List ℕ → Type 0) where
  from_place : (j : ℕ) (ks : List (List ℕ)) (k : List ℕ) → ((i : ℕ) → i < length ks → At (j + i) (get_or ks i []))
      → At (j + length ks) k → (i : ℕ) → i < length (ks ++ k ∷ []) → At (j + i) (get_or (ks ++ k ∷ []) i [])
  from_place j [] k h a zero l = a
  from_place j [] k h a (suc i) l = absurd (omega (arith, l))
  from_place j (q ∷ ks) k h a zero l = h 0 (omega arith)
  from_place j (q ∷ ks) k h a (suc i) l =
      let e : suc j + i ≡ j + suc i = omega arith in let f : j + suc (length ks) ≡ suc j + length ks = omega arith in
      subst (λ (z : ℕ). At z (get_or (ks ++ k ∷ []) i [])) e
      (from_place (suc j) ks k (λ m b. let s : j + suc m ≡ suc j + m = omega arith in
      subst (λ (z : ℕ). At z (get_or ks m [])) s (h (suc m) (omega (arith, b)))) (subst (λ (z : ℕ). At z k) f a) i
      (omega (arith, l)))

  pub one-key-more : (n : ℕ) (ks ls : List (List ℕ)) (k : List ℕ) → AreKeysAt At ks → length ks ≡ n → At n k
      → ls ≡ ks ++ k ∷ [] → AreKeysAt At ls
  one-key-more n ks ls k h e a is i l =
      let whole = from_place 0 ks k (λ m b. let s : m ≡ 0 + m = omega arith in
      subst (λ (z : ℕ). At z (get_or ks m [])) s (h m b)) (let s : n ≡ 0 + length ks = omega (arith, e) in
      subst (λ (z : ℕ). At z k) s a) i (omega (arith, l, ap length is)) in
      let s : 0 + i ≡ i = omega arith in
      rw is (subst (λ (z : ℕ). At z (get_or (ks ++ k ∷ []) i [])) s whole)

-- keys and values determine pairs
pub same-pairs : {V : Type 0} (xs ys : List (List ℕ × V)) → keys_of xs ≡ keys_of ys → values_of xs ≡ values_of ys
    → xs ≡ ys
same-pairs [] [] k v = refl
same-pairs [] (y ∷ ys) k v = absurd (omega (arith, ap length k))
same-pairs (x ∷ xs) [] k v = absurd (omega (arith, ap length k))
same-pairs (x ∷ xs) (y ∷ ys) k v =
    let kh : x.0 ≡ y.0 = cc in let kt : keys_of xs ≡ keys_of ys = cc in
    let vh : x.1 ≡ y.1 = cc in let vt : values_of xs ≡ values_of ys = cc in
    ap (λ z. (z, x.1) ∷ xs) kh ∙ ap (λ z. (y.0, z) ∷ xs) vh ∙ ap (λ z. y ∷ z) (same-pairs xs ys kt vt)
