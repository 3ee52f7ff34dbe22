-- The order of byte strings.
use Rattle.std.proofs.Common.{◌≡◌, ℕ, ◌<◌, ◌==◌, ◌⊎◌, inl, inr, ⊎_elim, zero, suc, List, [], ◌∷◌, ◌++◌, true, false}
use Rattle.std.proofs.Common.{refl, sym, ap, arith, Less, Equal, Greater}
use Rattle.std.specs.Ordering.{nat_cmp, ordering_then}
use Rattle.std.specs.Cmp.{nat_cmp_is}
use Rattle.std.specs.Cmp.Lexicographic.{slice_cmp}
use Rattle.std.proofs.lemmas.Cmp.{nat_list_cmp_total, tied_itself}
use Rattle.std.proofs.lemmas.Bool.Decides.{nat_tests}
use Rattle.rart_keys.specs.ByteStrings.{bytes_eq, IsLess}

pub is_less : (b c : ℕ) → b < c → nat_cmp b c ≡ Less
is_less b c h = sym (nat_cmp_is b c Less h)

pub is_greater : (b c : ℕ) → c < b → nat_cmp b c ≡ Greater
is_greater b c h = sym (nat_cmp_is b c Greater h)

pub is_equal : (b c : ℕ) → b ≡ c → nat_cmp b c ≡ Equal
is_equal b c h = sym (nat_cmp_is b c Equal h)

pub eq-yes : (b c : ℕ) → b ≡ c → b == c ≡ true
eq-yes b c h = grind (arith, nat_tests)

pub eq-no : (b c : ℕ) → (b ≡ c → ⊥) → b == c ≡ false
eq-no b c h = grind (arith, nat_tests)

pub order : (b c : ℕ) → (b < c) ⊎ ((b ≡ c) ⊎ (c < b))
order zero zero = inr (inl refl)
order zero (suc c) = inl (omega arith)
order (suc b) zero = inr (inr (omega arith))
order (suc b) (suc c) = ⊎_elim (λ h. inl (omega arith))
    (⊎_elim (λ h. inr (inl (ap suc h))) (λ h. inr (inr (omega arith)))) (order b c)

pub equal_or_not : (b c : ℕ) → (b ≡ c) ⊎ (b ≡ c → ⊥)
equal_or_not b c = ⊎_elim (λ h. inr (λ e. omega arith)) (⊎_elim (λ h. inl h) (λ h. inr (λ e. omega arith))) (order b c)

pub below-trans : (k l m : List ℕ) → IsLess k l → IsLess l m → IsLess k m
below-trans k l m g h = nat_list_cmp_total.trans k l m g h

pub below-not_eq : (k l : List ℕ) → IsLess k l → bytes_eq k l ≡ false
below-not_eq [] [] h = cc
below-not_eq [] (y ∷ l) h = refl
below-not_eq (x ∷ k) [] h = refl
below-not_eq (x ∷ k) (y ∷ l) h = ⊎_elim
    (λ e. rw (eq-yes x y e) (below-not_eq k l (rw (is_equal x y e) at h)))
    (λ n. rw (eq-no x y n) refl) (equal_or_not x y)

pub bytes_eq-back : (k l : List ℕ) → bytes_eq k l ≡ bytes_eq l k
bytes_eq-back [] [] = refl
bytes_eq-back [] (y ∷ l) = refl
bytes_eq-back (x ∷ k) [] = refl
bytes_eq-back (x ∷ k) (y ∷ l) = ⊎_elim
    (λ e. rw (eq-yes x y e, eq-yes y x (sym e)) (bytes_eq-back k l))
    (λ n. rw (eq-no x y n, eq-no y x (λ e. n (sym e))) refl) (equal_or_not x y)

pub bytes_eq-itself : (k : List ℕ) → bytes_eq k k ≡ true
bytes_eq-itself [] = refl
bytes_eq-itself (x ∷ k) = rw (eq-yes x x refl) (bytes_eq-itself k)

pub bytes_eq-equal : (k l : List ℕ) → bytes_eq k l ≡ true → k ≡ l
bytes_eq-equal [] [] h = refl
bytes_eq-equal [] (y ∷ l) h = cc
bytes_eq-equal (x ∷ k) [] h = cc
bytes_eq-equal (x ∷ k) (y ∷ l) h = ⊎_elim
    (λ e. let t = bytes_eq-equal k l (rw (eq-yes x y e) at h) in cc)
    (λ n. let f = rw (eq-no x y n) at h in cc) (equal_or_not x y)

pub compare : (k l : List ℕ) → (IsLess k l) ⊎ ((k ≡ l) ⊎ (IsLess l k))
compare [] [] = inr (inl refl)
compare [] (y ∷ l) = inl refl
compare (x ∷ k) [] = inr (inr refl)
compare (x ∷ k) (y ∷ l) = ⊎_elim
    (λ h. inl (rw (is_less x y h) refl))
    (⊎_elim (λ e. ⊎_elim (λ h. inl (rw (is_equal x y e) h))
    (⊎_elim (λ h. inr (inl cc)) (λ h. inr (inr (rw (is_equal y x (sym e)) h)))) (compare k l))
    (λ h. inr (inr (rw (is_less y x h) refl)))) (order x y)

pub below-with_prefix : (p k l : List ℕ) → IsLess k l → IsLess (p ++ k) (p ++ l)
below-with_prefix [] k l h = h
below-with_prefix (x ∷ p) k l h = rw (is_equal x x refl) (below-with_prefix p k l h)

pub below-greater : (k l : List ℕ) → IsLess k l → slice_cmp nat_cmp l k ≡ Greater
below-greater k l h = rw (nat_list_cmp_total.antisymm l k, h) refl

pub cmp-itself : (k : List ℕ) → slice_cmp nat_cmp k k ≡ Equal
cmp-itself k = tied_itself nat_list_cmp_total k

pub bytes_eq-differ : (k l : List ℕ) → (k ≡ l → ⊥) → bytes_eq k l ≡ false
bytes_eq-differ k l n = elim (bytes_eq k l) as (λ b. bytes_eq k l ≡ b → b ≡ false)
    [ true ↦ λ e. absurd (n (bytes_eq-equal k l e)) | false ↦ λ e. refl ] refl

-- a zero byte at the end of both changes nothing, also where they have zero bytes of their own
pub slice_cmp-closed : (xs ys : List ℕ) → slice_cmp nat_cmp (xs ++ 0 ∷ []) (ys ++ 0 ∷ []) ≡ slice_cmp nat_cmp xs ys
slice_cmp-closed [] [] = refl
slice_cmp-closed [] (zero ∷ []) = refl
slice_cmp-closed [] (zero ∷ (y ∷ ys)) = refl
slice_cmp-closed [] (suc y ∷ ys) = rw (is_less 0 (suc y) (omega arith)) refl
slice_cmp-closed (zero ∷ []) [] = refl
slice_cmp-closed (zero ∷ (x ∷ xs)) [] = refl
slice_cmp-closed (suc x ∷ xs) [] = rw (is_greater (suc x) 0 (omega arith)) refl
slice_cmp-closed (x ∷ xs) (y ∷ ys) = ap (ordering_then (nat_cmp x y)) (slice_cmp-closed xs ys)
