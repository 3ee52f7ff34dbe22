-- std's `common_prefix_len` computes the greatest common length.
use Rattle.std.proofs.Common.{◌≡◌, ℕ, zero, suc, ◌+◌, ◌≤◌, min, Bool, true, false, cond, List, [], ◌∷◌, length, take}
use Rattle.std.proofs.Common.{drop, nat_eq, refl, ap₂, arith, length-drop}
use Rattle.std.specs.List.{common_prefix_len}
use Rattle.std.proofs.Math.Numerals.{one-add}
use Rattle.std.proofs.lemmas.Bool.{eqb-true, eqb-false}
use Rattle.std.proofs.lemmas.List.Sums.{common_prefix_len-le}
use Rattle.rart_keys.specs.CommonPrefix.{IsCommonPrefixLength}

-- past the end of either list nothing is common
pub common_prefix_len-end : (xs ys : List ℕ) (i : ℕ) → min (length xs) (length ys) ≤ i
    → common_prefix_len nat_eq (drop i xs) (drop i ys) ≡ 0
common_prefix_len-end xs ys i h = omega (
  arith,
  common_prefix_len-le nat_eq (drop i xs) (drop i ys),
  length-drop i xs,
  length-drop i ys,
)

pub ruleset past_the_end = (common_prefix_len-end)

-- one element more in front: one more is common if it is the same, and else none is
one_more : (x y : ℕ) (xs ys : List ℕ) (m : ℕ) (b : Bool) → nat_eq x y ≡ b → IsCommonPrefixLength xs ys m
    → IsCommonPrefixLength (x ∷ xs) (y ∷ ys) (cond b (1 + m) 0)
one_more x y xs ys m true e h = record {
  within_left = (let l = h.within_left in omega (arith, l));
  within_right = (let r = h.within_right in omega (arith, r));
  same = rw one-add (ap₂ ◌∷◌ (eqb-true x y e) h.same);
  greatest = more;
} where
  more : (n : ℕ) → n ≤ length (x ∷ xs) → n ≤ length (y ∷ ys) → take n (x ∷ xs) ≡ take n (y ∷ ys) → n ≤ 1 + m
  more zero l r t = omega arith
  more (suc n) l r t = (let k = h.greatest n (omega arith) (omega arith) cc in omega (arith, k))
one_more x y xs ys m false e h = record {
  within_left = omega arith;
  within_right = omega arith;
  same = refl;
  greatest = none;
} where
  none : (n : ℕ) → n ≤ length (x ∷ xs) → n ≤ length (y ∷ ys) → take n (x ∷ xs) ≡ take n (y ∷ ys) → n ≤ 0
  none zero l r t = omega arith
  none (suc n) l r t = (let k : x ≡ y = cc in let d = eqb-false x y e in absurd (d k))

pub common_prefix_len-greatest : (xs ys : List ℕ) → IsCommonPrefixLength xs ys (common_prefix_len nat_eq xs ys)
common_prefix_len-greatest [] ys = record {
  within_left = omega arith;
  within_right = omega arith;
  same = refl;
  greatest
      = λ n l r t. l;
}
common_prefix_len-greatest (x ∷ xs) [] = record {
  within_left = omega arith;
  within_right = omega arith;
  same
      = refl;
  greatest = λ n l r t. r;
}
common_prefix_len-greatest (x ∷ xs) (y ∷ ys) = one_more x y xs ys _ (nat_eq x y) refl (common_prefix_len-greatest xs ys)

pub greatest_from_value : (xs ys : List ℕ) (m : ℕ) → m ≡ common_prefix_len nat_eq xs ys → IsCommonPrefixLength xs ys m
greatest_from_value xs ys m e = rw e (common_prefix_len-greatest xs ys)
