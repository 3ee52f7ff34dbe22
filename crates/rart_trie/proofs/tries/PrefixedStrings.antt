-- What begins a string after a prefix, and the rest of it.
use Rattle.std.proofs.Common.{◌≡◌, ℕ, ◌-◌, ⊎_elim, List, [], ◌∷◌, ◌++◌, length, take, drop, refl, arith, sym, ap, Some}
use Rattle.std.proofs.Common.{None}
use Rattle.std.proofs.lemmas.Grind.{common_steps}
use Rattle.std.proofs.lemmas.List.{length-drop}
use Rattle.rart_keys.specs.ByteStrings.{strip_prefix, begins}
use Rattle.rart_keys.proofs.strings.ByteOrder.{eq-yes, eq-no, equal_or_not}

pub begins-after : (q p r k : List ℕ) → strip_prefix q p ≡ Some r → begins p (q ++ k) ≡ begins r k
begins-after [] p r k s = let e : p ≡ r = cc in ap (λ z. begins z k) e
begins-after (x ∷ q) [] r k s = cc
begins-after (x ∷ q) (y ∷ p) r k s = ⊎_elim (λ e. let h = rw (eq-yes x y e) at s in
    rw (eq-yes y x (sym e)) (begins-after q p r k h)) (λ n. let h = rw (eq-no x y n) at s in cc) (equal_or_not x y)

pub begins-apart : (q p k : List ℕ) → strip_prefix q p ≡ None → begins p (q ++ k) ≡ begins p q
begins-apart [] p k s = cc
begins-apart (x ∷ q) [] k s = refl
begins-apart (x ∷ q) (y ∷ p) k s = ⊎_elim (λ e. let h = rw (eq-yes x y e) at s in
    rw (eq-yes y x (sym e)) (begins-apart q p k h)) (λ n. rw (eq-no y x (λ e. n (sym e))) refl) (equal_or_not x y)

-- a string is the prefix and the rest
pub strip_prefix-is : (p k r : List ℕ) → strip_prefix p k ≡ Some r → p ++ r ≡ k
strip_prefix-is [] k r s = let e : k ≡ r = cc in sym e
strip_prefix-is (x ∷ p) [] r s = absurd (cc)
strip_prefix-is (x ∷ p) (y ∷ k) r s = ⊎_elim
    (λ e. let h = rw (eq-yes x y e) at s in rw (e, strip_prefix-is p k r h) refl)
    (λ n. let h = rw (eq-no x y n) at s in absurd (cc)) (equal_or_not x y)

-- the rest of a list from a place on, as code names it
pub slice_from-is : {A : Type 0} (xs : List A) (n : ℕ) → take (length xs - n) (drop n xs) ≡ drop n xs
slice_from-is xs n = grind (arith, common_steps, length-drop n xs)
