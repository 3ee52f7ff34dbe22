-- Networks as bits: which bytes and which code they are.
use Rattle.std.proofs.Common.{◌≡◌, ℕ, zero, suc, ◌+◌, ◌*◌, ◌/◌, ◌%◌, ◌<◌, ◌≤◌, ◌==◌, ◌++◌, ◌⊎◌, ⊎_elim, inl, inr}
use Rattle.std.proofs.Common.{length, take, drop, arith, Bool, List, [], ◌∷◌, true, false, refl, sym, ap, ◌∙◌}
use Rattle.std.proofs.Common.{if◌then◌else◌, eqb-true}
use Rattle.std.specs.Prelude.{slice_index}
use Rattle.std.proofs.Math.Dec.{ltb}
use Rattle.std.proofs.lemmas.Bool.{ltb-true}
use Rattle.rart_keys.specs.KeyBytes.{AreBytes}
use Rattle.rart_keys.specs.ByteStrings.{bytes_eq}
use Rattle.rart_cidr.specs.Bits.{bits_of, byte_bits, code, code_bits, network}
use Rattle.rart_cidr.specs.Routes.{IsCode, coded_network}

-- a test of all numbers below n
unfoldable pub holds_below : (ℕ → Bool) → ℕ → Bool
holds_below p zero = true
holds_below p (suc n) = if p n then holds_below p n else false

last_or_below : (x n : ℕ) → x < suc n → (x ≡ n) ⊎ (x < n)
last_or_below zero zero l = inl refl
last_or_below zero (suc n) l = inr (omega arith)
last_or_below (suc x) zero l = absurd (omega arith)
last_or_below (suc x) (suc n) l = ⊎_elim (λ e. inl (ap suc e)) (λ m. inr (omega arith))
    (last_or_below x n (omega arith))

pub holds_at : (p : ℕ → Bool) (n x : ℕ) → holds_below p n ≡ true → x < n → p x ≡ true
unfolding holds_below
holds_at p zero x h l = absurd (omega arith)
holds_at p (suc n) x h l = elim (p n) as (λ b. p n ≡ b → (if b then holds_below p n else false) ≡ true → p x ≡ true) [
  | true ↦ λ s t. ⊎_elim (λ e. ap p e ∙ s) (λ m. holds_at p n x t m) (last_or_below x n l)
  | false ↦ λ s t. absurd (cc)
] refl h

-- the number that bits encode after the bits of a
unfoldable pub number_after : ℕ → List ℕ → ℕ
number_after a [] = a
number_after a (b ∷ l) = number_after (2 * a + b) l

pub byte-number : (x : ℕ) → x < 256 → number_after 0 (byte_bits x) ≡ x
unfolding holds_below number_after
byte-number x h = eqb-true _ _ (holds_at (λ y. number_after 0 (byte_bits y) == y) 256 x refl h)

pub code-number : (c : ℕ) → 1 ≤ c → c < 256 → number_after 1 (code_bits c) ≡ c
unfolding holds_below number_after
code-number zero l h = absurd (omega arith)
code-number (suc c) l h = eqb-true _ _ (holds_at (λ y. number_after 1 (code_bits (suc y)) == suc y) 255 c refl
    (omega arith))

pub same_bytes : (k l : List ℕ) → bytes_eq k l ≡ true → k ≡ l
same_bytes [] [] h = refl
same_bytes [] (y ∷ l) h = cc
same_bytes (x ∷ k) [] h = cc
same_bytes (x ∷ k) (y ∷ l) h = elim (x == y) as (λ b. (x == y) ≡ b → (if b then bytes_eq k l else false) ≡ true
    → (x ∷ k) ≡ (y ∷ l)) [
      | true ↦ λ e t. let heads = eqb-true x y e in let tails = same_bytes k l t in cc
      | false ↦ λ e t. absurd (cc)
    ] refl h

pub byte-alike : (x y : ℕ) (l m : List ℕ) → x < 256 → y < 256 → byte_bits x ++ l ≡ byte_bits y ++ m → (x ≡ y) × (l ≡ m)
unfolding number_after
byte-alike x y l m f g e = (
  sym (byte-number x f) ∙ ap (λ z. number_after 0 (take 8 z)) e
      ∙ byte-number y g,
  ap (drop 8) e,
)

pub code-short : (c : ℕ) → c < 256 → length (code_bits c) < 8
unfolding holds_below
code-short c h = ltb-true _ _ (holds_at (λ y. ltb (length (code_bits y)) 8) 256 c refl h)

pub codes-alike : (o p k l : List ℕ) → AreBytes o → AreBytes p → IsCode k → IsCode l
    → coded_network o k ≡ coded_network p l → (o ≡ p) × (k ≡ l)
unfolding number_after
codes-alike o p [] l f g i j e = absurd i
codes-alike o p (c ∷ c2 ∷ k) l f g i j e = absurd i
codes-alike o p (c ∷ []) [] f g i j e = absurd j
codes-alike o p (c ∷ []) (d ∷ d2 ∷ l) f g i j e = absurd j
codes-alike [] [] (c ∷ []) (d ∷ []) f g i j e = let same : c ≡ d = sym (code-number c i.0 i.1) ∙ ap (number_after 1) e
    ∙ code-number d j.0 j.1 in (refl, ap (λ z. z ∷ []) same)
codes-alike [] (y ∷ p) (c ∷ []) (d ∷ []) f g i j e = absurd (omega (arith, ap length e, code-short c i.1))
codes-alike (x ∷ o) [] (c ∷ []) (d ∷ []) f g i j e = absurd (omega (arith, ap length e, code-short d j.1))
codes-alike (x ∷ o) (y ∷ p) (c ∷ []) (d ∷ []) f g i j e =
    let first = byte-alike x y (bits_of o ++ code_bits c) (bits_of p ++ code_bits d) (f 0) (g 0) e in
    let after = codes-alike o p (c ∷ []) (d ∷ []) (λ n. f (suc n)) (λ n. g (suc n)) i j first.1 in
    let heads : x ≡ y = first.0 in let tails : o ≡ p = after.0 in ((cc), after.1)

pub code-is : (x r : ℕ) → x < 256 → holds_below (λ y. bytes_eq (take r (byte_bits y)) (code_bits (code y r))) 256 ≡ true
    → take r (byte_bits x) ≡ code_bits (code x r)
code-is x r h t = same_bytes _ _ (holds_at (λ y. bytes_eq (take r (byte_bits y)) (code_bits (code y r))) 256 x t h)

-- a network by its whole bytes and the code of the bits after them
pub network-coded : (o : List ℕ) (n : ℕ) → AreBytes o → n ≤ 8 * length o
    → network o n ≡ coded_network (take (n / 8) o) (code (slice_index o (n / 8)) (n % 8) ∷ [])
unfolding holds_below
network-coded [] zero f h = refl
network-coded [] (suc n) f h = absurd (omega arith)
network-coded (x ∷ o) zero f h = code-is x 0 (f 0) refl
network-coded (x ∷ o) (suc zero) f h = code-is x 1 (f 0) refl
network-coded (x ∷ o) (suc (suc zero)) f h = code-is x 2 (f 0) refl
network-coded (x ∷ o) (suc (suc (suc zero))) f h = code-is x 3 (f 0) refl
network-coded (x ∷ o) (suc (suc (suc (suc zero)))) f h = code-is x 4 (f 0) refl
network-coded (x ∷ o) (suc (suc (suc (suc (suc zero))))) f h = code-is x 5 (f 0) refl
network-coded (x ∷ o) (suc (suc (suc (suc (suc (suc zero)))))) f h = code-is x 6 (f 0) refl
network-coded (x ∷ o) (suc (suc (suc (suc (suc (suc (suc zero))))))) f h = code-is x 7 (f 0) refl
network-coded (x ∷ o) (suc (suc (suc (suc (suc (suc (suc (suc n)))))))) f h =
    let quotient : suc (suc (suc (suc (suc (suc (suc (suc n))))))) / 8 ≡ suc (n / 8) = omega arith in
    let rest : suc (suc (suc (suc (suc (suc (suc (suc n))))))) % 8 ≡ n % 8 = omega arith in
    rw (quotient, rest) (ap (λ z. byte_bits x ++ z) (network-coded o n (λ i. f (suc i)) (omega arith)))

-- and that is a code
pub code-in_range : (x r : ℕ) → x < 256 → r < 8 → IsCode (code x r ∷ [])
code-in_range x zero h l = (omega arith, omega arith)
code-in_range x (suc zero) h l = (omega arith, omega arith)
code-in_range x (suc (suc zero)) h l = (omega arith, omega arith)
code-in_range x (suc (suc (suc zero))) h l = (omega arith, omega arith)
code-in_range x (suc (suc (suc (suc zero)))) h l = (omega arith, omega arith)
code-in_range x (suc (suc (suc (suc (suc zero))))) h l = (omega arith, omega arith)
code-in_range x (suc (suc (suc (suc (suc (suc zero)))))) h l = (omega arith, omega arith)
code-in_range x (suc (suc (suc (suc (suc (suc (suc zero))))))) h l = (omega arith, omega arith)
code-in_range x (suc (suc (suc (suc (suc (suc (suc (suc r)))))))) h l = absurd (omega arith)

pub length-bits : (o : List ℕ) → length (bits_of o) ≡ 8 * length o
length-bits [] = refl
length-bits (x ∷ o) = let more = length-bits o in omega (arith, more)
