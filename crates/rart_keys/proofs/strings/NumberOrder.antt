-- Numbers and their big-endian bytes: their order, and the way back.
use Rattle.std.proofs.Common.{◌≡◌, ℕ, zero, suc, ◌+◌, ◌-◌, ◌*◌, ◌/◌, ◌^◌, ◌%◌, ◌<◌, ◌≤◌, inl, inr, refl, sym, ap, ap₂}
use Rattle.std.proofs.Common.{◌∙◌, arith, ℤ, pos, negsuc, Less, Equal, Greater}
use Rattle.std.proofs.Math.Nat.{add-mul, add_assoc, div-add-mod', div-one, mod-eq_of_lt, mod-lt, mul-add-mod_self_right}
use Rattle.std.proofs.Math.Nat.{mul-le-mul_right, mul_assoc, one-le-pow, pow-le-pow_right, pow-succ'}
use Rattle.std.proofs.lemmas.Bool.{cases_lt}
use Rattle.std.proofs.lemmas.Cmp.{by_ranked, ranked}
use Rattle.std.proofs.lemmas.Int.{ints}
use Rattle.std.specs.Cmp.{int_cmp_is}
use Rattle.std.specs.Cmp.Lexicographic.{slice_cmp}
use Rattle.std.specs.Int.{byte_at, bytes_high_first, Width, w128}
use Rattle.std.specs.Int.Bits.{bit_xor, xor_block, xor_zero_r}
use Rattle.std.specs.Int.Digits.{number_from_digits_after}
use Rattle.std.specs.Ordering.{nat_cmp, int_cmp, ordering_then}
use Rattle.rart_keys.specs.NumberBytes.{sign_flipped}
use Rattle.rart_keys.proofs.strings.ByteOrder.{is_less, is_equal, is_greater}
use lib.IntN.{◌+ℤ◌}
use mir.Val.{SFits, hbits, of_z}

-- the two low digits of n, to the bases c and then m
mod-split : (n : ℕ) {m c : ℕ} → zero < m → zero < c → n % (m * c) ≡ (n / c % m) * c + n % c
mod-split n {m} {c} hm hc =
    let a = mod-lt (n / c) hm in
    let b = mod-lt n hc in
    let top : (n / c % m + 1) * c ≤ m * c = mul-le-mul_right c (omega arith) in
    let expand : (n / c % m + 1) * c ≡ n / c % m * c + 1 * c = add-mul (n / c % m) 1 c in
    let split : n ≡ n / c / m * (m * c) + (n / c % m * c + n % c) =
    sym (div-add-mod' n c)
    ∙ ap (λ (x : ℕ). x * c + n % c) (sym (div-add-mod' (n / c) m))
    ∙ ap (λ (x : ℕ). x + n % c) (add-mul (n / c / m * m) (n / c % m) c
    ∙ ap (λ (x : ℕ). x + n / c % m * c) (mul_assoc (n / c / m) m c))
    ∙ add_assoc (n / c / m * (m * c)) (n / c % m * c) (n % c) in
    ap (λ (x : ℕ). x % (m * c)) split ∙ mul-add-mod_self_right (n / c / m) (m * c) (n / c % m * c + n % c)
    ∙ mod-eq_of_lt (omega arith)

-- a byte of a number, by its place
byte_at-pow : (k n : ℕ) → byte_at k n ≡ n / 256 ^ k % 256
byte_at-pow zero n = ap (λ (m : ℕ). m % 256) (sym (div-one n))
byte_at-pow (suc k) n = refl

pow_above_zero : (k : ℕ) → zero < 256 ^ k
pow_above_zero k = let h = one-le-pow k 256 (omega arith) in omega arith

-- a lower high digit makes a lower number
less_by_digit : (a b r s c : ℕ) → r < c → a < b → a * c + r < b * c + s
less_by_digit a b r s c p h =
    let top : (a + 1) * c ≤ b * c = mul-le-mul_right c (omega arith) in
    let expand : (a + 1) * c ≡ a * c + 1 * c = add-mul a 1 c in
    omega arith

nat_cmp-add : (r s u v : ℕ) → u ≡ v → nat_cmp r s ≡ nat_cmp (u + r) (v + s)
nat_cmp-add r s u v e = elim (cases_lt r s) [
  | inl less ↦ rw (is_less r s less, is_less (u + r) (v + s) (omega arith)) refl
  | inr at_least ↦ elim (cases_lt s r) [
    | inl more ↦ rw (is_greater r s more, is_greater (u + r) (v + s) (omega arith)) refl
    | inr at_most ↦ rw (is_equal r s (omega arith), is_equal (u + r) (v + s) (omega arith)) refl
  ]
]

-- the high digits decide, and the low ones break a tie
nat_cmp-digits : (a b r s c : ℕ) → r < c → s < c → ordering_then (nat_cmp a b) (nat_cmp r s)
    ≡ nat_cmp (a * c + r) (b * c + s)
nat_cmp-digits a b r s c p q = elim (cases_lt a b) [
  | inl less ↦ rw (is_less a b less, is_less _ _ (less_by_digit a b r s c p less)) refl
  | inr at_least ↦ elim (cases_lt b a) [
    | inl more ↦ rw (is_greater a b more, is_greater _ _ (less_by_digit b a s r c q more)) refl
    | inr at_most ↦ let e : a ≡ b = omega arith in
        rw (is_equal a b e) (nat_cmp-add r s (a * c) (b * c) (ap (λ k. k * c) e))
  ]
]

slice_cmp-bytes_high_first : (k m n : ℕ) → slice_cmp nat_cmp (bytes_high_first k m) (bytes_high_first k n)
    ≡ nat_cmp (m % 256 ^ k) (n % 256 ^ k)
slice_cmp-bytes_high_first zero m n = sym (is_equal (m % 1) (n % 1) (omega arith))
slice_cmp-bytes_high_first (suc k) m n =
    let hm = mod-split m {m = 256} {c = 256 ^ k} (omega arith) (pow_above_zero k) in
    let hn = mod-split n {m = 256} {c = 256 ^ k} (omega arith) (pow_above_zero k) in
    rw (slice_cmp-bytes_high_first k m n, byte_at-pow k m, byte_at-pow k n, pow-succ' 256 k, hm, hn)
    (nat_cmp-digits _ _ _ _ (256 ^ k) (mod-lt m (pow_above_zero k)) (mod-lt n (pow_above_zero k)))

-- the big-endian bytes of numbers that they hold compare as the numbers
pub slice_cmp-unsigned : (k m n : ℕ) → m < 256 ^ k → n < 256 ^ k
    → slice_cmp nat_cmp (bytes_high_first k m) (bytes_high_first k n) ≡ nat_cmp m n
slice_cmp-unsigned k m n p q = slice_cmp-bytes_high_first k m n ∙ ap₂ nat_cmp (mod-eq_of_lt p) (mod-eq_of_lt q)

-- the sign bit flipped is an addition
sign_flipped-sum : (w : Width) (x : ℤ) → SFits w x → pos (sign_flipped w x) ≡ x +ℤ pos (2 ^ hbits w)
sign_flipped-sum w (pos n) f = omega (arith, ints)
sign_flipped-sum w (negsuc n) f = let h = f.sfits in omega (arith, ints, h)

nat_cmp-sign_flipped : (w : Width) (x y : ℤ) → SFits w x → SFits w y → nat_cmp (sign_flipped w x) (sign_flipped w y)
    ≡ int_cmp x y
nat_cmp-sign_flipped w x y f g =
    let a = sign_flipped w x in
    let b = sign_flipped w y in
    let p = sign_flipped-sum w x f in
    let q = sign_flipped-sum w y g in
    by_ranked (a < b) (a ≡ b) (b < a) (nat_cmp a b) (ranked a b (nat_cmp a b) refl)
    (λ e (h : a < b). e ∙ int_cmp_is x y Less (omega (arith, ints, p, q, h)))
    (λ e (h : a ≡ b). e ∙ int_cmp_is x y Equal (omega (arith, ints, p, q, h)))
    (λ e (h : b < a). e ∙ int_cmp_is x y Greater (omega (arith, ints, p, q, h)))

sign_flipped-lt : (w : Width) (x : ℤ) → SFits w x → sign_flipped w x < 2 ^ hbits w + 2 ^ hbits w
sign_flipped-lt w (pos n) f = let h = f.sfits in omega (arith, h)
sign_flipped-lt w (negsuc n) f = let h = f.sfits in omega (arith, h)

-- with the sign bit flipped, the big-endian bytes of signed numbers compare as the numbers
pub slice_cmp-signed : (w : Width) (k : ℕ) (x y : ℤ) → SFits w x → SFits w y → 2 ^ hbits w + 2 ^ hbits w ≡ 256 ^ k
    → slice_cmp nat_cmp (bytes_high_first k (sign_flipped w x)) (bytes_high_first k (sign_flipped w y)) ≡ int_cmp x y
slice_cmp-signed w k x y f g e =
    let p : sign_flipped w x < 256 ^ k = rw (← e) (sign_flipped-lt w x f) in
    let q : sign_flipped w y < 256 ^ k = rw (← e) (sign_flipped-lt w y g) in
    slice_cmp-unsigned k _ _ p q ∙ nat_cmp-sign_flipped w x y f g

-- up to seven digits leave space for one more in eight
pub seven_digits : (i n : ℕ) → i < 8 → n < 256 ^ i → n < 256 ^ 7
seven_digits i n h p = let m : 256 ^ i ≤ 256 ^ 7
    = pow-le-pow_right {n = 256} (omega arith) {i = i} {j = 7} (omega arith) in omega (arith, m)

-- to flip the highest bit is to add it, or to take it away
bit_xor-highest : (h a n m t : ℕ) → n < 2 ^ h → m ≡ a * 2 ^ h + n → t ≡ 1 * 2 ^ h + 0
    → bit_xor m t ≡ bit_xor a 1 * 2 ^ h + n
bit_xor-highest h a n m t p e f = ap₂ bit_xor e f ∙ xor_block h a 1 n 0 p (omega arith)
    ∙ ap (λ k. bit_xor a 1 * 2 ^ h + k) (xor_zero_r n)

pub bit_xor-sign_128 : (x : ℤ) → SFits w128 x → bit_xor (of_z w128 x) (2 ^ 127) ≡ sign_flipped w128 x
bit_xor-sign_128 (pos n) f = let h = f.sfits in let e
    = bit_xor-highest 127 0 n n (2 ^ 127) h (omega arith) (omega arith) in omega (arith, e)
bit_xor-sign_128 (negsuc n) f =
    let h = f.sfits in
    let e = bit_xor-highest 127 1 (2 ^ 127 - suc n) (2 ^ 128 - suc n) (2 ^ 127) (omega arith) (omega (arith, h))
    (omega arith) in
    omega (arith, e)
