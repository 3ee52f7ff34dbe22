-- Octets whose last bits are cleared, and the networks that they encode.
use Rattle.std.proofs.Common.{◌≡◌, ℕ, zero, suc, ◌+◌, ◌-◌, ◌*◌, ◌<◌, ◌≤◌, ◌==◌, ◌++◌, length, take, drop, arith, Bool}
use Rattle.std.proofs.Common.{List, [], ◌∷◌, true, false, refl, sym, ap, ◌∙◌, if◌then◌else◌, eqb-true}
use Rattle.std.specs.Bool.{Decides}
use Rattle.std.proofs.lemmas.Bool.Decides.{nat_tests}
use Rattle.std.specs.Prelude.{◌%◌, ◌/◌, ◌^◌, None, replicate, is_some, slice_index, slice_set}
use Rattle.std.proofs.lemmas.List.{length-take, take-append-drop}
use Rattle.rart_keys.specs.ByteStrings.{begins, bytes_eq, strip_prefix}
use Rattle.rart_keys.specs.KeyBytes.{AreBytes}
use Rattle.rart_cidr.specs.Bits.{AreClearAfter, bits_of, byte_bits, masked_octets, masked_byte, network}
use Rattle.std.specs.Net.Addr.{octets_of, segments_of}
use Rattle.rart_cidr.proofs.networks.BitLemmas.{byte-alike, holds_at, holds_below, length-bits, same_bytes}

masked_byte-first : (x r : ℕ) → x < 256
    → holds_below (λ y. bytes_eq (take r (byte_bits (masked_byte y r))) (take r (byte_bits y))) 256 ≡ true
    → take r (byte_bits (masked_byte x r)) ≡ take r (byte_bits x)
masked_byte-first x r h t = same_bytes _ _
    (holds_at (λ y. bytes_eq (take r (byte_bits (masked_byte y r))) (take r (byte_bits y))) 256 x t h)

masked_byte-rest : (x r : ℕ) → x < 256
    → holds_below (λ y. bytes_eq (drop r (byte_bits (masked_byte y r))) (replicate (8 - r) 0)) 256 ≡ true
    → drop r (byte_bits (masked_byte x r)) ≡ replicate (8 - r) 0
masked_byte-rest x r h t = same_bytes _ _
    (holds_at (λ y. bytes_eq (drop r (byte_bits (masked_byte y r))) (replicate (8 - r) 0)) 256 x t h)

zeros : ℕ → List ℕ
zeros n = replicate n 0

bits-zeros : (m : ℕ) → bits_of (replicate m 0) ≡ replicate (8 * m) 0
bits-zeros zero = refl
bits-zeros (suc m) =
    let more : 8 * suc m ≡ suc (suc (suc (suc (suc (suc (suc (suc (8 * m)))))))) = omega arith in
    ap (λ z. byte_bits 0 ++ z) (bits-zeros m) ∙ sym (ap (λ z. replicate z 0) more)

zeros-more : (d m : ℕ) → zeros d ++ zeros m ≡ zeros (d + m)
unfolding zeros
zeros-more zero m = let none : 0 + m ≡ m = omega arith in sym (ap zeros none)
zeros-more (suc d) m = let one : suc d + m ≡ suc (d + m) = omega arith in ap (λ z. 0 ∷ z) (zeros-more d m)
    ∙ sym (ap zeros one)

masked_byte-none : (x : ℕ) → x < 256 → masked_byte x 0 ≡ 0
masked_byte-none x h = omega arith

masked_byte-all : (x n : ℕ) → 8 ≤ n → masked_byte x n ≡ x
masked_byte-all x n h = let none : 8 - n ≡ 0 = omega arith in let one : x / 1 * 1 ≡ x = omega arith in
    ap (λ z. x / 2 ^ z * 2 ^ z) none ∙ one

all-masked_octets : (o : List ℕ) → AreBytes o → masked_octets o 0 ≡ replicate (length o) 0
all-masked_octets [] f = refl
all-masked_octets (x ∷ o) f =
    let heads : masked_byte x 0 ≡ 0 = masked_byte-none x (f 0) in
    let tails = all-masked_octets o (λ i. f (suc i)) in cc

zeros-after : (l o : List ℕ) (d t : ℕ) → AreBytes o → l ≡ replicate d 0 → t ≡ d + 8 * length o
    → l ++ bits_of (masked_octets o 0) ≡ replicate t 0
unfolding zeros
zeros-after l o d t f e h = ap (λ z. z ++ bits_of (masked_octets o 0)) e
    ∙ ap (λ z. replicate d 0 ++ bits_of z) (all-masked_octets o f)
    ∙ ap (λ z. replicate d 0 ++ z) (bits-zeros (length o)) ∙ zeros-more d (8 * length o)
    ∙ sym (ap (λ z. replicate z 0) h)

-- the first n bits stay
pub masked_octets-first : (o : List ℕ) (n : ℕ) → AreBytes o → take n (bits_of (masked_octets o n)) ≡ take n (bits_of o)
unfolding holds_below
masked_octets-first [] n f = refl
masked_octets-first (x ∷ o) zero f = refl
masked_octets-first (x ∷ o) (suc zero) f = masked_byte-first x 1 (f 0) refl
masked_octets-first (x ∷ o) (suc (suc zero)) f = masked_byte-first x 2 (f 0) refl
masked_octets-first (x ∷ o) (suc (suc (suc zero))) f = masked_byte-first x 3 (f 0) refl
masked_octets-first (x ∷ o) (suc (suc (suc (suc zero)))) f = masked_byte-first x 4 (f 0) refl
masked_octets-first (x ∷ o) (suc (suc (suc (suc (suc zero))))) f = masked_byte-first x 5 (f 0) refl
masked_octets-first (x ∷ o) (suc (suc (suc (suc (suc (suc zero)))))) f = masked_byte-first x 6 (f 0) refl
masked_octets-first (x ∷ o) (suc (suc (suc (suc (suc (suc (suc zero))))))) f = masked_byte-first x 7 (f 0) refl
masked_octets-first (x ∷ o) (suc (suc (suc (suc (suc (suc (suc (suc n)))))))) f =
    let after : suc (suc (suc (suc (suc (suc (suc (suc n))))))) - 8 ≡ n = omega arith in
    ap (λ z. byte_bits z ++ take n (bits_of (masked_octets o (suc (suc (suc (suc (suc (suc (suc (suc n))))))) - 8))))
    (masked_byte-all x (suc (suc (suc (suc (suc (suc (suc (suc n)))))))) (omega arith))
    ∙ ap (λ z. byte_bits x ++ take n (bits_of (masked_octets o z))) after
    ∙ ap (λ z. byte_bits x ++ z) (masked_octets-first o n (λ i. f (suc i)))

-- and the others are zeros
masked_octets-rest : (o : List ℕ) (n : ℕ) → AreBytes o
    → drop n (bits_of (masked_octets o n)) ≡ replicate (8 * length o - n) 0
unfolding holds_below
masked_octets-rest [] zero f = refl
masked_octets-rest [] (suc n) f = let none : 8 * 0 - suc n ≡ 0 = omega arith in sym (ap (λ z. replicate z 0) none)
masked_octets-rest (x ∷ o) zero f = zeros-after _ o 8 _ (λ i. f (suc i)) (masked_byte-rest x 0 (f 0) refl) (omega arith)
masked_octets-rest (x ∷ o) (suc zero) f
    = zeros-after _ o 7 _ (λ i. f (suc i)) (masked_byte-rest x 1 (f 0) refl) (omega arith)
masked_octets-rest (x ∷ o) (suc (suc zero)) f
    = zeros-after _ o 6 _ (λ i. f (suc i)) (masked_byte-rest x 2 (f 0) refl) (omega arith)
masked_octets-rest (x ∷ o) (suc (suc (suc zero))) f
    = zeros-after _ o 5 _ (λ i. f (suc i)) (masked_byte-rest x 3 (f 0) refl) (omega arith)
masked_octets-rest (x ∷ o) (suc (suc (suc (suc zero)))) f
    = zeros-after _ o 4 _ (λ i. f (suc i)) (masked_byte-rest x 4 (f 0) refl) (omega arith)
masked_octets-rest (x ∷ o) (suc (suc (suc (suc (suc zero))))) f
    = zeros-after _ o 3 _ (λ i. f (suc i)) (masked_byte-rest x 5 (f 0) refl) (omega arith)
masked_octets-rest (x ∷ o) (suc (suc (suc (suc (suc (suc zero)))))) f
    = zeros-after _ o 2 _ (λ i. f (suc i)) (masked_byte-rest x 6 (f 0) refl) (omega arith)
masked_octets-rest (x ∷ o) (suc (suc (suc (suc (suc (suc (suc zero))))))) f
    = zeros-after _ o 1 _ (λ i. f (suc i)) (masked_byte-rest x 7 (f 0) refl) (omega arith)
masked_octets-rest (x ∷ o) (suc (suc (suc (suc (suc (suc (suc (suc n)))))))) f =
    let after : suc (suc (suc (suc (suc (suc (suc (suc n))))))) - 8 ≡ n = omega arith in
    let fewer : 8 * suc (length o) - suc (suc (suc (suc (suc (suc (suc (suc n))))))) ≡ 8 * length o - n = omega arith in
    ap (λ z. drop n (bits_of (masked_octets o z))) after ∙ masked_octets-rest o n (λ i. f (suc i))
    ∙ sym (ap (λ z. replicate z 0) fewer)

pub masked_octets-length : (o : List ℕ) (n : ℕ) → length (masked_octets o n) ≡ length o
masked_octets-length [] n = refl
masked_octets-length (x ∷ o) n = ap suc (masked_octets-length o (n - 8))

pub masked_octets-clear : (o : List ℕ) (n : ℕ) → AreBytes o → AreClearAfter (bits_of (masked_octets o n)) n
masked_octets-clear o n f =
    let same : 8 * length o - n ≡ length (bits_of (masked_octets o n)) - n
    = omega (arith, length-bits (masked_octets o n), masked_octets-length o n) in
    masked_octets-rest o n f ∙ ap (λ z. replicate z 0) same

octets-alike : (o p : List ℕ) → AreBytes o → AreBytes p → bits_of o ≡ bits_of p → o ≡ p
octets-alike [] [] f g e = refl
octets-alike [] (y ∷ p) f g e = absurd (omega (arith, ap length e))
octets-alike (x ∷ o) [] f g e = absurd (omega (arith, ap length e))
octets-alike (x ∷ o) (y ∷ p) f g e =
    let first = byte-alike x y (bits_of o) (bits_of p) (f 0) (g 0) e in
    let heads : x ≡ y = first.0 in
    let tails : o ≡ p = octets-alike o p (λ i. f (suc i)) (λ i. g (suc i)) first.1 in cc

-- octets without bits after the first n are known by these
networks-alike : (o p : List ℕ) (n : ℕ) → AreBytes o → AreBytes p → length o ≡ length p
    → AreClearAfter (bits_of o) n → AreClearAfter (bits_of p) n → network o n ≡ network p n → o ≡ p
networks-alike o p n f g l c d e =
    let same : length (bits_of o) - n ≡ length (bits_of p) - n = omega (arith, l, length-bits o, length-bits p) in
    octets-alike o p f g (sym (take-append-drop n (bits_of o)) ∙ ap (λ z. z ++ drop n (bits_of o)) e
    ∙ ap (λ z. take n (bits_of p) ++ z) (c ∙ ap (λ z. replicate z 0) same ∙ sym d) ∙ take-append-drop n (bits_of p))

-- clearing changes nothing where all is clear
pub masked_octets-alone : (o : List ℕ) (n : ℕ) → AreBytes o → AreBytes (masked_octets o n) → AreClearAfter (bits_of o) n
    → masked_octets o n ≡ o
masked_octets-alone o n f g c = networks-alike (masked_octets o n) o n g f (masked_octets-length o n)
    (masked_octets-clear o n f) c (masked_octets-first o n f)

same : (x : ℕ) → x == x ≡ true
same x = grind (arith, nat_tests)

begins-take : (n : ℕ) (l : List ℕ) → begins (take n l) l ≡ true
begins-take zero l = refl
begins-take (suc n) [] = refl
begins-take (suc n) (x ∷ l) = rw (same x) (begins-take n l)

begins-is : (p l : List ℕ) → begins p l ≡ true → p ≡ take (length p) l
begins-is [] l h = refl
begins-is (x ∷ p) [] h = cc
begins-is (x ∷ p) (y ∷ l) h = elim (x == y) as (λ b. (x == y) ≡ b → is_some (if b then strip_prefix p l else None)
    ≡ true → (x ∷ p) ≡ (y ∷ take (length p) l)) [
      | true ↦ λ e t. let heads = eqb-true x y e in let tails = begins-is p l t in cc
      | false ↦ λ e t. absurd (cc)
    ] refl h

-- the octets with those before the place `at` cleared
abbrev pub cleared_before : List ℕ → ℕ → ℕ → List ℕ
cleared_before o n zero = o
cleared_before [] n (suc at) = []
cleared_before (x ∷ o) n (suc at) = masked_byte x n ∷ cleared_before o (n - 8) at

pub before-next : (o : List ℕ) (n at y : ℕ) → at < length o
    → y ≡ masked_byte (slice_index (cleared_before o n at) at) (n - 8 * at) → slice_set (cleared_before o n at) at y
    ≡ cleared_before o n (suc at)
before-next [] n at y h e = absurd (omega arith)
before-next (x ∷ o) n zero y h e = let all : n - 8 * 0 ≡ n = omega arith in ap (λ z. z ∷ o) (e ∙ ap (masked_byte x) all)
before-next (x ∷ o) n (suc at) y h e = let fewer : n - 8 * suc at ≡ n - 8 - 8 * at = omega arith in
    ap (λ z. masked_byte x n ∷ z) (before-next o (n - 8) at y (omega arith) (e
    ∙ ap (masked_byte (slice_index (cleared_before o (n - 8) at) at)) fewer))

pub before-all : (o : List ℕ) (n at : ℕ) → length o ≤ at → cleared_before o n at ≡ masked_octets o n
before-all [] n zero h = refl
before-all [] n (suc at) h = refl
before-all (x ∷ o) n zero h = absurd (omega arith)
before-all (x ∷ o) n (suc at) h = ap (λ z. masked_byte x n ∷ z) (before-all o (n - 8) at (omega arith))

pub network-length : (o : List ℕ) (n : ℕ) → n ≤ 8 * length o → length (network o n) ≡ n
network-length o n h = omega (arith, length-take n (bits_of o), length-bits o)

-- a network is its bits and zeros
pub network-padded : (o : List ℕ) (n w : ℕ) → length (bits_of o) ≡ w → n ≤ w → AreClearAfter (bits_of o) n
    → bits_of o ≡ network o n ++ replicate (w - length (network o n)) 0
network-padded o n w l h c =
    let after : length (bits_of o) - n ≡ w - length (network o n) = omega (arith, l, h, length-take n (bits_of o)) in
    sym (take-append-drop n (bits_of o)) ∙ ap (λ z. network o n ++ z) (c ∙ ap (λ z. replicate z 0) after)

-- the address a begins with the first n bits of o
begins-network : (o a m : List ℕ) (n : ℕ) → AreBytes o → AreBytes m → length o ≡ length m
    → AreClearAfter (bits_of o) n → AreClearAfter (bits_of m) n → n ≤ length (bits_of o)
    → network m n ≡ take n (bits_of a) → begins (network o n) (bits_of a) ≡ true → m ≡ o
begins-network o a m n f g l c d h e b =
    let long : length (network o n) ≡ n = omega (arith, h, length-take n (bits_of o)) in
    networks-alike m o n g f (sym l) d c (e ∙ sym (begins-is (network o n) (bits_of a) b
    ∙ ap (λ z. take z (bits_of a)) long))

network-begins : (o a m : List ℕ) (n : ℕ) → network m n ≡ take n (bits_of a) → m ≡ o
    → begins (network o n) (bits_of a) ≡ true
network-begins o a m n e h = ap (λ z. begins z (bits_of a)) (sym (ap (λ z. network z n) h) ∙ e)
    ∙ begins-take n (bits_of a)

-- zeros after q don't matter where p isn't longer
pub begins-padded : (p q r : List ℕ) → length p ≤ length q → begins p (q ++ r) ≡ begins p q
begins-padded [] q r h = refl
begins-padded (x ∷ p) [] r h = absurd (omega arith)
begins-padded (x ∷ p) (y ∷ q) r h = elim (x == y) as (λ b. is_some (if b then strip_prefix p (q ++ r) else None)
    ≡ is_some (if b then strip_prefix p q else None)) [
      | true ↦ begins-padded p q r (omega arith)
      | false ↦ refl
    ]

pub begins-longer : (p q : List ℕ) → length q < length p → begins p q ≡ false
begins-longer [] q h = absurd (omega arith)
begins-longer (x ∷ p) [] h = refl
begins-longer (x ∷ p) (y ∷ q) h = elim (x == y) as (λ b. is_some (if b then strip_prefix p q else None) ≡ false) [
  | true ↦ begins-longer p q (omega arith)
  | false ↦ refl
]

masked_byte-most : (x n : ℕ) → masked_byte x n ≤ x
masked_byte-most x zero = omega arith
masked_byte-most x (suc zero) = omega arith
masked_byte-most x (suc (suc zero)) = omega arith
masked_byte-most x (suc (suc (suc zero))) = omega arith
masked_byte-most x (suc (suc (suc (suc zero)))) = omega arith
masked_byte-most x (suc (suc (suc (suc (suc zero))))) = omega arith
masked_byte-most x (suc (suc (suc (suc (suc (suc zero)))))) = omega arith
masked_byte-most x (suc (suc (suc (suc (suc (suc (suc zero))))))) = omega arith
masked_byte-most x (suc (suc (suc (suc (suc (suc (suc (suc n))))))))
    = omega (arith, masked_byte-all x (suc (suc (suc (suc (suc (suc (suc (suc n)))))))) (omega arith))

pub masked_octets-bytes : (o : List ℕ) (n : ℕ) → AreBytes o → AreBytes (masked_octets o n)
masked_octets-bytes [] n f i = f i
masked_octets-bytes (x ∷ o) n f zero = omega (arith, masked_byte-most x n, f 0)
masked_octets-bytes (x ∷ o) n f (suc i) = masked_octets-bytes o (n - 8) (λ j. f (suc j)) i

pub width-bits : (o : List ℕ) (w n : ℕ) → length o ≡ w → n ≤ 8 * w → n ≤ length (bits_of o)
width-bits o w n e h = omega (arith, e, h, length-bits o)

-- octets that clearing leaves as they are have no bits after the first n
pub unchanged-clear : (o : List ℕ) (n : ℕ) → AreBytes o → masked_octets o n ≡ o → AreClearAfter (bits_of o) n
unchanged-clear o n f e = rw (e) at (masked_octets-clear o n f)

-- clearing the address's bits after the first n gives o where the address begins with o's network
pub contains-is : (b : Bool) (o a : List ℕ) (n : ℕ) → AreBytes o → AreBytes a → length o ≡ length a
    → AreClearAfter (bits_of o) n → n ≤ length (bits_of o) → Decides b (masked_octets a n ≡ o)
    → b ≡ begins (network o n) (bits_of a)
contains-is b o a n f g l c h d = elim b as (λ z. b ≡ z → z ≡ begins (network o n) (bits_of a)) [
  | true ↦ λ s. sym (network-begins o a (masked_octets a n) n (masked_octets-first a n g) (d.0 s))
  | false ↦ λ s. elim (begins (network o n) (bits_of a)) as (λ z. begins (network o n) (bits_of a) ≡ z → false ≡ z) [
    | true ↦ λ t. let same = begins-network o a (masked_octets a n) n f (masked_octets-bytes a n g)
        (l ∙ sym (masked_octets-length a n)) c (masked_octets-clear a n g) h (masked_octets-first a n g) t in
        let yes : b ≡ true = d.1 same in sym s ∙ yes
    | false ↦ λ t. refl
  ] refl
] refl

-- an IPv6 address by its segments and by its octets
pub segments-octets : (o : List ℕ) → AreBytes o → length o % 2 ≡ 0 → octets_of (segments_of o) ≡ o
segments-octets [] f h = refl
segments-octets (a ∷ []) f h = absurd (omega (arith, h))
segments-octets (a ∷ b ∷ o) f h =
    let small = f 1 in
    let high : (a * 256 + b) / 256 ≡ a = omega (arith, small) in
    let low : (a * 256 + b) % 256 ≡ b = omega (arith, small) in
    let rest : octets_of (segments_of o) ≡ o = segments-octets o (λ i. f (suc (suc i))) (omega (arith, h)) in cc
