-- The order of networks by address and then by length is that of their bits.
use Rattle.std.proofs.Common.{◌≡◌, ℕ, zero, suc, ◌+◌, ◌-◌, ◌*◌, ◌<◌, ◌≤◌, ◌++◌, ⊎_elim, length, take, replicate}
use Rattle.std.proofs.Common.{arith, List, [], ◌∷◌, refl, sym, ap, ◌∙◌, Less, Equal, Greater}
use Rattle.std.specs.Ordering.{nat_cmp, ordering_then}
use Rattle.std.specs.Cmp.Lexicographic.{slice_cmp}
use Rattle.std.specs.declared.cmp.Ordering.{Ordering}
use Rattle.rart_keys.specs.KeyBytes.{AreBytes}
use Rattle.rart_keys.proofs.strings.ByteOrder.{cmp-itself, is_equal, is_greater, is_less, order}
use Rattle.rart_cidr.specs.Bits.{AreClearAfter, bits_of, byte_bits, network}
use Rattle.rart_cidr.proofs.networks.BitLemmas.{byte-number, length-bits, number_after}

unfoldable pub AreBits : List ℕ → Type 0
AreBits [] = Unit {0}
AreBits (b ∷ l) = (b < 2) × AreBits l

then-then : (a b c : Ordering) → ordering_then a (ordering_then b c) ≡ ordering_then (ordering_then a b) c
then-then Less b c = refl
then-then Equal b c = refl
then-then Greater b c = refl

-- bits after a smaller number are a smaller number
smaller-before : (m n : ℕ) (p q : List ℕ) → AreBits p → length p ≡ length q → m < n
    → number_after m p < number_after n q
unfolding AreBits number_after
smaller-before m n [] [] f e h = h
smaller-before m n [] (y ∷ q) f e h = absurd (omega (arith, e))
smaller-before m n (x ∷ p) [] f e h = absurd (omega (arith, e))
smaller-before m n (x ∷ p) (y ∷ q) f e h = let small = f.0 in
    smaller-before (2 * m + x) (2 * n + y) p q f.1 (omega (arith, e)) (omega (arith, small, h))

-- of as many bits, those of the smaller number are less, whatever follows
number-less : (m : ℕ) (p q a b : List ℕ) → AreBits p → AreBits q → length p ≡ length q
    → number_after m p < number_after m q → slice_cmp nat_cmp (p ++ a) (q ++ b) ≡ Less
unfolding AreBits number_after
number-less m [] [] a b f g e h = absurd (omega (arith, h))
number-less m [] (y ∷ q) a b f g e h = absurd (omega (arith, e))
number-less m (x ∷ p) [] a b f g e h = absurd (omega (arith, e))
number-less m (x ∷ p) (y ∷ q) a b f g e h = ⊎_elim
    (λ l. rw (is_less x y l) refl)
    (⊎_elim
    (λ l. rw (is_equal x y l) (number-less (2 * m + y) p q a b f.1 g.1 (omega (arith, e))
    (rw l at h)))
    (λ l. absurd (let more = smaller-before (2 * m + y) (2 * m + x) q p g.1 (omega (arith, e)) (omega (arith, l)) in
    omega (arith, more, h))))
    (order x y)

number-greater : (m : ℕ) (p q a b : List ℕ) → AreBits p → AreBits q → length p ≡ length q
    → number_after m q < number_after m p → slice_cmp nat_cmp (p ++ a) (q ++ b) ≡ Greater
unfolding AreBits number_after
number-greater m [] [] a b f g e h = absurd (omega (arith, h))
number-greater m [] (y ∷ q) a b f g e h = absurd (omega (arith, e))
number-greater m (x ∷ p) [] a b f g e h = absurd (omega (arith, e))
number-greater m (x ∷ p) (y ∷ q) a b f g e h = ⊎_elim
    (λ l. absurd (let more = smaller-before (2 * m + x) (2 * m + y) p q f.1 (omega (arith, e)) (omega (arith, l)) in
    omega (arith, more, h)))
    (⊎_elim
    (λ l. rw (is_equal x y l) (number-greater (2 * m + y) p q a b f.1 g.1 (omega (arith, e))
    (rw l at h)))
    (λ l. rw (is_greater x y l) refl))
    (order x y)

pub are-bits : (x : ℕ) → AreBits (byte_bits x)
unfolding AreBits
are-bits x = (
  omega arith,
  (
    omega arith,
    (
      omega arith,
      (
        omega arith,
        (
          omega arith,
          (
            omega arith,
            (
              omega arith,
              (omega arith, tt),
            ),
          ),
        ),
      ),
    ),
  ),
)

pub same-before : (p a b : List ℕ) → slice_cmp nat_cmp (p ++ a) (p ++ b) ≡ slice_cmp nat_cmp a b
same-before [] a b = refl
same-before (x ∷ p) a b = rw (is_equal x x refl) (same-before p a b)

byte-order : (x y : ℕ) (a b : List ℕ) → x < 256 → y < 256
    → slice_cmp nat_cmp (byte_bits x ++ a) (byte_bits y ++ b) ≡ ordering_then (nat_cmp x y) (slice_cmp nat_cmp a b)
byte-order x y a b f g = ⊎_elim
    (λ l. number-less 0 (byte_bits x) (byte_bits y) a b (are-bits x) (are-bits y) refl
    (let m = byte-number x f in let n = byte-number y g in omega (arith, m, n, l))
    ∙ sym (ap (λ z. ordering_then z (slice_cmp nat_cmp a b)) (is_less x y l)))
    (⊎_elim
    (λ l. ap (λ z. slice_cmp nat_cmp (byte_bits z ++ a) (byte_bits y ++ b)) l ∙ same-before (byte_bits y) a b
    ∙ sym (ap (λ z. ordering_then z (slice_cmp nat_cmp a b)) (is_equal x y l)))
    (λ l. number-greater 0 (byte_bits x) (byte_bits y) a b (are-bits x) (are-bits y) refl
    (let m = byte-number x f in let n = byte-number y g in omega (arith, m, n, l))
    ∙ sym (ap (λ z. ordering_then z (slice_cmp nat_cmp a b)) (is_greater x y l))))
    (order x y)

-- octets are ordered as their bits
pub bytes-order : (o p : List ℕ) → AreBytes o → AreBytes p
    → slice_cmp nat_cmp (bits_of o) (bits_of p) ≡ slice_cmp nat_cmp o p
bytes-order [] [] f g = refl
bytes-order [] (y ∷ p) f g = refl
bytes-order (x ∷ o) [] f g = refl
bytes-order (x ∷ o) (y ∷ p) f g = byte-order x y (bits_of o) (bits_of p) (f 0) (g 0)
    ∙ ap (ordering_then (nat_cmp x y)) (bytes-order o p (λ i. f (suc i)) (λ i. g (suc i)))

-- before a longer network, zeros decide nothing
zeros-first : (l : List ℕ) (m : ℕ) → ordering_then (slice_cmp nat_cmp (replicate (length l) 0) l) (nat_cmp 0 (suc m))
    ≡ Less
zeros-first [] m = is_less 0 (suc m) (omega arith)
zeros-first (zero ∷ l) m = zeros-first l m
zeros-first (suc y ∷ l) m = rw (is_less 0 (suc y) (omega arith)) refl

zeros-last : (l : List ℕ) (n : ℕ) → ordering_then (slice_cmp nat_cmp l (replicate (length l) 0)) (nat_cmp (suc n) 0)
    ≡ Greater
zeros-last [] n = is_greater (suc n) 0 (omega arith)
zeros-last (zero ∷ l) n = zeros-last l n
zeros-last (suc y ∷ l) n = rw (is_greater (suc y) 0 (omega arith)) refl

all-clear : (a : List ℕ) (w : ℕ) → length a ≡ w → AreClearAfter a 0 → a ≡ replicate w 0
all-clear a w e c = let all : length a - 0 ≡ w = omega (arith, e) in c ∙ ap (λ z. replicate z 0) all

suc-cmp : (n m : ℕ) → nat_cmp n m ≡ nat_cmp (suc n) (suc m)
suc-cmp n m = ⊎_elim
    (λ l. is_less n m l ∙ sym (is_less (suc n) (suc m) (omega arith)))
    (⊎_elim
    (λ l. is_equal n m l ∙ sym (is_equal (suc n) (suc m) (ap suc l)))
    (λ l. is_greater n m l ∙ sym (is_greater (suc n) (suc m) (omega arith))))
    (order n m)

clear-rest : (x : ℕ) (a : List ℕ) (n : ℕ) → AreClearAfter (x ∷ a) (suc n) → AreClearAfter a n
clear-rest x a n c = let rest : suc (length a) - suc n ≡ length a - n = omega arith in c
    ∙ ap (λ z. replicate z 0) rest

-- of as many bits without any after the first n and m, the first n and the first m are ordered as all, then by number
taken-order : (a b : List ℕ) (n m : ℕ) → length a ≡ length b → n ≤ length a → m ≤ length b → AreClearAfter a n
    → AreClearAfter b m → slice_cmp nat_cmp (take n a) (take m b) ≡ ordering_then (slice_cmp nat_cmp a b) (nat_cmp n m)
taken-order a b zero zero e h i c d =
    let same : a ≡ b = all-clear a (length b) e c ∙ sym (all-clear b (length b) refl d) in
    sym (ap (λ z. ordering_then (slice_cmp nat_cmp z b) (nat_cmp 0 0)) same
    ∙ ap (λ z. ordering_then z (nat_cmp 0 0)) (cmp-itself b) ∙ is_equal 0 0 refl)
taken-order a [] zero (suc m) e h i c d = absurd (omega (arith, i))
taken-order a (y ∷ b) zero (suc m) e h i c d = sym (ap (λ z. ordering_then (slice_cmp nat_cmp z (y ∷ b))
    (nat_cmp 0 (suc m))) (all-clear a (length (y ∷ b)) e c) ∙ zeros-first (y ∷ b) m)
taken-order [] b (suc n) zero e h i c d = absurd (omega (arith, h))
taken-order (x ∷ a) b (suc n) zero e h i c d = sym (ap (λ z. ordering_then (slice_cmp nat_cmp (x ∷ a) z)
    (nat_cmp (suc n) 0)) (all-clear b (length (x ∷ a)) (sym e) d) ∙ zeros-last (x ∷ a) n)
taken-order [] b (suc n) (suc m) e h i c d = absurd (omega (arith, h))
taken-order (x ∷ a) [] (suc n) (suc m) e h i c d = absurd (omega (arith, i))
taken-order (x ∷ a) (y ∷ b) (suc n) (suc m) e h i c d =
    ap (ordering_then (nat_cmp x y)) (taken-order a b n m (omega (arith, e)) (omega (arith, h)) (omega (arith, i))
    (clear-rest x a n c) (clear-rest y b m d))
    ∙ then-then (nat_cmp x y) (slice_cmp nat_cmp a b) (nat_cmp n m)
    ∙ ap (ordering_then (ordering_then (nat_cmp x y) (slice_cmp nat_cmp a b))) (suc-cmp n m)

-- networks without host bits are ordered by octets, then by length
pub network-order : (o p : List ℕ) (n m w : ℕ) → AreBytes o → AreBytes p → length o ≡ w → length p ≡ w → n ≤ 8 * w
    → m ≤ 8 * w → AreClearAfter (bits_of o) n → AreClearAfter (bits_of p) m
    → slice_cmp nat_cmp (network o n) (network p m) ≡ ordering_then (slice_cmp nat_cmp o p) (nat_cmp n m)
network-order o p n m w f g k l h i c d =
    taken-order (bits_of o) (bits_of p) n m (omega (arith, k, l, length-bits o, length-bits p))
    (omega (arith, k, h, length-bits o)) (omega (arith, l, i, length-bits p)) c d
    ∙ ap (λ z. ordering_then z (nat_cmp n m)) (bytes-order o p f g)
