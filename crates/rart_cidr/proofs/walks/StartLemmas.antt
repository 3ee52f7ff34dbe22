-- Where a walk from a network starts, and the network that a key and a code are.
use Rattle.std.proofs.Common.{◌≡◌, ℕ, zero, suc, ◌+◌, ◌-◌, ◌*◌, ◌/◌, ◌%◌, ◌<◌, ◌≤◌, ◌++◌, ⊎_elim, length, take, drop}
use Rattle.std.proofs.Common.{arith}
use Rattle.std.proofs.Common.{List, [], ◌∷◌, true, false, refl, sym, ap, subst, ◌∙◌, replicate}
use Rattle.std.specs.Prelude.{slice_index, slice_set}
use Rattle.std.specs.declared.ops.Bound.TheVariants.{Included, Excluded}
use Rattle.std.proofs.lemmas.List.{append-nil, length-append, length-take-le, take-append-drop, take-append-le}
use Rattle.std.proofs.Math.Seq.{take-append-add, take-length}
use Rattle.rart_keys.specs.ByteStrings.{IsLess, begins, bytes_eq}
use Rattle.rart_keys.specs.Ranges.{is_from_bound}
use Rattle.rart_keys.specs.KeyBytes.{AreBytes, AreBytes-take}
use Rattle.rart_keys.proofs.strings.ByteOrder.{below-trans, compare, eq-yes, is_equal, is_greater, order}
use Rattle.rart_keys.proofs.maps.LongestMatchLemmas.{below-shorter}
use Rattle.rart_cidr.specs.Bits.{AreClearAfter, bits_of, byte_bits, code, code_bits, network}
use Rattle.rart_cidr.specs.Codes.{byte_of_code}
use Rattle.rart_cidr.specs.Routes.{coded_network}
use Rattle.rart_cidr.specs.Walks.{IsStart}
use Rattle.rart_cidr.proofs.networks.BitLemmas.{code-is, code-short, holds_at, holds_below, length-bits, network-coded}
use Rattle.rart_cidr.proofs.networks.BitLemmas.{same_bytes}
use Rattle.rart_cidr.proofs.walks.FilterLemmas.{from_after, from_is, from_itself}
use Rattle.rart_cidr.proofs.networks.OrderLemmas.{bytes-order}
use Rattle.rart_cidr.proofs.networks.PlaceLemmas.{bits_append, longer, not-less_nil}

begins-more : (a b : List ℕ) → begins a (a ++ b) ≡ true
begins-more [] b = refl
begins-more (x ∷ a) b = rw (eq-yes x x refl) (begins-more a b)

zeros-begun : (l : List ℕ) (m : ℕ) → IsLess l (replicate m 0) → begins l (replicate m 0) ≡ true
zeros-begun [] m h = refl
zeros-begun (x ∷ l) zero h = absurd (not-less_nil (x ∷ l) h)
zeros-begun (zero ∷ l) (suc m) h = zeros-begun l m h
zeros-begun (suc x ∷ l) (suc m) h = absurd (let t = rw (is_greater (suc x) 0 (omega arith)) at h in cc)

-- what comes after q and before q with zeros begins the latter
between-begun : (q l : List ℕ) (m : ℕ) → IsLess q l → IsLess l (q ++ replicate m 0)
    → begins l (q ++ replicate m 0) ≡ true
between-begun [] l m g h = zeros-begun l m h
between-begun (x ∷ q) [] m g h = absurd (not-less_nil (x ∷ q) g)
between-begun (x ∷ q) (y ∷ l) m g h = ⊎_elim
    (λ s. absurd (let t = rw (is_greater y x s) at h in cc))
    (⊎_elim
    (λ e. rw (eq-yes y x (sym e)) (between-begun q l m (rw (is_equal x y e) at g) (rw (is_equal y x (sym e)) at h)))
    (λ s. absurd (let t = rw (is_greater x y s) at g in cc)))
    (order x y)

less-longer : (l a b : List ℕ) (c : List ℕ) → a ++ c ≡ b → IsLess l a → IsLess l b
less-longer l a b [] e h = subst (IsLess l) (sym (append-nil a) ∙ e) h
less-longer l a b (x ∷ c) e h = below-trans l a b h (subst (IsLess a) e (longer a x c))

length-zero : (l : List ℕ) → length l ≡ 0 → l ≡ []
length-zero [] h = refl
length-zero (x ∷ l) h = absurd (omega (arith, h))

-- of two lists that begin a third, the shorter one is less
shorter-below : (p k q : List ℕ) → begins p q ≡ true → begins k q ≡ true → length p < length k → IsLess p k
shorter-below p k q f g h = ⊎_elim
    (λ l. l)
    (⊎_elim
    (λ e. absurd (omega (arith, ap length e, h)))
    (λ l. absurd (let more = below-shorter k p q l g f in omega (arith, more, h))))
    (compare p k)

-- the first whole octets, if no bits are after these
whole : (o : List ℕ) (n : ℕ) → AreBytes o → n ≤ 8 * length o → n % 8 ≡ 0 → network o n ≡ bits_of (take (n / 8) o)
unfolding holds_below
whole o n f h e = let x = slice_index o (n / 8) in network-coded o n f h
    ∙ ap (λ r. bits_of (take (n / 8) o) ++ code_bits (code x r)) e
    ∙ ap (λ z. bits_of (take (n / 8) o) ++ z) (sym (code-is x 0 (f (n / 8)) refl))
    ∙ append-nil (bits_of (take (n / 8) o))

-- the keys after one
pub start_key : (a : List ℕ) → AreBytes a → IsStart (bits_of a) (Excluded a)
start_key a bytes p g = (
  λ s. ⊎_elim
      (λ l. bytes-order a p bytes g ∙ l)
      (λ t. absurd (let u = t.1 in cc))
      (from_is false a p s),
  λ l. from_after false a p (sym (bytes-order a p bytes g) ∙ l),
)

pub start_whole : (o a : List ℕ) (n : ℕ) → AreBytes o → n ≤ 8 * length o → n % 8 ≡ 0 → a ≡ take (n / 8) o
    → IsStart (network o n) (Excluded a)
start_whole o a n f h e m = subst (λ z. IsStart z (Excluded a)) (sym (whole o n f h e ∙ ap bits_of (sym m)))
    (start_key a (subst AreBytes (sym m) (AreBytes-take (n / 8) o f)))

pub start_within : (o a : List ℕ) (n : ℕ) → AreBytes o → n ≤ 8 * length o → (n % 8 ≡ 0 → ⊥) → a ≡ take (n / 8 + 1) o
    → AreClearAfter (bits_of o) n → IsStart (network o n) (Included a)
start_within o a n f h e m clear p g =
    let some : 0 < n % 8
    = ⊎_elim (λ l. absurd (omega (arith, l))) (⊎_elim (λ s. absurd (e s)) (λ l. l)) (order (n % 8) 0) in
    let bytes : AreBytes a = subst AreBytes (sym m) (AreBytes-take (n / 8 + 1) o f) in
    let long : length a ≡ n / 8 + 1 = ap length m ∙ length-take-le (n / 8 + 1) o (omega (arith, h, some)) in
    let bits = length-bits a in
    let enough = length-bits o in
    let wide : length (network o n) ≡ n = length-take-le n (bits_of o) (omega (arith, h, enough)) in
    let q-begins : begins (network o n) (bits_of o) ≡ true
    = ap (begins (network o n)) (sym (take-append-drop n (bits_of o)))
    ∙ begins-more (network o n) (drop n (bits_of o)) in
    let all : bits_of a ++ bits_of (drop (n / 8 + 1) o) ≡ bits_of o
    = ap (λ z. bits_of z ++ bits_of (drop (n / 8 + 1) o)) m
    ∙ sym (bits_append (take (n / 8 + 1) o) (drop (n / 8 + 1) o)) ∙ ap bits_of (take-append-drop (n / 8 + 1) o) in
    let a-begins : begins (bits_of a) (bits_of o) ≡ true
    = ap (begins (bits_of a)) (sym all) ∙ begins-more (bits_of a) (bits_of (drop (n / 8 + 1) o)) in
    let zeros : bits_of o ≡ network o n ++ replicate (length (bits_of o) - n) 0
    = sym (take-append-drop n (bits_of o)) ∙ ap (λ z. network o n ++ z) clear in
    let low : IsLess (network o n) (bits_of a) = shorter-below (network o n) (bits_of a) (bits_of o) q-begins a-begins
    (omega (arith, wide, bits, long)) in (
      λ s. ⊎_elim
          (λ l. below-trans (network o n) (bits_of a) (bits_of p) low (bytes-order a p bytes g ∙ l))
          (λ t. subst (λ z. IsLess (network o n) (bits_of z)) t.0 low)
          (from_is true a p s),
      λ l. ⊎_elim
          (λ k. from_after true a p k)
          (⊎_elim
          (λ k. ap (is_from_bound true a) (sym k) ∙ from_itself true a)
          (λ k. absurd (let less : IsLess (bits_of p) (bits_of a) = bytes-order p a g bytes ∙ k in
          let before : IsLess (bits_of p) (network o n ++ replicate (length (bits_of o) - n) 0)
          = subst (λ z. IsLess (bits_of p) z) zeros
          (less-longer (bits_of p) (bits_of a) (bits_of o) (bits_of (drop (n / 8 + 1) o)) all less) in
          let p-begins : begins (bits_of p) (bits_of o) ≡ true = ap (begins (bits_of p)) zeros
          ∙ between-begun (network o n) (bits_of p) (length (bits_of o) - n) l before in
          let one = below-shorter (bits_of p) (bits_of a) (bits_of o) less p-begins a-begins in
          let two = below-shorter (network o n) (bits_of p) (bits_of o) l q-begins p-begins in
          let size = length-bits p in omega (arith, one, two, size, bits, long, wide))))
          (compare a p),
    )

-- the bits of a code as the first ones of a byte
code-byte : (c : ℕ) → c < 256 → take (length (code_bits c)) (byte_bits (byte_of_code c)) ≡ code_bits c
unfolding holds_below
code-byte c h = same_bytes _ _ (holds_at
    (λ y. bytes_eq (take (length (code_bits y)) (byte_bits (byte_of_code y))) (code_bits y)) 256 c refl h)

set-next : (o : List ℕ) (z b : ℕ) (l : List ℕ) → slice_set (o ++ z ∷ l) (length o) b ≡ o ++ b ∷ l
set-next [] z b l = refl
set-next (x ∷ o) z b l = ap (λ k. x ∷ k) (set-next o z b l)

-- the octets of a key with the byte of a code after them, and then zeros
pub coded_octets : (o octets : List ℕ) (c n w : ℕ) → c < 256 → length o < w
    → octets ≡ slice_set (o ++ replicate (w - length o) 0) (length o) (byte_of_code c)
    → n ≡ 8 * length o + length (code_bits c) → take n (bits_of octets) ≡ coded_network o (c ∷ [])
coded_octets o octets c n w h small e m =
    let b = byte_of_code c in
    let more : (k : ℕ) × (w - length o ≡ suc k) = (w - length o - 1, omega (arith, small)) in
    let set : octets ≡ o ++ b ∷ replicate more.0 0 = e
    ∙ ap (λ z. slice_set (o ++ replicate z 0) (length o) b) more.1 ∙ set-next o 0 b (replicate more.0 0) in
    let bits = length-bits o in
    let count : n ≡ length (bits_of o) + length (code_bits c) = omega (arith, m, bits) in
    ap (take n) (ap bits_of set ∙ bits_append o (b ∷ replicate more.0 0))
    ∙ ap (λ z. take z (bits_of o ++ (byte_bits b ++ bits_of (replicate more.0 0)))) count
    ∙ take-append-add (bits_of o) (byte_bits b ++ bits_of (replicate more.0 0)) (length (code_bits c))
    ∙ ap (λ z. bits_of o ++ z) (take-append-le (length (code_bits c)) (byte_bits b) (bits_of (replicate more.0 0))
    (let s = code-short c h in let eight : length (byte_bits b) ≡ 8 = refl in omega (arith, s, eight)) ∙ code-byte c h)

-- all octets of a key
pub full_octets : (o octets : List ℕ) (c n w : ℕ) → length o ≡ w → octets ≡ o ++ replicate (w - length o) 0
    → length (coded_network o (c ∷ [])) ≤ 8 * w → n ≡ 8 * length o + length (code_bits c)
    → take n (bits_of octets) ≡ coded_network o (c ∷ [])
full_octets o octets c n w full e most m =
    let bits = length-bits o in
    let sum = length-append (bits_of o) (code_bits c) in
    let none : length (code_bits c) ≡ 0 = omega (arith, bits, sum, most, full) in
    let rest : w - length o ≡ 0 = omega (arith, full) in
    let same : octets ≡ o = e ∙ ap (λ z. o ++ replicate z 0) rest ∙ append-nil o in
    let count : n ≡ length (bits_of o) = omega (arith, m, none, bits) in
    ap (λ z. take n (bits_of z)) same ∙ ap (λ z. take z (bits_of o)) count ∙ take-length (bits_of o)
    ∙ sym (append-nil (bits_of o)) ∙ ap (λ z. bits_of o ++ z) (sym (length-zero (code_bits c) none))
