-- What comes before and after a network, in the order of bits.
use Rattle.std.proofs.Common.{◌≡◌, ℕ, zero, suc, ◌<◌, ◌≤◌, ◌++◌, ◌⊎◌, ⊎_elim, inl, inr, length, take, arith}
use Rattle.std.proofs.Common.{◌%◌, drop, List, [], ◌∷◌, refl, sym, ap, subst, ◌∙◌, Some, None}
use Rattle.std.specs.Prelude.{slice_index}
use Rattle.std.proofs.lemmas.List.{append-nil, take-append-drop}
use Rattle.rart_keys.specs.ByteStrings.{IsLess, strip_prefix}
use Rattle.rart_keys.specs.KeyBytes.{AreBytes}
use Rattle.rart_keys.proofs.strings.ByteOrder.{below-trans, cmp-itself, compare, eq-no, eq-yes, equal_or_not}
use Rattle.rart_keys.proofs.strings.ByteOrder.{is_equal, is_greater, is_less, order}
use Rattle.rart_cidr.specs.Bits.{bits_of, byte_bits}
use Rattle.rart_cidr.proofs.networks.BitLemmas.{byte-alike}
use Rattle.rart_cidr.proofs.networks.OrderLemmas.{same-before}

pub not-less_itself : (k : List ℕ) → IsLess k k → ⊥
not-less_itself k h = let e = cmp-itself k in cc

pub not-both_less : (k l : List ℕ) → IsLess k l → IsLess l k → ⊥
not-both_less k l g h = not-less_itself k (below-trans k l k g h)

pub not-less_nil : (l : List ℕ) → IsLess l [] → ⊥
not-less_nil [] h = cc
not-less_nil (x ∷ l) h = cc

pub without_prefix : (p a b : List ℕ) → IsLess (p ++ a) (p ++ b) → IsLess a b
without_prefix p a b h = sym (same-before p a b) ∙ h

pub longer : (b : List ℕ) (x : ℕ) (r : List ℕ) → IsLess b (b ++ x ∷ r)
longer [] x r = refl
longer (y ∷ b) x r = rw (is_equal y y refl) (longer b x r)

-- what comes before l also comes before what l begins; a beginning of what comes before l does too
pub before_more : (a b l : List ℕ) → IsLess (a ++ b) l → IsLess a l
before_more a [] l h = subst (λ z. IsLess z l) (append-nil a) h
before_more a (x ∷ b) l h = below-trans a (a ++ x ∷ b) l (longer a x b) h

-- what isn't below b is at most whatever continues b
pub up_to_more : (b d : List ℕ) (x : ℕ) (r : List ℕ) → (IsLess b d → ⊥) → IsLess d (b ++ x ∷ r)
up_to_more b d x r n = ⊎_elim
    (λ h. absurd (n h))
    (⊎_elim
    (λ e. subst (λ z. IsLess z (b ++ x ∷ r)) e (longer b x r))
    (λ h. below-trans d b (b ++ x ∷ r) h (longer b x r)))
    (compare b d)

-- what follows q in order also follows it without its end, or continues where q does
pub begun_or_after : (p q w : List ℕ) → IsLess q (p ++ w) → ((r : List ℕ) × (q ≡ p ++ r)) ⊎ (IsLess q p)
begun_or_after [] q w h = inl (q, refl)
begun_or_after (x ∷ p) [] w h = inr refl
begun_or_after (x ∷ p) (y ∷ q) w h = ⊎_elim
    (λ l. inr (rw (is_less y x l) refl))
    (⊎_elim
    (λ e. ⊎_elim
    (λ r. let tails = r.1 in inl (r.0, cc))
    (λ s. inr (rw (is_equal y x e) s))
    (begun_or_after p q w (rw (is_equal y x e) at h)))
    (λ l. absurd (let t = rw (is_greater y x l) at h in cc)))
    (order y x)

-- a list that is no longer than b is compared with b alone
pub without_end : (b u d : List ℕ) → length d ≤ length b → IsLess (b ++ u) d → IsLess b d
without_end [] u [] l h = absurd (not-less_nil u h)
without_end [] u (y ∷ d) l h = absurd (omega (arith, l))
without_end (x ∷ b) u [] l h = absurd (not-less_nil (x ∷ b ++ u) h)
without_end (x ∷ b) u (y ∷ d) l h = ⊎_elim
    (λ s. rw (is_less x y s) refl)
    (⊎_elim
    (λ e. rw (is_equal x y e) (without_end b u d (omega (arith, l)) (rw (is_equal x y e) at h)))
    (λ s. absurd (let t = rw (is_greater x y s) at h in cc)))
    (order x y)

pub with_end : (b u d : List ℕ) → length d ≤ length b → IsLess b d → IsLess (b ++ u) d
with_end [] u [] l h = absurd (not-less_nil [] h)
with_end [] u (y ∷ d) l h = absurd (omega (arith, l))
with_end (x ∷ b) u [] l h = absurd (not-less_nil (x ∷ b) h)
with_end (x ∷ b) u (y ∷ d) l h = ⊎_elim
    (λ s. rw (is_less x y s) refl)
    (⊎_elim
    (λ e. rw (is_equal x y e) (with_end b u d (omega (arith, l)) (rw (is_equal x y e) at h)))
    (λ s. absurd (let t = rw (is_greater x y s) at h in cc)))
    (order x y)

-- what comes after one list that begins with a, and doesn't begin with a itself, comes after all
pub past : (a u w l : List ℕ) → ((r : List ℕ) → l ≡ a ++ r → ⊥) → IsLess (a ++ u) l → IsLess (a ++ w) l
past [] u w l n h = absurd (n l refl)
past (x ∷ a) u w [] n h = absurd (not-less_nil (x ∷ a ++ u) h)
past (x ∷ a) u w (y ∷ l) n h = ⊎_elim
    (λ s. rw (is_less x y s) refl)
    (⊎_elim
    (λ e. rw (is_equal x y e) (past a u w l (λ r m. n r (let f = e in let g = m in cc)) (rw (is_equal x y e) at h)))
    (λ s. absurd (let t = rw (is_greater x y s) at h in cc)))
    (order x y)

pub strip_some : (p k r : List ℕ) → strip_prefix p k ≡ Some r → k ≡ p ++ r
strip_some [] k r h = cc
strip_some (x ∷ p) [] r h = cc
strip_some (x ∷ p) (y ∷ k) r h = ⊎_elim
    (λ e. let tails = strip_some p k r (rw (eq-yes x y e) at h) in cc)
    (λ n. let t = rw (eq-no x y n) at h in cc)
    (equal_or_not x y)

strip_none : (p r : List ℕ) → strip_prefix p (p ++ r) ≡ None → ⊥
strip_none [] r h = cc
strip_none (x ∷ p) r h = strip_none p r (rw (eq-yes x x refl) at h)

pub strip_taken : (p k : List ℕ) → p ≡ take (length p) k → length p ≤ length k → strip_prefix p k ≡ None → ⊥
strip_taken p k e h n = strip_none p (drop (length p) k)
    (ap (strip_prefix p) (ap (λ z. z ++ drop (length p) k) e ∙ take-append-drop (length p) k) ∙ n)

-- bytes whose bits begin with those of other bytes begin with these bytes
pub bytes_begun : (a o w r : List ℕ) → AreBytes a → AreBytes o → length w < 8 → bits_of o ++ w ≡ bits_of a ++ r
    → (a ≡ take (length a) o) × (length a ≤ length o)
bytes_begun [] o w r f g s e = (refl, omega arith)
bytes_begun (x ∷ a) [] w r f g s e = absurd (omega (arith, ap length e, s))
bytes_begun (x ∷ a) (y ∷ o) w r f g s e =
    let first = byte-alike y x (bits_of o ++ w) (bits_of a ++ r) (g 0) (f 0) e in
    let after = bytes_begun a o w r (λ n. f (suc n)) (λ n. g (suc n)) s first.1 in
    let heads : y ≡ x = first.0 in let tails : a ≡ take (length a) o = after.0 in let few = after.1 in
    ((cc), omega (arith, few))

pub bits_append : (a b : List ℕ) → bits_of (a ++ b) ≡ bits_of a ++ bits_of b
bits_append [] b = refl
bits_append (x ∷ a) b = ap (λ z. byte_bits x ++ z) (bits_append a b)

-- the first seven bits of a byte
abbrev pub seven : ℕ → List ℕ
seven x = take 7 (byte_bits x)

-- the bits of octets by those of the first ones
pub first_bits : (o w : List ℕ) (at : ℕ) → at < length o
    → (r : List ℕ) × (bits_of o ++ w ≡ bits_of (take at o) ++ (seven (slice_index o at) ++ r))
first_bits [] w at h = absurd (omega (arith, h))
first_bits (x ∷ o) w zero h = (x % 2 ∷ bits_of o ++ w, refl)
first_bits (x ∷ o) w (suc at) h = let rest = first_bits o w at (omega (arith, h)) in
    (rest.0, ap (λ z. byte_bits x ++ z) rest.1)

-- those of octets and of their first ones, by those of fewer
pub split_bits : (o w v : List ℕ) (few at : ℕ) → few < at → at ≤ length o → (r : List ℕ) × (s : List ℕ)
    × (bits_of o ++ w ≡ bits_of (take few o) ++ (seven (slice_index o few) ++ r))
    × (bits_of (take at o) ++ v ≡ bits_of (take few o) ++ (seven (slice_index o few) ++ s))
split_bits [] w v few at l h = absurd (omega (arith, l, h))
split_bits (x ∷ o) w v few zero l h = absurd (omega (arith, l))
split_bits (x ∷ o) w v zero (suc at) l h = (x % 2 ∷ bits_of o ++ w, x % 2 ∷ bits_of (take at o) ++ v, refl, refl)
split_bits (x ∷ o) w v (suc few) (suc at) l h =
    let rest = split_bits o w v few at (omega (arith, l)) (omega (arith, h)) in
    (rest.0, rest.1, ap (λ z. byte_bits x ++ z) rest.2, ap (λ z. byte_bits x ++ z) rest.3)
