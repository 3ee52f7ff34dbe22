-- The next route in the strides at beginnings of some octets.
use Rattle.std.proofs.Common.{◌≡◌, ℕ, suc, ◌<◌, ◌≤◌, ◌++◌, ⊎_elim, length, take, arith}
use Rattle.std.proofs.Common.{◌%◌, List, [], ◌∷◌, refl, sym, ap, subst, ◌∙◌, Option, Some, None}
use Rattle.std.specs.Prelude.{drop, slice_get, slice_index}
use Rattle.std.proofs.Math.Seq.{take-length}
use Rattle.std.proofs.lemmas.List.{append-nil}
use Rattle.rart_keys.specs.ByteStrings.{IsLess, strip_prefix}
use Rattle.rart_keys.specs.KeyBytes.{AreBytes}
use Rattle.rart_keys.specs.SortedMap.{lookup}
use Rattle.rart_keys.proofs.strings.ByteOrder.{below-trans, below-with_prefix, compare, order}
use Rattle.rart_cidr.specs.Bits.{bits_of, code, code_bits}
use Rattle.rart_cidr.specs.Routes.{IsCode, stride_at}
use Rattle.rart_cidr.specs.Walks.{HasNoneDownTo, IsBefore, IsCodeFrom, IsCodeLess, IsLastBefore, IsNextAt, IsNextBefore}
use Rattle.rart_cidr.specs.Walks.{IsNextIn, net_at}
use Rattle.rart_cidr.proofs.networks.BitLemmas.{code-in_range, code-is, code-short, holds_below}
use Rattle.rart_cidr.proofs.networks.CodeLemmas.{none_after_last}
use Rattle.rart_cidr.proofs.networks.PlaceLemmas.{before_more, bits_append, bytes_begun, first_bits, split_bits}
use Rattle.rart_cidr.proofs.networks.PlaceLemmas.{not-both_less, not-less_itself, not-less_nil, past, seven}
use Rattle.rart_cidr.proofs.networks.PlaceLemmas.{strip_some}
use Rattle.rart_cidr.proofs.networks.PlaceLemmas.{strip_taken, up_to_more, with_end, without_end, without_prefix}

-- the code of seven bits
seven-code : (x : ℕ) → x < 256 → code_bits (code x 7) ≡ seven x
unfolding holds_below
seven-code x h = sym (code-is x 7 h refl)

few-bits : (x d : ℕ) → IsCode (d ∷ []) → length (code_bits d) ≤ length (seven x)
few-bits x d f = let s = code-short d f.1 in omega (arith, s)

-- the first item of a list, if it has one
pub first_is : (l : List ℕ) (x : ℕ) → Some x ≡ slice_get l 0 → l ≡ x ∷ drop 1 l
first_is [] x h = absurd (cc)
first_is (y ∷ l) x h = cc

pub nothing_is : (l : List ℕ) → None ≡ slice_get l 0 → l ≡ []
nothing_is [] h = refl
nothing_is (y ∷ l) h = absurd (cc)

pub byte_in : (p : List ℕ) (x : ℕ) (r : List ℕ) → AreBytes (p ++ x ∷ r) → x < 256
byte_in [] x r f = f 0
byte_in (y ∷ p) x r f = byte_in p x r (λ i. f (suc i))

-- what comes before the stride ahead, by what comes after it
pub before_trans : (n m : List ℕ) (ahead : Option (List ℕ)) → IsLess n m → IsBefore m ahead → IsBefore n ahead
before_trans n m None l h = tt
before_trans n m (Some k) l h = below-trans n m (bits_of k) l h

-- the code from which the stride at all octets, or at fewer, is searched
pub from_all : (o : List ℕ) (c : ℕ) → IsCode (c ∷ []) → IsCodeFrom o c (length o) c
from_all o c f = (
  f,
  λ d g. (
    λ l. subst (λ z. IsLess (net_at o c) (net_at z d)) (sym (take-length o))
        (below-with_prefix (bits_of o) (code_bits c) (code_bits d) l),
    λ l. without_prefix (bits_of o) (code_bits c) (code_bits d)
        (subst (λ z. IsLess (net_at o c) (net_at z d)) (take-length o) l),
  ),
)

pub from_fewer : (o : List ℕ) (c at x : ℕ) → AreBytes o → at < length o → x ≡ slice_index o at
    → IsCodeFrom o c at (code x 7)
from_fewer o c at x f h e =
    let small : x < 256 = subst (λ z. z < 256) (sym e) (f at) in
    let s = seven-code x small in
    let split = first_bits o (code_bits c) at h in
    let same : net_at o c ≡ bits_of (take at o) ++ (seven x ++ split.0)
    = split.1 ∙ ap (λ z. bits_of (take at o) ++ (seven z ++ split.0)) (sym e) in (
      code-in_range x 7 small (omega arith),
      λ d g. (
        λ l. subst (λ z. IsLess z (net_at (take at o) d)) (sym same)
            (below-with_prefix (bits_of (take at o)) (seven x ++ split.0) (code_bits d)
            (with_end (seven x) split.0 (code_bits d) (few-bits x d g) (subst (λ z. IsLess z (code_bits d)) s l))),
        λ l. subst (λ z. IsLess z (code_bits d)) (sym s)
            (without_end (seven x) split.0 (code_bits d) (few-bits x d g)
            (without_prefix (bits_of (take at o)) (seven x ++ split.0) (code_bits d)
            (subst (λ z. IsLess z (net_at (take at o) d)) same l))),
      ),
    )

-- the last code before the stride ahead: of none ahead, of one elsewhere, and of one inside
pub last_of_none : (o : List ℕ) → IsLastBefore o None 255
last_of_none o = ((omega arith, omega arith), λ u h d f. (λ n. tt, λ b l. none_after_last d f l))

pub last_elsewhere : (o k : List ℕ) → AreBytes o → AreBytes k → strip_prefix o k ≡ None → IsLastBefore o (Some k) 255
last_elsewhere o k f g e = (
  (omega arith, omega arith),
  λ u h d j. (
    λ n. past (bits_of o) u (code_bits d) (bits_of k) (λ r m.
        let begun = bytes_begun o k [] r f g (omega arith) (append-nil (bits_of k) ∙ m) in
        strip_taken o k begun.0 begun.1 e) h,
    λ b l. none_after_last d j l,
  ),
)

pub last_at_itself : (o k : List ℕ) (last : ℕ) → IsCode (last ∷ []) → strip_prefix o k ≡ Some []
    → IsLastBefore o (Some k) last
last_at_itself o k last f e =
    let same : k ≡ o = strip_some o k [] e ∙ append-nil o in (
      f,
      λ u h d g. absurd (not-less_nil u (without_prefix (bits_of o) u [] (subst (λ z. IsLess (bits_of o ++ u) z)
          (ap bits_of same ∙ sym (append-nil (bits_of o))) h))),
    )

pub last_inside : (o k r : List ℕ) (x : ℕ) → x < 256 → strip_prefix o k ≡ Some (x ∷ r)
    → IsLastBefore o (Some k) (code x 7)
last_inside o k r x small e =
    let s = seven-code x small in
    let same : bits_of k ≡ bits_of o ++ (seven x ++ (x % 2 ∷ bits_of r))
    = ap bits_of (strip_some o k (x ∷ r) e) ∙ bits_append o (x ∷ r) in (
      code-in_range x 7 small (omega arith),
      λ u h d g. (
        λ n. subst (λ z. IsLess (net_at o d) z) (sym same) (below-with_prefix (bits_of o) (code_bits d)
            (seven x ++ (x % 2 ∷ bits_of r))
            (up_to_more (seven x) (code_bits d) (x % 2) (bits_of r)
            (λ l. n (subst (λ z. IsLess z (code_bits d)) (sym s) l)))),
        λ b l. not-both_less (code_bits d) (seven x ++ (x % 2 ∷ bits_of r))
            (without_prefix (bits_of o) (code_bits d) (seven x ++ (x % 2 ∷ bits_of r))
            (subst (λ z. IsLess (net_at o d) z) same b))
            (with_end (seven x) (x % 2 ∷ bits_of r) (code_bits d) (few-bits x d g)
            (subst (λ z. IsLess z (code_bits d)) s l)),
      ),
    )

-- a network begins with the bits of the first octets
starts : (o : List ℕ) (c at : ℕ) → at ≤ length o → (u : List ℕ) × (net_at o c ≡ bits_of (take at o) ++ u)
starts o c at h = ⊎_elim
    (λ l. let split = first_bits o (code_bits c) at l in (seven (slice_index o at) ++ split.0, split.1))
    (⊎_elim
    (λ e. (code_bits c, ap (λ z. bits_of z ++ code_bits c) (sym (ap (λ z. take z o) e ∙ take-length o))))
    (λ l. absurd (omega (arith, l, h))))
    (order at (length o))

-- something that begins with the first octets comes before the stride ahead
started : (o : List ℕ) (c at : ℕ) (ahead : Option (List ℕ)) → at ≤ length o → IsBefore (net_at o c) ahead
    → (u : List ℕ) × IsBefore (bits_of (take at o) ++ u) ahead
started o c at ahead h b = let s = starts o c at h in (s.0, subst (λ z. IsBefore z ahead) s.1 b)

-- the code from which is searched is no later than the last one
pub from_within : (o : List ℕ) (c at from last : ℕ) (ahead : Option (List ℕ)) → at ≤ length o
    → IsBefore (net_at o c) ahead → IsCodeFrom o c at from → IsLastBefore (take at o) ahead last
    → IsCodeLess last from → ⊥
from_within o c at from last ahead h b f g =
    let s = started o c at ahead h b in
    (g.1 s.0 s.1 from f.0).1 (⊎_elim
    (λ l. absurd (not-less_itself (code_bits from) ((f.1 from f.0).1 l)))
    (⊎_elim
    (λ e. subst (λ z. IsBefore z ahead) e b)
    (λ l. before_trans (net_at (take at o) from) (net_at o c) ahead l b))
    (compare (net_at o c) (net_at (take at o) from)))

-- a network at fewer octets that comes after one comes after all that begin as it does
fewer-after : (o : List ℕ) (c d few at e : ℕ) → few < at → at ≤ length o → IsCode (d ∷ [])
    → IsLess (net_at o c) (net_at (take few o) d) → IsLess (net_at (take few o) d) (net_at (take at o) e) → ⊥
fewer-after o c d few at e l h f m n =
    let split = split_bits o (code_bits c) (code_bits e) few at l h in
    let x = slice_index o few in
    let one = without_end (seven x) split.0 (code_bits d) (few-bits x d f)
    (without_prefix (bits_of (take few o)) (seven x ++ split.0) (code_bits d)
    (subst (λ z. IsLess z (net_at (take few o) d)) split.2 m)) in
    not-both_less (code_bits d) (seven x ++ split.1)
    (without_prefix (bits_of (take few o)) (code_bits d) (seven x ++ split.1)
    (subst (λ z. IsLess (net_at (take few o) d) z) split.3 n))
    (with_end (seven x) split.1 (code_bits d) (few-bits x d f) one)

module _ {T : Type 0} where
  pub next_in_stride : (S : List (List ℕ × List (List ℕ × T))) (o : List ℕ) (c at from last : ℕ)
      (ahead : Option (List ℕ)) (s : List (List ℕ × T)) (r : Option (ℕ × T)) → at ≤ length o
      → IsBefore (net_at o c) ahead → IsCodeFrom o c at from → IsLastBefore (take at o) ahead last
      → stride_at (take at o) S ≡ s → IsNextIn s from last r → IsNextAt S o (net_at o c) at ahead r
  next_in_stride S o c at from last ahead s None h b f g e n = let t = started o c at ahead h b in
      λ d i l m. ap (lookup (d ∷ [])) e ∙ n d i ((f.1 d i).1 l) ((g.1 t.0 t.1 d i).1 m)
  next_in_stride S o c at from last ahead s (Some p) h b f g e n = let t = started o c at ahead h b in (
    n.0,
    (f.1 p.0 n.0).0 n.1,
    (g.1 t.0 t.1 p.0 n.0).0 n.2,
    ap (lookup (p.0 ∷ [])) e ∙ n.3,
    λ d i l m. ap (lookup (d ∷ [])) e ∙ n.4 d i ((f.1 d i).1 l)
        (without_prefix (bits_of (take at o)) (code_bits d) (code_bits p.0) m),
  )

  pub found_before : (S : List (List ℕ × List (List ℕ × T))) (o : List ℕ) (c at d : ℕ) (t : T)
      (ahead : Option (List ℕ)) → at ≤ length o → HasNoneDownTo S o (net_at o c) ahead (suc at)
      → IsNextAt S o (net_at o c) at ahead (Some (d, t)) → IsNextBefore S o (net_at o c) ahead (Some (at, d, t))
  found_before S o c at d t ahead h none n = (
    h,
    n.0,
    n.1,
    n.2,
    n.3,
    λ other e i f l m. ⊎_elim
        (λ k. absurd (fewer-after o c e other at d k h f l m))
        (⊎_elim
        (λ k. let low : IsLess (net_at o c) (net_at (take at o) e)
        = subst (λ z. IsLess (net_at o c) (net_at (take z o) e)) k l in
        let high : IsLess (net_at (take at o) e) (net_at (take at o) d)
        = subst (λ z. IsLess (net_at (take z o) e) (net_at (take at o) d)) k m in
        ap (λ z. lookup (e ∷ []) (stride_at (take z o) S)) k ∙ n.4 e f low high)
        (λ k. none other e (omega (arith, k)) i f l
        (before_trans (net_at (take other o) e) (net_at (take at o) d) ahead m n.2)))
        (order other at),
  )

  pub none_at_one_more : (S : List (List ℕ × List (List ℕ × T))) (o q : List ℕ) (at : ℕ) (ahead : Option (List ℕ))
      → HasNoneDownTo S o q ahead (suc at) → IsNextAt S o q at ahead None → HasNoneDownTo S o q ahead at
  none_at_one_more S o q at ahead none n = λ other d l h f m b. ⊎_elim
      (λ k. absurd (omega (arith, k, l)))
      (⊎_elim
      (λ k. ap (λ z. lookup (d ∷ []) (stride_at (take z o) S)) k
      ∙ n d f (subst (λ z. IsLess q (net_at (take z o) d)) k m) (subst (λ z. IsBefore (net_at (take z o) d) ahead) k b))
      (λ k. none other d (omega (arith, k)) h f m b))
      (order other at)
