-- Two byte strings that begin alike: what equal words of them say of the whole, and back.
use Rattle.std.proofs.Common.{◌≡◌, ◌↔◌, ◌==◌, true, false, if◌then◌else◌, Some, None, IsTrue, eq-eqb, ℕ, zero, suc, ◌+◌}
use Rattle.std.proofs.Common.{◌^◌, ◌<◌, ◌≤◌, List, [], ◌∷◌, ◌++◌, length, take, drop, nat_eq, refl, sym, ap, ap₂, ◌∙◌}
use Rattle.std.proofs.Common.{arith, length-take-le, length-drop}
use Rattle.std.proofs.lemmas.Bool.{eqb-true}
use Rattle.std.proofs.Math.Seq.{take-add, take-length}
use Rattle.std.proofs.lemmas.List.{drop-take, length-take}
use Rattle.std.specs.List.{common_prefix_len}
use Rattle.rart_keys.specs.ByteStrings.{strip_prefix}
use Rattle.rart_keys.specs.KeyBytes.{AreBytes, AreBytes-take, AreBytes-drop}
use Rattle.rart_keys.specs.LittleEndianWord.{little_endian_number}
use Rattle.rart_keys.proofs.strings.CommonPrefixes.{common_prefix_len-greatest}

-- the number determines the bytes
bytes_of_number : (xs ys : List ℕ) → AreBytes xs → AreBytes ys → length xs ≡ length ys
    → little_endian_number xs ≡ little_endian_number ys → xs ≡ ys
bytes_of_number [] [] p q l e = refl
bytes_of_number [] (y ∷ ys) p q l e = absurd (omega arith)
bytes_of_number (x ∷ xs) [] p q l e = absurd (omega arith)
bytes_of_number (x ∷ xs) (y ∷ ys) p q l e =
    let a : x < 2 ^ 8 = p 0 in
    let b : y < 2 ^ 8 = q 0 in
    ap₂ ◌∷◌ (omega arith) (bytes_of_number xs ys (λ i. p (suc i)) (λ i. q (suc i)) (omega arith) (omega arith))

-- the words of w bytes at i are equal where their numbers are
piece_of_number : (w i : ℕ) (xs ys : List ℕ) → AreBytes xs → AreBytes ys → i + w ≤ length xs → i + w ≤ length ys
    → little_endian_number (take w (drop i xs)) ≡ little_endian_number (take w (drop i ys))
    → take w (drop i xs) ≡ take w (drop i ys)
piece_of_number w i xs ys p q l k e =
    bytes_of_number _ _ (AreBytes-take w (drop i xs) (AreBytes-drop i xs p))
    (AreBytes-take w (drop i ys) (AreBytes-drop i ys q))
    (length-take-le w (drop i xs) (omega (arith, length-drop i xs))
    ∙ sym (length-take-le w (drop i ys) (omega (arith, length-drop i ys)))) e

-- an equal beginning is extended by an equal word
one_piece_more : (w i : ℕ) (xs ys : List ℕ) → take i xs ≡ take i ys → take w (drop i xs) ≡ take w (drop i ys)
    → take (i + w) xs ≡ take (i + w) ys
one_piece_more w i xs ys e f = take-add i w xs ∙ ap₂ ◌++◌ e f ∙ sym (take-add i w ys)

-- fewer bytes are equal too
fewer : (m i : ℕ) (xs ys : List ℕ) → m ≤ i → take i xs ≡ take i ys → take m xs ≡ take m ys
fewer zero i xs ys h e = refl
fewer (suc m) zero xs ys h e = absurd (omega arith)
fewer (suc m) (suc i) [] [] h e = refl
fewer (suc m) (suc i) [] (y ∷ ys) h e = absurd (cc)
fewer (suc m) (suc i) (x ∷ xs) [] h e = absurd (cc)
fewer (suc m) (suc i) (x ∷ xs) (y ∷ ys) h e = ap₂ ◌∷◌ (cc) (fewer m i xs ys (omega arith) (cc))

-- and each word within them
word : (w i n : ℕ) (xs ys : List ℕ) → i + w ≤ n → take n xs ≡ take n ys → take w (drop i xs) ≡ take w (drop i ys)
word w i n xs ys h e = sym (drop-take i w xs) ∙ ap (drop i) (fewer (i + w) n xs ys h e) ∙ drop-take i w ys

-- a whole list is its own beginning
whole : (p k : List ℕ) (n : ℕ) → n ≡ length p → take n p ≡ take n k → take (length p) k ≡ p
whole p k n e h = ap (λ m. take m k) (sym e) ∙ sym h ∙ ap (λ m. take m p) e ∙ take-length p

-- by the number of bytes that two strings share
pub begins-shared : (p k : List ℕ) (n : ℕ) → n ≡ common_prefix_len nat_eq p k → length p ≤ n → take (length p) k ≡ p
begins-shared p k n e h =
    let g = common_prefix_len-greatest p k in
    whole p k _ (let l = g.within_left in omega arith) g.same

pub shared-begins : (p k : List ℕ) (n : ℕ) → n ≡ common_prefix_len nat_eq p k → length p ≤ length k
    → take (length p) k ≡ p → length p ≤ n
shared-begins p k n e l h =
    let g = common_prefix_len-greatest p k in
    let m = g.greatest (length p) (omega arith) l (take-length p ∙ sym h) in omega arith

-- two byte strings, the first not the longer, that are read at a place
module _ (p k : List ℕ) (bytes_p : AreBytes p) (bytes_k : AreBytes k) (fits : length p ≤ length k) where
  -- equal numbers at i: an equal beginning is extended
  pub extends : (w i m n : ℕ) → i + w ≤ length p → m ≡ little_endian_number (take w (drop i p))
      → n ≡ little_endian_number (take w (drop i k)) → m ≡ n
      → take i p ≡ take i k → take (i + w) p ≡ take (i + w) k
  extends w i m n h e f s b = one_piece_more w i p k b
      (piece_of_number w i p k bytes_p bytes_k h (omega arith) (sym e ∙ s ∙ f))

  -- the strings begin alike: so do their numbers at i
  pub same-number : (w i m n : ℕ) → i + w ≤ length p → m ≡ little_endian_number (take w (drop i p))
      → n ≡ little_endian_number (take w (drop i k))
      → take (length p) k ≡ p → m ≡ n
  same-number w i m n h e f s = e ∙ ap little_endian_number (word w i (length p) p k h (take-length p ∙ sym s)) ∙ sym f

  -- the last word decides, where all before it is known to be alike
  pub last-decides : (w last i m n : ℕ) → last + w ≡ length p → last ≤ i
      → m ≡ little_endian_number (take w (drop last p)) → n ≡ little_endian_number (take w (drop last k))
      → take i p ≡ take i k → IsTrue (nat_eq m n) ↔ (take (length p) k ≡ p)
  last-decides w last i m n l h e f b = (
    (λ t. whole p k (last + w) l (extends w last m n (omega arith) e f (eqb-true m n t) (fewer last i p k h b))),
    (λ s. eq-eqb m n (same-number w last m n (omega arith) e f s)),
  )

-- what follows a prefix, where it begins the key and where it doesn't
pub strip-begun : (p k : List ℕ) → take (length p) k ≡ p → Some (drop (length p) k) ≡ strip_prefix p k
strip-begun [] k h = refl
strip-begun (x ∷ p) [] h = absurd (cc)
strip-begun (x ∷ p) (y ∷ k) h =
    let e : x ≡ y = cc in rw (eq-eqb x y e) (strip-begun p k cc)

pub strip-not-begun : (p k : List ℕ) → (take (length p) k ≡ p → ⊥) → None ≡ strip_prefix p k
strip-not-begun [] k h = absurd (h refl)
strip-not-begun (x ∷ p) [] h = refl
strip-not-begun (x ∷ p) (y ∷ k) h = elim (x == y) as (λ z. x == y ≡ z → None ≡ (if z then strip_prefix p k else None)) [
  | true ↦ λ e. strip-not-begun p k (λ s. h (ap₂ ◌∷◌ (sym (eqb-true x y e)) s))
  | false ↦ λ e. refl
] refl

pub begun-no-longer : (p k : List ℕ) → take (length p) k ≡ p → length p ≤ length k
begun-no-longer p k h = (let l = ap length h in omega (arith, l, length-take (length p) k))
