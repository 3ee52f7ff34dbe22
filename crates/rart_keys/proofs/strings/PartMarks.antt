-- The mark after a part is the last byte that isn't zero.
use Rattle.std.proofs.Common.{◌≡◌, ◌≢◌, ℕ, ◌<◌, ◌==◌, true, false, List, [], ◌∷◌, length, drop, replicate, refl}
use Rattle.std.proofs.Common.{arith, if◌then◌else◌, zero, suc}
use Rattle.std.specs.Prelude.{slice_index, slice_set}
use Rattle.rart_keys.proofs.strings.ByteOrder.{eq-no}
use Rattle.rart_keys.specs.KeyBytes.{AreBytes}
use Rattle.rart_keys.specs.PartLengths.{has_mark, marked_length}

pub no_mark-zeros : (n : ℕ) → has_mark (replicate n 0) ≡ false
no_mark-zeros zero = refl
no_mark-zeros (suc n) = no_mark-zeros n

no_mark-tail : (b : ℕ) (bs : List ℕ) → has_mark (b ∷ bs) ≡ false → has_mark bs ≡ false
no_mark-tail b bs e = elim (b == 0) as (λ t. (if t then has_mark bs else true) ≡ false → has_mark bs ≡ false)
    [ true ↦ λ h. h | false ↦ λ h. absurd (cc h) ] e

mark-after : (b : ℕ) (bs : List ℕ) → has_mark bs ≡ true → has_mark (b ∷ bs) ≡ true
mark-after b bs e = rw (e) (elim (b == 0) as (λ t. (if t then true else true) ≡ true)
    [ true ↦ refl | false ↦ refl ])

pub no_mark-length : (bs : List ℕ) → has_mark bs ≡ false → marked_length bs ≡ 0
no_mark-length [] e = refl
no_mark-length (b ∷ bs) e = rw (no_mark-tail b bs e) refl

mark-at : (bs : List ℕ) (n : ℕ) → n < length bs → slice_index bs n ≢ 0 → has_mark bs ≡ true
mark-at [] n h m = absurd (omega arith)
mark-at (b ∷ bs) zero h m = rw (eq-no b 0 m) refl
mark-at (b ∷ bs) (suc n) h m = mark-after b bs (mark-at bs n (omega arith) m)

-- as many bytes are before the mark as its place says
pub marked_length-at : (bs : List ℕ) (n : ℕ) → n < length bs → slice_index bs n ≢ 0
    → has_mark (drop (suc n) bs) ≡ false → marked_length bs ≡ n
marked_length-at [] n h m e = absurd (omega arith)
marked_length-at (b ∷ bs) zero h m e = rw (e) refl
marked_length-at (b ∷ bs) (suc n) h m e
    = rw (mark-at bs n (omega arith) m, marked_length-at bs n (omega arith) m e) (omega arith)

mark-set : (bs : List ℕ) (n : ℕ) → n < length bs → has_mark (slice_set bs n 1) ≡ true
mark-set [] n h = absurd (omega arith)
mark-set (b ∷ bs) zero h = refl
mark-set (b ∷ bs) (suc n) h = mark-after b (slice_set bs n 1) (mark-set bs n (omega arith))

-- a mark that is written before zeros
pub marked_length-set : (bs : List ℕ) (n : ℕ) → n < length bs → has_mark (drop n bs) ≡ false
    → marked_length (slice_set bs n 1) ≡ n
marked_length-set [] n h e = absurd (omega arith)
marked_length-set (b ∷ bs) zero h e = rw (no_mark-tail b bs e) refl
marked_length-set (b ∷ bs) (suc n) h e
    = rw (mark-set bs n (omega arith), marked_length-set bs n (omega arith) e) (omega arith)

index-set : (b : ℕ) (bs : List ℕ) (n : ℕ) → AreBytes (b ∷ bs) → AreBytes (slice_set bs n 1)
    → AreBytes (b ∷ slice_set bs n 1)
index-set b bs n h e zero = h zero
index-set b bs n h e (suc i) = e i

one-first : (b : ℕ) (bs : List ℕ) → AreBytes (b ∷ bs) → AreBytes (1 ∷ bs)
one-first b bs h zero = omega arith
one-first b bs h (suc i) = h (suc i)

pub AreBytes-set : (bs : List ℕ) (n : ℕ) → AreBytes bs → AreBytes (slice_set bs n 1)
AreBytes-set [] n h = h
AreBytes-set (b ∷ bs) zero h = one-first b bs h
AreBytes-set (b ∷ bs) (suc n) h = index-set b bs n h (AreBytes-set bs n (λ i. h (suc i)))
