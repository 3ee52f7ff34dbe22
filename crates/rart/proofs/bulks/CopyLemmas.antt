-- Loops that copy what a walk yields: what is copied, with what the walk has left, is all.
use Rattle.std.proofs.Common.{◌≡◌, ℕ, ◌+◌, ◌<◌, ◌≤◌, ◌∙◌, List, [], ◌∷◌, ◌++◌, length, ap, length-append, arith}
use Rattle.std.proofs.Math.Seq.{append_snoc}
use Rattle.std.proofs.lemmas.List.{append-nil}

module _ {A : Type 0} where
  -- one more is copied
  pub copied-more : (before after rest next all : List A) (e : A) → after ≡ before ++ e ∷ [] → rest ≡ e ∷ next
      → before ++ rest ≡ all → after ++ next ≡ all
  copied-more before after rest next all e pushed steps copied
      = ap (λ z. z ++ next) pushed ∙ append_snoc before e next ∙ rw steps at copied

  -- fewer are left
  pub left-shorter : (rest next : List A) (e : A) → rest ≡ e ∷ next → length next < length rest
  left-shorter rest next e steps = omega (arith, ap length steps)

  -- nothing is left
  pub copied-all : (copied rest all : List A) → all ≡ copied ++ rest → rest ≡ [] → all ≡ copied
  copied-all copied rest all whole none = whole ∙ ap (λ z. copied ++ z) none ∙ append-nil copied

-- the reserved capacity holds the rest beside what is copied
module _ {A B : Type 0} where
  pub capacity-begins : (copied : List A) (rest all : List B) (capacity : ℕ) → copied ≡ [] → rest ≡ all
      → length all ≤ capacity → length copied + length rest ≤ capacity
  capacity-begins copied rest all capacity none whole reserved = omega (arith, ap length none, ap length whole)

  pub capacity-stays : (before : List A) (x : A) {after : List A} {rest next : List B} {e : B} {capacity same : ℕ}
      → after ≡ before ++ x ∷ [] → rest ≡ e ∷ next → same ≡ capacity → length before + length rest ≤ capacity
      → length after + length next ≤ same
  capacity-stays before x pushed steps kept fits
      = omega (arith, ap length pushed, length-append before (x ∷ []), ap length steps)

  pub capacity-for-next : (copied : List A) (rest next : List B) (e : B) (len capacity : ℕ) → len ≡ length copied
      → rest ≡ e ∷ next → length copied + length rest ≤ capacity → len < capacity
  capacity-for-next copied rest next e len capacity counted steps fits = omega (arith, ap length steps)
