-- A buffer that is filled from the front.
use Rattle.std.proofs.Common.{Bool, subst, ◌≡◌, ◌<◌, ◌≤◌, ◌∙◌, ◌+◌, ℕ, List, ◌∷◌, ◌++◌, [], ap, arith, false, true}
use Rattle.std.proofs.Common.{length, map}
use Rattle.std.proofs.Common.{refl, slice_set, sym}
use Rattle.std.proofs.Math.Nat.{min-eq_left, min-eq_right}
use Rattle.std.proofs.lemmas.Bool.{le-ltb, lt-ltb}
use Rattle.std.proofs.lemmas.List.{drop-drop, drop-set-lt, length-append, length-map, length-set, map-append, take_all}
use Rattle.std.proofs.lemmas.List.{take_more_set}
use Rattle.std.proofs.iter.Yields.{listed}
use Rattle.std.specs.Iterator.{AlwaysYields, YieldsFirstBy}
use Rattle.std.specs.Prelude.{drop, take}
use Rattle.rart_c.specs.Batches.{IsBatch}

module _ {P A Y : Type 0} (read : P → A) (show : Y → A) where
  -- the first n of the buffer are what was yielded, and the others stay
  pub record IsFilled (old new : List P) (n : ℕ) (yielded : List Y) : Type 0 where
    pub number : n ≡ length yielded
    pub fits : n ≤ length new
    pub room : length new ≡ length old
    pub so_far : map read (take n new) ≡ map show yielded
    pub rest : drop n new ≡ drop n old

  pub filled-none : (old : List P) → IsFilled old old 0 []
  filled-none old = record {
    number = refl;
    fits = omega arith;
    room = refl;
    so_far = refl;
    rest = refl;
  }

  -- one item more is written
  pub filled-more : (old new : List P) (n : ℕ) (yielded : List Y) (p : P) (y : Y) → read p ≡ show y → n < length new
      → IsFilled old new n yielded → IsFilled old (slice_set new n p) (n + 1) (yielded ++ y ∷ [])
  filled-more old new n yielded p y same below f = record {
    number = omega (arith, f.number, length-append yielded (y ∷ []));
    fits = omega (arith, length-set new n p, below);
    room = length-set new n p ∙ f.room;
    so_far = rw (
      take_more_set new n p below,
      map-append read (take n new) (p ∷ []),
      map-append show yielded (y ∷ []),
      f.so_far,
      same,
    );
    rest = drop-set-lt (n + 1) new n p (omega arith) ∙ sym (drop-drop 1 n new) ∙ ap (drop 1) f.rest ∙ drop-drop 1 n old;
  }

  -- nothing more was yielded
  pub batch-whole : (old new : List P) (n : ℕ) (yielded : List Y) (all : List A) → IsFilled old new n yielded
      → map show yielded ≡ all → IsBatch read all old new n false
  batch-whole old new n yielded all f end =
      let as_many : length all ≡ n = ap length (sym end) ∙ length-map yielded show ∙ sym f.number in
      let fits : length all ≤ length old = omega (arith, as_many, f.fits, f.room) in
      record {
        number = sym as_many ∙ sym (min-eq_right fits);
        pairs = f.so_far ∙ end ∙ sym (take_all (length old) all fits);
        rest = f.rest;
        left = sym (le-ltb (length old) (length all) fits);
      }

  -- the buffer is full, and one more was yielded
  pub batch-full : (old new : List P) (n : ℕ) (yielded : List Y) (all : List A) → IsFilled old new n yielded
      → n ≡ length new → map show yielded ≡ take (length yielded) all → length yielded < length all
      → IsBatch read all old new n true
  batch-full old new n yielded all f full so_far more =
      let is_room : length yielded ≡ length old = sym f.number ∙ full ∙ f.room in
      let below : length old < length all = omega (arith, is_room, more) in
      record {
        number = full ∙ f.room ∙ sym (min-eq_left (omega (arith, below)));
        pairs = f.so_far ∙ so_far ∙ ap (λ k. take k all) is_room;
        rest = f.rest;
        left = sym (lt-ltb (length old) (length all) below);
      }

-- a batch of pairs that are written in another way
pub batch-of : {P A : Type 0} {read : P → A} {all all' : List A} {old new : List P} {written : ℕ} {more : Bool} → all ≡
    all'
    → IsBatch read all old new written more → IsBatch read all' old new written more
batch-of {P} {A} {read} {all} {all'} {old} {new} {written} {more} same =
    subst (λ (es : List A). IsBatch read es old new written more) same

-- an iterator whose state shows the items ahead yields these
pub shows : {S A B : Type 0} (v : A → B) (rest : S → List B) (s : S) → AlwaysYields (YieldsFirstBy v rest) v s (rest s)
shows v rest s = listed (YieldsFirstBy v rest) v rest (λ s t h. ap length h.0) (λ s x t h. h) s
