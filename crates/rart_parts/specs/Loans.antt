-- What a loan of a value leaves of an array of places.
use Rattle.std.specs.Prelude.{◌≡◌, ℕ, Bool, List, Option, Some, OnSome, slice_set}
use Rattle.std.specs.Borrow.{Fml, LendsSo, MutBor}
use denote.RattleType.{RattleType}
use Rattle.rart_parts.specs.contracts.utils.bitarray.BitArray.{the_row}

-- what a clause has as B.BitsetTrait
abbrev pub BitsetMembers : Type 0 → Type 1
BitsetMembers B = record {
  is_default : B
      → Type 0;
  BIT_SHIFT : ℕ;
  STORAGE_BIT_WIDTH : ℕ;
  STORAGE_WORDS : ℕ;
  CAPACITY : ℕ;
  has : B → ℕ → Bool;
}

-- the type of an array
abbrev pub array_row : (X W B : RattleType) → BitsetMembers B.Denot → RattleType
array_row X W B b = the_row X W B (record {
  BIT_SHIFT = b.BIT_SHIFT;
  STORAGE_BIT_WIDTH
      = b.STORAGE_BIT_WIDTH;
  STORAGE_WORDS = b.STORAGE_WORDS;
  CAPACITY = b.CAPACITY;
  has = b.has;
})
    (record { is_default = b.is_default })

-- the value at a place was borrowed from the array, if there is one: the array ends with what was left at that place;
-- if nothing was borrowed, it is unchanged
abbrev pub lends_place : (X W B : RattleType) → BitsetMembers B.Denot → MutBor (List (Option X.Denot)) → ℕ
    → Option (MutBor X.Denot) → Fml
lends_place X W B b array p lent = LendsSo (array_row X W B b) X array lent
    (λ n w. OnSome lent (n ≡ slice_set array.now p (Some w))) (λ n. n ≡ array.now)
