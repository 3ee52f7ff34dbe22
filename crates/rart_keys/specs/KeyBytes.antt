-- What holds of the bytes of every key and every part of a key.
use Rattle.std.specs.Prelude.{◌^◌, ◌<◌, ◌≤◌, ℕ, zero, suc, Option, Some, None, List, [], ◌∷◌, take, drop, length}
use Rattle.std.specs.Prelude.{slice_index}
use Rattle.std.specs.Coded.{Unit-prop, le_prop}
use Rattle.std.proofs.Common.{◌≡◌, arith, length-drop, length-take}

-- a length is within a maximum; where there is no maximum, every length is
abbrev pub IsWithin : Option ℕ → ℕ → Type 0
IsWithin None n = Unit {0}
IsWithin (Some m) n = n ≤ m

-- each number of the list is a byte
abbrev pub AreBytes : List ℕ → Type 0
AreBytes bs = (i : ℕ) → slice_index bs i < 2 ^ 8

-- being within a maximum has one proof, so that a type may keep it as a fact
pub IsWithin-prop : (m : Option ℕ) (n : ℕ) → IsProp (IsWithin m n)
IsWithin-prop None n = Unit-prop
IsWithin-prop (Some m) n = le_prop

-- the first n are at most m, where n is
pub length-take-within : (n m : ℕ) (bs : List ℕ) → n ≤ m → length (take n bs) ≤ m
length-take-within n m bs h = omega (arith, length-take n bs)

-- what is after some of m is at most m
pub length-drop-within : (n m : ℕ) (bs : List ℕ) → length bs ≡ m → length (drop n bs) ≤ m
length-drop-within n m bs h = omega (arith, length-drop n bs)

-- the first bytes are bytes
pub AreBytes-take : (n : ℕ) (bs : List ℕ) → AreBytes bs → AreBytes (take n bs)
AreBytes-take zero bs h i = omega arith
AreBytes-take (suc n) [] h i = omega arith
AreBytes-take (suc n) (b ∷ bs) h zero = h 0
AreBytes-take (suc n) (b ∷ bs) h (suc i) = AreBytes-take n bs (λ j. h (suc j)) i

-- the bytes after some are bytes
pub AreBytes-drop : (n : ℕ) (bs : List ℕ) → AreBytes bs → AreBytes (drop n bs)
AreBytes-drop zero bs h i = h i
AreBytes-drop (suc n) [] h i = omega arith
AreBytes-drop (suc n) (b ∷ bs) h i = AreBytes-drop n bs (λ j. h (suc j)) i
