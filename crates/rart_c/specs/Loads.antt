-- Loads of a buffer of pairs.
use Rattle.std.specs.Prelude.{◌≡◌, ◌<◌, ◌≤◌, ℕ, zero, suc, nat_lt, List, [], ◌∷◌, length, Option, None, Some}
use Rattle.std.specs.Prelude.{if◌then◌else◌, Result, Ok, Err}
use Rattle.rart_keys.specs.BulkLists.{first_fault, last_wins}
use Rattle.rart.specs.MapAndShape.{MapAndShape}
use Rattle.rart.specs.declared.bulk.BulkError.{BulkError}
use Rattle.rart.specs.declared.bulk.BulkError.TheVariants as fault
use Rattle.rart.specs.declared.tree.TheConstants.{MAX_PAIRS}
use Rattle.rart_c.specs.Answers.{Status, Done, NoMemory, Full, KeyTooLong, Unsorted, IsUnchanged}

-- the first place, from `place` on, of a length above the width
abbrev pub first_too_long_from : ℕ → ℕ → List ℕ → Option ℕ
first_too_long_from place width [] = None
first_too_long_from place width (l ∷ ls) =
    if nat_lt width l then Some place else first_too_long_from (suc place) width ls

-- the first place of a length above the width
abbrev pub first_too_long : ℕ → List ℕ → Option ℕ
first_too_long = first_too_long_from zero

-- no length is above the width
abbrev pub AreWithin : ℕ → List ℕ → Type 0
AreWithin width [] = Unit {0}
AreWithin width (l ∷ ls) = (l ≤ width) × AreWithin width ls

-- `load_sorted` of the pairs `all`, whose keys have these lengths. Done: the map has these pairs and no others, of
-- equal keys the last. Unsorted: at the place that was written, a key is below the one before it
abbrev pub Loads : ℕ → List ℕ → List (List ℕ × ℕ) → List (List ℕ × ℕ) → List (List ℕ × ℕ) → ℕ → ℕ → Status → Type 0
Loads width lens all old new was is Done = (first_too_long width lens ≡ None) × (first_fault all ≡ None)
    × (new ≡ last_wins all) × (is ≡ was)
Loads width lens all old new was is NoMemory = (first_too_long width lens ≡ None) × IsUnchanged old new was is
Loads width lens all old new was is Full = (first_too_long width lens ≡ None) × (MAX_PAIRS < length all)
    × IsUnchanged old new was is
Loads width lens all old new was is KeyTooLong = (first_too_long width lens ≡ Some is) × (new ≡ old)
Loads width lens all old new was is Unsorted = (first_too_long width lens ≡ None) × (first_fault all ≡ Some is)
    × (new ≡ old)
Loads width lens all old new was is _ = ⊥

-- a tree is made of these pairs; or it isn't, and they say why
abbrev pub LoadsTree : List (List ℕ × ℕ) → Result (MapAndShape ℕ) BulkError → Type 0
LoadsTree all (Ok tree) = (first_fault all ≡ None) × (tree.pairs ≡ last_wins all)
LoadsTree all (Err fault.Memory) = Unit {0}
LoadsTree all (Err fault.Full) = MAX_PAIRS < length all
LoadsTree all (Err (fault.Unsorted at)) = first_fault all ≡ Some at
