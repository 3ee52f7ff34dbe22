-- What two walks towards each other have between them.
use Rattle.std.specs.Prelude.{ℕ, ◌≡◌, ◌-◌, ◌≤◌, List, [], ◌∷◌, drop, length, reverse, take, if◌then◌else◌}
use Rattle.std.specs.Str.{bytes_eq}
use Rattle.rart_keys.specs.SortedMap.{IsAscending}

-- n items are left between a walk with `front` ahead and one from the end with `back` ahead: the first n of the one are
-- the last n of the other
pub record AreLeft {A : Type 0} (n : ℕ) (front back : List A) : Type 0 where
  pub in_front : n ≤ length front
  pub in_back : n ≤ length back
  pub same : take n front ≡ drop (length back - n) back

-- the pairs up to the first one at k, with it
abbrev pub through : {V : Type 0} → List ℕ → List (List ℕ × V) → List (List ℕ × V)
through k [] = []
through k (e ∷ es) = e ∷ (if bytes_eq e.0 k then [] else through k es)

-- a walk gives the pairs through k first, and a walk from the end gives the same ones first
pub record AreBetween {V : Type 0} (k : List ℕ) (front back : List (List ℕ × V)) : Type 0 where
  pub ascending : IsAscending (through k front)
  pub same : take (length (through k front)) back ≡ reverse (through k front)
