-- The networks that begin the first bits of some octets, the shortest first.
use Rattle.std.specs.Prelude.{◌≡◌, ◌<◌, ◌≤◌, ◌+◌, ℕ, ◌/◌, ◌∷◌, [], List, Option, Some, None, filter}
use Rattle.std.specs.Prelude.{length, nat_le, take}
use Rattle.rart_keys.specs.Filters.{matches}
use Rattle.rart_keys.specs.SortedMap.{lookup}
use Rattle.rart_cidr.specs.Bits.{network}

module _ {T : Type 0} where
  -- the routes of at least `low` bits whose network begins the bits q
  abbrev pub matches_from : ℕ → List ℕ → List (List ℕ × T) → List (List ℕ × T)
  matches_from low q routes = filter (λ e. nat_le low (length e.0)) (matches q routes)

  -- the first of these; or there is none
  abbrev pub IsNextMatch : ℕ → List ℕ → List (List ℕ × T) → Option (ℕ × T) → Type 0
  IsNextMatch low q routes None = matches_from low q routes ≡ []
  IsNextMatch low q routes (Some p) = matches_from low q routes
      ≡ (take p.0 q, p.1) ∷ matches_from (p.0 + 1) q routes

  -- of the routes whose network is the first n of `bits` bits of the octets, where n is `low` or more and ends within
  -- the same octet, the one with the smallest n; or there is none
  abbrev pub IsFirstAfter : List (List ℕ × T) → List ℕ → ℕ → ℕ → Option (ℕ × T) → Type 0
  IsFirstAfter routes o bits low None = (n : ℕ) → low ≤ n → n / 8 ≡ low / 8 → n ≤ bits
      → lookup (network o n) routes ≡ None
  IsFirstAfter routes o bits low (Some p) = (low ≤ p.0) × (p.0 / 8 ≡ low / 8) × (p.0 ≤ bits)
      × (lookup (network o p.0) routes ≡ Some p.1)
      × ((n : ℕ) → low ≤ n → n < p.0 → lookup (network o n) routes ≡ None)

  -- no route's network is the first n of `bits` bits of the octets, where n is `low` or more and less than `from`
  abbrev pub HasNoneBetween : List (List ℕ × T) → List ℕ → ℕ → ℕ → ℕ → Type 0
  HasNoneBetween routes o bits low from = (n : ℕ) → low ≤ n → n < from → n ≤ bits → lookup (network o n) routes ≡ None
