-- Which network is the longest that begins the first bits of some octets, among those that end within one octet.
use Rattle.std.specs.Prelude.{◌≡◌, ◌<◌, ◌≤◌, ℕ, zero, suc, ◌+◌, ◌/◌, List, take, Option, Some, None}
use Rattle.rart_keys.specs.LongestMatches.{HasNoMatch, IsLongest}
use Rattle.rart_keys.specs.SortedMap.{lookup}
use Rattle.rart_cidr.specs.Bits.{network}

-- the most nodes that look-ups of less than n octets visit, one look-up of each number of octets
abbrev pub nodes_to : ℕ → ℕ
nodes_to zero = 0
nodes_to (suc n) = nodes_to n + (n + 1)

module _ {T : Type 0} where
  -- no route's network is the first n of `bits` bits of the octets, where n has `at` whole octets
  abbrev pub HasNoneAfter : List (List ℕ × T) → List ℕ → ℕ → ℕ → Type 0
  HasNoneAfter routes o bits at = (n : ℕ) → n / 8 ≡ at → n ≤ bits → lookup (network o n) routes ≡ None

  -- of these the longest is the first n bits; or there is none
  abbrev pub IsLongestAfter : List (List ℕ × T) → List ℕ → ℕ → ℕ → Option (ℕ × T) → Type 0
  IsLongestAfter routes o bits at None = HasNoneAfter routes o bits at
  IsLongestAfter routes o bits at (Some p) = (p.0 / 8 ≡ at) × (p.0 ≤ bits)
      × (lookup (network o p.0) routes ≡ Some p.1)
      × ((n : ℕ) → p.0 < n → n / 8 ≡ at → n ≤ bits → lookup (network o n) routes ≡ None)

  -- the last stride on the way of `at` octets has p.0 octets, and p.1 is the longest network in it; or there is none
  abbrev pub IsLastStride : List (List ℕ × T) → List ℕ → ℕ → ℕ → Option (ℕ × Option (ℕ × T)) → Type 0
  IsLastStride routes o bits at None = (k : ℕ) → k ≤ at → HasNoneAfter routes o bits k
  IsLastStride routes o bits at (Some p) = (p.0 ≤ at) × IsLongestAfter routes o bits p.0 p.1
      × ((k : ℕ) → p.0 < k → k ≤ at → HasNoneAfter routes o bits k)

  -- no route's network is the first n of `bits` bits of the octets, where n is `low` or more
  abbrev pub HasNoneFrom : List (List ℕ × T) → List ℕ → ℕ → ℕ → Type 0
  HasNoneFrom routes o bits low = (n : ℕ) → low ≤ n → n ≤ bits → lookup (network o n) routes ≡ None

  -- no network is longer than that of this route, of those whose bits begin q; or there is none
  abbrev pub IsLongestRoute : List ℕ → List (List ℕ × T) → Option (List ℕ × T) → Type 0
  IsLongestRoute q routes None = HasNoMatch q routes
  IsLongestRoute q routes (Some p) = IsLongest p.0 p.1 q routes

  -- this network with its target, where it has one, and else o
  abbrev pub route_or : Option (List ℕ × T) → List ℕ → Option T → Option (List ℕ × T)
  route_or o net None = o
  route_or o net (Some t) = Some (net, t)

  -- what look-ups of the first n bits of a network, of n - 1, and so on down to none find first
  abbrev pub first_by_lengths : List ℕ → ℕ → List (List ℕ × T) → Option (List ℕ × T)
  first_by_lengths net zero routes = route_or None (take 0 net) (lookup (take 0 net) routes)
  first_by_lengths net (suc n) routes = route_or (first_by_lengths net n routes) (take (suc n) net)
      (lookup (take (suc n) net) routes)
