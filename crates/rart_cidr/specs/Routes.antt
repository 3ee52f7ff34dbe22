-- Routes, ascending by their networks' bits, and how strides hold them.
use Rattle.std.specs.Prelude.{◌≡◌, ◌≢◌, ◌<◌, ◌≤◌, ℕ, ◌/◌, ◌%◌, ◌++◌, List, [], ◌∷◌, take, slice_index, Option, Some}
use Rattle.std.specs.Prelude.{None}
use Rattle.rart_keys.specs.KeyBytes.{AreBytes}
use Rattle.rart_keys.specs.SortedMap.{IsAscending, lookup, put, without}
use Rattle.rart_cidr.specs.Bits.{bits_of, code, code_bits}

-- the network of the whole bytes o and the code c
abbrev pub coded_network : List ℕ → List ℕ → List ℕ
coded_network o [] = bits_of o
coded_network o (c ∷ k) = bits_of o ++ code_bits c

-- a key of a stride is one code
abbrev pub IsCode : List ℕ → Type 0
IsCode [] = ⊥
IsCode (c ∷ []) = (1 ≤ c) × (c < 256)
IsCode (c ∷ d ∷ k) = ⊥

module _ {T : Type 0} where
  -- the routes of the stride at the bytes o, beside other routes
  abbrev pub with_stride : List ℕ → List (List ℕ × T) → List (List ℕ × T) → List (List ℕ × T)
  with_stride o [] routes = routes
  with_stride o (e ∷ stride) routes = put (coded_network o e.0) e.1 (with_stride o stride routes)

  -- the routes of all strides
  abbrev pub routes_of : List (List ℕ × List (List ℕ × T)) → List (List ℕ × T)
  routes_of [] = []
  routes_of (e ∷ strides) = with_stride e.0 e.1 (routes_of strides)

  -- each key of a stride is a code
  abbrev pub AreCodes : List (List ℕ × T) → Type 0
  AreCodes [] = Unit {0}
  AreCodes (e ∷ stride) = IsCode e.0 × AreCodes stride

  -- what holds of each stride: its key consists of bytes, it isn't empty, and its codes ascend
  abbrev pub AreStrides : List (List ℕ × List (List ℕ × T)) → Type 0
  AreStrides [] = Unit {0}
  AreStrides (e ∷ strides) = AreBytes e.0 × (e.1 ≢ []) × AreCodes e.1 × IsAscending e.1 × AreStrides strides

  -- the stride at a key, which is empty where none is stored
  abbrev pub stride_or_empty : Option (List (List ℕ × T)) → List (List ℕ × T)
  stride_or_empty None = []
  stride_or_empty (Some stride) = stride

  abbrev pub stride_at : List ℕ → List (List ℕ × List (List ℕ × T)) → List (List ℕ × T)
  stride_at o strides = stride_or_empty (lookup o strides)

  -- the strides with another one at a key; an empty one isn't kept
  abbrev pub set_stride : List ℕ → List (List ℕ × T) → List (List ℕ × List (List ℕ × T))
      → List (List ℕ × List (List ℕ × T))
  set_stride o [] strides = without o strides
  set_stride o (e ∷ stride) strides = put o (e ∷ stride) strides

  -- the target of the first n bits of the octets, as the strides hold it
  abbrev pub target_at : List (List ℕ × List (List ℕ × T)) → List ℕ → ℕ → Option T
  target_at strides o n = lookup (code (slice_index o (n / 8)) (n % 8) ∷ []) (stride_at (take (n / 8) o) strides)

  -- the target that a stride holds for the first r bits of the byte x
  abbrev pub in_stride : List (List ℕ × T) → ℕ → ℕ → Option T
  in_stride stride x r = lookup (code x r ∷ []) stride

  -- r bits of x, at most `most`, have a target in the stride, and no more have; or none have
  abbrev pub IsLongestIn : List (List ℕ × T) → ℕ → ℕ → Option (ℕ × T) → Type 0
  IsLongestIn stride x most None = (r : ℕ) → r ≤ most → in_stride stride x r ≡ None
  IsLongestIn stride x most (Some p) = (p.0 ≤ most) × (in_stride stride x p.0 ≡ Some p.1)
      × ((r : ℕ) → p.0 < r → r ≤ most → in_stride stride x r ≡ None)

  -- r bits of x, at least `least` and at most `most`, have a target in the stride, and no fewer have; or none have
  abbrev pub IsShortestIn : List (List ℕ × T) → ℕ → ℕ → ℕ → Option (ℕ × T) → Type 0
  IsShortestIn stride x least most None = (r : ℕ) → least ≤ r → r ≤ most → in_stride stride x r ≡ None
  IsShortestIn stride x least most (Some p) = (least ≤ p.0) × (p.0 ≤ most) × (in_stride stride x p.0 ≡ Some p.1)
      × ((r : ℕ) → least ≤ r → r < p.0 → in_stride stride x r ≡ None)
