-- The order of networks, and what is ahead of a walk over the routes.
use Rattle.std.specs.Prelude.{◌≡◌, ◌≢◌, ◌≤◌, ◌↔◌, ◌+◌, ◌*◌, ℕ, ◌++◌, Bool, true, false, List, [], ◌∷◌, length}
use Rattle.std.specs.Prelude.{take, Option, Some, None, IsTrue}
use Rattle.std.specs.Prelude.{if◌then◌else◌}
use Rattle.std.specs.declared.ops.Bound.{Bound}
use Rattle.rart_keys.specs.ByteStrings.{IsLess, begins}
use Rattle.rart_keys.specs.KeyBytes.{AreBytes}
use Rattle.rart_keys.specs.Ranges.{is_from}
use Rattle.rart_keys.specs.SortedMap.{keys_of, lookup}
use Rattle.rart_cidr.specs.Bits.{bits_of, code_bits}
use Rattle.rart_cidr.specs.Routes.{IsCode, coded_network, stride_at}

-- the network of the whole bytes o and the bits of the code c
abbrev pub net_at : List ℕ → ℕ → List ℕ
net_at o c = coded_network o (c ∷ [])

-- the order of codes is that of the bits that they encode
abbrev pub IsCodeLess : ℕ → ℕ → Type 0
IsCodeLess c d = IsLess (code_bits c) (code_bits d)

-- a network comes before the bytes of the stride ahead, if there is one
abbrev pub IsBefore : List ℕ → Option (List ℕ) → Type 0
IsBefore n None = Unit {0}
IsBefore n (Some k) = IsLess n (bits_of k)

-- up to this code, and no further, the networks of the stride at o come before the stride ahead, if that comes after
-- the beginning of any of them
abbrev pub IsLastBefore : List ℕ → Option (List ℕ) → ℕ → Type 0
IsLastBefore o ahead last = IsCode (last ∷ []) × ((u : List ℕ) → IsBefore (bits_of o ++ u) ahead → (d : ℕ)
    → IsCode (d ∷ []) → (¬ (IsCodeLess last d) ↔ IsBefore (net_at o d) ahead))

-- after this code, and no other, the networks of the stride at the first octets come after that of o and c
abbrev pub IsCodeFrom : List ℕ → ℕ → ℕ → ℕ → Type 0
IsCodeFrom o c at from = IsCode (from ∷ []) × ((d : ℕ) → IsCode (d ∷ [])
    → (IsCodeLess from d ↔ IsLess (net_at o c) (net_at (take at o) d)))

-- the keys ahead: the first one, and those of the strides after it
abbrev pub keys_ahead : {K S : Type 0} → (K → List ℕ) → Option K → List (List ℕ × S) → List (List ℕ)
keys_ahead bytes None rest = []
keys_ahead bytes (Some key) rest = bytes key ∷ keys_of rest

-- how many steps are left at most, for a walk whose network is done or isn't, with these keys ahead
abbrev pub steps_left : Bool → List (List ℕ) → ℕ
steps_left true ks = 2 * length ks
steps_left false ks = 2 * length ks + 1

-- a start that keys are within whose bits come after q, and no others
abbrev pub IsStart : List ℕ → Bound (List ℕ) → Type 0
IsStart q start = (p : List ℕ) → AreBytes p → (IsTrue (is_from start p) ↔ IsLess q (bits_of p))

module _ {T : Type 0} where
  -- of the targets of a stride after the code c, up to the code last, the first; or there is none
  abbrev pub IsNextIn : List (List ℕ × T) → ℕ → ℕ → Option (ℕ × T) → Type 0
  IsNextIn stride c last None = (d : ℕ) → IsCode (d ∷ []) → IsCodeLess c d → ¬ (IsCodeLess last d)
      → lookup (d ∷ []) stride ≡ None
  IsNextIn stride c last (Some p) = IsCode (p.0 ∷ []) × IsCodeLess c p.0 × ¬ (IsCodeLess last p.0)
      × (lookup (p.0 ∷ []) stride ≡ Some p.1)
      × ((d : ℕ) → IsCode (d ∷ []) → IsCodeLess c d → IsCodeLess d p.0 → lookup (d ∷ []) stride ≡ None)

  -- of the routes after q in the stride at the first `at` octets, before the stride ahead, the first; or there is none
  abbrev pub IsNextAt : List (List ℕ × List (List ℕ × T)) → List ℕ → List ℕ → ℕ → Option (List ℕ) → Option (ℕ × T)
      → Type 0
  IsNextAt S o q at ahead None = (d : ℕ) → IsCode (d ∷ []) → IsLess q (net_at (take at o) d)
      → IsBefore (net_at (take at o) d) ahead → lookup (d ∷ []) (stride_at (take at o) S) ≡ None
  IsNextAt S o q at ahead (Some p) = IsCode (p.0 ∷ []) × IsLess q (net_at (take at o) p.0)
      × IsBefore (net_at (take at o) p.0) ahead × (lookup (p.0 ∷ []) (stride_at (take at o) S) ≡ Some p.1)
      × ((d : ℕ) → IsCode (d ∷ []) → IsLess q (net_at (take at o) d)
      → IsLess (net_at (take at o) d) (net_at (take at o) p.0) → lookup (d ∷ []) (stride_at (take at o) S) ≡ None)

  -- the strides at the first `low` octets or more have no route after q and before the stride ahead
  abbrev pub HasNoneDownTo : List (List ℕ × List (List ℕ × T)) → List ℕ → List ℕ → Option (List ℕ) → ℕ → Type 0
  HasNoneDownTo S o q ahead low = (at d : ℕ) → low ≤ at → at ≤ length o → IsCode (d ∷ [])
      → IsLess q (net_at (take at o) d) → IsBefore (net_at (take at o) d) ahead
      → lookup (d ∷ []) (stride_at (take at o) S) ≡ None

  -- of the routes after q in the strides at beginnings of the octets, before the stride ahead, the first; or there is
  -- none
  abbrev pub IsNextBefore : List (List ℕ × List (List ℕ × T)) → List ℕ → List ℕ → Option (List ℕ) → Option (ℕ × ℕ × T)
      → Type 0
  IsNextBefore S o q ahead None = HasNoneDownTo S o q ahead 0
  IsNextBefore S o q ahead (Some p) = (p.0 ≤ length o) × IsCode (p.1 ∷ []) × IsLess q (net_at (take p.0 o) p.1)
      × IsBefore (net_at (take p.0 o) p.1) ahead × (lookup (p.1 ∷ []) (stride_at (take p.0 o) S) ≡ Some p.2)
      × ((at d : ℕ) → at ≤ length o → IsCode (d ∷ []) → IsLess q (net_at (take at o) d)
      → IsLess (net_at (take at o) d) (net_at (take p.0 o) p.1) → lookup (d ∷ []) (stride_at (take at o) S) ≡ None)

  -- the keys of the strides whose bits come after q, in order
  abbrev pub AreAhead : List ℕ → List (List ℕ × List (List ℕ × T)) → List (List ℕ) → Type 0
  AreAhead q S [] = (p : List ℕ) → lookup p S ≢ None → ¬ (IsLess q (bits_of p))
  AreAhead q S (k ∷ ks) = IsLess q (bits_of k)
      × ((p : List ℕ) → lookup p S ≢ None → IsLess q (bits_of p) → ¬ (IsLess (bits_of p) (bits_of k)))
      × AreAhead (bits_of k) S ks

  -- the routes up to the first whose network isn't inside the network q
  abbrev pub up_to_outside : List ℕ → List (List ℕ × T) → List (List ℕ × T)
  up_to_outside q [] = []
  up_to_outside q (e ∷ es) = if begins q e.0 then e ∷ up_to_outside q es else []

  -- each network has at most w bits
  abbrev pub AreWithin : ℕ → List (List ℕ × T) → Type 0
  AreWithin w [] = Unit {0}
  AreWithin w (e ∷ es) = (length e.0 ≤ w) × AreWithin w es
