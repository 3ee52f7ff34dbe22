-- The places of a direct mapping, and the walk over them.
use Rattle.std.specs.Prelude.{◌≡◌, ℕ, ◌<◌, true, List, [], ◌∷◌, length, Option, None, Some, slice_index_or}
use Rattle.rart_parts.specs.Places.{is_used, numbered_values}

-- a place for each byte, and the number of those that have a child
pub record IsDirect {X : Type 0} (places : List (Option X)) (count : ℕ) : Type 0 where
  pub full : length places ≡ 256
  pub counted : count ≡ length (numbered_values 0 places)

-- what a place has, as an entry before others
abbrev pub with_place : {X : Type 0} → ℕ → Option X → List (ℕ × X) → List (ℕ × X)
with_place p None es = es
with_place p (Some x) es = (p, x) ∷ es

-- the children in places, by the bytes of the places
abbrev pub in_places : {X : Type 0} → List ℕ → List (Option X) → List (ℕ × X)
in_places [] os = []
in_places (p ∷ ps) os = with_place p (slice_index_or os p None) (in_places ps os)

-- each is a byte whose place has a child
abbrev pub AreFilled : {X : Type 0} → List (Option X) → List ℕ → Type 0
AreFilled os [] = Unit {0}
AreFilled os (p ∷ ps) = (p < 256) × (is_used os p ≡ true) × AreFilled os ps
