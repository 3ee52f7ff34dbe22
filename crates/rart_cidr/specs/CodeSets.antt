-- The set of the codes that have a target, and the targets in the order of their codes.
use Rattle.std.specs.Prelude.{◌≡◌, ◌<◌, ◌≤◌, ℕ, zero, suc, Bool, true, false, List, [], ◌∷◌, drop, length, Option}
use Rattle.std.specs.Prelude.{Some, None, if◌then◌else◌}
use Rattle.rart_parts.specs.Bits.{members, words_have}
use Rattle.rart_trie.specs.shapes.Shape.{capacity_of}
use Rattle.rart_cidr.specs.Bits.{code}

-- whether the words have the bit of a code
abbrev pub has_code : List ℕ → ℕ → Bool
has_code words c = words_have 64 (λ w. w) words c

-- how many codes of the set are less than c
abbrev pub rank_of : List ℕ → ℕ → ℕ
rank_of words c = length (members (has_code words) c)

-- all codes are less
unfoldable pub codes_end : ℕ
codes_end = 256

module _ {T : Type 0} where
  -- the code c with the first of the targets, before these pairs
  abbrev pub with_first_target : ℕ → List T → List (List ℕ × T) → List (List ℕ × T)
  with_first_target c [] pairs = pairs
  with_first_target c (t ∷ targets) pairs = (c ∷ [], t) ∷ pairs

  -- the codes of a set, of `count` from `from` on, each with its target; the targets are in the order of the codes
  abbrev pub pairs_from : (ℕ → Bool) → ℕ → ℕ → List T → List (List ℕ × T)
  pairs_from has from zero targets = []
  pairs_from has from (suc count) targets = if has from
      then with_first_target from targets (pairs_from has (suc from) count (drop 1 targets))
      else pairs_from has (suc from) count targets

  -- the codes of the set, each with its target
  abbrev pub targets_by_code : List ℕ → List T → List (List ℕ × T)
  targets_by_code words targets = pairs_from (has_code words) 0 codes_end targets

-- there are as many targets as codes, and capacity for as many as a node with as many children has, four at least
pub record IsPacked {T : Type 0} (words : List ℕ) (targets : List T) (capacity : ℕ) : Type 0 where
  pub count : length targets ≡ rank_of words codes_end
  pub least : 4 ≤ capacity
  pub room : capacity_of (length targets) ≤ capacity

-- the code of b bits of the byte x, at most `most`, is in the set, and that of more bits isn't; or none is
abbrev pub IsLongestCode : List ℕ → ℕ → ℕ → Option ℕ → Type 0
IsLongestCode words x most None = (r : ℕ) → r ≤ most → has_code words (code x r) ≡ false
IsLongestCode words x most (Some b) = (b ≤ most) × (has_code words (code x b) ≡ true)
    × ((r : ℕ) → b < r → r ≤ most → has_code words (code x r) ≡ false)
