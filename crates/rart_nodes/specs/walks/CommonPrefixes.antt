-- The longest string with which some keys begin.
use Rattle.std.specs.Prelude.{ℕ, ◌≡◌, ◌≤◌, true, List, [], ◌∷◌, length}
use Rattle.rart_keys.specs.ByteStrings.{begins}

-- p begins each of the keys
abbrev pub BeginsEach : List ℕ → List (List ℕ) → Type 0
BeginsEach p [] = Unit {0}
BeginsEach p (k ∷ ks) = (begins p k ≡ true) × BeginsEach p ks

-- p begins each of the keys, and no longer string does
pub record IsCommonPrefix (p : List ℕ) (ks : List (List ℕ)) : Type 0 where
  pub begins_each : BeginsEach p ks
  pub longest : (q : List ℕ) → BeginsEach q ks → length q ≤ length p
