-- What is left of routes once those have left whose target is that of the next shorter network that covers them.
use Rattle.std.specs.Prelude.{◌≡◌, ◌⊎◌, ◌+◌, ◌≤◌, ℕ, Bool, true, false, List, length, Option, Some, None, Result, Ok}
use Rattle.std.specs.Prelude.{Err}
use Rattle.rart_keys.specs.Filters.{longest_value}
use Rattle.rart_keys.specs.SortedMap.{lookup, without}
use Rattle.rart_parts.specs.declared.error.TreeError.{TreeError}
use Rattle.rart_parts.specs.declared.error.TreeError.TheVariants.{Memory}

module _ {T : Type 0} (same : T → T → Bool) where
  -- two targets are one, or `same` holds of them; or there is none
  abbrev pub AreAlike : Option T → Option T → Type 0
  AreAlike None None = Unit {0}
  AreAlike None (Some u) = ⊥
  AreAlike (Some t) None = ⊥
  AreAlike (Some t) (Some u) = (t ≡ u) ⊎ (same t u ≡ true)

  -- no target is the one of the longest other network that covers its own
  abbrev pub AreNeeded : List (List ℕ × T) → Type 0
  AreNeeded routes = (n : List ℕ) (t u : T) → lookup n routes ≡ Some t → longest_value n (without n routes) ≡ Some u
      → same t u ≡ false

  -- some routes left: the others are as before, and each longest match has the target that it had
  pub record KeepsMatches (old new : List (List ℕ × T)) : Type 0 where
    pub only : (n : List ℕ) (t : T) → lookup n new ≡ Some t → lookup n old ≡ Some t
    pub matches : (q : List ℕ) → AreAlike (longest_value q old) (longest_value q new)

  -- Ok: `count` routes were removed, and each other one is needed. Err: some or none, and at least five are left
  abbrev pub Aggregates : List (List ℕ × T) → List (List ℕ × T) → Result ℕ TreeError → Type 0
  Aggregates old new (Ok count) = KeepsMatches old new × AreNeeded new × (length new + count ≡ length old)
  Aggregates old new (Err error) = (error ≡ Memory) × KeepsMatches old new × (5 ≤ length new)

  -- whether a target and another are alike, where both are there
  abbrev pub AreCompared : Option T → Option T → Bool → Type 0
  AreCompared None other result = result ≡ false
  AreCompared (Some t) None result = result ≡ false
  AreCompared (Some t) (Some u) result = result ≡ same t u
