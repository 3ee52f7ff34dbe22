-- Branch points of a set of keys, in their literal words.
use Rattle.std.specs.Prelude.{ℕ, ◌≡◌, ◌⊎◌, true, Bool, List, [], ◌∷◌, ◌++◌}
use Rattle.std.specs.List.{list_any}
use Rattle.rart_keys.specs.ByteStrings.{begins}
use Rattle.rart_trie.specs.shapes.Shape.{contains_key}

-- p begins a key
abbrev pub begins_any : List ℕ → List (List ℕ) → Bool
begins_any p s = list_any (λ k. begins p k) s

-- keys continue after p by two different bytes
pub record GoTwoWays (s : List (List ℕ)) (p : List ℕ) : Type 0 where
  pub one : ℕ
  pub other : ℕ
  pub differ : one ≡ other → ⊥
  pub one_on : begins_any (p ++ one ∷ []) s ≡ true
  pub other_on : begins_any (p ++ other ∷ []) s ≡ true

-- p is a key, or keys continue after it by two different bytes
abbrev pub IsBranchPoint : List (List ℕ) → List ℕ → Type 0
IsBranchPoint s p = (contains_key s p ≡ true) ⊎ GoTwoWays s p
