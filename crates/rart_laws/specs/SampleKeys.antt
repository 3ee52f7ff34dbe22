-- Keys of which laws name the number of visits.
use Rattle.std.specs.Prelude.{ℕ, List, [], ◌∷◌}

-- "", "a", "ab" and "abc"
abbrev pub nested_keys : List (List ℕ)
nested_keys = [] ∷ (97 ∷ []) ∷ (97 ∷ 98 ∷ []) ∷ (97 ∷ 98 ∷ 99 ∷ []) ∷ []

-- "ab", "abc" and "dog"
abbrev pub left_keys : List (List ℕ)
left_keys = (97 ∷ 98 ∷ []) ∷ (97 ∷ 98 ∷ 99 ∷ []) ∷ (100 ∷ 111 ∷ 103 ∷ []) ∷ []

-- "abc", "dog" and "zzz"
abbrev pub right_keys : List (List ℕ)
right_keys = (97 ∷ 98 ∷ 99 ∷ []) ∷ (100 ∷ 111 ∷ 103 ∷ []) ∷ (122 ∷ 122 ∷ 122 ∷ []) ∷ []
