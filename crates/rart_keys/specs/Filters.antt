-- The pairs of a sorted map whose key a string begins, the other pairs, and those whose key begins it.
use Rattle.std.specs.Prelude.{ℕ, not, List, [], ◌∷◌, Option, Some, None, option_map}
use Rattle.std.specs.List.{filter}
use Rattle.rart_keys.specs.ByteStrings.{begins}

-- the pairs whose key p begins, in order
abbrev pub below : {V : Type 0} → List ℕ → List (List ℕ × V) → List (List ℕ × V)
below p es = filter (λ e. begins p e.0) es

-- the pairs whose key p doesn't begin, in order
abbrev pub without_prefix : {V : Type 0} → List ℕ → List (List ℕ × V) → List (List ℕ × V)
without_prefix p es = filter (λ e. not (begins p e.0)) es

-- the pairs whose key begins q, in order: the shortest first
abbrev pub matches : {V : Type 0} → List ℕ → List (List ℕ × V) → List (List ℕ × V)
matches q es = filter (λ e. begins e.0 q) es

-- the last of a list, or o where it has none
abbrev pub last_or : {A : Type 0} → Option A → List A → Option A
last_or o [] = o
last_or o (e ∷ es) = last_or (Some e) es

-- the pair with the longest key that begins q
abbrev pub longest_match : {V : Type 0} → List ℕ → List (List ℕ × V) → Option (List ℕ × V)
longest_match q es = last_or None (matches q es)

-- the value that is stored there
abbrev pub longest_value : {V : Type 0} → List ℕ → List (List ℕ × V) → Option V
longest_value q es = option_map (λ e. e.1) (longest_match q es)
