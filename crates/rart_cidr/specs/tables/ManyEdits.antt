-- What edits of many routes return, and what they leave.
use Rattle.std.specs.Prelude.{◌≡◌, ◌≢◌, ◌≤◌, ℕ, List, [], ◌∷◌, ◌++◌, length, Result, Ok, Err}
use Rattle.rart_keys.specs.BulkLists.{put_all}
use Rattle.rart_keys.specs.Filters.{below, without_prefix}
use Rattle.rart_parts.specs.declared.error.TreeError.{TreeError}
use Rattle.rart_parts.specs.declared.error.TreeError.TheVariants.{Memory}
use Rattle.rart_trie.specs.declared.refused.Refused.{Refused}
use Rattle.rart.specs.Steps.{pairs_in}
use Rattle.rart_cidr.specs.Edits.{MayRefuseRoute}

-- of these routes all but the last were put into the table, and the error holds the last, which was refused for a
-- reason that the new table allows
abbrev pub PutsRoutesUntil : {N T : Type 0} → (N → List ℕ) → List (List ℕ × T) → List (N × T) → Refused (N × T)
    → List (List ℕ × T) → Type 0
PutsRoutesUntil {N} {T} bits old routes refused new = (before : List (N × T)) × (routes ≡ before ++ refused.value ∷ [])
    × (new ≡ put_all (pairs_in bits before) old) × MayRefuseRoute new (bits refused.value.0) refused.error

module _ {T : Type 0} where
  -- the first of the routes inside net left, and no other
  abbrev pub LeavesRest : List ℕ → List (List ℕ × T) → List (List ℕ × T) → Type 0
  LeavesRest net old new = (gone : List (List ℕ × T)) × (below net old ≡ gone ++ below net new)
      × (without_prefix net new ≡ without_prefix net old)

  -- Ok: all routes inside net left, and their number is returned. Err: some did, in a table that has five routes yet
  abbrev pub RemovesWithin : List ℕ → List (List ℕ × T) → List (List ℕ × T) → Result ℕ TreeError → Type 0
  RemovesWithin net old new (Ok count) = (count ≡ length (below net old)) × (new ≡ without_prefix net old)
  RemovesWithin net old new (Err error) = (error ≡ Memory) × LeavesRest net old new × (below net new ≢ [])
      × (5 ≤ length new)
