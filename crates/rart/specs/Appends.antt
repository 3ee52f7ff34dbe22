-- What `append` moves from one tree to another, and where the pair is that it can't move.
use Rattle.std.specs.Prelude.{◌≡◌, ◌⊎◌, ◌++◌, ◌∷◌, ℕ, List, Option, Some, None}
use Rattle.rart_keys.specs.BulkLists.{put_all}
use Rattle.rart_keys.specs.SortedMap.{put}
use Rattle.rart_trie.specs.declared.refused.Refused.{Refused}
use Rattle.rart_parts.specs.declared.error.TreeError.{TreeError}
use Rattle.rart_parts.specs.declared.error.TreeError.TheVariants.{Memory}
use Rattle.rart.specs.Refusals.{MayRefuseInsert, MayRefuseRemove}

-- the pairs of `other` before those that are left were put into the map
pub record Moves {V : Type 0} (old other new left : List (List ℕ × V)) : Type 0 where
  pub before : List (List ℕ × V)
  pub split : other ≡ before ++ left
  pub moved : new ≡ put_all before old

-- a pair that was refused, the first of those that are left, with `rest` after it. None: it is still in `other`; its
-- removal or its insertion was refused. Some: the error holds it, as its insertion was refused in both trees
abbrev pub IsNotMoved : {K V : Type 0} → (K → List ℕ) → List (List ℕ × V) → List ℕ × V → List (List ℕ × V) → TreeError
    → Option (K × V) → List (List ℕ × V) → Type 0
IsNotMoved bytes new pair rest error None left = (left ≡ pair ∷ rest)
    × (MayRefuseRemove (pair ∷ rest) pair.0 error ⊎ MayRefuseInsert new pair.0 error)
IsNotMoved bytes new pair rest error (Some held) left = ((bytes held.0, held.1) ≡ pair) × (left ≡ rest)
    × MayRefuseInsert new pair.0 error × MayRefuseInsert rest pair.0 Memory

-- the pairs of `other` before one were put into the map, and that one was refused
pub record MovesUntil {K V : Type 0} (bytes : K → List ℕ) (old other : List (List ℕ × V))
    (refused : Refused (Option (K × V))) (new left : List (List ℕ × V)) : Type 0 where
  pub before : List (List ℕ × V)
  pub pair : List ℕ × V
  pub rest : List (List ℕ × V)
  pub split : other ≡ before ++ pair ∷ rest
  pub moved : new ≡ put_all before old
  pub kept : IsNotMoved bytes new pair rest refused.error refused.value left

-- a pair that the map refused was put into `other`, or was refused there too
abbrev pub PutsBack : {K V : Type 0} → (K → List ℕ) → K → V → List (List ℕ × V) → Option (K × V) → List (List ℕ × V)
    → Type 0
PutsBack bytes key value other None left = left ≡ put (bytes key) value other
PutsBack bytes key value other (Some held) left = (held ≡ (key, value)) × (left ≡ other)
    × ((error : TreeError) × MayRefuseInsert other (bytes key) error)
