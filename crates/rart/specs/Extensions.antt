-- What an extension of a tree puts into it before an item is refused.
use Rattle.std.specs.Prelude.{◌≡◌, ℕ, List, ◌∷◌, ◌++◌, []}
use Rattle.rart_keys.specs.BulkLists.{put_all}
use Rattle.rart_trie.specs.declared.refused.Refused.{Refused}
use Rattle.rart.specs.Refusals.{MayRefuseInsert}
use Rattle.rart.specs.Steps.{pairs_in}

-- of these items all but the last were put into the map, and the error holds the last, whose insertion was refused for
-- a reason that the new map allows
abbrev pub PutsUntil : {K V : Type 0} → (K → List ℕ) → List (List ℕ × V) → List (K × V) → Refused (K × V)
    → List (List ℕ × V) → Type 0
PutsUntil {K} {V} bytes old items refused new = (before : List (K × V)) × (items ≡ before ++ refused.value ∷ [])
    × (new ≡ put_all (pairs_in bytes before) old) × MayRefuseInsert new (bytes refused.value.0) refused.error
