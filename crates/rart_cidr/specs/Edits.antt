-- What edits of a table return, and what follows of its routes and of its strides.
use Rattle.std.specs.Prelude.{◌≡◌, ◌≢◌, ◌<◌, ◌≤◌, ◌⊎◌, ℕ, List, [], length, Option, Some, None, Result, Ok, Err}
use Rattle.rart_keys.specs.SortedMap.{lookup, put, without}
use Rattle.rart_trie.specs.declared.refused.Refused.{Refused}
use Rattle.rart_parts.specs.declared.error.TreeError.{TreeError}
use Rattle.rart_parts.specs.declared.error.TreeError.TheVariants.{Memory, Full}
use Rattle.rart.specs.declared.tree.TheConstants.{MAX_PAIRS}
use Rattle.rart.specs.Edits.{Inserts, Removes}
use Rattle.rart_cidr.specs.Routes.{set_stride, stride_at}

module _ {T : Type 0} where
  -- a new route may be refused for this reason: Full in a full table, Memory in one that is neither full nor empty
  abbrev pub MayRefuseRoute : List (List ℕ × T) → List ℕ → TreeError → Type 0
  MayRefuseRoute routes net Full = (lookup net routes ≡ None) × (length routes ≡ MAX_PAIRS)
  MayRefuseRoute routes net Memory = (lookup net routes ≡ None) × (length routes < MAX_PAIRS) × (routes ≢ [])

  -- the network has the target, and the old one is returned; a full table takes no new network. On Err the target is
  -- returned, and no route changes
  abbrev pub InsertsRoute : List ℕ → T → List (List ℕ × T) → List (List ℕ × T) → Result (Option T) (Refused T) → Type 0
  InsertsRoute net target old new (Ok was) = (was ≡ lookup net old) × (length old ≡ MAX_PAIRS → lookup net old ≢ None)
      × (new ≡ put net target old)
  InsertsRoute net target old new (Err refused) = (refused.value ≡ target) × MayRefuseRoute old net refused.error
      × (new ≡ old)

  -- the network has no target, and the old one is returned. An Err needs a stored network and a
  -- table of five routes or more, and no route changes
  abbrev pub RemovesRoute : List ℕ → List (List ℕ × T) → List (List ℕ × T) → Result (Option T) TreeError → Type 0
  RemovesRoute net old new (Ok was) = (was ≡ lookup net old) × (new ≡ without net old)
  RemovesRoute net old new (Err error) = (error ≡ Memory) × (lookup net old ≢ None) × (5 ≤ length old) × (new ≡ old)

  -- a new target may be refused for this reason: the strides are full or the stride is, or there are strides
  abbrev pub MayRefuseTarget : List (List ℕ × List (List ℕ × T)) → List ℕ → List ℕ → TreeError → Type 0
  MayRefuseTarget old o k Memory = (lookup k (stride_at o old) ≡ None) × (old ≢ [])
  MayRefuseTarget old o k Full = (lookup k (stride_at o old) ≡ None)
      × (length (stride_at o old) < MAX_PAIRS → length old ≡ MAX_PAIRS)

  -- the stride at o gets the target at k
  abbrev pub PutsTarget : List ℕ → List ℕ → T → List (List ℕ × List (List ℕ × T)) → List (List ℕ × List (List ℕ × T))
      → Result (Option T) (Refused T) → Type 0
  PutsTarget o k t old new (Ok was) = (was ≡ lookup k (stride_at o old))
      × (new ≡ set_stride o (put k t (stride_at o old)) old)
  PutsTarget o k t old new (Err refused) = (refused.value ≡ t) × MayRefuseTarget old o k refused.error × (new ≡ old)

  -- a stored stride s is edited in its place and left as n
  abbrev pub PutsIn : List ℕ → List ℕ → T → List (List ℕ × List (List ℕ × T)) → List (List ℕ × List (List ℕ × T))
      → Result (Option T) (Refused T) → Type 0
  PutsIn o k t old new result = (s : List (List ℕ × T)) → lookup o old ≡ Some s → (n : List (List ℕ × T))
      × (new ≡ put o n old) × Inserts k t s n result

  abbrev pub TakesFrom : List ℕ → List ℕ → List (List ℕ × List (List ℕ × T)) → List (List ℕ × List (List ℕ × T))
      → Result (Option T) TreeError → Type 0
  TakesFrom o k old new result = (s : List (List ℕ × T)) → lookup o old ≡ Some s → (n : List (List ℕ × T))
      × (new ≡ put o n old) × Removes k s n result

  -- the target at k is removed from the stride at o; a refusal needs five strides, or a stride of five targets
  abbrev pub TakesTarget : List ℕ → List ℕ → List (List ℕ × List (List ℕ × T)) → List (List ℕ × List (List ℕ × T))
      → Result (Option T) TreeError → Type 0
  TakesTarget o k old new (Ok None) = (lookup k (stride_at o old) ≡ None) × (new ≡ old)
  TakesTarget o k old new (Ok (Some t)) = (lookup k (stride_at o old) ≡ Some t)
      × (new ≡ set_stride o (without k (stride_at o old)) old)
  TakesTarget o k old new (Err error) = (error ≡ Memory) × (lookup k (stride_at o old) ≢ None)
      × ((5 ≤ length old) ⊎ (5 ≤ length (stride_at o old))) × (new ≡ old)
