-- How a callback is called along a list, and when a walk over a list may lack memory.
use Rattle.std.specs.Prelude.{◌≡◌, ◌≢◌, List, [], ◌∷◌, ◌++◌}
use Rattle.std.specs.List.{FoldsTo}
use Rattle.rart_parts.specs.declared.error.TreeError.{TreeError}
use Rattle.rart_parts.specs.declared.error.TreeError.TheVariants.{Memory}

-- there are calls of which R speaks, at each of these in turn, by a callback f taken by value; others aren't excluded
abbrev pub CallsEach : {F A : Type 0} → (F → A → F → Type 0) → F → List A → Type 0
CallsEach {F} R f xs = (last : F) × FoldsTo R f xs last

-- the error is Memory, and the list is not empty
abbrev pub MayLackMemory : {A : Type 0} → List A → TreeError → Type 0
MayLackMemory xs e = (e ≡ Memory) × (xs ≢ [])

-- Q holds at each item, of f as calls of which R speaks leave it at the items before
pub record CallableAtEach {F A : Type 0} (R : F → A → F → Type 0) (Q : F → A → Type 0) (f : F) (xs : List A) : Type 0
  where
    pub at : (before : List A) (x : A) (after : List A) (g : F) → xs ≡ before ++ x ∷ after → FoldsTo R f before g
        → Q g x
