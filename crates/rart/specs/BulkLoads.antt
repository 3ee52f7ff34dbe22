-- What a bulk load reads, and where it stops.
use Rattle.std.specs.Prelude.{◌≡◌, ◌≢◌, ◌+◌, ◌-◌, ◌^◌, ◌<◌, ◌≤◌, min, ℕ, List, [], ◌∷◌, ◌++◌, length, Option, None}
use Rattle.std.specs.Prelude.{Some, slice_index_or, zero, suc}
use Rattle.std.specs.Iterator.{Yields, Drains, HoldsAlong}
use Rattle.rart_keys.specs.BulkLists.{first_fault, last_wins, put_all}
use Rattle.rart_keys.specs.SortedMap.{IsAscending, keys_of}
use Rattle.rart.specs.Steps.{pairs_in}
use Rattle.rart.specs.declared.bulk.BulkError.{BulkError}
use Rattle.rart.specs.declared.bulk.BulkError.TheVariants.{Memory, Full, Unsorted}
use Rattle.rart.specs.declared.tree.TheConstants.{MAX_PAIRS}
use Rattle.rart_parts.specs.declared.error.TreeError.{TreeError}
use Rattle.rart.specs.Refusals.{MayLackStats, MayRefuseInsert}
use Rattle.rart.specs.declared.laws.bulk_loads.RefusedStep.{RefusedStep}
use Rattle.rart.specs.declared.laws.bulk_loads.RefusedStep.TheVariants.{Load, Insertion, Stats}

module _ {U S A : Type 0} (becomes : U → S → Type 0) (steps : S → Option A → S → Type 0) where
  -- P holds of some items that were read from the front
  abbrev pub Reads : U → (List A → Type 0) → Type 0
  Reads items P = (s : S) × (xs : List A) × (t : S) × becomes items s × Yields steps s xs t × P xs

  -- P holds of the items, which were read to the end
  abbrev pub ReadsAll : U → (List A → Type 0) → Type 0
  ReadsAll items P = (s : S) × (xs : List A) × becomes items s × Drains steps s xs × P xs

-- whatever is read from s on, the keys ascend strictly
abbrev pub AscendAlong : {K S V : Type 0} → (K → List ℕ) → (S → Option (K × V) → S → Type 0) → S → Type 0
AscendAlong bytes steps s = HoldsAlong steps s (λ xs. IsAscending (pairs_in bytes xs))

-- P holds of the list without its last
abbrev pub BeforeLast : {A : Type 0} → (List A → Type 0) → List A → Type 0
BeforeLast {A} P xs = (before : List A) × (last : A) × (xs ≡ before ++ last ∷ []) × P before

-- this refusal came at the last of these pairs, or where all were read: a key below the one before it, else one key too
-- many, else want of memory
abbrev pub FailsSorted : {V : Type 0} → List (List ℕ × V) → BulkError → Type 0
FailsSorted es Memory = (es ≢ []) × (first_fault es ≡ None) × (length (last_wins es) ≤ MAX_PAIRS)
FailsSorted es Full = (first_fault es ≡ None) × (length (last_wins es) ≡ MAX_PAIRS + 1)
    × BeforeLast (λ before. length (last_wins before) ≡ MAX_PAIRS) es
FailsSorted es (Unsorted at) = (i : ℕ) × (first_fault es ≡ Some i) × (length es ≡ i + 1) × (at ≡ min i (2 ^ 64 - 1))

-- `FailsSorted` for pairs that ascend strictly
abbrev pub FailsUnique : {V : Type 0} → List (List ℕ × V) → BulkError → Type 0
FailsUnique es Memory = (es ≢ []) × (length es ≤ MAX_PAIRS)
FailsUnique es Full = length es ≡ MAX_PAIRS + 1
FailsUnique es (Unsorted at) = ⊥

-- the pairs that a sorted load leaves of these items, none of which is a fault
abbrev pub LoadsSorted : {V : Type 0} → List (List ℕ × V) → List (List ℕ × V) → Type 0
LoadsSorted es m = (first_fault es ≡ None) × (m ≡ last_wins es)

-- f can be called at i, i + 1 and so on, n times
abbrev pub CanTake : {F V : Type 0} → (F → ℕ → Type 0) → (F → ℕ → V → F → Type 0) → ℕ → ℕ → F → Type 0
CanTake pre step i zero f = Unit {0}
CanTake {F} {V} pre step i (suc n) f = pre f i × ((v : V) (g : F) → step f i v g → CanTake pre step (suc i) n g)

-- the calls of f at i, i + 1 and so on gave these values, and left g
abbrev pub Takes : {F V : Type 0} → (F → ℕ → V → F → Type 0) → ℕ → F → List V → F → Type 0
Takes step i f [] g = f ≡ g
Takes {F} step i f (v ∷ vs) g = (m : F) × step f i v m × Takes step (suc i) m vs g

-- how a load of `len` keys by index is refused
abbrev pub FailsByIndex : ℕ → BulkError → Type 0
FailsByIndex len Memory = (0 < len) × (len ≤ MAX_PAIRS)
FailsByIndex len Full = MAX_PAIRS < len
FailsByIndex len (Unsorted at) = ⊥

-- the key at each place is one that fits there
abbrev pub AreKeysAt : (ℕ → List ℕ → Type 0) → List (List ℕ) → Type 0
AreKeysAt At ks = (i : ℕ) → i < length ks → At i (slice_index_or ks i [])

-- a load of `len` keys that failed called f at a beginning of the indices, in order, which left g; where it was full it
-- called nothing
abbrev pub TakesBeginning : {F V : Type 0} → (F → ℕ → V → F → Type 0) → ℕ → F → F → BulkError → Type 0
TakesBeginning {F} {V} step len f g Memory = (taken : List V) × (length taken ≤ len) × Takes step 0 f taken g
TakesBeginning step len f g Full = g ≡ f
TakesBeginning step len f g (Unsorted at) = ⊥

-- what the law of bulk loads answers, where one of its calls was refused
module _ {V : Type 0} where
  -- the load of these pairs, which ascend strictly, may be refused so
  abbrev pub MayRefuseLoad : List (List ℕ × V) → BulkError → Type 0
  MayRefuseLoad pairs Memory = pairs ≢ []
  MayRefuseLoad pairs Full = MAX_PAIRS < length pairs
  MayRefuseLoad pairs (Unsorted at) = ⊥

  -- the insertion of one of these pairs, after those before it, may be refused so
  abbrev pub MayRefuseOneOf : List (List ℕ × V) → TreeError → Type 0
  MayRefuseOneOf pairs error = (before : List (List ℕ × V)) × (pair : List ℕ × V) × (after : List (List ℕ × V))
      × (pairs ≡ before ++ pair ∷ after) × MayRefuseInsert (put_all before []) pair.0 error

  -- the call that was refused, for a reason that the pairs allow
  abbrev pub RefusesStep : List (List ℕ × V) → List (List ℕ × V) → RefusedStep → Type 0
  RefusesStep sorted shuffled (Load error) = MayRefuseLoad sorted error
  RefusesStep sorted shuffled (Insertion error) = MayRefuseOneOf shuffled error
  RefusesStep sorted shuffled (Stats error) = MayLackStats (keys_of sorted) error
