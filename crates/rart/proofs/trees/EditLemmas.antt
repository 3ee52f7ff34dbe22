-- What the relations of edits say of an answer that isn't known yet, and what holds of an error that is passed on.
use Rattle.std.proofs.Common.{◌≡◌, ◌≢◌, ℕ, List, Some, None, true}
use Rattle.std.specs.Prelude.{Option, Result, Ok, Err, IfErr, IsErrAnd, OnOk}
use Rattle.std.specs.Option.{IsSomeAnd}
use Rattle.rart_keys.specs.SortedMap.{keys_of, lookup, without}
use Rattle.rart_trie.specs.edits.RemoveAllocations.{remove_allocates}
use Rattle.rart_parts.specs.declared.error.TreeError.{TreeError}
use Rattle.rart_parts.specs.declared.error.TreeError.TheVariants.{Memory}
use Rattle.rart.specs.Edits.{Removes}
use Rattle.rart.specs.Refusals.{MayRefuseRemove}

-- what holds of an error holds of the same error, passed on
pub same-error : {A E : Type 0} (P : E → Type 0) (result : Result A E) (error : E) → IsErrAnd result (λ e. e ≡ error)
    → P error → IfErr result P
same-error P (Ok a) error same holds = tt
same-error P (Err e) error same holds = rw same holds

-- a removal that isn't refused leaves the other pairs
pub pairs-removes : {V : Type 0} (key : List ℕ) (old new : List (List ℕ × V)) (answer : Result (Option V) TreeError)
    → Removes key old new answer → OnOk answer (new ≡ without key old)
pairs-removes key old new (Ok was) removed = removed.1
pairs-removes key old new (Err error) removed = tt

-- where the removal of the pair at an end requests memory, it may be refused
pub may-refuse : {V : Type 0} (map : List (List ℕ × V)) (o : Option (List ℕ × V)) (error : TreeError) → error ≡ Memory
    → IsSomeAnd o (λ p. (remove_allocates (keys_of map) p.0 ≡ true) × (lookup p.0 map ≢ None))
    → IsSomeAnd o (λ p. MayRefuseRemove map p.0 error)
may-refuse map None error m a = a
may-refuse map (Some p) error m a = (m, a.1, a.0)
