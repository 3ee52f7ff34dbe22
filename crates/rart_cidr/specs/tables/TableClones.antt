-- What the clone of a table has.
use Rattle.std.specs.Prelude.{◌≡◌, ℕ, List}
use Rattle.std.specs.List.{AllZip}
use Rattle.rart_keys.specs.SortedMap.{keys_of, values_of}

-- the same networks in order, each with a clone of its target
pub record IsTableClone {T : Type 0} (Clones : T → T → Type 0) (old new : List (List ℕ × T)) : Type 0 where
  pub networks : keys_of new ≡ keys_of old
  pub targets : AllZip Clones (values_of old) (values_of new)
