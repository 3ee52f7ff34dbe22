-- What the clone of a tree has.
use Rattle.std.specs.Prelude.{◌≡◌}
use Rattle.std.specs.List.{AllZip}
use Rattle.rart_keys.specs.SortedMap.{keys_of, values_of}
use Rattle.rart.specs.MapAndShape.{MapAndShape}

-- the same keys in order, each with a clone of its value, and the same nodes
pub record IsTreeClone {V : Type 0} (Clones : V → V → Type 0) (old new : MapAndShape V) : Type 0 where
  pub keys : keys_of new.pairs ≡ keys_of old.pairs
  pub values : AllZip Clones (values_of old.pairs) (values_of new.pairs)
  pub nodes : new.nodes ≡ old.nodes
