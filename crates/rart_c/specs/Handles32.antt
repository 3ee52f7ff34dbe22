-- The empty map, and what comes out of a handle.
use Rattle.std.specs.Prelude.{◌≡◌, [], Option, None, Some, Result, Ok, Err}
use Rattle.std.specs.Global.{Box}
use Rattle.std.specs.declared.alloc.AllocError.{AllocError}
use Rattle.rart_c.specs.declared.map32.Map32.{Map32}

abbrev pub empty_map : Map32
empty_map = record { tree = record { pairs = []; nodes = [] } }

-- the map of a handle whose parked box holds this
abbrev pub map_of : Option Map32 → Map32
map_of None = empty_map
map_of (Some m) = m

-- the map is taken out of its handle
abbrev pub Takes : Map32 → Option (Box Map32) → Type 0
Takes m None = m ≡ empty_map
Takes m (Some held) = held.value ≡ m

-- the same, and an empty map is made where there was none; or that failed, and the map is unchanged
abbrev pub TakesOrMakes : Map32 → Map32 → Result (Box Map32) AllocError → Type 0
TakesOrMakes old new (Ok held) = held.value.tree.pairs ≡ old.tree.pairs
TakesOrMakes old new (Err _) = (old.tree.pairs ≡ []) × (new.tree.pairs ≡ old.tree.pairs)
