-- The empty table, and what comes out of a handle.
use Rattle.std.specs.Prelude.{◌≡◌, [], Option, None, Some, Result, Ok, Err}
use Rattle.std.specs.Global.{Box}
use Rattle.std.specs.declared.alloc.AllocError.{AllocError}
use Rattle.rart_c.specs.declared.net4.Net4.{Net4}

abbrev pub empty_table : Net4
empty_table = record { table = [] }

-- the table of a handle whose parked box holds this
abbrev pub table_of : Option Net4 → Net4
table_of None = empty_table
table_of (Some m) = m

-- the table is taken out of its handle
abbrev pub Takes : Net4 → Option (Box Net4) → Type 0
Takes m None = m ≡ empty_table
Takes m (Some held) = held.value ≡ m

-- the same, and an empty table is made where there was none; or that failed, and the table is unchanged
abbrev pub TakesOrMakes : Net4 → Net4 → Result (Box Net4) AllocError → Type 0
TakesOrMakes old new (Ok held) = held.value.table ≡ old.table
TakesOrMakes old new (Err _) = (old.table ≡ []) × (new.table ≡ old.table)
