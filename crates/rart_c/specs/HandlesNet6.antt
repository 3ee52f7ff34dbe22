-- The empty table, and what comes out of a handle.
use Rattle.std.specs.Prelude.{◌≡◌, [], Option, None, Some, Result, Ok, Err}
use Rattle.std.specs.Global.{Box}
use Rattle.std.specs.declared.alloc.AllocError.{AllocError}
use Rattle.rart_c.specs.declared.net6.Net6.{Net6}

abbrev pub empty_table : Net6
empty_table = record { table = [] }

-- the table of a handle whose parked box holds this
abbrev pub table_of : Option Net6 → Net6
table_of None = empty_table
table_of (Some m) = m

-- the table is taken out of its handle
abbrev pub Takes : Net6 → Option (Box Net6) → Type 0
Takes m None = m ≡ empty_table
Takes m (Some held) = held.value ≡ m

-- the same, and an empty table is made where there was none; or that failed, and the table is unchanged
abbrev pub TakesOrMakes : Net6 → Net6 → Result (Box Net6) AllocError → Type 0
TakesOrMakes old new (Ok held) = held.value.table ≡ old.table
TakesOrMakes old new (Err _) = (old.table ≡ []) × (new.table ≡ old.table)
