-- What a failed call says.
use Rattle.std.specs.Prelude.{◌≡◌}
use Rattle.rart_parts.specs.declared.error.TreeError.{TreeError}
use Rattle.rart_parts.specs.declared.error.TreeError.TheVariants.{Memory}

-- the error of a failed allocation
abbrev pub IsMemory : TreeError → Type 0
IsMemory e = e ≡ Memory
