-- What a handle owns: what a parked box of its map owns.
use Rattle.std.specs.Prelude.{Option}
use base.Fml.{Fml, fex, fsep, feq}
use denote.RawPtr.{Ptr}
use Rattle.rart_c.specs.declared.map32.Map32.{Map32}
use Rattle.rart_c.specs.contracts.map32.Map32.{the_row as Row}
use Rattle.rart_c.specs.Handles32.{map_of}
use Rattle.rart_c.specs.ParkedAt.{parked_at}

abbrev pub owned_at : Ptr → Map32 → Fml
owned_at p m = fex (Option Map32) (λ v. fsep (feq Map32 m (map_of v)) (parked_at Row p v))
