-- What a handle owns: what a parked box of its table owns.
use Rattle.std.specs.Prelude.{Option}
use base.Fml.{Fml, fex, fsep, feq}
use denote.RawPtr.{Ptr}
use Rattle.rart_c.specs.declared.net6.Net6.{Net6}
use Rattle.rart_c.specs.contracts.net6.Net6.{the_row as Row}
use Rattle.rart_c.specs.HandlesNet6.{table_of}
use Rattle.rart_c.specs.ParkedAt.{parked_at}

abbrev pub owned_at : Ptr → Net6 → Fml
owned_at p m = fex (Option Net6) (λ v. fsep (feq Net6 m (table_of v)) (parked_at Row p v))
