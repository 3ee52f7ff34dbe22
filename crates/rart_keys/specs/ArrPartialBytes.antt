use Rattle.std.specs.Prelude.{ℕ, List, take}
use Rattle.rart_keys.specs.PartLengths.{joined_code, part_length}
use Rattle.rart_keys.specs.declared.partials.array_partial.ArrPartial.{ArrPartial}

-- the bytes of a part of a key: what it stores, up to its length
abbrev pub arr_partial_bytes : {SIZE : ℕ} → ArrPartial SIZE → List ℕ
arr_partial_bytes {SIZE} p = take (part_length SIZE p.stored (joined_code p.code_low p.code_high)) p.stored
