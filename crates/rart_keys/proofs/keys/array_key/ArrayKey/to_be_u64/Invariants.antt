use Rattle.std.proofs.Common.{◌≡◌, ◌^◌, ◌<◌, take}
use Rattle.rart_keys.specs.NumberBytes.{big_endian_number}
use Rattle.rart_keys.proofs.keys.array_key.ArrayKey.to_be_u64.Given as goal

abbrev pub invariant-loop-byte : goal.invariant-loop-byte
invariant-loop-byte g l = record {
  so_far : l.number ≡ big_endian_number (take l.byte-index l.byte-items);
  below : l.number < 256 ^ l.byte-index;
}
