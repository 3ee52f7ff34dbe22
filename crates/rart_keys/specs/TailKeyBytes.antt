use Rattle.std.specs.Prelude.{ℕ, List, drop}
use Rattle.rart_keys.specs.declared.keys.tail_key.TailKey.{TailKey}

-- the bytes of a key: what it stores, from where it begins
abbrev pub tail_key_bytes : {N : ℕ} → TailKey N → List ℕ
tail_key_bytes k = drop k.start k.stored
