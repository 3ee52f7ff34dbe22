use Rattle.std.specs.Prelude.{ℕ, List, take}
use Rattle.rart_keys.specs.declared.keys.array_key.ArrayKey.{ArrayKey}

-- the bytes of a key: what it stores, up to its length
abbrev pub array_key_bytes : {N : ℕ} → ArrayKey N → List ℕ
array_key_bytes k = take k.len k.stored
