-- The keys that words write.
use Rattle.std.specs.Prelude.{ℕ, List, [], length, Option, Some, None, codes, nat_le, if◌then◌else◌}
use Rattle.std.specs.Str.{bytes_eq}
use Rattle.rart_script.specs.declared.key.TheConstants.{KEY_SIZE}

-- the bytes of a word that has no more than a key may have, and no bytes for `-`
abbrev pub key_of : List ℕ → Option (List ℕ)
key_of word = if bytes_eq word (codes "-") then Some [] else if nat_le (length word) KEY_SIZE then Some word else None
