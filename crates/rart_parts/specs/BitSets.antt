-- What a set in words is to its readers.
use Rattle.std.specs.Prelude.{ℕ, Bool}
use Rattle.rart_parts.specs.Bits.{words_have}
use Rattle.rart_parts.specs.declared.utils.bitset.set.Bitset.{Bitset}

-- whether position k is in the set, whose words have this width and are these numbers
abbrev pub bitset_has : {W : Type 0} {S : ℕ} → ℕ → (W → ℕ) → Bitset W S → ℕ → Bool
bitset_has width number b k = words_have width number b.words k
