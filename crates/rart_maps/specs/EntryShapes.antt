-- Entries as a shape that a recursive type may be built from.
use mathlib.Core.Former.{Former, const, pair}
use Rattle.std.specs.Prelude.{ℕ}

-- a byte beside one of g's values
abbrev pub entry : Former {0} → Former {0}
entry g = pair (const ℕ) g

-- the entry, with h applied to its value
abbrev pub on_value : {X Y : Type 0} → (X → Y) → ℕ × X → ℕ × Y
on_value h p = (p.0, h p.1)
