-- The capacities of a node's storage.
use Rattle.std.specs.Prelude.{ℕ, nat_le, nat_lt, if◌then◌else◌}

-- the capacity that follows in the row 0, 4, 16, 48, 256
abbrev pub next_capacity : ℕ → ℕ
next_capacity w = if nat_lt w 4 then 4 else if nat_lt w 16 then 16 else if nat_lt w 48 then 48 else 256

-- the capacity of a storage of capacity w that takes another child beside n
abbrev pub widened_capacity : ℕ → ℕ → ℕ
widened_capacity n w = if nat_lt n w then w else next_capacity w

-- the capacity that comes before in that row
abbrev pub previous_capacity : ℕ → ℕ
previous_capacity w = if nat_lt 48 w then 48 else if nat_lt 16 w then 16 else if nat_lt 4 w then 4 else 0

-- the capacity of a storage of capacity w that a child was taken from, and that has n left
abbrev pub shrunk_capacity : ℕ → ℕ → ℕ
shrunk_capacity n w = if nat_le n (previous_capacity w) then previous_capacity w else w
