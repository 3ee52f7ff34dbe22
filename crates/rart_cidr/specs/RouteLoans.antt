-- What a table ends as once the loan of a route's target is over.
use Rattle.std.specs.Prelude.{◌≡◌, ℕ, List, Option, OnSome}
use Rattle.std.specs.Borrow.{Fml, LendsSo, MutBor}
use denote.RattleType.{RattleType}
use Rattle.rart_keys.specs.SortedMap.{put}
use Rattle.rart_keys.specs.declared.partials.Partial as partials
use Rattle.rart.specs.Loans.{KeyMembers}
use Rattle.rart_cidr.specs.contracts.table.BitTable.{the_row}

-- the type of a table
abbrev pub table_row : (K T P : RattleType) → KeyMembers K.Denot → partials.Ghosts P.Denot → RattleType
table_row K T P k p = the_row K T P (record { MAXIMUM_SIZE = k.MAXIMUM_SIZE; bytes = k.bytes }) (record { eq = k.eq })
    (record { cmp = k.cmp }) (record { partial_cmp = k.partial_cmp }) p

-- the target of a network was borrowed, if it is stored: the table ends with what was left there; if nothing was
-- borrowed, it is unchanged
abbrev pub lends_route : (K T P : RattleType) → KeyMembers K.Denot → partials.Ghosts P.Denot
    → MutBor (List (List ℕ × T.Denot)) → List ℕ → Option (MutBor T.Denot) → Fml
lends_route K T P k p table net lent = LendsSo (table_row K T P k p) T table lent
    (λ t w. OnSome lent (t ≡ put net w table.now)) (λ t. t ≡ table.now)
