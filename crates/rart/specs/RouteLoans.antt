-- What a route table ends as once what was borrowed from it is over.
use Rattle.std.specs.Prelude.{◌≡◌, ℕ, List, Option, OnSome, ⊤}
use Rattle.std.specs.Borrow.{Fml, LendsSo, MutBor, follows_so}
use mathlib.Core.Option.{none}
use denote.RattleType.{RattleType}
use Rattle.rart_keys.specs.SortedMap.{put}
use Rattle.rart_keys.specs.declared.partials.Partial as partials
use Rattle.rart.specs.Loans.{KeyMembers}
use Rattle.rart.specs.MapAndShape.{MapAndShape}
use Rattle.rart.specs.contracts.routes.RouteTable.{the_row}

-- the type of a route table
abbrev pub table_row : (K T P : RattleType) → KeyMembers K.Denot → partials.Ghosts P.Denot → RattleType
table_row K T P k p = the_row K T P (record { MAXIMUM_SIZE = k.MAXIMUM_SIZE; bytes = k.bytes }) (record { eq = k.eq })
    (record { cmp = k.cmp }) (record { partial_cmp = k.partial_cmp }) p

-- whatever was borrowed from the table only to be read, it ends as one of which E holds
abbrev pub table_ends_as : (K T P : RattleType) → KeyMembers K.Denot → partials.Ghosts P.Denot
    → MutBor (MapAndShape T.Denot) → (MapAndShape T.Denot → Type 0) → Fml
table_ends_as K T P k p table E = follows_so (table_row K T P k p) (table_row K T P k p) table.ghost_name none
    (λ _ _. ⊤) E

-- the target of a prefix was borrowed from the table, if there is one: the table ends with what was left there, and
-- with the same nodes; if nothing was borrowed, it is unchanged
abbrev pub lends_target : (K T P : RattleType) → KeyMembers K.Denot → partials.Ghosts P.Denot
    → MutBor (MapAndShape T.Denot) → List ℕ → Option (MutBor T.Denot) → Fml
lends_target K T P k p table prefix lent = LendsSo (table_row K T P k p) T table lent
    (λ t w. OnSome lent ((t.pairs ≡ put prefix w table.now.pairs) × (t.nodes ≡ table.now.nodes))) (λ t. t ≡ table.now)
