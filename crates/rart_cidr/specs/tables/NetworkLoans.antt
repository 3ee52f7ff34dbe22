-- What a table of networks ends as once the loan of a route's target is over.
use Rattle.std.specs.Prelude.{◌≡◌, ℕ, List, Option, OnSome}
use Rattle.std.specs.Borrow.{Fml, LendsSo, MutBor}
use denote.RattleType.{RattleType}
use Rattle.rart_keys.specs.SortedMap.{put}
use Rattle.rart_keys.specs.declared.partials.Partial as partials
use Rattle.rart.specs.Loans.{KeyMembers}
use Rattle.rart_cidr.specs.declared.cidr.family.Network as networks
use Rattle.rart_cidr.specs.contracts.network_table.NetworkTable.{the_row}

-- the type of a table
abbrev pub network_row : (N T K P : RattleType) → networks.Ghosts N.Denot K.Denot P.Denot → KeyMembers K.Denot
    → partials.Ghosts P.Denot → RattleType
network_row N T K P n k p = the_row N T K P n (record { MAXIMUM_SIZE = k.MAXIMUM_SIZE; bytes = k.bytes })
    (record { eq = k.eq }) (record { cmp = k.cmp }) (record { partial_cmp = k.partial_cmp }) p

-- the target of a network was borrowed, if it is stored: the table ends with what was left there; if nothing was
-- borrowed, it is unchanged
abbrev pub lends_network_target : (N T K P : RattleType) → networks.Ghosts N.Denot K.Denot P.Denot → KeyMembers K.Denot
    → partials.Ghosts P.Denot → MutBor (List (List ℕ × T.Denot)) → List ℕ → Option (MutBor T.Denot) → Fml
lends_network_target N T K P n k p table net lent = LendsSo (network_row N T K P n k p) T table lent
    (λ t w. OnSome lent (t ≡ put net w table.now)) (λ t. t ≡ table.now)
