-- What a table of both versions ends as once the loan of a route's target is over.
use Rattle.std.specs.Prelude.{◌≡◌, ℕ, List, Option, OnSome}
use Rattle.std.specs.Borrow.{Fml, LendsSo, MutBor}
use denote.RattleType.{RattleType}
use Rattle.rart_keys.specs.SortedMap.{put}
use Rattle.rart_cidr.specs.tables.IpNets.{ip_bits, is_v4, routes_for, with_routes}
use Rattle.rart_cidr.specs.declared.ip_net.IpNet.{IpNet}
use Rattle.rart_cidr.specs.contracts.cidr_table.CidrTable.{the_row}

-- the target of a network was borrowed, if it is stored: the table ends with what was left there; if nothing was
-- borrowed, it is unchanged
abbrev pub lends_ip_target : (T : RattleType) → MutBor (List (List ℕ × T.Denot) × List (List ℕ × T.Denot)) → IpNet
    → Option (MutBor T.Denot) → Fml
lends_ip_target T table net lent = LendsSo (the_row T) T table lent
    (λ t w. OnSome lent
    (t ≡ with_routes (is_v4 net) (put (ip_bits net) w (routes_for (is_v4 net) table.now)) table.now))
    (λ t. t ≡ table.now)
