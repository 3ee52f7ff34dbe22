-- What calls of a table of IPv4 and one of IPv6 networks answer, and what they leave.
use Rattle.std.specs.Prelude.{◌≡◌, ◌++◌, ◌+◌, ◌⊎◌, ℕ, Bool, List, [], Option, Result, Ok, Err, nat_eq, option_map}
use Rattle.std.specs.Cmp.Lexicographic.{pointwise}
use Rattle.std.specs.Ordering.{on}
use Rattle.std.specs.Net.Addr.{ipv4_octets, ipv6_octets}
use Rattle.std.specs.declared.net.ip_addr.IpAddr.{IpAddr}
use Rattle.std.specs.declared.net.ip_addr.IpAddr.TheVariants as addr
use Rattle.rart_keys.specs.ArrayKeyBytes.{array_key_bytes}
use Rattle.rart_keys.specs.Filters.{below, longest_match, matches}
use Rattle.rart_keys.specs.SortedMap.{lookup}
use Rattle.rart_keys.specs.declared.keys.array_key.ArrayKey.{ArrayKey}
use Rattle.rart_trie.specs.declared.refused.Refused.{Refused}
use Rattle.rart_trie.specs.walks.Calls.{MayLackMemory}
use Rattle.rart_parts.specs.declared.error.TreeError.{TreeError}
use Rattle.rart_cidr.specs.Aggregates.{Aggregates}
use Rattle.rart_cidr.specs.Bits.{bits_of}
use Rattle.rart_cidr.specs.Edits.{InsertsRoute, RemovesRoute}
use Rattle.rart_cidr.specs.Networks.{cidr_bits}
use Rattle.rart_routes.specs.Found.{of_version}
use Rattle.rart_routes.specs.declared.net.Net.{Net}
use Rattle.rart_routes.specs.declared.net.Net.TheVariants.{V4, V6}
use Rattle.rart_routes.specs.declared.tables.Tables.{Tables}
use Rattle.rart_routes.specs.declared.target.TheConstants.{TARGET_SIZE}

-- no routes
abbrev pub no_routes : Tables
no_routes = record { v4 = []; v6 = [] }

-- the target of exactly this network
abbrev pub target_at : Net → Tables → Option (ArrayKey TARGET_SIZE)
target_at (V4 net) tables = lookup (cidr_bits net) tables.v4
target_at (V6 net) tables = lookup (cidr_bits net) tables.v6

-- the network's own table gets the route
abbrev pub Inserts : Net → ArrayKey TARGET_SIZE → Tables → Tables
    → Result (Option (ArrayKey TARGET_SIZE)) (Refused (ArrayKey TARGET_SIZE)) → Type 0
Inserts (V4 net) target old new result = InsertsRoute (cidr_bits net) target old.v4 new.v4 result × (new.v6 ≡ old.v6)
Inserts (V6 net) target old new result = InsertsRoute (cidr_bits net) target old.v6 new.v6 result × (new.v4 ≡ old.v4)

-- the network's own table loses the route
abbrev pub Removes : Net → Tables → Tables → Result (Option (ArrayKey TARGET_SIZE)) TreeError → Type 0
Removes (V4 net) old new result = RemovesRoute (cidr_bits net) old.v4 new.v4 result × (new.v6 ≡ old.v6)
Removes (V6 net) old new result = RemovesRoute (cidr_bits net) old.v6 new.v6 result × (new.v4 ≡ old.v4)

-- whether two targets are equal
abbrev pub same_target : ArrayKey TARGET_SIZE → ArrayKey TARGET_SIZE → Bool
same_target = on array_key_bytes (pointwise nat_eq)

-- both tables lose the routes that change no longest match. On Err one of them lost only some, or none
abbrev pub AggregatesBoth : Tables → Tables → Result ℕ TreeError → Type 0
AggregatesBoth old new (Ok count) = (n m : ℕ) × Aggregates same_target old.v4 new.v4 (Ok n)
    × Aggregates same_target old.v6 new.v6 (Ok m) × (count ≡ n + m)
AggregatesBoth old new (Err error) = (Aggregates same_target old.v4 new.v4 (Err error) × (new.v6 ≡ old.v6))
    ⊎ (((n : ℕ) × Aggregates same_target old.v4 new.v4 (Ok n)) × Aggregates same_target old.v6 new.v6 (Err error))

-- the route with the longest network that contains an address
abbrev pub longest_route : IpAddr → Tables → Option ((ℕ × List ℕ) × ArrayKey TARGET_SIZE)
longest_route (addr.V4 a) tables = option_map (λ e. ((4, e.0), e.1)) (longest_match (bits_of (ipv4_octets a)) tables.v4)
longest_route (addr.V6 a) tables = option_map (λ e. ((6, e.0), e.1)) (longest_match (bits_of (ipv6_octets a)) tables.v6)

-- all routes whose networks contain an address, the shortest first
abbrev pub all_matches : IpAddr → Tables → List ((ℕ × List ℕ) × ArrayKey TARGET_SIZE)
all_matches (addr.V4 a) tables = of_version 4 (matches (bits_of (ipv4_octets a)) tables.v4)
all_matches (addr.V6 a) tables = of_version 6 (matches (bits_of (ipv6_octets a)) tables.v6)

-- all routes inside a network, ascending by address, then by length
abbrev pub all_within : Net → Tables → List ((ℕ × List ℕ) × ArrayKey TARGET_SIZE)
all_within (V4 net) tables = of_version 4 (below (cidr_bits net) tables.v4)
all_within (V6 net) tables = of_version 6 (below (cidr_bits net) tables.v6)

-- all routes, those of IPv4 first
abbrev pub all_routes : Tables → List ((ℕ × List ℕ) × ArrayKey TARGET_SIZE)
all_routes tables = of_version 4 tables.v4 ++ of_version 6 tables.v6

-- a walk of the network's own table may lack memory
abbrev pub MayLackMemoryAt : Net → Tables → TreeError → Type 0
MayLackMemoryAt (V4 net) tables error = MayLackMemory tables.v4 error
MayLackMemoryAt (V6 net) tables error = MayLackMemory tables.v6 error
