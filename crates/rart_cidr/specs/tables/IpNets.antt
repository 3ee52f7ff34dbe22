-- Networks and addresses of either version, and the routes of each.
use Rattle.std.specs.Prelude.{◌≡◌, ℕ, Bool, true, false, List}
use Rattle.std.specs.declared.net.ip_addr.IpAddr.{IpAddr}
use Rattle.std.specs.declared.net.ip_addr.IpAddr.TheVariants as addresses
use Rattle.std.specs.Net.Addr.{ipv4_octets, ipv6_octets}
use Rattle.rart_cidr.specs.declared.ip_net.IpNet.{IpNet}
use Rattle.rart_cidr.specs.declared.ip_net.IpNet.TheVariants.{V4, V6}
use Rattle.rart_cidr.specs.Bits.{bits_of}
use Rattle.rart_cidr.specs.Networks.{cidr_bits}

-- the bits of a network, and of an address
abbrev pub ip_bits : IpNet → List ℕ
ip_bits (V4 net) = cidr_bits net
ip_bits (V6 net) = cidr_bits net

abbrev pub addr_bits : IpAddr → List ℕ
addr_bits (addresses.V4 addr) = bits_of (ipv4_octets addr)
addr_bits (addresses.V6 addr) = bits_of (ipv6_octets addr)

-- whether the version is 4
abbrev pub is_v4 : IpNet → Bool
is_v4 (V4 net) = true
is_v4 (V6 net) = false

abbrev pub is_v4_addr : IpAddr → Bool
is_v4_addr (addresses.V4 addr) = true
is_v4_addr (addresses.V6 addr) = false

module _ {R : Type 0} where
  -- of the routes of version 4 and of 6, those of one version, and those of the other
  abbrev pub routes_for : Bool → R × R → R
  routes_for true routes = routes.0
  routes_for false routes = routes.1

  abbrev pub other_routes : Bool → R × R → R
  other_routes true routes = routes.1
  other_routes false routes = routes.0

  -- with others of one version
  abbrev pub with_routes : Bool → R → R × R → R × R
  with_routes true new routes = (new, routes.1)
  with_routes false new routes = (routes.0, new)
