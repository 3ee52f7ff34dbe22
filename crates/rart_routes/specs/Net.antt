-- Networks of either version of IP, and the words that write them.
use Rattle.std.specs.Prelude.{◌≡◌, ◌⊎◌, ℕ, List, Result, Ok, Err}
use Rattle.std.specs.Net.Addr.{ipv4_octets, ipv6_octets}
use Rattle.std.specs.Net.Grammar.{IsIpText, IsIpv4Text, IsIpv6Text}
use Rattle.std.specs.declared.net.ip_addr.IpAddr.{IpAddr}
use Rattle.std.specs.declared.net.ip_addr.IpAddr.TheVariants as addr
use Rattle.rart_cidr.specs.Bits.{bits_of}
use Rattle.rart_cidr.specs.Networks.{cidr_bits}
use Rattle.rart_cidr.specs.Texts.{IsParsed, text4, text6}
use Rattle.rart_cidr.specs.declared.cidr.Cidr.{Cidr}
use Rattle.rart_cidr.specs.declared.cidr.parse.ParseCidrError.{ParseCidrError}
use Rattle.rart_cidr.specs.declared.cidr.parse.ParseCidrError.TheVariants.{Address, Length, HostBits}
use Rattle.rart_routes.specs.declared.net.Net.{Net}
use Rattle.rart_routes.specs.declared.net.Net.TheVariants.{V4, V6}

-- the version of IP, and the network's bits
abbrev pub net_bits : Net → ℕ × List ℕ
net_bits (V4 net) = (4, cidr_bits net)
net_bits (V6 net) = (6, cidr_bits net)

-- a network as a word
abbrev pub net_text : Net → List ℕ
net_text (V4 net) = text4 net
net_text (V6 net) = text6 net

-- the network of an address alone
abbrev pub IsHost : IpAddr → Net → Type 0
IsHost (addr.V4 a) net = net_bits net ≡ (4, bits_of (ipv4_octets a))
IsHost (addr.V6 a) net = net_bits net ≡ (6, bits_of (ipv6_octets a))

-- what a word is as an IPv4 network, and as an IPv6 network: an address, a slash and a length
abbrev pub IsParsed4 : List ℕ → Result (Cidr 4) ParseCidrError → Type 0
IsParsed4 word result = IsParsed IsIpv4Text (λ a. bits_of (ipv4_octets a)) cidr_bits word result

abbrev pub IsParsed6 : List ℕ → Result (Cidr 16) ParseCidrError → Type 0
IsParsed6 word result = IsParsed IsIpv6Text (λ a. bits_of (ipv6_octets a)) cidr_bits word result

-- a word whose address isn't an IPv4 address
abbrev pub IsNetOf6 : List ℕ → Result Net ParseCidrError → Type 0
IsNetOf6 word (Ok (V4 net)) = ⊥
IsNetOf6 word (Ok (V6 net)) = IsParsed6 word (Ok net)
IsNetOf6 word (Err error) = IsParsed6 word (Err error)

-- what a word is as a network of either version
abbrev pub IsWithLen : List ℕ → Result Net ParseCidrError → Type 0
IsWithLen word (Ok (V4 net)) = IsParsed4 word (Ok net)
IsWithLen word (Ok (V6 net)) = IsParsed6 word (Ok net)
IsWithLen word (Err Address) = IsParsed4 word (Err Address) × IsParsed6 word (Err Address)
IsWithLen word (Err Length) = IsParsed4 word (Err Length) ⊎ IsParsed6 word (Err Length)
IsWithLen word (Err HostBits) = IsParsed4 word (Err HostBits) ⊎ IsParsed6 word (Err HostBits)

-- the word is an address alone, of this host
abbrev pub IsHostWord : List ℕ → Result Net ParseCidrError → Type 0
IsHostWord word (Ok net) = (a : IpAddr) × IsIpText word a × IsHost a net
IsHostWord word (Err error) = ⊥

-- the network that a word writes, or what is wrong with it
abbrev pub IsNet : List ℕ → Result Net ParseCidrError → Type 0
IsNet word result = IsHostWord word result ⊎ (((a : IpAddr) → ¬ (IsIpText word a)) × IsWithLen word result)
