-- How networks and errors are written, and which text is a network's.
use Rattle.std.specs.Prelude.{◌≡◌, ◌≢◌, ◌+◌, ◌≤◌, ◌==◌, ℕ, Bool, List, ◌++◌, codes, decimal, drop, length, position}
use Rattle.std.specs.Prelude.{take}
use Rattle.std.specs.Prelude.{Option, Some, None, Result, Ok, Err}
use Rattle.std.specs.Net.Addr.{segments_of}
use Rattle.std.specs.Net.Text.{ipv4_text, ipv6_text}
use Rattle.rart_cidr.specs.declared.cidr.error.CidrError.{CidrError}
use Rattle.rart_cidr.specs.declared.cidr.error.CidrError.TheVariants.{Length, HostBits}
use Rattle.rart_cidr.specs.declared.cidr.parse.ParseCidrError.{ParseCidrError}
use Rattle.rart_cidr.specs.declared.cidr.parse.ParseCidrError.TheVariants as parse
use Rattle.rart_cidr.specs.declared.cidr.Cidr.{Cidr}
use Rattle.rart_cidr.specs.Networks.{IsNew}

-- the first address, a slash and the length
abbrev pub text4 : Cidr 4 → List ℕ
text4 net = ipv4_text net.octets ++ codes "/" ++ decimal net.len

abbrev pub text6 : Cidr 16 → List ℕ
text6 net = ipv6_text (segments_of net.octets) ++ codes "/" ++ decimal net.len

abbrev pub error_text : CidrError → List ℕ
error_text Length = codes "bad length"
error_text HostBits = codes "host bits set"

abbrev pub parse_error_text : ParseCidrError → List ℕ
parse_error_text parse.Address = codes "bad address"
parse_error_text parse.Length = codes "bad length"
parse_error_text parse.HostBits = codes "host bits set"

abbrev pub is_slash : ℕ → Bool
is_slash b = b == 47

-- the text before a position and after it; all and nothing without one
abbrev pub part_before : List ℕ → Option ℕ → List ℕ
part_before text None = text
part_before text (Some at) = take at text

abbrev pub part_after : List ℕ → Option ℕ → Option (List ℕ)
part_after text None = None
part_after text (Some at) = Some (drop (at + 1) text)

-- the text before its first slash and after it; all and nothing without a slash
abbrev pub address_part : List ℕ → List ℕ
address_part text = part_before text (position is_slash text)

abbrev pub length_part : List ℕ → Option (List ℕ)
length_part text = part_after text (position is_slash text)

-- what a text is: an address, a slash, and the decimal length of a network that begins at this address
abbrev pub IsParsed : {A N : Type 0} → (List ℕ → A → Type 0) → (A → List ℕ) → (N → List ℕ) → List ℕ
    → Result N ParseCidrError → Type 0
IsParsed {A} IsText bits view text (Ok net) = (a : A) × (n : ℕ) × IsText (address_part text) a
    × (length_part text ≡ Some (decimal n)) × IsNew view (bits a) n (Ok net)
IsParsed {A} IsText bits view text (Err parse.Address) = (a : A) → ¬ (IsText (address_part text) a)
IsParsed {A} IsText bits view text (Err parse.Length) = (a : A) × IsText (address_part text) a
    × ((n : ℕ) → n ≤ length (bits a) → length_part text ≢ Some (decimal n))
IsParsed {A} IsText bits view text (Err parse.HostBits) = (a : A) × (n : ℕ) × IsText (address_part text) a
    × (length_part text ≡ Some (decimal n)) × IsNew view (bits a) n (Err HostBits)
