use Rattle.std.proofs.Common.{length, ap, arith, sym, subst, ◌∙◌}
use Rattle.std.specs.Option.{option_copied}
use Rattle.std.specs.Net.Addr.{ipv4_octets}
use Rattle.rart_cidr.specs.Bits.{bits_of}
use Rattle.std.specs.Net.Grammar.{IsIpv4Text}
use Rattle.rart_cidr.proofs.networks.TextLemmas.{length-too_large}
use Rattle.rart_cidr.proofs.cidr.parse.Cidr+4.parse_ascii.Goals as goal

pub returns-in_default : goal.returns-in_default
returns-in_default c a h = c.in_default.ensures a (subst (λ l. IsIpv4Text l a) (sym c.split_text.ensures.address) h)

pub returns-in-Err-Length : goal.returns-in-Err-Length
returns-in-Err-Length c = (
  c.in-Ok.addr,
  subst (λ l. IsIpv4Text l c.in-Ok.addr) c.split_text.ensures.address c.in-Ok.ensures,
  length-too_large _ _ _ (length (bits_of (ipv4_octets c.in-Ok.addr)))
      (sym c.split_text.ensures.length ∙ ap option_copied c.in-Some.is) c.in-Some-parse_len.ensures (omega arith)
      (rw c.in-Err-Length.field-0-is at c.in-Err-Length.ensures),
)
