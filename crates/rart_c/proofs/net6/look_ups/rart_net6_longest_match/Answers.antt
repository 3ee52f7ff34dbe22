use Rattle.std.proofs.Common.{◌∙◌, sym, refl, ap, length, Some}
use Rattle.std.specs.Prelude.{option_map}
use Rattle.rart_keys.specs.Filters.{longest_match}
use Rattle.rart_cidr.specs.Bits.{bits_of}
use Rattle.rart_c.proofs.net6.look_ups.rart_net6_longest_match.Goals as goal
use Rattle.rart_c.proofs.net6.look_ups.rart_net6_longest_match.Goals.{in-Some-longest_match, in-None}

pub returns-clause-found : goal.returns-clause-found
returns-clause-found c =
    let bits = bits_of c.args.addr.now in
    let bits_are = ap bits_of c.ipv6_of.ensures in
    let routes_are = ap (λ t. t.table) (c.deref.ensures ∙ c.in-Some.ensures.takes) in
    let found_is = ap (λ b. longest_match b c.deref.result.now.table) bits_are ∙ ap (longest_match bits) routes_are in
    elim c.match-longest_match.branch [
      | in-Some-longest_match w ↦
          let s = w.in-Some-longest_match in
          rw (w.found-is, w.len-is, w.target-is)
          (ap (option_map (λ p. (length p.0, p.1))) (sym (s.ensures.value ∙ found_is))
          ∙ ap (λ n. Some (n, s.at_net.now)) (sym w.len.ensures.value))
      | in-None w ↦
          rw (w.found-is, w.len-is, w.target-is)
          (ap (option_map (λ p. (length p.0, p.1))) (sym (w.in-None.ensures.value ∙ found_is)), refl)
    ]
