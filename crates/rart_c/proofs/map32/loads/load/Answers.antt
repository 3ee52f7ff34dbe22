use Rattle.std.proofs.Common.{◌≡◌, ◌∙◌, ap, arith, length, subst}
use Rattle.std.specs.Prelude.{None}
use Rattle.std.proofs.lemmas.Result.{IfErr-weaker, IfOk-weaker}
use Rattle.std.proofs.lemmas.List.{length-map, map-append}
use Rattle.rart_keys.specs.ArrayKeyBytes.{array_key_bytes}
use Rattle.rart_keys.specs.BulkLists.{first_fault, last_wins}
use Rattle.rart.specs.Steps.{pairs_in}
use Rattle.rart.proofs.bulks.BulkLawLemmas.{vec-begun, vec-drained}
use Rattle.rart_c.proofs.Loads.{loads}
use Rattle.rart_c.proofs.map32.loads.load.Goals as goal

pub returns : goal.returns
returns c =
    let items = c.args.items.items in
    let many : length (pairs_in array_key_bytes items) ≡ length items
    = length-map items (λ p. (array_key_bytes p.0, p.1)) in
    loads (pairs_in array_key_bytes items) c.bulk_load_sorted.result
    (omega (arith, many, c.args.items.ok, c.args.items.small))
    (IfOk-weaker c.bulk_load_sorted.result _ _
    (λ t h. let all = vec-drained _ items h.2.0 (h.2.1 ∙ c.args.items.ok.0) h.1 h.3 in (
      subst (λ xs. first_fault (pairs_in array_key_bytes xs) ≡ None) all h.4.0,
      subst (λ xs. t.pairs ≡ last_wins (pairs_in array_key_bytes xs)) all h.4.1,
    ))
    c.bulk_load_sorted.ensures.faultless)
    (IfErr-weaker c.bulk_load_sorted.result _ _
    (λ e h. let begun = vec-begun _ items h.3.0 (h.3.1 ∙ c.args.items.ok.0) h.1 h.2 h.4 in (
      pairs_in array_key_bytes h.1,
      pairs_in array_key_bytes begun.0,
      ap (pairs_in array_key_bytes) begun.1 ∙ map-append (λ p. (array_key_bytes p.0, p.1)) h.1 begun.0,
      h.5,
    ))
    c.bulk_load_sorted.ensures.refused)
