use Rattle.std.proofs.Common.{◌∙◌, ◌+◌, ◌++◌, ap, drop, length, rules}
use Rattle.std.proofs.lemmas.List.{drop_at, length-append}
use Rattle.rart_keys.proofs.partials.array_partial.ArrPartial.from_two.Goals as goal

pub mark_length-code-requires : goal.mark_length-code-requires
mark_length-code-requires g c =
    let a = c.args.first.now in
    let b = c.args.second.now in
    search (
      ap (drop (length a + length b)) c.joined_bytes-stored.ensures
          ∙ drop_at (a ++ b) _ (length a + length b) (length-append a b),
      rules,
    )
