use Rattle.std.proofs.Common.{◌≡◌, ◌∙◌, sym, refl, ap, take, None}
use Rattle.rart_keys.specs.SortedMap.{lookup, without}
use Rattle.rart_cidr.specs.Bits.{bits_of}
use Rattle.rart_c.proofs.Removals.{without-absent}
use Rattle.rart_c.proofs.net4.edits.rart_net4_remove.Goals as goal

pub returns-in-Ok-None : goal.returns-in-Ok-None
returns-in-Ok-None c =
    let routes = c.args.table.now.held.table in
    let net = take c.args.len (bits_of c.args.addr.now) in
    let removes = rw c.in-Ok-None.is at c.remove-answer.ensures in
    let none : c.in-Ok-None.field-0 ≡ None = rw c.in-Ok-None.is at c.in-Ok-None.field-0-is in
    let net_is = c.in-Ok.ensures.2 in
    let table_is = ap (λ t. t.table) (c.deref_mut.ensures.value ∙ c.in-Some.ensures.takes) in
    let absent : lookup net routes ≡ None =
    sym (removes.0 ∙ ap (λ k. lookup k c.deref_mut.result.now.table) net_is ∙ ap (lookup net) table_is) ∙ none in
    let left : c.give.new.table.held.table ≡ without net routes =
    ap (λ t. t.table) c.give.ensures ∙ removes.1 ∙ ap (λ k. without k c.deref_mut.result.now.table) net_is
    ∙ ap (without net) table_is in
    ((c.in-Ok.ensures.0, c.in-Ok.ensures.1), absent, (left ∙ without-absent net routes absent, refl))
