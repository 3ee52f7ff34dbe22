use Rattle.std.proofs.Common.{◌≡◌, ◌<◌, None, arith, sym, ap, ◌∙◌}
use Rattle.std.proofs.lemmas.Bool.Decides.{nat_tests}
use Rattle.rart_parts.specs.Entries.{child_at}
use Rattle.rart_trie.specs.storages.Stored.{child_entries}
use Rattle.rart_trie.proofs.node.storage.Storage.has_free_slot.Goals as goal

pub returns-in-Node256-clause-not_widest : goal.returns-in-Node256-clause-not_widest
returns-in-Node256-clause-not_widest g c =
    let n = c.num_children-in-Node256.ensures in
    let es = c.in-Node256.map.entries in
    let absent : child_at c.args.b es ≡ None = ap (λ s. child_at c.args.b (child_entries s))
    (sym c.in-Node256.is ∙ c.self.view_is)
    ∙ c.requires in
    let less : c.num_children-in-Node256.result < 256
    = omega (
      arith,
      n.count,
      c.free_byte.ensures.at_most c.args.b es (omega (arith, c.ranges.b.fits)) absent n.ascending
          n.bytes,
    ) in
    λ full. grind (arith, nat_tests)
