use Rattle.std.proofs.Common.{◌∙◌, ◌∷◌, sym, ap}
use Rattle.rart_parts.specs.Entries.{sorted_entries}
use Rattle.rart_maps.proofs.MoveLemmas.{first_entry}
use Rattle.rart_maps.proofs.mapping.indexed_mapping.IndexedMapping.take_first.Goals as goal

pub returns-clause-entries : goal.returns-clause-entries
returns-clause-entries g c = first_entry c.in-Some.key c.unwrap-child.result (sorted_entries c.args.self.now.entries)
    c.num_children-count.ensures.ascending (sym c.delete_child.ensures.taken ∙ c.unwrap-child.ensures)
    c.in-Some.ensures.least
    ∙ ap (λ es. (c.in-Some.key, c.unwrap-child.result) ∷ es) (sym c.delete_child.ensures.rest)
