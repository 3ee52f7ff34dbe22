use Rattle.std.proofs.Common.{subst}
use Rattle.rart_parts.specs.Entries.{BytesAscend}
use Rattle.rart_maps.proofs.FourLemmas.{keys_entries, keys_sorted}
use Rattle.rart_maps.proofs.mapping.four_keys.FourKeys.iter.Goals as goal

pub returns-clause-entries : goal.returns-clause-entries
returns-clause-entries g c = rw c.as_slice.ensures
    (keys_entries c.args.children.now.items c.self.invariant c.self.view_is c.requires.each)

pub returns-clause-ascending : goal.returns-clause-ascending
returns-clause-ascending g c =
    let s = keys_sorted c.args.children.now.items c.self.invariant c.self.view_is c.requires.each in
    subst BytesAscend (keys_entries c.args.children.now.items c.self.invariant c.self.view_is c.requires.each) s.ascends
