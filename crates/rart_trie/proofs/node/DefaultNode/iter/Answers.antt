use Rattle.std.proofs.Common.{subst, sym}
use Rattle.rart_parts.specs.Entries.{BytesAscend}
use Rattle.rart_trie.proofs.node.DefaultNode.iter.Goals as goal

pub returns-clause-ascending : goal.returns-clause-ascending
returns-clause-ascending g c = subst BytesAscend (sym c.iter.ensures.entries) c.iter.ensures.ascending
