use Rattle.std.proofs.Common.{arith, length, take, refl}
use Rattle.std.proofs.lemmas.List.{length-take}
use Rattle.rart_trie.proofs.build.SpineLemmas.{all-closed}
use Rattle.rart_trie.proofs.edits.InsertLemmas.{fewer-within}
use Rattle.rart_trie.proofs.node.edits.builder.Builder.finish.Goals as goal

pub node_with_prefix-requires : goal.node_with_prefix-requires
node_with_prefix-requires g c = record {
  within = fewer-within g.P.Partial.MAXIMUM_SIZE (length c.args.last.now)
      (length (take c.in_ok-storage.end c.args.last.now))
      (omega (arith, length-take c.in_ok-storage.end c.args.last.now)) c.requires.within;
}

pub returns-clause-canonical : goal.returns-clause-canonical
returns-clause-canonical g c = rw c.node_with_prefix.ensures
    (all-closed c.args.last.now _ _ c.in_ok-storage.end (take c.in_ok-storage.end c.args.last.now) _ _ _ _
    c.in_ok-storage.ensures.shallow refl c.in_ok-storage.ensures.closed).0

pub returns-clause-pairs : goal.returns-clause-pairs
returns-clause-pairs g c = rw c.node_with_prefix.ensures
    (all-closed c.args.last.now _ _ c.in_ok-storage.end (take c.in_ok-storage.end c.args.last.now) _ _ _ _
    c.in_ok-storage.ensures.shallow refl c.in_ok-storage.ensures.closed).1
