use Rattle.std.proofs.Common.{refl}
use Rattle.rart_trie.specs.tries.Trie.{leaf}
use Rattle.rart_trie.proofs.edits.InsertLemmas.{leaf-canonical, leaf-pairs}
use Rattle.rart_trie.proofs.node.DefaultNode.new_leaf.Goals as goal

pub returns : goal.returns
returns g c =
    let bytes = g.P.Partial.bytes c.args.prefix in
    let made = leaf bytes c.args.value in
    rw c.leaf.ensures record {
      leaf = refl;
      canonical = leaf-canonical made bytes _ refl;
      pairs = leaf-pairs made
          bytes _ refl;
    }
