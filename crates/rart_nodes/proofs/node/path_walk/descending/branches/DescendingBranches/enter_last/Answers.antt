use Rattle.std.proofs.Common.{◌∙◌, ap, sym}
use Rattle.rart_trie.specs.ranges.Under.{children_under, with_last}
use Rattle.rart_trie.specs.tries.Trie.{children_in}
use Rattle.rart_trie.proofs.storages.UnderLemmas.{last-before, none-last}
use Rattle.rart_nodes.proofs.walks.PathLemmas.{below-canonical}
use Rattle.rart_nodes.proofs.node.path_walk.descending.branches.DescendingBranches.enter_last.Goals as goal

pub returns-in_err-byte-clause-shown : goal.returns-in_err-byte-clause-shown
returns-in_err-byte-clause-shown g c =
    let none = sym c.self.view_is ∙ none-last _ c.in_err-byte.ensures in
    rw c.from_residual.ensures (none, none)

pub returns-clause-shown : goal.returns-clause-shown
returns-clause-shown g c =
    let t = c.self.inside.at.node.now in (
      c.in_ok-byte.byte,
      sym c.self.view_is
          ∙ last-before c.self.inside.end _ _ (children_in t)
          (below-canonical t c.self.inside.at.canonical) c.in_ok-byte.ensures
          ∙ ap (with_last (children_under c.in_ok-byte.byte (children_in t)) c.in_ok-byte.byte)
          (sym c.enter.ensures.shown),
    )
