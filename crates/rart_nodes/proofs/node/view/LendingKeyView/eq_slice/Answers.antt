use Rattle.std.proofs.Common.{rules, sym, ◌∙◌, ⊎_elim}
use Rattle.rart_trie.specs.walks.Walk.{joined_bytes}
use Rattle.rart_nodes.specs.walks.PathParts.{lent_segments}
use Rattle.rart_nodes.proofs.walks.SegmentLemmas.{cmp-equal}
use Rattle.rart_nodes.proofs.node.view.LendingKeyView.eq_slice.Goals as goal

pub returns-in-Equal : goal.returns-in-Equal
returns-in-Equal c = (
  λ t. (cmp-equal (joined_bytes (lent_segments c.args.self.segments.now)) c.args.slice.now).0
      (sym c.cmp_slice.ensures ∙ c.in-Equal.is),
  λ e. search rules,
)

pub returns-in-Less : goal.returns-in-Less
returns-in-Less c = (
  λ t. cc,
  λ e. let q = c.cmp_slice.ensures
      ∙ (cmp-equal (joined_bytes (lent_segments c.args.self.segments.now)) c.args.slice.now).1 e in
      ⊎_elim (λ l. cc) (λ l. cc) c.in-Less.is,
)
