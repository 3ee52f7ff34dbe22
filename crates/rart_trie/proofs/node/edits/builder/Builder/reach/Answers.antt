use Rattle.rart_trie.proofs.build.SpineSteps.{reached-new}
use Rattle.rart_trie.proofs.node.edits.builder.Builder.reach.Goals as goal

pub returns-clause-reached : goal.returns-clause-reached
returns-clause-reached g c = reached-new _ _ _ _ _ (c.is_at.ensures.above c.if-is_at.false) c.open.ensures.opened
