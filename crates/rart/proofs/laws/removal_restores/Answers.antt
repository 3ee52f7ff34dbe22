use Rattle.std.proofs.Common.{◌∙◌}
use Rattle.std.proofs.lemmas.Result.{on_ok_weaker}
use Rattle.rart.proofs.trees.EditLemmas.{pairs-removes}
use Rattle.rart.proofs.laws.removal_restores.Goals as goal

pub returns-clause-nodes : goal.returns-clause-nodes
returns-clause-nodes g c =
    let removed = pairs-removes (g.K.KeyTrait.bytes c.args.key.now) c.args.tree.now.pairs
    c.remove_k-removed.new.self.pairs
    c.remove_k-removed.result c.remove_k-removed.ensures.removes in
    on_ok_weaker c.remove_k-removed.result (λ removed.
    let pairs = removed ∙ c.requires.one_key in
    c.one_shape.ensures _ _ _ (rw pairs at c.canonical.ensures.shape) c.canonical-2.ensures.shape) removed
