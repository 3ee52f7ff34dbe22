use Rattle.std.proofs.Common.{◌∙◌}
use Rattle.rart.proofs.bulks.LoaderLemmas.{order-last}
use Rattle.rart.proofs.tree.bulk.loader.Loader.order_after.Goals as goal

pub returns-in-Some : goal.returns-in-Some
returns-in-Some g c = c.cmp.ensures ∙ g.met.K.KeyTrait.cmp_is_of_bytes _ _
    ∙ order-last g.K.KeyTrait.bytes c.self.inside.builder _ _ _ _ _ c.self.view_is c.in-Some.is
