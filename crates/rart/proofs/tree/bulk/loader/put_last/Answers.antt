use Rattle.std.proofs.Common.{◌∙◌, refl}
use Rattle.rart.proofs.bulks.LoaderLemmas.{order-last}
use Rattle.rart.proofs.tree.bulk.loader.put_last.Goals as goal

pub put-requires-clause-ascending : goal.put-requires-clause-ascending
put-requires-clause-ascending g c = rw (c.as_ref.ensures, c.as_ref-in-Some.ensures)
    (order-last g.K.KeyTrait.bytes c.args.builder.now c.args.last _ _ _ _ refl c.in-Some.is ∙ c.requires.later)
