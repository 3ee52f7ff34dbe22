use Rattle.std.proofs.Common.{◌∙◌, sym}
use Rattle.rart.proofs.bulks.LoaderLemmas.{last-replaced, replaced-fields}
use Rattle.rart.proofs.tree.bulk.loader.Loader.replace_last.Goals as goal

pub invariant_of-self : goal.invariant_of-self
invariant_of-self g c = replaced-fields g.K.KeyTrait.bytes _ _ _ _ _ c.self.invariant _ _ _
    (sym c.take.ensures.value ∙ c.in-Some.is)

pub returns : goal.returns
returns g c = last-replaced g.K.KeyTrait.bytes c.self.inside.builder c.self.inside.last _ _ _ _
    c.self.view_is (sym c.take.ensures.value ∙ c.in-Some.is)
