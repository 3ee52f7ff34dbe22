use Rattle.std.proofs.Common.{[], ◌∷◌, sym, ◌∙◌}
use Rattle.rart_cidr.proofs.routes.EditLemmas.{keeps-stride, takes-stride}
use Rattle.rart_cidr.proofs.table.take_stride.Goals as goal

pub returns-in-Ok-Some : goal.returns-in-Ok-Some
returns-in-Ok-Some g c =
    takes-stride c.args.strides.now.pairs c.remove_k.new.self.pairs (g.K.KeyTrait.bytes c.args.key.now)
    (c.args.code ∷ []) c.in-Ok-Some.stride c.into_only.result
    (sym c.in-Ok-Some.field-0-is ∙ c.in-Ok-Some.ensures.removes.0) c.in-Ok-Some.ensures.removes.1 c.into_only.ensures
    c.requires.stored c.requires.only

pub returns-in-Err : goal.returns-in-Err
returns-in-Err g c = keeps-stride _ _ _ _ _ c.requires.stored c.in-Err.ensures.removes.0 c.in-Err.ensures.removes.1
