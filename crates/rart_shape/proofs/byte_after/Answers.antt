use Rattle.std.proofs.Common.{sym, ◌∙◌, ap}
use Rattle.std.specs.Prelude.{slice_get}
use Rattle.rart_shape.proofs.ShapeRecordLemmas.{after-none, after-some}
use Rattle.rart_shape.proofs.byte_after.Goals as goal

pub returns-in_err-rest : goal.returns-in_err-rest
returns-in_err-rest c = let f = after-none c.args.path.now c.args.key.now c.in_err-rest.ensures.cases in cc

pub returns : goal.returns
returns c = let h = c.in_ok-rest.ensures.cases in
    c.copied.ensures ∙ c.first.ensures.value ∙ ap (λ bs. slice_get bs 0) h.1
    ∙ sym (after-some c.args.path.now c.args.key.now h.0)
