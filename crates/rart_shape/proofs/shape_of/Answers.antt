use Rattle.std.proofs.Common.{◌∙◌, ap, arith, refl}
use Rattle.rart_shape.specs.ShapeRecords.{records_of}
use Rattle.rart_shape.proofs.ShapeOfLemmas.{lengths-done, keys-step, covers-whole}
use Rattle.rart_shape.proofs.shape_of.Goals as goal
use Rattle.rart_shape.proofs.shape_of.Goals.{else-lengths-test}
use Rattle.rart_shape.proofs.shape_of.Goals.{then-lengths-test+in_ok-put_record_at+else-length-length-end}

pub lengths-preserved : goal.lengths-preserved
lengths-preserved c = lengths-done _ _ _ c.lengths.length _ _ _ c.lengths.auto.length-end refl
    c.in_ok-put_record_at.ensures.put c.lengths.invariant

pub keys-preserved : goal.keys-preserved
keys-preserved c = elim c.lengths-test.branch [
  | else-lengths-test w ↦ absurd (omega arith)
  | then-lengths-test+in_ok-put_record_at+else-length-length-end w ↦ keys-step _ c.args.keys.now c.keys.key-index _ _ _
      _ c.keys-test.true refl (omega arith)
      (lengths-done _ _ _ c.lengths.length _ _ _ c.lengths.auto.length-end refl
      (ap (λ v. records_of v.items) w.records-is ∙ w.in_ok-put_record_at.ensures.put) c.lengths.invariant)
]

pub returns-clause-shape : goal.returns-clause-shape
returns-clause-shape c = covers-whole c.args.keys.now c.keys.key-index (records_of c.keys.records.items) (omega arith)
    c.keys.invariant
