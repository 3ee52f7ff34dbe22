use Rattle.std.proofs.Common.{◌≡◌}
use Rattle.rart_shape.proofs.ShapeRecordLemmas.{GoesAfter}
use Rattle.rart_shape.proofs.put_record.Given as goal

abbrev pub invariant-loop-i : goal.invariant-loop-i
invariant-loop-i l = record {
  same : l.records.items
      ≡ l.initial.records.items;
  after : GoesAfter l.i l.added.path.items l.records.items;
}
