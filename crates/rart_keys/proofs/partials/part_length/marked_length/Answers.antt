use Rattle.std.proofs.Common.{◌-◌, ◌≡◌, arith, suc, sym}
use Rattle.rart_keys.proofs.strings.PartMarks.{marked_length-at, no_mark-length}
use Rattle.rart_keys.proofs.partials.part_length.marked_length.Goals as goal

pub returns-then-stored-end-ne0 : goal.returns-then-stored-end-ne0
returns-then-stored-end-ne0 c =
    let last : c.loop-end.end ≡ suc (c.loop-end.end - 1) = omega arith in
    sym (marked_length-at c.args.stored.now (c.loop-end.end - 1) (omega arith) c.if-stored-end-ne0.true
    (rw (← last) c.loop-end.invariant.zeros))

pub returns : goal.returns
returns c =
    let done : c.loop-end.end ≡ 0 = omega arith in
    sym (no_mark-length c.args.stored.now (rw (done) at c.loop-end.invariant.zeros))
