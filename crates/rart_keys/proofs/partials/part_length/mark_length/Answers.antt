use Rattle.std.proofs.Common.{◌≡◌, ◌<◌, ◌-◌, arith, ap, ◌∙◌, length, false}
use Rattle.std.proofs.lemmas.Bool.{lt-leb}
use Rattle.std.specs.Prelude.{nat_le}
use Rattle.rart_keys.specs.PartLengths.{has_mark}
use Rattle.rart_keys.proofs.strings.PartMarks.{AreBytes-set, marked_length-set, no_mark-zeros}
use Rattle.rart_keys.proofs.partials.part_length.mark_length.Goals as goal

pub returns-clause-length : goal.returns-clause-length
returns-clause-length g c =
    let wide : nat_le g.row.SIZE 65535 ≡ false = lt-leb g.row.SIZE 65535 (omega arith) in
    let place : c.args.len < length c.args.stored.now = omega arith in
    rw (wide) (marked_length-set c.args.stored.now c.args.len place
    (ap has_mark c.requires.zeros ∙ no_mark-zeros (g.row.SIZE - c.args.len)))

pub returns-clause-are_bytes : goal.returns-clause-are_bytes
returns-clause-are_bytes g c = AreBytes-set c.args.stored.now c.args.len c.requires.are_bytes
