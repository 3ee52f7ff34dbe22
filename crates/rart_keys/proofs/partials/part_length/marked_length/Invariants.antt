use Rattle.std.proofs.Common.{◌≡◌, ◌≤◌, false, length, drop}
use Rattle.rart_keys.specs.PartLengths.{has_mark}
use Rattle.rart_keys.proofs.partials.part_length.marked_length.Given as goal

abbrev pub invariant-loop-end : goal.invariant-loop-end
invariant-loop-end l = record {
  within : l.end ≤ length l.stored;
  zeros : has_mark (drop l.end l.stored) ≡ false;
}

abbrev pub decreases-loop-end : goal.decreases-loop-end
decreases-loop-end l = l.end
