use Rattle.std.proofs.Common.{ℕ, ◌<◌, ◌≤◌, ◌-◌, get_or}
use Rattle.rart_parts.proofs.utils.u8_keys.first_above_by_halves.Given as goal

abbrev pub invariant-loop-left : goal.invariant-loop-left
invariant-loop-left l = record {
  in_order : l.left ≤ l.right;
  in_range : l.right ≤ l.num_children;
  before : (k : ℕ) → k < l.left → get_or l.keys k 0 ≤ l.key;
  here : l.right < l.num_children → l.key < get_or l.keys l.right 0;
}

abbrev pub decreases-loop-left : goal.decreases-loop-left
decreases-loop-left l = l.right - l.left
