use Rattle.std.proofs.Common.{◌≡◌, ◌-◌, ◌≤◌, take, length}
use Rattle.rart_keys.proofs.strip.begins_by_words.Given as goal

abbrev pub invariant-loop-i : goal.invariant-loop-i
invariant-loop-i l = record {
  within : l.i ≤ length l.prefix;
  so_far : take l.i l.prefix ≡ take l.i l.key;
}

abbrev pub decreases-loop-i : goal.decreases-loop-i
decreases-loop-i l = l.last - l.i
