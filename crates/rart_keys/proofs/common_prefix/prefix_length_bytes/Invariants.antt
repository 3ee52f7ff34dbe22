use Rattle.std.proofs.Common.{◌≡◌, ◌+◌, drop, nat_eq}
use Rattle.std.specs.List.{common_prefix_len}
use Rattle.rart_keys.proofs.common_prefix.prefix_length_bytes.Given as goal

abbrev pub invariant-loop-i : goal.invariant-loop-i
invariant-loop-i l = common_prefix_len nat_eq l.left l.right
    ≡ l.i + common_prefix_len nat_eq (drop l.i l.left) (drop l.i l.right)
