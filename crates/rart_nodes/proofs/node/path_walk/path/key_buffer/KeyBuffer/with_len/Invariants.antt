use Rattle.std.proofs.Common.{◌≡◌, ◌≤◌, ◌-◌, vec_capacity, vec_len}
use Rattle.rart_nodes.proofs.node.path_walk.path.key_buffer.KeyBuffer.with_len.Given as goal

abbrev pub invariant-loop-bytes : goal.invariant-loop-bytes
invariant-loop-bytes l = (vec_capacity l.bytes ≡ l.fn.len) × (vec_len l.bytes ≤ l.fn.len)

abbrev pub decreases-loop-bytes : goal.decreases-loop-bytes
decreases-loop-bytes l = l.fn.len - vec_len l.bytes
