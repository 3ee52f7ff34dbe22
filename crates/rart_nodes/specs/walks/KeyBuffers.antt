-- The bytes that a buffer holds, and how many of them are allocated.
use Rattle.std.specs.Prelude.{ℕ, List, vec_capacity}
use Rattle.rart_nodes.specs.declared.node.path_walk.path.key_buffer.KeyBuffer.{KeyBuffer}
use Rattle.rart_nodes.specs.declared.node.path_walk.path.key_buffer.KeyBuffer.TheVariants as buffer

abbrev pub bytes_in : KeyBuffer → List ℕ
bytes_in (buffer.Inline bytes) = bytes
bytes_in (buffer.Allocated bytes) = bytes.items

abbrev pub allocated_bytes : KeyBuffer → ℕ
allocated_bytes (buffer.Inline bytes) = 0
allocated_bytes (buffer.Allocated bytes) = vec_capacity bytes
