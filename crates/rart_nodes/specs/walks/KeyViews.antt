-- What a key that is lent in segments is to its readers.
use Rattle.std.specs.Prelude.{ℕ, List}
use Rattle.rart_nodes.specs.declared.node.view.LendingKeyView.{LendingKeyView}
use Rattle.rart_nodes.specs.walks.PathParts.{lent_segments}
use Rattle.rart_trie.specs.walks.Walk.{SegmentList, joined_bytes}

-- its segments
abbrev pub view_segments : LendingKeyView → SegmentList
view_segments v = lent_segments v.segments.now

-- its bytes
abbrev pub view_bytes : LendingKeyView → List ℕ
view_bytes v = joined_bytes (view_segments v)
