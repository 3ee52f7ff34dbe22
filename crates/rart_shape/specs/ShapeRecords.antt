-- The records that a program keeps of a shape, read as the pairs of the shape.
use Rattle.std.specs.Prelude.{ℕ, ◌≡◌, List, map, Option, Some, None, MatchOption}
use Rattle.rart_keys.specs.SortedMap.{put}
use Rattle.rart_trie.specs.shapes.Shape.{NodeRecord, record_at}
use Rattle.rart_shape.specs.declared.ShapeRecord.{ShapeRecord}

abbrev pub node_record : ShapeRecord → NodeRecord
node_record r = record { holds_value = r.holds_value; edges = r.edges.items; capacity = r.capacity }

-- each path with its record, in the order of the program's list
abbrev pub records_of : List ShapeRecord → List (List ℕ × NodeRecord)
records_of rs = map (λ r. (r.path.items, node_record r)) rs

-- with the record inserted, if there is one
abbrev pub put_some : List ℕ → Option NodeRecord → List (List ℕ × NodeRecord) → List (List ℕ × NodeRecord)
put_some p None rs = rs
put_some p (Some r) rs = put p r rs

-- o is the record of the shape of the keys at p, with its path, or none
abbrev pub IsRecordAt : List (List ℕ) → List ℕ → Option ShapeRecord → Type 0
IsRecordAt ks p o = MatchOption o (record_at ks p ≡ None) (λ r. (r.path.items ≡ p)
    × (record_at ks p ≡ Some (node_record r)))
