-- What paths keep of a prefix: its bytes, one by one, the prefix as one segment, or nothing.
use Rattle.std.specs.Prelude.{ℕ, List, [], ◌∷◌, ◌++◌, map, take, Option}
use Rattle.std.specs.Borrow.{Bor}
use Rattle.std.specs.Option.{option_copied}
use Rattle.std.proofs.Common.{arith}
use Rattle.rart_nodes.specs.declared.node.path_walk.ascending.Walk.{Walk}
use Rattle.rart_nodes.specs.declared.node.path_walk.path.BytePath.{BytePath}
use Rattle.rart_nodes.specs.walks.KeyBuffers.{bytes_in}
use Rattle.rart_trie.specs.walks.Walk.{Grown, IsShort, Level, SegmentList, entry_values, entries_ahead}

abbrev pub byte_segments : Grown
byte_segments p = map (λ b. b ∷ []) p

-- the bytes that a path of bytes keeps
abbrev pub kept_bytes : BytePath → List ℕ
kept_bytes t = take t.len (bytes_in t.buffer) ++ t.last.now

abbrev pub one_segment : Grown
one_segment [] = []
one_segment (b ∷ p) = (b ∷ p) ∷ []

abbrev pub no_segment : Grown
no_segment p = []

pub short-bytes : IsShort byte_segments
short-bytes [] = omega arith
short-bytes (b ∷ p) = omega (arith, short-bytes p)

pub short-one : IsShort one_segment
short-one [] = omega arith
short-one (b ∷ p) = omega arith

pub short-no : IsShort no_segment
short-no p = omega arith

-- the bytes that are lent
abbrev pub lent_segments : List (Bor (List ℕ)) → SegmentList
lent_segments ps = map (λ p. p.now) ps

-- the remaining values of a walk whose path keeps nothing
abbrev pub values_ahead : {V : Type 0} → Option (Bor V) → List (Level V) → List V
values_ahead first levels = entry_values (entries_ahead no_segment [] (option_copied first) levels)

abbrev pub walk_values : {P V C : Type 0} → Walk P V C → List V
walk_values w = values_ahead w.first w.levels.items
