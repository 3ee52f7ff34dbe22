-- What a cursor ends as after the borrow of a value.
use Rattle.std.specs.Prelude.{◌≡◌, [], Option, OnSome, IfSome}
use Rattle.std.specs.Borrow.{Fml, MutBor, RattleType, LendsSo}
use mir.Syntax.{named}
use Rattle.rart_keys.specs.SortedMap.{put}
use Rattle.rart_keys.specs.declared.partials.Partial as partials
use Rattle.rart.specs.Loans.{KeyMembers}
use Rattle.rart_uses.specs.declared.cursor.CursorMut.{CursorMut}
use Rattle.rart_uses.specs.contracts.cursor.CursorMut.{the_row}

-- the type of a cursor
abbrev pub cursor_row : (K V P : RattleType) → KeyMembers K.Denot → partials.Ghosts P.Denot → RattleType
cursor_row K V P k p = the_row (record { mir = named 1; lft = [] }) K V P
    (record { MAXIMUM_SIZE = k.MAXIMUM_SIZE; bytes = k.bytes }) (record { eq = k.eq }) (record { cmp = k.cmp })
    (record { partial_cmp = k.partial_cmp }) p

-- the tree ends with the value at the cursor's key
abbrev pub lends_value : (K V P : RattleType) → KeyMembers K.Denot → partials.Ghosts P.Denot
    → MutBor (CursorMut K.Denot V.Denot P.Denot) → Option (MutBor V.Denot) → Fml
lends_value K V P k p cursor lent = LendsSo (cursor_row K V P k p) V cursor lent
    (λ n w. (n.tree.ghost_name ≡ cursor.now.tree.ghost_name) × (n.last ≡ cursor.now.last)
    × OnSome lent ((n.tree.now.nodes ≡ cursor.now.tree.now.nodes)
    × IfSome cursor.now.last (λ key. n.tree.now.pairs ≡ put (k.bytes key) w cursor.now.tree.now.pairs)))
    (λ n. (n.tree.ghost_name ≡ cursor.now.tree.ghost_name) × (n.last ≡ cursor.now.last)
    × (n.tree.now ≡ cursor.now.tree.now))
