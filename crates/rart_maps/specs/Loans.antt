-- What a map holds once a `&mut` to its extra value has ended.
use Rattle.std.specs.Borrow.{Fml, RattleType, MutBor, Lends}
use Rattle.rart_maps.specs.Contents.{Contents, with_extra}
use Rattle.rart_parts.specs.Loans.{BitsetMembers}
use Rattle.rart_maps.specs.contracts.mapping.direct_mapping.DirectMapping as direct
use Rattle.rart_maps.specs.contracts.mapping.indexed_mapping.IndexedMapping as indexed
use Rattle.rart_maps.specs.contracts.mapping.sorted_keyed_mapping.SortedKeyedMapping as sorted

-- the extra value of a sorted map was lent: the map ends with what was left there
abbrev pub lends_sorted_extra : (N W E : RattleType) → MutBor (Contents N.Denot E.Denot) → MutBor E.Denot → Fml
lends_sorted_extra N W E map lent = Lends (sorted.the_row N W E) E map lent (with_extra map.now)

-- the type of an indexed map
abbrev pub indexed_row : (N W B E : RattleType) → BitsetMembers B.Denot → RattleType
indexed_row N W B E b = indexed.the_row N W B E (record {
  BIT_SHIFT = b.BIT_SHIFT;
  STORAGE_BIT_WIDTH = b.STORAGE_BIT_WIDTH;
  STORAGE_WORDS = b.STORAGE_WORDS;
  CAPACITY = b.CAPACITY;
  has = b.has;
})
    (record { is_default = b.is_default })

-- the extra value of an indexed map was lent: the map ends with what was left there
abbrev pub lends_indexed_extra : (N W B E : RattleType) → BitsetMembers B.Denot → MutBor (Contents N.Denot E.Denot)
    → MutBor E.Denot → Fml
lends_indexed_extra N W B E b map lent = Lends (indexed_row N W B E b) E map lent (with_extra map.now)

-- the extra value of a direct map was lent: the map ends with what was left there
abbrev pub lends_direct_extra : (N E : RattleType) → MutBor (Contents N.Denot E.Denot) → MutBor E.Denot → Fml
lends_direct_extra N E map lent = Lends (direct.the_row N E) E map lent (with_extra map.now)
