-- What a sparse block holds once a `&mut` into it has ended.
use Rattle.std.specs.Prelude.{ℕ, slice_set, Option, Some}
use Rattle.std.specs.Borrow.{Fml, RattleType, MutBor, Lends}
use Rattle.rart_block.specs.Contents.{Contents, with_head, with_keys, with_items}
use Rattle.rart_block.specs.contracts.sparse_block.SparseBlock.{the_row}

module _ (H K T W : RattleType) (b : MutBor (Contents H.Denot K.Denot (Option T.Denot))) where
  -- the header was lent: the block ends with what was left there
  abbrev pub lends_head : MutBor H.Denot → Fml
  lends_head r = Lends (the_row H K T W) H b r (with_head b.now)

  -- the keys were lent: the block ends with what was left there
  abbrev pub lends_keys : MutBor K.Denot → Fml
  lends_keys r = Lends (the_row H K T W) K b r (with_keys b.now)

  -- the item in slot i was lent: the block ends with what was left there
  abbrev pub lends_slot : ℕ → MutBor T.Denot → Fml
  lends_slot i r = Lends (the_row H K T W) T b r (λ x. with_items b.now (slice_set b.now.items i (Some x)))
