-- What a block ends as, once a `&mut` into it has ended.
use Rattle.std.specs.Prelude.{ℕ, ◌≤◌, List, length, slice_set}
use Rattle.std.specs.Borrow.{Fml, RattleType, MutBor, Lends}
use mathlib.Core.Path.{subst, sym}
use lib.ListN.{length-set}
use denote.Param.{value_of}
use Rattle.rart_block.specs.declared.raw.RawBlock.{RawBlock}
use Rattle.rart_block.specs.contracts.raw.RawBlock.{the_row}

module _ {H T : Type 0} {w : ℕ} (b : RawBlock H T w) where
  -- the block with other items, as many as there are places at most
  abbrev pub with_items : {X : Type 0} (xs : List X) → length xs ≤ w → RawBlock H X w
  with_items xs few = record {
    ptr = b.ptr;
    head = b.head;
    items = xs;
    apart = b.apart;
    few = few;
    narrow = b.narrow;
  }

  abbrev pub with_head : H → RawBlock H T w
  with_head h = record {
    ptr = b.ptr;
    head = h;
    items = b.items;
    apart = b.apart;
    few = b.few;
    narrow = b.narrow;
  }

  abbrev pub with_item : ℕ → T → RawBlock H T w
  with_item i x = with_items (slice_set b.items i x) (subst (λ n. n ≤ w) (sym (length-set b.items i x)) b.few)

module _ (H T W : RattleType) (b : MutBor (RawBlock H.Denot T.Denot (value_of W))) where
  -- the header was lent: the block ends with what was left there
  abbrev pub lends_head : MutBor H.Denot → Fml
  lends_head r = Lends (the_row H T W) H b r (λ h. with_head b.now h)

  -- item i was lent: the block ends with what was left there
  abbrev pub lends_item : ℕ → MutBor T.Denot → Fml
  lends_item i r = Lends (the_row H T W) T b r (λ x. with_item b.now i x)
