-- What a sparse block ends as, once a `&mut` into it has ended.
use Rattle.std.specs.Prelude.{◌≡◌, ℕ, List, length, slice_set, Option, Some}
use Rattle.std.specs.Borrow.{Fml, RattleType, MutBor, Lends}
use mathlib.Core.Path.{◌∙◌}
use lib.ListN.{length-set}
use denote.Param.{value_of}
use Rattle.rart_block.specs.declared.raw_sparse.RawSparseBlock.{RawSparseBlock}
use Rattle.rart_block.specs.contracts.raw_sparse.RawSparseBlock.{the_row}

module _ {H T : Type 0} {w : ℕ} (b : RawSparseBlock H T w) where
  -- the block with other slots, as many
  abbrev pub with_slots : {X : Type 0} (os : List (Option X)) → length os ≡ w → RawSparseBlock H X w
  with_slots os all = record { ptr = b.ptr; head = b.head; slots = os; all = all; narrow = b.narrow }

  abbrev pub with_head : H → RawSparseBlock H T w
  with_head h = record { ptr = b.ptr; head = h; slots = b.slots; all = b.all; narrow = b.narrow }

  abbrev pub with_slot : ℕ → Option T → RawSparseBlock H T w
  with_slot i o = with_slots (slice_set b.slots i o) (length-set b.slots i o ∙ b.all)

module _ (H T W : RattleType) (b : MutBor (RawSparseBlock H.Denot T.Denot (value_of W))) where
  -- the header was lent: the block ends with what was left there
  abbrev pub lends_head : MutBor H.Denot → Fml
  lends_head r = Lends (the_row H T W) H b r (λ h. with_head b.now h)

  -- the item in slot i was lent: the block ends with what was left there
  abbrev pub lends_slot : ℕ → MutBor T.Denot → Fml
  lends_slot i r = Lends (the_row H T W) T b r (λ x. with_slot b.now i (Some x))
