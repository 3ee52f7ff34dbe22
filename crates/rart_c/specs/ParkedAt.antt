-- What a pointer to a parked box owns: nothing at null, and the box elsewhere.
use Rattle.std.specs.Prelude.{Option, None, Some}
use base.Fml.{Fml, feq, fex, fsep}
use denote.RattleType.{RattleType}
use denote.RawPtr.{Ptr, block_ptr, null_ptr}
use Rattle.std_alloc.specs.Box.Ownership.{box_owns}
use Rattle.std_heap.specs.contracts.GlobalAllocator.TheImpl.{ghosts}
use Rattle.rart_c.specs.Heap.{heap}

abbrev pub parked_at : (R : RattleType) → Ptr → Option R.Denot → Fml
parked_at R null_ptr value = feq (Option R.Denot) value None
parked_at R (block_ptr b o) value = fex R.Denot (λ x. fsep (feq (Option R.Denot) value (Some x))
    (box_owns (ghosts.dealloc_token heap) R (block_ptr b o) x))
