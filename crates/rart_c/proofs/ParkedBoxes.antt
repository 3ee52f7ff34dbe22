-- How a parked box is stored, and what it owns. Assumes `Logic`.
use Rattle.std.proofs.Common.{◌≡◌, ℕ, List, [], ◌∷◌, ◌++◌, refl, subst, lit<}
use Rattle.std.specs.Prelude.{Option, None, Some}
use seplogic.Ra.Ura.{Ura}
use mir.Raw.{raw as bare}
use mir.Syntax.{Dict, impl, tnil, tcons, dnil}
use mir.Val.{Val, vstruct, vcons, vnil, of_list}
use base.Fml.{fsep, feq}
use base.Logic.{ent, guard, via, snd∗, guard_i}
use types.Logic.{Logic, sem}
use types.Kit.{Item, Goal, Seq, Step, step, ‵, given, learn, ◌$◌, drop, use1, fsplit, fjoin, fpick, fpack, feq_i, feq_l}
use contract.Monad.{fact_use}
use denote.RattleType.{RattleType, Valss}
use denote.Builtin.{RawPtr}
use denote.Memory.{lone}
use denote.RawPtr.{Ptr, block_ptr, null_ptr, ptr_val, Testable}
use denote.Steps.{nothing}
use denote.Exit.{no}
use denote.Param.{arg, layout}
use denote.Param.Laws.{Laws, arg_laws}
use denote.Struct.Struct.{within}
use denote.Struct.Owning.{shape}
use Rattle.core.specs.Ptr.{points_to}
use Rattle.core.proofs.alloc.Calls.{Al}
use Rattle.core.proofs.cell.Inside.{Good}
use Rattle.std_alloc.specs.Box.Ownership.{box_owns}
use Rattle.std_alloc.specs.contracts.boxed.Box as boxed
use Rattle.std_alloc.proofs.BoxSteps.Form.{Bx}
use Rattle.std_heap.specs.contracts.Global.{the_row as heap_row}
use Rattle.std_heap.proofs.Global.TheLaws.{the_row_laws as heap_row_laws}
use Rattle.std_heap.specs.contracts.GlobalAllocator.TheImpl.{ghosts, dict}
use Rattle.std_heap.proofs.GlobalToken.{dealloc_token-Testable}
use Rattle.rart_c.specs.contracts.parked.Parked as parked
use Rattle.rart_c.specs.Heap.{heap}
use Rattle.rart_c.specs.ParkedAt.{parked_at}

-- the heap as a call of `Box` gets it: at its layout, with a drop that does nothing
abbrev pub Heap : RattleType
Heap = arg (bare (layout heap_row)) no heap_row

pub heap_laws : Laws Heap
heap_laws = arg_laws (bare (layout heap_row)) no heap_row heap_row_laws refl

abbrev pub no_drop : Dict
no_drop = impl ("rart_c::Destruct++none::drop" ∷ []) (tcons (layout Heap) tnil) dnil

abbrev pub heaps : Al
heaps = record { row = Heap; laws = heap_laws; g = ghosts; d = dict; drops = no_drop }

abbrev pub boxes : (T : RattleType) → Laws T → Bx
boxes T L = record { row = T; laws = L; al = heaps }

-- the box of the heap that a signature names
abbrev pub Boxed : RattleType → RattleType
Boxed R = boxed.the_row R heap_row ghosts

-- a struct of one pointer
abbrev pub stored_as : Ptr → Val
stored_as p = vstruct (vcons (ptr_val p) vnil)

module _ (R : RattleType) where
  abbrev pub Parked : RattleType
  Parked = parked.the_row R

  pub stored_well : (p : Ptr) → Good (layout Parked) (stored_as p)
  stored_well null_ptr = (tt, (record { fits = lit< tt }, tt))
  stored_well (block_ptr b o) = (tt, (tt, tt))

  -- the right to free the block of a box shows that its pointer can be tested
  box_tests : {M : Type 1} {𝓤 : Ura M} (𝓛 : Logic 𝓤) (p : Ptr) (x : R.Denot)
      → ent 𝓤 (sem 𝓛 (box_owns (ghosts.dealloc_token heap) R p x))
      (guard 𝓤 (Testable p) (sem 𝓛 (box_owns (ghosts.dealloc_token heap) R p x)))
  box_tests {𝓤 = 𝓤} 𝓛 p x =
      let whole = sem 𝓛 (box_owns (ghosts.dealloc_token heap) R p x) in
      let right = sem 𝓛 (ghosts.dealloc_token heap (bare (lone R.mir)) p) in
      fact_use 𝓤 (Testable p) (via 𝓤 right (snd∗ 𝓤 (sem 𝓛 (points_to R p x)) right)
      (dealloc_token-Testable 𝓛 heap (bare (lone R.mir)) p)) (guard_i 𝓤 (Testable p) whole)

  module _ {M : Type 1} {𝓤 : Ura M} {𝓛 : Logic 𝓤} {K : Type 0} {Γ : List (Item 𝓤)} {G : Goal 𝓤 𝓛.H} where
    pub parked_out : K → (h : Parked.Denot) (vs : List Val)
        → (vs ≡ stored_as h.at ∷ [] → Seq K 𝓛 (‵ (parked_at R h.at h.value) ∷ Γ) G)
        → Seq K 𝓛 (‵ (Parked.own_val h vs) ∷ Γ) G
    parked_out t h vs next =
        fsplit t $ fpick t (λ parts. fsplit t $ feq_l t (λ whole_is. fsplit t $ feq_l t (λ part_is. drop t $
        next (subst (λ (ps : List Val). vs ≡ vstruct (of_list (ps ++ [])) ∷ []) part_is whole_is))))

    pub parked_in : K → (p : Ptr) (v : Option R.Denot)
        → Step K 𝓛 (‵ (Parked.own_val (record { at = p; value = v }) (stored_as p ∷ [])) ∷ Γ) G
        (‵ (parked_at R p v) ∷ Γ) G
    parked_in t p v = step (λ s.
        nothing t $ feq_i t (List Val) (ptr_val p ∷ []) (ptr_val p ∷ []) refl $ fjoin t $
        feq_i t (List Val) (stored_as p ∷ []) (stored_as p ∷ []) refl $ fjoin t $
        fpack t (Valss (RawPtr ∷ [])) (within (shape (parked.the_type R)) (p, tt) (stored_as p ∷ []))
        (ptr_val p ∷ [], tt) $
        fjoin t $ s)

    -- a box at a pointer is parked there
    pub park : K → (b o : ℕ) (x : R.Denot)
        → Step K 𝓛 (‵ (parked_at R (block_ptr b o) (Some x)) ∷ Γ) G
        (‵ (box_owns (ghosts.dealloc_token heap) R (block_ptr b o) x) ∷ Γ) G
    park t b o x = step (λ s.
        feq_i t (Option R.Denot) (Some x) (Some x) refl $ fjoin t $
        fpack t R.Denot (λ y. fsep (feq (Option R.Denot) (Some x) (Some y))
        (box_owns (ghosts.dealloc_token heap) R (block_ptr b o) y)) x $ s)

    -- nothing is parked, at null; or a box is, at a pointer that can be tested
    pub by_pointer : K → (p : Ptr) (v : Option R.Denot)
        → (p ≡ null_ptr → v ≡ None → Seq K 𝓛 Γ G)
        → ((b o : ℕ) (x : R.Denot) → p ≡ block_ptr b o → v ≡ Some x → Testable (block_ptr b o)
        → Seq K 𝓛 (‵ (box_owns (ghosts.dealloc_token heap) R (block_ptr b o) x) ∷ Γ) G)
        → Seq K 𝓛 (‵ (parked_at R p v) ∷ Γ) G
    by_pointer t null_ptr v null boxed = feq_l t (λ is_none. null refl is_none)
    by_pointer t (block_ptr b o) v null boxed = fpick t (λ x. fsplit t $ feq_l t (λ is_some.
        use1 𝓛 (given (Testable (block_ptr b o)) (‵ (box_owns (ghosts.dealloc_token heap) R (block_ptr b o) x)))
        (box_tests 𝓛 (block_ptr b o) x) $
        learn t (λ tested. boxed b o x refl is_some tested)))
