-- How a handle of IPv6 networks is stored. Assumes `Logic`.
use Rattle.std.proofs.Common.{◌≡◌, List, [], ◌∷◌, ◌++◌, refl, subst, lit<}
use Rattle.std.specs.Prelude.{Option}
use seplogic.Ra.Ura.{Ura}
use mir.Val.{Val, vstruct, of_list}
use base.Fml.{fsep, feq}
use types.Logic.{Logic}
use types.Kit.{Item, Goal, Seq, Step, step, ‵, ◌$◌, drop, fsplit, fjoin, fpick, fpack, feq_i, feq_l}
use denote.RattleType.{RattleType, Valss}
use denote.Builtin.{RawPtr}
use denote.RawPtr.{Ptr, block_ptr, null_ptr, ptr_val}
use denote.Steps.{nothing}
use denote.Param.{layout}
use denote.Struct.Struct.{within}
use denote.Struct.Owning.{shape}
use Rattle.core.proofs.cell.Inside.{Good}
use Rattle.rart_c.specs.contracts.net6.Net6.{the_row as Row}
use Rattle.rart_c.specs.contracts.net6.handle.RartNet6 as handle
use Rattle.rart_c.specs.declared.net6.Net6.{Net6}
use Rattle.rart_c.specs.HandlesNet6.{table_of}
use Rattle.rart_c.specs.ParkedAt.{parked_at}
use Rattle.rart_c.proofs.ParkedBoxes.{stored_as}

abbrev pub Handle : RattleType
Handle = handle.the_row

pub handle_well : (p : Ptr) → Good (layout Handle) (stored_as p)
handle_well null_ptr = (tt, (record { fits = lit< tt }, tt))
handle_well (block_ptr b o) = (tt, (tt, tt))

module _ {M : Type 1} {𝓤 : Ura M} {𝓛 : Logic 𝓤} {K : Type 0} {Γ : List (Item 𝓤)} {G : Goal 𝓤 𝓛.H} where
  pub handle_out : K → (h : Handle.Denot) (vs : List Val)
      → ((v : Option Net6) → vs ≡ stored_as h.at ∷ [] → h.held ≡ table_of v → Seq K 𝓛 (‵ (parked_at Row h.at v) ∷ Γ) G)
      → Seq K 𝓛 (‵ (Handle.own_val h vs) ∷ Γ) G
  handle_out t h vs next =
      fsplit t $ fpick t (λ parts. fsplit t $ feq_l t (λ whole_is. fsplit t $ feq_l t (λ part_is. drop t $
      fpick t (λ v. fsplit t $ feq_l t (λ held_is.
      next v (subst (λ (ps : List Val). vs ≡ vstruct (of_list (ps ++ [])) ∷ []) part_is whole_is) held_is)))))

  pub handle_in : K → (p : Ptr) (v : Option Net6)
      → Step K 𝓛 (‵ (Handle.own_val (record { at = p; held = table_of v }) (stored_as p ∷ [])) ∷ Γ) G
      (‵ (parked_at Row p v) ∷ Γ) G
  handle_in t p v = step (λ s.
      feq_i t Net6 (table_of v) (table_of v) refl $ fjoin t $
      fpack t (Option Net6) (λ w. fsep (feq Net6 (table_of v) (table_of w)) (parked_at Row p w)) v $
      nothing t $ feq_i t (List Val) (ptr_val p ∷ []) (ptr_val p ∷ []) refl $ fjoin t $
      feq_i t (List Val) (stored_as p ∷ []) (stored_as p ∷ []) refl $ fjoin t $
      fpack t (Valss (RawPtr ∷ [])) (within (shape handle.the_type) (p, tt) (stored_as p ∷ [])) (ptr_val p ∷ [], tt) $
      fjoin t $ s)
