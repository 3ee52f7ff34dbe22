-- A `&` to a `Slots` holds what the `Slots` shows, which can be had twice. Assumes `Logic`.
use mathlib.Core.List.{[], ◌∷◌}
use seplogic.Ra.Ura.{Ura}
use base.Logic.{ent, sep, wand, apply∗}
use base.Fml.{Lft, Fml, fbor}
use types.Logic.{Logic, sem, lfts}
use types.Kit.{‵, raw, ◌⊛◌, later, ◌$◌, !, qed, move, drop, use1, use2, split, await, updating, done}
use types.Kit.{now as at_once}
use denote.RattleType.{RattleType}
use denote.Ref.{NamedLft, ShrRef}
use denote.Sharing.{said}
use denote.SharingLaws.{contraction, held_shr_laws}
use denote.Param.Laws.{Laws}
use denote.Param.Shared.{copy_shared}
use denote.Struct.Field.{RawPtr-field}
use denote.Struct.Laws.{RawPtr-copy, field_copy}
use denote.Struct.Lending.{Lends, of_Lends}
use Rattle.core.specs.contracts.marker.PhantomData as P
use Rattle.rart_block.specs.SlotMemory.{slots_seen}
use Rattle.rart_block.specs.contracts.raw_sparse.Slots as C
use Rattle.rart_block.proofs.SparseShares.{seen_laws}
use Rattle.rart_block.proofs.raw_sparse.Slots.TheLaw.Statement.{statement}

-- what can be had twice comes out of a borrow of it
twice_lent : {M : Type 1} {𝓤 : Ura M} (𝓛 : Logic 𝓤) (F : Fml) → ent 𝓤 (sem 𝓛 F) (sep 𝓤 (sem 𝓛 F) (sem 𝓛 F)) → (l : Lft)
    → Lends 𝓛 F (said F) l
twice_lent {𝓤 = 𝓤} 𝓛 F twice l κ ts inc ends =
    let Back = 𝓛.H.⇛ (sep 𝓤 (𝓛.A.bor κ F) (lfts 𝓛 ts)) in
    qed 𝓛 (‵ (fbor κ F) ∷ raw (lfts 𝓛 ts) ∷ []) {P = 𝓛.H.⇛ (sep 𝓤 (sem 𝓛 F) (lfts 𝓛 ts))} (updating ! $
    use2 𝓛 (later (‵ F ⊛ raw (wand 𝓤 (sem 𝓛 F) Back))) (𝓛.more.bor_acc_by κ ts F ends) $ await ! tt $ split ! $
    use1 𝓛 (‵ F ⊛ ‵ F) twice $ split ! $ move ! (0 ∷ 2 ∷ []) $
    use2 𝓛 (later (‵ (fbor κ F) ⊛ raw (lfts 𝓛 ts))) (apply∗ 𝓤 (sem 𝓛 F) Back) $ await ! tt $ split ! $ drop ! $
    move ! (1 ∷ 0 ∷ []) $ at_once ! $ done !)

pub shares : (a : NamedLft) (T : RattleType) (L : Laws T) → statement a T L
shares a T L = of_Lends (C.struct a T) (C.the_codes T.Denot T.coded (P.the_row (ShrRef a.mir a.lft T)).coded)
    (C.the_heap a.lft T) (C.the_lent a.lft T)
    (λ d _. held_shr_laws a.lft (slots_seen T d.ptr d.items) (seen_laws T L d.ptr d.items)) (
      copy_shared RawPtr-field RawPtr-copy,
      (copy_shared (P.the_field (ShrRef a.mir a.lft T)) (field_copy (P.the_type (ShrRef a.mir a.lft T)) tt), tt),
    )
    (λ M 𝓤 𝓛 d _. twice_lent 𝓛 (slots_seen T d.ptr d.items a.lft)
    (contraction 𝓛 (slots_seen T d.ptr d.items) (seen_laws T L d.ptr d.items) a.lft) (C.the_row a T).lives)
