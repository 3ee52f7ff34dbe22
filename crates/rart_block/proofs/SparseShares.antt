-- A `&` to a sparse block shows its header and the items in its slots, where a `&` to each can be made. Assumes
-- `Logic`.
use mathlib.Core.List.{List, [], ◌∷◌}
use Prim.Native.Nat.{ℕ}
use seplogic.Ra.Ura.{Ura}
use base.Fraction.{full_share}
use base.Fml.{Fml, Lft, Incl, ftrue, fsep}
use mir.Syntax.{Ty}
use types.Logic.{Logic}
use denote.RattleType.{RattleType}
use denote.Param.Laws.{Laws}
use denote.RawPtr.{Ptr, lies_at, ◌+ₚ◌}
use denote.Sharing.{ShrLaws, said}
use denote.SharingLaws.{beside_shr_laws, nothing_shr_laws, said_shr_laws}
use denote.Shares.{Shares, Shares-less}
use denote.Struct.Lending.{lent_at, lent_at_shr_laws, Lends, Lends-both, Lends-first, Lends-lies, Lends-nothing}
use denote.Struct.Lending.{Lends-said}
use Rattle.std.specs.Prelude.{Option, Some, None}
use Rattle.std.specs.Mem.{type_size}
use Rattle.rart_block.specs.Memory.{head_offset, places_offset, deed}
use Rattle.rart_block.specs.SlotMemory.{slot, slots, slot_lent, slots_lent, fit, slots_seen, sparse_owned}
use Rattle.rart_block.specs.SlotMemory.{sparse_shared}

module _ (T : RattleType) (LT : Laws T) where
  slot_laws : (p : Ptr) (o : Option T.Denot) → ShrLaws (slot_lent T p o)
  slot_laws p (Some x) = lent_at_shr_laws T LT.shr_laws p x
  slot_laws p None = nothing_shr_laws

  slots_laws : (p : Ptr) (os : List (Option T.Denot)) → ShrLaws (slots_lent T p os)
  slots_laws p [] = nothing_shr_laws
  slots_laws p (o ∷ os) = beside_shr_laws (slot_lent T p o) (slots_lent T (p +ₚ type_size T) os) (slot_laws p o)
      (slots_laws (p +ₚ type_size T) os)

  pub seen_laws : (p : Ptr) (os : List (Option T.Denot)) → ShrLaws (slots_seen T p os)
  seen_laws p os = beside_shr_laws (said (fit T os)) (slots_lent T p os) (said_shr_laws (fit T os) tt) (slots_laws p os)

module _ (H T : RattleType) (w : ℕ) (LH : Laws H) (LT : Laws T) where
  pub shared_laws : (p : Ptr) (h : H.Denot) (os : List (Option T.Denot)) → ShrLaws (sparse_shared H T w p h os)
  shared_laws p h os = beside_shr_laws (lent_at H (p +ₚ head_offset H T w) h)
      (slots_seen T (p +ₚ places_offset H T w) os) (lent_at_shr_laws H LH.shr_laws (p +ₚ head_offset H T w) h)
      (seen_laws T LT (p +ₚ places_offset H T w) os)

  module _ {M : Type 1} {𝓤 : Ura M} (𝓛 : Logic 𝓤) (l : Lft) (lh : Incl l H.lives) (lt : Incl l T.lives) where
    abbrev shared_item : Shares 𝓛 T l
    shared_item = Shares-less 𝓛 T T.lives l lt (LT.shares 𝓛)

    slot_shows : (p : Ptr) (o : Option T.Denot) → Lends 𝓛 (slot T p o) (slot_lent T p o) l
    slot_shows p (Some x) = Lends-lies 𝓛 T l p x (shared_item x)
    slot_shows p None = Lends-nothing 𝓛 (slot T p None) l

    slots_show : (p : Ptr) (os : List (Option T.Denot)) → Lends 𝓛 (slots T p os) (slots_lent T p os) l
    slots_show p [] = Lends-nothing 𝓛 ftrue l
    slots_show p (o ∷ os) = Lends-both 𝓛 (slot T p o) (slots T (p +ₚ type_size T) os) (slot_lent T p o)
        (slots_lent T (p +ₚ type_size T) os) l (slot_shows p o) (slots_show (p +ₚ type_size T) os)

    pub sparse_lent : (token : Ty → Ptr → Fml) (p : Ptr) (h : H.Denot) (os : List (Option T.Denot))
        → Lends 𝓛 (sparse_owned H T w token p h os) (sparse_shared H T w p h os) l
    sparse_lent token p h os =
        let q : Ptr = p +ₚ head_offset H T w in
        let r : Ptr = p +ₚ places_offset H T w in
        let shared_head = Shares-less 𝓛 H H.lives l lh (LH.shares 𝓛) in
        Lends-both 𝓛 (lies_at H full_share q h) _ (lent_at H q h) (slots_seen T r os) l
        (Lends-lies 𝓛 H l q h (shared_head h))
        (Lends-first 𝓛 (fsep (fit T os) (slots T r os)) (deed H T w token p) (slots_seen T r os) l
        (Lends-both 𝓛 (fit T os) (slots T r os) (said (fit T os)) (slots_lent T r os) l (Lends-said 𝓛 (fit T os) tt l)
        (slots_show r os)))
