-- A `&` to a block shows its header and its items, where a `&` to each can be made. Assumes `Logic`.
use mathlib.Core.Path.{◌≡◌, refl, sym, subst}
use mathlib.Core.Bool.{Bool, true, false, not}
use mathlib.Core.List.{List, [], ◌∷◌}
use Prim.Native.Nat.{ℕ, ◌-◌, ◌*◌, ◌≤◌, ◌^◌}
use native.Mathlib.Omega.{arith}
use lib.Dec.{T as Holds, eqb, eqb→eq}
use lib.ListN.{length}
use seplogic.Ra.Ura.{Ura}
use base.Fraction.{full_share}
use base.Fml.{Fml, Lft, Incl, ftrue, fsep, flt, fbor}
use base.Logic.{sep}
use mir.Syntax.{Ty, ty_array}
use mir.Raw.{raw as bare}
use types.Logic.{Logic, sem, lfts}
use types.Kit.{‵, raw, ◌$◌, !, qed, drop, fjoin, feq_i, updating, done}
use types.Kit.{now as at_once}
use denote.RattleType.{RattleType}
use denote.Memory.{lone}
use denote.Array.{Array}
use denote.ArrayMemory.{Single}
use denote.Param.Laws.{Laws}
use denote.RawPtr.{Ptr, block_ptr, null_ptr, lies_at, room_for, in_block, ◌+ₚ◌}
use denote.Sharing.{ShrLaws, said}
use denote.SharingLaws.{beside_shr_laws, nothing_shr_laws}
use denote.Shares.{Shares-less, Shares-Array}
use denote.Steps.{nothing as nothing_in}
use denote.Struct.Lending.{lent_at, lent_at_shr_laws, Lends, Lends-both, Lends-false, Lends-first, Lends-lies}
use denote.Struct.Lending.{Lends-nothing, Lends-said}
use Rattle.core.specs.Mem.{type_size}
use Rattle.core.specs.Allocator.{block_with_items}
use Rattle.std_alloc.specs.Vec.Ownership.{owns_if}
use Rattle.std_alloc.proofs.SharedLaws.{lent_shr_laws}
use Rattle.rart_block.specs.Memory.{head_offset, places_offset, deed, places_owned, block_owned, places_shared}
use Rattle.rart_block.specs.Memory.{block_shared}

no_items : {X : Type 0} (xs : List X) → length xs ≤ 0 → xs ≡ []
no_items [] e = refl
no_items (x ∷ xs) e = absurd (omega arith)

module _ (H T : RattleType) (w : ℕ) (LH : Laws H) (LT : Laws T) where
  seen_laws : (p : Ptr) (xs : List T.Denot) (apart : Bool) → ShrLaws (places_shared H T w p xs apart)
  seen_laws p xs true = nothing_shr_laws
  seen_laws p xs false = lent_shr_laws T LT.shr_laws (p +ₚ places_offset H T w) (length xs) w xs

  pub shared_laws : (p : Ptr) (h : H.Denot) (xs : List T.Denot) (apart : Bool)
      → ShrLaws (block_shared H T w p h xs apart)
  shared_laws p h xs apart = beside_shr_laws (lent_at H (p +ₚ head_offset H T w) h) (places_shared H T w p xs apart)
      (lent_at_shr_laws H LH.shr_laws (p +ₚ head_offset H T w) h) (seen_laws p xs apart)

  module _ {M : Type 1} {𝓤 : Ura M} (𝓛 : Logic 𝓤) (l : Lft) (lh : Incl l H.lives) (lt : Incl l T.lives) where
    module _ (xs : List T.Denot) (few : length xs ≤ w) where
      abbrev Row : RattleType
      Row = Array T (length xs)

      -- without places there are no items, and of them a `&` shows nothing
      none_lent : (p : Ptr) (b o : ℕ) → p ≡ block_ptr b o → xs ≡ [] → Lends 𝓛 ftrue (lent_at Row p xs) l
      none_lent p b o at e = subst (λ q. Lends 𝓛 ftrue (lent_at Row q xs) l) (sym at)
          (subst (λ ys. Lends 𝓛 ftrue (lent_at (Array T (length ys)) (block_ptr b o) ys) l) (sym e) (λ κ ts _ _.
          qed 𝓛 (‵ (fbor κ ftrue) ∷ raw (lfts 𝓛 ts) ∷ [])
          {P = 𝓛.H.⇛ (sep 𝓤 (sem 𝓛 (lent_at (Array T 0) (block_ptr b o) [] κ)) (lfts 𝓛 ts))} (updating ! $ drop !
          $ nothing_in ! $ feq_i ! ℕ 0 0 refl $ fjoin ! $ nothing_in ! $ fjoin ! $ at_once ! $ done !)))

      items_lent : (p : Ptr) (empty : Bool) → (Holds empty → w ≡ 0)
          → Lends 𝓛 (in_block p (owns_if (not empty) (block_with_items (λ _ _. ftrue) T p (length xs) w xs)))
          (lent_at Row p xs) l
      items_lent null_ptr empty none = Lends-false 𝓛 (lent_at Row null_ptr xs) l
      items_lent (block_ptr b o) true none =
          none_lent (block_ptr b o) b o refl (no_items xs (subst (λ n. length xs ≤ n) (none tt) few))
      items_lent (block_ptr b o) false none =
          let p : Ptr = block_ptr b o in
          let item = Shares-less 𝓛 T T.lives l lt (LT.shares 𝓛) in
          Lends-first 𝓛 (lies_at Row full_share p xs) (fsep (room_for (bare (ty_array (lone T.mir) (w - length xs)))
          (p +ₚ length xs * type_size T)) ftrue) (lent_at Row p xs) l
          (Lends-lies 𝓛 Row l p xs (Shares-Array 𝓛 T (subst Single (sym LT.one) tt) (length xs) l item xs))

      seen_lent : (p : Ptr) (apart : Bool)
          → Lends 𝓛 (places_owned H T w p xs apart) (places_shared H T w p xs apart) l
      seen_lent p true = Lends-nothing 𝓛 ftrue l
      seen_lent p false =
          let small : Fml = flt (w * type_size T) (2 ^ 63) in
          let q : Ptr = p +ₚ places_offset H T w in
          Lends-both 𝓛 small _ (said small) (lent_at Row q xs) l (Lends-said 𝓛 small tt l)
          (items_lent q (eqb w 0) (eqb→eq w 0))

    pub block_lent : (token : Ty → Ptr → Fml) (p : Ptr) (h : H.Denot) (xs : List T.Denot) (apart : Bool)
        → length xs ≤ w → Lends 𝓛 (block_owned H T w token p h xs apart) (block_shared H T w p h xs apart) l
    block_lent token p h xs apart few =
        let q : Ptr = p +ₚ head_offset H T w in
        let head = Shares-less 𝓛 H H.lives l lh (LH.shares 𝓛) in
        Lends-both 𝓛 (lies_at H full_share q h) _ (lent_at H q h) (places_shared H T w p xs apart) l
        (Lends-lies 𝓛 H l q h (head h))
        (Lends-first 𝓛 (places_owned H T w p xs apart) (deed H T w token p) (places_shared H T w p xs apart) l
        (seen_lent xs few p apart))
