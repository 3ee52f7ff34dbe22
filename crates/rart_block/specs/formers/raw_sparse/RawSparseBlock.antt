-- `RawSparseBlock` as a type that may hold the type that holds it, by the items in its slots.
use Rattle.std.specs.Prelude.{◌≡◌, ℕ, ◌+◌, ◌*◌, ◌^◌, ◌<◌, List, [], ◌∷◌, map, length, Option, None, Some}
use Rattle.std.specs.Mem.{type_size}
use Rattle.std.specs.Coded.{coded_list, coded_option}
use mathlib.Core.Path.{refl, sym, ap, ◌∙◌}
use mathlib.Core.Logic.{◌⊎◌, inl, inr}
use mathlib.Core.Former.{Former, this, const, pair, or, list, via, such, children}
use native.Mathlib.Nat.{ℕ_set}
use lib.ListN.{length-map}
use base.Stored.{gcons, gnum, code_map}
use base.Fraction.{full_share}
use base.Fml.{Fml, fsep, flt, fwand}
use mir.Syntax.{Ty, ty_array, ty_struct, tcons, tnil}
use mir.Raw.{raw}
use prog.Memory.{size, align, up}
use denote.RattleType.{RattleType}
use denote.Param.{value_of}
use denote.Memory.{lone}
use denote.RawPtr.{Ptr, room_for, lies_at, ◌+ₚ◌}
use denote.Sharing.{said, beside}
use denote.HoleLaws.{Alike}
use denote.HolePlaces.{Recodes}
use denote.Hole.Carrier.{listed}
use denote.Param.Weighed.{Weighed, w_or, w_const, w_via, w_list}
use denote.Struct.Struct.{Struct}
use denote.Struct.Owning.{shape, to}
use denote.Struct.Lending.{lent_at}
use Rattle.std_alloc.specs.Vec.Recursive.{lies_placed, lent_at_placed}
use Rattle.rart_block.specs.Contents.{items_in}
use Rattle.rart_block.specs.declared.raw_sparse.RawSparseBlock.{RawSparseBlock}
use Rattle.rart_block.specs.contracts.raw_sparse.RawSparseBlock as C
use Rattle.rart_block.specs.Memory.{global_token, head_offset}
use Rattle.rart_block.specs.SlotMemory.{slot, slots, slot_lent, slots_lent, sparse_owned, sparse_shared}
use Rattle.rart_block.specs.formers.raw.RawBlock.{in_third}

-- ---- a slot
module _ (g : Former {0}) where
  abbrev pub split : (X : Type 0) → Option (g.Of X) → Unit {0} ⊎ g.Of X
  split X None = inl tt
  split X (Some y) = inr y

  abbrev pub join : (X : Type 0) → Unit {0} ⊎ g.Of X → Option (g.Of X)
  join X (inl u) = None
  join X (inr y) = Some y

  pub join-split : (X : Type 0) (o : Option (g.Of X)) → join X (split X o) ≡ o
  join-split X None = refl
  join-split X (Some y) = refl

  pub split-join : (X : Type 0) (x : Unit {0} ⊎ g.Of X) → split X (join X x) ≡ x
  split-join X (inl u) = refl
  split-join X (inr y) = refl

  abbrev pub slot_former : Former {0}
  slot_former = via (or (const (Unit {0})) g) (λ X. Option (g.Of X)) split join join-split split-join

abbrev pub slot_weighed : {g : Former {0}} → Weighed g → Weighed (slot_former g)
slot_weighed {g} k = w_via (w_or (w_const (Unit {0})) k) (λ X. Option (g.Of X)) (split g) (join g) (join-split g)
    (split-join g)

-- ---- the block
module _ (g : Former {0}) (H : Type 0) (w : ℕ) where
  -- what a block holds beside its slots
  abbrev Kept : Type 0
  Kept = (Ptr × H) × (w < 2 ^ 63)

  abbrev parts : Former {0}
  parts = pair (const Kept) (list (slot_former g))

  abbrev AreAll : {X : Type 0} → Kept × List X → Type 0
  AreAll p = length p.1 ≡ w

  abbrev of_parts : Former {0}
  of_parts = such parts (λ X. AreAll) AreAll (λ X x. ℕ_set _ _) (λ a. ℕ_set _ _)
      (λ X x e. length-map x.1 ((slot_former g).shape X) ∙ e)
      (λ X x e. sym (length-map x.1 ((slot_former g).shape X)) ∙ e)

  abbrev pub the_former : Former {0}
  the_former = via of_parts (λ X. RawSparseBlock H (g.Of X) w)
      (λ X b. ((((b.ptr, b.head), b.narrow), b.slots), b.all))
      (λ X p. record { ptr = p.0.0.0.0; head = p.0.0.0.1; slots = p.0.1; all = p.1; narrow = p.0.0.1 })
      (λ X b. refl) (λ X p. refl)

abbrev pub the_weighed : {g : Former {0}} → Weighed g → (H : Type 0) (w : ℕ) → Weighed (the_former g H w)
the_weighed k H w = record {
  weight = λ X size b. (w_list (slot_weighed k)).weight X size b.slots;
  puts = λ X size b. (w_list (slot_weighed k)).puts X size b.slots;
}

abbrev pub the_items : (H : Type 0) (w : ℕ) (X : Type 0) → RawSparseBlock H X w → List X
the_items H w X b = items_in b.slots

pub slots_listed : (X : Type 0) (os : List (Option X))
    → listed _ (children (list (slot_former this)) X os) ≡ items_in os
slots_listed X [] = refl
slots_listed X (None ∷ os) = slots_listed X os
slots_listed X (Some x ∷ os) = ap (λ l. x ∷ l) (slots_listed X os)

pub the_items_listed : (H : Type 0) (w : ℕ) (X : Type 0) (b : RawSparseBlock H X w)
    → listed _ (children (the_former this H w) X b) ≡ the_items H w X b
the_items_listed H w X b = slots_listed X b.slots

abbrev pub slot_map : {X Y : Type 0} → (X → Y) → Option X → Option Y
slot_map {X} {Y} h = (slot_former this).map X Y h

module _ (H : RattleType) (w : ℕ) (R R' : RattleType) (h : R.Denot → R'.Denot) (a : Alike R R' h) where
  -- the layout of the items' type is the same
  abbrev ν : lone R'.mir ≡ lone R.mir
  ν = λ i. lone (a.mir_same i)

  abbrev width : type_size R' ≡ type_size R
  width = λ i. size (ν i)

  slot_placed : (p : Ptr) (o : Option R.Denot) → slot R' p (slot_map h o) ≡ slot R p o
  slot_placed p None = λ i. room_for (raw (ν i)) p
  slot_placed p (Some x) = lies_placed R R' h a full_share p x

  slots_placed : (p : Ptr) (os : List (Option R.Denot)) → slots R' p (map (slot_map h) os) ≡ slots R p os
  slots_placed p [] = refl
  slots_placed p (o ∷ os) = (λ i. fsep (slot_placed p o i) (slots R' (p +ₚ width i) (map (slot_map h) os)))
      ∙ (λ i. fsep (slot R p o) (slots_placed (p +ₚ type_size R) os i))

  shown_placed : (p : Ptr) (o : Option R.Denot) → slot_lent R' p (slot_map h o) ≡ slot_lent R p o
  shown_placed p None = refl
  shown_placed p (Some x) = lent_at_placed R R' h a p x

  seen_placed : (p : Ptr) (os : List (Option R.Denot)) → slots_lent R' p (map (slot_map h) os) ≡ slots_lent R p os
  seen_placed p [] = refl
  seen_placed p (o ∷ os) = (λ i. beside (shown_placed p o i) (slots_lent R' (p +ₚ width i) (map (slot_map h) os)))
      ∙ (λ i. beside (slot_lent R p o) (seen_placed (p +ₚ type_size R) os i))

  abbrev head_at : ℕ
  head_at = head_offset H R w

  abbrev slots_at : Ty → ℕ
  slots_at τ = up (align τ) (head_at + size (lone H.mir))

  abbrev block_of : Ty → Ty
  block_of τ = raw (ty_struct [] (tcons (lone H.mir) (tcons (ty_array τ w) tnil)))

  abbrev deed_of : (Ty → Ptr → Fml) → Ptr → Ty → Fml
  deed_of token p τ = fsep (token (block_of τ) p) (fwand (fsep (room_for (raw (lone H.mir)) (p +ₚ head_at))
      (room_for (raw (ty_array τ w)) (p +ₚ slots_at τ))) (room_for (block_of τ) p))

  owned_placed : (token : Ty → Ptr → Fml) (p : Ptr) (x : H.Denot) (os : List (Option R.Denot))
      → sparse_owned H R' w token p x (map (slot_map h) os) ≡ sparse_owned H R w token p x os
  owned_placed token p x os =
      (λ i. fsep (lies_at H full_share (p +ₚ head_at) x) (fsep
      (fsep (flt (length-map os (slot_map h) i * width i) (2 ^ 63))
      (slots R' (p +ₚ slots_at (ν i)) (map (slot_map h) os))) (deed_of token p (ν i))))
      ∙ (λ i. fsep (lies_at H full_share (p +ₚ head_at) x) (fsep
      (fsep (flt (length os * type_size R) (2 ^ 63)) (slots_placed (p +ₚ slots_at (lone R.mir)) os i))
      (deed_of token p (lone R.mir))))

  shared_placed : (p : Ptr) (x : H.Denot) (os : List (Option R.Denot))
      → sparse_shared H R' w p x (map (slot_map h) os) ≡ sparse_shared H R w p x os
  shared_placed p x os =
      (λ i. beside (lent_at H (p +ₚ head_at) x) (beside
      (said (flt (length-map os (slot_map h) i * width i) (2 ^ 63)))
      (slots_lent R' (p +ₚ slots_at (ν i)) (map (slot_map h) os))))
      ∙ (λ i. beside (lent_at H (p +ₚ head_at) x) (beside (said (flt (length os * type_size R) (2 ^ 63)))
      (seen_placed (p +ₚ slots_at (lone R.mir)) os i)))

module _ (R R' : RattleType) (h : R.Denot → R'.Denot) (e : Recodes R R' h) where
  slot_recoded : (o : Option R.Denot) → (coded_option R.coded).code o ≡ (coded_option R'.coded).code (slot_map h o)
  slot_recoded None = refl
  slot_recoded (Some x) = λ i. gcons (gnum 1) (sym (e x) i)

  pub slots_recoded : (os : List (Option R.Denot))
      → (coded_list (coded_option R'.coded)).code (map (slot_map h) os) ≡ (coded_list (coded_option R.coded)).code os
  slots_recoded os = sym (code_map (coded_option R.coded).code (coded_option R'.coded).code (slot_map h)
      slot_recoded os)

module _ (H W R R' : RattleType) (h : R.Denot → R'.Denot) where
  abbrev w : ℕ
  w = value_of W

  pub the_places : Alike R R' h
      → Alike (C.the_row H R W) (C.the_row H R' W) ((the_former this H.Denot w).map R.Denot R'.Denot h)
  the_places a = record {
    mir_same = refl;
    own_same = λ b i vs. fsep ((Struct (shape (C.the_type H R W))).own_val (to (C.the_type H R W) b) vs)
        (owned_placed H w R R' h a global_token b.ptr b.head b.slots i);
    shr_same = λ b i k o. beside ((Struct (shape (C.the_type H R W))).shr_at (to (C.the_type H R W) b) k o)
        (shared_placed H w R R' h a b.ptr b.head b.slots i);
  }

  pub the_codes_placed : Recodes R R' h
      → Recodes (C.the_row H R W) (C.the_row H R' W) ((the_former this H.Denot w).map R.Denot R'.Denot h)
  the_codes_placed e b = in_third (slots_recoded R R' h e b.slots)
