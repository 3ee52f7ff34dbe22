-- Slots side by side: one comes out and goes back, vacant ones are room, and a `&` shows the items. Assumes `Logic`.
use Rattle.rart_block.proofs.Walk.{◌≡◌, refl, subst, List, [], ◌∷◌, ℕ, zero, suc, ◌+◌, ◌*◌, ◌<◌}
use Rattle.rart_block.proofs.Walk.{arith, length, get_or, set, Ura, Ty, ty_array, full_share, Fml, froom, ftrue, fsep}
use Rattle.rart_block.proofs.Walk.{Lft, ent, sep, never, Logic, sem, ‵, ◌⊛◌, ◌$◌, ◌∵◌, !, qed, by, move, keep}
use Rattle.rart_block.proofs.Walk.{drop, use1, use2, split, rewrite, frame, done, fsplit, layout, hidden_shr}
use Rattle.rart_block.proofs.Walk.{part_at, block_ptr, null_ptr, as_raw, as_written, RattleType}
use Rattle.std.specs.Prelude.{Option, Some, None, IsSome, replicate}
use Rattle.std.specs.Mem.{type_size}
use denote.Index.{place, place_is}
use Rattle.rart_block.specs.SlotMemory.{slot, slots, slot_lent, slots_lent}
use Rattle.rart_block.proofs.Parts.{Parts, X}

none_some : {Y : Type 0} {x : Y} → None ≡ Some x → ⊥
none_some e = cc

-- the item in a slot that is not vacant
pub item_of : {Y : Type 0} (o : Option Y) → IsSome o → (x : Y) × (o ≡ Some x)
item_of None e = cc
item_of (Some x) e = (x, refl)

pub within : {Y : Type 0} (os : List (Option Y)) (i : ℕ) (x : Y) → get_or os i None ≡ Some x → i < length os
within [] i x e = absurd (none_some e)
within (o ∷ os) zero x e = omega arith
within (o ∷ os) (suc i) x e = omega (arith, within os i x e)

module _ (P : Parts) where
  abbrev Item : Type 0
  Item = P.item.Denot

  abbrev pub s : ℕ
  s = type_size (X P)

  abbrev β : Ty
  β = layout P.item

  -- the slots at o of block k but for slot i
  abbrev pub others : ℕ → ℕ → List (Option Item) → ℕ → Fml
  others k o [] i = ftrue
  others k o (c ∷ os) zero = slots (X P) (block_ptr k (o + s)) os
  others k o (c ∷ os) (suc i) = fsep (slot (X P) (block_ptr k o) c) (others k (o + s) os i)

  module _ {M : Type 1} {𝓤 : Ura M} (𝓛 : Logic 𝓤) (k : ℕ) where
    abbrev all : ℕ → List (Option Item) → Fml
    all o os = slots (X P) (block_ptr k o) os

    abbrev one : ℕ → Option Item → Fml
    one o c = slot (X P) (block_ptr k o) c

    out_at : (os : List (Option Item)) (i o : ℕ) → i < length os → ent 𝓤 (sem 𝓛 (all o os))
        (sep 𝓤 (sem 𝓛 (one (place s o i) (get_or os i None))) (sem 𝓛 (others k o os i)))
    out_at [] i o lt = absurd (omega arith)
    out_at (c ∷ os) zero o lt = qed 𝓛 (‵ (all o (c ∷ os)) ∷ []) ∵ fsplit ! $ done !
    out_at (c ∷ os) (suc i) o lt = qed 𝓛 (‵ (all o (c ∷ os)) ∷ []) ∵ fsplit ! $ move ! (1 ∷ []) $
        use1 𝓛 (‵ (one (place s (o + s) i) (get_or os i None)) ⊛ ‵ (others k (o + s) os i))
        (out_at os i (o + s) (omega arith)) $ split ! $ frame ! $ move ! (1 ∷ 0 ∷ []) $ done !

    in_at : (os : List (Option Item)) (i o : ℕ) (c : Option Item) → i < length os
        → ent 𝓤 (sep 𝓤 (sem 𝓛 (one (place s o i) c)) (sem 𝓛 (others k o os i))) (sem 𝓛 (all o (set os i c)))
    in_at [] i o c lt = absurd (omega arith)
    in_at (d ∷ os) zero o c lt = qed 𝓛 (‵ (one o c) ∷ ‵ (all (o + s) os) ∷ []) ∵ done !
    in_at (d ∷ os) (suc i) o c lt =
        qed 𝓛 (‵ (one (place s (o + s) i) c) ∷ ‵ (others k o (d ∷ os) (suc i)) ∷ []) ∵ move ! (1 ∷ []) $ fsplit ! $
        move ! (2 ∷ 1 ∷ []) $ use2 𝓛 (‵ (all (o + s) (set os i c))) (in_at os i (o + s) c (omega arith)) $
        move ! (1 ∷ 0 ∷ []) $ done !

    module _ (os : List (Option Item)) (i o : ℕ) (lt : i < length os) where
      slot_out : ent 𝓤 (sem 𝓛 (all o os))
          (sep 𝓤 (sem 𝓛 (one (i * s + o) (get_or os i None))) (sem 𝓛 (others k o os i)))
      slot_out = subst (λ (at : ℕ). ent 𝓤 (sem 𝓛 (all o os)) (sep 𝓤 (sem 𝓛 (one at (get_or os i None)))
          (sem 𝓛 (others k o os i)))) (place_is s o i) (out_at os i o lt)

      slot_in : (c : Option Item)
          → ent 𝓤 (sep 𝓤 (sem 𝓛 (one (i * s + o) c)) (sem 𝓛 (others k o os i))) (sem 𝓛 (all o (set os i c)))
      slot_in c = subst (λ (at : ℕ). ent 𝓤 (sep 𝓤 (sem 𝓛 (one at c)) (sem 𝓛 (others k o os i)))
          (sem 𝓛 (all o (set os i c)))) (place_is s o i) (in_at os i o c lt)

      pub item_out : (x : Item) → get_or os i None ≡ Some x → ent 𝓤 (sem 𝓛 (all o os))
          (sep 𝓤 (sem 𝓛 (part_at (X P) full_share x k (i * s + o))) (sem 𝓛 (others k o os i)))
      item_out x e = subst (λ (c : Option Item). ent 𝓤 (sem 𝓛 (all o os)) (sep 𝓤 (sem 𝓛 (one (i * s + o) c))
          (sem 𝓛 (others k o os i)))) e slot_out

      pub item_in : (x : Item) → ent 𝓤 (sep 𝓤 (sem 𝓛 (part_at (X P) full_share x k (i * s + o)))
          (sem 𝓛 (others k o os i))) (sem 𝓛 (all o (set os i (Some x))))
      item_in x = slot_in (Some x)

      pub room_out : get_or os i None ≡ None
          → ent 𝓤 (sem 𝓛 (all o os)) (sep 𝓤 (𝓛.H.room β k (i * s + o)) (sem 𝓛 (others k o os i)))
      room_out e = qed 𝓛 (‵ (all o os) ∷ []) ∵
          use1 𝓛 (‵ (one (i * s + o) None) ⊛ ‵ (others k o os i)) (subst (λ (c : Option Item). ent 𝓤 (sem 𝓛 (all o os))
          (sep 𝓤 (sem 𝓛 (one (i * s + o) c)) (sem 𝓛 (others k o os i)))) e slot_out) $ split ! $
          as_written ! β k (i * s + o) $ done !

      pub room_in : ent 𝓤 (sep 𝓤 (𝓛.H.room β k (i * s + o)) (sem 𝓛 (others k o os i)))
          (sem 𝓛 (all o (set os i None)))
      room_in = qed 𝓛 (‵ (froom β k (i * s + o)) ∷ ‵ (others k o os i) ∷ []) ∵ as_raw ! β k (i * s + o) $
          by ! (slot_in None)

    -- room for an array is vacant slots, and they are room for it
    pub vacant_of_room : (n o : ℕ) → ent 𝓤 (𝓛.H.room (ty_array β n) k o) (sem 𝓛 (all o (replicate n None)))
    vacant_of_room zero o = qed 𝓛 (‵ (froom (ty_array β 0) k o) ∷ []) ∵ keep ! [] $ done !
    vacant_of_room (suc n) o = qed 𝓛 (‵ (froom (ty_array β (suc n)) k o) ∷ []) ∵
        use1 𝓛 (‵ (froom β k o) ⊛ ‵ (froom (ty_array β n) k (o + s))) (𝓛.laws.room_uncons β n k o) $ split ! $
        as_raw ! β k o $ frame ! $ by ! (vacant_of_room n (o + s))

    pub room_of_vacant : (n o : ℕ) → ent 𝓤 (sem 𝓛 (all o (replicate n None))) (𝓛.H.room (ty_array β n) k o)
    room_of_vacant zero o = 𝓛.laws.room_nil β k o
    room_of_vacant (suc n) o = qed 𝓛 (‵ (one o None) ∷ ‵ (all (o + s) (replicate n None)) ∷ []) ∵
        as_written ! β k o $ move ! (1 ∷ []) $
        use1 𝓛 (‵ (froom (ty_array β n) k (o + s))) (room_of_vacant n (o + s)) $ move ! (1 ∷ []) $
        by ! (𝓛.laws.room_cons β n k o)

module _ (T : RattleType) {M : Type 1} {𝓤 : Ura M} (𝓛 : Logic 𝓤) (κ : Lft) where
  -- no item lies at the null pointer
  pub none_at_null : (os : List (Option T.Denot)) (i : ℕ) (x : T.Denot) → get_or os i None ≡ Some x
      → ent 𝓤 (sem 𝓛 (slots_lent T null_ptr os κ)) (never 𝓤)
  none_at_null [] i x e = absurd (none_some e)
  none_at_null (c ∷ os) zero x e =
      qed 𝓛 (‵ (slot_lent T null_ptr c κ) ∷ ‵ (slots_lent T null_ptr os κ) ∷ []) ∵
      rewrite ! 0 (λ (d : Option T.Denot). ‵ (slot_lent T null_ptr d κ)) e refl $ fsplit ! $ keep ! (0 ∷ []) $ done !
  none_at_null (c ∷ os) (suc i) x e =
      qed 𝓛 (‵ (slot_lent T null_ptr c κ) ∷ ‵ (slots_lent T null_ptr os κ) ∷ []) ∵ drop ! $
      by ! (none_at_null os i x e)

  seen_at : (os : List (Option T.Denot)) (k o i : ℕ) (x : T.Denot) → get_or os i None ≡ Some x
      → ent 𝓤 (sem 𝓛 (slots_lent T (block_ptr k o) os κ)) (sem 𝓛 (hidden_shr T κ x k (place (type_size T) o i)))
  seen_at [] k o i x e = absurd (none_some e)
  seen_at (c ∷ os) k o zero x e =
      qed 𝓛 (‵ (slot_lent T (block_ptr k o) c κ) ∷ ‵ (slots_lent T (block_ptr k (o + type_size T)) os κ) ∷ []) ∵
      rewrite ! 0 (λ (d : Option T.Denot). ‵ (slot_lent T (block_ptr k o) d κ)) e refl $ fsplit ! $
      keep ! (1 ∷ []) $ done !
  seen_at (c ∷ os) k o (suc i) x e =
      qed 𝓛 (‵ (slot_lent T (block_ptr k o) c κ) ∷ ‵ (slots_lent T (block_ptr k (o + type_size T)) os κ) ∷ []) ∵
      drop ! $ by ! (seen_at os k (o + type_size T) i x e)

  -- what is seen of the slots is a `&` to each item
  pub item_seen : (os : List (Option T.Denot)) (k o i : ℕ) (x : T.Denot) → get_or os i None ≡ Some x
      → ent 𝓤 (sem 𝓛 (slots_lent T (block_ptr k o) os κ)) (sem 𝓛 (hidden_shr T κ x k (i * type_size T + o)))
  item_seen os k o i x e = subst (λ (at : ℕ). ent 𝓤 (sem 𝓛 (slots_lent T (block_ptr k o) os κ))
      (sem 𝓛 (hidden_shr T κ x k at))) (place_is (type_size T) o i) (seen_at os k o i x e)
