-- Memory for a block, and how it comes apart into room for the header and for the places. Assumes `Logic`.
use Rattle.rart_block.proofs.Walk.{◌≡◌, refl, ◌∙◌, List, [], ◌∷◌, ◌++◌, ℕ, zero, suc, ◌+◌, ◌*◌, ◌<◌, ◌≤◌, ◌^◌, arith}
use Rattle.rart_block.proofs.Walk.{Ura, Ty, ty_array, bare, Val, vptr, vstruct, vcons, vnil, of_list, has_ty, Fml}
use Rattle.rart_block.proofs.Walk.{froom, fsep, ftrue, fwand, SProp, ent, sep, never, fst∗, apply∗, Logic, sem, Goal}
use Rattle.rart_block.proofs.Walk.{Item, Seq, Step, step, ‵, raw, ◌⊛◌, ◌$◌, ◌∵◌, !, qed, move, drop, use0, use1, use2}
use Rattle.rart_block.proofs.Walk.{split, split3, group, frame, assume, done, fsplit, fjoin, fpick, fpack, feq_i, feq_l}
use Rattle.rart_block.proofs.Walk.{flt_i, RattleType, Valss, layout, RawPtr, block_ptr, null_ptr, ptr_val, in_a_block}
use Rattle.rart_block.proofs.Walk.{nothing, lodged, as_raw, as_written, Good, and_tt, no_al, sz, tells, row_of_room}
use Rattle.rart_block.proofs.Walk.{room_of_row}
use Rattle.rart_block.proofs.Parts.{Parts, H, X, W, w, at_head, at_places}
use base.Logic.{wand}
use mir.Syntax.{Tys, ty_struct, tcons, tnil}
use prog.Model.{rooms_at}
use denote.RawPtr.{room_for}
use denote.Struct.Struct.{Shape, as_fields, within}
use denote.Struct.Declared.{shape as plain_shape}
use denote.Struct.Owning.{shape}
use Rattle.std.specs.contracts.alloc.Global as heap
use Rattle.std.proofs.alloc.Global.TheLaws as heap_laws
use Rattle.std.specs.contracts.impls.GlobalAllocator.TheImpl.{ghosts}
use Rattle.std_alloc.specs.contracts.room.vacant.Vacant as V
use Rattle.rart_block.specs.contracts.raw.Layout as L
use Rattle.rart_block.specs.contracts.raw.Room as M
use Rattle.rart_block.specs.Memory.{global_token, layout_type, empty_fields}

abbrev vacant_val : Val → ℕ → ℕ → Val
vacant_val hv k o = vstruct (vcons (vptr k o) (vcons hv vnil))

abbrev pub room_val : Val → ℕ → ℕ → Val
room_val hv k o = vstruct (vcons (vacant_val hv k o) vnil)

module _ (P : Parts) where
  abbrev Vacant : RattleType
  Vacant = V.the_row (L.the_row (H P) (X P) (W P)) heap.the_row ghosts

  abbrev vacant_shape : Shape
  vacant_shape = shape (V.the_type (L.the_row (H P) (X P) (W P)) heap.the_row ghosts)

  abbrev pub Room : RattleType
  Room = M.the_row (H P) (X P) (W P)

  abbrev room_shape : Shape
  room_shape = plain_shape (M.the_type (H P) (X P) (W P))

  -- the machine's type of the whole block
  abbrev pub τ : Ty
  τ = layout_type (H P) (X P) (w P)

  abbrev pub Fields : ℕ → ℕ → Fml
  Fields k o = empty_fields (H P) (X P) (w P) (block_ptr k o)

  pub vacant_typed : (hv : Val) (k o : ℕ) → Good (layout heap.the_row) hv → Good (layout Vacant) (vacant_val hv k o)
  vacant_typed hv k o handle = (and_tt (has_ty (layout heap.the_row) hv) handle.0, (tt, (handle.1, tt)))

  pub room_typed : (hv : Val) (k o : ℕ) → Good (layout heap.the_row) hv → Good (layout Room) (room_val hv k o)
  room_typed hv k o handle =
      as_fields (layout Vacant ∷ []) (vacant_val hv k o ∷ []) (vacant_typed hv k o handle, tt)

  module _ {M : Type 1} {𝓤 : Ura M} {𝓛 : Logic 𝓤} {K : Type 0} {Γ : List (Item 𝓤)} {G : Goal 𝓤 𝓛.H} where
    vacant_had : K → (d : Vacant.Denot) (vs : List Val)
        → ((k o : ℕ) (hv : Val) → vs ≡ vacant_val hv k o ∷ [] → Good (layout heap.the_row) hv
        → Seq K 𝓛 (‵ (froom τ k o) ∷ ‵ (global_token τ (block_ptr k o))
        ∷ ‵ (heap.the_row.own_val d.alloc (hv ∷ [])) ∷ Γ) G)
        → Seq K 𝓛 (‵ (Vacant.own_val d vs) ∷ Γ) G
    vacant_had t d vs next =
        fsplit t $ fpick t (λ vss. fsplit t $ feq_l t (λ ev. fsplit t $ feq_l t (λ ep. fsplit t $
        tells t heap.the_row heap_laws.the_row_laws d.alloc vss.1.0 (λ hv ea good. move t (1 ∷ []) $ drop t $
        move t (1 ∷ []) $ in_a_block t d.ptr (λ p. fsep (room_for τ p) (global_token τ p))
        (fst∗ 𝓤 (never 𝓤) (sem 𝓛 (global_token τ null_ptr))) (λ k o at. fsplit t $
        next k o hv (ev ∙ (λ i. vstruct (of_list (ep i ++ (ea i ++ []))) ∷ [])
        ∙ (λ i. vstruct (of_list (ptr_val (at i) ∷ hv ∷ [])) ∷ [])) good)))))

  module _ {M : Type 1} {𝓤 : Ura M} {𝓛 : Logic 𝓤} {K : Type 0} {Γ : List (Item 𝓤)} {G : Goal 𝓤 𝓛.H} where
    -- [the room; the token; the handle]
    pub room_had : K → (d : Room.Denot) (vs : List Val)
        → ((k o : ℕ) (hv : Val) → vs ≡ room_val hv k o ∷ [] → Good (layout heap.the_row) hv
        → Seq K 𝓛 (‵ (froom τ k o) ∷ ‵ (global_token τ (block_ptr k o))
        ∷ ‵ (heap.the_row.own_val d.vacant.alloc (hv ∷ [])) ∷ Γ) G)
        → Seq K 𝓛 (‵ (Room.own_val d vs) ∷ Γ) G
    room_had t d vs next =
        fpick t (λ vss. fsplit t $ feq_l t (λ ev. fsplit t $ vacant_had t d.vacant vss.0 (λ k o hv e good.
        move t (3 ∷ []) $ drop t $ next k o hv (ev ∙ (λ i. vstruct (of_list (e i ++ [])) ∷ [])) good)))

    pub room_made : K → {hv : Val} (a : heap.the_row.Denot) (k o : ℕ)
        → Step K 𝓛 (‵ (Room.own_val (record { vacant = record { ptr = block_ptr k o; alloc = a } })
        (room_val hv k o ∷ [])) ∷ Γ) G
        (‵ (froom τ k o) ∷ ‵ (global_token τ (block_ptr k o)) ∷ ‵ (heap.the_row.own_val a (hv ∷ [])) ∷ Γ) G
    room_made t {hv} a k o = step (λ rest.
        let v = vacant_val hv k o in let r = room_val hv k o in
        -- the `Vacant`
        fjoin t $ nothing t $ move t (2 ∷ 0 ∷ []) $ fjoin t $
        feq_i t (List Val) (vptr k o ∷ []) (vptr k o ∷ []) refl $ fjoin t $
        feq_i t (List Val) (v ∷ []) (v ∷ []) refl $ fjoin t $
        fpack t (Valss (RawPtr ∷ heap.the_row ∷ [])) (within vacant_shape (block_ptr k o, (a, tt)) (v ∷ []))
        (vptr k o ∷ [], (hv ∷ [], tt)) $ fjoin t $
        -- the `Room`
        nothing t $ move t (1 ∷ 0 ∷ []) $ fjoin t $ feq_i t (List Val) (r ∷ []) (r ∷ []) refl $ fjoin t $
        fpack t (Valss (Vacant ∷ [])) (within room_shape (record { ptr = block_ptr k o; alloc = a }, tt) (r ∷ []))
        (v ∷ [], tt) $ rest)

module _ (P : Parts) {M : Type 1} {𝓤 : Ura M} (𝓛 : Logic 𝓤) (k o : ℕ) where
  abbrev α : Ty
  α = layout P.head

  abbrev β : Ty
  β = layout P.item

  -- an item's size
  abbrev s : ℕ
  s = sz (record { row = P.item; laws = P.item_laws; al = no_al })

  abbrev fields : Tys
  fields = tcons α (tcons (ty_array β (w P)) tnil)

  abbrev written : Ty
  written = ty_struct [] fields

  -- room for the two fields, and the way back
  pub comes_apart : ent 𝓤 (𝓛.H.room (τ P) k o)
      (sep 𝓤 (sem 𝓛 (Fields P k o)) (sem 𝓛 (fwand (Fields P k o) (froom (τ P) k o))))
  comes_apart =
      let h : ℕ = o + at_head P in
      let p : ℕ = o + at_places P in
      let Rooms : SProp 𝓤 = rooms_at 𝓤 𝓛.H fields 0 k o in
      let Back : SProp 𝓤 = wand 𝓤 Rooms (𝓛.H.room written k o) in
      qed 𝓛 (‵ (froom (τ P) k o) ∷ []) ∵ as_written ! written k o $
      use1 𝓛 ((‵ (froom α k h) ⊛ ‵ (froom (ty_array β (w P)) k p) ⊛ ‵ ftrue) ⊛ raw Back)
      (𝓛.laws.room_fields [] fields k o) $ split ! $ split3 ! $
      as_raw ! α k h $ move ! (1 ∷ []) $ as_raw ! (ty_array β (w P)) k p $ move ! (1 ∷ 0 ∷ []) $ fjoin ! $ frame ! $
      -- back
      assume ! (‵ (Fields P k o)) $ fsplit ! $ as_written ! α k h $ move ! (1 ∷ []) $
      as_written ! (ty_array β (w P)) k p $ move ! (1 ∷ 0 ∷ 2 ∷ []) $ group ! 3 $
      use2 𝓛 (‵ (froom written k o)) (apply∗ 𝓤 Rooms (𝓛.H.room written k o)) $ as_raw ! written k o $ done !

  -- room for places is the places with no item, and the places are room for them
  pub places_of_room : (c : ℕ) → c * s < 2 ^ 63
      → ent 𝓤 (𝓛.H.room (bare (ty_array β c)) k o) (sem 𝓛 (lodged (X P) (block_ptr k o) 0 c []))
  places_of_room zero fit = qed 𝓛 (‵ (froom (bare (ty_array β 0)) k o) ∷ []) ∵
      drop ! $ nothing ! $ flt_i ! (0 * s) (2 ^ 63) fit $ done !
  places_of_room (suc c) fit = row_of_room P.item P.item_laws 𝓛 k o (suc c) (omega arith) fit

  pub room_of_places : (c n : ℕ) (xs : List P.item.Denot) → n ≤ c
      → ent 𝓤 (sem 𝓛 (lodged (X P) (block_ptr k o) n c xs)) (𝓛.H.room (bare (ty_array β c)) k o)
  room_of_places zero n xs le = qed 𝓛 (‵ (lodged (X P) (block_ptr k o) n 0 xs) ∷ []) ∵
      drop ! $ use0 𝓛 (‵ (froom (ty_array β 0) k o)) (𝓛.laws.room_nil β k o) $ as_raw ! (ty_array β 0) k o $ done !
  room_of_places (suc c) n xs le = room_of_row P.item P.item_laws 𝓛 k o (suc c) (omega arith) n xs le
