-- `vacate` reads the header, and its bytes are room again, as the slots are. Assumes `Logic`.
use Rattle.rart_block.proofs.Walk.{◌≡◌, refl, sym, subst, List, [], ◌∷◌, ◌++◌, ℕ, ◌+◌, ◌<◌, ◌^◌}
use Rattle.rart_block.proofs.Walk.{Ura, Fn, ty_array, inst_fn, Val, vstruct, vcons, vnil, full_share, Fml, Lft}
use Rattle.rart_block.proofs.Walk.{Share, fat, flft, froom, ftrue, SProp, ent, apply∗, Memory, size, Routine, Calls}
use Rattle.rart_block.proofs.Walk.{Env, Loops, Tables, WpFn, Fun, fact, ◌⊑◌, tables, tables_of, WpFn-mono, Logic, sem}
use Rattle.rart_block.proofs.Walk.{Item, ⋆, ‵, ◌⊛◌, some, at_ret, ◌$◌, ◌∵◌, !, qed, by, move, keep, use1, use2, split}
use Rattle.rart_block.proofs.Walk.{join, pick, rewrite, suffices, done, drop, fsplit, fsplit3, fjoin, whole, sub, agg}
use Rattle.rart_block.proofs.Walk.{addr}
use Rattle.rart_block.proofs.Walk.{and_then, blocks, enter, exec, first, fld, load, look, no_more, of_opd, returns}
use Rattle.rart_block.proofs.Walk.{stop, well_typed, alloc_all, env, free_all, get, get_in, look_at, pass_all, sets}
use Rattle.rart_block.proofs.Walk.{sets_last, through, part_out, RattleType, owns, layout, number, no, yes}
use Rattle.rart_block.proofs.Walk.{block_ptr, plain, nothing, Clauses, Ended, closing, on_entry, Meets, triple_of}
use Rattle.rart_block.proofs.Walk.{entered, Stays, stay_dropped, walk_of, walk_Meets, ends_at, says, Goes-dropped}
use Rattle.rart_block.proofs.Walk.{Goes-blank, as_raw, Good, word, after, tells, two_made}
use Rattle.rart_block.proofs.Parts.{Parts, types, args, H, X, w, at_head, at_places}
use Rattle.rart_block.proofs.Opened.{required}
use Rattle.rart_block.proofs.SlotSteps.{room_of_vacant}
use Rattle.rart_block.proofs.SparseOpened.{Sparse, Held, Owned, sparse_had}
use Rattle.rart_block.proofs.RoomSteps.{room_val, Room, τ, Fields, vacant_typed, room_typed, room_made}
use denote.Struct.Struct.{as_fields}
use denote.Struct.Tuple.{Tuple}
use Rattle.std.specs.contracts.alloc.Global as heap
use Rattle.std.proofs.alloc.Global.TheLaws as heap_laws
use Rattle.std.specs.Prelude.{Option, None, replicate}
use Rattle.rart_block.specs.Memory.{global_token}
use Rattle.rart_block.specs.SlotMemory.{sparse_owned}
use Rattle.rart_block.specs.contracts.raw_sparse.RawSparseBlock.vacate as F
use Rattle.rart_block.specs.contracts.raw_sparse.RawSparseBlock.vacate.Key.{name}
use Rattle.rart_block.proofs.raw_sparse.RawSparseBlock.vacate.Statement as stated
use Rattle.rart_block.proofs.raw_sparse.RawSparseBlock.vacate.Code as code

module _ (P : Parts) where
  abbrev function : Fn
  function = inst_fn (args P) code.function

  abbrev ended : Ended
  ended = F.ended P.head P.item (number P.width)

  abbrev clauses : {M : Type 1} {𝓤 : Ura M} (𝓛 : Logic 𝓤) → (Memory → SProp 𝓤) → (Routine → Fun 𝓤) → Clauses 𝓤 ended
  clauses 𝓛 = F.clauses P.head P.item (number P.width) 𝓛

  abbrev stayed : Stays ended.signature.params ended.kept
  stayed = (stay_dropped (plain (λ _. Sparse P)) no, (stay_dropped (plain (λ _. heap.the_row)) yes, tt))

  abbrev Asks : Held P → Type 0
  Asks b = b.slots ≡ replicate (w P) None

  abbrev Both : RattleType
  Both = Tuple (H P ∷ Room P ∷ [])

module _ (P : Parts) {M : Type 1} {𝓤 : Ura M} (𝓛 : Logic 𝓤) (at_mem : Memory → SProp 𝓤) (run : Routine → Fun 𝓤)
    (C : Calls 𝓤 𝓛.H) (Λ : Loops 𝓤 𝓛.H) (κ₁ κ₂ κ₃ : Lft) (q₁ q₂ q₃ : Share)
    (b : Held P) (a : heap.the_row.Denot) (us vs : List Val) (asked : Asks P b) where
  -- the tokens of the types' lifetimes
  abbrev tokens : Item 𝓤
  tokens = ‵ (flft κ₁ q₁) ⊛ ‵ (flft κ₂ q₂) ⊛ ‵ (flft κ₃ q₃) ⊛ ‵ ftrue

  abbrev bound : (walk_of 𝓛 (ended P) (stayed P) (clauses P 𝓛 at_mem run)).Ghost
  bound = (((κ₁, (κ₂, (κ₃, tt))), (q₁, (q₂, (q₃, tt))), tt, (b, (a, tt)), (us, (vs, tt))), tt)

  abbrev Post : Val → SProp 𝓤
  Post = (walk_of 𝓛 (ended P) (stayed P) (clauses P 𝓛 at_mem run)).post bound

  abbrev made : Val → Val → ℕ → ℕ → Val
  made v hv k o = vstruct (vcons v (vcons (room_val hv k o) vnil))

  abbrev result : ℕ → ℕ → (Both P).Denot
  result k o = (b.head, record { vacant = record { ptr = block_ptr k o; alloc = a } })

  abbrev Made : ℕ → ℕ → Val → Val → Fml
  Made k o v hv = (Both P).own_val (result k o) (made v hv k o ∷ [])

  exits : (k o : ℕ) (v hv : Val) → ent 𝓤 (⋆ 𝓛 (‵ (Made k o v hv) ∷ tokens ∷ [])) (Post (made v hv k o))
  exits k o v hv = qed 𝓛 (‵ (Made k o v hv) ∷ tokens ∷ []) ∵
      suffices ! _ (ends_at 𝓛 (ended P) (stayed P) (clauses P 𝓛 at_mem run) bound (made v hv k o) (result k o)
      (tt, (tt, tt)) (tt, (tt, tt))) $
      says ! refl $ nothing ! $ nothing ! $ fjoin ! $ nothing ! $ fjoin ! $ join ! $ move ! (1 ∷ 0 ∷ []) $ done !

  abbrev Had : ℕ → ℕ → Val → List (Item 𝓤)
  Had k o hv = ‵ (Owned P (block_ptr k o) b) ∷ ‵ (heap.the_row.own_val a (hv ∷ [])) ∷ tokens ∷ []

  walk : (k o : ℕ) (hv : Val) → Good (layout heap.the_row) hv
      → ent 𝓤 (⋆ 𝓛 (Had k o hv)) (WpFn 𝓤 𝓛.H C Λ (function P) (word (block_ptr k o) ∷ hv ∷ []) Post)
  walk k o hv handle =
      let at : ℕ = o + at_head P in
      let places : ℕ = o + at_places P in
      let room = room_typed P hv k o handle in
      qed 𝓛 (Had k o hv) ∵
      rewrite ! 0 (λ (z : List (Option P.item.Denot)).
      ‵ (sparse_owned (H P) (X P) (w P) global_token (block_ptr k o) b.head z))
      {x = replicate (w P) None} asked refl $ fsplit3 ! $
      use1 𝓛 (some (λ (v : Val). ‵ (fat full_share (layout P.head) k at v) ⊛ ‵ (P.head.own_val b.head (v ∷ []))))
      (part_out 𝓛 (H P) refl full_share b.head k at) $ pick ! (λ v. split ! $ well_typed ! (λ good.
      -- [the header's cell; the header; the places; the deed; the handle; the tokens]
      enter ! C Λ (function P) (word (block_ptr k o) ∷ hv ∷ []) _ $
      alloc_all ! (λ l. pass_all ! refl ((tt, (tt, tt)), (handle, tt)) $
      let En : Env 𝓤 𝓛.H = env (function P).locals l in
      sets ! (of_opd ! (get_in ! (fld ! refl (stop !)) (sub ! 0 refl (whole !)))) refl (tt, tt) $
      sets ! (of_opd ! (get ! refl)) refl (tt, tt) $
      first ! $ blocks ! $ sets ! (addr ! (through ! refl (fld ! refl (stop !)))) refl (tt, tt) $
      sets_last ! (of_opd ! (load ! (through ! refl (stop !)) (look ! 0 refl))) refl good $
      exec ! C Λ En (after 3 (function P).body) (at_ret En Post) $ sets ! (of_opd ! (get ! refl)) refl good $
      sets ! (of_opd ! (get ! refl)) refl good $
      sets ! (agg ! (and_then ! (get ! refl) (and_then ! (get ! refl) (no_more !)))) refl
      (vacant_typed P hv k o handle) $
      sets ! (agg ! (and_then ! (get ! refl) (no_more !))) refl room $
      sets ! (agg ! (and_then ! (get ! refl) (and_then ! (get ! refl) (no_more !)))) refl
      (as_fields (layout (H P) ∷ layout (Room P) ∷ []) (v ∷ room_val hv k o ∷ []) (good, (room, tt))) $
      -- the cell and the places are room
      use1 𝓛 (‵ (froom (layout P.head) k at)) (𝓛.laws.at_room (layout P.head) k at v) $
      as_raw ! (layout P.head) k at $ move ! (2 ∷ []) $ fsplit ! $ drop ! $
      use1 𝓛 (‵ (froom (ty_array (layout P.item) (w P)) k places)) (room_of_vacant P 𝓛 k (w P) places) $
      as_raw ! (ty_array (layout P.item) (w P)) k places $ move ! (1 ∷ 0 ∷ []) $ fjoin ! $
      -- [room for the fields; the header; the deed; the handle; the tokens]
      move ! (2 ∷ []) $ fsplit ! $ move ! (2 ∷ 1 ∷ []) $
      use2 𝓛 (‵ (froom (τ P) k o)) (apply∗ 𝓤 (sem 𝓛 (Fields P k o)) (𝓛.H.room (τ P) k o)) $
      -- [the room; the token; the header; the handle; the tokens]
      move ! (0 ∷ 1 ∷ 3 ∷ []) $ room_made P ! a k o $ move ! (1 ∷ 0 ∷ []) $
      two_made ! (H P) (Room P) b.head (result k o).1 v (room_val hv k o) $
      returns ! (look_at ! 0 refl) $ free_all ! refl $ by ! (exits k o v hv))))

  entry : ent 𝓤 (on_entry 𝓛 (ended P).signature bound.0.0 bound.0.1 (b, (a, tt)) (us, (vs, tt)))
      (WpFn 𝓤 𝓛.H C Λ (function P) (us ++ (vs ++ [])) Post)
  entry = qed 𝓛 (tokens ∷ ‵ (owns (Sparse P ∷ heap.the_row ∷ []) (b, (a, tt)) (us, (vs, tt))) ∷ []) ∵
      move ! (1 ∷ []) $ fsplit ! $ sparse_had P ! b us (λ k o _ e. move ! (1 ∷ []) $ fsplit ! $
      tells ! heap.the_row heap_laws.the_row_laws a vs (λ hv f handle. keep ! (2 ∷ 0 ∷ 3 ∷ []) $
      by ! (subst (λ (ws : List Val × List Val). ent 𝓤 (⋆ 𝓛 (Had k o hv))
      (WpFn 𝓤 𝓛.H C Λ (function P) (ws.0 ++ (ws.1 ++ [])) Post)) (λ j. (sym e j, sym f j)) (walk k o hv handle))))

meets : (P : Parts) {M : Type 1} {𝓤 : Ura M} (𝓛 : Logic 𝓤) (at_mem : Memory → SProp 𝓤) (run : Routine → Fun 𝓤)
    (𝓣 : Tables 𝓤 𝓛.H)
    → Meets 𝓛 (ended P).signature (WpFn 𝓤 𝓛.H 𝓣.C 𝓣.Λ (function P)) (closing 𝓛 (ended P) (clauses P 𝓛 at_mem run))
meets P {𝓤 = 𝓤} 𝓛 at_mem run 𝓣 =
    walk_Meets 𝓛 (ended P) (stayed P) (
      Goes-blank 𝓛 3 (plain (λ _. Sparse P)) no (λ κs x f. tt),
      (Goes-dropped 𝓛 3 (plain (λ _. heap.the_row)) yes (λ κs x f. refl), tt),
    )
    (clauses P 𝓛 at_mem run) (WpFn 𝓤 𝓛.H 𝓣.C 𝓣.Λ (function P)) (WpFn-mono 𝓤 𝓛.H 𝓛.laws 𝓣 (function P))
    (λ z. let κs = z.0.0 in let qs = z.0.1 in
    required 𝓤 (fact 𝓤 (κs.0 ⊑ P.head.lives) ∷ fact 𝓤 (κs.1.0 ⊑ P.item.lives)
    ∷ fact 𝓤 (κs.1.1.0 ⊑ (number P.width).lives) ∷ fact 𝓤 (size (layout (Sparse P)) < 2 ^ 63)
    ∷ fact 𝓤 (size (layout (Room P)) < 2 ^ 63) ∷ [])
    (Asks P z.0.3.0) (on_entry 𝓛 (ended P).signature κs qs z.0.3 z.0.4)
    (λ asked. entry P 𝓛 at_mem run 𝓣.C 𝓣.Λ κs.0 κs.1.0 κs.1.1.0 qs.0 qs.1.0 qs.1.1.0
    z.0.3.0 z.0.3.1.0 z.0.4.0 z.0.4.1.0 asked))

pub vacate_spec : {M : Type 1} → stated.statement M
unfolding tables_of
vacate_spec 𝓤 𝓛 𝓜 𝓡 wired Hr Tr n LH LT fits =
    let P : Parts = record { head = Hr; head_laws = LH; item = Tr; item_laws = LT; width = n; fits = fits } in
    let 𝓣 : Tables 𝓤 𝓛.H = tables_of 𝓤 𝓛.H 𝓜 (tables 𝓤 𝓛.H 𝓜 𝓡 𝓡.env) in
    let spec = triple_of 𝓛 (ended P).signature (F.spec Hr Tr (number n) 𝓛 𝓜.mem 𝓡.returns) in
    entered 𝓤 𝓛.H spec 𝓣.C 𝓣.Λ (name (args P)) (function P) (code.unfolded 𝓤 𝓛.H 𝓜 𝓡 wired (types P))
    (meets P 𝓛 𝓜.mem 𝓡.returns 𝓣)
