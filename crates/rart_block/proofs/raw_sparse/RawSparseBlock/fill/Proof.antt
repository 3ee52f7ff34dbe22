-- `fill` writes the header. Assumes `Logic`.
use Rattle.rart_block.proofs.Walk.{◌≡◌, refl, sym, subst, List, [], ◌∷◌, ◌++◌, ℕ, ◌+◌, ◌*◌, ◌<◌, ◌^◌, length, Ura, Fn}
use Rattle.rart_block.proofs.Walk.{ty_array, flt_i}
use Rattle.rart_block.proofs.Walk.{inst_fn, Val, full_share, Fml, Lft, Share, flft, froom, ftrue, fwand, SProp, ent}
use Rattle.rart_block.proofs.Walk.{Memory, size, Routine, Calls, Env, Loops, Tables, WpFn, Fun, fact, ◌⊑◌, tables}
use Rattle.rart_block.proofs.Walk.{tables_of, WpFn-mono, Logic, Item, ⋆, ‵, ◌⊛◌, at_ret, ◌$◌, ◌∵◌, !, qed, by, move}
use Rattle.rart_block.proofs.Walk.{keep, use1, use2, split, join, suffices, done, fsplit, fjoin, whole, sub, agg, addr}
use Rattle.rart_block.proofs.Walk.{and_then, assigns_last, blocks, enter, exec, first, fld, init, no_more, of_opd}
use Rattle.rart_block.proofs.Walk.{returns, stop, alloc_all, env, free_all, get, get_in, look_at, pass_all, sets}
use Rattle.rart_block.proofs.Walk.{through, part_in, owns, layout, number, param_laws, part_at, no, Ptr, block_ptr}
use Rattle.rart_block.proofs.Walk.{plain, nothing, Clauses, Ended, closing, on_entry, Meets, triple_of, entered, Stays}
use Rattle.rart_block.proofs.Walk.{stay_dropped, walk_of, walk_Meets, ends_at, says, Goes-dropped, Goes-blank}
use Rattle.rart_block.proofs.Walk.{FitsInBlock, as_written, Good, word, after, tells}
use Rattle.rart_block.proofs.Parts.{Parts, types, args, H, X, w, at_head, at_places}
use Rattle.rart_block.proofs.Opened.{required}
use Rattle.rart_block.proofs.SlotSteps.{s, vacant_of_room}
use Rattle.rart_block.proofs.SparseOpened.{Sparse, Held, sparse_made}
use Rattle.rart_block.proofs.RoomSteps.{room_val, Room, τ, Fields, room_typed, room_had, comes_apart}
use Rattle.std.specs.contracts.alloc.Global as heap
use Rattle.std.specs.Prelude.{Option, None, replicate}
use lib.ListN.{length-replicate}
use Rattle.rart_block.specs.Memory.{global_token}
use Rattle.rart_block.specs.SlotMemory.{slots}
use Rattle.rart_block.specs.contracts.raw_sparse.RawSparseBlock.fill as F
use Rattle.rart_block.specs.contracts.raw_sparse.RawSparseBlock.fill.Key.{name}
use Rattle.rart_block.proofs.raw_sparse.RawSparseBlock.fill.Statement as stated
use Rattle.rart_block.proofs.raw_sparse.RawSparseBlock.fill.Code as code

module _ (P : Parts) where
  abbrev function : Fn
  function = inst_fn (args P) code.function

  abbrev ended : Ended
  ended = F.ended P.head P.item (number P.width)

  abbrev clauses : {M : Type 1} {𝓤 : Ura M} (𝓛 : Logic 𝓤) → (Memory → SProp 𝓤) → (Routine → Fun 𝓤) → Clauses 𝓤 ended
  clauses 𝓛 = F.clauses P.head P.item (number P.width) 𝓛

  abbrev stayed : Stays ended.signature.params ended.kept
  stayed = (stay_dropped (plain (λ _. Room P)) no, (stay_dropped (plain (λ _. H P)) no, tt))

  abbrev Asks : Type 0
  Asks = FitsInBlock (X P) (w P)

module _ (P : Parts) {M : Type 1} {𝓤 : Ura M} (𝓛 : Logic 𝓤) (at_mem : Memory → SProp 𝓤) (run : Routine → Fun 𝓤)
    (C : Calls 𝓤 𝓛.H) (Λ : Loops 𝓤 𝓛.H) (κ₁ κ₂ κ₃ : Lft) (q₁ q₂ q₃ : Share)
    (d : (Room P).Denot) (h : P.head.Denot) (us vs : List Val) (asked : Asks P) where
  -- the tokens of the types' lifetimes
  abbrev tokens : Item 𝓤
  tokens = ‵ (flft κ₁ q₁) ⊛ ‵ (flft κ₂ q₂) ⊛ ‵ (flft κ₃ q₃) ⊛ ‵ ftrue

  abbrev bound : (walk_of 𝓛 (ended P) (stayed P) (clauses P 𝓛 at_mem run)).Ghost
  bound = (((κ₁, (κ₂, (κ₃, tt))), (q₁, (q₂, (q₃, tt))), tt, (d, (h, tt)), (us, (vs, tt))), tt)

  abbrev Post : Val → SProp 𝓤
  Post = (walk_of 𝓛 (ended P) (stayed P) (clauses P 𝓛 at_mem run)).post bound

  all : length (replicate {A = Option P.item.Denot} (w P) None) ≡ w P
  all = length-replicate {A = Option P.item.Denot} (w P) None

  abbrev new : Ptr → Held P
  new p = record { ptr = p; head = h; slots = replicate (w P) None; all = all; narrow = asked.1 }

  abbrev Made : ℕ → ℕ → Fml
  Made k o = (Sparse P).own_val (new (block_ptr k o)) (word (block_ptr k o) ∷ [])

  exits : (k o : ℕ) → ent 𝓤 (⋆ 𝓛 (‵ (Made k o) ∷ tokens ∷ [])) (Post (word (block_ptr k o)))
  exits k o = qed 𝓛 (‵ (Made k o) ∷ tokens ∷ []) ∵
      suffices ! _ (ends_at 𝓛 (ended P) (stayed P) (clauses P 𝓛 at_mem run) bound (word (block_ptr k o))
      (new (block_ptr k o)) (_, (tt, tt)) (tt, (tt, tt))) $
      says ! (refl, refl) $ nothing ! $ nothing ! $ fjoin ! $ nothing ! $ fjoin ! $ join ! $
      move ! (1 ∷ 0 ∷ []) $ done !

  abbrev Had : ℕ → ℕ → Val → List (Item 𝓤)
  Had k o v = ‵ (froom (τ P) k o) ∷ ‵ (global_token (τ P) (block_ptr k o)) ∷ ‵ ((H P).own_val h (v ∷ [])) ∷ tokens ∷ []

  walk : (k o : ℕ) (hv : Val) → Good (layout heap.the_row) hv → (v : Val) → Good (layout (H P)) v
      → ent 𝓤 (⋆ 𝓛 (Had k o v)) (WpFn 𝓤 𝓛.H C Λ (function P) (room_val hv k o ∷ v ∷ []) Post)
  walk k o hv handle v good =
      qed 𝓛 (Had k o v) ∵ enter ! C Λ (function P) (room_val hv k o ∷ v ∷ []) _ $
      alloc_all ! (λ l. pass_all ! refl (room_typed P hv k o handle, (good, tt)) $
      let En : Env 𝓤 𝓛.H = env (function P).locals l in
      let at : ℕ = o + at_head P in
      let places : ℕ = o + at_places P in
      use1 𝓛 (‵ (Fields P k o) ⊛ ‵ (fwand (Fields P k o) (froom (τ P) k o))) (comes_apart P 𝓛 k o) $ split ! $
      fsplit ! $ as_written ! (layout P.head) k at $
      -- [room for the header; room for the places; the way back; the token; the header; the tokens]
      sets ! (of_opd ! (get_in ! (fld ! refl (fld ! refl (stop !))) (sub ! 0 refl (sub ! 0 refl (whole !))))) refl
      (tt, tt) $ first ! $ blocks ! $ sets ! (addr ! (through ! refl (fld ! refl (stop !)))) refl (tt, tt) $
      sets ! (of_opd ! (get ! refl)) refl good $
      assigns_last ! (of_opd ! (get ! refl)) (through ! refl (stop !)) (init ! 0 refl good) $
      exec ! C Λ En (after 2 (function P).body) (at_ret En Post) $
      sets ! (agg ! (and_then ! (get ! refl) (no_more !))) refl (tt, (tt, tt)) $
      move ! (0 ∷ 4 ∷ []) $
      use2 𝓛 (‵ (part_at (H P) full_share h k at)) (part_in 𝓛 (H P) refl full_share h k at v) $
      move ! (1 ∷ []) $
      as_written ! (ty_array (layout P.item) (w P)) k places $
      use1 𝓛 (‵ (slots (X P) (block_ptr k places) (replicate (w P) None))) (vacant_of_room P 𝓛 k (w P) places) $
      flt_i ! (length (replicate {A = Option P.item.Denot} (w P) None) * s P) (2 ^ 63)
      (subst (λ (m : ℕ). m * s P < 2 ^ 63) (sym all) asked.0) $ fjoin ! $
      -- [the slots; the header; the way back; the token; the tokens]
      move ! (3 ∷ 2 ∷ []) $ fjoin ! $ move ! (1 ∷ 0 ∷ []) $ fjoin ! $ move ! (1 ∷ 0 ∷ []) $ fjoin ! $
      sparse_made P ! (new (block_ptr k o)) (block_ptr k o) refl $
      returns ! (look_at ! 0 refl) $ free_all ! refl $ by ! (exits k o))

  entry : ent 𝓤 (on_entry 𝓛 (ended P).signature bound.0.0 bound.0.1 (d, (h, tt)) (us, (vs, tt)))
      (WpFn 𝓤 𝓛.H C Λ (function P) (us ++ (vs ++ [])) Post)
  entry = qed 𝓛 (tokens ∷ ‵ (owns (Room P ∷ H P ∷ []) (d, (h, tt)) (us, (vs, tt))) ∷ []) ∵
      move ! (1 ∷ []) $ fsplit ! $ room_had P ! d us (λ k o hv e handle. move ! (3 ∷ []) $ fsplit ! $
      tells ! (H P) (param_laws 0 P.head P.head_laws) h vs (λ v f good. keep ! (2 ∷ 3 ∷ 0 ∷ 5 ∷ []) $
      by ! (subst (λ (ws : List Val × List Val). ent 𝓤 (⋆ 𝓛 (Had k o v))
      (WpFn 𝓤 𝓛.H C Λ (function P) (ws.0 ++ (ws.1 ++ [])) Post)) (λ j. (sym e j, sym f j))
      (walk k o hv handle v good))))

meets : (P : Parts) {M : Type 1} {𝓤 : Ura M} (𝓛 : Logic 𝓤) (at_mem : Memory → SProp 𝓤) (run : Routine → Fun 𝓤)
    (𝓣 : Tables 𝓤 𝓛.H)
    → Meets 𝓛 (ended P).signature (WpFn 𝓤 𝓛.H 𝓣.C 𝓣.Λ (function P)) (closing 𝓛 (ended P) (clauses P 𝓛 at_mem run))
meets P {𝓤 = 𝓤} 𝓛 at_mem run 𝓣 =
    walk_Meets 𝓛 (ended P) (stayed P) (
      Goes-blank 𝓛 3 (plain (λ _. Room P)) no (λ κs x f. tt),
      (Goes-dropped 𝓛 3 (plain (λ _. H P)) no (λ κs x f. refl), tt),
    )
    (clauses P 𝓛 at_mem run) (WpFn 𝓤 𝓛.H 𝓣.C 𝓣.Λ (function P)) (WpFn-mono 𝓤 𝓛.H 𝓛.laws 𝓣 (function P))
    (λ z. let κs = z.0.0 in let qs = z.0.1 in
    required 𝓤 (fact 𝓤 (κs.0 ⊑ P.head.lives) ∷ fact 𝓤 (κs.1.0 ⊑ P.item.lives)
    ∷ fact 𝓤 (κs.1.1.0 ⊑ (number P.width).lives) ∷ fact 𝓤 (size (layout (Room P)) < 2 ^ 63)
    ∷ fact 𝓤 (size (layout (Sparse P)) < 2 ^ 63) ∷ [])
    (Asks P) (on_entry 𝓛 (ended P).signature κs qs z.0.3 z.0.4)
    (λ asked. entry P 𝓛 at_mem run 𝓣.C 𝓣.Λ κs.0 κs.1.0 κs.1.1.0 qs.0 qs.1.0 qs.1.1.0
    z.0.3.0 z.0.3.1.0 z.0.4.0 z.0.4.1.0 asked))

pub fill_spec : {M : Type 1} → stated.statement M
unfolding tables_of
fill_spec 𝓤 𝓛 𝓜 𝓡 wired Hr Tr n LH LT fits =
    let P : Parts = record { head = Hr; head_laws = LH; item = Tr; item_laws = LT; width = n; fits = fits } in
    let 𝓣 : Tables 𝓤 𝓛.H = tables_of 𝓤 𝓛.H 𝓜 (tables 𝓤 𝓛.H 𝓜 𝓡 𝓡.env) in
    let spec = triple_of 𝓛 (ended P).signature (F.spec Hr Tr (number n) 𝓛 𝓜.mem 𝓡.returns) in
    entered 𝓤 𝓛.H spec 𝓣.C 𝓣.Λ (name (args P)) (function P) (code.unfolded 𝓤 𝓛.H 𝓜 𝓡 wired (types P))
    (meets P 𝓛 𝓜.mem 𝓡.returns 𝓣)
