-- `take` reads the item of a slot, which is room from then on. Assumes `Logic`.
use Rattle.rart_block.proofs.Walk.{◌≡◌, refl, sym, subst, List, [], ◌∷◌, ◌++◌, ℕ, ◌+◌, ◌*◌, ◌<◌, ◌^◌, arith}
use Rattle.rart_block.proofs.Walk.{length, get_or, length-set, Ura, Fn, named, w64, inst_fn, Val, vint, vptr}
use Rattle.rart_block.proofs.Walk.{full_share, GName, Lft, Share, fat, fbor, flft, fobs, froom, ftrue, SProp, ent}
use Rattle.rart_block.proofs.Walk.{emp, Memory, size, Routine, Calls, Env, Loops, Tables, WpFn, Fun, fact, fact_i, ◌⊑◌}
use Rattle.rart_block.proofs.Walk.{tables, tables_of, WpFn-mono, Logic, Borrowed, Item, ⋆, ‵, raw, ◌⊛◌, some, at_ret}
use Rattle.rart_block.proofs.Walk.{◌$◌, ◌∵◌, !, qed, by, move, keep, use0, use1, use2, split, join, pick, suffices}
use Rattle.rart_block.proofs.Walk.{done, fsplit, fsplit3, fjoin, fjoin3, feq_i, feq_l, flt_i, flt_l, whole, sub}
use Rattle.rart_block.proofs.Walk.{look_in}
use Rattle.rart_block.proofs.Walk.{addr, bin, blocks, enter, exec, first, fld, load, look, of_opd, returns, size_lit}
use Rattle.rart_block.proofs.Walk.{stop, well_typed, alloc_all, env, free_all, get, look_at, pass_all, sets, sets_last}
use Rattle.rart_block.proofs.Walk.{through, part_out, owns, layout, number, mem, part_at, usize, yes, block_ptr, MutBor}
use Rattle.rart_block.proofs.Walk.{MutRef, plain, closes, nothing, Clauses, Ended, closing, on_entry, Meets, triple_of}
use Rattle.rart_block.proofs.Walk.{entered, Stays, stay_dropped, stay_ref, walk_of, walk_Meets, ends_at, Goes-dropped}
use Rattle.rart_block.proofs.Walk.{Goes-ref, one_below, times_below, word, after, wider}
use Rattle.rart_block.proofs.Parts.{Parts, types, args, X, at_places}
use Rattle.rart_block.proofs.Opened.{required}
use Rattle.rart_block.proofs.SlotSteps.{s, others, item_of, within, item_out, room_in}
use Rattle.rart_block.proofs.SparseOpened.{Sparse, Held, sparse_made, sparse_opens}
use Rattle.std.specs.Prelude.{Some, None, IsSome}
use Rattle.rart_block.specs.SlotMemory.{slots}
use Rattle.rart_block.specs.RawSparseLoans.{with_slot}
use Rattle.rart_block.specs.contracts.raw_sparse.RawSparseBlock.take as F
use Rattle.rart_block.specs.contracts.raw_sparse.RawSparseBlock.take.Key.{name}
use Rattle.rart_block.proofs.raw_sparse.RawSparseBlock.take.Statement as stated
use Rattle.rart_block.proofs.raw_sparse.RawSparseBlock.take.Code as code

module _ (P : Parts) where
  abbrev function : Fn
  function = inst_fn (args P) code.function

  abbrev ended : Ended
  ended = F.ended P.head P.item (number P.width)

  abbrev clauses : {M : Type 1} {𝓤 : Ura M} (𝓛 : Logic 𝓤) → (Memory → SProp 𝓤) → (Routine → Fun 𝓤) → Clauses 𝓤 ended
  clauses 𝓛 = F.clauses P.head P.item (number P.width) 𝓛

  abbrev stayed : Stays ended.signature.params ended.kept
  stayed = (stay_ref (0 ∷ []) tt (plain (λ _. Sparse P)), (stay_dropped (plain (λ _. usize)) yes, tt))

  abbrev Asks : Held P → ℕ → Type 0
  Asks b i = IsSome (get_or b.slots i None)

module _ (P : Parts) {M : Type 1} {𝓤 : Ura M} (𝓛 : Logic 𝓤) (at_mem : Memory → SProp 𝓤) (run : Routine → Fun 𝓤)
    (C : Calls 𝓤 𝓛.H) (Λ : Loops 𝓤 𝓛.H) (κ κ₁ κ₂ κ₃ : Lft) (q q₁ q₂ q₃ : Share) (short₁ : κ ⊑ κ₁) (short₂ : κ ⊑ κ₂)
    (rb ro : ℕ) (γ : GName) (b : Held P) (i : ℕ) (us vs : List Val) where
  abbrev self : MutBor (Held P)
  self = record { ref_ptr = (rb, ro); ghost_name = γ; now = b }

  -- the tokens of the types' lifetimes
  abbrev tokens : Item 𝓤
  tokens = ‵ (flft κ₁ q₁) ⊛ ‵ (flft κ₂ q₂) ⊛ ‵ (flft κ₃ q₃) ⊛ ‵ ftrue

  abbrev bound : (walk_of 𝓛 (ended P) (stayed P) (clauses P 𝓛 at_mem run)).Ghost
  bound = (
    (
      (κ, (κ₁, (κ₂, (κ₃, tt)))),
      (q, (q₁, (q₂, (q₃, tt)))),
      (short₁, (short₂, tt)),
      (self, (i, tt)),
      (us, (vs, tt)),
    ),
    tt,
  )

  abbrev Post : Val → SProp 𝓤
  Post = (walk_of 𝓛 (ended P) (stayed P) (clauses P 𝓛 at_mem run)).post bound

  abbrev n : ℕ
  n = length b.slots

  abbrev new : Held P
  new = with_slot b i None

  abbrev Ends : P.item.Denot → Val → List (Item 𝓤)
  Ends x v = ‵ (fobs γ ((Sparse P).coded.code new)) ∷ ‵ (fbor κ (Borrowed (mem (Sparse P)) rb ro γ)) ∷ ‵ (flft κ q)
      ∷ ‵ ((X P).own_val x (v ∷ [])) ∷ tokens ∷ []

  exits : us ≡ vptr rb ro ∷ [] → (x : P.item.Denot) (v : Val) → get_or b.slots i None ≡ Some x
      → ent 𝓤 (⋆ 𝓛 (Ends x v)) (Post v)
  exits passed x v full = qed 𝓛 (Ends x v) ∵
      suffices ! _ (ends_at 𝓛 (ended P) (stayed P) (clauses P 𝓛 at_mem run) bound v x
      (new, (tt, tt)) (tt, (tt, tt))) $
      move ! (2 ∷ 4 ∷ []) $ join ! $ move ! (1 ∷ 2 ∷ []) $ feq_i ! (List Val) us (vptr rb ro ∷ []) passed $
      fjoin3 ! $ nothing ! $ nothing ! $ fjoin ! $ move ! (1 ∷ 0 ∷ []) $ fjoin ! $
      -- [self; the tokens; the item]
      move ! (0 ∷ 2 ∷ []) $ join ! $ move ! (1 ∷ 0 ∷ []) $ join ! $
      use0 𝓛 (raw (fact 𝓤 (new.slots ≡ new.slots))) (fact_i 𝓤 _ (emp 𝓤) refl) $
      use0 𝓛 (raw (fact 𝓤 (get_or b.slots i None ≡ Some x))) (fact_i 𝓤 _ (emp 𝓤) full) $
      use0 𝓛 (raw (fact 𝓤 ((b.ptr ≡ b.ptr) × (b.head ≡ b.head)))) (fact_i 𝓤 _ (emp 𝓤) (refl, refl)) $
      move ! (3 ∷ []) $ done !

  abbrev Had : List (Item 𝓤)
  Had = ‵ (fobs γ ((Sparse P).coded.code b)) ∷ ‵ (fbor κ (Borrowed (mem (Sparse P)) rb ro γ)) ∷ ‵ (flft κ q)
      ∷ tokens ∷ []

  walk : Asks P b i → i < 2 ^ 64 → us ≡ vptr rb ro ∷ []
      → ent 𝓤 (⋆ 𝓛 Had) (WpFn 𝓤 𝓛.H C Λ (function P) (vptr rb ro ∷ vint w64 i ∷ []) Post)
  walk asked fi passed =
      let full = item_of (get_or b.slots i None) asked in
      let x : P.item.Denot = full.0 in
      let here : i < n = within b.slots i x full.1 in
      let same : length new.slots ≡ n = length-set b.slots i None in
      qed 𝓛 Had ∵ enter ! C Λ (function P) (vptr rb ro ∷ vint w64 i ∷ []) _ $
      alloc_all ! (λ l. pass_all ! refl ((tt, tt), ((tt, record { fits = fi }), tt)) $
      let En : Env 𝓤 𝓛.H = env (function P).locals l in
      sparse_opens P ! tt b rb ro (λ k o at. let p : ℕ = o + at_places P in
      fsplit3 ! $ move ! (1 ∷ []) $ fsplit ! $ flt_l ! (λ fit.
      let tiny : s P < 2 ^ 64 = wider (s P) (one_below n (s P) (2 ^ 63) (omega arith) fit) in
      let far : i * s P < 2 ^ 64 = wider (i * s P) (times_below i n (s P) (2 ^ 63) (omega arith) fit) in
      use1 𝓛 (‵ (part_at (X P) full_share x k (i * s P + p)) ⊛ ‵ (others P k p b.slots i))
      (item_out P 𝓛 k b.slots i p here x full.1) $ split ! $
      use1 𝓛 (some (λ (v : Val). ‵ (fat full_share (layout P.item) k (i * s P + p) v) ⊛ ‵ (P.item.own_val x (v ∷ []))))
      (part_out 𝓛 (X P) refl full_share x k (i * s P + p)) $ pick ! (λ v. split ! $ well_typed ! (λ good.
      -- [the slot; the item; the other slots; the header; the deed; the pointer; the open borrow; two entries; ..]
      sets ! (of_opd ! (load ! (through ! refl (fld ! refl (stop !))) (look_in ! 5 (sub ! 0 refl (whole !))))) refl
      (tt, tt) $ sets ! (of_opd ! (get ! refl)) refl (tt, tt) $
      first ! $ blocks ! $ sets ! (addr ! (through ! refl (fld ! refl (stop !)))) refl (tt, tt) $
      sets ! (bin ! (get ! refl) (size_lit ! (record { fits = tiny })) (record { fits = far })) refl
      (tt, record { fits = far }) $ sets ! (bin ! (get ! refl) (get ! refl) tt) refl (tt, tt) $
      sets_last ! (of_opd ! (load ! (through ! refl (stop !)) (look ! 0 refl))) refl good $
      exec ! C Λ En (after 3 (function P).body) (at_ret En Post) $ sets ! (of_opd ! (get ! refl)) refl good $
      use1 𝓛 (‵ (froom (layout P.item) k (i * s P + p))) (𝓛.laws.at_room (layout P.item) k (i * s P + p) v) $
      move ! (0 ∷ 2 ∷ []) $
      use2 𝓛 (‵ (slots (X P) (block_ptr k p) new.slots)) (room_in P 𝓛 k b.slots i p here) $
      flt_i ! (length new.slots * s P) (2 ^ 63) (subst (λ (m : ℕ). m * s P < 2 ^ 63) (sym same) fit) $ fjoin ! $
      -- [the slots; the item; the header; the deed; the pointer; the open borrow; two entries; the tokens]
      move ! (0 ∷ 3 ∷ []) $ fjoin ! $ move ! (2 ∷ 0 ∷ []) $ fjoin ! $
      sparse_made P ! new (block_ptr k o) at $ move ! (2 ∷ 0 ∷ 3 ∷ 4 ∷ 5 ∷ []) $
      closes ! tt (Sparse P) new (word (block_ptr k o) ∷ []) rb ro $
      returns ! (look_at ! 0 refl) $ free_all ! refl $ by ! (exits passed x v full.1))))))

  entry : Asks P b i → ent 𝓤 (on_entry 𝓛 (ended P).signature bound.0.0 bound.0.1 (self, (i, tt)) (us, (vs, tt)))
      (WpFn 𝓤 𝓛.H C Λ (function P) (us ++ (vs ++ [])) Post)
  entry asked = qed 𝓛 ((‵ (flft κ q) ⊛ tokens)
      ∷ ‵ (owns (MutRef (named 0) κ (Sparse P) ∷ usize ∷ []) (self, (i, tt)) (us, (vs, tt))) ∷ []) ∵
      split ! $ move ! (2 ∷ []) $ fsplit ! $ fsplit3 ! $ feq_l ! (λ e. move ! (2 ∷ []) $ fsplit ! $ fsplit ! $
      feq_l ! (λ f. flt_l ! (λ fi. keep ! (1 ∷ 2 ∷ 3 ∷ 4 ∷ []) $
      by ! (subst (λ (ws : List Val × List Val). ent 𝓤 (⋆ 𝓛 Had)
      (WpFn 𝓤 𝓛.H C Λ (function P) (ws.0 ++ (ws.1 ++ [])) Post)) (λ j. (sym e j, sym f j)) (walk asked fi e)))))

meets : (P : Parts) {M : Type 1} {𝓤 : Ura M} (𝓛 : Logic 𝓤) (at_mem : Memory → SProp 𝓤) (run : Routine → Fun 𝓤)
    (𝓣 : Tables 𝓤 𝓛.H)
    → Meets 𝓛 (ended P).signature (WpFn 𝓤 𝓛.H 𝓣.C 𝓣.Λ (function P)) (closing 𝓛 (ended P) (clauses P 𝓛 at_mem run))
meets P {𝓤 = 𝓤} 𝓛 at_mem run 𝓣 =
    walk_Meets 𝓛 (ended P) (stayed P) (
      Goes-ref 𝓛 4 0 tt (plain (λ _. Sparse P)),
      (Goes-dropped 𝓛 4 (plain (λ _. usize)) yes (λ κs x f. refl), tt),
    )
    (clauses P 𝓛 at_mem run) (WpFn 𝓤 𝓛.H 𝓣.C 𝓣.Λ (function P)) (WpFn-mono 𝓤 𝓛.H 𝓛.laws 𝓣 (function P))
    (λ z. let κs = z.0.0 in let qs = z.0.1 in
    required 𝓤 (fact 𝓤 (κs.1.0 ⊑ P.head.lives) ∷ fact 𝓤 (κs.1.1.0 ⊑ P.item.lives)
    ∷ fact 𝓤 (κs.1.1.1.0 ⊑ (number P.width).lives) ∷ fact 𝓤 (size (layout (Sparse P)) < 2 ^ 63) ∷ [])
    (Asks P z.0.3.0.now z.0.3.1.0) (on_entry 𝓛 (ended P).signature κs qs z.0.3 z.0.4)
    (entry P 𝓛 at_mem run 𝓣.C 𝓣.Λ κs.0 κs.1.0 κs.1.1.0 κs.1.1.1.0 qs.0 qs.1.0 qs.1.1.0 qs.1.1.1.0 z.0.2.0 z.0.2.1.0
    z.0.3.0.ref_ptr.0 z.0.3.0.ref_ptr.1 z.0.3.0.ghost_name z.0.3.0.now z.0.3.1.0 z.0.4.0 z.0.4.1.0))

pub take_spec : {M : Type 1} → stated.statement M
unfolding tables_of
take_spec 𝓤 𝓛 𝓜 𝓡 wired Hr Tr n LH LT fits =
    let P : Parts = record { head = Hr; head_laws = LH; item = Tr; item_laws = LT; width = n; fits = fits } in
    let 𝓣 : Tables 𝓤 𝓛.H = tables_of 𝓤 𝓛.H 𝓜 (tables 𝓤 𝓛.H 𝓜 𝓡 𝓡.env) in
    let spec = triple_of 𝓛 (ended P).signature (F.spec Hr Tr (number n) 𝓛 𝓜.mem 𝓡.returns) in
    entered 𝓤 𝓛.H spec 𝓣.C 𝓣.Λ (name (args P)) (function P) (code.unfolded 𝓤 𝓛.H 𝓜 𝓡 wired (types P))
    (meets P 𝓛 𝓜.mem 𝓡.returns 𝓣)
