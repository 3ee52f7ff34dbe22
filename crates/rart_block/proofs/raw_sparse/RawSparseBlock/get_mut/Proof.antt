-- `get_mut` lends the item in a slot, and the block follows it. Assumes `Logic`.
use Rattle.rart_block.proofs.Walk.{◌≡◌, refl, sym, subst, List, [], ◌∷◌, ◌++◌, ℕ, ◌+◌, ◌*◌, ◌<◌, ◌^◌, arith, length}
use Rattle.rart_block.proofs.Walk.{get_or, set, length-set, Ura, Fn, named, w64, inst_fn, Val, vint, vptr, full_share}
use Rattle.rart_block.proofs.Walk.{Fml, GName, Lft, Share, fbor, flft, fobs, fsep, ftrue, SProp, ent, sep, Memory, size}
use Rattle.rart_block.proofs.Walk.{Routine, Calls, Env, Loops, Tables, WpFn, Fun, fact, ◌⊑◌, tables, tables_of}
use Rattle.rart_block.proofs.Walk.{WpFn-mono, Logic, sem, Borrowed, Item, ⋆, ‵, ◌⊛◌, some, later, at_ret, ◌$◌, ◌∵◌, ! }
use Rattle.rart_block.proofs.Walk.{qed, by, move, keep, use1, use2, split, split3, join, group, pick, await, suffices}
use Rattle.rart_block.proofs.Walk.{frame, done, fsplit, fsplit3, fjoin, feq_l, flt_i, flt_l, whole, sub, look_in, addr}
use Rattle.rart_block.proofs.Walk.{bin, blocks, enter, exec, first, fld, load, of_opd, returns, size_lit, stop}
use Rattle.rart_block.proofs.Walk.{alloc_all, env, free_all, get, look_at, pass_all, sets, sets_last, through, owns}
use Rattle.rart_block.proofs.Walk.{layout, number, cell_at, mem, part_at, usize, no, yes, follows, lends_Part}
use Rattle.rart_block.proofs.Walk.{block_ptr, lies_at, ◌+ₚ◌, MutBor, MutRef, mut_ref_to, plain, nothing, Clauses, Ended}
use Rattle.rart_block.proofs.Walk.{closing, on_entry, Meets, triple_of, entered, Stays, stay_dropped, walk_of}
use Rattle.rart_block.proofs.Walk.{walk_Meets, ends_at, says, Goes-dropped, Goes-spent_ref, one_below, times_below}
use Rattle.rart_block.proofs.Walk.{word, after, wider}
use Rattle.rart_block.proofs.Parts.{Parts, types, args, H, X, w, at_head, at_places}
use Rattle.rart_block.proofs.Opened.{required}
use Rattle.rart_block.proofs.SlotSteps.{s, others, item_of, within, item_out, item_in}
use Rattle.rart_block.proofs.SparseOpened.{Sparse, Held, sparse_made, sparse_opens, sparse_lies}
use Rattle.std.specs.Prelude.{Option, Some, None, IsSome}
use Rattle.rart_block.specs.Memory.{global_token, deed}
use Rattle.rart_block.specs.SlotMemory.{slots}
use Rattle.rart_block.specs.RawSparseLoans.{with_slot}
use Rattle.rart_block.specs.contracts.raw_sparse.RawSparseBlock.get_mut as F
use Rattle.rart_block.specs.contracts.raw_sparse.RawSparseBlock.get_mut.Key.{name}
use Rattle.rart_block.proofs.raw_sparse.RawSparseBlock.get_mut.Statement as stated
use Rattle.rart_block.proofs.raw_sparse.RawSparseBlock.get_mut.Code as code

module _ (P : Parts) where
  abbrev function : Fn
  function = inst_fn (args P) code.function

  abbrev ended : Ended
  ended = F.ended P.head P.item (number P.width)

  abbrev clauses : {M : Type 1} {𝓤 : Ura M} (𝓛 : Logic 𝓤) → (Memory → SProp 𝓤) → (Routine → Fun 𝓤) → Clauses 𝓤 ended
  clauses 𝓛 = F.clauses P.head P.item (number P.width) 𝓛

  abbrev stayed : Stays ended.signature.params ended.kept
  stayed = (
    stay_dropped (mut_ref_to (0 ∷ []) tt (plain (λ _. Sparse P))) no,
    (stay_dropped (plain (λ _. usize)) yes, tt),
  )

  abbrev Asks : Held P → ℕ → Type 0
  Asks b i = IsSome (get_or b.slots i None)

module _ (P : Parts) {M : Type 1} {𝓤 : Ura M} (𝓛 : Logic 𝓤) (at_mem : Memory → SProp 𝓤) (run : Routine → Fun 𝓤)
    (C : Calls 𝓤 𝓛.H) (Λ : Loops 𝓤 𝓛.H) (κ κ₁ κ₂ κ₃ : Lft) (q q₁ q₂ q₃ : Share) (short₁ : κ ⊑ κ₁) (short₂ : κ ⊑ κ₂)
    (rb ro : ℕ) (γ : GName) (b : Held P) (i : ℕ) (us vs : List Val) where
  abbrev self : MutBor (Held P)
  self = record { ref_ptr = (rb, ro); ghost_name = γ; now = b }

  -- the tokens of the types' lifetimes
  abbrev tokens : Item 𝓤
  tokens = ‵ (flft κ₁ q₁) ⊛ ‵ (flft κ₂ q₂) ⊛ ‵ (flft κ₃ q₃) ⊛ ‵ ftrue

  abbrev bound : (walk_of 𝓛 (ended P) (stayed P) (clauses P 𝓛 at_mem run)).Ghost
  bound = (
    (
      (κ, (κ₁, (κ₂, (κ₃, tt)))),
      (q, (q₁, (q₂, (q₃, tt)))),
      (short₁, (short₂, tt)),
      (self, (i, tt)),
      (us, (vs, tt)),
    ),
    tt,
  )

  abbrev Post : Val → SProp 𝓤
  Post = (walk_of 𝓛 (ended P) (stayed P) (clauses P 𝓛 at_mem run)).post bound

  abbrev n : ℕ
  n = length b.slots

  abbrev new : P.item.Denot → Held P
  new x = with_slot b i (Some x)

  -- the block but for slot i
  abbrev Rest : ℕ → ℕ → Fml
  Rest k o = fsep (others P k (o + at_places P) b.slots i)
      (fsep (deed (H P) (X P) (w P) global_token (block_ptr k o))
      (fsep (lies_at (H P) full_share (block_ptr k o +ₚ at_head P) b.head)
      (cell_at full_share (Sparse P).mir (word (block_ptr k o) ∷ []) rb ro)))

  back : (k o : ℕ) → b.ptr ≡ block_ptr k o → i < n → n * s P < 2 ^ 63 → (x : P.item.Denot)
      → ent 𝓤 (sep 𝓤 (sem 𝓛 ((mem (X P)).own_at x k (i * s P + (o + at_places P)))) (sem 𝓛 (Rest k o)))
      (sem 𝓛 ((mem (Sparse P)).own_at (new x) rb ro))
  back k o at here fit x =
      let p : ℕ = o + at_places P in
      let os : List (Option P.item.Denot) = set b.slots i (Some x) in
      let same : length os ≡ n = length-set b.slots i (Some x) in
      qed 𝓛 (‵ (part_at (X P) full_share x k (i * s P + p)) ∷ ‵ (Rest k o) ∷ []) ∵
      move ! (1 ∷ []) $ fsplit ! $ move ! (2 ∷ 0 ∷ []) $
      use2 𝓛 (‵ (slots (X P) (block_ptr k p) os)) (item_in P 𝓛 k b.slots i p here x) $
      flt_i ! (length os * s P) (2 ^ 63) (subst (λ (m : ℕ). m * s P < 2 ^ 63) (sym same) fit) $ fjoin ! $
      -- [the slots; the rest]
      move ! (1 ∷ []) $ fsplit3 ! $ move ! (3 ∷ 0 ∷ []) $ fjoin ! $ move ! (1 ∷ 0 ∷ []) $ fjoin ! $
      sparse_made P ! (new x) (block_ptr k o) at $ move ! (1 ∷ 0 ∷ []) $
      sparse_lies P ! (new x) (word (block_ptr k o) ∷ []) rb ro $ done !

  abbrev lent : ℕ → ℕ → P.item.Denot → GName → MutBor P.item.Denot
  lent k o x δ = record { ref_ptr = (k, o); ghost_name = δ; now = x }

  -- the item's loan, the token of its lifetime, and that the block ends with the item as its borrower leaves it
  abbrev Lent : ℕ → ℕ → P.item.Denot → GName → Item 𝓤
  Lent k o x δ = ‵ ((MutRef (named 0) κ (X P)).own_val (lent k o x δ) (vptr k o ∷ [])) ⊛ ‵ (flft κ q)
      ⊛ ‵ (follows (Sparse P) (X P) γ δ new)

  exits : (k o : ℕ) (x : P.item.Denot) → get_or b.slots i None ≡ Some x → (δ : GName)
      → ent 𝓤 (⋆ 𝓛 (Lent k o x δ ∷ tokens ∷ [])) (Post (vptr k o))
  exits k o x e δ = qed 𝓛 (Lent k o x δ ∷ tokens ∷ []) ∵
      suffices ! _ (ends_at 𝓛 (ended P) (stayed P) (clauses P 𝓛 at_mem run) bound (vptr k o) (lent k o x δ)
      (tt, (tt, tt)) (tt, (tt, tt))) $
      split3 ! $ nothing ! $ nothing ! $ fjoin ! $ nothing ! $ fjoin ! $ join ! $ move ! (1 ∷ 3 ∷ []) $ join ! $
      join ! $ frame ! $ says ! e $ done !

  abbrev Had : List (Item 𝓤)
  Had = ‵ (fobs γ ((Sparse P).coded.code b)) ∷ ‵ (fbor κ (Borrowed (mem (Sparse P)) rb ro γ))
      ∷ ‵ (flft κ q) ∷ tokens ∷ []

  walk : Asks P b i → i < 2 ^ 64
      → ent 𝓤 (⋆ 𝓛 Had) (WpFn 𝓤 𝓛.H C Λ (function P) (vptr rb ro ∷ vint w64 i ∷ []) Post)
  walk asked fi =
      let code = (Sparse P).coded.code b in
      let full = item_of (get_or b.slots i None) asked in
      let x : P.item.Denot = full.0 in
      let here : i < n = within b.slots i x full.1 in
      qed 𝓛 Had ∵ enter ! C Λ (function P) (vptr rb ro ∷ vint w64 i ∷ []) _ $
      alloc_all ! (λ l. pass_all ! refl ((tt, tt), ((tt, record { fits = fi }), tt)) $
      let En : Env 𝓤 𝓛.H = env (function P).locals l in
      sparse_opens P ! tt b rb ro (λ k o at. let p : ℕ = o + at_places P in
      fsplit3 ! $ move ! (1 ∷ []) $ fsplit ! $ flt_l ! (λ fit.
      let tiny : s P < 2 ^ 64 = wider (s P) (one_below n (s P) (2 ^ 63) (omega arith) fit) in
      let far : i * s P < 2 ^ 64 = wider (i * s P) (times_below i n (s P) (2 ^ 63) (omega arith) fit) in
      -- [the slots; the header; the deed; the pointer; the open borrow; two entries; the tokens]
      sets ! (of_opd ! (load ! (through ! refl (fld ! refl (stop !))) (look_in ! 3 (sub ! 0 refl (whole !))))) refl
      (tt, tt) $ sets ! (of_opd ! (get ! refl)) refl (tt, tt) $
      first ! $ blocks ! $ sets ! (addr ! (through ! refl (fld ! refl (stop !)))) refl (tt, tt) $
      sets ! (bin ! (get ! refl) (size_lit ! (record { fits = tiny })) (record { fits = far })) refl
      (tt, record { fits = far }) $ sets ! (bin ! (get ! refl) (get ! refl) tt) refl (tt, tt) $
      sets_last ! (addr ! (through ! refl (stop !))) refl (tt, tt) $
      exec ! C Λ En (after 3 (function P).body) (at_ret En Post) $ sets ! (of_opd ! (get ! refl)) refl (tt, tt) $
      use1 𝓛 (‵ (part_at (X P) full_share x k (i * s P + p)) ⊛ ‵ (others P k p b.slots i))
      (item_out P 𝓛 k b.slots i p here x full.1) $ split ! $
      -- [the item; the other slots; the header; the deed; the pointer; the open borrow; two entries; the tokens]
      move ! (2 ∷ 4 ∷ []) $ fjoin ! $ move ! (3 ∷ 0 ∷ []) $ fjoin ! $ move ! (2 ∷ 0 ∷ []) $ fjoin ! $
      -- [the rest of the block; the item; the open borrow; two entries; the tokens]
      move ! (2 ∷ 3 ∷ 4 ∷ 1 ∷ 0 ∷ []) $ group ! 5 $
      use1 𝓛 (later (some (λ (δ : GName). Lent k (i * s P + p) x δ)))
      (lends_Part 𝓛 (Sparse P) (X P) new (named 0) κ q rb ro k (i * s P + p) γ (sem 𝓛 (Rest k o))
      (back k o at here fit) code code x) $
      await ! tt $ pick ! (λ δ. returns ! (look_at ! 0 refl) $ free_all ! refl $
      by ! (exits k (i * s P + p) x full.1 δ)))))

  entry : Asks P b i → ent 𝓤 (on_entry 𝓛 (ended P).signature bound.0.0 bound.0.1 (self, (i, tt)) (us, (vs, tt)))
      (WpFn 𝓤 𝓛.H C Λ (function P) (us ++ (vs ++ [])) Post)
  entry asked = qed 𝓛 ((‵ (flft κ q) ⊛ tokens)
      ∷ ‵ (owns (MutRef (named 0) κ (Sparse P) ∷ usize ∷ []) (self, (i, tt)) (us, (vs, tt))) ∷ []) ∵
      split ! $ move ! (2 ∷ []) $ fsplit ! $ fsplit3 ! $ feq_l ! (λ e. move ! (2 ∷ []) $ fsplit ! $ fsplit ! $
      feq_l ! (λ f. flt_l ! (λ fi. keep ! (1 ∷ 2 ∷ 3 ∷ 4 ∷ []) $
      by ! (subst (λ (ws : List Val × List Val). ent 𝓤 (⋆ 𝓛 Had)
      (WpFn 𝓤 𝓛.H C Λ (function P) (ws.0 ++ (ws.1 ++ [])) Post)) (λ j. (sym e j, sym f j)) (walk asked fi)))))

meets : (P : Parts) {M : Type 1} {𝓤 : Ura M} (𝓛 : Logic 𝓤) (at_mem : Memory → SProp 𝓤) (run : Routine → Fun 𝓤)
    (𝓣 : Tables 𝓤 𝓛.H)
    → Meets 𝓛 (ended P).signature (WpFn 𝓤 𝓛.H 𝓣.C 𝓣.Λ (function P)) (closing 𝓛 (ended P) (clauses P 𝓛 at_mem run))
meets P {𝓤 = 𝓤} 𝓛 at_mem run 𝓣 =
    walk_Meets 𝓛 (ended P) (stayed P) (
      Goes-spent_ref 𝓛 4 (0 ∷ []) tt (plain (λ _. Sparse P)),
      (Goes-dropped 𝓛 4 (plain (λ _. usize)) yes (λ κs x f. refl), tt),
    )
    (clauses P 𝓛 at_mem run) (WpFn 𝓤 𝓛.H 𝓣.C 𝓣.Λ (function P)) (WpFn-mono 𝓤 𝓛.H 𝓛.laws 𝓣 (function P))
    (λ z. let κs = z.0.0 in let qs = z.0.1 in
    required 𝓤 (fact 𝓤 (κs.1.0 ⊑ P.head.lives) ∷ fact 𝓤 (κs.1.1.0 ⊑ P.item.lives)
    ∷ fact 𝓤 (κs.1.1.1.0 ⊑ (number P.width).lives) ∷ fact 𝓤 (size (layout (Sparse P)) < 2 ^ 63) ∷ [])
    (Asks P z.0.3.0.now z.0.3.1.0) (on_entry 𝓛 (ended P).signature κs qs z.0.3 z.0.4)
    (entry P 𝓛 at_mem run 𝓣.C 𝓣.Λ κs.0 κs.1.0 κs.1.1.0 κs.1.1.1.0 qs.0 qs.1.0 qs.1.1.0 qs.1.1.1.0 z.0.2.0 z.0.2.1.0
    z.0.3.0.ref_ptr.0 z.0.3.0.ref_ptr.1 z.0.3.0.ghost_name z.0.3.0.now z.0.3.1.0 z.0.4.0 z.0.4.1.0))

pub get_mut_spec : {M : Type 1} → stated.statement M
unfolding tables_of
get_mut_spec 𝓤 𝓛 𝓜 𝓡 wired Hr Tr n LH LT fits =
    let P : Parts = record { head = Hr; head_laws = LH; item = Tr; item_laws = LT; width = n; fits = fits } in
    let 𝓣 : Tables 𝓤 𝓛.H = tables_of 𝓤 𝓛.H 𝓜 (tables 𝓤 𝓛.H 𝓜 𝓡 𝓡.env) in
    let spec = triple_of 𝓛 (ended P).signature (F.spec Hr Tr (number n) 𝓛 𝓜.mem 𝓡.returns) in
    entered 𝓤 𝓛.H spec 𝓣.C 𝓣.Λ (name (args P)) (function P) (code.unfolded 𝓤 𝓛.H 𝓜 𝓡 wired (types P))
    (meets P 𝓛 𝓜.mem 𝓡.returns 𝓣)
