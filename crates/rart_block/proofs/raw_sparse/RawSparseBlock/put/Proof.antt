-- `put` writes an item to a vacant slot. Assumes `Logic`.
use Rattle.rart_block.proofs.Walk.{◌≡◌, refl, sym, subst, List, [], ◌∷◌, ◌++◌, ℕ, ◌+◌, ◌*◌, ◌<◌, ◌^◌, arith}
use Rattle.rart_block.proofs.Walk.{length, get_or, length-set, Ura, Fn, named, w64, inst_fn, Val, vint, vptr, vunit}
use Rattle.rart_block.proofs.Walk.{full_share, GName, Lft, Share, fbor, flft, fobs, froom, ftrue, SProp, ent, emp}
use Rattle.rart_block.proofs.Walk.{Memory, size, Routine, Calls, Env, Loops, Tables, WpFn, Fun, fact, fact_i, ◌⊑◌}
use Rattle.rart_block.proofs.Walk.{tables, tables_of, WpFn-mono, Logic, Borrowed, Item, ⋆, ‵, raw, ◌⊛◌, at_ret, ◌$◌}
use Rattle.rart_block.proofs.Walk.{◌∵◌, !, qed, by, move, keep, use0, use1, use2, split, join, suffices, done, fsplit}
use Rattle.rart_block.proofs.Walk.{fsplit3, fjoin, fjoin3, feq_i, feq_l, flt_i, flt_l, whole, sub, look_in, addr}
use Rattle.rart_block.proofs.Walk.{assigns_last, bin, blocks, enter, exec, first, fld, init, load, of_opd, returns}
use Rattle.rart_block.proofs.Walk.{size_lit, stop, unit_lit, alloc_all, env, free_all, get, look_at, pass_all, sets}
use Rattle.rart_block.proofs.Walk.{through, part_in, owns, layout, number, param_laws, mem, part_at, usize, no, yes}
use Rattle.rart_block.proofs.Walk.{block_ptr, MutBor, MutRef, plain, closes, nothing, Clauses, Ended, closing, on_entry}
use Rattle.rart_block.proofs.Walk.{Meets, triple_of, entered, Stays, stay_dropped, stay_ref, walk_of, walk_Meets}
use Rattle.rart_block.proofs.Walk.{ends_at, Goes-dropped, Goes-ref, one_below, times_below, Good, word, after, wider}
use Rattle.rart_block.proofs.Walk.{tells}
use Rattle.rart_block.proofs.Parts.{Parts, types, args, X, w, at_places}
use Rattle.rart_block.proofs.Opened.{required}
use Rattle.rart_block.proofs.SlotSteps.{s, others, room_out, item_in}
use Rattle.rart_block.proofs.SparseOpened.{Sparse, Held, sparse_made, sparse_opens}
use Rattle.std.specs.Prelude.{Some, None}
use Rattle.rart_block.specs.SlotMemory.{slots}
use Rattle.rart_block.specs.RawSparseLoans.{with_slot}
use Rattle.rart_block.specs.contracts.raw_sparse.RawSparseBlock.put as F
use Rattle.rart_block.specs.contracts.raw_sparse.RawSparseBlock.put.Key.{name}
use Rattle.rart_block.proofs.raw_sparse.RawSparseBlock.put.Statement as stated
use Rattle.rart_block.proofs.raw_sparse.RawSparseBlock.put.Code as code

module _ (P : Parts) where
  abbrev function : Fn
  function = inst_fn (args P) code.function

  abbrev ended : Ended
  ended = F.ended P.head P.item (number P.width)

  abbrev clauses : {M : Type 1} {𝓤 : Ura M} (𝓛 : Logic 𝓤) → (Memory → SProp 𝓤) → (Routine → Fun 𝓤) → Clauses 𝓤 ended
  clauses 𝓛 = F.clauses P.head P.item (number P.width) 𝓛

  abbrev stayed : Stays ended.signature.params ended.kept
  stayed = (
    stay_ref (0 ∷ []) tt (plain (λ _. Sparse P)),
    (stay_dropped (plain (λ _. usize)) yes, (stay_dropped (plain (λ _. X P)) no, tt)),
  )

  abbrev Asks : Held P → ℕ → Type 0
  Asks b i = (i < w P) × (get_or b.slots i None ≡ None)

module _ (P : Parts) {M : Type 1} {𝓤 : Ura M} (𝓛 : Logic 𝓤) (at_mem : Memory → SProp 𝓤) (run : Routine → Fun 𝓤)
    (C : Calls 𝓤 𝓛.H) (Λ : Loops 𝓤 𝓛.H) (κ κ₁ κ₂ κ₃ : Lft) (q q₁ q₂ q₃ : Share) (short₁ : κ ⊑ κ₁) (short₂ : κ ⊑ κ₂)
    (rb ro : ℕ) (γ : GName) (b : Held P) (i : ℕ) (x : P.item.Denot) (us vs ws : List Val) where
  abbrev self : MutBor (Held P)
  self = record { ref_ptr = (rb, ro); ghost_name = γ; now = b }

  -- the tokens of the types' lifetimes
  abbrev tokens : Item 𝓤
  tokens = ‵ (flft κ₁ q₁) ⊛ ‵ (flft κ₂ q₂) ⊛ ‵ (flft κ₃ q₃) ⊛ ‵ ftrue

  abbrev bound : (walk_of 𝓛 (ended P) (stayed P) (clauses P 𝓛 at_mem run)).Ghost
  bound = (
    (
      (κ, (κ₁, (κ₂, (κ₃, tt)))),
      (q, (q₁, (q₂, (q₃, tt)))),
      (short₁, (short₂, tt)),
      (self, (i, (x, tt))),
      (us, (vs, (ws, tt))),
    ),
    tt,
  )

  abbrev Post : Val → SProp 𝓤
  Post = (walk_of 𝓛 (ended P) (stayed P) (clauses P 𝓛 at_mem run)).post bound

  abbrev n : ℕ
  n = length b.slots

  abbrev new : Held P
  new = with_slot b i (Some x)

  abbrev Ends : List (Item 𝓤)
  Ends = ‵ (fobs γ ((Sparse P).coded.code new)) ∷ ‵ (fbor κ (Borrowed (mem (Sparse P)) rb ro γ)) ∷ ‵ (flft κ q)
      ∷ tokens ∷ []

  exits : us ≡ vptr rb ro ∷ [] → ent 𝓤 (⋆ 𝓛 Ends) (Post vunit)
  exits passed = qed 𝓛 Ends ∵
      suffices ! _ (ends_at 𝓛 (ended P) (stayed P) (clauses P 𝓛 at_mem run) bound vunit tt
      (new, (tt, (tt, tt))) (tt, (tt, (tt, tt)))) $
      move ! (2 ∷ 3 ∷ []) $ join ! $ move ! (1 ∷ 2 ∷ []) $ feq_i ! (List Val) us (vptr rb ro ∷ []) passed $
      fjoin3 ! $ nothing ! $ nothing ! $ fjoin ! $ nothing ! $ fjoin ! $ move ! (1 ∷ 0 ∷ []) $ fjoin ! $
      -- [self; the tokens]
      feq_i ! (List Val) (vunit ∷ []) (vunit ∷ []) refl $ move ! (1 ∷ 0 ∷ []) $ join ! $ move ! (1 ∷ 0 ∷ []) $
      join ! $ use0 𝓛 (raw (fact 𝓤 (new.slots ≡ new.slots))) (fact_i 𝓤 _ (emp 𝓤) refl) $
      use0 𝓛 (raw (fact 𝓤 ((b.ptr ≡ b.ptr) × (b.head ≡ b.head)))) (fact_i 𝓤 _ (emp 𝓤) (refl, refl)) $
      move ! (2 ∷ []) $ done !

  abbrev Had : Val → List (Item 𝓤)
  Had v = ‵ (fobs γ ((Sparse P).coded.code b)) ∷ ‵ (fbor κ (Borrowed (mem (Sparse P)) rb ro γ)) ∷ ‵ (flft κ q)
      ∷ ‵ ((X P).own_val x (v ∷ [])) ∷ tokens ∷ []

  walk : Asks P b i → i < 2 ^ 64 → us ≡ vptr rb ro ∷ [] → (v : Val) → Good (layout (X P)) v
      → ent 𝓤 (⋆ 𝓛 (Had v)) (WpFn 𝓤 𝓛.H C Λ (function P) (vptr rb ro ∷ vint w64 i ∷ v ∷ []) Post)
  walk asked fi passed v good =
      let here : i < n = subst (λ (m : ℕ). i < m) (sym b.all) asked.0 in
      let same : length new.slots ≡ n = length-set b.slots i (Some x) in
      qed 𝓛 (Had v) ∵ enter ! C Λ (function P) (vptr rb ro ∷ vint w64 i ∷ v ∷ []) _ $
      alloc_all ! (λ l. pass_all ! refl ((tt, tt), ((tt, record { fits = fi }), (good, tt))) $
      let En : Env 𝓤 𝓛.H = env (function P).locals l in
      sparse_opens P ! tt b rb ro (λ k o at. let p : ℕ = o + at_places P in
      fsplit3 ! $ move ! (1 ∷ []) $ fsplit ! $ flt_l ! (λ fit.
      let tiny : s P < 2 ^ 64 = wider (s P) (one_below n (s P) (2 ^ 63) (omega arith) fit) in
      let far : i * s P < 2 ^ 64 = wider (i * s P) (times_below i n (s P) (2 ^ 63) (omega arith) fit) in
      use1 𝓛 (‵ (froom (layout P.item) k (i * s P + p)) ⊛ ‵ (others P k p b.slots i))
      (room_out P 𝓛 k b.slots i p here asked.1) $ split ! $
      -- [the slot; the other slots; the header; the deed; the pointer; the open borrow; two entries; the item; ..]
      sets ! (of_opd ! (load ! (through ! refl (fld ! refl (stop !))) (look_in ! 4 (sub ! 0 refl (whole !))))) refl
      (tt, tt) $ sets ! (of_opd ! (get ! refl)) refl (tt, tt) $
      first ! $ blocks ! $ sets ! (addr ! (through ! refl (fld ! refl (stop !)))) refl (tt, tt) $
      sets ! (bin ! (get ! refl) (size_lit ! (record { fits = tiny })) (record { fits = far })) refl
      (tt, record { fits = far }) $ sets ! (bin ! (get ! refl) (get ! refl) tt) refl (tt, tt) $
      sets ! (of_opd ! (get ! refl)) refl good $
      assigns_last ! (of_opd ! (get ! refl)) (through ! refl (stop !)) (init ! 0 refl good) $
      exec ! C Λ En (after 3 (function P).body) (at_ret En Post) $
      sets ! (of_opd ! (unit_lit !)) refl (tt, tt) $
      move ! (0 ∷ 8 ∷ []) $
      use2 𝓛 (‵ (part_at (X P) full_share x k (i * s P + p)))
      (part_in 𝓛 (X P) refl full_share x k (i * s P + p) v) $
      use2 𝓛 (‵ (slots (X P) (block_ptr k p) new.slots)) (item_in P 𝓛 k b.slots i p here x) $
      flt_i ! (length new.slots * s P) (2 ^ 63) (subst (λ (m : ℕ). m * s P < 2 ^ 63) (sym same) fit) $ fjoin ! $
      -- [the slots; the header; the deed; the pointer; the open borrow; two entries; the tokens]
      move ! (0 ∷ 2 ∷ []) $ fjoin ! $ move ! (1 ∷ 0 ∷ []) $ fjoin ! $
      sparse_made P ! new (block_ptr k o) at $ move ! (1 ∷ 0 ∷ []) $
      closes ! tt (Sparse P) new (word (block_ptr k o) ∷ []) rb ro $
      returns ! (look_at ! 0 refl) $ free_all ! refl $ by ! (exits passed))))

  entry : Asks P b i
      → ent 𝓤 (on_entry 𝓛 (ended P).signature bound.0.0 bound.0.1 (self, (i, (x, tt))) (us, (vs, (ws, tt))))
      (WpFn 𝓤 𝓛.H C Λ (function P) (us ++ (vs ++ (ws ++ []))) Post)
  entry asked = qed 𝓛 ((‵ (flft κ q) ⊛ tokens)
      ∷ ‵ (owns (MutRef (named 0) κ (Sparse P) ∷ usize ∷ X P ∷ []) (self, (i, (x, tt))) (us, (vs, (ws, tt)))) ∷ []) ∵
      split ! $ move ! (2 ∷ []) $ fsplit ! $ fsplit3 ! $ feq_l ! (λ e. move ! (2 ∷ []) $ fsplit ! $ fsplit ! $
      feq_l ! (λ f. flt_l ! (λ fi. fsplit ! $ tells ! (X P) (param_laws 1 P.item P.item_laws) x ws (λ v g good.
      keep ! (2 ∷ 3 ∷ 4 ∷ 0 ∷ 5 ∷ []) $
      by ! (subst (λ (ts : List Val × List Val × List Val). ent 𝓤 (⋆ 𝓛 (Had v))
      (WpFn 𝓤 𝓛.H C Λ (function P) (ts.0 ++ (ts.1 ++ (ts.2 ++ []))) Post)) (λ j. (sym e j, sym f j, sym g j))
      (walk asked fi e v good))))))

meets : (P : Parts) {M : Type 1} {𝓤 : Ura M} (𝓛 : Logic 𝓤) (at_mem : Memory → SProp 𝓤) (run : Routine → Fun 𝓤)
    (𝓣 : Tables 𝓤 𝓛.H)
    → Meets 𝓛 (ended P).signature (WpFn 𝓤 𝓛.H 𝓣.C 𝓣.Λ (function P)) (closing 𝓛 (ended P) (clauses P 𝓛 at_mem run))
meets P {𝓤 = 𝓤} 𝓛 at_mem run 𝓣 =
    walk_Meets 𝓛 (ended P) (stayed P) (
      Goes-ref 𝓛 4 0 tt (plain (λ _. Sparse P)),
      (
        Goes-dropped 𝓛 4 (plain (λ _. usize)) yes (λ κs x f. refl),
        (Goes-dropped 𝓛 4 (plain (λ _. X P)) no (λ κs x f. refl), tt),
      ),
    )
    (clauses P 𝓛 at_mem run) (WpFn 𝓤 𝓛.H 𝓣.C 𝓣.Λ (function P)) (WpFn-mono 𝓤 𝓛.H 𝓛.laws 𝓣 (function P))
    (λ z. let κs = z.0.0 in let qs = z.0.1 in
    required 𝓤 (fact 𝓤 (κs.1.0 ⊑ P.head.lives) ∷ fact 𝓤 (κs.1.1.0 ⊑ P.item.lives)
    ∷ fact 𝓤 (κs.1.1.1.0 ⊑ (number P.width).lives) ∷ fact 𝓤 (size (layout (Sparse P)) < 2 ^ 63) ∷ [])
    (Asks P z.0.3.0.now z.0.3.1.0) (on_entry 𝓛 (ended P).signature κs qs z.0.3 z.0.4)
    (entry P 𝓛 at_mem run 𝓣.C 𝓣.Λ κs.0 κs.1.0 κs.1.1.0 κs.1.1.1.0 qs.0 qs.1.0 qs.1.1.0 qs.1.1.1.0 z.0.2.0 z.0.2.1.0
    z.0.3.0.ref_ptr.0 z.0.3.0.ref_ptr.1 z.0.3.0.ghost_name z.0.3.0.now z.0.3.1.0 z.0.3.1.1.0 z.0.4.0 z.0.4.1.0
    z.0.4.1.1.0))

pub put_spec : {M : Type 1} → stated.statement M
unfolding tables_of
put_spec 𝓤 𝓛 𝓜 𝓡 wired Hr Tr n LH LT fits =
    let P : Parts = record { head = Hr; head_laws = LH; item = Tr; item_laws = LT; width = n; fits = fits } in
    let 𝓣 : Tables 𝓤 𝓛.H = tables_of 𝓤 𝓛.H 𝓜 (tables 𝓤 𝓛.H 𝓜 𝓡 𝓡.env) in
    let spec = triple_of 𝓛 (ended P).signature (F.spec Hr Tr (number n) 𝓛 𝓜.mem 𝓡.returns) in
    entered 𝓤 𝓛.H spec 𝓣.C 𝓣.Λ (name (args P)) (function P) (code.unfolded 𝓤 𝓛.H 𝓜 𝓡 wired (types P))
    (meets P 𝓛 𝓜.mem 𝓡.returns 𝓣)
