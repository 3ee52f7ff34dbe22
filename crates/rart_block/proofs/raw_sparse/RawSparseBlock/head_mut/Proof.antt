-- `head_mut` lends the header, and the block follows it. Assumes `Logic`.
use Rattle.rart_block.proofs.Walk.{◌≡◌, refl, sym, subst, List, [], ◌∷◌, ◌++◌, ℕ, ◌+◌, Ura, Fn, named, inst_fn, Val}
use Rattle.rart_block.proofs.Walk.{vptr, full_share, Fml, GName, Lft, Share, fbor, flft, fobs, fsep, ftrue, SProp, ent}
use Rattle.rart_block.proofs.Walk.{sep, via, fst∗, Memory, Routine, Calls, Env, Loops, Tables, WpFn, Fun, ◌⊑◌, tables}
use Rattle.rart_block.proofs.Walk.{tables_of, WpFn-mono, Logic, sem, Borrowed, Item, ⋆, ‵, ◌⊛◌, some, later, at_ret}
use Rattle.rart_block.proofs.Walk.{◌$◌, ◌∵◌, !, qed, by, move, keep, use1, split, split3, join, group, pick, await}
use Rattle.rart_block.proofs.Walk.{suffices, frame, done, fsplit, fsplit3, fjoin, feq_l, whole, sub, look_in, addr}
use Rattle.rart_block.proofs.Walk.{blocks, enter, exec, first, fld, load, of_opd, returns, stop, alloc_all, env}
use Rattle.rart_block.proofs.Walk.{free_all, get, look_at, pass_all, sets, sets_last, through, owns, number, cell_at}
use Rattle.rart_block.proofs.Walk.{mem, part_at, no, follows, lends_Part, block_ptr, MutBor, MutRef, mut_ref_to, plain}
use Rattle.rart_block.proofs.Walk.{nothing, Clauses, Ended, closing, on_entry, Meets, triple_of, entered, Stays}
use Rattle.rart_block.proofs.Walk.{stay_dropped, walk_of, walk_Meets, ends_at, says, Goes-spent_ref, word, after}
use Rattle.rart_block.proofs.Parts.{Parts, types, args, H, X, w, at_head, at_places}
use Rattle.rart_block.proofs.SparseOpened.{Sparse, Held, sparse_made, sparse_opens, sparse_lies}
use Rattle.rart_block.specs.Memory.{global_token, deed}
use Rattle.rart_block.specs.SlotMemory.{fit, slots}
use Rattle.rart_block.specs.RawSparseLoans.{with_head}
use Rattle.rart_block.specs.contracts.raw_sparse.RawSparseBlock.head_mut as F
use Rattle.rart_block.specs.contracts.raw_sparse.RawSparseBlock.head_mut.Key.{name}
use Rattle.rart_block.proofs.raw_sparse.RawSparseBlock.head_mut.Statement as stated
use Rattle.rart_block.proofs.raw_sparse.RawSparseBlock.head_mut.Code as code

module _ (P : Parts) where
  abbrev function : Fn
  function = inst_fn (args P) code.function

  abbrev ended : Ended
  ended = F.ended P.head P.item (number P.width)

  abbrev clauses : {M : Type 1} {𝓤 : Ura M} (𝓛 : Logic 𝓤) → (Memory → SProp 𝓤) → (Routine → Fun 𝓤) → Clauses 𝓤 ended
  clauses 𝓛 = F.clauses P.head P.item (number P.width) 𝓛

  abbrev stayed : Stays ended.signature.params ended.kept
  stayed = (stay_dropped (mut_ref_to (0 ∷ []) tt (plain (λ _. Sparse P))) no, tt)

module _ (P : Parts) {M : Type 1} {𝓤 : Ura M} (𝓛 : Logic 𝓤) (at_mem : Memory → SProp 𝓤) (run : Routine → Fun 𝓤)
    (C : Calls 𝓤 𝓛.H) (Λ : Loops 𝓤 𝓛.H) (κ κ₁ κ₂ κ₃ : Lft) (q q₁ q₂ q₃ : Share) (short₁ : κ ⊑ κ₁) (short₂ : κ ⊑ κ₂)
    (rb ro : ℕ) (γ : GName) (b : Held P) (us : List Val) where
  abbrev self : MutBor (Held P)
  self = record { ref_ptr = (rb, ro); ghost_name = γ; now = b }

  -- the tokens of the types' lifetimes
  abbrev tokens : Item 𝓤
  tokens = ‵ (flft κ₁ q₁) ⊛ ‵ (flft κ₂ q₂) ⊛ ‵ (flft κ₃ q₃) ⊛ ‵ ftrue

  abbrev bound : (walk_of 𝓛 (ended P) (stayed P) (clauses P 𝓛 at_mem run)).Ghost
  bound = (((κ, (κ₁, (κ₂, (κ₃, tt)))), (q, (q₁, (q₂, (q₃, tt)))), (short₁, (short₂, tt)), (self, tt), (us, tt)), tt)

  abbrev Post : Val → SProp 𝓤
  Post = (walk_of 𝓛 (ended P) (stayed P) (clauses P 𝓛 at_mem run)).post bound

  -- the block but for its header
  abbrev Rest : ℕ → ℕ → Fml
  Rest k o = fsep (fsep (fsep (fit (X P) b.slots) (slots (X P) (block_ptr k (o + at_places P)) b.slots))
      (deed (H P) (X P) (w P) global_token (block_ptr k o)))
      (cell_at full_share (Sparse P).mir (word (block_ptr k o) ∷ []) rb ro)

  back : (k o : ℕ) → b.ptr ≡ block_ptr k o → (h : P.head.Denot)
      → ent 𝓤 (sep 𝓤 (sem 𝓛 ((mem (H P)).own_at h k (o + at_head P))) (sem 𝓛 (Rest k o)))
      (sem 𝓛 ((mem (Sparse P)).own_at (with_head b h) rb ro))
  back k o at h = qed 𝓛 (‵ (part_at (H P) full_share h k (o + at_head P)) ∷ ‵ (Rest k o) ∷ []) ∵
      move ! (1 ∷ []) $ fsplit ! $ move ! (2 ∷ 0 ∷ []) $ fjoin ! $ sparse_made P ! (with_head b h) (block_ptr k o) at $
      move ! (1 ∷ 0 ∷ []) $ sparse_lies P ! (with_head b h) (word (block_ptr k o) ∷ []) rb ro $ done !

  abbrev lent : ℕ → ℕ → GName → MutBor P.head.Denot
  lent k o δ = record { ref_ptr = (k, o); ghost_name = δ; now = b.head }

  -- the header's loan, the token of its lifetime, and that the block ends with the header as its borrower leaves it
  abbrev Lent : ℕ → ℕ → GName → Item 𝓤
  Lent k o δ = ‵ ((MutRef (named 0) κ (H P)).own_val (lent k o δ) (vptr k o ∷ [])) ⊛ ‵ (flft κ q)
      ⊛ ‵ (follows (Sparse P) (H P) γ δ (with_head b))

  exits : (k o : ℕ) (δ : GName) → ent 𝓤 (⋆ 𝓛 (Lent k o δ ∷ tokens ∷ [])) (Post (vptr k o))
  exits k o δ = qed 𝓛 (Lent k o δ ∷ tokens ∷ []) ∵
      suffices ! _
      (ends_at 𝓛 (ended P) (stayed P) (clauses P 𝓛 at_mem run) bound (vptr k o) (lent k o δ) (tt, tt) (tt, tt)) $
      split3 ! $ nothing ! $ nothing ! $ fjoin ! $ join ! $ move ! (1 ∷ 3 ∷ []) $ join ! $ join ! $ frame ! $
      says ! refl $ done !

  abbrev Had : List (Item 𝓤)
  Had = ‵ (fobs γ ((Sparse P).coded.code b)) ∷ ‵ (fbor κ (Borrowed (mem (Sparse P)) rb ro γ))
      ∷ ‵ (flft κ q) ∷ tokens ∷ []

  walk : ent 𝓤 (⋆ 𝓛 Had) (WpFn 𝓤 𝓛.H C Λ (function P) (vptr rb ro ∷ []) Post)
  walk = let code = (Sparse P).coded.code b in
      qed 𝓛 Had ∵ enter ! C Λ (function P) (vptr rb ro ∷ []) _ $ alloc_all ! (λ l. pass_all ! refl ((tt, tt), tt) $
      let En : Env 𝓤 𝓛.H = env (function P).locals l in
      sparse_opens P ! tt b rb ro (λ k o at. fsplit ! $
      -- [the header; the rest of the block; the pointer; the open borrow; what is seen; what it ends as; the tokens]
      sets ! (of_opd ! (load ! (through ! refl (fld ! refl (stop !))) (look_in ! 2 (sub ! 0 refl (whole !))))) refl
      (tt, tt) $ sets ! (of_opd ! (get ! refl)) refl (tt, tt) $
      first ! $ blocks ! $ sets_last ! (addr ! (through ! refl (fld ! refl (stop !)))) refl (tt, tt) $
      exec ! C Λ En (after 3 (function P).body) (at_ret En Post) $ sets ! (of_opd ! (get ! refl)) refl (tt, tt) $
      move ! (1 ∷ 2 ∷ []) $ fjoin ! $ move ! (2 ∷ 3 ∷ 4 ∷ 1 ∷ 0 ∷ []) $ group ! 5 $
      use1 𝓛 (later (some (λ (δ : GName). Lent k (o + at_head P) δ)))
      (lends_Part 𝓛 (Sparse P) (H P) (with_head b) (named 0) κ q rb ro k (o + at_head P) γ (sem 𝓛 (Rest k o))
      (back k o at) code code b.head) $
      await ! tt $ pick ! (λ δ. returns ! (look_at ! 0 refl) $ free_all ! refl $ by ! (exits k (o + at_head P) δ))))

  entry : ent 𝓤 (on_entry 𝓛 (ended P).signature bound.0.0 bound.0.1 (self, tt) (us, tt))
      (WpFn 𝓤 𝓛.H C Λ (function P) (us ++ []) Post)
  entry = qed 𝓛 ((‵ (flft κ q) ⊛ tokens)
      ∷ ‵ (owns (MutRef (named 0) κ (Sparse P) ∷ []) (self, tt) (us, tt)) ∷ []) ∵
      split ! $ move ! (2 ∷ []) $ fsplit ! $ fsplit3 ! $ feq_l ! (λ e. keep ! (0 ∷ 1 ∷ 3 ∷ 4 ∷ []) $
      by ! (subst (λ (ws : List Val). ent 𝓤 (⋆ 𝓛 Had) (WpFn 𝓤 𝓛.H C Λ (function P) (ws ++ []) Post)) (sym e) walk))

meets : (P : Parts) {M : Type 1} {𝓤 : Ura M} (𝓛 : Logic 𝓤) (at_mem : Memory → SProp 𝓤) (run : Routine → Fun 𝓤)
    (𝓣 : Tables 𝓤 𝓛.H)
    → Meets 𝓛 (ended P).signature (WpFn 𝓤 𝓛.H 𝓣.C 𝓣.Λ (function P)) (closing 𝓛 (ended P) (clauses P 𝓛 at_mem run))
meets P {𝓤 = 𝓤} 𝓛 at_mem run 𝓣 =
    walk_Meets 𝓛 (ended P) (stayed P)
    (Goes-spent_ref 𝓛 4 (0 ∷ []) tt (plain (λ _. Sparse P)), tt)
    (clauses P 𝓛 at_mem run) (WpFn 𝓤 𝓛.H 𝓣.C 𝓣.Λ (function P)) (WpFn-mono 𝓤 𝓛.H 𝓛.laws 𝓣 (function P))
    (λ z. let κs = z.0.0 in let qs = z.0.1 in let On = on_entry 𝓛 (ended P).signature κs qs z.0.3 z.0.4 in
    via 𝓤 On (fst∗ 𝓤 On ((clauses P 𝓛 at_mem run κs z.0.3).requires z.1))
    (entry P 𝓛 at_mem run 𝓣.C 𝓣.Λ κs.0 κs.1.0 κs.1.1.0 κs.1.1.1.0 qs.0 qs.1.0 qs.1.1.0 qs.1.1.1.0 z.0.2.0 z.0.2.1.0
    z.0.3.0.ref_ptr.0 z.0.3.0.ref_ptr.1 z.0.3.0.ghost_name z.0.3.0.now z.0.4.0))

pub head_mut_spec : {M : Type 1} → stated.statement M
unfolding tables_of
head_mut_spec 𝓤 𝓛 𝓜 𝓡 wired Hr Tr n LH LT fits =
    let P : Parts = record { head = Hr; head_laws = LH; item = Tr; item_laws = LT; width = n; fits = fits } in
    let 𝓣 : Tables 𝓤 𝓛.H = tables_of 𝓤 𝓛.H 𝓜 (tables 𝓤 𝓛.H 𝓜 𝓡 𝓡.env) in
    let spec = triple_of 𝓛 (ended P).signature (F.spec Hr Tr (number n) 𝓛 𝓜.mem 𝓡.returns) in
    entered 𝓤 𝓛.H spec 𝓣.C 𝓣.Λ (name (args P)) (function P) (code.unfolded 𝓤 𝓛.H 𝓜 𝓡 wired (types P))
    (meets P 𝓛 𝓜.mem 𝓡.returns 𝓣)
