-- `slots` keeps the pointer to the slots, and what is seen of them. Assumes `Logic`.
use Rattle.rart_block.proofs.Walk.{refl, sym, subst, List, [], ◌∷◌, ◌++◌, ℕ, ◌+◌, Ura, Fn, named, inst_fn, Val, vptr}
use Rattle.rart_block.proofs.Walk.{Fml, Lft, Share, flft, ftrue, SProp, ent, via, fst∗, Memory, Routine, Calls, Env}
use Rattle.rart_block.proofs.Walk.{Loops, Tables, WpFn, Fun, ◌⊑◌, tables, tables_of, WpFn-mono, Logic, Item, ⋆, ‵}
use Rattle.rart_block.proofs.Walk.{◌⊛◌, at_ret, ◌$◌, ◌∵◌, !, qed, by, move, keep, drop, use1, split, join, suffices}
use Rattle.rart_block.proofs.Walk.{frame, done, fsplit, fjoin, feq_l, agg, addr, and_then, blocks, enter, exec, first}
use Rattle.rart_block.proofs.Walk.{fld, hop, look, no_more, of_opd, returns, stop, alloc_all, env, free_all, get}
use Rattle.rart_block.proofs.Walk.{look_at, pass_all, sets, sets_last, through, owns, number, hidden_shr}
use Rattle.rart_block.proofs.Walk.{RefOf, yes, block_ptr, Bor, ShrRef, plain, nothing, Clauses, Ended, closing}
use Rattle.rart_block.proofs.Walk.{on_entry}
use Rattle.rart_block.proofs.Walk.{Meets, triple_of, entered, Stays, stay_dropped, walk_of, walk_Meets, ends_at, says}
use Rattle.rart_block.proofs.Walk.{Goes-dropped, after}
use denote.Ref.{NamedLft}
use denote.Signature.{named_lft}
use Rattle.core.proofs.sync.Guard.{guard_of}
use Rattle.rart_block.proofs.Parts.{Parts, types, args, X, at_places}
use Rattle.rart_block.proofs.Opened.{shows_pointer, hides_pointer}
use Rattle.rart_block.proofs.SparseOpened.{Sparse, Held, sparse_seen}
use Rattle.rart_block.proofs.View.{View, view_made}
use Rattle.rart_block.specs.contracts.raw_sparse.RawSparseBlock.slots as F
use Rattle.rart_block.specs.contracts.raw_sparse.RawSparseBlock.slots.Key.{name}
use Rattle.rart_block.proofs.raw_sparse.RawSparseBlock.slots.Statement as stated
use Rattle.rart_block.proofs.raw_sparse.RawSparseBlock.slots.Code as code

module _ (P : Parts) where
  abbrev function : Fn
  function = inst_fn (args P) code.function

  abbrev ended : Ended
  ended = F.ended P.head P.item (number P.width)

  abbrev clauses : {M : Type 1} {𝓤 : Ura M} (𝓛 : Logic 𝓤) → (Memory → SProp 𝓤) → (Routine → Fun 𝓤) → Clauses 𝓤 ended
  clauses 𝓛 = F.clauses P.head P.item (number P.width) 𝓛

  abbrev stayed : Stays ended.signature.params ended.kept
  stayed = (stay_dropped (RefOf (0 ∷ []) tt (plain (λ _. Sparse P)) (λ _. tt)) yes, tt)

module _ (P : Parts) {M : Type 1} {𝓤 : Ura M} (𝓛 : Logic 𝓤) (at_mem : Memory → SProp 𝓤) (run : Routine → Fun 𝓤)
    (C : Calls 𝓤 𝓛.H) (Λ : Loops 𝓤 𝓛.H) (κ κ₁ κ₂ κ₃ : Lft) (q q₁ q₂ q₃ : Share) (short₁ : κ ⊑ κ₁) (short₂ : κ ⊑ κ₂)
    (rb ro : ℕ) (b : Held P) (us : List Val) where
  abbrev self : Bor (Held P)
  self = record { ref_ptr = (rb, ro); now = b }

  -- the tokens of the types' lifetimes
  abbrev tokens : Item 𝓤
  tokens = ‵ (flft κ₁ q₁) ⊛ ‵ (flft κ₂ q₂) ⊛ ‵ (flft κ₃ q₃) ⊛ ‵ ftrue

  abbrev bound : (walk_of 𝓛 (ended P) (stayed P) (clauses P 𝓛 at_mem run)).Ghost
  bound = (((κ, (κ₁, (κ₂, (κ₃, tt)))), (q, (q₁, (q₂, (q₃, tt)))), (short₁, (short₂, tt)), (self, tt), (us, tt)), tt)

  abbrev Post : Val → SProp 𝓤
  Post = (walk_of 𝓛 (ended P) (stayed P) (clauses P 𝓛 at_mem run)).post bound

  abbrev lft : NamedLft
  lft = named_lft 4 0 tt (κ, (κ₁, (κ₂, (κ₃, tt))))

  abbrev shown : ℕ → ℕ → (View lft (X P)).Denot
  shown k o = record { ptr = block_ptr k o; borrow = record {}; items = b.slots }

  abbrev Shown : ℕ → ℕ → Fml
  Shown k o = (View lft (X P)).own_val (shown k o) (guard_of (block_ptr k o) ∷ [])

  exits : (k o : ℕ)
      → ent 𝓤 (⋆ 𝓛 (‵ (Shown k o) ∷ ‵ (flft κ q) ∷ tokens ∷ [])) (Post (guard_of (block_ptr k o)))
  exits k o = qed 𝓛 (‵ (Shown k o) ∷ ‵ (flft κ q) ∷ tokens ∷ []) ∵
      suffices ! _ (ends_at 𝓛 (ended P) (stayed P) (clauses P 𝓛 at_mem run) bound (guard_of (block_ptr k o)) (shown k o)
      (tt, tt) (tt, tt)) $
      says ! refl $ move ! (1 ∷ 2 ∷ []) $ join ! $ frame ! $ nothing ! $ nothing ! $ fjoin ! $ done !

  abbrev Had : List (Item 𝓤)
  Had = ‵ (hidden_shr (Sparse P) κ b rb ro) ∷ ‵ (flft κ q) ∷ tokens ∷ []

  walk : ent 𝓤 (⋆ 𝓛 Had) (WpFn 𝓤 𝓛.H C Λ (function P) (vptr rb ro ∷ []) Post)
  walk = qed 𝓛 Had ∵ enter ! C Λ (function P) (vptr rb ro ∷ []) _ $ alloc_all ! (λ l. pass_all ! refl ((tt, tt), tt) $
      let En : Env 𝓤 𝓛.H = env (function P).locals l in
      sparse_seen P ! b rb ro (λ k o _. let p : ℕ = o + at_places P in
      fsplit ! $ drop ! $
      -- [what is seen of the slots; the pointer; the token; the tokens]
      move ! (1 ∷ 2 ∷ []) $ shows_pointer ! tt k o rb (ro + 0) (λ _. first ! $ blocks ! $
      sets_last ! (addr ! (through ! refl (fld ! refl (hop ! (look ! 0 refl) (fld ! refl (stop !)))))) refl (tt, tt) $
      exec ! C Λ En (after 1 (function P).body) (at_ret En Post) $ hides_pointer ! tt k o rb (ro + 0) $
      sets ! (of_opd ! (get ! refl)) refl (tt, tt) $ sets ! (agg ! (no_more !)) refl (tt, tt) $
      sets ! (agg ! (and_then ! (get ! refl) (and_then ! (get ! refl) (no_more !)))) refl (tt, (tt, (tt, tt))) $
      -- [the token; what is seen of the slots; the tokens]
      move ! (1 ∷ []) $ use1 𝓛 (‵ (Shown k p)) (view_made lft (X P) 𝓛 (block_ptr k p) b.slots) $
      returns ! (look_at ! 0 refl) $ free_all ! refl $ by ! (exits k p))))

  entry : ent 𝓤 (on_entry 𝓛 (ended P).signature bound.0.0 bound.0.1 (self, tt) (us, tt))
      (WpFn 𝓤 𝓛.H C Λ (function P) (us ++ []) Post)
  entry = qed 𝓛 ((‵ (flft κ q) ⊛ tokens) ∷ ‵ (owns (ShrRef (named 0) κ (Sparse P) ∷ []) (self, tt) (us, tt)) ∷ []) ∵
      split ! $ move ! (2 ∷ []) $ fsplit ! $ fsplit ! $ feq_l ! (λ e. keep ! (0 ∷ 2 ∷ 3 ∷ []) $
      by ! (subst (λ vs. ent 𝓤 (⋆ 𝓛 Had) (WpFn 𝓤 𝓛.H C Λ (function P) (vs ++ []) Post)) (sym e) walk))

meets : (P : Parts) {M : Type 1} {𝓤 : Ura M} (𝓛 : Logic 𝓤) (at_mem : Memory → SProp 𝓤) (run : Routine → Fun 𝓤)
    (𝓣 : Tables 𝓤 𝓛.H)
    → Meets 𝓛 (ended P).signature (WpFn 𝓤 𝓛.H 𝓣.C 𝓣.Λ (function P)) (closing 𝓛 (ended P) (clauses P 𝓛 at_mem run))
meets P {𝓤 = 𝓤} 𝓛 at_mem run 𝓣 =
    walk_Meets 𝓛 (ended P) (stayed P)
    (Goes-dropped 𝓛 4 (RefOf (0 ∷ []) tt (plain (λ _. Sparse P)) (λ _. tt)) yes (λ κs x f. refl), tt)
    (clauses P 𝓛 at_mem run) (WpFn 𝓤 𝓛.H 𝓣.C 𝓣.Λ (function P)) (WpFn-mono 𝓤 𝓛.H 𝓛.laws 𝓣 (function P))
    (λ z. let κs = z.0.0 in let qs = z.0.1 in let On = on_entry 𝓛 (ended P).signature κs qs z.0.3 z.0.4 in
    via 𝓤 On (fst∗ 𝓤 On ((clauses P 𝓛 at_mem run κs z.0.3).requires z.1))
    (entry P 𝓛 at_mem run 𝓣.C 𝓣.Λ κs.0 κs.1.0 κs.1.1.0 κs.1.1.1.0 qs.0 qs.1.0 qs.1.1.0 qs.1.1.1.0 z.0.2.0 z.0.2.1.0
    z.0.3.0.ref_ptr.0 z.0.3.0.ref_ptr.1 z.0.3.0.now z.0.4.0))

pub slots_spec : {M : Type 1} → stated.statement M
unfolding tables_of
slots_spec 𝓤 𝓛 𝓜 𝓡 wired Hr Tr n LH LT fits =
    let P : Parts = record { head = Hr; head_laws = LH; item = Tr; item_laws = LT; width = n; fits = fits } in
    let 𝓣 : Tables 𝓤 𝓛.H = tables_of 𝓤 𝓛.H 𝓜 (tables 𝓤 𝓛.H 𝓜 𝓡 𝓡.env) in
    let spec = triple_of 𝓛 (ended P).signature (F.spec Hr Tr (number n) 𝓛 𝓜.mem 𝓡.returns) in
    entered 𝓤 𝓛.H spec 𝓣.C 𝓣.Λ (name (args P)) (function P) (code.unfolded 𝓤 𝓛.H 𝓜 𝓡 wired (types P))
    (meets P 𝓛 𝓜.mem 𝓡.returns 𝓣)
