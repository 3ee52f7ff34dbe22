-- `take` hands the places to `lodge`. Assumes `Logic`.
use Rattle.rart_block.proofs.Walk.{◌≡◌, refl, sym, ap, subst, ◌∙◌, Bool, true, false, List, [], ◌∷◌, ◌++◌, ℕ, ◌+◌, ◌<◌}
use Rattle.rart_block.proofs.Walk.{◌≤◌, ◌^◌, length, Ura, Fn, named, w64, inst_fn, Val, vint, vptr, GName, Lft, Share}
use Rattle.rart_block.proofs.Walk.{fbor, flft, fobs, ftrue, SProp, ent, emp, Memory, size, Routine, Calls, Env, Loops}
use Rattle.rart_block.proofs.Walk.{Tables, WpFn, Fun, fact, fact_i, ◌⊑◌, tables, tables_of, FmC, WpFn-mono, fm_of}
use Rattle.rart_block.proofs.Walk.{Logic, Borrowed, Item, ⋆, ‵, raw, ◌⊛◌, some, later, given, at_ret, ◌$◌, ◌∵◌, !, qed}
use Rattle.rart_block.proofs.Walk.{by, move, keep, use0, use1, split, join, pick, learn, await, rewrite, suffices, done}
use Rattle.rart_block.proofs.Walk.{fsplit, fsplit3, fjoin, fjoin3, feq_i, feq_l, flt_l, whole, sub, look_in, addr}
use Rattle.rart_block.proofs.Walk.{and_then, blocks, enter, exec, first, fld, load, no_more, num_lit, of_opd, returns}
use Rattle.rart_block.proofs.Walk.{stop, alloc_all, env, free_all, get, lands_last, look_at, pass_all, sets, through}
use Rattle.rart_block.proofs.Walk.{RattleType, owns, layout, number, param_laws, mem, usize, yes, Ptr, block_ptr}
use Rattle.rart_block.proofs.Walk.{MutBor, MutRef, plain, closes, nothing, only, calls_at_last, Clauses, Ended, closing}
use Rattle.rart_block.proofs.Walk.{on_entry, Meets, triple_of, Triple, entered, Stays, stay_dropped, stay_ref, walk_of}
use Rattle.rart_block.proofs.Walk.{walk_Meets, ends_at, Goes-dropped, Goes-ref, timeless, timeless_laws, lodged, Vec}
use Rattle.rart_block.proofs.Walk.{Lodged, Good, word, after, Row, row_laws, tells, lodge_key, Lodges, at_lodge}
use Rattle.rart_block.proofs.Walk.{Lodged_as, lodge_gives}
use Rattle.rart_block.proofs.Parts.{Parts, types, args, H, X, W, w, Block, Value, at_places}
use Rattle.rart_block.proofs.Opened.{required, block_made, block_opens}
use Rattle.rart_block.proofs.Lodged.{places_go}
use Rattle.rart_block.specs.Memory.{global_token, block_owned, places_in}
use Rattle.std_alloc.proofs.vec.lodge.Met as lodge
use Rattle.rart_block.specs.contracts.raw.RawBlock.take as F
use Rattle.rart_block.specs.contracts.raw.RawBlock.take.Key.{name}
use Rattle.rart_block.proofs.raw.RawBlock.take.Statement as stated
use Rattle.rart_block.proofs.raw.RawBlock.take.Code as code

module _ (P : Parts) where
  abbrev function : Fn
  function = inst_fn (args P) code.function

  abbrev ended : Ended
  ended = F.ended P.head P.item (number P.width)

  abbrev clauses : {M : Type 1} {𝓤 : Ura M} (𝓛 : Logic 𝓤) → (Memory → SProp 𝓤) → (Routine → Fun 𝓤) → Clauses 𝓤 ended
  clauses 𝓛 = F.clauses P.head P.item (number P.width) 𝓛

  abbrev stayed : Stays ended.signature.params ended.kept
  stayed = (stay_ref (0 ∷ []) tt (plain (λ _. Block P)), (stay_dropped (plain (λ _. usize)) yes, tt))

  abbrev Asks : Value P → ℕ → Type 0
  Asks b len = (len ≡ length b.items) × (b.apart ≡ false)

module _ (P : Parts) {M : Type 1} {𝓤 : Ura M} (𝓛 : Logic 𝓤) (at_mem : Memory → SProp 𝓤) (run : Routine → Fun 𝓤)
    (C : Calls 𝓤 𝓛.H) (Λ : Loops 𝓤 𝓛.H) (fm : FmC 𝓤 𝓛.H 𝓛.laws C)
    (callee : Triple 𝓤 (C (lodge_key P.item)) (Lodges P.item 𝓛 at_mem run))
    (κ κ₁ κ₂ κ₃ : Lft) (q q₁ q₂ q₃ : Share) (short₁ : κ ⊑ κ₁) (short₂ : κ ⊑ κ₂)
    (rb ro : ℕ) (γ : GName) (b : Value P) (len : ℕ) (us vs : List Val) where
  abbrev self : MutBor (Value P)
  self = record { ref_ptr = (rb, ro); ghost_name = γ; now = b }

  -- the tokens of the types' lifetimes
  abbrev tokens : Item 𝓤
  tokens = ‵ (flft κ₁ q₁) ⊛ ‵ (flft κ₂ q₂) ⊛ ‵ (flft κ₃ q₃) ⊛ ‵ ftrue

  abbrev bound : (walk_of 𝓛 (ended P) (stayed P) (clauses P 𝓛 at_mem run)).Ghost
  bound = (
    (
      (κ, (κ₁, (κ₂, (κ₃, tt)))),
      (q, (q₁, (q₂, (q₃, tt)))),
      (short₁, (short₂, tt)),
      (self, (len, tt)),
      (us, (vs, tt)),
    ),
    tt,
  )

  abbrev Post : Val → SProp 𝓤
  Post = (walk_of 𝓛 (ended P) (stayed P) (clauses P 𝓛 at_mem run)).post bound

  -- the block, whose places are held apart
  abbrev new : Value P
  new = record { ptr = b.ptr; head = b.head; items = b.items; apart = true; few = b.few; narrow = b.narrow }

  abbrev Vector : RattleType
  Vector = Row (X P)

  -- the vector r lies in the places, and holds the items
  abbrev Seated : Vec P.item.Denot Lodged → Type 0
  Seated r = (r.items ≡ b.items) × (r.len ≡ len) × (r.cap ≡ w P) × (r.ptr ≡ places_in (H P) (X P) (W P) b.ptr)

  abbrev Ends : Vec P.item.Denot Lodged → Val → List (Item 𝓤)
  Ends r v = ‵ (fobs γ ((Block P).coded.code new)) ∷ ‵ (fbor κ (Borrowed (mem (Block P)) rb ro γ)) ∷ ‵ (flft κ q)
      ∷ ‵ (Vector.own_val r (v ∷ [])) ∷ tokens ∷ []

  exits : us ≡ vptr rb ro ∷ [] → (v : Val) (r : Vec P.item.Denot Lodged) → Seated r → ent 𝓤 (⋆ 𝓛 (Ends r v)) (Post v)
  exits passed v r seated = qed 𝓛 (Ends r v) ∵
      suffices ! _ (ends_at 𝓛 (ended P) (stayed P) (clauses P 𝓛 at_mem run) bound v r
      (new, (tt, tt)) (tt, (tt, tt))) $
      move ! (2 ∷ 4 ∷ []) $ join ! $ move ! (1 ∷ 2 ∷ []) $ feq_i ! (List Val) us (vptr rb ro ∷ []) passed $
      fjoin3 ! $ nothing ! $ nothing ! $ fjoin ! $ move ! (1 ∷ 0 ∷ []) $ fjoin ! $
      -- [self; the tokens; the vector]
      move ! (0 ∷ 2 ∷ []) $ join ! $ move ! (1 ∷ 0 ∷ []) $ join ! $
      use0 𝓛 (raw (fact 𝓤 ((r.cap ≡ w P) × (r.ptr ≡ places_in (H P) (X P) (W P) b.ptr))))
      (fact_i 𝓤 _ (emp 𝓤) (seated.2, seated.3)) $
      use0 𝓛 (raw (fact 𝓤 ((r.items ≡ b.items) × (r.len ≡ len)))) (fact_i 𝓤 _ (emp 𝓤) (seated.0, seated.1)) $
      use0 𝓛 (raw (fact 𝓤 (true ≡ true))) (fact_i 𝓤 _ (emp 𝓤) refl) $
      use0 𝓛 (raw (fact 𝓤 ((b.ptr ≡ b.ptr) × (b.head ≡ b.head)))) (fact_i 𝓤 _ (emp 𝓤) (refl, refl)) $
      move ! (4 ∷ []) $ done !

  abbrev Had : List (Item 𝓤)
  Had = ‵ (fobs γ ((Block P).coded.code b)) ∷ ‵ (fbor κ (Borrowed (mem (Block P)) rb ro γ)) ∷ ‵ (flft κ q) ∷ tokens ∷ []

  walk : us ≡ vptr rb ro ∷ [] → Asks P b len → len < 2 ^ 64
      → ent 𝓤 (⋆ 𝓛 Had) (WpFn 𝓤 𝓛.H C Λ (function P) (vptr rb ro ∷ vint w64 len ∷ []) Post)
  walk passed asked fl =
      qed 𝓛 Had ∵ enter ! C Λ (function P) (vptr rb ro ∷ vint w64 len ∷ []) _ $
      alloc_all ! (λ l. pass_all ! refl ((tt, tt), ((tt, record { fits = fl }), tt)) $
      let En : Env 𝓤 𝓛.H = env (function P).locals l in
      block_opens P ! tt b rb ro (λ k o at. let p : ℕ = o + at_places P in
      rewrite ! 0 (λ (y : Bool). ‵ (block_owned (H P) (X P) (w P) global_token (block_ptr k o) b.head b.items y))
      asked.1 refl $ fsplit3 ! $
      -- [the header; the places; the deed; the pointer; the open borrow; what is seen; what it ends as; the tokens]
      sets ! (of_opd ! (load ! (through ! refl (fld ! refl (stop !))) (look_in ! 3 (sub ! 0 refl (whole !))))) refl
      (tt, tt) $ sets ! (of_opd ! (get ! refl)) refl (tt, tt) $
      first ! $ blocks ! $ sets ! (addr ! (through ! refl (fld ! refl (stop !)))) refl (tt, tt) $ move ! (1 ∷ []) $
      rewrite ! 0 (λ (n : ℕ). ‵ (lodged (X P) (block_ptr k p) n (w P) b.items)) (sym asked.0) refl $
      let y : (Lodges P.item 𝓛 at_mem run).Ghost = at_lodge P.item 𝓛 at_mem run k p len (w P) b.items in
      use1 𝓛 (raw ((Lodges P.item 𝓛 at_mem run).pre y)) (places_go P.item 𝓛 at_mem run k p len (w P) b.items asked.0
      (subst (λ (n : ℕ). n ≤ w P) (sym asked.0) b.few) b.narrow) $
      calls_at_last ! fm (Lodges P.item 𝓛 at_mem run) callee y
      (and_then ! (get ! refl) (and_then ! (get ! refl) (and_then ! (num_lit ! P.fits) (no_more !)))) (λ v.
      use1 𝓛 (later (some (λ (r : Vec P.item.Denot Lodged).
      given (Lodged_as P.item 𝓛 at_mem run k p len (w P) b.items r) (‵ (Vector.own_val r (v ∷ []))))))
      (lodge_gives P.item 𝓛 at_mem run k p len (w P) b.items v) $ await ! tt $ pick ! (λ r. learn ! (λ is.
      tells ! Vector (row_laws (X P) (param_laws 1 P.item P.item_laws)) r (v ∷ []) (λ v' e good.
      let one : v ≡ v' = ap only e in
      let typed : Good (layout Vector) v = subst (Good (layout Vector)) (sym one) good in
      rewrite ! 0 (λ (z : Val). ‵ (Vector.own_val r (z ∷ []))) (sym one) refl $ lands_last ! refl typed $
      exec ! C Λ En (after 3 (function P).body) (at_ret En Post) $ sets ! (of_opd ! (get ! refl)) refl typed $
      -- [the vector; the header; the deed; the pointer; the open borrow; what is seen; what it ends as; the tokens]
      move ! (2 ∷ []) $ nothing ! $ fjoin ! $ move ! (2 ∷ 0 ∷ []) $ fjoin ! $
      block_made P ! new (block_ptr k o) at $ move ! (2 ∷ 0 ∷ 3 ∷ 4 ∷ 5 ∷ []) $
      closes ! tt (Block P) new (word (block_ptr k o) ∷ []) rb ro $ returns ! (look_at ! 0 refl) $ free_all ! refl $
      let seat = is.3 ∙ ap (λ (z : Ptr). places_in (H P) (X P) (W P) z) (sym at) in
      by ! (exits passed v r (is.0, is.1, is.2, seat))))))))

  entry : Asks P b len → ent 𝓤 (on_entry 𝓛 (ended P).signature bound.0.0 bound.0.1 (self, (len, tt)) (us, (vs, tt)))
      (WpFn 𝓤 𝓛.H C Λ (function P) (us ++ (vs ++ [])) Post)
  entry asked = qed 𝓛 ((‵ (flft κ q) ⊛ tokens)
      ∷ ‵ (owns (MutRef (named 0) κ (Block P) ∷ usize ∷ []) (self, (len, tt)) (us, (vs, tt))) ∷ []) ∵
      split ! $ move ! (2 ∷ []) $ fsplit ! $ fsplit3 ! $ feq_l ! (λ e. move ! (2 ∷ []) $ fsplit ! $ fsplit ! $
      feq_l ! (λ f. flt_l ! (λ fl. keep ! (1 ∷ 2 ∷ 3 ∷ 4 ∷ []) $
      by ! (subst (λ (ws : List Val × List Val). ent 𝓤 (⋆ 𝓛 Had)
      (WpFn 𝓤 𝓛.H C Λ (function P) (ws.0 ++ (ws.1 ++ [])) Post)) (λ j. (sym e j, sym f j)) (walk e asked fl)))))

meets : (P : Parts) {M : Type 1} {𝓤 : Ura M} (𝓛 : Logic 𝓤) (at_mem : Memory → SProp 𝓤) (run : Routine → Fun 𝓤)
    (𝓣 : Tables 𝓤 𝓛.H) → Triple 𝓤 (𝓣.C (lodge_key P.item)) (Lodges P.item 𝓛 at_mem run)
    → Meets 𝓛 (ended P).signature (WpFn 𝓤 𝓛.H 𝓣.C 𝓣.Λ (function P)) (closing 𝓛 (ended P) (clauses P 𝓛 at_mem run))
meets P {𝓤 = 𝓤} 𝓛 at_mem run 𝓣 callee =
    walk_Meets 𝓛 (ended P) (stayed P)
    (Goes-ref 𝓛 4 0 tt (plain (λ _. Block P)), (Goes-dropped 𝓛 4 (plain (λ _. usize)) yes (λ κs x f. refl), tt))
    (clauses P 𝓛 at_mem run) (WpFn 𝓤 𝓛.H 𝓣.C 𝓣.Λ (function P)) (WpFn-mono 𝓤 𝓛.H 𝓛.laws 𝓣 (function P))
    (λ z. let κs = z.0.0 in let qs = z.0.1 in
    required 𝓤 (fact 𝓤 (κs.1.0 ⊑ P.head.lives) ∷ fact 𝓤 (κs.1.1.0 ⊑ P.item.lives)
    ∷ fact 𝓤 (κs.1.1.1.0 ⊑ (number P.width).lives) ∷ fact 𝓤 (size (layout (Block P)) < 2 ^ 63) ∷ [])
    (Asks P z.0.3.0.now z.0.3.1.0) (on_entry 𝓛 (ended P).signature κs qs z.0.3 z.0.4)
    (λ asked. entry P 𝓛 at_mem run 𝓣.C 𝓣.Λ (fm_of 𝓤 𝓛.H 𝓛.laws 𝓣) callee
    κs.0 κs.1.0 κs.1.1.0 κs.1.1.1.0 qs.0 qs.1.0 qs.1.1.0 qs.1.1.1.0 z.0.2.0 z.0.2.1.0
    z.0.3.0.ref_ptr.0 z.0.3.0.ref_ptr.1 z.0.3.0.ghost_name z.0.3.0.now z.0.3.1.0 z.0.4.0 z.0.4.1.0 asked))

pub take_spec : {M : Type 1} → stated.statement M
unfolding tables_of
take_spec 𝓤 𝓛 𝓜 𝓡 wired Hr Tr n LH LT fits =
    let P : Parts = record { head = Hr; head_laws = LH; item = Tr; item_laws = LT; width = n; fits = fits } in
    let 𝓣 : Tables 𝓤 𝓛.H = tables_of 𝓤 𝓛.H 𝓜 (tables 𝓤 𝓛.H 𝓜 𝓡 𝓡.env) in
    let spec = triple_of 𝓛 (ended P).signature (F.spec Hr Tr (number n) 𝓛 𝓜.mem 𝓡.returns) in
    entered 𝓤 𝓛.H spec 𝓣.C 𝓣.Λ (name (args P)) (function P) (code.unfolded 𝓤 𝓛.H 𝓜 𝓡 wired (types P))
    (meets P 𝓛 𝓜.mem 𝓡.returns 𝓣
    (lodge.met 𝓤 𝓛 𝓜 𝓡 (code.calls-std_alloc::vec::lodge 𝓡.env wired) (timeless Tr) (timeless_laws Tr LT)))
