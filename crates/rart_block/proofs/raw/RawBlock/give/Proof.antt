-- `give` takes the places back from `dislodge`. Assumes `Logic`.
use Rattle.rart_block.proofs.Walk.{◌≡◌, refl, sym, ap, subst, ◌∙◌, Bool, true, false, List, [], ◌∷◌, ◌++◌, ℕ, ◌+◌, ◌<◌}
use Rattle.rart_block.proofs.Walk.{◌≤◌, ◌^◌, length, Ura, Fn, named, w64, inst_fn, Val, vint, vptr, vunit, GName, Lft}
use Rattle.rart_block.proofs.Walk.{Share, fbor, flft, fobs, ftrue, SProp, ent, emp, Memory, size, Routine, Calls, Env}
use Rattle.rart_block.proofs.Walk.{Loops, Tables, WpFn, Fun, fact, fact_i, ◌⊑◌, tables, tables_of, FmC, WpFn-mono}
use Rattle.rart_block.proofs.Walk.{fm_of, Logic, Borrowed, Item, ⋆, ‵, raw, ◌⊛◌, later, given, ◌$◌, ◌∵◌, !, qed, by}
use Rattle.rart_block.proofs.Walk.{move, keep, drop, use0, use1, split, join, learn, await, rewrite, suffices, done}
use Rattle.rart_block.proofs.Walk.{fsplit, fsplit3, fjoin, fjoin3, feq_i, feq_l, and_then, enter, no_more, of_opd}
use Rattle.rart_block.proofs.Walk.{returns, unit_lit, alloc_all, env, free_all, get, lands_as, look_at, pass_all, sets}
use Rattle.rart_block.proofs.Walk.{RattleType, owns, layout, number, param_laws, mem, no, Ptr, block_ptr, MutBor}
use Rattle.rart_block.proofs.Walk.{MutRef, plain, closes, nothing, calls_at, Clauses, Ended, closing, on_entry, Meets}
use Rattle.rart_block.proofs.Walk.{triple_of, Triple, entered, Stays, stay_dropped, stay_ref, walk_of, walk_Meets}
use Rattle.rart_block.proofs.Walk.{ends_at, Goes-ref, Goes-blank, timeless, timeless_laws, lodged, Vec, Lodged, Good}
use Rattle.rart_block.proofs.Walk.{word, Row, row_laws, tells, dislodge_key, Dislodges, at_dislodge, dislodge_goes}
use Rattle.rart_block.proofs.Walk.{dislodge_gives}
use Rattle.rart_block.proofs.Parts.{Parts, types, args, H, X, W, w, Block, Value, at_places}
use Rattle.rart_block.proofs.Opened.{required, block_made, block_opens}
use Rattle.rart_block.specs.Memory.{global_token, block_owned, places_in}
use Rattle.std_alloc.proofs.vec.lodged.Vec+T+Lodged.dislodge.Met as dislodge
use Rattle.rart_block.specs.contracts.raw.RawBlock.give as F
use Rattle.rart_block.specs.contracts.raw.RawBlock.give.Key.{name}
use Rattle.rart_block.proofs.raw.RawBlock.give.Statement as stated
use Rattle.rart_block.proofs.raw.RawBlock.give.Code as code

module _ (P : Parts) where
  abbrev function : Fn
  function = inst_fn (args P) code.function

  abbrev ended : Ended
  ended = F.ended P.head P.item (number P.width)

  abbrev clauses : {M : Type 1} {𝓤 : Ura M} (𝓛 : Logic 𝓤) → (Memory → SProp 𝓤) → (Routine → Fun 𝓤) → Clauses 𝓤 ended
  clauses 𝓛 = F.clauses P.head P.item (number P.width) 𝓛

  abbrev stayed : Stays ended.signature.params ended.kept
  stayed = (stay_ref (0 ∷ []) tt (plain (λ _. Block P)), (stay_dropped (plain (λ _. Row (X P))) no, tt))

  abbrev Asks : Value P → Vec P.item.Denot Lodged → Type 0
  Asks b r = (b.apart ≡ true) × (r.cap ≡ w P) × (r.ptr ≡ places_in (H P) (X P) (W P) b.ptr)

module _ (P : Parts) {M : Type 1} {𝓤 : Ura M} (𝓛 : Logic 𝓤) (at_mem : Memory → SProp 𝓤) (run : Routine → Fun 𝓤)
    (C : Calls 𝓤 𝓛.H) (Λ : Loops 𝓤 𝓛.H) (fm : FmC 𝓤 𝓛.H 𝓛.laws C)
    (callee : Triple 𝓤 (C (dislodge_key P.item)) (Dislodges P.item 𝓛 at_mem run))
    (κ κ₁ κ₂ κ₃ : Lft) (q q₁ q₂ q₃ : Share) (short₁ : κ ⊑ κ₁) (short₂ : κ ⊑ κ₂)
    (rb ro : ℕ) (γ : GName) (b : Value P) (r : Vec P.item.Denot Lodged) (us vs : List Val) where
  abbrev self : MutBor (Value P)
  self = record { ref_ptr = (rb, ro); ghost_name = γ; now = b }

  -- the tokens of the types' lifetimes
  abbrev tokens : Item 𝓤
  tokens = ‵ (flft κ₁ q₁) ⊛ ‵ (flft κ₂ q₂) ⊛ ‵ (flft κ₃ q₃) ⊛ ‵ ftrue

  abbrev bound : (walk_of 𝓛 (ended P) (stayed P) (clauses P 𝓛 at_mem run)).Ghost
  bound = (
    (
      (κ, (κ₁, (κ₂, (κ₃, tt)))),
      (q, (q₁, (q₂, (q₃, tt)))),
      (short₁, (short₂, tt)),
      (self, (r, tt)),
      (us, (vs, tt)),
    ),
    tt,
  )

  abbrev Post : Val → SProp 𝓤
  Post = (walk_of 𝓛 (ended P) (stayed P) (clauses P 𝓛 at_mem run)).post bound

  module _ (asked : Asks P b r) where
    few : length r.items ≤ w P
    few = subst (λ (n : ℕ). length r.items ≤ n) asked.1 (subst (λ (n : ℕ). n ≤ r.cap) r.ok.0 r.ok.1)

    abbrev new : Value P
    new = record { ptr = b.ptr; head = b.head; items = r.items; apart = false; few = few; narrow = b.narrow }

    abbrev Vector : RattleType
    Vector = Row (X P)

    abbrev Ends : List (Item 𝓤)
    Ends = ‵ (fobs γ ((Block P).coded.code new)) ∷ ‵ (fbor κ (Borrowed (mem (Block P)) rb ro γ)) ∷ ‵ (flft κ q)
        ∷ tokens ∷ []

    exits : us ≡ vptr rb ro ∷ [] → ent 𝓤 (⋆ 𝓛 Ends) (Post vunit)
    exits passed = qed 𝓛 Ends ∵
        suffices ! _ (ends_at 𝓛 (ended P) (stayed P) (clauses P 𝓛 at_mem run) bound vunit tt
        (new, (_, tt)) (tt, (tt, tt))) $
        move ! (2 ∷ 3 ∷ []) $ join ! $ move ! (1 ∷ 2 ∷ []) $ feq_i ! (List Val) us (vptr rb ro ∷ []) passed $
        fjoin3 ! $ nothing ! $ nothing ! $ fjoin ! $ move ! (1 ∷ 0 ∷ []) $ fjoin ! $
        -- [self; the tokens]
        feq_i ! (List Val) (vunit ∷ []) (vunit ∷ []) refl $ move ! (1 ∷ 0 ∷ []) $ join ! $ move ! (1 ∷ 0 ∷ []) $
        join ! $ use0 𝓛 (raw (fact 𝓤 (r.items ≡ r.items))) (fact_i 𝓤 _ (emp 𝓤) refl) $
        use0 𝓛 (raw (fact 𝓤 (false ≡ false))) (fact_i 𝓤 _ (emp 𝓤) refl) $
        use0 𝓛 (raw (fact 𝓤 ((b.ptr ≡ b.ptr) × (b.head ≡ b.head)))) (fact_i 𝓤 _ (emp 𝓤) (refl, refl)) $
        move ! (3 ∷ []) $ done !

    abbrev Had : Val → List (Item 𝓤)
    Had v = ‵ (fobs γ ((Block P).coded.code b)) ∷ ‵ (fbor κ (Borrowed (mem (Block P)) rb ro γ)) ∷ ‵ (flft κ q)
        ∷ ‵ (Vector.own_val r (v ∷ [])) ∷ tokens ∷ []

    walk : us ≡ vptr rb ro ∷ [] → (v : Val) → Good (layout Vector) v
        → ent 𝓤 (⋆ 𝓛 (Had v)) (WpFn 𝓤 𝓛.H C Λ (function P) (vptr rb ro ∷ v ∷ []) Post)
    walk passed v good =
        qed 𝓛 (Had v) ∵ enter ! C Λ (function P) (vptr rb ro ∷ v ∷ []) _ $
        alloc_all ! (λ l. pass_all ! refl ((tt, tt), (good, tt)) $
        let En : Env 𝓤 𝓛.H = env (function P).locals l in
        block_opens P ! tt b rb ro (λ k o at. let p : ℕ = o + at_places P in
        rewrite ! 0 (λ (y : Bool). ‵ (block_owned (H P) (X P) (w P) global_token (block_ptr k o) b.head b.items y))
        asked.0 refl $ fsplit3 ! $ move ! (1 ∷ []) $ drop ! $
        -- [the header; the deed; the pointer; the open borrow; what is seen; what it ends as; the vector; the tokens]
        sets ! (of_opd ! (get ! refl)) refl good $ move ! (6 ∷ []) $
        let y = at_dislodge P.item 𝓛 at_mem run r v in
        use1 𝓛 (raw ((Dislodges P.item 𝓛 at_mem run).pre y)) (dislodge_goes P.item 𝓛 at_mem run r v) $
        calls_at ! fm (Dislodges P.item 𝓛 at_mem run) callee y (and_then ! (get ! refl) (no_more !)) (λ u.
        use1 𝓛 (later (given ((u ≡ vint w64 r.len) × (r.len < 2 ^ 64)) (‵ (lodged (X P) r.ptr r.len r.cap r.items))))
        (dislodge_gives P.item 𝓛 at_mem run r v u) $ await ! tt $ learn ! (λ is.
        lands_as ! is.0 refl (tt, record { fits = is.1 }) $ sets ! (of_opd ! (unit_lit !)) refl (tt, tt) $
        let seat = asked.2 ∙ ap (λ (z : Ptr). places_in (H P) (X P) (W P) z) at in
        rewrite ! 0 (λ (z : Ptr × ℕ × ℕ). ‵ (lodged (X P) z.0 z.1 z.2 r.items))
        {x = (block_ptr k p, length r.items, w P)} (λ i. (seat i, r.ok.0 i, asked.1 i)) refl $
        -- [the places; the header; the deed; the pointer; the open borrow; what is seen; what it ends as; the tokens]
        move ! (0 ∷ 2 ∷ []) $ fjoin ! $ move ! (1 ∷ 0 ∷ []) $ fjoin ! $
        block_made P ! new (block_ptr k o) at $ move ! (1 ∷ 0 ∷ []) $
        closes ! tt (Block P) new (word (block_ptr k o) ∷ []) rb ro $
        returns ! (look_at ! 0 refl) $ free_all ! refl $ by ! (exits passed)))))

    entry : ent 𝓤 (on_entry 𝓛 (ended P).signature bound.0.0 bound.0.1 (self, (r, tt)) (us, (vs, tt)))
        (WpFn 𝓤 𝓛.H C Λ (function P) (us ++ (vs ++ [])) Post)
    entry = qed 𝓛 ((‵ (flft κ q) ⊛ tokens)
        ∷ ‵ (owns (MutRef (named 0) κ (Block P) ∷ Vector ∷ []) (self, (r, tt)) (us, (vs, tt))) ∷ []) ∵
        split ! $ move ! (2 ∷ []) $ fsplit ! $ fsplit3 ! $ feq_l ! (λ e. move ! (2 ∷ []) $ fsplit ! $
        tells ! Vector (row_laws (X P) (param_laws 1 P.item P.item_laws)) r vs (λ v f good.
        keep ! (2 ∷ 3 ∷ 4 ∷ 0 ∷ 5 ∷ []) $
        by ! (subst (λ (ws : List Val × List Val). ent 𝓤 (⋆ 𝓛 (Had v))
        (WpFn 𝓤 𝓛.H C Λ (function P) (ws.0 ++ (ws.1 ++ [])) Post)) (λ j. (sym e j, sym f j)) (walk e v good))))

meets : (P : Parts) {M : Type 1} {𝓤 : Ura M} (𝓛 : Logic 𝓤) (at_mem : Memory → SProp 𝓤) (run : Routine → Fun 𝓤)
    (𝓣 : Tables 𝓤 𝓛.H) → Triple 𝓤 (𝓣.C (dislodge_key P.item)) (Dislodges P.item 𝓛 at_mem run)
    → Meets 𝓛 (ended P).signature (WpFn 𝓤 𝓛.H 𝓣.C 𝓣.Λ (function P)) (closing 𝓛 (ended P) (clauses P 𝓛 at_mem run))
meets P {𝓤 = 𝓤} 𝓛 at_mem run 𝓣 callee =
    walk_Meets 𝓛 (ended P) (stayed P)
    (Goes-ref 𝓛 4 0 tt (plain (λ _. Block P)), (Goes-blank 𝓛 4 (plain (λ _. Row (X P))) no (λ κs x f. tt), tt))
    (clauses P 𝓛 at_mem run) (WpFn 𝓤 𝓛.H 𝓣.C 𝓣.Λ (function P)) (WpFn-mono 𝓤 𝓛.H 𝓛.laws 𝓣 (function P))
    (λ z. let κs = z.0.0 in let qs = z.0.1 in
    required 𝓤 (fact 𝓤 (κs.1.0 ⊑ P.head.lives) ∷ fact 𝓤 (κs.1.1.0 ⊑ P.item.lives)
    ∷ fact 𝓤 (κs.1.1.1.0 ⊑ (number P.width).lives) ∷ fact 𝓤 (size (layout (Block P)) < 2 ^ 63) ∷ [])
    (Asks P z.0.3.0.now z.0.3.1.0) (on_entry 𝓛 (ended P).signature κs qs z.0.3 z.0.4)
    (λ asked. entry P 𝓛 at_mem run 𝓣.C 𝓣.Λ (fm_of 𝓤 𝓛.H 𝓛.laws 𝓣) callee
    κs.0 κs.1.0 κs.1.1.0 κs.1.1.1.0 qs.0 qs.1.0 qs.1.1.0 qs.1.1.1.0 z.0.2.0 z.0.2.1.0
    z.0.3.0.ref_ptr.0 z.0.3.0.ref_ptr.1 z.0.3.0.ghost_name z.0.3.0.now z.0.3.1.0 z.0.4.0 z.0.4.1.0 asked))

pub give_spec : {M : Type 1} → stated.statement M
unfolding tables_of
give_spec 𝓤 𝓛 𝓜 𝓡 wired Hr Tr n LH LT fits =
    let P : Parts = record { head = Hr; head_laws = LH; item = Tr; item_laws = LT; width = n; fits = fits } in
    let 𝓣 : Tables 𝓤 𝓛.H = tables_of 𝓤 𝓛.H 𝓜 (tables 𝓤 𝓛.H 𝓜 𝓡 𝓡.env) in
    let spec = triple_of 𝓛 (ended P).signature (F.spec Hr Tr (number n) 𝓛 𝓜.mem 𝓡.returns) in
    entered 𝓤 𝓛.H spec 𝓣.C 𝓣.Λ (name (args P)) (function P) (code.unfolded 𝓤 𝓛.H 𝓜 𝓡 wired (types P))
    (meets P 𝓛 𝓜.mem 𝓡.returns 𝓣
    (dislodge.met 𝓤 𝓛 𝓜 𝓡 (code.calls-std_alloc::vec::lodged::Vec+T+Lodged::dislodge 𝓡.env wired) (timeless Tr)
    (timeless_laws Tr LT)))
