-- `items` makes a slice of the pointer to the places and the length. Assumes `Logic`.
use Rattle.rart_block.proofs.Walk.{◌≡◌, refl, sym, ap, subst, Bool, false, List, [], ◌∷◌, ◌++◌, ℕ, ◌+◌, ◌*◌, ◌<◌, ◌^◌}
use Rattle.rart_block.proofs.Walk.{length, Ura, Fn, named, w64, inst_fn, Val, vint, vptr, Fml, Lft, Share, flft, ftrue}
use Rattle.rart_block.proofs.Walk.{SProp, ent, Memory, size, Routine, Calls, Env, Loops, Tables, WpFn, Fun, fact, ◌⊑◌}
use Rattle.rart_block.proofs.Walk.{tables, tables_of, WpFn-mono, Logic, Item, ⋆, ‵, ◌⊛◌, at_ret, ◌$◌, ◌∵◌, !, qed, by}
use Rattle.rart_block.proofs.Walk.{move, keep, drop, split, join, rewrite, suffices, frame, done, fsplit, fjoin, feq_i}
use Rattle.rart_block.proofs.Walk.{feq_l, flt_i, flt_l, agg, addr, and_then, blocks, enter, exec, first, fld, hop, look}
use Rattle.rart_block.proofs.Walk.{no_more, of_opd, returns, stop, alloc_all, env, free_all, get, look_at, pass_all}
use Rattle.rart_block.proofs.Walk.{sets, sets_last, through, owns, layout, number, hidden_shr, mem, usize, RefOf, yes}
use Rattle.rart_block.proofs.Walk.{hide, block_ptr, Bor, ShrRef, plain, ShrSlice, slice_val, nothing, Clauses, Ended}
use Rattle.rart_block.proofs.Walk.{closing, on_entry, Meets, triple_of, entered, Stays, stay_dropped, walk_of}
use Rattle.rart_block.proofs.Walk.{walk_Meets, ends_at, says, Goes-dropped, times_below, after}
use Rattle.rart_block.proofs.Parts.{Parts, types, args, H, X, w, Block, Value, at_places}
use Rattle.rart_block.proofs.Opened.{required, shows_pointer, hides_pointer, block_seen}
use Rattle.rart_block.specs.Memory.{block_shared}
use Rattle.rart_block.specs.contracts.raw.RawBlock.items as F
use Rattle.rart_block.specs.contracts.raw.RawBlock.items.Key.{name}
use Rattle.rart_block.proofs.raw.RawBlock.items.Statement as stated
use Rattle.rart_block.proofs.raw.RawBlock.items.Code as code

module _ (P : Parts) where
  abbrev function : Fn
  function = inst_fn (args P) code.function

  abbrev ended : Ended
  ended = F.ended P.head P.item (number P.width)

  abbrev clauses : {M : Type 1} {𝓤 : Ura M} (𝓛 : Logic 𝓤) → (Memory → SProp 𝓤) → (Routine → Fun 𝓤) → Clauses 𝓤 ended
  clauses 𝓛 = F.clauses P.head P.item (number P.width) 𝓛

  abbrev stayed : Stays ended.signature.params ended.kept
  stayed = (
    stay_dropped (RefOf (0 ∷ []) tt (plain (λ _. Block P)) (λ _. tt)) yes,
    (stay_dropped (plain (λ _. usize)) yes, tt),
  )

  abbrev Asks : Value P → ℕ → Type 0
  Asks b len = (len ≡ length b.items) × (b.apart ≡ false)

module _ (P : Parts) {M : Type 1} {𝓤 : Ura M} (𝓛 : Logic 𝓤) (at_mem : Memory → SProp 𝓤) (run : Routine → Fun 𝓤)
    (C : Calls 𝓤 𝓛.H) (Λ : Loops 𝓤 𝓛.H) (κ κ₁ κ₂ κ₃ : Lft) (q q₁ q₂ q₃ : Share) (short₁ : κ ⊑ κ₁) (short₂ : κ ⊑ κ₂)
    (rb ro : ℕ) (b : Value P) (len : ℕ) (us vs : List Val) where
  abbrev self : Bor (Value P)
  self = record { ref_ptr = (rb, ro); now = b }

  -- the tokens of the types' lifetimes
  abbrev tokens : Item 𝓤
  tokens = ‵ (flft κ₁ q₁) ⊛ ‵ (flft κ₂ q₂) ⊛ ‵ (flft κ₃ q₃) ⊛ ‵ ftrue

  abbrev bound : (walk_of 𝓛 (ended P) (stayed P) (clauses P 𝓛 at_mem run)).Ghost
  bound = (
    (
      (κ, (κ₁, (κ₂, (κ₃, tt)))),
      (q, (q₁, (q₂, (q₃, tt)))),
      (short₁, (short₂, tt)),
      (self, (len, tt)),
      (us, (vs, tt)),
    ),
    tt,
  )

  abbrev Post : Val → SProp 𝓤
  Post = (walk_of 𝓛 (ended P) (stayed P) (clauses P 𝓛 at_mem run)).post bound

  -- a `&` to the items, which lie at o of block k
  abbrev shown : ℕ → ℕ → Bor (List P.item.Denot)
  shown k o = record { ref_ptr = (k, o); now = b.items }

  abbrev Shown : ℕ → ℕ → Fml
  Shown k o = (ShrSlice (named 0) κ (X P)).own_val (shown k o) (slice_val (k, o) len ∷ [])

  exits : (k o : ℕ) → ent 𝓤 (⋆ 𝓛 (‵ (Shown k o) ∷ ‵ (flft κ q) ∷ tokens ∷ [])) (Post (slice_val (k, o) len))
  exits k o =
      qed 𝓛 (‵ (Shown k o) ∷ ‵ (flft κ q) ∷ tokens ∷ []) ∵
      suffices ! _ (ends_at 𝓛 (ended P) (stayed P) (clauses P 𝓛 at_mem run) bound (slice_val (k, o) len) (shown k o)
      (tt, (tt, tt)) (tt, (tt, tt))) $
      says ! refl $ move ! (1 ∷ 2 ∷ []) $ join ! $ frame ! $ nothing ! $ nothing ! $ fjoin ! $ nothing ! $ fjoin ! $
      done !

  abbrev Had : List (Item 𝓤)
  Had = ‵ (hidden_shr (Block P) κ b rb ro) ∷ ‵ (flft κ q) ∷ tokens ∷ []

  walk : Asks P b len → len < 2 ^ 64
      → ent 𝓤 (⋆ 𝓛 Had) (WpFn 𝓤 𝓛.H C Λ (function P) (vptr rb ro ∷ vint w64 len ∷ []) Post)
  walk asked fl =
      let n : ℕ = length b.items in
      let s : ℕ = (mem (X P)).size in
      qed 𝓛 Had ∵ enter ! C Λ (function P) (vptr rb ro ∷ vint w64 len ∷ []) _ $
      alloc_all ! (λ l. pass_all ! refl ((tt, tt), ((tt, record { fits = fl }), tt)) $
      let En : Env 𝓤 𝓛.H = env (function P).locals l in
      block_seen P ! b rb ro (λ k o _.
      rewrite ! 0 (λ (y : Bool). ‵ (block_shared (H P) (X P) (w P) (block_ptr k o) b.head b.items y κ)) asked.1 refl $
      fsplit ! $ drop ! $ fsplit ! $ flt_l ! (λ fit. fsplit ! $ drop ! $ fsplit ! $ drop ! $ hide ! $
      let at : ℕ × ℕ = (k, o + at_places P) in
      -- [the items; the pointer; the token; the tokens]
      move ! (1 ∷ 2 ∷ []) $ shows_pointer ! tt k o rb (ro + 0) (λ _. first ! $ blocks ! $
      sets ! (addr ! (through ! refl (fld ! refl (hop ! (look ! 0 refl) (fld ! refl (stop !)))))) refl (tt, tt) $
      hides_pointer ! tt k o rb (ro + 0) $
      sets_last ! (agg ! (and_then ! (get ! refl) (and_then ! (get ! refl) (no_more !)))) refl
      (tt, (tt, (record { fits = fl }, tt))) $
      exec ! C Λ En (after 1 (function P).body) (at_ret En Post) $
      sets ! (of_opd ! (get ! refl)) refl (tt, (tt, (record { fits = fl }, tt))) $
      -- [the token; the items; the tokens]
      move ! (1 ∷ []) $ flt_i ! (n * s) (2 ^ 63) (times_below n (w P) s (2 ^ 63) b.few fit) $
      flt_i ! n (2 ^ 64) (subst (λ (k : ℕ). k < 2 ^ 64) asked.0 fl) $ fjoin ! $
      feq_i ! (List Val) (slice_val at len ∷ []) (slice_val at n ∷ []) (ap (λ (k : ℕ). slice_val at k ∷ []) asked.0) $
      fjoin ! $ fjoin ! $ returns ! (look_at ! 0 refl) $ free_all ! refl $ by ! (exits k (o + at_places P))))))

  entry : Asks P b len → ent 𝓤 (on_entry 𝓛 (ended P).signature bound.0.0 bound.0.1 (self, (len, tt)) (us, (vs, tt)))
      (WpFn 𝓤 𝓛.H C Λ (function P) (us ++ (vs ++ [])) Post)
  entry asked = qed 𝓛 ((‵ (flft κ q) ⊛ tokens)
      ∷ ‵ (owns (ShrRef (named 0) κ (Block P) ∷ usize ∷ []) (self, (len, tt)) (us, (vs, tt))) ∷ []) ∵
      split ! $ move ! (2 ∷ []) $ fsplit ! $ fsplit ! $ feq_l ! (λ e. move ! (1 ∷ []) $ fsplit ! $ fsplit ! $
      feq_l ! (λ f. flt_l ! (λ fl. keep ! (1 ∷ 2 ∷ 3 ∷ []) $
      by ! (subst (λ (ws : List Val × List Val). ent 𝓤 (⋆ 𝓛 Had)
      (WpFn 𝓤 𝓛.H C Λ (function P) (ws.0 ++ (ws.1 ++ [])) Post)) (λ j. (sym e j, sym f j)) (walk asked fl)))))

meets : (P : Parts) {M : Type 1} {𝓤 : Ura M} (𝓛 : Logic 𝓤) (at_mem : Memory → SProp 𝓤) (run : Routine → Fun 𝓤)
    (𝓣 : Tables 𝓤 𝓛.H)
    → Meets 𝓛 (ended P).signature (WpFn 𝓤 𝓛.H 𝓣.C 𝓣.Λ (function P)) (closing 𝓛 (ended P) (clauses P 𝓛 at_mem run))
meets P {𝓤 = 𝓤} 𝓛 at_mem run 𝓣 =
    walk_Meets 𝓛 (ended P) (stayed P) (
      Goes-dropped 𝓛 4 (RefOf (0 ∷ []) tt (plain (λ _. Block P)) (λ _. tt)) yes (λ κs x f. refl),
      (Goes-dropped 𝓛 4 (plain (λ _. usize)) yes (λ κs x f. refl), tt),
    )
    (clauses P 𝓛 at_mem run) (WpFn 𝓤 𝓛.H 𝓣.C 𝓣.Λ (function P)) (WpFn-mono 𝓤 𝓛.H 𝓛.laws 𝓣 (function P))
    (λ z. let κs = z.0.0 in let qs = z.0.1 in
    required 𝓤 (fact 𝓤 (κs.1.0 ⊑ P.head.lives) ∷ fact 𝓤 (κs.1.1.0 ⊑ P.item.lives)
    ∷ fact 𝓤 (κs.1.1.1.0 ⊑ (number P.width).lives) ∷ fact 𝓤 (size (layout (Block P)) < 2 ^ 63) ∷ [])
    (Asks P z.0.3.0.now z.0.3.1.0) (on_entry 𝓛 (ended P).signature κs qs z.0.3 z.0.4)
    (entry P 𝓛 at_mem run 𝓣.C 𝓣.Λ κs.0 κs.1.0 κs.1.1.0 κs.1.1.1.0 qs.0 qs.1.0 qs.1.1.0 qs.1.1.1.0 z.0.2.0 z.0.2.1.0
    z.0.3.0.ref_ptr.0 z.0.3.0.ref_ptr.1 z.0.3.0.now z.0.3.1.0 z.0.4.0 z.0.4.1.0))

pub items_spec : {M : Type 1} → stated.statement M
unfolding tables_of
items_spec 𝓤 𝓛 𝓜 𝓡 wired Hr Tr n LH LT fits =
    let P : Parts = record { head = Hr; head_laws = LH; item = Tr; item_laws = LT; width = n; fits = fits } in
    let 𝓣 : Tables 𝓤 𝓛.H = tables_of 𝓤 𝓛.H 𝓜 (tables 𝓤 𝓛.H 𝓜 𝓡 𝓡.env) in
    let spec = triple_of 𝓛 (ended P).signature (F.spec Hr Tr (number n) 𝓛 𝓜.mem 𝓡.returns) in
    entered 𝓤 𝓛.H spec 𝓣.C 𝓣.Λ (name (args P)) (function P) (code.unfolded 𝓤 𝓛.H 𝓜 𝓡 wired (types P))
    (meets P 𝓛 𝓜.mem 𝓡.returns 𝓣)
