-- `get` hands on the `&` to the item in a slot. Assumes `Logic`.
use Rattle.rart_block.proofs.Walk.{◌≡◌, refl, sym, subst, List, [], ◌∷◌, ◌++◌, ℕ, ◌+◌, ◌*◌, ◌<◌, ◌^◌, arith, length}
use Rattle.rart_block.proofs.Walk.{get_or}
use Rattle.rart_block.proofs.Walk.{Ura, Fn, Args, named, w64, inst_fn, Val, vint, vptr, Fml, Lft, Share, flft, ftrue}
use Rattle.rart_block.proofs.Walk.{SProp, ent, never, Memory, Routine, Calls, Env, Loops, Tables, WpFn, Fun}
use Rattle.rart_block.proofs.Walk.{fact, ◌⊑◌, tables, tables_of, WpFn-mono, Logic, sem, Item, ⋆, ‵, ◌⊛◌, at_ret, ◌$◌}
use Rattle.rart_block.proofs.Walk.{◌∵◌, !, qed, by, move, keep, drop, use1, split, join, suffices, frame, done, fsplit}
use Rattle.rart_block.proofs.Walk.{fjoin, feq_i, feq_l, flt_l, addr, bin, blocks, enter, exec, first, fld, load}
use Rattle.rart_block.proofs.Walk.{look, of_opd, returns, size_lit, stop, alloc_all, env, free_all, get, look_at}
use Rattle.rart_block.proofs.Walk.{pass_all, sets, sets_last, through, owns, layouts, param, hidden_shr, usize}
use Rattle.rart_block.proofs.Walk.{RefOf, yes, null_ptr, Bor, ShrRef, plain, nothing, Clauses, Ended, closing}
use Rattle.rart_block.proofs.Walk.{on_entry, Meets, triple_of, entered, Stays, stay_dropped, walk_of, walk_Meets}
use Rattle.rart_block.proofs.Walk.{ends_at, says, Goes-dropped, one_below, times_below, after, wider, RattleType}
use mir.Syntax.{a_type}
use denote.Ref.{NamedLft}
use denote.Signature.{named_lft}
use Rattle.std.specs.Prelude.{None, Some, IsSome}
use Rattle.std.specs.Mem.{type_size}
use Rattle.rart_block.proofs.Opened.{required, shows_pointer, hides_pointer}
use Rattle.rart_block.proofs.SlotSteps.{item_of, within, none_at_null, item_seen}
use Rattle.rart_block.proofs.View.{View, view_seen}
use Rattle.rart_block.specs.SlotMemory.{slots_seen}
use Rattle.rart_block.specs.contracts.raw_sparse.Slots.get as F
use Rattle.rart_block.specs.contracts.raw_sparse.Slots.get.Key.{name}
use Rattle.rart_block.proofs.raw_sparse.Slots.get.Statement as stated
use Rattle.rart_block.proofs.raw_sparse.Slots.get.Code as code

abbrev args_of : RattleType → Args
args_of Y = layouts (a_type ∷ []) (Y, tt)

module _ (Y : RattleType) where
  abbrev function : Fn
  function = inst_fn (args_of Y) code.function

  abbrev ended : Ended
  ended = F.ended Y

  abbrev clauses : {M : Type 1} {𝓤 : Ura M} (𝓛 : Logic 𝓤) → (Memory → SProp 𝓤) → (Routine → Fun 𝓤) → Clauses 𝓤 ended
  clauses 𝓛 = F.clauses Y 𝓛

  abbrev T : RattleType
  T = param 0 Y

  abbrev s : ℕ
  s = type_size T

  abbrev stayed : Stays ended.signature.params ended.kept
  stayed = (
    stay_dropped (RefOf (0 ∷ []) tt (plain (λ κs. View (named_lft 3 1 tt κs) T)) (λ _. tt)) yes,
    (stay_dropped (plain (λ _. usize)) yes, tt),
  )

module _ (Y : RattleType) {M : Type 1} {𝓤 : Ura M} (𝓛 : Logic 𝓤) (at_mem : Memory → SProp 𝓤) (run : Routine → Fun 𝓤)
    (C : Calls 𝓤 𝓛.H) (Λ : Loops 𝓤 𝓛.H) (z : (walk_of 𝓛 (ended Y) (stayed Y) (clauses Y 𝓛 at_mem run)).Ghost)
    (us vs : List Val) where
  abbrev κ : Lft
  κ = z.0.0.0

  -- the lifetime of the borrow of the slots
  abbrev κ₁ : Lft
  κ₁ = z.0.0.1.0

  abbrev q : Share
  q = z.0.1.0

  abbrev lft : NamedLft
  lft = named_lft 3 1 tt z.0.0

  abbrev d : (View lft (T Y)).Denot
  d = z.0.3.0.now

  abbrev i : ℕ
  i = z.0.3.1.0

  abbrev rb : ℕ
  rb = z.0.3.0.ref_ptr.0

  abbrev ro : ℕ
  ro = z.0.3.0.ref_ptr.1

  -- the tokens of the other lifetimes
  abbrev tokens : Item 𝓤
  tokens = ‵ (flft κ₁ z.0.1.1.0) ⊛ ‵ (flft z.0.0.1.1.0 z.0.1.1.1.0) ⊛ ‵ ftrue

  abbrev bound : (walk_of 𝓛 (ended Y) (stayed Y) (clauses Y 𝓛 at_mem run)).Ghost
  bound = ((z.0.0, z.0.1, z.0.2, z.0.3, (us, (vs, tt))), z.1)

  abbrev Post : Val → SProp 𝓤
  Post = (walk_of 𝓛 (ended Y) (stayed Y) (clauses Y 𝓛 at_mem run)).post bound

  abbrev shown : ℕ → ℕ → Y.Denot → Bor Y.Denot
  shown k o x = record { ref_ptr = (k, o); now = x }

  abbrev Shown : ℕ → ℕ → Y.Denot → Fml
  Shown k o x = (ShrRef (named 1) κ₁ (T Y)).own_val (shown k o x) (vptr k o ∷ [])

  exits : (k o : ℕ) (x : Y.Denot) → get_or d.items i None ≡ Some x
      → ent 𝓤 (⋆ 𝓛 (‵ (Shown k o x) ∷ ‵ (flft κ q) ∷ tokens ∷ [])) (Post (vptr k o))
  exits k o x e = qed 𝓛 (‵ (Shown k o x) ∷ ‵ (flft κ q) ∷ tokens ∷ []) ∵
      suffices ! _ (ends_at 𝓛 (ended Y) (stayed Y) (clauses Y 𝓛 at_mem run) bound (vptr k o) (shown k o x)
      (tt, (tt, tt)) (tt, (tt, tt))) $
      says ! e $ move ! (1 ∷ 2 ∷ []) $ join ! $ frame ! $ nothing ! $ nothing ! $ fjoin ! $ nothing ! $ fjoin ! $
      done !

  abbrev Had : List (Item 𝓤)
  Had = ‵ (hidden_shr (View lft (T Y)) κ d rb ro) ∷ ‵ (flft κ q) ∷ tokens ∷ []

  nowhere : (x : Y.Denot) → get_or d.items i None ≡ Some x
      → ent 𝓤 (sem 𝓛 (slots_seen (T Y) null_ptr d.items κ₁)) (never 𝓤)
  nowhere x e = qed 𝓛 (‵ (slots_seen (T Y) null_ptr d.items κ₁) ∷ []) ∵ fsplit ! $ drop ! $
      by ! (none_at_null (T Y) 𝓛 κ₁ d.items i x e)

  walk : IsSome (get_or d.items i None) → i < 2 ^ 64
      → ent 𝓤 (⋆ 𝓛 Had) (WpFn 𝓤 𝓛.H C Λ (function Y) (vptr rb ro ∷ vint w64 i ∷ []) Post)
  walk asked fi =
      let full = item_of (get_or d.items i None) asked in
      let x : Y.Denot = full.0 in
      let n : ℕ = length d.items in
      let here : i < n = within d.items i x full.1 in
      qed 𝓛 Had ∵ enter ! C Λ (function Y) (vptr rb ro ∷ vint w64 i ∷ []) _ $
      alloc_all ! (λ l. pass_all ! refl ((tt, tt), ((tt, record { fits = fi }), tt)) $
      let En : Env 𝓤 𝓛.H = env (function Y).locals l in
      view_seen lft (T Y) ! d rb ro (nowhere x full.1) (λ k o _. fsplit ! $ flt_l ! (λ fit.
      let tiny : s Y < 2 ^ 64 = wider (s Y) (one_below n (s Y) (2 ^ 63) (omega arith) fit) in
      let far : i * s Y < 2 ^ 64 = wider (i * s Y) (times_below i n (s Y) (2 ^ 63) (omega arith) fit) in
      let at : ℕ = i * s Y + o in
      use1 𝓛 (‵ (hidden_shr (T Y) κ₁ x k at)) (item_seen (T Y) 𝓛 κ₁ d.items k o i x full.1) $
      -- [the item; the pointer; the token; the tokens]
      move ! (1 ∷ 2 ∷ []) $ first ! $ blocks ! $ shows_pointer ! tt k o rb (ro + 0) (λ _.
      sets ! (of_opd ! (load ! (through ! refl (fld ! refl (stop !))) (look ! 0 refl))) refl (tt, tt) $
      hides_pointer ! tt k o rb (ro + 0) $
      sets ! (bin ! (get ! refl) (size_lit ! (record { fits = tiny })) (record { fits = far })) refl
      (tt, record { fits = far }) $ sets ! (bin ! (get ! refl) (get ! refl) tt) refl (tt, tt) $
      sets_last ! (addr ! (through ! refl (stop !))) refl (tt, tt) $
      exec ! C Λ En (after 1 (function Y).body) (at_ret En Post) $ sets ! (of_opd ! (get ! refl)) refl (tt, tt) $
      -- [the token; the item; the tokens]
      move ! (1 ∷ []) $ feq_i ! (List Val) (vptr k at ∷ []) (vptr k at ∷ []) refl $ fjoin ! $
      returns ! (look_at ! 0 refl) $ free_all ! refl $ by ! (exits k at x full.1)))))

  entry : IsSome (get_or d.items i None)
      → ent 𝓤 (on_entry 𝓛 (ended Y).signature bound.0.0 bound.0.1 bound.0.3 bound.0.4)
      (WpFn 𝓤 𝓛.H C Λ (function Y) (us ++ (vs ++ [])) Post)
  entry asked = qed 𝓛 ((‵ (flft κ q) ⊛ tokens)
      ∷ ‵ (owns (ShrRef (named 0) κ (View lft (T Y)) ∷ usize ∷ []) (z.0.3.0, (i, tt)) (us, (vs, tt))) ∷ []) ∵
      split ! $ move ! (2 ∷ []) $ fsplit ! $ fsplit ! $ feq_l ! (λ e. move ! (1 ∷ []) $ fsplit ! $ fsplit ! $
      feq_l ! (λ f. flt_l ! (λ fi. keep ! (1 ∷ 2 ∷ 3 ∷ []) $
      by ! (subst (λ (ws : List Val × List Val). ent 𝓤 (⋆ 𝓛 Had)
      (WpFn 𝓤 𝓛.H C Λ (function Y) (ws.0 ++ (ws.1 ++ [])) Post)) (λ j. (sym e j, sym f j)) (walk asked fi)))))

meets : (Y : RattleType) {M : Type 1} {𝓤 : Ura M} (𝓛 : Logic 𝓤) (at_mem : Memory → SProp 𝓤) (run : Routine → Fun 𝓤)
    (𝓣 : Tables 𝓤 𝓛.H)
    → Meets 𝓛 (ended Y).signature (WpFn 𝓤 𝓛.H 𝓣.C 𝓣.Λ (function Y)) (closing 𝓛 (ended Y) (clauses Y 𝓛 at_mem run))
meets Y {𝓤 = 𝓤} 𝓛 at_mem run 𝓣 =
    walk_Meets 𝓛 (ended Y) (stayed Y) (
      Goes-dropped 𝓛 3 (RefOf (0 ∷ []) tt (plain (λ κs. View (named_lft 3 1 tt κs) (T Y))) (λ _. tt)) yes
          (λ κs x f. refl),
      (Goes-dropped 𝓛 3 (plain (λ _. usize)) yes (λ κs x f. refl), tt),
    )
    (clauses Y 𝓛 at_mem run) (WpFn 𝓤 𝓛.H 𝓣.C 𝓣.Λ (function Y)) (WpFn-mono 𝓤 𝓛.H 𝓛.laws 𝓣 (function Y))
    (λ z. let κs = z.0.0 in let qs = z.0.1 in
    required 𝓤 (fact 𝓤 (κs.1.1.0 ⊑ Y.lives) ∷ [])
    (IsSome (get_or z.0.3.0.now.items z.0.3.1.0 None)) (on_entry 𝓛 (ended Y).signature κs qs z.0.3 z.0.4)
    (entry Y 𝓛 at_mem run 𝓣.C 𝓣.Λ z z.0.4.0 z.0.4.1.0))

pub get_spec : {M : Type 1} → stated.statement M
unfolding tables_of
get_spec 𝓤 𝓛 𝓜 𝓡 wired Y laws =
    let 𝓣 : Tables 𝓤 𝓛.H = tables_of 𝓤 𝓛.H 𝓜 (tables 𝓤 𝓛.H 𝓜 𝓡 𝓡.env) in
    let spec = triple_of 𝓛 (ended Y).signature (F.spec Y 𝓛 𝓜.mem 𝓡.returns) in
    entered 𝓤 𝓛.H spec 𝓣.C 𝓣.Λ (name (args_of Y)) (function Y) (code.unfolded 𝓤 𝓛.H 𝓜 𝓡 wired (Y, tt))
    (meets Y 𝓛 𝓜.mem 𝓡.returns 𝓣)
