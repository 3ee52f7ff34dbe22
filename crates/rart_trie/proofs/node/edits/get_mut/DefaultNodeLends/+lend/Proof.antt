-- `lend` meets its contract, by induction on the node's count of nodes.
-- Its body is one call of `lend_by`, whose theorem holds for any way to lend in a child. It is cited with the bound's
-- member `ready` set to the canonical nodes with fewer nodes than this one, where the bound's contract is the
-- induction's hypothesis (`bounded_by`). The call's `post`, the loan in it, is the function's own by computation, so
-- the walk (`written`) ends where the call returns.
use mathlib.Core.Path.{◌≡◌, refl, subst}
use mathlib.Core.List.{List, [], ◌∷◌}
use Prim.Native.Nat.{ℕ, ◌<◌}
use lib.WfN.{lt-wf_rel}
use seplogic.Ra.Ura.{Ura}
use mir.Syntax.{Fn, Args, Callee, Dict, Dicts, Kind, a_type, dcons, dnil, method, named}
use mir.MapTy.{inst_fn}
use mir.Val.{Val, vptr}
use base.Logic.{SProp, ent, sep, emp, ex, ex_i, via, mono_l, mono_r, fst∗, snd∗, emp∗, comm∗, wand, wand_i, apply∗, id⊢}
use base.Fml.{Lft}
use prog.Model.{Model}
use prog.Wired.{Wired}
use prog.Wp.{Tables, WpFn}
use types.Logic.{Logic}
use types.Kit.{‵, raw, ◌⊛◌, some, later, ◌$◌, ◌∵◌, !, qed, by, move, use1, split, join, pick, await}
use types.Run.{enter, addr, stop, no_more, and_then, returns}
use types.ByLocal.{alloc_all, pass_all, free_all, look_at, get, through, sets, lands_as}
use contract.BorrowLft.{◌⊑◌, ⊑_refl, ⊑_trans}
use contract.Monad.{fact, fact_i, fact_use}
use contract.Lifetimes.{Lfts}
use contract.Running.{Running, tables, tables_of}
use denote.Enum.Declared.{shape}
use denote.Enum.Enum.{Enum, Enum-Lawful}
use denote.Laws.{Lawful, Is, Ises, Are, Spells, valss, shows}
use denote.Param.{param, bounded, layouts}
use denote.Param.Glue as glue
use denote.Param.Laws.{Laws}
use denote.RattleType.{RattleType, flat}
use denote.Ref.{MutRef, mut_vals, mut_Tells, mut_Lawful}
use denote.Signature.{Signature, type_at, types_at}
use denote.Slice.{shr_slice_vals, shr_slice_Tells}
use denote.Builtin.{u8}
use denote.Steps.{said, peeks}
use denote.Struct.Recorded.{recorded_lawful}
use denote.Triple.Call.{calls_at}
use denote.Triple.Cycle.{measured, mutual_elim, at_on}
use denote.Triple.Entry.{Vals, alive, on_entry}
use denote.Triple.Spec.{Back, triple_of}
use denote.Triple.Statement.{Contract, Triple}
use denote.Triple.Table.{framed, widened}
use Rattle.rart_keys.specs.contracts.partials.Partial.TheBound as partial
use Rattle.rart_keys.specs.declared.partials.Partial as declared_partial
use Rattle.std.specs.contracts.option.Option as option
use Rattle.rart_trie.specs.tries.Trie.{IsCanonical, trie_lookup, trie_put}
use Rattle.rart_trie.specs.tries.TrieCode.{node_count}
use Rattle.rart_trie.specs.contracts.node.DefaultNode as node
use Rattle.rart_trie.specs.declared.node.DefaultNode as declared_node
use Rattle.rart_trie.specs.declared.node.edits.get_mut.Lends as lends
use Rattle.rart_trie.specs.contracts.node.edits.get_mut.Lends.TheBound as bound
use Rattle.rart_trie.specs.contracts.node.edits.get_mut.Lends.lend as asked
use Rattle.rart_trie.specs.contracts.node.edits.get_mut.DefaultNodeLends.TheImpl as impl
use Rattle.rart_trie.specs.contracts.node.edits.get_mut.DefaultNodeLends.lend as lend
use Rattle.rart_trie.specs.contracts.node.edits.get_mut.DefaultNodeLends.lend.Key.{name as #lend}
use Rattle.rart_trie.specs.contracts.node.edits.get_mut.lend_by as lend_by
use Rattle.rart_trie.specs.contracts.node.edits.get_mut.lend_by.Key.{name as #lend_by}
use Rattle.rart_trie.proofs.node.DefaultNode.TheLaws.{the_holds}
use Rattle.rart_trie.proofs.node.edits.get_mut.lend_by.Met as met_by
use Rattle.rart_trie.proofs.node.edits.get_mut.DefaultNodeLends.+lend.{functions, statement}
use Rattle.rart_trie.proofs.node.edits.get_mut.DefaultNodeLends.+lend.Code as code

-- facts are learned of, and put beside what is had
module _ {M : Type 1} (𝓤 : Ura M) where
  three : (φ₁ φ₂ φ₃ : Type 0) → ent 𝓤 (sep 𝓤 (fact 𝓤 φ₁) (sep 𝓤 (fact 𝓤 φ₂) (fact 𝓤 φ₃))) (fact 𝓤 (φ₁ × φ₂ × φ₃))
  three φ₁ φ₂ φ₃ =
      let F₁ = fact 𝓤 φ₁ in let F₂ = fact 𝓤 φ₂ in let F₃ = fact 𝓤 φ₃ in
      let all = sep 𝓤 F₁ (sep 𝓤 F₂ F₃) in let rest = snd∗ 𝓤 F₁ (sep 𝓤 F₂ F₃) in
      fact_use 𝓤 φ₁ (fst∗ 𝓤 F₁ (sep 𝓤 F₂ F₃)) (λ a. fact_use 𝓤 φ₂ (via 𝓤 (sep 𝓤 F₂ F₃) rest (fst∗ 𝓤 F₂ F₃)) (λ b.
      fact_use 𝓤 φ₃ (via 𝓤 (sep 𝓤 F₂ F₃) rest (snd∗ 𝓤 F₂ F₃)) (λ c. fact_i 𝓤 (φ₁ × φ₂ × φ₃) all (a, b, c))))

  beside : (φ : Type 0) {R Q : SProp 𝓤} → φ → ent 𝓤 R Q → ent 𝓤 R (sep 𝓤 (fact 𝓤 φ) Q)
  beside φ {R} {Q} x h = via 𝓤 Q h (via 𝓤 (sep 𝓤 (emp 𝓤) Q) (emp∗ 𝓤 Q) (mono_l 𝓤 Q (fact_i 𝓤 φ (emp 𝓤) x)))

module _ {M : Type 1} (𝓤 : Ura M) (𝓛 : Logic 𝓤) (𝓜 : Model 𝓤 𝓛.H) (𝓡 : Running 𝓤 𝓛.H 𝓜) (wired : Wired 𝓡.env code.code)
    (P V : RattleType) (LP : Laws P) (LV : Laws V) (g : declared_partial.Ghosts P.Denot) (d dd : Dict)
    (met : partial.Met 𝓛 𝓜 𝓡 𝓡.env P g d) (drops : glue.Met 𝓛 𝓜 𝓡 𝓡.env P dd) where
  abbrev kinds : List Kind
  kinds = a_type ∷ a_type ∷ []

  abbrev passed : Dicts → Args
  passed ds = bounded kinds (P, (V, tt)) ds

  abbrev Row : RattleType
  Row = node.the_row (param 0 P) (param 1 V) g

  abbrev dict : Dict
  dict = impl.dict P V g d dd

  abbrev self : Callee
  self = #lend (passed (dcons d (dcons dd dnil)))

  abbrev as_method : Callee
  as_method = method dict 0 (layouts [] tt)

  abbrev called : Callee
  called = #lend_by (passed (dcons d (dcons dict (dcons dd dnil))))

  -- what is shown
  abbrev C : Contract 𝓤
  C = triple_of 𝓛 (lend.signature P V g d dd) (lend.spec P V g d dd 𝓛 𝓜.mem 𝓡.returns)

  abbrev size : C.Ghost → ℕ
  size y = node_count y.0.3.0.now

  abbrev Known : ℕ → Type 1
  Known t = (y : C.Ghost) → size y < t → ent 𝓤 (C.pre y) (𝓡.run (𝓡.env self) (C.args y) (C.post y))

  -- the bound's members at the nodes below t
  abbrev below : ℕ → lends.Ghosts (declared_node.DefaultNode P.Denot V.Denot) V.Denot
  below t = record {
    ready = λ n. IsCanonical n × (node_count n < t);
    found = λ n key. trie_lookup key n;
    put
        = λ n key w. trie_put key w n;
  }

  -- what the bound requires, and what the call of `lend_by` has, at them
  abbrev B : ℕ → Contract 𝓤
  B t = triple_of 𝓛 (asked.signature Row V) (asked.spec Row V (below t) dict 𝓛 𝓜.mem 𝓡.returns)

  abbrev D : ℕ → Contract 𝓤
  D t = triple_of 𝓛 (lend_by.signature P V g d (below t) dict dd)
      (lend_by.spec P V g d (below t) dict dd 𝓛 𝓜.mem 𝓡.returns)

  module _ (t : ℕ) (known : Known t) where
    by_method : (y : C.Ghost) → size y < t → ent 𝓤 (C.pre y) (𝓡.run (𝓡.env as_method) (C.args y) (C.post y))
    unfolding code.code
    by_method y less =
        widened 𝓤 𝓛.H (record { Ghost = Unit {0}; args = λ _. C.args y; pre = λ _. C.pre y; post = λ _. C.post y }) 𝓜 𝓡
        𝓡.env (𝓡.env self) (𝓡.env as_method)
        (wired.3.0 as_method refl) (λ _. known y less) tt

    bounded_by : bound.Met 𝓛 𝓜 𝓡 𝓡.env Row V (below t) dict
    bounded_by = record {
      lend = λ y. let O = on_entry 𝓛 (lend.signature P V g d dd) y.0.0 y.0.1 y.0.3 y.0.4 in
          let κ = y.0.0.1.1.0 in
          let F₁ = κ ⊑ Row.lives in let F₂ = y.0.0.1.1.1.0 ⊑ V.lives in let F₃ = IsCanonical y.0.3.0.now
          × (node_count y.0.3.0.now < t) in
          let R = sep 𝓤 (fact 𝓤 F₁) (sep 𝓤 (fact 𝓤 F₂) (fact 𝓤 F₃)) in
          fact_use 𝓤 (F₁ × F₂ × F₃) (via 𝓤 R (snd∗ 𝓤 O R) (three 𝓤 F₁ F₂ F₃)) (λ fs.
          via 𝓤 (C.pre y) (mono_r 𝓤 O (beside 𝓤 (κ ⊑ P.lives)
          (⊑_trans κ Row.lives P.lives fs.0 (the_holds (param 0 P) (param 1 V) g Row.lives (⊑_refl Row.lives)).0)
          (beside 𝓤 F₂ fs.1 (fact_i 𝓤 (IsCanonical y.0.3.0.now) R fs.2.0)))) (by_method y fs.2.1));
    }

    meets_by : Triple 𝓤 (𝓡.run (𝓡.env called)) (D t)
    unfolding code.code
    meets_by = met_by.met 𝓤 𝓛 𝓜 𝓡 (code.calls-rart_trie::node::edits::get_mut::lend_by 𝓡.env wired) P V LP LV g d
        (below t)
        dict dd met bounded_by drops

    abbrev tables' : Tables 𝓤 𝓛.H
    tables' = tables_of 𝓤 𝓛.H 𝓜 (tables 𝓤 𝓛.H 𝓜 𝓡 𝓡.env)

    abbrev function : Fn
    function = inst_fn (passed (dcons d (dcons dd dnil))) code.lend-function

    -- the result is of its type
    lawful : (κ : Lft) → Lawful 𝓛 (option.the_row (MutRef (named 0) κ (param 1 V)))
    lawful κ =
        let T = option.the_type (MutRef (named 0) κ (param 1 V)) in
        recorded_lawful (Enum (shape T)) T.D T.to T.to_one 𝓛
        (Enum-Lawful 𝓛 (shape T) tt (tt, ((mut_Lawful 𝓛 (named 0) κ (param 1 V), tt), tt)))

    allocates_by : (y : C.Ghost) → size y ≡ t → ent 𝓤 (C.pre y) ((D t).pre y)
    allocates_by y e =
        let O = on_entry 𝓛 (lend.signature P V g d dd) y.0.0 y.0.1 y.0.3 y.0.4 in
        let F₁ = y.0.0.1.1.0 ⊑ P.lives in let F₂ = y.0.0.1.1.1.0 ⊑ V.lives in let F₃ = IsCanonical y.0.3.0.now in
        let R = sep 𝓤 (fact 𝓤 F₁) (sep 𝓤 (fact 𝓤 F₂) (fact 𝓤 F₃)) in
        fact_use 𝓤 {P = C.pre y} {Q = (D t).pre y} (F₁ × F₂ × F₃) (via 𝓤 R (snd∗ 𝓤 O R) (three 𝓤 F₁ F₂ F₃)) (λ fs.
        mono_r 𝓤 O (beside 𝓤 F₁ fs.0 (beside 𝓤 F₂ fs.1
        (beside 𝓤 F₃ fs.2 (beside 𝓤 _ (λ n c less. (c, subst (λ u. node_count n < u) e less))
        (beside 𝓤 _ (λ n k. refl) (fact_i 𝓤 _ R (λ n k w. refl))))))))

    abbrev Done : (y : C.Ghost) → Val → (r : (type_at (lend.signature P V g d dd).result y.0.0).Denot) → SProp 𝓤
    Done y v r = sep 𝓤 (Back 𝓛 (lend.signature P V g d dd) y.0 v r)
        ((lend.spec P V g d dd 𝓛 𝓜.mem 𝓡.returns y.0.0 y.0.3).ensures tt r)

    abbrev S : Signature
    S = lend.signature P V g d dd

    abbrev spells : (κs : Lfts 4) → Spells (types_at S.params κs)
    spells κs = (mut_vals, (shr_slice_vals, tt))

    abbrev Does : (y : C.Ghost) → Vals S y.0.0 → SProp 𝓤
    Does y us = WpFn 𝓤 𝓛.H tables'.C tables'.Λ function (flat (types_at S.params y.0.0) us)
        (C.post ((y.0.0, y.0.1, y.0.2, y.0.3, us), tt))

    written : (y : C.Ghost) → size y ≡ t → Are (types_at S.params y.0.0) (Ises (types_at S.params y.0.0)) y.0.3
        (valss (types_at S.params y.0.0) (spells y.0.0) y.0.3)
        → ent 𝓤 (C.pre ((y.0.0, y.0.1, y.0.2, y.0.3, valss (types_at S.params y.0.0) (spells y.0.0) y.0.3), tt))
        (Does y (valss (types_at S.params y.0.0) (spells y.0.0) y.0.3))
    unfolding tables_of
    written y e are =
        let z : C.Ghost = ((y.0.0, y.0.1, y.0.2, y.0.3, (mut_vals y.0.3.0, (shr_slice_vals y.0.3.1.0, tt))), tt) in
        let Res = option.the_row (MutRef (named 0) y.0.0.0 (param 1 V)) in
        qed 𝓛 (raw (C.pre z) ∷ []) ∵ use1 𝓛 (raw ((D t).pre z)) (allocates_by z e) $
        enter ! tables'.C tables'.Λ function (vptr y.0.3.0.ref_ptr.0 y.0.3.0.ref_ptr.1 ∷ shr_slice_vals y.0.3.1.0) _ $
        alloc_all ! (λ l. pass_all ! refl ((tt, tt), ((tt, (tt, (record { fits = are.1.0.0.1.0 }, tt))), tt)) $
        -- [what the call requires; the locals]
        sets ! (addr ! (through ! refl (stop !))) refl (tt, tt) $
        calls_at ! (framed 𝓤 𝓛.H 𝓜 (tables 𝓤 𝓛.H 𝓜 𝓡 𝓡.env)) (D t) meets_by z
        (and_then ! (get ! refl) (and_then ! (get ! refl) (no_more !))) (λ v.
        use1 𝓛 (later (some (λ (r : Res.Denot). (raw (alive 𝓛 S y.0.0 y.0.1) ⊛ ‵ (Res.own_val r (v ∷ []))) ⊛ raw
        ((lend.spec P V g d dd 𝓛 𝓜.mem 𝓡.returns y.0.0 y.0.3).ensures tt r)))) (id⊢ 𝓤 _) $ await ! tt $ pick !
        (λ r. split ! $ split ! $ move ! (1 ∷ []) $
        peeks ! Res (Is Res) (shows 𝓛 Res) r (v ∷ []) (λ is.
        lands_as ! refl refl ((lawful y.0.0.0).typed r (v ∷ []) is).0 $
        returns ! (look_at ! 0 refl) $ free_all ! refl $
        move ! (1 ∷ 0 ∷ []) $ join ! $ join ! $ by !
        (via 𝓤 (ex 𝓤 (Done z v)) (ex_i 𝓤 (Done z v) r) (𝓛.laws.⇛_intro (ex 𝓤 (Done z v))))))))

    walk : (y : C.Ghost) → size y ≡ t → ent 𝓤 (C.pre y) (WpFn 𝓤 𝓛.H tables'.C tables'.Λ function (C.args y) (C.post y))
    walk y e =
        let R = (lend.spec P V g d dd 𝓛 𝓜.mem 𝓡.returns y.0.0 y.0.3).requires tt in
        via 𝓤 (sep 𝓤 R (wand 𝓤 R (Does y y.0.4)))
        (via 𝓤 (sep 𝓤 (wand 𝓤 R (Does y y.0.4)) R)
        (mono_l 𝓤 R (said 𝓛 S y.0.0 y.0.1 (spells y.0.0)
        (mut_Tells (named 0) y.0.0.0 Row, (shr_slice_Tells (named 1) y.0.0.1.0 u8, tt)) y.0.3
        (λ us. wand 𝓤 R (Does y us)) y.0.4 (λ are. wand_i 𝓤 _ R _ (written y e are))))
        (comm∗ 𝓤 (wand 𝓤 R (Does y y.0.4)) R))
        (apply∗ 𝓤 R (Does y y.0.4))

pub +lend_spec : {M : Type 1} → statement M
unfolding tables_of
+lend_spec 𝓤 𝓛 𝓜 𝓡 wired P V LP LV g d dd met drops =
    mutual_elim 𝓛 (functions 𝓛 P V g d dd 𝓜.mem 𝓡.run 𝓡.returns 𝓡.env) ◌<◌ lt-wf_rel.wf
    (measured 𝓛 _ (size 𝓤 𝓛 𝓜 𝓡 wired P V LP LV g d dd met drops))
    (λ t smaller. at_on 𝓛 (lend.signature P V g d dd) (lend.spec P V g d dd 𝓛 𝓜.mem 𝓡.returns) _ _
    (code.lend-unfolded 𝓤 𝓛.H 𝓜 𝓡 wired (P, (V, tt)) d dd) (size 𝓤 𝓛 𝓜 𝓡 wired P V LP LV g d dd met drops) t
    (walk 𝓤 𝓛 𝓜 𝓡 wired P V LP LV g d dd met drops t
    (λ y less. smaller (size 𝓤 𝓛 𝓜 𝓡 wired P V LP LV g d dd met drops y) less y refl)))
