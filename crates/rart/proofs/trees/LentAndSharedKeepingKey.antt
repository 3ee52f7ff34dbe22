-- A function that lends its `&mut` to a call that inserts, and then shares it for good with a call that returns the
-- stored value, leaves the lender as the first call did. The first call takes the key by value, and returns it for the
-- second. This is no case of `LentAndShared`: the MIR has one local and one statement more, and the second call takes
-- two arguments.
use mathlib.Core.Path.{◌≡◌, refl, sym, subst}
use mathlib.Core.List.{List, [], ◌∷◌}
use seplogic.Ra.Ura.{Ura}
use mir.Syntax.{Fn, Callee, mut, imm, named, erased, place, seq, call, return}
use mir.Val.{Val}
use base.Fml.{Lft, ftrue, flft}
use base.Share
use base.Logic.{SProp, ent, sep, emp, ex, ex_i, via, fst∗, snd∗, id⊢}
use prog.Model.{Model}
use prog.Wp.{WpFn, Closed}
use types.ByLocal.{alloc_all, pass_all, free_all, look_at, get, through, sets, lands_as}
use types.Kit.{‵, raw, ◌⊛◌, some, later, ◌$◌, ◌∵◌, !, qed, by, move, drop, use0, use1, split, join, group}
use types.Kit.{fsplit, fjoin, pick, await}
use types.Logic.{Logic, sem}
use types.Run.{enter, of_opd, addr, stop, no_more, and_then, returns}
use contract.BorrowLft.{◌⊑◌, ⊑_trans, meet_⊑_right}
use contract.Lifetimes.{Lfts}
use contract.Monad.{fact, fact_i, fact_use}
use contract.Running.{Running, MachineTables, tables}
use denote.Exit.{yes, no}
use denote.Laws.{Is, Ises, Are, shows, owns_show, showss}
use denote.Param.{layout}
use denote.Param.Laws.{Laws, param_laws}
use denote.RattleType.{RattleType, owns}
use denote.Ref.{MutBor, MutRef, ShrRef, mut_vals, shr_vals, mut_Tells}
use denote.Signature.{Slot, plain, types_at}
use denote.Steps.{nothing, heard, peeks, only}
use denote.Triple.Call.{calls_at}
use denote.Triple.Clauses.{Ended, Lasts, lasts}
use denote.Triple.End.{Kepts}
use denote.Triple.Entry.{Args, alive, on_entry}
use denote.Triple.Spec.{Back}
use denote.Triple.Statement.{Contract, Triple}
use denote.Triple.Table.{entered, framed}
use Rattle.rart.proofs.trees.PresentLemmas as lemmas
use Rattle.rart.proofs.trees.WalkSteps.{Lone-is, Held, shown, lends, takes_back, shares_for_good}
use Rattle.rart.specs.contracts.tree.try_insert.Tried as tried
use Rattle.rart.proofs.tree.try_insert.Tried.TheLaws as tried_laws
use Rattle.rart.proofs.trees.Lending.{bounded_by, Lending, slot, from, copies, key, value, Answer, answer_is, lender}
use Rattle.rart.proofs.trees.Lending.{refers, lives_in, Inserted, Unchanged, Stored, Presented, at_exit, contract_of}
use Rattle.rart.proofs.trees.Lending.{within, are_within, Said, said}

-- a signature over the lifetimes of the reference to the lender, and of K, V and P
abbrev takes : (params : List (Slot 4)) → Kepts params → (Lfts 4 → RattleType) → Ended
takes params kept returned = record {
  signature = record {
    lifetimes = 4;
    outlives = bounded_by 1 0 tt tt ∷ bounded_by 2 0 tt tt ∷ [];
    params = params;
    result = plain returned;
  };
  kept = kept;
}

module _ {M : Type 1} (𝓤 : Ura M) (𝓛 : Logic 𝓤) (𝓜 : Model 𝓤 𝓛.H) (𝓡 : Running 𝓤 𝓛.H 𝓜) (L : Lending) where
  open L use {K, V, P, Lender, key_is, value_is, lender_is, view, bytes, inserting, presenting}

  abbrev Tried : RattleType
  Tried = tried.the_row (key L) (value L)

  abbrev tried_is : Laws Tried
  tried_is = tried_laws.the_row_laws (key L) (value L) (param_laws 0 K key_is) (param_laws 1 V value_is)

  abbrev function : Fn
  function = record {
    lifetimes = 1;
    outlives = (1, 0) ∷ (2, 0) ∷ [];
    ty_params = [];
    givens = 0;
    params = 3;
    locals = slot (layout (Answer L [])) ∷ lender L mut (named 0) ∷ slot (layout K) ∷ slot (layout V) ∷
        slot (layout Tried) ∷ lender L mut erased ∷ slot (layout K) ∷ slot (layout V) ∷ lender L imm erased ∷
        slot (layout Tried) ∷ [];
    body = refers L 5 (copies 6 2 (copies 7 3 (seq (call inserting (from 5 ∷ from 6 ∷ from 7 ∷ []) (place 4 []))
        (refers L 8 (copies 9 4 (seq (call presenting (from 8 ∷ from 9 ∷ []) (place 0 [])) return))))));
  }

  abbrev 𝓣 : MachineTables 𝓤 𝓛.H 𝓜
  𝓣 = tables 𝓤 𝓛.H 𝓜 𝓡 𝓡.env

  abbrev insertion : Ended
  insertion = takes (plain (λ κs. MutRef (named 0) κs.0 Lender) ∷ plain (λ κs. key L) ∷
      plain (λ κs. value L) ∷ []) (yes, (no, (no, tt))) (λ κs. Tried)

  abbrev Inserts : Contract 𝓤
  Inserts = contract_of 𝓛 insertion (λ κs a. within 𝓛 L κs.1.0 κs.1.1.0 κs.1.1.1.0 (emp 𝓤)) (λ κs a s ws.
      sep 𝓤 (fact 𝓤 (s.key ≡ a.1.0)) (sep 𝓤 (fact 𝓤 (Inserted L a.0.now a.1.0 a.1.1.0 s.outcome ws.0))
      (fact 𝓤 (Unchanged L a.0.now a.1.0 s.outcome ws.0))))

  abbrev presentation : Ended
  presentation = takes (plain (λ κs. ShrRef (named 0) κs.0 Lender) ∷ plain (λ κs. Tried) ∷ [])
      (no, (no, tt)) (λ κs. Answer L κs.0)

  abbrev Presents : Contract 𝓤
  Presents = contract_of 𝓛 presentation (λ κs a. within 𝓛 L κs.1.0 κs.1.1.0 κs.1.1.1.0
      (fact 𝓤 (Stored L a.0.now a.1.0.key a.1.0.outcome)))
      (λ κs a t ws. fact 𝓤 (Presented L a.0.now a.1.0.key κs.0 a.1.0.outcome t))

  abbrev whole : Ended
  whole = takes (plain (λ κs. MutRef (named 0) κs.0 Lender) ∷ plain (λ κs. key L) ∷
      plain (λ κs. value L) ∷ []) (no, (no, (no, tt))) (λ κs. Answer L κs.0)

  abbrev Answers : Contract 𝓤
  Answers = contract_of 𝓛 whole (λ κs a. within 𝓛 L κs.1.0 κs.1.1.0 κs.1.1.1.0 (emp 𝓤))
      (λ κs a t us. Said 𝓛 L a.0 a.1.0 a.1.1.0 κs.0 t)

  module _ (inserts : Triple 𝓤 (𝓣.C inserting) Inserts) (presents : Triple 𝓤 (𝓣.C presenting) Presents) where
    abbrev Walked : Answers.Ghost → Type 1
    Walked y = ent 𝓤 (Answers.pre y) (WpFn 𝓤 𝓛.H 𝓣.C 𝓣.Λ function (Answers.args y) (Answers.post y))

    abbrev with : Answers.Ghost → List Val → List Val → List Val → Answers.Ghost
    with y us us' us'' = ((y.0.0, y.0.1, y.0.2, y.0.3, (us, (us', (us'', tt)))), tt)

    walk : (y : Answers.Ghost) (u v : Val) → Walked (with y (mut_vals y.0.3.0) (u ∷ []) (v ∷ []))
    walk y u v =
        let κs = y.0.0 in let qs = y.0.1 in let bounds = y.0.2 in let a = y.0.3 in
        let κ = κs.0 in let q = qs.0 in let κ₁ = κs.1.0 in let κ₂ = κs.1.1.0 in let κ₃ = κs.1.1.1.0 in
        let q₃ = qs.1.1.1.0 in let r = a.0 in let k = a.1.0 in let x = a.1.1.0 in
        let Rest = ‵ (flft κ₁ qs.1.0) ⊛ ‵ (flft κ₂ qs.1.1.0) ⊛ ‵ (flft κ₃ q₃) ⊛ ‵ ftrue in
        qed 𝓛 (((‵ (flft κ q) ⊛ Rest) ⊛ (Held 𝓛 Lender κ r ⊛ ‵ ((key L).own_val k (u ∷ [])) ⊛ ‵
        ((value L).own_val x (v ∷ [])) ⊛ ‵ ftrue))
        ∷ (raw (fact 𝓤 (κ₁ ⊑ K.lives)) ⊛ raw (fact 𝓤 (κ₂ ⊑ V.lives)) ⊛ raw (fact 𝓤 (κ₃ ⊑ P.lives)) ⊛ ‵ ftrue) ∷ []) ∵
        move ! (1 ∷ []) $ split ! $ heard ! (κ₁ ⊑ K.lives) (λ in_key. split ! $ heard ! (κ₂ ⊑ V.lives) (λ in_value.
        split ! $ heard ! (κ₃ ⊑ P.lives) (λ in_partial. drop ! $
        split ! $ split ! $ move ! (2 ∷ []) $ split ! $ move ! (1 ∷ []) $ split ! $
        peeks ! (key L) (Is (key L)) (shows 𝓛 (key L)) k (u ∷ []) (λ is_key. let typed_key
        = (((param_laws 0 K key_is).lawful 𝓛).typed k (u ∷ []) is_key).0 in
        move ! (1 ∷ []) $ split ! $ move ! (1 ∷ []) $ drop ! $
        -- [the value; the key; the lender; its token; the other tokens]
        peeks ! (value L) (Is (value L)) (shows 𝓛 (value L)) x (v ∷ []) (λ is_value. let typed_value
        = (((param_laws 1 V value_is).lawful 𝓛).typed x (v ∷ []) is_value).0 in
        enter ! 𝓣.C 𝓣.Λ function (Answers.args (with y (mut_vals r) (u ∷ []) (v ∷ []))) _ $
        alloc_all ! (λ l. pass_all ! refl ((tt, tt), (typed_key, (typed_value, tt))) $
        sets ! (addr ! (through ! refl (stop !))) refl (tt, tt) $ sets ! (of_opd ! (get ! refl)) refl typed_key $ sets !
        (of_opd ! (get ! refl)) refl typed_value $
        move ! (3 ∷ 2 ∷ []) $ lends ! tt Lender κ q r (λ α δ.
        -- [the loan's token; the loan; what the lender keeps; the value; the key; the other tokens]
        let κ' : Lft = α ∷ κ in let κs' : Lfts 4 = (κ', κs.1) in let shorter = meet_⊑_right (α ∷ []) κ in
        let loan : MutBor Lender.Denot = record r { ghost_name = δ } in
        let a' : Args insertion.signature κs' = (loan, a.1) in
        let z : Inserts.Ghost = (
          (
            κs',
            (Share.right q, qs.1),
            (⊑_trans κ' κ κ₁ shorter bounds.0, (⊑_trans κ' κ κ₂ shorter bounds.1.0, tt)),
            a',
            (mut_vals loan, (u ∷ [], (v ∷ [], tt))),
          ),
          tt,
        ) in
        use0 𝓛 (raw (within 𝓛 L κ₁ κ₂ κ₃ (emp 𝓤)))
        (are_within 𝓛 L κ₁ κ₂ κ₃ in_key in_value in_partial (id⊢ 𝓤 (emp 𝓤))) $
        nothing ! $ move ! (3 ∷ 6 ∷ 5 ∷ 0 ∷ []) $ group ! 4 $
        -- [the arguments; what is required; the loan's token; what the lender keeps; the other tokens]
        move ! (2 ∷ 4 ∷ []) $ join ! $ join ! $ join ! $ use1 𝓛 (raw (Inserts.pre z)) (id⊢ 𝓤 _) $
        calls_at ! (framed 𝓤 𝓛.H 𝓜 𝓣) Inserts inserts z
        (and_then ! (get ! refl) (and_then ! (get ! refl) (and_then ! (get ! refl) (no_more !)))) (λ v₁.
        use1 𝓛 (later (some (λ (s : Tried.Denot). ((‵ (flft κ' (Share.right q)) ⊛ Rest) ⊛ ‵ (Tried.own_val s (v₁ ∷ [])))
        ⊛ some (λ (ws : Lasts insertion κs' a'). ‵ (lasts insertion κs' a' ws) ⊛
        raw (fact 𝓤 (s.key ≡ k)) ⊛ raw (fact 𝓤 (Inserted L r.now k x s.outcome ws.0)) ⊛
        raw (fact 𝓤 (Unchanged L r.now k s.outcome ws.0)))))) (id⊢ 𝓤 _) $
        await ! tt $ pick ! (λ s. split ! $ split ! $ split ! $ move ! (3 ∷ []) $ pick ! (λ ws. let n = ws.0 in
        split ! $ move ! (1 ∷ []) $ split ! $ heard ! (s.key ≡ k) (λ same. split ! $
        heard ! (Inserted L r.now k x s.outcome n) (λ inserted. heard ! (Unchanged L r.now k s.outcome n) (λ unchanged.
        fsplit ! $ fsplit ! $ move ! (1 ∷ []) $ drop ! $ move ! (1 ∷ []) $ drop ! $
        -- [the loan's last value; its token; the other tokens; what was tried; what the lender keeps]
        move ! (0 ∷ 1 ∷ 4 ∷ []) $ takes_back ! tt Lender κ q r α δ n $
        -- [the lender's token; the lender; the other tokens; what was tried]
        move ! (3 ∷ []) $ peeks ! Tried (Is Tried) (shows 𝓛 Tried) s (v₁ ∷ []) (λ is_tried. let typed_tried
        = ((tried_is.lawful 𝓛).typed s (v₁ ∷ []) is_tried).0 in
        lands_as ! refl refl typed_tried $ sets ! (addr ! (through ! refl (stop !))) refl (tt, tt) $ sets !
        (of_opd ! (get ! refl)) refl typed_tried $
        move ! (3 ∷ []) $ split ! $ move ! (1 ∷ []) $ split ! $ move ! (1 ∷ []) $ split ! $
        -- [P's token; nothing; V's token; K's token; what was tried; the lender's token; the lender]
        let ended : MutBor Lender.Denot = record r { now = n } in
        move ! (5 ∷ 0 ∷ 6 ∷ []) $ shares_for_good ! tt Lender lender_is κ q κ₃ q₃ ended
        (lives_in L κ κ₁ κ₂ κ₃ bounds.0 bounds.1.0 in_key in_value in_partial) $
        -- [the shared lender; its token; P's token; the last value; nothing; V's token; K's token; what was tried]
        move ! (1 ∷ 6 ∷ 5 ∷ 2 ∷ 4 ∷ []) $ group ! 5 $ nothing ! $ move ! (2 ∷ 4 ∷ 0 ∷ []) $ group ! 3 $
        -- [the arguments; the tokens; the last value]
        move ! (1 ∷ 0 ∷ []) $ join ! $
        let z' : Presents.Ghost
        = ((κs, qs, bounds, (shown ended, (s, tt)), (shr_vals (shown ended), (v₁ ∷ [], tt))), tt) in
        let stored = subst (λ (h : K.Denot). Stored L n h s.outcome) (sym same)
        (lemmas.stored_present (view r.now) (view n) (bytes k) x s.outcome inserted) in
        use0 𝓛 (raw (within 𝓛 L κ₁ κ₂ κ₃ (fact 𝓤 (Stored L n s.key s.outcome))))
        (are_within 𝓛 L κ₁ κ₂ κ₃ in_key in_value in_partial (fact_i 𝓤 _ (emp 𝓤) stored)) $
        move ! (1 ∷ 0 ∷ []) $ join ! $ use1 𝓛 (raw (Presents.pre z')) (id⊢ 𝓤 _) $
        calls_at ! (framed 𝓤 𝓛.H 𝓜 𝓣) Presents presents z'
        (and_then ! (get ! refl) (and_then ! (get ! refl) (no_more !))) (λ v₂.
        use1 𝓛 (later (some (λ (t : (Answer L κ).Denot). (raw (alive 𝓛 presentation.signature κs qs) ⊛ ‵
        ((Answer L κ).own_val t (v₂ ∷ []))) ⊛ some (λ (ws : Lasts presentation κs z'.0.3).
        ‵ (lasts presentation κs z'.0.3 ws) ⊛ raw (fact 𝓤 (Presented L n s.key κ s.outcome t)))))) (id⊢ 𝓤 _) $
        await ! tt $ pick ! (λ t. split ! $ move ! (1 ∷ []) $ pick ! (λ ws'. split ! $ drop ! $
        heard ! (Presented L n s.key κ s.outcome t) (λ presented'. let presented
        = subst (λ (h : K.Denot). Presented L n h κ s.outcome t) same presented' in
        split ! $ move ! (1 ∷ []) $
        peeks ! (Answer L κ) (Is (Answer L κ)) (shows 𝓛 (Answer L κ)) t (v₂ ∷ []) (λ is_answer.
        lands_as ! refl refl ((((answer_is L κ).lawful 𝓛).typed t (v₂ ∷ []) is_answer).0) $
        returns ! (look_at ! 0 refl) $
        free_all ! refl $
        -- [the result; the tokens; the last value]
        move ! (1 ∷ 0 ∷ []) $ join ! $ move ! (1 ∷ []) $
        use1 𝓛 (raw (Said 𝓛 L r k x κ t)) (said 𝓛 L r k x κ s.outcome n t inserted unchanged presented) $
        nothing ! $ nothing ! $ fjoin ! $ nothing ! $ fjoin ! $ nothing ! $ fjoin ! $ join ! $
        let Q : Lasts whole κs a → SProp 𝓤 = at_exit 𝓛 whole κs a (λ us. Said 𝓛 L r k x κ t) in
        let Done : (Answer L κ).Denot → SProp 𝓤 = λ t'. sep 𝓤 (Back 𝓛 whole.signature y.0 v₂ t')
        (ex 𝓤 (at_exit 𝓛 whole κs a (λ us. Said 𝓛 L r k x κ t'))) in
        use1 𝓛 (raw (ex 𝓤 Q)) (ex_i 𝓤 Q (tt, (tt, (tt, tt)))) $ move ! (1 ∷ 0 ∷ []) $ join ! $
        by ! (via 𝓤 (ex 𝓤 Done) (ex_i 𝓤 Done t) (𝓛.laws.⇛_intro (ex 𝓤 Done))))))))))))))))))))))

    walks : Triple 𝓤 (WpFn 𝓤 𝓛.H 𝓣.C 𝓣.Λ function) Answers
    walks y =
        let κs = y.0.0 in let qs = y.0.1 in let a = y.0.3 in let vss = y.0.4 in
        let Rs = types_at whole.signature.params κs in
        let On = on_entry 𝓛 whole.signature κs qs a vss in
        fact_use 𝓤 (Are Rs (Ises Rs) a vss) (via 𝓤 (sem 𝓛 (owns Rs a vss))
        (via 𝓤 On (fst∗ 𝓤 On (within 𝓛 L κs.1.0 κs.1.1.0 κs.1.1.1.0 (emp 𝓤)))
        (snd∗ 𝓤 (alive 𝓛 whole.signature κs qs) (sem 𝓛 (owns Rs a vss))))
        (owns_show 𝓛 Rs (Ises Rs) (showss 𝓛 Rs) a vss)) (λ are.
        subst (λ (us : List Val). Walked (with y us vss.1.0 vss.1.1.0))
        (sym (mut_Tells (named 0) κs.0 Lender a.0 vss.0 are.0))
        (subst (λ (us : List Val). Walked (with y (mut_vals a.0) us vss.1.1.0))
        (sym (Lone-is vss.1.0 ((param_laws 0 K key_is).single a.1.0 vss.1.0 are.1.0)))
        (subst (λ (us : List Val). Walked (with y (mut_vals a.0) (only vss.1.0 ∷ []) us))
        (sym (Lone-is vss.1.1.0 ((param_laws 1 V value_is).single a.1.1.0 vss.1.1.0 are.1.1.0)))
        (walk y (only vss.1.0) (only vss.1.1.0)))))

    pub lent_and_shared_keeping_key : (k : Callee) → Closed 𝓤 𝓛.H 𝓣.C 𝓣.Λ k function → Triple 𝓤 (𝓣.C k) Answers
    lent_and_shared_keeping_key k unfolded = entered 𝓤 𝓛.H Answers 𝓣.C 𝓣.Λ k function unfolded walks
