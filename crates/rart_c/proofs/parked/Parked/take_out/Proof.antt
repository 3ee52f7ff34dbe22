-- `take_out` tests the pointer, and lets `from_raw` make the box at one that isn't null.
use Rattle.std.proofs.Common.{◌≡◌, List, [], ◌∷◌, ◌++◌, refl, sym, ap, ◌∙◌, subst, lit<}
use Rattle.std.specs.Prelude.{None, Some}
use mir.Syntax.{a_type}
use mir.Val.{Val, vptr, vcons, vnil}
use mir.MapTy.{inst_fn}
use base.Fraction.{full_share}
use base.Logic.{SProp, ent, emp, id⊢}
use base.Fml.{ftrue, flft}
use prog.Wp.{WpFn}
use types.Kit.{‵, raw, ◌⊛◌, some, later, at_ret, ◌$◌, ◌∵◌, !, qed, by, move, keep, drop, split, split3, join, fsplit}
use types.Kit.{fjoin, pick, suffices, use0, use1, await, rewrite, feq_i}
use types.Run.{stop, fld, lit, of_opd, bin, no_more, and_then, first, branches, blocks, skips, exec, returns}
use types.Run.{returns_within, enter}
use types.ByLocal.{alloc_all, pass_all, free_all, look_at, get, get_in, sets, lands_last, env}
use types.Part.{agg, sub, whole}
use types.Match.{live}
use contract.Monad.{fact, fact_i}
use contract.BorrowLft.{◌⊑◌, ⊑_static}
use contract.Running.{tables}
use denote.Exit.{no, yes}
use denote.RattleType.{RattleType, owns}
use denote.Signature.{types_at, type_at, plain}
use denote.RawPtr.{Ptr, block_ptr, null_ptr, tests_null}
use denote.Param.{param, layout, layouts}
use denote.Param.NoDrop as NoDrop
use denote.Steps.{nothing, only, heard}
use denote.Triple.Clauses.{Lasts, lasts}
use denote.Triple.Spec.{triple_of}
use denote.Triple.Call.{calls_at_last}
use denote.Triple.Walked.{Stays, stay_dropped, walk_of, Goes-dropped}
use Rattle.core.proofs.alloc.Calls.{Goes-blank, handle_tells}
use Rattle.core.proofs.alloc.Shapes.{after}
use Rattle.core.proofs.atomic.Steps.{Ptr-Good, fm}
use Rattle.core.proofs.cell.Inside.{Good}
use Rattle.core.proofs.option.Made.{Some-of, none_of}
use Rattle.std_alloc.proofs.ResultValues.{and_tt}
use Rattle.std_alloc.proofs.BoxSteps.Form.{D, B, box_typed}
use Rattle.std_alloc.proofs.BoxSteps.Steps.{box_out, box_in}
use Rattle.std.proofs.raw_atomic.Walks.{proved_at, leaves}
use Rattle.std_heap.specs.contracts.Global.{the_row as heap_row}
use Rattle.std_heap.specs.contracts.GlobalAllocator.TheImpl.{ghosts, dict}
use Rattle.std_heap.proofs.GlobalAllocator.TheImpl.Met.{passed}
use Rattle.std_alloc.specs.contracts.boxed.Box.from_raw as callee
use Rattle.std_alloc.proofs.boxed.Box.from_raw.Met.{met}
use Rattle.rart_c.proofs.ParkedBoxes.{Heap, heap_laws, heaps, no_drop, boxes, Boxed, Parked, stored_as, stored_well}
use Rattle.rart_c.proofs.ParkedBoxes.{by_pointer, parked_out}
use Rattle.rart_c.specs.contracts.parked.Parked.take_out.{ended, clauses}
use Rattle.rart_c.specs.contracts.parked.Parked.take_out.Key.{name as #self}
use Rattle.rart_c.proofs.parked.Parked.take_out.Statement.{statement}
use Rattle.rart_c.proofs.parked.Parked.take_out.Code as code

pub take_out_spec : {M : Type 1} → statement M
unfolding Rattle.rart_c.proofs.Destruct++none.drop.Code.code
take_out_spec {M} 𝓤 𝓛 𝓜 𝓡 wired T L =
    let γ = 𝓡.env in
    let 𝓣 = tables 𝓤 𝓛.H 𝓜 𝓡 γ in
    let E = boxes T L in
    let R = param 0 T in
    let key = layouts (a_type ∷ []) (T, tt) in
    let fn = inst_fn key code.function in
    let En = ended T in
    let c = clauses T 𝓛 𝓜.mem 𝓡.returns in
    let hs : Stays En.signature.params En.kept =
    (stay_dropped (plain (λ _. Parked R)) no, (stay_dropped (plain (λ _. heap_row)) yes, tt)) in
    let Ek = callee.ended T Heap ghosts dict no_drop in
    let k = triple_of 𝓛 (callee.signature T Heap ghosts dict no_drop)
    (callee.spec T Heap ghosts dict no_drop 𝓛 𝓜.mem 𝓡.returns) in
    let allocates = passed γ (code.calls-std_heap::GlobalAllocator::allocate γ wired)
    (code.calls-std_heap::GlobalAllocator::deallocate γ wired) (code.calls-std_heap::GlobalAllocator::grow γ wired)
    (code.calls-std_heap::GlobalAllocator::shrink γ wired) M 𝓤 𝓛 𝓜 𝓡 in
    let undropped = NoDrop.glues "rart_c::Destruct++none::drop" γ (code.calls-rart_c::Destruct++none::drop γ
    wired) Heap heap_laws
    M 𝓤 𝓛 𝓜 𝓡 in
    let from_raw = met 𝓤 𝓛 𝓜 𝓡 (code.calls-std_alloc::boxed::Box::from_raw γ
    wired) T Heap L heap_laws ghosts dict no_drop
    allocates undropped in
    proved_at 𝓛 En hs c 𝓜 𝓡 (
      Goes-blank 𝓛 1 (plain (λ _. Parked R)) no (λ κs x f. tt),
      (Goes-dropped 𝓛 1 (plain (λ _. heap_row)) yes (λ κs x w. refl), tt),
    ) (#self key) fn
    (code.unfolded 𝓤 𝓛.H 𝓜 𝓡 wired (T, tt)) (λ z are.
    let κ = z.0.0.0 in let q = z.0.1.0 in
    let self = z.0.3.0 in let alloc = z.0.3.1.0 in
    let Post : Val → SProp 𝓤 = (walk_of 𝓛 En hs c).post z in
    let Run : List Val → SProp 𝓤 = λ vs. WpFn 𝓤 𝓛.H 𝓣.C 𝓣.Λ fn vs Post in
    let Out : RattleType = type_at En.signature.result z.0.0 in
    let tokens = ‵ (flft κ q) ⊛ ‵ ftrue in
    qed 𝓛 ((tokens ⊛ ‵ (owns (types_at En.signature.params z.0.0) z.0.3 z.0.4)) ∷ raw ((c z.0.0 z.0.3).requires z.1) ∷
    [])
    ∵ split ! $ move ! (1 ∷ []) $ fsplit ! $ move ! (1 ∷ []) $ fsplit ! $
    use1 𝓛 (‵ (Heap.own_val alloc z.0.4.1.0)) (id⊢ 𝓤 _) $ handle_tells heaps ! alloc z.0.4.1.0 (λ h second_is fits.
    move ! (2 ∷ []) $ parked_out R ! self z.0.4.0 (λ first_is.
    -- [what is parked; the heap; nothing; the lifetimes; the clauses]
    let starts : (p : Ptr) → self.at ≡ p → ent 𝓤 (Run (stored_as p ∷ h ∷ [])) (Run (z.0.4.0 ++ (z.0.4.1.0 ++ []))) =
    λ p at_is.
    let told : z.0.4.0 ≡ stored_as p ∷ [] = first_is ∙ ap (λ (a : Ptr). stored_as a ∷ []) at_is in
    subst (λ (vs : List Val). ent 𝓤 (Run (stored_as p ∷ h ∷ [])) (Run vs))
    (sym (λ i. told i ++ (second_is i ++ []))) (id⊢ 𝓤 (Run (stored_as p ∷ h ∷ []))) in
    by_pointer R ! self.at self.value
    (λ at_is is_none.
    let answer : Val = live 0 vnil in
    let good : Good (layout Out) answer = (tt, (record { fits = lit< tt }, tt)) in
    suffices ! (Run (stored_as null_ptr ∷ h ∷ [])) (starts null_ptr at_is) $
    enter ! 𝓣.C 𝓣.Λ fn (stored_as null_ptr ∷ h ∷ []) Post $
    alloc_all ! (λ l. pass_all ! refl (stored_well R null_ptr, (fits, tt)) $
    sets ! (of_opd ! (get_in ! (fld ! refl (stop !)) (sub ! 0 refl (whole !)))) refl (Ptr-Good null_ptr) $
    sets ! (of_opd ! (get ! refl)) refl (Ptr-Good null_ptr) $
    sets ! (bin ! (get ! refl) (lit ! tt) tt) refl (tt, tt) $ first ! $ branches ! (get ! refl)
    (λ _. sets ! (agg ! (and_then ! (lit ! tt) (no_more !))) refl good $
    use0 𝓛 (‵ (Out.own_val None (answer ∷ []))) (none_of 𝓛 (Boxed R)) $
    use0 𝓛 (raw (fact 𝓤 (self.value ≡ None))) (fact_i 𝓤 (self.value ≡ None) (emp 𝓤) is_none) $
    nothing ! $ nothing ! $ fjoin ! $ nothing ! $ fjoin ! $
    returns_within ! Post refl (look_at ! 0 refl) $ free_all ! refl $ keep ! (5 ∷ 0 ∷ 2 ∷ 1 ∷ []) $
    by ! (leaves 𝓛 En hs c z answer None (tt, (tt, tt)) (tt, (tt, tt))))
    (λ wrong. absurd wrong)))
    (λ b o x at_is is_some tested.
    let p = block_ptr b o in
    let y : k.Ghost =
    (((κ, ([], tt)), (q, (full_share, tt)), tt, (alloc, (p, tt)), (h ∷ [], (vptr b o ∷ [], tt))), x) in
    let lives = κ ⊑ T.lives in let heap_lives = [] ⊑ Heap.lives in
    -- [the box's memory; the heap; nothing; the lifetimes; the clauses]: the call's clauses, lifetimes and arguments
    move ! (4 ∷ []) $ use1 𝓛 (raw (fact 𝓤 lives) ⊛ ‵ ftrue) (id⊢ 𝓤 _) $ split ! $ move ! (1 ∷ []) $ drop ! $
    use0 𝓛 (raw (fact 𝓤 heap_lives)) (fact_i 𝓤 heap_lives (emp 𝓤) (⊑_static [])) $ move ! (0 ∷ 2 ∷ []) $ join ! $
    move ! (1 ∷ 0 ∷ []) $ join ! $ move ! (3 ∷ []) $ split ! $
    use0 𝓛 (‵ (flft [] full_share)) (𝓛.lfts.lft-nil full_share) $ move ! (0 ∷ 2 ∷ []) $ join ! $ move ! (1 ∷ 0 ∷ []) $
    join ! $ move ! (3 ∷ []) $ feq_i ! (List Val) (vptr b o ∷ []) (vptr b o ∷ []) refl $ fjoin ! $ move ! (3 ∷ 0 ∷ []) $
    fjoin ! $ move ! (1 ∷ 0 ∷ []) $ join ! $ join ! $ use1 𝓛 (raw (k.pre y)) (id⊢ 𝓤 _) $
    suffices ! (Run (stored_as p ∷ h ∷ [])) (starts p at_is) $
    enter ! 𝓣.C 𝓣.Λ fn (stored_as p ∷ h ∷ []) Post $
    alloc_all ! (λ l. pass_all ! refl (stored_well R p, (fits, tt)) $ let Ev = env fn.locals l in
    sets ! (of_opd ! (get_in ! (fld ! refl (stop !)) (sub ! 0 refl (whole !)))) refl (tt, tt) $
    sets ! (of_opd ! (get ! refl)) refl (tt, tt) $
    sets ! (bin ! (get ! refl) (lit ! tt) (tests_null p tested)) refl (tt, tt) $ first ! $ branches ! (get ! refl)
    (λ wrong. absurd wrong) (λ _. skips ! $ exec ! 𝓣.C 𝓣.Λ Ev (after 4 fn.body) (at_ret Ev Post) $
    first ! $ blocks ! $ sets ! (of_opd ! (get ! refl)) refl fits $ sets ! (of_opd ! (get ! refl)) refl (tt, tt) $
    calls_at_last ! (fm 𝓛 𝓜 𝓡) k from_raw y (and_then ! (get ! refl) (and_then ! (get ! refl) (no_more !))) (λ u.
    use1 𝓛 (later (some (λ (made : D E).
    ((‵ (flft κ q) ⊛ ‵ (flft [] full_share) ⊛ ‵ ftrue) ⊛ ‵ ((B E).own_val made (u ∷ []))) ⊛ some
    (λ (ls : Lasts Ek y.0.0 y.0.3). ‵ (lasts Ek y.0.0 y.0.3 ls) ⊛ (raw (fact 𝓤 (made.value ≡ x)) ⊛ raw
    (fact 𝓤 (made.alloc ≡ alloc))))))) (id⊢ 𝓤 (k.post y u)) $
    await ! tt $ pick ! (λ made. split ! $ move ! (1 ∷ []) $ pick ! (λ _. split3 ! $ drop ! $
    heard ! (made.value ≡ x) (λ value_is. drop ! $ split ! $ split3 ! $ move ! (1 ∷ []) $ drop ! $ join ! $ move !
    (1 ∷ []) $
    -- [the box; the lifetimes]
    box_out E ! made (u ∷ []) (λ b' o' h' at_new u_is fits'. box_in E ! made b' o' made.value at_new refl $
    rewrite ! 0 (λ (vs : List Val). ‵ ((B E).own_val made vs)) (sym u_is) refl $
    let boxed : Good (layout (Boxed R)) u = subst (Good (layout (Boxed R))) (sym (ap only u_is)) (box_typed E h' b' o'
    fits')
    in
    let answer : Val = live 1 (vcons u vnil) in
    let good : Good (layout Out) answer = (and_tt _ boxed.0, (record { fits = lit< tt }, (boxed.1, tt))) in
    let taken : self.value ≡ Some made.value = is_some ∙ ap Some (sym value_is) in
    lands_last ! refl boxed $ exec ! 𝓣.C 𝓣.Λ Ev (after 5 fn.body) (at_ret Ev Post) $
    sets ! (of_opd ! (get ! refl)) refl boxed $
    sets ! (agg ! (and_then ! (lit ! tt) (and_then ! (get ! refl) (no_more !)))) refl good $
    use1 𝓛 (‵ ((Boxed R).own_val made (u ∷ []))) (id⊢ 𝓤 _) $
    use1 𝓛 (‵ (Out.own_val (Some made) (answer ∷ []))) (Some-of 𝓛 (Boxed R) made u) $
    use0 𝓛 (raw (fact 𝓤 (self.value ≡ Some made.value))) (fact_i 𝓤 (self.value ≡ Some made.value) (emp 𝓤) taken) $
    nothing ! $ nothing ! $ fjoin ! $ nothing ! $ fjoin ! $
    returns ! (look_at ! 0 refl) $ free_all ! refl $ keep ! (3 ∷ 0 ∷ 2 ∷ 1 ∷ []) $
    by ! (leaves 𝓛 En hs c z answer (Some made) (tt, (tt, tt)) (tt, (tt, tt))))))))))))))
