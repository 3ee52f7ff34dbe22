-- `of` lets `into_raw` give the box up, and keeps the pointer. The heap has no lifetime of its own: the call gets the
-- empty one for it.
use Rattle.std.proofs.Common.{◌≡◌, List, [], ◌∷◌, ◌++◌, refl, sym, ap, ◌∙◌, subst}
use Rattle.std.specs.Prelude.{Some}
use mir.Syntax.{a_type, dcons, dnil}
use mir.Raw.{raw as bare}
use mir.Val.{Val}
use mir.MapTy.{inst_fn}
use base.Fraction.{full_share}
use base.Logic.{SProp, ent, emp, never, id⊢, fst∗}
use base.Fml.{Fml, ftrue, flft}
use prog.Wp.{WpFn}
use types.Logic.{sem}
use types.Kit.{‵, raw, ◌⊛◌, some, later, ◌$◌, ◌∵◌, !, qed, by, move, keep, drop, split, split3, join, fsplit, fjoin}
use types.Kit.{pick, suffices, use0, use1, await, feq_l}
use types.Run.{of_opd, no_more, and_then, returns, enter}
use types.ByLocal.{alloc_all, pass_all, free_all, look_at, get, sets, lands_as}
use types.Part.{agg}
use contract.Monad.{fact, fact_i}
use contract.BorrowLft.{◌⊑◌, ⊑_static}
use contract.Running.{tables}
use denote.Exit.{no}
use denote.RattleType.{owns}
use denote.Builtin.{RawPtr}
use denote.Signature.{types_at, plain}
use denote.RawPtr.{Ptr, null_ptr, block_ptr, ptr_val, in_a_block}
use denote.Param.{param, layout, bounded}
use denote.Param.NoDrop as NoDrop
use denote.Steps.{nothing, only}
use denote.Triple.Clauses.{Lasts, lasts}
use denote.Triple.Spec.{triple_of}
use denote.Triple.Call.{calls_at}
use denote.Triple.Walked.{Stays, stay_dropped, walk_of}
use Rattle.core.proofs.alloc.Calls.{Goes-blank}
use Rattle.core.proofs.atomic.Steps.{fm}
use Rattle.std_alloc.specs.Box.Ownership.{box_owns}
use Rattle.std_alloc.proofs.BoxSteps.Form.{B, word, box_typed}
use Rattle.std_alloc.proofs.BoxSteps.Steps.{box_out, box_in}
use Rattle.std.proofs.raw_atomic.Walks.{proved_at, leaves}
use Rattle.std_heap.specs.contracts.GlobalAllocator.TheImpl.{ghosts, dict}
use Rattle.std_heap.proofs.GlobalAllocator.TheImpl.Met.{passed}
use Rattle.std_alloc.specs.contracts.boxed.Box.into_raw as callee
use Rattle.std_alloc.proofs.boxed.Box.into_raw.Met.{met}
use Rattle.rart_c.proofs.ParkedBoxes.{Heap, heap_laws, no_drop, boxes, Boxed, stored_as, stored_well, park, parked_in}
use Rattle.rart_c.specs.Heap.{heap}
use Rattle.rart_c.specs.contracts.parked.Parked.of.{ended, clauses}
use Rattle.rart_c.specs.contracts.parked.Parked.of.Key.{name as #self}
use Rattle.rart_c.proofs.parked.Parked.of.Statement.{statement}
use Rattle.rart_c.proofs.parked.Parked.of.Code as code

pub of_spec : {M : Type 1} → statement M
unfolding Rattle.rart_c.proofs.Destruct++none.drop.Code.code
of_spec {M} 𝓤 𝓛 𝓜 𝓡 wired T L drops glue =
    let γ = 𝓡.env in
    let 𝓣 = tables 𝓤 𝓛.H 𝓜 𝓡 γ in
    let E = boxes T L in
    let R = param 0 T in
    let key = bounded (a_type ∷ []) (T, tt) (dcons drops dnil) in
    let fn = inst_fn key code.function in
    let En = ended T drops in
    let c = clauses T drops 𝓛 𝓜.mem 𝓡.returns in
    let hs : Stays En.signature.params En.kept = (stay_dropped (plain (λ _. Boxed R)) no, tt) in
    let Ek = callee.ended T Heap ghosts dict no_drop drops in
    let k = triple_of 𝓛 (callee.signature T Heap ghosts dict no_drop drops)
    (callee.spec T Heap ghosts dict no_drop drops 𝓛 𝓜.mem 𝓡.returns) in
    let allocates = passed γ (code.calls-std_heap::GlobalAllocator::allocate γ wired)
    (code.calls-std_heap::GlobalAllocator::deallocate γ wired) (code.calls-std_heap::GlobalAllocator::grow γ wired)
    (code.calls-std_heap::GlobalAllocator::shrink γ wired) M 𝓤 𝓛 𝓜 𝓡 in
    let undropped = NoDrop.glues "rart_c::Destruct++none::drop" γ (code.calls-rart_c::Destruct++none::drop γ
    wired) Heap heap_laws
    M 𝓤 𝓛 𝓜 𝓡 in
    let into_raw = met 𝓤 𝓛 𝓜 𝓡 (code.calls-std_alloc::boxed::Box::into_raw γ
    wired) T Heap L heap_laws ghosts dict no_drop
    drops allocates undropped glue in
    proved_at 𝓛 En hs c 𝓜 𝓡 (Goes-blank 𝓛 1 (plain (λ _. Boxed R)) no (λ κs x f. tt), tt) (#self key) fn
    (code.unfolded 𝓤 𝓛.H 𝓜 𝓡 wired (T, tt) drops) (λ z are.
    let κ = z.0.0.0 in let q = z.0.1.0 in
    let held = z.0.3.0 in
    let Post : Val → SProp 𝓤 = (walk_of 𝓛 En hs c).post z in
    let Run : List Val → SProp 𝓤 = λ vs. WpFn 𝓤 𝓛.H 𝓣.C 𝓣.Λ fn vs Post in
    let tokens = ‵ (flft κ q) ⊛ ‵ ftrue in
    qed 𝓛 ((tokens ⊛ ‵ (owns (types_at En.signature.params z.0.0) z.0.3 z.0.4)) ∷ raw ((c z.0.0 z.0.3).requires z.1) ∷
    [])
    ∵ split ! $ move ! (1 ∷ []) $ fsplit ! $
    use1 𝓛 (‵ ((B E).own_val held z.0.4.0)) (id⊢ 𝓤 (sem 𝓛 ((Boxed R).own_val held z.0.4.0))) $
    box_out E ! held z.0.4.0 (λ b o h at_block stored fits.
    let v = word E h b o in
    let y : k.Ghost = (((κ, ([], tt)), (q, (full_share, tt)), tt, (held, tt), (v ∷ [], tt)), tt) in
    let lives = κ ⊑ T.lives in let heap_lives = [] ⊑ Heap.lives in
    let owner : Ptr → Fml = λ p. box_owns (ghosts.dealloc_token heap) R p held.value in
    -- [the box; the lifetimes; the clauses]
    box_in E ! held b o held.value at_block refl $ fjoin ! $ move ! (1 ∷ []) $ split ! $
    use0 𝓛 (‵ (flft [] full_share)) (𝓛.lfts.lft-nil full_share) $ move ! (0 ∷ 2 ∷ []) $ join ! $ move ! (1 ∷ 0 ∷ []) $
    join ! $ join ! $ move ! (1 ∷ []) $ use1 𝓛 (raw (fact 𝓤 lives) ⊛ ‵ ftrue) (id⊢ 𝓤 _) $ split ! $
    use0 𝓛 (raw (fact 𝓤 heap_lives)) (fact_i 𝓤 heap_lives (emp 𝓤) (⊑_static [])) $ move ! (0 ∷ 2 ∷ []) $ join ! $
    move ! (1 ∷ 0 ∷ []) $ join ! $ move ! (1 ∷ 0 ∷ []) $ join ! $ use1 𝓛 (raw (k.pre y)) (id⊢ 𝓤 _) $
    suffices ! (Run (v ∷ [])) (subst (λ (vs : List Val). ent 𝓤 (Run (v ∷ [])) (Run vs)) (sym (λ i. stored i ++ []))
    (id⊢ 𝓤 (Run (v ∷ [])))) $
    enter ! 𝓣.C 𝓣.Λ fn (v ∷ []) Post $ alloc_all ! (λ l. pass_all ! refl (box_typed E h b o fits, tt) $
    sets ! (of_opd ! (get ! refl)) refl (box_typed E h b o fits) $
    calls_at ! (fm 𝓛 𝓜 𝓡) k into_raw y (and_then ! (get ! refl) (no_more !)) (λ u.
    use1 𝓛 (later (some (λ (r : Ptr).
    ((‵ (flft κ q) ⊛ ‵ (flft [] full_share) ⊛ ‵ ftrue) ⊛ ‵ (RawPtr.own_val r (u ∷ []))) ⊛ some
    (λ (ls : Lasts Ek y.0.0 y.0.3). ‵ (lasts Ek y.0.0 y.0.3 ls) ⊛ ‵ (owner r))))) (id⊢ 𝓤 (k.post y u)) $
    await ! tt $ pick ! (λ r. split ! $ move ! (1 ∷ []) $ pick ! (λ _. split ! $ drop ! $
    in_a_block ! r owner (fst∗ 𝓤 (never 𝓤) (sem 𝓛 (ghosts.dealloc_token heap (bare (layout T)) null_ptr))) (λ
    b' o' at_r.
    let p = block_ptr b' o' in
    park R ! b' o' held.value $ parked_in R ! p (Some held.value) $ move ! (1 ∷ []) $ split ! $ move ! (1 ∷ []) $
    -- [the pointer; the lifetimes; what is parked]
    feq_l ! (λ u_is. lands_as ! (ap only u_is ∙ ap ptr_val at_r) refl (tt, tt) $
    sets ! (agg ! (and_then ! (get ! refl) (no_more !))) refl (stored_well R p) $
    split3 ! $ move ! (1 ∷ []) $ drop ! $ join ! $
    use0 𝓛 (raw (fact 𝓤 (Some held.value ≡ Some held.value))) (fact_i 𝓤 (Some held.value ≡ Some held.value) (emp 𝓤)
    refl) $
    nothing ! $ nothing ! $ fjoin ! $
    returns ! (look_at ! 0 refl) $ free_all ! refl $ keep ! (2 ∷ 0 ∷ 3 ∷ 1 ∷ []) $
    by ! (leaves 𝓛 En hs c z (stored_as p) (record { at = p; value = Some held.value }) (tt, tt) (tt, tt))))))))))
