-- `none` makes a null pointer, which owns nothing.
use Rattle.std.proofs.Common.{◌≡◌, [], ◌∷◌, refl}
use Rattle.std.specs.Prelude.{Option, None}
use mir.Syntax.{a_type}
use mir.Val.{Val}
use mir.MapTy.{inst_fn}
use base.Logic.{SProp, emp}
use base.Fml.{ftrue, flft}
use types.Kit.{‵, raw, ◌⊛◌, ◌$◌, ◌∵◌, !, qed, by, keep, split, use0, feq_i}
use types.Run.{lit, no_more, and_then, returns, enter}
use types.ByLocal.{alloc_all, pass_all, free_all, look_at, sets}
use types.Part.{agg}
use contract.Monad.{fact, fact_i}
use contract.Running.{tables}
use denote.RawPtr.{null_ptr}
use denote.Param.{param, layouts}
use denote.Steps.{nothing}
use denote.Triple.Walked.{walk_of}
use Rattle.std.proofs.raw_atomic.Walks.{proved_at, leaves}
use Rattle.rart_c.proofs.ParkedBoxes.{stored_as, stored_well, parked_in}
use Rattle.rart_c.specs.contracts.parked.Parked.none.{ended, clauses}
use Rattle.rart_c.specs.contracts.parked.Parked.none.Key.{name as #self}
use Rattle.rart_c.proofs.parked.Parked.none.Statement.{statement}
use Rattle.rart_c.proofs.parked.Parked.none.Code as code

pub none_spec : {M : Type 1} → statement M
none_spec 𝓤 𝓛 𝓜 𝓡 wired T L =
    let 𝓣 = tables 𝓤 𝓛.H 𝓜 𝓡 𝓡.env in
    let R = param 0 T in
    let passed = layouts (a_type ∷ []) (T, tt) in
    let fn = inst_fn passed code.function in
    let c = clauses T 𝓛 𝓜.mem 𝓡.returns in
    let none : Option R.Denot = None in let is_none : Type 0 = none ≡ None in
    proved_at 𝓛 (ended T) tt c 𝓜 𝓡 tt (#self passed) fn (code.unfolded 𝓤 𝓛.H 𝓜 𝓡 wired (T, tt)) (λ z are.
    let κs = z.0.0 in
    let Post : Val → SProp 𝓤 = (walk_of 𝓛 (ended T) tt c).post z in
    let tokens = ‵ (flft κs.0 z.0.1.0) ⊛ ‵ ftrue in
    qed 𝓛 ((tokens ⊛ ‵ ftrue) ∷ raw ((c κs z.0.3).requires z.1) ∷ []) ∵ split ! $
    enter ! 𝓣.C 𝓣.Λ fn [] Post $ alloc_all ! (λ l. pass_all ! refl tt $
    sets ! (agg ! (and_then ! (lit ! tt) (no_more !))) refl (stored_well R null_ptr) $
    feq_i ! (Option R.Denot) None None refl $ parked_in R ! null_ptr None $
    use0 𝓛 (raw (fact 𝓤 is_none)) (fact_i 𝓤 is_none (emp 𝓤) refl) $ nothing ! $
    returns ! (look_at ! 0 refl) $ free_all ! refl $ keep ! (3 ∷ 0 ∷ 2 ∷ 1 ∷ []) $
    by ! (leaves 𝓛 (ended T) tt c z (stored_as null_ptr) (record { at = null_ptr; value = None }) tt tt)))
