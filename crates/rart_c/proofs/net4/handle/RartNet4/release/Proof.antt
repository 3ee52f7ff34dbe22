-- `release` gives the pointer up.
use Rattle.std.proofs.Common.{◌≡◌, List, [], ◌∷◌, ◌++◌, refl, sym, subst}
use mir.Val.{Val}
use base.Logic.{SProp, ent, emp, id⊢}
use base.Fml.{ftrue}
use prog.Wp.{WpFn}
use types.Kit.{‵, raw, ◌⊛◌, ◌$◌, ◌∵◌, !, qed, by, keep, move, split, fsplit, fjoin, suffices, use0}
use types.Run.{stop, fld, of_opd, no_more, and_then, returns, enter}
use types.ByLocal.{alloc_all, pass_all, free_all, look_at, get, get_in, sets}
use types.Part.{agg, sub, whole}
use contract.Monad.{fact, fact_i}
use contract.Running.{tables}
use denote.Exit.{yes}
use denote.RattleType.{owns}
use denote.Signature.{types_at, plain}
use denote.Steps.{nothing}
use denote.Triple.Walked.{Stays, stay_dropped, walk_of, Goes-dropped}
use Rattle.core.proofs.atomic.Steps.{Ptr-Good}
use Rattle.std.proofs.raw_atomic.Walks.{proved_at, leaves}
use Rattle.rart_c.specs.contracts.net4.Net4.{the_row as Row}
use Rattle.rart_c.specs.HandlesNet4.{table_of}
use Rattle.rart_c.proofs.ParkedBoxes.{stored_as, stored_well, parked_in}
use Rattle.rart_c.proofs.HandlesNet4.{Handle, handle_well, handle_out}
use Rattle.rart_c.specs.contracts.net4.handle.RartNet4.release.{ended, clauses}
use Rattle.rart_c.specs.contracts.net4.handle.RartNet4.release.Key.{name as #self}
use Rattle.rart_c.proofs.net4.handle.RartNet4.release.Statement.{statement}
use Rattle.rart_c.proofs.net4.handle.RartNet4.release.Code as code

pub release_spec : {M : Type 1} → statement M
release_spec 𝓤 𝓛 𝓜 𝓡 wired =
    let 𝓣 = tables 𝓤 𝓛.H 𝓜 𝓡 𝓡.env in
    let c = clauses 𝓛 𝓜.mem 𝓡.returns in
    let fn = code.function in
    let hs : Stays ended.signature.params ended.kept = (stay_dropped (plain (λ _. Handle)) yes, tt) in
    proved_at 𝓛 ended hs c 𝓜 𝓡 (Goes-dropped 𝓛 0 (plain (λ _. Handle)) yes (λ κs x w. refl), tt) #self fn
    (code.unfolded 𝓤 𝓛.H 𝓜 𝓡 wired) (λ z are.
    let handle = z.0.3.0 in
    let p = handle.at in
    let Post : Val → SProp 𝓤 = (walk_of 𝓛 ended hs c).post z in
    let Run : List Val → SProp 𝓤 = λ vs. WpFn 𝓤 𝓛.H 𝓣.C 𝓣.Λ fn vs Post in
    qed 𝓛 ((‵ ftrue ⊛ ‵ (owns (types_at ended.signature.params z.0.0) z.0.3 z.0.4)) ∷ ‵ ftrue ∷ []) ∵ split ! $
    move ! (1 ∷ []) $ fsplit ! $ handle_out ! handle z.0.4.0 (λ v stored held_is.
    suffices ! (Run (stored_as p ∷ [])) (subst (λ (vs : List Val). ent 𝓤 (Run (stored_as p ∷ [])) (Run vs))
    (sym (λ i. stored i ++ [])) (id⊢ 𝓤 (Run (stored_as p ∷ [])))) $
    enter ! 𝓣.C 𝓣.Λ fn (stored_as p ∷ []) Post $ alloc_all ! (λ l. pass_all ! refl (handle_well p, tt) $
    sets ! (of_opd ! (get_in ! (fld ! refl (stop !)) (sub ! 0 refl (whole !)))) refl (Ptr-Good p) $
    sets ! (of_opd ! (get ! refl)) refl (Ptr-Good p) $
    sets ! (agg ! (and_then ! (get ! refl) (no_more !))) refl (stored_well Row p) $
    parked_in Row ! p v $
    use0 𝓛 (raw (fact 𝓤 (handle.held ≡ table_of v))) (fact_i 𝓤 (handle.held ≡ table_of v) (emp 𝓤) held_is) $ nothing ! $
    nothing ! $ fjoin ! $ nothing ! $
    returns ! (look_at ! 0 refl) $ free_all ! refl $ keep ! (0 ∷ 1 ∷ 3 ∷ 2 ∷ []) $
    by ! (leaves 𝓛 ended hs c z (stored_as p) (record { at = p; value = v }) (tt, tt) (tt, tt)))))
