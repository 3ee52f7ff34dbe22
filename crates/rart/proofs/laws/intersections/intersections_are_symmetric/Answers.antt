use Rattle.std.proofs.Common.{Result, Ok, Err, inl, inr}
use Rattle.std.specs.Prelude.{OnErr}
use Rattle.std.proofs.lemmas.Result.{IfErr-weaker}
use Rattle.rart_nodes.specs.joins.SeenJoins.{MayLackBoth}
use Rattle.rart.proofs.trees.EditLemmas.{same-error}
use Rattle.rart.proofs.laws.intersections.intersections_are_symmetric.Goals as goal

-- what holds anyway holds on an error
on-err : {T E P : Type 0} (r : Result T E) → P → OnErr r P
on-err (Ok t) holds = tt
on-err (Err e) holds = holds

pub intersect_with_by_ref-requires-2 : goal.intersect_with_by_ref-requires-2
intersect_with_by_ref-requires-2 g c = record {
  callable = rw (c.joins.ensures.other_way c.args.one.now.pairs c.args.other.now.pairs c.canonical.ensures.ascending
      c.canonical-2.ensures.ascending) c.requires.callable_back;
}

pub returns-clause-other_way : goal.returns-clause-other_way
returns-clause-other_way g c = rw (← c.joins.ensures.other_way c.args.one.now.pairs c.args.other.now.pairs
    c.canonical.ensures.ascending c.canonical-2.ensures.ascending) c.intersect_with_by_ref-2.ensures.calls

pub returns-in_err-intersect_with_by_ref-clause-ascending : goal.returns-in_err-intersect_with_by_ref-clause-ascending
returns-in_err-intersect_with_by_ref-clause-ascending g c =
    c.joins.ensures.ascending _ c.args.other.now.pairs c.canonical.ensures.ascending

pub returns-in_err-intersect_with_by_ref-clause-common : goal.returns-in_err-intersect_with_by_ref-clause-common
returns-in_err-intersect_with_by_ref-clause-common g c = λ k. c.joins.ensures.looks k _ _ c.canonical.ensures.ascending

pub returns-in_err-intersect_with_by_ref-clause-once_or_never :
    goal.returns-in_err-intersect_with_by_ref-clause-once_or_never
returns-in_err-intersect_with_by_ref-clause-once_or_never g c = on-err c.from_residual.result
    (inl c.in_err-intersect_with_by_ref.ensures.unchanged)

pub returns-in_err-intersect_with_by_ref-clause-memory : goal.returns-in_err-intersect_with_by_ref-clause-memory
returns-in_err-intersect_with_by_ref-clause-memory g c = same-error (MayLackBoth _ _) c.from_residual.result _
    c.from_residual.ensures.1 c.in_err-intersect_with_by_ref.ensures.memory

pub returns-clause-ascending : goal.returns-clause-ascending
returns-clause-ascending g c = c.joins.ensures.ascending _ c.args.other.now.pairs c.canonical.ensures.ascending

pub returns-clause-common : goal.returns-clause-common
returns-clause-common g c = λ k. c.joins.ensures.looks k _ _ c.canonical.ensures.ascending

pub returns-clause-once_or_never : goal.returns-clause-once_or_never
returns-clause-once_or_never g c = on-err c.intersect_with_by_ref-2.result
    (inr c.in_ok-intersect_with_by_ref.ensures.calls)

pub returns-clause-memory : goal.returns-clause-memory
returns-clause-memory g c = IfErr-weaker c.intersect_with_by_ref-2.result
    (MayLackBoth c.args.other.now.pairs c.args.one.now.pairs) (MayLackBoth c.args.one.now.pairs c.args.other.now.pairs)
    (λ e lacks. (lacks.0, lacks.2, lacks.1)) c.intersect_with_by_ref-2.ensures.memory
