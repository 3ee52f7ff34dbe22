use Rattle.std.proofs.Common.{arith, sym}
use Rattle.std.proofs.lemmas.List.{length-map}
use Rattle.rart.proofs.bulks.CopyLemmas.{copied-all, copied-more, left-shorter}
use Rattle.rart.proofs.bulks.CopyLemmas.{capacity-begins, capacity-for-next, capacity-stays}
use Rattle.rart.proofs.script.copied_values.Goals as goal

pub loop-value-init : goal.loop-value-init
loop-value-init g c = record {
  so_far = rw (c.in_ok-values.ensures.items, c.in_ok-rest.ensures.values);
  values_fit = capacity-begins _ _ _ _ c.in_ok-values.ensures.items c.in_ok-rest.ensures.values
      (omega (
        arith,
        length-map c.args.tree.now.pairs (λ e. e.1),
        c.len.ensures.value,
        c.in_ok-values.ensures.capacity,
      ));
}

pub loop-value-smaller : goal.loop-value-smaller
loop-value-smaller g c = left-shorter _ _ _ c.in-Some.ensures.steps

pub loop-value-preserved : goal.loop-value-preserved
loop-value-preserved g c = record {
  so_far = copied-more _ _ _ _ _ _ c.push_reserved.ensures.items c.in-Some.ensures.steps
      c.loop-value.invariant.so_far;
  values_fit = capacity-stays _ _ c.push_reserved.ensures.items c.in-Some.ensures.steps
      c.push_reserved.ensures.capacity c.loop-value.invariant.values_fit;
}

pub push_reserved-requires : goal.push_reserved-requires
push_reserved-requires g c = capacity-for-next _ _ _ _ _ _ c.loop-value.values.ok.0 c.in-Some.ensures.steps
    c.loop-value.invariant.values_fit

pub returns-clause-values : goal.returns-clause-values
returns-clause-values g c = sym (copied-all _ _ _ (sym c.loop-value.invariant.so_far)
    c.in_default.ensures.steps.0)
