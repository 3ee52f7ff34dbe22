use Rattle.rart.proofs.bulks.BulkEndLemmas.{on-err}
use Rattle.rart.proofs.bulks.IndexedLoads.{load-more, load-refused, load-starts, may-take, more-keys}
use Rattle.rart.proofs.bulks.IndexedLoads.{more-short, more-values}
use Rattle.rart.proofs.tree.bulk.indexed.build_by_index.Goals as goal

pub loop-at-init : goal.loop-at-init
loop-at-init g c = record {
  spine = c.new-builder.ensures.at _;
  loading = load-starts c.requires.nonempty (c.key_at.result, c.key_at.ensures, c.as_ref-last.ensures)
      (c.new-builder.ensures.pairs _) c.requires.callable
      (rw c.as_ref-last.ensures (g.met.K.KeyTrait.within c.key_at.result.now));
}

pub take_value-requires : goal.take_value-requires
take_value-requires g c = may-take c.loop-at.invariant.loading

pub put-requires-clause-within : goal.put-requires-clause-within
put-requires-clause-within g c = rw (g.met.K.KeyTrait.same_maximum, c.loop-at.invariant.loading.this.2)
    (g.met.K.KeyTrait.within c.loop-at.invariant.loading.this.0.now)

pub returns-in_err-put-clause-values_taken : goal.returns-in_err-put-clause-values_taken
returns-in_err-put-clause-values_taken g c = on-err _ (load-refused c.loop-at.invariant.loading c.take_value.ensures)

pub loop-at-preserved : goal.loop-at-preserved
loop-at-preserved g c = record {
  spine = c.in_ok-put.ensures.at;
  loading = load-more c.loop-at.invariant.loading c.take_value.ensures c.in_ok-put.ensures.pairs c.loop-at-test.true
      (c.key_at-in-loop-at.result, c.key_at-in-loop-at.ensures, c.as_ref-next.ensures) c.max-longest.ensures
      (rw c.as_ref-next.ensures (g.met.K.KeyTrait.within c.key_at-in-loop-at.result.now));
}

pub returns-in_err-root-clause-values_taken : goal.returns-in_err-root-clause-values_taken
returns-in_err-root-clause-values_taken g c = on-err _
    (load-refused c.loop-at.invariant.loading c.take_value-2.ensures)

pub returns-clause-keys : goal.returns-clause-keys
returns-clause-keys g c = more-keys c.loop-at.invariant.loading c.take_value-2.ensures c.in_ok-root.ensures.pairs

pub returns-clause-values : goal.returns-clause-values
returns-clause-values g c = more-values c.loop-at.invariant.loading c.take_value-2.ensures c.in_ok-root.ensures.pairs

pub returns-clause-longest : goal.returns-clause-longest
returns-clause-longest g c = more-short c.loop-at.invariant.loading c.take_value-2.ensures c.in_ok-root.ensures.pairs
