use Rattle.std.proofs.Common.{arith, refl}
use Rattle.rart.proofs.bulks.LoaderLemmas.{none-within}
use Rattle.rart.proofs.tree.bulk.loader.Loader.new.Goals as goal

pub invariant_of-result : goal.invariant_of-result
invariant_of-result g c = record {
  at_last = λ k. (c.new.ensures.at k, c.new.ensures.pairs k);
  counted = refl;
  few = omega arith;
  short = omega arith;
  within = none-within g.K.KeyTrait.MAXIMUM_SIZE;
  unused = λ z. refl;
}
