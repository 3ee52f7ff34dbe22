use Rattle.std.proofs.Common.{◌≡◌, ◌≤◌, map}
use Rattle.std.specs.Prelude.{vec_capacity}
use Rattle.rart.specs.Steps.{pairs_in}
use Rattle.rart.proofs.script.copies.copied_pairs.Given as goal

abbrev pub invariant-loop-key : goal.invariant-loop-key
invariant-loop-key g l = record {
  can : (goal.iterator-loop-key g).can_next l.key-iterator;
  finite : (goal.iterator-loop-key g).is_finite l.key-iterator;
  capacity : vec_capacity l.fn.pairs ≤ vec_capacity l.pairs;
  so_far : pairs_in g.K.KeyTrait.bytes l.pairs.items ≡ map (λ p. (g.K.KeyTrait.bytes p.0, p.1.now)) l.yielded;
}
