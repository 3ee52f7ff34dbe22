use Rattle.std.proofs.Common.{length, ap, arith}
use Rattle.rart.proofs.trees.UnionLemmas.{steps-both, steps-first, steps-second}
use Rattle.rart.proofs.tree.two_trees.union.UnionIterIterator.next.Goals as goal

pub returns-in_ok-key-in-Less-clause-steps : goal.returns-in_ok-key-in-Less-clause-steps
returns-in_ok-key-in-Less-clause-steps g c =
    steps-first _ _ _ _ _ _ c.self.view_is c.self.invariant c.in_ok-order.ensures c.in-Less.is
    c.in_ok-key-in-Less.ensures

pub returns-in_ok-key-in-Less-clause-goes : goal.returns-in_ok-key-in-Less-clause-goes
returns-in_ok-key-in-Less-clause-goes g c =
    let steps = steps-first _ _ _ _ _ _ c.self.view_is c.self.invariant c.in_ok-order.ensures c.in-Less.is
    c.in_ok-key-in-Less.ensures in
    record { on = λ _. (tt, tt, omega (arith, ap length steps)); keeps = tt; rests = λ _. tt }

pub returns-in_ok-other-in-Equal-clause-steps : goal.returns-in_ok-other-in-Equal-clause-steps
returns-in_ok-other-in-Equal-clause-steps g c =
    steps-both c.self.view_is c.self.invariant c.in_ok-order.ensures c.in-Equal.is
    c.in_ok-key-in-Equal.ensures c.in_ok-other-in-Equal.ensures

pub returns-in_ok-other-in-Equal-clause-goes : goal.returns-in_ok-other-in-Equal-clause-goes
returns-in_ok-other-in-Equal-clause-goes g c =
    let steps = steps-both c.self.view_is c.self.invariant c.in_ok-order.ensures c.in-Equal.is
    c.in_ok-key-in-Equal.ensures c.in_ok-other-in-Equal.ensures in
    record { on = λ _. (tt, tt, omega (arith, ap length steps)); keeps = tt; rests = λ _. tt }

pub returns-in_ok-key-in-Greater-clause-steps : goal.returns-in_ok-key-in-Greater-clause-steps
returns-in_ok-key-in-Greater-clause-steps g c =
    steps-second _ _ _ _ _ _ c.self.view_is c.self.invariant c.in_ok-order.ensures c.in-Greater.is
    c.in_ok-key-in-Greater.ensures

pub returns-in_ok-key-in-Greater-clause-goes : goal.returns-in_ok-key-in-Greater-clause-goes
returns-in_ok-key-in-Greater-clause-goes g c =
    let steps = steps-second _ _ _ _ _ _ c.self.view_is c.self.invariant c.in_ok-order.ensures c.in-Greater.is
    c.in_ok-key-in-Greater.ensures in
    record { on = λ _. (tt, tt, omega (arith, ap length steps)); keeps = tt; rests = λ _. tt }
