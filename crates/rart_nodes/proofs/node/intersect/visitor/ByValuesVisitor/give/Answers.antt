use Rattle.std.proofs.Common.{rules, of_calls, refl}
use Rattle.rart_nodes.specs.joins.PairCalls.{CalledWith}
use Rattle.rart_nodes.proofs.node.intersect.visitor.ByValuesVisitor.give.Goals as goal

pub f-requires : goal.f-requires
f-requires g c = c.requires.callable _ _ refl refl

pub returns : goal.returns
returns g c =
    let called : CalledWith g.F.FnMut c.args.f.now (c.args.left.now, c.args.right.now) c.f.new.self
    = record {
      left = c.args.left;
      right = c.args.right;
      left_is = refl;
      right_is = refl;
      called
          = search (rules, of_calls);
    } in
    record { calls = (refl, (c.f.new.self, called, refl)) }
