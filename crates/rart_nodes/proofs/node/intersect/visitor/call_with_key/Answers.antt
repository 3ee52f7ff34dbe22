use Rattle.std.proofs.Common.{rules, of_calls, refl}
use Rattle.rart_nodes.proofs.node.intersect.visitor.call_with_key.Goals as goal

pub f-requires : goal.f-requires
f-requires g c = c.requires.callable _ _ _ c.new_from_slice.ensures refl refl

pub returns : goal.returns
returns g c = record {
  key = c.new_from_slice.result;
  left = c.args.left;
  right = c.args.right;
  key_is = c.new_from_slice.ensures;
  left_is = refl;
  right_is = refl;
  called = search (rules, of_calls);
}
