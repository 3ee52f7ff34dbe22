use Rattle.std.proofs.Common.{rules, of_calls, refl}
use Rattle.rart_cidr.proofs.network_table.intersect.call_for_both.Goals as goal

pub f-requires : goal.f-requires
f-requires g c = c.requires _ _ _ refl refl refl

pub returns : goal.returns
returns g c = record {
  key = c.args.net;
  left = c.args.target;
  right = c.args.target_there;
  key_is = refl;
  left_is = refl;
  right_is = refl;
  called = search (rules, of_calls);
}
