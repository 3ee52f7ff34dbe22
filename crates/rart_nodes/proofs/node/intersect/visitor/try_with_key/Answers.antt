use Rattle.std.proofs.Common.{◌≡◌, rules, of_calls, refl, Ok, Err}
use Rattle.rart_nodes.specs.declared.node.control.VisitControl.TheVariants.{Continue, Stop}
use Rattle.rart_nodes.specs.joins.TriedPairs.{AnsweredAt}
use Rattle.rart_nodes.proofs.node.intersect.visitor.try_with_key.Goals as goal

pub f-requires : goal.f-requires
f-requires g c = c.requires.callable _ _ _ c.new_from_slice.ensures refl refl

pub returns-in-Ok-Continue : goal.returns-in-Ok-Continue
returns-in-Ok-Continue g c =
    let on : c.f.result ≡ Ok Continue = rw (c.in-Ok-Continue.is, c.in-Ok-Continue.field-0-is) refl in
    let called : AnsweredAt g.F.FnMut g.K.KeyTrait.bytes c.args.f.now
    (c.args.bytes.now, (c.args.left.now, c.args.right.now)) (Ok Continue) c.f.new.self = record {
      key = c.new_from_slice.result;
      left = c.args.left;
      right = c.args.right;
      key_is = c.new_from_slice.ensures;
      left_is = refl;
      right_is = refl;
      called = rw (← on) (search (rules, of_calls));
    } in
    (Ok Continue, (c.f.new.self, (called, (refl, refl))))

pub returns-in-Ok-Stop : goal.returns-in-Ok-Stop
returns-in-Ok-Stop g c =
    let on : c.f.result ≡ Ok Stop = rw (c.in-Ok-Stop.is, c.in-Ok-Stop.field-0-is) refl in
    let called : AnsweredAt g.F.FnMut g.K.KeyTrait.bytes c.args.f.now
    (c.args.bytes.now, (c.args.left.now, c.args.right.now)) (Ok Stop) c.f.new.self = record {
      key = c.new_from_slice.result;
      left = c.args.left;
      right = c.args.right;
      key_is = c.new_from_slice.ensures;
      left_is = refl;
      right_is = refl;
      called = rw (← on) (search (rules, of_calls));
    } in
    (Ok Stop, (c.f.new.self, (called, (refl, refl))))

pub returns-in-Err : goal.returns-in-Err
returns-in-Err g c =
    let on : c.f.result ≡ Err c.in-Err.error = c.in-Err.is in
    let called : AnsweredAt g.F.FnMut g.K.KeyTrait.bytes c.args.f.now
    (c.args.bytes.now, (c.args.left.now, c.args.right.now)) (Err c.in-Err.error) c.f.new.self = record {
      key = c.new_from_slice.result;
      left = c.args.left;
      right = c.args.right;
      key_is = c.new_from_slice.ensures;
      left_is = refl;
      right_is = refl;
      called = rw (← on) (search (rules, of_calls));
    } in
    (Err c.in-Err.error, (c.f.new.self, (called, (refl, refl))))
