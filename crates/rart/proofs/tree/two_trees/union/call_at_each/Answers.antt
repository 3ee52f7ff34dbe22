use Rattle.std.proofs.Common.{ℕ, List, Option, of_calls, refl, rules, subst, sym}
use Rattle.std.specs.Option.{option_copied}
use Rattle.rart.specs.UnionCalls.{CalledAtEither, CallsAtEither}
use Rattle.rart.proofs.trees.UnionCallLemmas.{always-after-either, can-first, can-rest}
use Rattle.rart.proofs.tree.two_trees.union.call_at_each.Goals as goal

pub f-requires : goal.f-requires
f-requires g c = can-first _ _ _ _ _ _ c.in-Some.ensures.steps c.loop-key.invariant.callable _ _ _ refl refl refl

pub loop-key-preserved : goal.loop-key-preserved
loop-key-preserved g c =
    let called : CalledAtEither g.F.FnMut g.K.KeyTrait.bytes c.loop-key.f (
      g.K.KeyTrait.bytes c.in-Some.key,
      (option_copied c.in-Some.value, option_copied c.in-Some.other),
    ) c.f.new.self
    = record {
      key = c.in-Some.key;
      left = c.in-Some.value;
      right = c.in-Some.other;
      key_is = refl;
      left_is = refl;
      right_is = refl;
      called = search (rules, of_calls);
    } in
    record {
      callable = can-rest _ _ _ _ _ _ _ c.in-Some.ensures.steps called c.loop-key.invariant.callable;
      folds = λ last h. c.loop-key.invariant.folds last
          (subst (λ (x : List (List ℕ × (Option g.row.V.Denot × Option g.row.W.Denot))).
          CallsAtEither g.F.FnMut g.K.KeyTrait.bytes c.loop-key.f x last) (sym c.in-Some.ensures.steps)
          (c.f.new.self, called, h));
    }

pub returns-clause-stays_callable : goal.returns-clause-stays_callable
returns-clause-stays_callable g c = always-after-either _ _ _ _ _
    (c.loop-key.invariant.folds c.loop-key.f
    (subst (λ (x : List (List ℕ × (Option g.row.V.Denot × Option g.row.W.Denot))).
    CallsAtEither g.F.FnMut g.K.KeyTrait.bytes c.loop-key.f x c.loop-key.f)
    (sym c.in_default.ensures.steps.0) refl))
