use Rattle.std.proofs.Common.{◌≡◌, [], ap, rules}
use Rattle.rart.specs.Merges.{MergesUntil}
use Rattle.rart.proofs.trees.EditLemmas.{same-error}
use Rattle.rart.proofs.trees.MergeLemmas.{all-merged, always-after-merges, callable-on, merged-on, merged-until}
use Rattle.rart.proofs.trees.MergeLemmas.{merges-all}
use Rattle.rart.proofs.tree.AdaptiveRadixTree.merge_with_by_ref.Goals as goal

pub returns-then-is_empty-clause-merges : goal.returns-then-is_empty-clause-merges
returns-then-is_empty-clause-merges g c =
    let empty : c.args.self.now.pairs ≡ [] = search rules in
    merges-all g.F.FnMut g.K.KeyTrait.bytes c.args.f.now c.args.self.now.pairs c.args.other.now.pairs c.swap.new.x.pairs
    empty (ap (λ t. t.pairs) c.swap.ensures.x_after) c.canonical.ensures.ascending

pub returns-in_err-merge_first-clause-stays_callable : goal.returns-in_err-merge_first-clause-stays_callable
returns-in_err-merge_first-clause-stays_callable g c h =
    let r = c.in_err-merge_first.ensures.refused in
    always-after-merges g.F.FnMut g.K.KeyTrait.bytes r.before (c.pairs.f, c.pairs.self.pairs)
    (c.merge_first.new.f, c.merge_first.new.self.pairs) r.merged
    (always-after-merges g.F.FnMut g.K.KeyTrait.bytes c.pairs.invariant.merged.before
    (c.args.f.now, c.args.self.now.pairs) (c.pairs.f, c.pairs.self.pairs) c.pairs.invariant.merged.merged h)

pub returns-in_err-merge_first-clause-refused : goal.returns-in_err-merge_first-clause-refused
returns-in_err-merge_first-clause-refused g c =
    same-error (λ e. MergesUntil g.F.FnMut g.K.KeyTrait.bytes c.args.f.now c.args.self.now.pairs
    c.args.other.now.pairs e c.merge_first.new.f c.merge_first.new.self.pairs c.merge_first.new.other.pairs)
    c.from_residual.result
    c.in_err-merge_first.field-0.0 c.from_residual.ensures.1
    (merged-until g.F.FnMut g.K.KeyTrait.bytes c.args.f.now c.pairs.f c.merge_first.new.f c.args.self.now.pairs
    c.args.other.now.pairs c.pairs.self.pairs c.pairs.other.pairs c.merge_first.new.self.pairs
    c.merge_first.new.other.pairs c.in_err-merge_first.field-0.0 c.pairs.invariant.merged
    c.in_err-merge_first.ensures.refused)

pub pairs-preserved : goal.pairs-preserved
pairs-preserved g c =
    let m = c.in_ok-merge_first.ensures.merges in
    record {
      merged = merged-on g.F.FnMut g.K.KeyTrait.bytes c.args.f.now c.pairs.f c.merge_first.new.f c.args.self.now.pairs
          c.args.other.now.pairs c.pairs.self.pairs c.pairs.other.pairs c.merge_first.new.self.pairs
          c.merge_first.new.other.pairs c.pairs.invariant.merged m;
      callable = callable-on _ _ m.before c.merge_first.new.other.pairs c.pairs.other.pairs
          (c.pairs.f, c.pairs.self.pairs) (c.merge_first.new.f, c.merge_first.new.self.pairs) m.split m.merged
          c.pairs.invariant.callable;
    }

pub returns-clause-merges : goal.returns-clause-merges
returns-clause-merges g c =
    let none : c.merge_first.new.other.pairs ≡ [] = search rules in
    all-merged g.F.FnMut g.K.KeyTrait.bytes c.args.f.now c.merge_first.new.f c.args.self.now.pairs
    c.args.other.now.pairs c.merge_first.new.self.pairs c.merge_first.new.other.pairs
    (merged-on g.F.FnMut g.K.KeyTrait.bytes c.args.f.now c.pairs.f c.merge_first.new.f c.args.self.now.pairs
    c.args.other.now.pairs c.pairs.self.pairs c.pairs.other.pairs c.merge_first.new.self.pairs
    c.merge_first.new.other.pairs c.pairs.invariant.merged c.in_ok-merge_first.ensures.merges) none

pub returns-clause-stays_callable : goal.returns-clause-stays_callable
returns-clause-stays_callable g c =
    always-after-merges g.F.FnMut g.K.KeyTrait.bytes c.args.other.now.pairs (c.args.f.now, c.args.self.now.pairs)
    (c.merge_first.new.f, c.merge_first.new.self.pairs) (returns-clause-merges g c)
