use Rattle.std.proofs.Common.{◌≡◌, ◌∙◌, Some, length, sym, ap, arith, rules}
use Rattle.std.specs.Vec.Iter.{into_iter_items, into_iter_len}
use Rattle.rart.proofs.bulks.PairLists.{counted}
use Rattle.rart.proofs.tree.into_pairs.IntoPairsIterator.size_hint.Goals as goal

pub returns-clause-lower : goal.returns-clause-lower
returns-clause-lower g c =
    let keys = into_iter_items c.self.inside.keys in
    let count : into_iter_len c.self.inside.keys ≡ length keys = search rules in
    let all = counted g.K.KeyTrait.bytes keys (into_iter_items c.self.inside.values) c.self.invariant in
    λ _. omega (arith, c.len-left.ensures, count, all, ap length c.self.view_is)

pub returns-clause-upper : goal.returns-clause-upper
returns-clause-upper g c =
    let keys = into_iter_items c.self.inside.keys in
    let count : into_iter_len c.self.inside.keys ≡ length keys = search rules in
    let all = counted g.K.KeyTrait.bytes keys (into_iter_items c.self.inside.values) c.self.invariant in
    (tt, omega (arith, c.len-left.ensures, count, all, ap length c.self.view_is))

pub returns-clause-exact : goal.returns-clause-exact
returns-clause-exact g c =
    let keys = into_iter_items c.self.inside.keys in
    let count : into_iter_len c.self.inside.keys ≡ length keys = search rules in
    let all = counted g.K.KeyTrait.bytes keys (into_iter_items c.self.inside.values) c.self.invariant in
    let same : c.len-left.result ≡ length c.args.self.now = c.len-left.ensures ∙ count ∙ sym all
    ∙ ap length c.self.view_is in
    (λ i. (same i, Some (same i)))
