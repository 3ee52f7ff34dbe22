use Rattle.std.proofs.Common.{◌≡◌, ◌∙◌, length, sym, ap, rules}
use Rattle.std.specs.Vec.Iter.{into_iter_items, into_iter_len}
use Rattle.rart.proofs.bulks.PairLists.{counted}
use Rattle.rart.proofs.tree.into_pairs.IntoPairsExactSizeIterator.len.Goals as goal

pub returns-clause-value : goal.returns-clause-value
returns-clause-value g c =
    let keys = into_iter_items c.self.inside.keys in
    let count : into_iter_len c.self.inside.keys ≡ length keys = search rules in
    let all = counted g.K.KeyTrait.bytes keys (into_iter_items c.self.inside.values) c.self.invariant in
    c.len.ensures ∙ count ∙ sym all ∙ ap length c.self.view_is
