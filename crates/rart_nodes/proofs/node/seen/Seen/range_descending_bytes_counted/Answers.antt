use Rattle.std.proofs.Common.{◌≡◌, ℕ, List, IfOk, refl, reverse, subst}
use Rattle.std.specs.Option.{option_copied}
use Rattle.rart_keys.specs.Ranges.{bound_in}
use Rattle.rart_trie.specs.tries.Tree.{tree_pairs}
use Rattle.rart_trie.specs.ranges.LentBounds.{lent_bound}
use Rattle.rart_nodes.specs.ranges.UpperBounds.{down_to}
use Rattle.rart_nodes.proofs.ranges.LongBounds.{between-short}
use Rattle.rart_nodes.proofs.node.seen.Seen.range_descending_bytes_counted.Goals as goal

pub returns-clause-pairs : goal.returns-clause-pairs
returns-clause-pairs g c =
    let a = lent_bound c.args.start in
    let b = lent_bound c.args.end in
    let short = bound_in g.K.KeyTrait.bytes c.short_start-start.result in
    let es = tree_pairs (option_copied c.args.self.root) in
    subst (λ (w : List (List ℕ × g.row.V.Denot)). IfOk c.range_descending_to.result (λ r. down_to r.0 r.1 ≡ reverse w))
    (between-short short b a b c.longest.result es c.longest.ensures.bounds_keys c.short_start-start.ensures
    (λ k l. refl))
    c.range_descending_to.ensures.pairs
