use Rattle.std.proofs.Common.{rules, of_calls, ◌≡◌, ◌<◌, ◌∙◌, ◌^◌, length, arith}
use Rattle.std.proofs.lemmas.List.Sums.{count_by-le-length, length-filter}
use Rattle.std.proofs.lemmas.List.{length-map}
use Rattle.std.proofs.lemmas.Result.{IfOk-weaker}
use Rattle.rart_keys.specs.ByteStrings.{begins}
use Rattle.rart_keys.specs.Filters.{below}
use Rattle.rart_keys.specs.SortedMap.{values_of}
use Rattle.rart.proofs.CountLemmas.{can-count, count-fold}
use Rattle.rart.proofs.laws.counts.count_below.Goals as goal

pub prefix_values_fold_k-requires : goal.prefix_values_fold_k-requires
prefix_values_fold_k-requires g c =
    let key = g.K.KeyTrait.bytes c.args.prefix.now in
    let same : length (values_of (below key c.args.tree.now.pairs)) ≡ length (below key c.args.tree.now.pairs)
    = length-map (below key c.args.tree.now.pairs) (λ e. e.1) in
    let small : length (values_of (below key c.args.tree.now.pairs)) < 2 ^ 64
    = omega (
      arith,
      same,
      c.len-most.ensures.value,
      c.len-most.type_inv,
      length-filter (λ e. begins key e.0)
          c.args.tree.now.pairs,
      count_by-le-length (λ e. begins key e.0) c.args.tree.now.pairs,
    ) in
    record {
      callable = can-count _ (λ p q x s. let called = s.called in search (rules, of_calls, called)) _
          (λ p x l y e. search (rules, of_calls, l)) _ (values_of (below key c.args.tree.now.pairs)) small;
    }

pub returns-clause-count : goal.returns-clause-count
returns-clause-count g c =
    let key = g.K.KeyTrait.bytes c.args.prefix.now in
    let same : length (values_of (below key c.args.tree.now.pairs)) ≡ length (below key c.args.tree.now.pairs)
    = length-map (below key c.args.tree.now.pairs) (λ e. e.1) in
    IfOk-weaker c.prefix_values_fold_k.result _ _
    (λ n h. count-fold _ (λ p q x s. let called = s.called in search (rules, of_calls, called)) _ h.0 n
    (values_of (below key c.args.tree.now.pairs)) h.1 ∙ same) c.prefix_values_fold_k.ensures.calls
