use Rattle.std.proofs.Common.{◌≡◌, ◌+◌, ◌-◌, ◌*◌, arith, ⊎_elim, subst}
use Rattle.rart_cidr.specs.Longest.{HasNoneAfter}
use Rattle.rart_cidr.proofs.walks.LongestLemmas.{is_longest, less_or_not, nodes_to-fewer, nodes_to-more, none-before}
use Rattle.rart_cidr.proofs.table.seen.SeenTable.longest_match_net_counted.Goals as goal

pub returns-in-Some-clause-value : goal.returns-in-Some-clause-value
returns-in-Some-clause-value g c =
    let last = rw c.in-Some.is at c.in_ok-count.ensures.value in
    is_longest c.args.self.now c.args.octets.now c.args.bits c.in_ok-count.count (8 * (c.in_ok-count.count + 1))
    c.in-Some.route.0 c.in-Some.route.1.now c.requires (omega arith) c.ascends.ensures last.1
    (none-before c.args.self.now c.args.octets.now c.args.bits (c.in_ok-count.count + 1) c.loop-at.at
    (λ k l u. last.2 k (omega (arith, l)) (omega (arith, u))) c.loop-at.invariant.none)

pub loop-at-preserved : goal.loop-at-preserved
loop-at-preserved g c =
    let last = rw c.in_default.is at c.in_ok-count.ensures.value in
    record {
      within = omega (arith, last.0, c.loop-at.invariant.within);
      none = none-before c.args.self.now c.args.octets.now c.args.bits c.in_ok-count.count c.loop-at.at
          (λ k l u. ⊎_elim
          (λ h. last.2 k h (omega (arith, u)))
          (λ h. let same : c.in_ok-count.count ≡ k = omega (arith, l, h) in
          subst (HasNoneAfter c.args.self.now c.args.octets.now c.args.bits) same last.1)
          (less_or_not c.in_ok-count.count k)) c.loop-at.invariant.none;
      nodes = omega (
        arith,
        nodes_to-fewer c.loop-at.at (omega (arith, c.loop-at-test.true)),
        nodes_to-more c.in_ok-count.count (c.loop-at.at - 1) last.0,
        c.last_stride.ensures.node_visits,
        c.loop-at.invariant.nodes,
        c.loop-at-test.true,
      );
      strides = omega (
        arith,
        c.last_stride.ensures.stride_visits,
        c.loop-at.invariant.strides,
        last.0,
        c.loop-at-test.true,
      );
    }
