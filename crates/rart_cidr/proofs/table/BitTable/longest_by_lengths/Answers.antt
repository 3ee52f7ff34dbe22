use Rattle.std.proofs.Common.{◌≡◌, ◌+◌, ◌-◌, arith, subst}
use Rattle.rart_cidr.specs.Longest.{HasNoneFrom}
use Rattle.rart_cidr.proofs.walks.LongestLemmas.{found-at, has_none, none-at, tried-found, tried-none}
use Rattle.rart_cidr.proofs.table.BitTable.longest_by_lengths.Goals as goal

pub loop-count-init : goal.loop-count-init
loop-count-init g c = (omega arith, λ n h l. absurd (omega (arith, h, l)))

pub returns-in-Some-clause-value : goal.returns-in-Some-clause-value
returns-in-Some-clause-value g c = found-at c.args.self.now c.args.octets.now c.args.bits c.loop-count.count
    c.in-Some.target.now c.requires c.loop-count.invariant.0 c.ascends.ensures c.in-Some.ensures
    c.loop-count.invariant.1

pub loop-count-preserved : goal.loop-count-preserved
loop-count-preserved g c =
    let none = none-at c.args.self.now c.args.octets.now c.args.bits c.loop-count.count c.in_default.ensures
    c.loop-count.invariant.1 in
    let same : c.loop-count.count ≡ c.loop-count.count - 1 + 1 = omega (arith, c.loop-count-test.true) in (
      omega (arith, c.loop-count.invariant.0),
      subst (λ z. HasNoneFrom c.args.self.now c.args.octets.now c.args.bits z) same none,
    )

pub returns-in-Some-get-clause-value : goal.returns-in-Some-get-clause-value
returns-in-Some-get-clause-value g c =
    let last : c.loop-count.count ≡ 0 = omega (arith, c.loop-count-test.false) in
    found-at c.args.self.now c.args.octets.now c.args.bits 0 c.in-Some-get.target.now c.requires (omega arith)
    c.ascends.ensures c.in-Some-get.ensures
    (subst (λ z. HasNoneFrom c.args.self.now c.args.octets.now c.args.bits (z + 1)) last c.loop-count.invariant.1)

pub returns-in-None-clause-value : goal.returns-in-None-clause-value
returns-in-None-clause-value g c =
    let last : c.loop-count.count ≡ 0 = omega (arith, c.loop-count-test.false) in
    has_none c.args.self.now c.args.octets.now c.args.bits c.requires c.ascends.ensures
    (none-at c.args.self.now c.args.octets.now c.args.bits 0 c.in-None.ensures
    (subst (λ z. HasNoneFrom c.args.self.now c.args.octets.now c.args.bits (z + 1)) last c.loop-count.invariant.1))

pub returns-in-Some-clause-tried : goal.returns-in-Some-clause-tried
returns-in-Some-clause-tried g c = tried-found c.args.self.now c.args.octets.now c.args.bits c.loop-count.count
    c.in-Some.target.now c.loop-count.invariant.0 c.in-Some.ensures c.loop-count.invariant.1

pub returns-in-Some-get-clause-tried : goal.returns-in-Some-get-clause-tried
returns-in-Some-get-clause-tried g c =
    let last : c.loop-count.count ≡ 0 = omega (arith, c.loop-count-test.false) in
    tried-found c.args.self.now c.args.octets.now c.args.bits 0 c.in-Some-get.target.now (omega arith)
    c.in-Some-get.ensures
    (subst (λ z. HasNoneFrom c.args.self.now c.args.octets.now c.args.bits (z + 1)) last c.loop-count.invariant.1)

pub returns-in-None-clause-tried : goal.returns-in-None-clause-tried
returns-in-None-clause-tried g c =
    let last : c.loop-count.count ≡ 0 = omega (arith, c.loop-count-test.false) in
    tried-none c.args.self.now c.args.octets.now c.args.bits c.in-None.ensures
    (subst (λ z. HasNoneFrom c.args.self.now c.args.octets.now c.args.bits (z + 1)) last c.loop-count.invariant.1)
