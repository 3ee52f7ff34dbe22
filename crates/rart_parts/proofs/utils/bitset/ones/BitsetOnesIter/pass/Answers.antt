use Rattle.std.proofs.Common.{◌≡◌, ◌≤◌, ◌<◌, ◌+◌, ◌-◌, ◌*◌, ◌&&◌, ℕ, length, rules, arith, sym, ap, ◌∙◌, ⊎_elim}
use Rattle.std.specs.Prelude.{nat_le, nat_lt}
use Rattle.std.proofs.Math.Nat.{mul-le-mul_right}
use Rattle.std.proofs.lemmas.Bool.{cases_lt, le-leb, lt-leb, lt-ltb, le-ltb}
use Rattle.rart_parts.specs.Bits.{words_have, positions_above}
use Rattle.rart_parts.proofs.sets.Members.{members-passed}
use Rattle.rart_parts.proofs.sets.Words.{left_more, passed_more}
use Rattle.rart_parts.proofs.utils.bitset.ones.BitsetOnesIter.pass.Goals.{then-over-WIDTH, else-over-WIDTH}
use Rattle.rart_parts.proofs.utils.bitset.ones.BitsetOnesIter.pass.Goals as goal

-- bit j is kept if its position is above q
same_bits : (width start q from j : ℕ) → start ≤ q → j < width
    → (q - start < width → from ≡ q - start + 1) → (width ≤ q - start → from ≡ width)
    → nat_le from j ≡ nat_lt q (start + j)
same_bits width start q from j h l near far = ⊎_elim
    (λ m. ⊎_elim
    (λ n. lt-leb from j n ∙ sym (le-ltb q (start + j) (omega (arith, n, near m))))
    (λ n. le-leb from j n ∙ sym (lt-ltb q (start + j) (omega (arith, n, near m))))
    (cases_lt j from))
    (λ m. lt-leb from j (omega (arith, far m)) ∙ sym (le-ltb q (start + j) (omega (arith, m))))
    (cases_lt (q - start) width)

pub returns-then-start-position : goal.returns-then-start-position
returns-then-start-position g c = members-passed _ _ _ c.args.position (λ k l. ⊎_elim
    (λ m. c.loop-i.invariant.passed k m)
    (λ m. c.loop-i.invariant.left k m l
    ∙ ap (λ b. b && words_have g.W.BitsetWord.WIDTH g.W.BitsetWord.number c.self.inside.rest.words k)
    (sym (lt-ltb c.args.position k (omega (
      arith,
      c.if-start-position.true,
      ap (λ w. c.loop-i.i * w) c.WIDTH.ensures,
      m,
    )))))
    (cases_lt k (c.loop-i.i * g.W.BitsetWord.WIDTH)))
    ∙ ap (positions_above c.args.position) c.self.view_is

pub loop-i-preserved : goal.loop-i-preserved
loop-i-preserved g c =
    let width = g.W.BitsetWord.WIDTH in
    let first = c.self.inside.rest.words in
    let ws = c.loop-i.self-inside.rest.words in
    let len : length ws ≡ g.row.S = search rules in
    let start : c.loop-i.i * c.WIDTH.result ≡ c.loop-i.i * width = ap (λ w. c.loop-i.i * w) c.WIDTH.ensures in
    let near : c.args.position - c.loop-i.i * width < width
    → c.if-over-WIDTH.from ≡ c.args.position - c.loop-i.i * width + 1 = λ m. elim c.if-over-WIDTH.branch [
      | then-over-WIDTH w ↦ omega (arith, w.from-is, start)
      | else-over-WIDTH w ↦ absurd (omega (arith, m, start, w.if-over-WIDTH.false, c.WIDTH-in-loop-i.ensures))
    ] in
    let far : width ≤ c.args.position - c.loop-i.i * width → c.if-over-WIDTH.from ≡ width
    = λ m. elim c.if-over-WIDTH.branch [
      | then-over-WIDTH w ↦ absurd (omega (arith, m, start, w.if-over-WIDTH.true, c.WIDTH-in-loop-i.ensures))
      | else-over-WIDTH w ↦ omega (arith, w.from-is, w.WIDTH-from.ensures)
    ] in
    let same : (j : ℕ) → j < width → nat_le c.if-over-WIDTH.from j ≡ nat_lt c.args.position (c.loop-i.i * width + j)
    = λ j l. same_bits width (c.loop-i.i * width) c.args.position c.if-over-WIDTH.from j
    (omega (arith, start, c.if-start-position.false)) l near far in
    record {
      passed = passed_more width g.W.BitsetWord.number g.met.W.BitsetWord.wide ws first g.row.S c.loop-i.i
          c.args.position c.if-over-WIDTH.from c.index-self-i.result c.without_low.result len c.loop-i-test.true
          c.index-self-i.is (rw (← c.index-self-i.is) at c.without_low.ensures) same c.loop-i.invariant.passed
          c.loop-i.invariant.left;
      left = left_more width g.W.BitsetWord.number g.met.W.BitsetWord.wide ws first g.row.S c.loop-i.i
          c.args.position c.if-over-WIDTH.from c.index-self-i.result c.without_low.result len c.loop-i-test.true
          c.index-self-i.is (rw (← c.index-self-i.is) at c.without_low.ensures) same c.loop-i.invariant.passed
          c.loop-i.invariant.left;
    }

pub returns : goal.returns
returns g c =
    let all : g.row.S * g.W.BitsetWord.WIDTH ≤ c.loop-i.i * g.W.BitsetWord.WIDTH
    = mul-le-mul_right g.W.BitsetWord.WIDTH (omega (arith, c.loop-i-test.false)) in
    members-passed _ _ _ c.args.position (λ k l. c.loop-i.invariant.passed k (omega (arith, l, all)))
    ∙ ap (positions_above c.args.position) c.self.view_is
