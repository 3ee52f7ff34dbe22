use Rattle.std.proofs.Common.{◌<◌, ◌*◌, ◌/◌, ◌&&◌, ltb, ℕ, ◌≤◌, sym, ap, ◌∙◌, subst, arith}
use Rattle.std.proofs.lemmas.Bool.{lt-ltb, le-ltb}
use Rattle.std.proofs.Math.Nat.{div-lt_iff_lt-mul, le-div_iff_mul-le}
use Rattle.rart_parts.specs.Bits.{words_have}
use Rattle.rart_parts.proofs.sets.Masks.{mask_more, mask_same}
use Rattle.rart_parts.proofs.utils.bitset.set.BitsetBitsetTrait.as_bitmask.Goals as goal
use Rattle.rart_parts.proofs.utils.bitset.set.BitsetBitsetTrait.as_bitmask.Goals.{then-position-WIDTH+then-check}
use Rattle.rart_parts.proofs.utils.bitset.set.BitsetBitsetTrait.as_bitmask.Goals.{else-position-WIDTH}
use Rattle.rart_parts.proofs.utils.bitset.set.BitsetBitsetTrait.as_bitmask.Goals.{
  else-position-WIDTH-via-then-position-WIDTH+else-check,
}
use Rattle.rart_parts.proofs.utils.bitset.set.BitsetBitsetTrait.as_bitmask.Goals.{
  else-position-WIDTH-via-else-position-WIDTH,
}

pub loop-position-preserved : goal.loop-position-preserved
loop-position-preserved g c =
    let at = c.loop-position.position in
    let capacity = g.row.S * g.W.BitsetWord.WIDTH in
    let has = λ (k : ℕ). ltb k capacity && words_have g.W.BitsetWord.WIDTH g.W.BitsetWord.number c.args.self.now.words
    k in
    elim c.if-position-WIDTH.branch [
      | then-position-WIDTH+then-check w ↦
          let inside : at < capacity = (div-lt_iff_lt-mul g.met.W.BitsetWord.wide).0
          (subst (λ n. at / n < g.row.S) c.WIDTH.ensures w.if-position-WIDTH.true) in
          rw w.mask-is (mask_more has at c.loop-position.mask c.loop-position.invariant c.loop-position-test.true
          (ap (λ b. b && words_have g.W.BitsetWord.WIDTH g.W.BitsetWord.number c.args.self.now.words at)
          (lt-ltb at capacity inside) ∙ sym w.check.ensures ∙ w.if-check.true))
      | else-position-WIDTH w ↦
          rw w.mask-is (mask_same has at c.loop-position.mask c.loop-position.invariant
          (elim w.else-position-WIDTH.branch [
            | else-position-WIDTH-via-then-position-WIDTH+else-check v ↦
                let inside : at < capacity = (div-lt_iff_lt-mul g.met.W.BitsetWord.wide).0
                (subst (λ n. at / n < g.row.S) c.WIDTH.ensures v.if-position-WIDTH.true) in
                ap (λ b. b && words_have g.W.BitsetWord.WIDTH g.W.BitsetWord.number c.args.self.now.words at)
                (lt-ltb at capacity inside) ∙ sym v.check.ensures ∙ v.if-check.false
            | else-position-WIDTH-via-else-position-WIDTH v ↦
                let outside : capacity ≤ at = (le-div_iff_mul-le g.met.W.BitsetWord.wide).0
                (subst (λ n. g.row.S ≤ at / n) c.WIDTH.ensures v.if-position-WIDTH.false) in
                ap (λ b. b && words_have g.W.BitsetWord.WIDTH g.W.BitsetWord.number c.args.self.now.words at)
                (le-ltb at capacity outside)
          ]))
    ]

pub returns : goal.returns
returns g c k h =
    let has = λ (n : ℕ). ltb n (g.row.S * g.W.BitsetWord.WIDTH) && words_have g.W.BitsetWord.WIDTH g.W.BitsetWord.number
    c.args.self.now.words n in
    c.loop-position.invariant k ∙ ap (λ b. b && has k)
    (lt-ltb k c.loop-position.position (omega (arith, h, c.loop-position-test.false)))
