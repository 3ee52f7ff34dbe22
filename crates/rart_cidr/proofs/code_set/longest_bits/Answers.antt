use Rattle.std.proofs.Common.{◌≡◌, ◌≤◌, false, ap, arith, subst, sym, ◌∙◌}
use Rattle.rart_cidr.specs.Bits.{code}
use Rattle.rart_cidr.specs.CodeSets.{has_code}
use Rattle.rart_cidr.proofs.networks.BeginningLemmas.{IsLimit, few_bits, found_masked, many_bits, none_masked, shifted}
use Rattle.rart_cidr.proofs.code_set.longest_bits.Goals as goal
use Rattle.rart_cidr.proofs.code_set.longest_bits.Goals.{then-most-lt5, else-most-lt5}
use Rattle.rart_cidr.proofs.code_set.longest_bits.Goals.{else-most-gt6-via-then-most-gt6+else-check}
use Rattle.rart_cidr.proofs.code_set.longest_bits.Goals.{else-most-gt6-via-else-most-gt6}
use Rattle.rart_cidr.proofs.code_set.longest_bits.Goals.{else-most-gt5-via-then-most-gt5+else-check-2}
use Rattle.rart_cidr.proofs.code_set.longest_bits.Goals.{else-most-gt5-via-else-most-gt5}

pub highest_under-requires : goal.highest_under-requires
highest_under-requires c =
    let limit : IsLimit c.args.most c.if-most-lt5.above = elim c.if-most-lt5.branch
    as (λ _. IsLimit c.args.most c.if-most-lt5.above) [
      | then-most-lt5 w ↦ few_bits c.args.most c.if-most-lt5.above w.if-most-lt5.true
          (w.above-is ∙ shifted c.args.most w.if-most-lt5.true)
      | else-most-lt5 w ↦ subst (IsLimit c.args.most) (sym w.above-is) (many_bits c.args.most w.if-most-lt5.false)
    ] in
    limit.within

pub returns-in-Some : goal.returns-in-Some
returns-in-Some c =
    let limit : IsLimit c.args.most c.if-most-lt5.above = elim c.if-most-lt5.branch
    as (λ _. IsLimit c.args.most c.if-most-lt5.above) [
      | then-most-lt5 w ↦ few_bits c.args.most c.if-most-lt5.above w.if-most-lt5.true
          (w.above-is ∙ shifted c.args.most w.if-most-lt5.true)
      | else-most-lt5 w ↦ subst (IsLimit c.args.most) (sym w.above-is) (many_bits c.args.most w.if-most-lt5.false)
    ] in
    let words = c.args.codes.now.words in
    let seven : 7 ≤ c.args.most → has_code words (code c.args.byte 7) ≡ false = elim c.else-most-gt6.branch
    as (λ _. 7 ≤ c.args.most → has_code words (code c.args.byte 7) ≡ false) [
      | else-most-gt6-via-then-most-gt6+else-check w ↦ λ h.
          ap (has_code words) (sym (w.from.ensures ∙ w.code_of.ensures.value)) ∙ sym w.check.ensures ∙ w.if-check.false
      | else-most-gt6-via-else-most-gt6 w ↦ λ h. absurd (omega (arith, h, w.if-most-gt6.false))
    ] in
    let six : 6 ≤ c.args.most → has_code words (code c.args.byte 6) ≡ false = elim c.else-most-gt5.branch
    as (λ _. 6 ≤ c.args.most → has_code words (code c.args.byte 6) ≡ false) [
      | else-most-gt5-via-then-most-gt5+else-check-2 w ↦ λ h.
          ap (has_code words) (sym (w.from-then-most-gt5.ensures ∙ w.code_of-then-most-gt5.ensures.value))
          ∙ sym w.check-then-most-gt5.ensures ∙ w.if-check-2.false
      | else-most-gt5-via-else-most-gt5 w ↦ λ h. absurd (omega (arith, h, w.if-most-gt5.false))
    ] in
    found_masked words c.args.byte c.args.most c.if-most-lt5.above c.from-2.result (omega (arith, c.ranges.byte.fits))
    c.requires c.from-2.ensures limit seven six c.in-Some.code c.from-in-Some.result
    (c.from-in-Some.ensures ∙ c.code_len.ensures) c.in-Some.ensures

pub returns-in-None : goal.returns-in-None
returns-in-None c =
    let limit : IsLimit c.args.most c.if-most-lt5.above = elim c.if-most-lt5.branch
    as (λ _. IsLimit c.args.most c.if-most-lt5.above) [
      | then-most-lt5 w ↦ few_bits c.args.most c.if-most-lt5.above w.if-most-lt5.true
          (w.above-is ∙ shifted c.args.most w.if-most-lt5.true)
      | else-most-lt5 w ↦ subst (IsLimit c.args.most) (sym w.above-is) (many_bits c.args.most w.if-most-lt5.false)
    ] in
    let words = c.args.codes.now.words in
    let seven : 7 ≤ c.args.most → has_code words (code c.args.byte 7) ≡ false = elim c.else-most-gt6.branch
    as (λ _. 7 ≤ c.args.most → has_code words (code c.args.byte 7) ≡ false) [
      | else-most-gt6-via-then-most-gt6+else-check w ↦ λ h.
          ap (has_code words) (sym (w.from.ensures ∙ w.code_of.ensures.value)) ∙ sym w.check.ensures ∙ w.if-check.false
      | else-most-gt6-via-else-most-gt6 w ↦ λ h. absurd (omega (arith, h, w.if-most-gt6.false))
    ] in
    let six : 6 ≤ c.args.most → has_code words (code c.args.byte 6) ≡ false = elim c.else-most-gt5.branch
    as (λ _. 6 ≤ c.args.most → has_code words (code c.args.byte 6) ≡ false) [
      | else-most-gt5-via-then-most-gt5+else-check-2 w ↦ λ h.
          ap (has_code words) (sym (w.from-then-most-gt5.ensures ∙ w.code_of-then-most-gt5.ensures.value))
          ∙ sym w.check-then-most-gt5.ensures ∙ w.if-check-2.false
      | else-most-gt5-via-else-most-gt5 w ↦ λ h. absurd (omega (arith, h, w.if-most-gt5.false))
    ] in
    none_masked words c.args.byte c.args.most c.if-most-lt5.above c.from-2.result (omega (arith, c.ranges.byte.fits))
    c.requires c.from-2.ensures limit seven six c.in-None.ensures
