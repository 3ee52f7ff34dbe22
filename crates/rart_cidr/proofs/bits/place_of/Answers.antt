use Rattle.std.proofs.Common.{◌≡◌, ℕ, ◌+◌, ◌-◌, ◌<◌, ◌≤◌, ◌∙◌, arith, refl, count_ones}
use Rattle.std.proofs.Math.Dec.{ltb}
use Rattle.std.proofs.lemmas.Bool.{ltb-true}
use Rattle.std.specs.Int.Count.{ones, ones_in}
use Rattle.rart_cidr.specs.Codes.{byte_of_code, code_place, length_of_code, place, size}
use Rattle.rart_cidr.proofs.networks.BitLemmas.{holds_at, holds_below}
use Rattle.rart_cidr.proofs.networks.CodeLemmas.{agree_at}
use Rattle.rart_cidr.proofs.bits.place_of.Goals as goal

few-ones : (c : ℕ) → c < 256 → count_ones c ≤ byte_of_code c + length_of_code c + 1
unfolding holds_below ones ones_in
few-ones c h =
    let l = ltb-true _ _ (holds_at (λ y. ltb (count_ones y) (byte_of_code y + length_of_code y + 2)) 256 c refl h) in
    omega (arith, l)

code-counted : (c : ℕ) → 1 ≤ c → c < 256 → byte_of_code c + length_of_code c + 1 - count_ones c ≡ code_place c
unfolding holds_below ones ones_in code_place place size
code-counted c h l = agree_at (λ y. byte_of_code y + length_of_code y + 1 - count_ones y) code_place 1 255 c refl h
    (omega (arith, l))

pub overflow_sub-result : goal.overflow_sub-result
overflow_sub-result c =
    let b : c.from.result ≡ byte_of_code c.args.code = c.from.ensures ∙ c.code_byte.ensures in
    let l : c.from-2.result ≡ length_of_code c.args.code = c.from-2.ensures ∙ c.code_len.ensures in
    let few = few-ones c.args.code (omega (arith, c.ranges.code.fits)) in
    omega (arith, b, l, few)

pub returns-clause-value : goal.returns-clause-value
returns-clause-value c =
    let b : c.from.result ≡ byte_of_code c.args.code = c.from.ensures ∙ c.code_byte.ensures in
    let l : c.from-2.result ≡ length_of_code c.args.code = c.from-2.ensures ∙ c.code_len.ensures in
    (λ i. b i + l i + 1 - count_ones c.args.code)
    ∙ code-counted c.args.code c.requires (omega (arith, c.ranges.code.fits))
