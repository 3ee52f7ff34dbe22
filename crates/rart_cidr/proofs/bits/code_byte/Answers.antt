use Rattle.std.proofs.Common.{arith, refl, ◌%◌, ◌*◌}
use Rattle.rart_cidr.specs.Codes.{byte_of_code}
use Rattle.rart_cidr.proofs.networks.BitLemmas.{holds_below}
use Rattle.rart_cidr.proofs.networks.CodeLemmas.{agree_at}
use Rattle.rart_cidr.proofs.bits.code_byte.Goals as goal

pub returns-then-code-lt2 : goal.returns-then-code-lt2
unfolding holds_below
returns-then-code-lt2 c = agree_at (λ y. 0) byte_of_code 0 2 c.args.code refl (omega arith)
    (omega (arith, c.if-code-lt2.true))

pub returns-then-code-lt4 : goal.returns-then-code-lt4
unfolding holds_below
returns-then-code-lt4 c = agree_at (λ y. y % 2 * 128) byte_of_code 2 2 c.args.code refl
    (omega (arith, c.if-code-lt2.false))
    (omega (arith, c.if-code-lt4.true))

pub returns-then-code-lt8 : goal.returns-then-code-lt8
unfolding holds_below
returns-then-code-lt8 c = agree_at (λ y. y % 4 * 64) byte_of_code 4 4 c.args.code refl
    (omega (arith, c.if-code-lt4.false))
    (omega (arith, c.if-code-lt8.true))

pub returns-then-code-lt16 : goal.returns-then-code-lt16
unfolding holds_below
returns-then-code-lt16 c = agree_at (λ y. y % 8 * 32) byte_of_code 8 8 c.args.code refl
    (omega (arith, c.if-code-lt8.false))
    (omega (arith, c.if-code-lt16.true))

pub returns-then-code-lt32 : goal.returns-then-code-lt32
unfolding holds_below
returns-then-code-lt32 c = agree_at (λ y. y % 16 * 16) byte_of_code 16 16 c.args.code refl
    (omega (arith, c.if-code-lt16.false))
    (omega (arith, c.if-code-lt32.true))

pub returns-then-code-lt64 : goal.returns-then-code-lt64
unfolding holds_below
returns-then-code-lt64 c = agree_at (λ y. y % 32 * 8) byte_of_code 32 32 c.args.code refl
    (omega (arith, c.if-code-lt32.false))
    (omega (arith, c.if-code-lt64.true))

pub returns-then-code-lt128 : goal.returns-then-code-lt128
unfolding holds_below
returns-then-code-lt128 c = agree_at (λ y. y % 64 * 4) byte_of_code 64 64 c.args.code refl
    (omega (arith, c.if-code-lt64.false))
    (omega (arith, c.if-code-lt128.true))

pub returns-else-code-lt128 : goal.returns-else-code-lt128
unfolding holds_below
returns-else-code-lt128 c = agree_at (λ y. y % 128 * 2) byte_of_code 128 128 c.args.code refl
    (omega (arith, c.if-code-lt128.false))
    (omega (arith, c.ranges.code.fits))
