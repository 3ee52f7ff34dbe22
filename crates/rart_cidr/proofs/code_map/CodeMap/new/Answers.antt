use Rattle.std.proofs.Common.{arith}
use Rattle.rart_cidr.proofs.routes.CodeMapLemmas.{empty-packed, empty-pairs}
use Rattle.rart_cidr.proofs.code_map.CodeMap.new.Goals as goal

pub invariant_of-result : goal.invariant_of-result
invariant_of-result g c = empty-packed c.new.result.words c.in_ok-targets.targets.items _
    c.in_ok-targets.ensures.items (omega (arith, c.in_ok-targets.ensures.exact)) c.new.ensures

pub returns : goal.returns
returns g c = empty-pairs c.new.result.words c.in_ok-targets.targets.items c.in_ok-targets.ensures.items c.new.ensures
