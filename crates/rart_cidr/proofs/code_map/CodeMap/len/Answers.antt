use Rattle.std.proofs.Common.{length, ap, sym, ◌∙◌}
use Rattle.rart_cidr.proofs.routes.CodeMapLemmas.{all-length}
use Rattle.rart_cidr.proofs.code_map.CodeMap.len.Goals as goal

pub returns : goal.returns
returns g c = c.len.ensures ∙ c.self.inside.targets.ok.0
    ∙ sym (all-length c.self.inside.codes.words c.self.inside.targets.items c.self.invariant.count)
    ∙ ap length c.self.view_is
