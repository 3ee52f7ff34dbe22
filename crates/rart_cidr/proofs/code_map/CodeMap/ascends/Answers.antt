use Rattle.std.proofs.Common.{subst}
use Rattle.rart_keys.specs.SortedMap.{IsAscending}
use Rattle.rart_cidr.proofs.routes.CodeMapLemmas.{all-ascend}
use Rattle.rart_cidr.proofs.code_map.CodeMap.ascends.Goals as goal

pub returns : goal.returns
returns g c = subst IsAscending c.self.view_is (all-ascend c.self.inside.codes.words c.self.inside.targets.items)
