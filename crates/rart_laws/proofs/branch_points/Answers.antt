use Rattle.rart_laws.proofs.BranchPointLemmas.{branch-record, record-branch}
use Rattle.rart_laws.proofs.branch_points.Goals as goal

pub returns : goal.returns
returns g c = record { has_record = branch-record; has_no_other = record-branch }
