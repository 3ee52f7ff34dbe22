use Rattle.rart_cidr.proofs.walks.LongestLemmas.{matched-all}
use Rattle.rart_cidr.proofs.table.BitTable.longest_match.Goals as goal

pub returns-clause-value : goal.returns-clause-value
returns-clause-value g c = matched-all (λ t. t.now) c.args.self.now c.args.address.now c.longest_match_net.result
    c.longest_match_net.ensures.at_most c.longest_match_net.ensures.value
