use Rattle.rart_keys.proofs.maps.BulkReadLemmas.{read-more, read-again, read-fault}
use Rattle.rart_keys.proofs.laws.bulk_lists.one_item_more.Goals as goal

pub returns : goal.returns
returns g c = record {
  later = read-more;
  same = read-again;
  earlier = read-fault;
}
