use Rattle.rart_trie.proofs.edits.MapUpdates.{put-back, put-same}
use Rattle.rart_laws.proofs.put_back.Goals as goal

pub returns : goal.returns
returns g c = record { same_pairs = put-same; back = put-back }
