use Rattle.rart_trie.proofs.edits.EditRunLemmas.{remove-absent}
use Rattle.rart_trie.proofs.edits.InsertAllocationLemmas.{allocates-insert}
use Rattle.rart_trie.proofs.edits.PutLemmas.{canonical-put, pairs_of-put}
use Rattle.rart_trie.proofs.removals.RemoveAllocationLemmas.{allocates-remove}
use Rattle.rart_trie.proofs.removals.RemoveLemmas.{canonical-removed, pairs_of-removed}
use Rattle.rart_laws.proofs.edits.Goals as goal

pub returns : goal.returns
returns g c = record {
  put_canonical = canonical-put;
  put_pairs = pairs_of-put;
  put_allocates = allocates-insert;
  remove_canonical = canonical-removed;
  remove_pairs = pairs_of-removed;
  remove_absent = remove-absent;
  remove_allocates = allocates-remove;
}
