use Rattle.rart_trie.proofs.shapes.ShapeLemmas.{one_shape}
use Rattle.rart_laws.proofs.one_shape.Goals as goal

pub returns : goal.returns
returns c = one_shape
