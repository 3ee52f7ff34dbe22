use Rattle.std.proofs.Common.{◌≡◌, ◌++◌, List, length}
use Rattle.std.specs.List.{AllZip}
use Rattle.rart_keys.specs.SortedMap.{keys_of, values_of}
use Rattle.rart.proofs.tree.clones.read_clones.Given as goal

abbrev pub invariant-loop-key : goal.invariant-loop-key
invariant-loop-key g l = record {
  keys : keys_of l.loader ++ keys_of l.rest ≡ keys_of l.old.pairs;
  values : (more : List g.row.V.Denot) → AllZip g.V.Clone.is_clone (values_of l.rest) more
      → AllZip g.V.Clone.is_clone (values_of l.old.pairs) (values_of l.loader ++ more);
}

abbrev pub decreases-loop-key : goal.decreases-loop-key
decreases-loop-key g l = length l.rest
