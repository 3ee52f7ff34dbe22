use Rattle.std.proofs.Common.{ap}
use Rattle.rart.proofs.trees.AppendLemmas.{first-not-removed, first-refused, one-moved}
use Rattle.rart.proofs.tree.AdaptiveRadixTree.move_first.Goals as goal

pub returns-in-Ok-clause-moves : goal.returns-in-Ok-clause-moves
returns-in-Ok-clause-moves g c =
    one-moved c.args.self.now.pairs c.args.other.now.pairs c.put_pair.new.self.pairs c.pop_first.new.self.pairs
    c.put_pair.new.other.pairs (g.K.KeyTrait.bytes c.in-Ok-Some.key, c.in-Ok-Some.value)
    (rw c.in-Ok-Some.field-0-is at c.in-Ok-Some.ensures.pairs)
    (ap (λ t. t.pairs) c.in-Ok.ensures.other_unchanged) c.in-Ok.ensures.pairs

pub returns-in-Err-put_pair-clause-refused : goal.returns-in-Err-put_pair-clause-refused
returns-in-Err-put_pair-clause-refused g c =
    first-refused g.K.KeyTrait.bytes c.args.self.now.pairs c.args.other.now.pairs c.put_pair.new.self.pairs
    c.pop_first.new.self.pairs c.put_pair.new.other.pairs c.in-Ok-Some.key c.in-Ok-Some.value c.in-Err-put_pair.refused
    (rw c.in-Ok-Some.field-0-is at c.in-Ok-Some.ensures.pairs) c.canonical.ensures.ascending
    (rw (← c.len-len.ensures.value) c.len-len.ensures.at_most)
    (ap (λ t. t.pairs) c.in-Err-put_pair.ensures.unchanged) c.in-Err-put_pair.ensures.refused
    c.in-Err-put_pair.ensures.put_back

pub returns-in-Err-clause-refused : goal.returns-in-Err-clause-refused
returns-in-Err-clause-refused g c =
    first-not-removed g.K.KeyTrait.bytes c.args.self.now.pairs c.args.other.now.pairs c.pop_first.new.self.pairs
    c.in-Err.error c.in-Err.ensures.memory (ap (λ t. t.pairs) c.in-Err.ensures.unchanged)
