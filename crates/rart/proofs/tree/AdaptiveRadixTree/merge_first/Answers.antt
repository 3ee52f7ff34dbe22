use Rattle.std.proofs.Common.{[], ap, refl, sym, ◌∙◌}
use Rattle.rart.proofs.trees.MergeLemmas.{first-not-removed, first-refused, none-stored, one-merged, one-new}
use Rattle.rart.proofs.tree.AdaptiveRadixTree.merge_first.Goals as goal

pub merge_value-requires-clause-callable : goal.merge_value-requires-clause-callable
merge_value-requires-clause-callable g c =
    c.requires.callable.at [] (g.K.KeyTrait.bytes c.in-Ok-Some.key, c.in-Ok-Some.value) c.pop_first.new.self.pairs
    (c.args.f.now, c.args.self.now.pairs) (rw c.in-Ok-Some.field-0-is at c.in-Ok-Some.ensures.pairs) refl

pub returns-then-contains_key_k-clause-merges : goal.returns-then-contains_key_k-clause-merges
returns-then-contains_key_k-clause-merges g c =
    one-merged g.F.FnMut g.K.KeyTrait.bytes c.args.f.now c.merge_value.new.f c.args.self.now.pairs
    c.args.other.now.pairs c.merge_value.new.self.pairs c.pop_first.new.self.pairs c.pop_first.new.self.pairs
    (g.K.KeyTrait.bytes c.in-Ok-Some.key, c.in-Ok-Some.value)
    (rw c.in-Ok-Some.field-0-is at c.in-Ok-Some.ensures.pairs) refl c.merge_value.ensures

pub returns-in-Ok-clause-merges : goal.returns-in-Ok-clause-merges
returns-in-Ok-clause-merges g c =
    one-merged g.F.FnMut g.K.KeyTrait.bytes c.args.f.now c.args.f.now c.args.self.now.pairs c.args.other.now.pairs
    c.put_pair.new.self.pairs c.pop_first.new.self.pairs c.put_pair.new.other.pairs
    (g.K.KeyTrait.bytes c.in-Ok-Some.key, c.in-Ok-Some.value)
    (rw c.in-Ok-Some.field-0-is at c.in-Ok-Some.ensures.pairs) (ap (λ t. t.pairs) c.in-Ok.ensures.other_unchanged)
    (one-new g.F.FnMut g.K.KeyTrait.bytes c.args.f.now c.args.self.now.pairs c.put_pair.new.self.pairs
    (g.K.KeyTrait.bytes c.in-Ok-Some.key, c.in-Ok-Some.value)
    (none-stored _ (sym c.contains_key_k.ensures ∙ c.if-contains_key_k.false)) c.in-Ok.ensures.pairs)

pub returns-in-Err-put_pair-clause-refused : goal.returns-in-Err-put_pair-clause-refused
returns-in-Err-put_pair-clause-refused g c =
    first-refused g.F.FnMut g.K.KeyTrait.bytes c.args.f.now c.args.self.now.pairs c.args.other.now.pairs
    c.put_pair.new.self.pairs c.pop_first.new.self.pairs c.put_pair.new.other.pairs c.in-Ok-Some.key
    c.in-Ok-Some.value c.in-Err-put_pair.refused (rw c.in-Ok-Some.field-0-is at c.in-Ok-Some.ensures.pairs)
    c.canonical.ensures.ascending (rw (← c.len-len.ensures.value) c.len-len.ensures.at_most)
    (ap (λ t. t.pairs) c.in-Err-put_pair.ensures.unchanged) c.in-Err-put_pair.ensures.refused
    c.in-Err-put_pair.ensures.put_back

pub returns-in-Err-clause-refused : goal.returns-in-Err-clause-refused
returns-in-Err-clause-refused g c =
    first-not-removed g.F.FnMut g.K.KeyTrait.bytes c.args.f.now c.args.self.now.pairs c.args.other.now.pairs
    c.pop_first.new.self.pairs c.in-Err.error c.in-Err.ensures.memory (ap (λ t. t.pairs) c.in-Err.ensures.unchanged)
