use Rattle.std.proofs.Common.{◌≡◌, ◌∙◌, ap, length, sym}
use Rattle.rart_trie.specs.tries.Trie.{pairs_of}
use Rattle.rart.specs.Loaders.{loaded_pairs}
use Rattle.rart.proofs.tree.bulk.loader.Loader.into_tree.Goals as goal

pub finish-requires-clause-within : goal.finish-requires-clause-within
finish-requires-clause-within g c = rw (g.met.K.KeyTrait.same_maximum, c.as_ref.ensures)
    (g.met.K.KeyTrait.within c.in-Some.key)

pub invariant_of-result : goal.invariant_of-result
invariant_of-result g c =
    let pairs : pairs_of c.in-Ok.root ≡ loaded_pairs g.K.KeyTrait.bytes c.self.inside.builder c.self.inside.last
    = (rw c.as_ref.ensures at c.in-Ok.ensures.pairs)
    ∙ sym (ap (loaded_pairs g.K.KeyTrait.bytes c.self.inside.builder) c.in-Some.is) in
    record {
      canonical = c.in-Ok.ensures.canonical;
      counted = c.self.invariant.counted ∙ ap length (sym pairs);
      few = c.self.invariant.few;
      short = rw pairs c.self.invariant.short;
      within = c.self.invariant.within;
      unused = c.self.invariant.unused;
    }
