use Rattle.std.proofs.Common.{◌∷◌, ◌++◌, [], arith, ap, ap₂, ◌∙◌}
use Rattle.rart_trie.specs.build.Built.{built}
use Rattle.rart_trie.specs.tries.TrieCode.{as_children}
use Rattle.rart_trie.proofs.build.SpineLemmas.{leaf-closed}
use Rattle.rart_trie.proofs.build.SpineSteps.{frame-children, frame-closed, frame-inside, part-within}
use Rattle.rart_trie.proofs.node.edits.builder.Builder.close.Goals as goal

pub loop-frame-init : goal.loop-frame-init
loop-frame-init g c = record {
  closed = rw c.leaf-storage.ensures (leaf-closed c.args.last.now c.args.value _ _ c.requires.spine);
  low = c.requires.low;
}

pub key_part-requires-clause-ends : goal.key_part-requires-clause-ends
key_part-requires-clause-ends g c =
    let inside = frame-inside c.args.last.now c.pop_from.new.self.spine.items c.loop-frame.self.spine.items
    c.in-Some.frame _ _ _ _ c.loop-frame.invariant.closed c.in-Some.ensures.popped.1 in
    omega (arith, inside.0)

pub key_part-requires-clause-reach : goal.key_part-requires-clause-reach
key_part-requires-clause-reach g c =
    (frame-inside c.args.last.now c.pop_from.new.self.spine.items c.loop-frame.self.spine.items c.in-Some.frame _ _ _ _
    c.loop-frame.invariant.closed c.in-Some.ensures.popped.1).1

pub wait-requires : goal.wait-requires
wait-requires g c =
    let inside = frame-inside c.args.last.now c.pop_from.new.self.spine.items c.loop-frame.self.spine.items
    c.in-Some.frame _ _ _ _ c.loop-frame.invariant.closed c.in-Some.ensures.popped.1 in
    record {
      within = part-within _ c.args.last.now _ c.in-Some.frame.depth c.loop-frame.end c.key_part.ensures inside.1
          c.requires.within;
    }

pub storage_from-requires-clause-starts : goal.storage_from-requires-clause-starts
storage_from-requires-clause-starts g c =
    (frame-children c.args.last.now (λ d. (c.type_inv.last d).fits) c.pop_from.new.self.spine.items
    c.loop-frame.self.spine.items c.in-Some.frame c.loop-frame.self.waiting.items c.wait.new.self.waiting.items
    c.loop-frame.end _ _ _ _ c.loop-frame.invariant.closed c.in-Some.ensures.popped.1
    (c.in_ok-wait.ensures.added ∙ ap₂ (λ ts p. ts ++ built p c.loop-frame.storage ∷ []) c.pop_from.ensures.waiting
    c.key_part.ensures)).starts

pub storage_from-requires-clause-few : goal.storage_from-requires-clause-few
storage_from-requires-clause-few g c =
    (frame-children c.args.last.now (λ d. (c.type_inv.last d).fits) c.pop_from.new.self.spine.items
    c.loop-frame.self.spine.items c.in-Some.frame c.loop-frame.self.waiting.items c.wait.new.self.waiting.items
    c.loop-frame.end _ _ _ _ c.loop-frame.invariant.closed c.in-Some.ensures.popped.1
    (c.in_ok-wait.ensures.added ∙ ap₂ (λ ts p. ts ++ built p c.loop-frame.storage ∷ []) c.pop_from.ensures.waiting
    c.key_part.ensures)).few

pub storage_from-requires-clause-canonical : goal.storage_from-requires-clause-canonical
storage_from-requires-clause-canonical g c =
    (frame-children c.args.last.now (λ d. (c.type_inv.last d).fits) c.pop_from.new.self.spine.items
    c.loop-frame.self.spine.items c.in-Some.frame c.loop-frame.self.waiting.items c.wait.new.self.waiting.items
    c.loop-frame.end _ _ _ _ c.loop-frame.invariant.closed c.in-Some.ensures.popped.1
    (c.in_ok-wait.ensures.added ∙ ap₂ (λ ts p. ts ++ built p c.loop-frame.storage ∷ []) c.pop_from.ensures.waiting
    c.key_part.ensures)).children

pub loop-frame-preserved : goal.loop-frame-preserved
loop-frame-preserved g c = record {
  closed = rw (c.storage_from.ensures.spine, c.wait.ensures.spine)
      (frame-closed c.args.last.now (λ d. (c.type_inv.last d).fits) c.pop_from.new.self.spine.items
      c.loop-frame.self.spine.items c.in-Some.frame c.loop-frame.self.waiting.items c.wait.new.self.waiting.items
      c.loop-frame.end _ _ _ _ c.loop-frame.invariant.closed c.in-Some.ensures.popped.1
      (c.in_ok-wait.ensures.added ∙ ap₂ (λ ts p. ts ++ built p c.loop-frame.storage ∷ []) c.pop_from.ensures.waiting
      c.key_part.ensures) _ _ _ _ c.in_ok-storage.ensures.waiting c.in_ok-storage.ensures.value
      c.in_ok-storage.ensures.capacity (ap as_children c.in_ok-storage.ensures.entries));
  low = c.in-Some.ensures.popped.0;
}

pub returns-clause-closed : goal.returns-clause-closed
returns-clause-closed g c = rw (c.in_default.ensures.popped.1, c.pop_from.ensures.waiting)
    c.loop-frame.invariant.closed

pub returns-clause-low : goal.returns-clause-low
returns-clause-low g c = c.loop-frame.invariant.low
