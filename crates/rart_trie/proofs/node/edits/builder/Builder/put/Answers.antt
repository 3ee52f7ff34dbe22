use Rattle.std.proofs.Common.{◌∷◌, ◌++◌, [], ap₂, ◌∙◌}
use Rattle.std.proofs.lemmas.Result.{on_ok_weaker}
use Rattle.rart_trie.specs.build.Built.{built}
use Rattle.rart_trie.proofs.build.SpineSteps.{key-begins, key-parts}
use Rattle.rart_trie.proofs.node.edits.builder.Builder.put.Goals as goal

pub returns-then-shared-last-clause-at : goal.returns-then-shared-last-clause-at
returns-then-shared-last-clause-at g c =
    (key-begins c.open.result c.args.last.now c.args.next.now _ c.args.value c.args.self.now.spine.items
    c.open.new.self.spine.items c.args.self.now.waiting.items c.open.new.self.waiting.items c.requires.at
    c.requires.ascending c.common_prefix_length-shared.ensures.greatest c.if-shared-last.true c.open.ensures.opened
    c.open.ensures.waiting).0

pub returns-then-shared-last-clause-pairs : goal.returns-then-shared-last-clause-pairs
returns-then-shared-last-clause-pairs g c =
    (key-begins c.open.result c.args.last.now c.args.next.now _ c.args.value c.args.self.now.spine.items
    c.open.new.self.spine.items c.args.self.now.waiting.items c.open.new.self.waiting.items c.requires.at
    c.requires.ascending c.common_prefix_length-shared.ensures.greatest c.if-shared-last.true c.open.ensures.opened
    c.open.ensures.waiting).1

pub returns-clause-at : goal.returns-clause-at
returns-clause-at g c = rw c.wait.ensures.spine
    (key-parts c.wait.result c.args.last.now (λ d. (c.type_inv.last d).fits) c.args.next.now _ c.in_ok-storage.end
    _ _ c.close.new.self.waiting.items c.wait.new.self.waiting.items _ _ _ _ c.requires.ascending
    c.common_prefix_length-shared.ensures.greatest c.in_ok-storage.ensures.low c.in_ok-storage.ensures.closed
    c.in_default.ensures.reached
    (on_ok_weaker c.wait.result (λ e. e ∙ ap₂ (λ ts p. ts ++ built p c.in_ok-storage.storage ∷ [])
    c.reach.ensures.waiting c.key_part.ensures) c.wait.ensures.added)).0

pub returns-clause-pairs : goal.returns-clause-pairs
returns-clause-pairs g c = rw c.wait.ensures.spine
    (key-parts c.wait.result c.args.last.now (λ d. (c.type_inv.last d).fits) c.args.next.now _ c.in_ok-storage.end
    _ _ c.close.new.self.waiting.items c.wait.new.self.waiting.items _ _ _ _ c.requires.ascending
    c.common_prefix_length-shared.ensures.greatest c.in_ok-storage.ensures.low c.in_ok-storage.ensures.closed
    c.in_default.ensures.reached
    (on_ok_weaker c.wait.result (λ e. e ∙ ap₂ (λ ts p. ts ++ built p c.in_ok-storage.storage ∷ [])
    c.reach.ensures.waiting c.key_part.ensures) c.wait.ensures.added)).1
