use Rattle.std.proofs.Common.{◌≡◌, ◌∙◌, ap, sym, refl, None, is_some}
use Rattle.rart_trie.specs.tries.Trie.{trie_lookup, value_of}
use Rattle.rart_trie.proofs.edits.LeafLemmas.{leaf-value, leaf-some}
use Rattle.rart_trie.proofs.edits.UpdateSteps.{leaf-done, none-there, some-stays}
use Rattle.rart_trie.proofs.node.DefaultNode.update_tree.Goals as goal

pub update_below-requires-clause-occupancy : goal.update_below-requires-clause-occupancy
update_below-requires-clause-occupancy g c = rw c.in-Some.is at c.requires.occupancy

pub returns-then-not-is_leaf_at : goal.returns-then-not-is_leaf_at
returns-then-not-is_leaf_at g c = rw c.in-Some.is c.update_below.ensures

pub update_leaf-requires-clause-occupancy : goal.update_leaf-requires-clause-occupancy
update_leaf-requires-clause-occupancy g c =
    let stays = rw c.in-Some.is at c.requires.occupancy in
    let goes = sym c.is_leaf_at.ensures ∙ c.if-not-is_leaf_at.false in
    let leaf : trie_lookup c.args.key.now c.in-Some.node ≡ value_of c.in-Some.node
    = leaf-value c.args.key.now c.in-Some.node goes in
    λ r x w h. some-stays w _ (stays r x w (rw leaf h) ∙ ap is_some leaf)
    (leaf-some c.args.key.now c.in-Some.node (rw c.in-Some.is at c.requires.canonical) goes)

pub show_vacant-answer-requires-clause-occupancy : goal.show_vacant-answer-requires-clause-occupancy
show_vacant-answer-requires-clause-occupancy g c =
    let stays = rw c.in-None.is at c.requires.occupancy in
    λ r x w h. none-there w None (stays r x w h) refl

pub returns-in-Some-outcome : goal.returns-in-Some-outcome
returns-in-Some-outcome g c =
    let goes = sym c.is_leaf_at.ensures ∙ c.if-not-is_leaf_at.false in
    let leaf : trie_lookup c.args.key.now c.in-Some.node ≡ value_of c.in-Some.node
    = leaf-value c.args.key.now c.in-Some.node goes in
    let e = c.update_leaf.ensures in
    let done = rw c.in-Some-outcome.is at e.3 in (
      e.0,
      e.1,
      rw (c.in-Some.is, leaf) e.2,
      rw c.in-Some.is
          (leaf-done c.args.full c.args.key.now c.in-Some.node c.update_leaf.new.self e.0 e.1 c.in-Some-outcome.outcome
          goes done),
    )
