use Rattle.std.proofs.Common.{ap, [], ◌∙◌}
use Rattle.rart_trie.specs.edits.Splits.{complement, side_node}
use Rattle.rart_trie.proofs.splits.SideSteps.{side-is, side-makes}
use Rattle.rart_trie.proofs.node.DefaultNode.split_by_plan.Goals as goal

pub node_of_side-inside-requires : goal.node_of_side-inside-requires
node_of_side-inside-requires g c =
    let a = c.move_to_sides-inside.ensures.sides c.requires.planned.0 [] c.requires.planned.1 in
    rw (c.prefix.ensures, c.move_to_sides-inside.ensures.prefix) (side-makes _ c.requires.planned.0 c.args.self.now
    c.move_to_sides-inside.result.inside c.requires.canonical c.requires.within a.1.0)

pub node_of_side-outside-requires : goal.node_of_side-outside-requires
node_of_side-outside-requires g c =
    let a = c.move_to_sides-inside.ensures.sides c.requires.planned.0 [] c.requires.planned.1 in
    rw (c.prefix-2.ensures, c.move_to_sides-inside.ensures.prefix) (side-makes _ (complement c.requires.planned.0)
    c.args.self.now c.move_to_sides-inside.result.outside c.requires.canonical c.requires.within a.1.1)

pub returns : goal.returns
returns g c = record {
  sides = λ t h.
      let a = c.move_to_sides-inside.ensures.sides t [] h in (
        c.node_of_side-inside.ensures
            ∙ ap (λ p. side_node p c.move_to_sides-inside.result.inside)
            (c.prefix.ensures ∙ c.move_to_sides-inside.ensures.prefix)
            ∙ side-is t c.args.self.now c.move_to_sides-inside.result.inside a.1.0,
        c.node_of_side-outside.ensures
            ∙ ap (λ p. side_node p c.move_to_sides-inside.result.outside)
            (c.prefix-2.ensures ∙ c.move_to_sides-inside.ensures.prefix)
            ∙ side-is (complement t) c.args.self.now c.move_to_sides-inside.result.outside a.1.1,
      );
}
