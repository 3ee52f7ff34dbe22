use Rattle.rart_trie.proofs.node.edits.split.add_sides.Goals as goal

pub node_of_side-inside-requires : goal.node_of_side-inside-requires
node_of_side-inside-requires g c = rw c.prefix.ensures (rw (← c.in-Some.ensures.taken) at c.requires.makes_inside)

pub node_of_side-outside-requires : goal.node_of_side-outside-requires
node_of_side-outside-requires g c
    = rw c.prefix-in-Some.ensures (rw (← c.in-Some.ensures.taken) at c.requires.makes_outside)

pub add_child-requires : goal.add_child-requires
add_child-requires g c = record {
  slot = rw (c.node_of_side-inside.ensures, c.prefix.ensures)
      (rw (← c.in-Some.ensures.taken) at c.requires.inside);
}

pub add_child-requires-in-Some : goal.add_child-requires-in-Some
add_child-requires-in-Some g c = record {
  slot = rw (c.node_of_side-outside.ensures, c.prefix-in-Some.ensures)
      (rw (← c.in-Some.ensures.taken) at c.requires.outside);
}
