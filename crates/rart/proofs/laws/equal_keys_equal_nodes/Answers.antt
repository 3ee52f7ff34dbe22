use Rattle.rart.proofs.laws.equal_keys_equal_nodes.Goals as goal

pub returns : goal.returns
returns g c = c.one_shape.ensures _ _ _ c.canonical.ensures.shape (rw (← c.requires) at c.canonical-2.ensures.shape)
