use Rattle.std.proofs.Common.{None, set, ap, ◌∙◌, arith}
use Rattle.rart_block_tests.proofs.Vacant.{taken_back}
use Rattle.rart_block_tests.proofs.sparse.moves_nothing.Goals as goal

pub destroy_empty-requires : goal.destroy_empty-requires
destroy_empty-requires g c = (
  omega arith,
  ap (λ b. b.items) c.take.ensures.vacated ∙ ap (λ b. set b.items c.args.at None) c.put.ensures
      ∙ taken_back c.args.block.items g.row.W c.args.at _ c.requires.1,
)
