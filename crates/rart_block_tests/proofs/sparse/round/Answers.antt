use Rattle.std.proofs.Common.{None, set, ap, ◌∙◌, arith}
use Rattle.rart_block_tests.proofs.Vacant.{set_twice, taken_back}
use Rattle.rart_block_tests.proofs.sparse.round.Goals as goal

pub destroy_empty-head-requires : goal.destroy_empty-head-requires
destroy_empty-head-requires g c = (
  omega arith,
  ap (λ b. b.items) c.take-taken.ensures.vacated ∙ set_twice c.put.new.self.items c.args.at _ None
      ∙ ap (λ b. set b.items c.args.at None) c.put.ensures
      ∙ taken_back c.args.block.items g.row.W c.args.at _ c.requires.1,
)
