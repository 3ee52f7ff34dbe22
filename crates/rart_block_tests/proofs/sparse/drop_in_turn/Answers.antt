use Rattle.std.proofs.Common.{None, set, ap, ◌∙◌, arith}
use Rattle.rart_block_tests.proofs.Vacant.{set_twice, taken_back}
use Rattle.rart_block_tests.proofs.sparse.drop_in_turn.Goals as goal

pub destroy_empty-parts-requires : goal.destroy_empty-parts-requires
destroy_empty-parts-requires g c = (
  omega arith,
  ap (λ b. b.items) c.take-2.ensures.vacated ∙ set_twice c.put-2.new.self.items c.args.at _ None
      ∙ ap (λ b. set b.items c.args.at None) c.put-2.ensures ∙ set_twice c.take.new.self.items c.args.at _ None
      ∙ ap (λ b. set b.items c.args.at None) c.take.ensures.vacated
      ∙ set_twice c.put.new.self.items c.args.at None None ∙ ap (λ b. set b.items c.args.at None) c.put.ensures
      ∙ taken_back c.args.block.items g.row.W c.args.at _ c.requires.1,
)
