use Rattle.std.proofs.Common.{None, set, ap, ◌∙◌, arith}
use Rattle.rart_block_tests.proofs.Vacant.{set_apart, set_twice, vacant_again}
use Rattle.rart_block_tests.proofs.sparse.two.Goals as goal

pub destroy_empty-requires : goal.destroy_empty-requires
destroy_empty-requires g c = (
  omega arith,
  ap (λ b. b.items) c.take-last.ensures.vacated
      ∙ ap (λ b. set b.items c.args.second None) c.take-taken.ensures.vacated
      ∙ ap (λ b. set (set b.items c.args.first None) c.args.second None) c.put-2.ensures
      ∙ ap (λ l. set l c.args.second None) (set_twice c.put.new.self.items c.args.first _ None)
      ∙ ap (λ b. set (set b.items c.args.first None) c.args.second None) c.put.ensures
      ∙ ap (λ l. set l c.args.second None) (set_apart c.args.block.items c.args.first c.args.second _ None c.requires.0)
      ∙ set_twice (set c.args.block.items c.args.first None) c.args.second _ None
      ∙ ap (λ l. set (set l c.args.first None) c.args.second None) c.requires.2
      ∙ ap (λ l. set l c.args.second None) (vacant_again _ g.row.W c.args.first)
      ∙ vacant_again _ g.row.W c.args.second,
)
