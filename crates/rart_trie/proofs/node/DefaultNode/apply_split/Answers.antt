use Rattle.std.proofs.Common.{ap, ◌∙◌, sym, refl, Some}
use Rattle.rart_trie.specs.declared.slot.SlotUpdate.TheVariants.{Insert}
use Rattle.rart_trie.proofs.edits.UpdateSteps.{refuses-memory, left-allocates}
use Rattle.rart_trie.proofs.node.DefaultNode.apply_split.Goals as goal

pub returns-in-Err : goal.returns-in-Err
returns-in-Err g c =
    let allocates = left-allocates c.args.key.now c.args.self.now c.requires.leaves in (
      ap Some c.in-Err.ensures.unchanged,
      c.in-Insert.is
          ∙ ap Insert (sym c.in-Err.ensures.returned.1),
      refl,
      refuses-memory c.args.full c.args.key.now
          (Some c.args.self.now) c.in-Err.refused.error c.in-Err.ensures.returned.0 c.if-full.false allocates,
    )
