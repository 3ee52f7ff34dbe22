use Rattle.std.proofs.Common.{◌∙◌, sym}
use Rattle.std.proofs.lemmas.Cmp.{nat_list_cmp_total, tied_itself}
use Rattle.std.proofs.lemmas.Map.Lookups.{exact_bytes}
use Rattle.rart_trie.specs.walks.Walk.{joined_bytes}
use Rattle.rart_nodes.specs.walks.PathParts.{lent_segments}
use Rattle.rart.proofs.laws.probes.comparisons_agree.Goals as goal

pub returns-clause-agree : goal.returns-clause-agree
returns-clause-agree c =
    let bytes = joined_bytes (lent_segments c.args.view.segments.now) in
    let slice = c.args.slice.now in (
      λ t. c.cmp_slice.ensures ∙ rw (c.eq_slice.ensures.0 t) (tied_itself nat_list_cmp_total slice),
      λ e.
          c.eq_slice.ensures.1 (exact_bytes bytes slice (sym c.cmp_slice.ensures ∙ e)),
    )
