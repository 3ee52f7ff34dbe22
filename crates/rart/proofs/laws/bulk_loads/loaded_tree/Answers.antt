use Rattle.std.proofs.Common.{◌∙◌}
use Rattle.std.proofs.lemmas.Result.{IfErr-weaker, IfOk-weaker}
use Rattle.rart.proofs.bulks.BulkLawLemmas.{load-all, load-refused, vec-begun, vec-drained}
use Rattle.rart.proofs.laws.bulk_loads.loaded_tree.Goals as goal

pub returns-clause-pairs : goal.returns-clause-pairs
returns-clause-pairs g c =
    IfOk-weaker c.bulk_load_sorted.result _ _
    (λ t h. load-all c.bulk_lists.ensures.strict_faultless c.ascending_pairs.ensures.beginning
    c.bulk_lists.ensures.strict_stays g.K.KeyTrait.bytes c.args.sorted.items c.requires h.1 t.pairs
    (vec-drained _ c.args.sorted.items h.2.0 (h.2.1 ∙ c.args.sorted.ok.0) h.1 h.3) h.4.1)
    c.bulk_load_sorted.ensures.faultless

pub returns-clause-memory : goal.returns-clause-memory
returns-clause-memory g c =
    IfErr-weaker c.bulk_load_sorted.result _ _
    (λ e h. let begun = vec-begun _ c.args.sorted.items h.3.0 (h.3.1 ∙ c.args.sorted.ok.0) h.1 h.2 h.4 in
    load-refused c.bulk_lists.ensures.strict_faultless c.ascending_pairs.ensures.beginning
    c.bulk_lists.ensures.strict_stays g.K.KeyTrait.bytes c.args.sorted.items c.requires h.1 begun.0 e begun.1 h.5)
    c.bulk_load_sorted.ensures.refused
