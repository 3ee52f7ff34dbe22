use Rattle.std.proofs.Common.{◌≡◌, ◌++◌, ◌∷◌, ◌∙◌, [], sym, ap, arith}
use Rattle.rart_parts.specs.Entries.{sorted_entries}
use Rattle.rart_maps.proofs.MoveLemmas.{taken_absent, taken_next, taken_fits}
use Rattle.rart_maps.proofs.mapping.indexed_mapping.IndexedMapping.fill_from_sorted_keyed.Goals as goal

pub add_child-requires : goal.add_child-requires
add_child-requires g c =
    let is : (c.take_last.new.self.entries ++ (c.in-Some.key, c.in-Some.child) ∷ [])
    ++ sorted_entries c.loop-key.self.entries ≡ c.args.source.now.entries
    = ap (λ es. es ++ sorted_entries c.loop-key.self.entries) (sym c.in-Some.ensures.entries)
    ∙ c.loop-key.invariant.1 in (
      omega arith,
      (
        taken_absent c.args.source.now.entries c.take_last.new.self.entries
            (sorted_entries c.loop-key.self.entries) (c.in-Some.key, c.in-Some.child) c.loop-key.invariant.0 is,
        taken_fits c.args.source.now.entries c.take_last.new.self.entries
            (sorted_entries c.loop-key.self.entries) (c.in-Some.key, c.in-Some.child) c.loop-key.invariant.0 is g.row.W
            c.requires.at_most,
      ),
    )

pub loop-key-preserved : goal.loop-key-preserved
loop-key-preserved g c =
    let is : (c.take_last.new.self.entries ++ (c.in-Some.key, c.in-Some.child) ∷ [])
    ++ sorted_entries c.loop-key.self.entries ≡ c.args.source.now.entries
    = ap (λ es. es ++ sorted_entries c.loop-key.self.entries) (sym c.in-Some.ensures.entries)
    ∙ c.loop-key.invariant.1 in (
      c.loop-key.invariant.0,
      ap (λ es. c.take_last.new.self.entries ++ es) c.add_child.ensures.entries
          ∙ taken_next c.args.source.now.entries c.take_last.new.self.entries
          (sorted_entries c.loop-key.self.entries) (c.in-Some.key, c.in-Some.child) c.loop-key.invariant.0 is,
      c.add_child.ensures.extra ∙ c.loop-key.invariant.2,
      c.take_last.ensures.extra ∙ c.loop-key.invariant.3,
    )
