use Rattle.rart.proofs.bulks.CopyLemmas.{copied-all, left-shorter}
use Rattle.rart.proofs.bulks.MigrateLemmas.{terminated, text-below, texts-more}
use Rattle.rart.proofs.tree.bulk.migrate.read_texts.Goals as goal

pub loop-key-init : goal.loop-key-init
loop-key-init g c = record { pairs = rw (c.new-loader.ensures, c.in-Ok.ensures.pairs) }

pub loop-key-smaller : goal.loop-key-smaller
loop-key-smaller g c = left-shorter _ _ _ c.in-Some.ensures.steps

pub append-requires : goal.append-requires
append-requires g c = record {
  later = text-below c.closing_zeros.ensures _ _ _ _ _ _ _ c.canonical.ensures.ascending
      c.loop-key.invariant.pairs c.in-Some.ensures.steps c.in-Some-without_zero.ensures.text;
}

pub loop-key-preserved : goal.loop-key-preserved
loop-key-preserved g c = record {
  pairs = texts-more _ _ _ _ _ _ c.loop-key.invariant.pairs c.in-Some.ensures.steps
      c.in-Some-without_zero.ensures.text c.in-Ok-append.ensures.pairs;
}

pub unreachable-requires : goal.unreachable-requires
unreachable-requires g c =
    let text = terminated _ _ _ _ _ _ c.requires c.loop-key.invariant.pairs c.in-Some.ensures.steps in
    c.in_default-without_zero.ensures.no_text text.0 text.1

pub returns-clause-pairs : goal.returns-clause-pairs
returns-clause-pairs g c = copied-all _ _ _ c.loop-key.invariant.pairs c.in_default-next.ensures.steps.0
