use Rattle.std.proofs.Common.{ap, arith, ◌≡◌, sym, length}
use Rattle.std.proofs.lemmas.Result.{on_ok_weaker}
use Rattle.rart_trie.specs.ranges.Parts.{is_in_part}
use Rattle.rart_trie.specs.storages.Stored.{storage_capacity, stored_prefix, stored_value}
use Rattle.rart_trie.specs.tries.TrieCode.{node_count}
use Rattle.rart_trie.proofs.ranges.PartLemmas.{after-prefix}
use Rattle.rart_trie.proofs.splits.PlanSteps.{found-whole, next-canonical, next-few, next-fewer, planned-end}
use Rattle.rart_trie.proofs.splits.PlanSteps.{planned-found, planned-whole, planning-start, planning-step}
use Rattle.rart_trie.proofs.node.DefaultNode.+plan.Goals as goal

pub returns-in-Some-clause-planned : goal.returns-in-Some-clause-planned
returns-in-Some-clause-planned g t c = on_ok_weaker c.plan_whole.result
    (λ e. planned-whole (is_in_part c.args.part) c.in-Some.is_inside c.args.self.now _ _ c.requires.canonical
    c.in-Some.ensures.holds e) c.plan_whole.ensures.pushed

pub returns-in-Some-clause-found : goal.returns-in-Some-clause-found
returns-in-Some-clause-found g t c = found-whole (is_in_part c.args.part) c.in-Some.is_inside c.args.self.now
    c.plan_whole.result c.requires.canonical c.in-Some.ensures.holds c.plan_whole.ensures.inside
    c.plan_whole.ensures.outside

pub loop-byte-init : goal.loop-byte-init
loop-byte-init g t c = record { planning = planning-start c.iter-children.ensures.entries }

pub plan-requires : goal.plan-requires
plan-requires g t c κs within =
    let w = rw (← c.self.view_is) at c.requires.canonical in (
      omega (
        arith,
        c.decreases,
        ap node_count c.self.view_is,
        next-fewer c.loop-byte.invariant.planning c.in-Some-take_next.ensures w.2
            (g.P.Partial.bytes (stored_prefix c.self.inside.storage)) (stored_value c.self.inside.storage)
            (storage_capacity c.self.inside.storage),
      ),
      (
        within.0,
        (within.1, next-canonical c.loop-byte.invariant.planning c.in-Some-take_next.ensures w.2),
      ),
    )

pub counted-inside-requires : goal.counted-inside-requires
counted-inside-requires g t c =
    let w = rw (← c.self.view_is) at c.requires.canonical in
    (next-few c.loop-byte.invariant.planning c.in-Some-take_next.ensures w.2).0

pub counted-outside-requires : goal.counted-outside-requires
counted-outside-requires g t c =
    let w = rw (← c.self.view_is) at c.requires.canonical in
    (next-few c.loop-byte.invariant.planning c.in-Some-take_next.ensures w.2).1

pub loop-byte-smaller : goal.loop-byte-smaller
loop-byte-smaller g t c = omega (arith, ap length c.in-Some-take_next.ensures)

pub loop-byte-preserved : goal.loop-byte-preserved
loop-byte-preserved g t c =
    let w = rw (← c.self.view_is) at c.requires.canonical in record {
      planning = planning-step c.loop-byte.invariant.planning c.in-Some-take_next.ensures w.2
          (is_in_part c.at_child.result) c.in_ok-found.found c.counted-inside.result c.counted-outside.result
          c.plan.new.steps.items c.at_child.ensures c.in_ok-found.ensures.planned c.in_ok-found.ensures.found
          c.counted-inside.ensures.more c.counted-inside.ensures.same c.counted-outside.ensures.more
          c.counted-outside.ensures.same c.counted-inside.ensures.few c.counted-outside.ensures.few;
    }

pub push_own-requires-clause-inside : goal.push_own-requires-clause-inside
push_own-requires-clause-inside g t c = c.loop-byte.invariant.planning.few.0

pub push_own-requires-clause-outside : goal.push_own-requires-clause-outside
push_own-requires-clause-outside g t c = c.loop-byte.invariant.planning.few.1

pub returns-clause-planned : goal.returns-clause-planned
returns-clause-planned g t c =
    let start : c.len-start.result ≡ length c.args.steps.now.items
    = omega (arith, c.len-start.ensures, c.args.steps.now.ok.0) in
    rw (← c.self.view_is) (planned-end (is_in_part c.args.part)
    (g.P.Partial.bytes (stored_prefix c.self.inside.storage)) (stored_value c.self.inside.storage)
    (storage_capacity c.self.inside.storage) c.loop-byte.invariant.planning c.in_default-take_next.ensures.0
    (after-prefix c.args.part c.after_prefix-within.result _ _ (ap g.P.Partial.bytes (sym c.prefix.ensures))
    c.after_prefix-within.ensures) c.holds_empty-value_inside.result c.sides_found-found.result
    c.holds_empty-value_inside.ensures (rw (← c.has_value.ensures) c.sides_found-found.ensures.inside)
    (rw (← c.has_value.ensures) c.sides_found-found.ensures.outside) c.push_own.new.steps.items
    (rw (← c.self.view_is) at c.requires.canonical) (rw start at c.in_ok-push_own.ensures.own))

pub returns-clause-found : goal.returns-clause-found
returns-clause-found g t c = rw (← c.self.view_is) (planned-found (is_in_part c.args.part)
    (g.P.Partial.bytes (stored_prefix c.self.inside.storage)) (stored_value c.self.inside.storage)
    (storage_capacity c.self.inside.storage) c.loop-byte.invariant.planning c.in_default-take_next.ensures.0
    (after-prefix c.args.part c.after_prefix-within.result _ _ (ap g.P.Partial.bytes (sym c.prefix.ensures))
    c.after_prefix-within.ensures) c.holds_empty-value_inside.result c.sides_found-found.result
    c.holds_empty-value_inside.ensures (rw (← c.has_value.ensures) c.sides_found-found.ensures.inside)
    (rw (← c.has_value.ensures) c.sides_found-found.ensures.outside))
