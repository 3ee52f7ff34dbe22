use Rattle.std.proofs.Common.{inl, inr, refl}
use Rattle.std.proofs.lemmas.Result.{on_ok_weaker}
use Rattle.rart_trie.proofs.splits.PlanSteps.{adds-split, adds-whole, capacity-fits}
use Rattle.rart_trie.proofs.node.edits.split.push_own.Goals as goal
use Rattle.rart_trie.proofs.node.edits.split.push_own.Goals.{then-not-found-via-then-not-found}
use Rattle.rart_trie.proofs.node.edits.split.push_own.Goals.{then-not-found-via-else-not-found+then-not-found-2}

pub returns-then-not-found-clause-own : goal.returns-then-not-found-clause-own
returns-then-not-found-clause-own g c = on_ok_weaker c.push_step.result
    (λ e. adds-whole c.args.value_inside c.args.inside c.args.outside c.args.found c.args.start c.args.steps.now.items
    c.push_step.new.steps.items (elim c.then-not-found.branch [
      | then-not-found-via-then-not-found w ↦ inl w.if-not-found.true
      | then-not-found-via-else-not-found+then-not-found-2 w ↦ inr w.if-not-found-2.true
    ]) (rw c.truncate.ensures.items at e)) c.push_step.ensures.pushed

pub returns-clause-own : goal.returns-clause-own
returns-clause-own g c = on_ok_weaker c.push_step-2.result
    (λ e. adds-split c.args.value_inside c.args.inside c.args.outside c.args.found c.args.start c.args.steps.now.items
    c.push_step-2.new.steps.items _ c.if-not-found.false c.if-not-found-2.false (record {
      value = refl;
      inside = record {
        entries = c.in_ok-for_children.ensures.entries;
        value = c.in_ok-for_children.ensures.value;
        capacity = c.in_ok-for_children.ensures.capacity;
        fits = rw c.in_ok-for_children.ensures.capacity (capacity-fits c.args.inside c.requires.inside);
      };
      outside = record {
        entries = c.in_ok-for_children-2.ensures.entries;
        value = c.in_ok-for_children-2.ensures.value;
        capacity = c.in_ok-for_children-2.ensures.capacity;
        fits = rw c.in_ok-for_children-2.ensures.capacity (capacity-fits c.args.outside c.requires.outside);
      };
    }) e) c.push_step-2.ensures.pushed
