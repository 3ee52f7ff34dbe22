use Rattle.std.proofs.Common.{◌≡◌, ◌∙◌, ap, Err}
use Rattle.rart_keys.specs.SortedMap.{keys_of}
use Rattle.rart.specs.Updates.{TriesUpdate}
use Rattle.rart.specs.declared.tree.update.TryUpdateError.TheVariants.{Remove}
use Rattle.rart.proofs.trees.UpdateLemmas.{done, failed, not-called, not-inserted, put-back, same-map, some-left}
use Rattle.rart.proofs.trees.UpdateLemmas.{was-stored}
use Rattle.rart.proofs.tree.AdaptiveRadixTree.try_update_k.Given.{Over}
use Rattle.rart.proofs.tree.AdaptiveRadixTree.try_update_k.Goals.{After-restore}
use Rattle.rart.proofs.tree.AdaptiveRadixTree.try_update_k.Goals as goal

-- it wasn't called
pub returns-in-NotCloned-clause-unchanged : goal.returns-in-NotCloned-clause-unchanged
returns-in-NotCloned-clause-unchanged g c =
    let pairs = (not-called c.put_back.ensures.same_pairs c.canonical.ensures.ascending
    (rw c.in-NotCloned.is at c.try_update_slot-outcome.ensures.update)).0 in
    same-map _ _ pairs (c.try_update_slot-outcome.ensures.nodes (ap keys_of pairs))

pub returns-in-NotCloned-clause-not_cloned : goal.returns-in-NotCloned-clause-not_cloned
returns-in-NotCloned-clause-not_cloned g c = λ _. (not-called c.put_back.ensures.same_pairs
    c.canonical.ensures.ascending (rw c.in-NotCloned.is at c.try_update_slot-outcome.ensures.update)).1

-- it failed
pub returns-in-Failed-clause-calls : goal.returns-in-Failed-clause-calls
returns-in-Failed-clause-calls g c = λ _. (failed c.put_back.ensures.same_pairs c.canonical.ensures.ascending
    c.in-Failed.error (rw c.in-Failed.is at c.try_update_slot-outcome.ensures.update)).0

pub returns-in-Failed-clause-unchanged : goal.returns-in-Failed-clause-unchanged
returns-in-Failed-clause-unchanged g c =
    let pairs = (failed c.put_back.ensures.same_pairs c.canonical.ensures.ascending c.in-Failed.error
    (rw c.in-Failed.is at c.try_update_slot-outcome.ensures.update)).1 in
    same-map _ _ pairs (c.try_update_slot-outcome.ensures.nodes (ap keys_of pairs))

-- the requested edit is made
pub returns-in-Ok-clause-calls : goal.returns-in-Ok-clause-calls
returns-in-Ok-clause-calls g c = λ _. done _ c.in-Ok.outcome _ c.is_touched.ensures c.in-Ok.is
    (rw c.in-Answered.is at c.try_update_slot-outcome.ensures.update)

-- an insertion is refused
pub returns-in-Err-Insert-clause-calls : goal.returns-in-Err-Insert-clause-calls
returns-in-Err-Insert-clause-calls g c = λ _. (not-inserted _ c.in-Err-Insert.refused
    (c.in-Err-Insert.is ∙ ap Err c.in-Err-Insert.field-0-is)
    (rw c.in-Answered.is at c.try_update_slot-outcome.ensures.update)).0

pub returns-in-Err-Insert-clause-unchanged : goal.returns-in-Err-Insert-clause-unchanged
returns-in-Err-Insert-clause-unchanged g c =
    let pairs = (not-inserted _ c.in-Err-Insert.refused (c.in-Err-Insert.is ∙ ap Err c.in-Err-Insert.field-0-is)
    (rw c.in-Answered.is at c.try_update_slot-outcome.ensures.update)).1 in
    same-map _ _ pairs (c.try_update_slot-outcome.ensures.nodes (ap keys_of pairs))

-- a removal is refused
pub restore-requires : goal.restore-requires
restore-requires g c = record {
  stored = some-left _ (c.in-Err-Remove.is ∙ ap Err c.in-Err-Remove.field-0-is)
      (rw c.in-Answered.is at c.try_update_slot-outcome.ensures.update) c.sorted_map.ensures.put_at;
}

pub unreachable-requires : goal.unreachable-requires
unreachable-requires g c = was-stored _ (c.in-Err-Remove.is ∙ ap Err c.in-Err-Remove.field-0-is)
    (rw c.in-Answered.is at c.try_update_slot-outcome.ensures.update) c.in-None.is

back : (g : Over) (c : After-restore g) → TriesUpdate g.F.FnOnce c.args.f (g.K.KeyTrait.bytes c.args.key.now)
    c.args.self.now.pairs (Err Remove) c.restore.new.self.pairs × (c.restore.new.self.pairs ≡ c.args.self.now.pairs)
back g c = put-back _ (c.in-Err-Remove.is ∙ ap Err c.in-Err-Remove.field-0-is)
    (rw c.in-Answered.is at c.try_update_slot-outcome.ensures.update) c.put_back.ensures.back
    c.canonical.ensures.ascending c.in-Some.old _ c.in-Some.is c.restore.ensures.pairs

as-before : (g : Over) (c : After-restore g) → c.restore.new.self ≡ c.args.self.now
as-before g c =
    let nodes : c.restore.new.self.nodes ≡ c.args.self.now.nodes = c.restore.ensures.nodes
    ∙ (rw c.in-Err-Remove.is at c.try_update_slot-outcome.ensures.nodes_unchanged) in
    same-map c.restore.new.self c.args.self.now (back g c).1 nodes

pub returns-in-Some-clause-calls : goal.returns-in-Some-clause-calls
returns-in-Some-clause-calls g c = λ _. (back g (goal.at.returns-in-Some-clause-calls g c).After-restore).0

pub returns-in-Some-clause-shape : goal.returns-in-Some-clause-shape
returns-in-Some-clause-shape g c = rw (as-before g (goal.at.returns-in-Some-clause-shape g c).After-restore)
    c.canonical.ensures.shape

pub returns-in-Some-clause-unchanged : goal.returns-in-Some-clause-unchanged
returns-in-Some-clause-unchanged g c = as-before g (goal.at.returns-in-Some-clause-unchanged g c).After-restore
