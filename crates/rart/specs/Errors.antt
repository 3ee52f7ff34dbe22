-- Which error of the crate each error of a call becomes.
use Rattle.rart_nodes.specs.declared.node.control.VisitError.{VisitError}
use Rattle.rart_nodes.specs.declared.node.control.VisitError.TheVariants as visit
use Rattle.rart_trie.specs.declared.refused.NotInserted.{NotInserted}
use Rattle.rart_trie.specs.declared.refused.NotInserted.TheVariants as not_inserted
use Rattle.rart_trie.specs.declared.slot.UpdateError.{UpdateError}
use Rattle.rart_trie.specs.declared.slot.UpdateError.TheVariants as update
use Rattle.rart_parts.specs.declared.error.TreeError.{TreeError}
use Rattle.rart_parts.specs.declared.error.TreeError.TheVariants as tree
use Rattle.rart.specs.declared.bulk.BulkError.{BulkError}
use Rattle.rart.specs.declared.bulk.BulkError.TheVariants as bulk
use Rattle.rart.specs.declared.error.Error.{Error}
use Rattle.rart.specs.declared.error.Error.TheVariants.{Memory, Full, Unsorted, Occupied, NotText, Callback, Clone}
use Rattle.rart.specs.declared.error.Error.TheVariants.{Remove}
use Rattle.rart.specs.declared.laws.RefusedCall.{RefusedCall}
use Rattle.rart.specs.declared.laws.RefusedCall.TheVariants as call
use Rattle.rart.specs.declared.laws.bulk_loads.RefusedStep.{RefusedStep}
use Rattle.rart.specs.declared.laws.bulk_loads.RefusedStep.TheVariants as step
use Rattle.rart.specs.declared.migrate.MigrateError.{MigrateError}
use Rattle.rart.specs.declared.migrate.MigrateError.TheVariants as migrate
use Rattle.rart.specs.declared.tree.try_insert.TryInsertError.{TryInsertError}
use Rattle.rart.specs.declared.tree.try_insert.TryInsertError.TheVariants as try_insert
use Rattle.rart.specs.declared.tree.update.TryUpdateError.{TryUpdateError}
use Rattle.rart.specs.declared.tree.update.TryUpdateError.TheVariants as try_update

abbrev pub error_of_tree : TreeError → Error
error_of_tree tree.Memory = Memory
error_of_tree tree.Full = Full

abbrev pub error_of_bulk : BulkError → Error
error_of_bulk bulk.Memory = Memory
error_of_bulk bulk.Full = Full
error_of_bulk (bulk.Unsorted at) = Unsorted at

abbrev pub error_of_migration : MigrateError → Error
error_of_migration migrate.Memory = Memory
error_of_migration (migrate.NotText at) = NotText at

abbrev pub error_of_insert_new : {V : Type 0} → NotInserted V → Error
error_of_insert_new (not_inserted.Stored value) = Occupied
error_of_insert_new (not_inserted.Refused refused) = error_of_tree refused.error

abbrev pub error_of_try_insert : {V : Type 0} → TryInsertError V → Error
error_of_try_insert (try_insert.Occupied value stored) = Occupied
error_of_try_insert (try_insert.Refused refused) = error_of_tree refused.error

abbrev pub error_of_update : {V : Type 0} → UpdateError V → Error
error_of_update (update.Insert refused) = error_of_tree refused.error
error_of_update update.Remove = Remove

abbrev pub error_of_try_update : {E V : Type 0} → TryUpdateError E V → Error
error_of_try_update (try_update.Callback error) = Callback
error_of_try_update (try_update.Insert refused) = error_of_tree refused.error
error_of_try_update try_update.Remove = Remove
error_of_try_update try_update.Clone = Clone

abbrev pub error_of_visit : {E : Type 0} → VisitError E → Error
error_of_visit (visit.Callback error) = Callback
error_of_visit visit.Memory = Memory

abbrev pub error_of_step : RefusedStep → Error
error_of_step (step.Load error) = error_of_bulk error
error_of_step (step.Insertion error) = error_of_tree error
error_of_step (step.Stats error) = error_of_tree error

abbrev pub error_of_call : {V : Type 0} → RefusedCall V → Error
error_of_call (call.StatsBefore error) = error_of_tree error
error_of_call (call.Insertion refused) = error_of_tree refused.error
error_of_call (call.StatsBetween error) = error_of_tree error
error_of_call (call.Removal error) = error_of_tree error
error_of_call (call.StatsAfter error) = error_of_tree error
