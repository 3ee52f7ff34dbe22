-- What calls of a tree reply, and what they leave of its map.
use Rattle.std.specs.Prelude.{◌≡◌, ◌≢◌, ℕ, List, [], ◌∷◌, length, map, ◌==◌, Some, Ok, Err}
use Rattle.std.specs.Option.{option_map}
use Rattle.rart_keys.specs.Filters.{below, longest_match, matches}
use Rattle.rart_keys.specs.Ranges.{between, bound_in}
use Rattle.rart_keys.specs.SortedMap.{keys_of, lookup, values_of}
use Rattle.rart_trie.specs.shapes.Shape.{HasShape, NodeRecord}
use Rattle.rart_trie.specs.stats.Stats.{stats_in, stats_of}
use Rattle.rart_trie.specs.declared.stats.TreeStats.{TreeStats}
use Rattle.rart_parts.specs.declared.error.TreeError.TheVariants.{Memory}
use Rattle.rart.specs.Edits.{Deletes, Inserts, InsertsNew, Removes}
use Rattle.rart.specs.Refusals.{MayLackStats}
use Rattle.rart.specs.Updates.{IsTryUpdate, IsUpdate, left_by}
use Rattle.rart.specs.declared.tree.update.TryUpdateError.TheVariants as try_update
use Rattle.rart_trie.specs.declared.slot.UpdateError.TheVariants as update_error
use Rattle.rart.specs.declared.script.call.Call.{Call}
use Rattle.rart.specs.declared.script.call.Call.TheVariants as call
use Rattle.rart.specs.declared.script.reply.Reply.{Reply}
use Rattle.rart.specs.declared.script.reply.Reply.TheVariants as reply
use Rattle.rart_trie.specs.declared.refused.NotInserted.TheVariants as not_inserted

-- pairs with the bytes of their keys
abbrev pub pairs_in : {K V : Type 0} → (K → List ℕ) → List (K × V) → List (List ℕ × V)
pairs_in bytes pairs = map (λ p. (bytes p.0, p.1)) pairs

-- the statistics of these keys, by the nodes of their shape
pub record AreStats (keys : List (List ℕ)) (stats : TreeStats) : Type 0 where
  pub nodes : List (List ℕ × NodeRecord)
  pub shape : HasShape keys nodes
  pub numbers : stats_in stats ≡ stats_of keys nodes

-- a call on a tree whose pairs are m may reply so, and leave the pairs n; keys are distinguished by their bytes, and a
-- clone of a value that is sure doesn't fail
abbrev pub IsStep : {K V : Type 0} → (V → Type 0) → (K → List ℕ) → List (List ℕ × V) → Call K V → Reply K V
    → List (List ℕ × V) → Type 0
IsStep sure bytes m (call.Get key) (reply.Value found) n = (found ≡ lookup (bytes key) m) × (n ≡ m)
IsStep sure bytes m (call.Insert key value) (reply.Value old) n = Inserts (bytes key) value m n (Ok old)
IsStep sure bytes m (call.Insert key value) (reply.Returned error back) n
    = Inserts (bytes key) value m n (Err (record { error = error; value = back }))
IsStep sure bytes m (call.TryInsert key value) reply.Inserted n = InsertsNew (bytes key) value m n (Ok tt)
IsStep sure bytes m (call.TryInsert key value) (reply.Occupied proposed present) n
    = InsertsNew (bytes key) value m n (Err (not_inserted.Stored proposed)) × (lookup (bytes key) m ≡ Some present)
IsStep sure bytes m (call.TryInsert key value) (reply.Returned error back) n
    = InsertsNew (bytes key) value m n (Err (not_inserted.Refused (record { error = error; value = back })))
IsStep sure bytes m (call.Remove key) (reply.Value old) n = Removes (bytes key) m n (Ok old)
IsStep sure bytes m (call.Remove key) (reply.Refused error) n = Removes (bytes key) m n (Err error)
IsStep sure bytes m (call.Delete key) (reply.Done found) n = Deletes (bytes key) m n (Ok found)
IsStep sure bytes m (call.Delete key) (reply.Refused error) n = Deletes (bytes key) m n (Err error)
IsStep sure bytes m (call.Update key w r) (reply.Done touched) n
    = IsUpdate (bytes key) r (left_by w (lookup (bytes key) m)) m (Ok touched) n
IsStep sure bytes m (call.Update key w r) (reply.Returned error back) n
    = IsUpdate (bytes key) r (left_by w (lookup (bytes key) m)) m
    (Err (update_error.Insert (record { error = error; value = back }))) n
IsStep sure bytes m (call.Update key w r) reply.NoRemove n
    = IsUpdate (bytes key) r (left_by w (lookup (bytes key) m)) m (Err update_error.Remove) n
IsStep sure bytes m (call.TryUpdate key w a) (reply.Done touched) n
    = IsTryUpdate (bytes key) a (left_by w (lookup (bytes key) m)) m (Ok touched) n
IsStep sure bytes m (call.TryUpdate key w a) reply.Failed n
    = IsTryUpdate (bytes key) a (left_by w (lookup (bytes key) m)) m (Err (try_update.Callback tt)) n
IsStep sure bytes m (call.TryUpdate key w a) (reply.Returned error back) n
    = IsTryUpdate (bytes key) a (left_by w (lookup (bytes key) m)) m
    (Err (try_update.Insert (record { error = error; value = back }))) n
IsStep sure bytes m (call.TryUpdate key w a) reply.NoRemove n
    = IsTryUpdate (bytes key) a (left_by w (lookup (bytes key) m)) m (Err try_update.Remove) n
IsStep {V} sure bytes m (call.TryUpdate key w a) reply.NoClone n
    = ((v : V) × (lookup (bytes key) m ≡ Some v) × (sure v → ⊥)) × (n ≡ m)
IsStep sure bytes m (call.Longest probe) (reply.Pair found) n
    = (option_map (λ p. (bytes p.0, p.1)) found ≡ longest_match (bytes probe) m) × (n ≡ m)
IsStep sure bytes m (call.Matches probe) (reply.Pairs pairs) n
    = (pairs_in bytes pairs.items ≡ matches (bytes probe) m) × (n ≡ m)
IsStep sure bytes m (call.Matches probe) (reply.Refused error) n
    = (error ≡ Memory) × (matches (bytes probe) m ≢ []) × (n ≡ m)
IsStep sure bytes m (call.Prefix prefix) (reply.Pairs pairs) n = (pairs_in bytes pairs.items ≡ below (bytes prefix) m)
    × (n ≡ m)
IsStep sure bytes m (call.Prefix prefix) (reply.Refused error) n = (error ≡ Memory) × (m ≢ []) × (n ≡ m)
IsStep sure bytes m (call.Range start end) (reply.Pairs pairs) n
    = (pairs_in bytes pairs.items ≡ between (bound_in bytes start) (bound_in bytes end) m) × (n ≡ m)
IsStep sure bytes m (call.Range start end) (reply.Refused error) n = (error ≡ Memory) × (m ≢ []) × (n ≡ m)
IsStep sure bytes m call.Iter (reply.Pairs pairs) n = (pairs_in bytes pairs.items ≡ m) × (n ≡ m)
IsStep sure bytes m call.Iter (reply.Refused error) n = (error ≡ Memory) × (m ≢ []) × (n ≡ m)
IsStep sure bytes m call.Values (reply.Values values) n = (values.items ≡ values_of m) × (n ≡ m)
IsStep sure bytes m call.Values (reply.Refused error) n = (error ≡ Memory) × (m ≢ []) × (n ≡ m)
IsStep sure bytes m call.Len (reply.Len count) n = (count ≡ length m) × (n ≡ m)
IsStep sure bytes m call.IsEmpty (reply.Done empty) n = (empty ≡ (length m == 0)) × (n ≡ m)
IsStep sure bytes m call.Stats (reply.Stats stats) n = AreStats (keys_of m) stats × (n ≡ m)
IsStep sure bytes m call.Stats (reply.Refused error) n = MayLackStats (keys_of m) error × (n ≡ m)
-- no other reply comes
IsStep sure bytes m c r n = ⊥

-- calls made one after the other may reply so, a reply for each, and leave the pairs n
abbrev pub IsRun : {K V : Type 0} → (V → Type 0) → (K → List ℕ) → List (List ℕ × V) → List (Call K V)
    → List (Reply K V) → List (List ℕ × V) → Type 0
IsRun sure bytes m [] [] n = n ≡ m
IsRun sure bytes m (c ∷ cs) (r ∷ rs) n = (between : List (List ℕ × _))
    × (IsStep sure bytes m c r between × IsRun sure bytes between cs rs n)
IsRun sure bytes m cs rs n = ⊥
