-- What `try_insert` says, from what the insertion said and the value that was added to it.
use Rattle.std.proofs.Common.{◌≡◌, ℕ, List, sym, subst}
use Rattle.std.specs.Prelude.{◌≢◌, None, Some, Result, Ok, Err, IfErr, OnErr}
use Rattle.rart_keys.specs.SortedMap.{lookup}
use Rattle.rart.specs.Edits.{InsertsNew, PutOrSame, TriesInsert}
use Rattle.rart.specs.MapAndShape.{MapAndShape}
use Rattle.rart.specs.Refusals.{AddsPresent, ShowsWhy, IsStoredAt}
use Rattle.rart_trie.specs.declared.refused.NotInserted.{NotInserted}
use Rattle.rart_trie.specs.declared.refused.NotInserted.TheVariants as not_inserted
use Rattle.rart.specs.declared.tree.try_insert.TryInsertError.{TryInsertError}
use Rattle.rart.specs.declared.tree.try_insert.TryInsertError.TheVariants as try_insert

module _ {V : Type 0} (old new : MapAndShape V) (key : List ℕ) (value : V) where
  -- a key that the error says is stored still is
  pub stored_present : (outcome : Result (Unit {0}) (NotInserted V)) → InsertsNew key value old.pairs new.pairs outcome
      → IfErr outcome (IsStoredAt new.pairs key)
  stored_present (Ok _) inserted = tt
  stored_present (Err (not_inserted.Stored proposed)) inserted
      = subst (λ (pairs : List (List ℕ × V)). lookup key pairs ≢ None) (sym inserted.1) inserted.0.1
  stored_present (Err (not_inserted.Refused refused)) inserted = tt

  abbrev pub EndsAs : Result (Unit {0}) (TryInsertError V) → MapAndShape V → Type 0
  EndsAs answer tree = PutOrSame key value answer old tree

  -- the tree ends as the answer says
  pub ends_as_said : (outcome : Result (Unit {0}) (NotInserted V)) (answer : Result (Unit {0}) (TryInsertError V))
      → AddsPresent new.pairs key outcome answer
      → InsertsNew key value old.pairs new.pairs outcome → OnErr outcome (new ≡ old) → EndsAs answer new
  ends_as_said (Ok _) (Ok _) adds inserted unchanged = inserted.2
  ends_as_said (Ok _) (Err answer) adds inserted unchanged = absurd adds
  ends_as_said (Err (not_inserted.Stored proposed)) (Ok _) adds inserted unchanged = absurd adds
  ends_as_said (Err (not_inserted.Stored proposed)) (Err (try_insert.Occupied back present)) adds inserted unchanged
      = unchanged
  ends_as_said (Err (not_inserted.Stored proposed)) (Err (try_insert.Refused back)) adds inserted unchanged
      = absurd adds
  ends_as_said (Err (not_inserted.Refused refused)) (Ok _) adds inserted unchanged = absurd adds
  ends_as_said (Err (not_inserted.Refused refused)) (Err (try_insert.Occupied back present)) adds inserted unchanged
      = absurd adds
  ends_as_said (Err (not_inserted.Refused refused)) (Err (try_insert.Refused back)) adds inserted unchanged = unchanged

  -- the answer is one of `try_insert`
  pub tries_insert : (outcome : Result (Unit {0}) (NotInserted V)) (answer : Result (Unit {0}) (TryInsertError V))
      → AddsPresent new.pairs key outcome answer
      → InsertsNew key value old.pairs new.pairs outcome → TriesInsert key value old.pairs answer
  tries_insert (Ok _) (Ok _) adds inserted = (inserted.0, inserted.1)
  tries_insert (Ok _) (Err answer) adds inserted = absurd adds
  tries_insert (Err (not_inserted.Stored proposed)) (Ok _) adds inserted = absurd adds
  tries_insert (Err (not_inserted.Stored proposed)) (Err (try_insert.Occupied back present)) adds inserted = (
    subst (λ (v : V). back ≡ v) inserted.0.0 adds.0,
    subst (λ (pairs : List (List ℕ × V)). lookup key pairs
        ≡ Some present.now) inserted.1 adds.1,
  )
  tries_insert (Err (not_inserted.Stored proposed)) (Err (try_insert.Refused back)) adds inserted = absurd adds
  tries_insert (Err (not_inserted.Refused refused)) (Ok _) adds inserted = absurd adds
  tries_insert (Err (not_inserted.Refused refused)) (Err (try_insert.Occupied back present)) adds inserted = absurd adds
  tries_insert (Err (not_inserted.Refused refused)) (Err (try_insert.Refused back)) adds inserted
      = subst (λ f. ShowsWhy old.pairs key value (try_insert.Refused f)) (sym adds) inserted.0
