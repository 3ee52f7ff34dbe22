-- What each edit of a tree returns, and the map after it, with Ok and with Err.
use Rattle.std.specs.Prelude.{◌≡◌, ◌≢◌, ℕ, Bool, List, length, is_some, Option, None, Result, Ok, Err, MatchResult}
use Rattle.std.specs.Option.{UnwrapsOrElse}
use Rattle.std.specs.declared.ops.Bound.{Bound}
use Rattle.rart_keys.specs.Filters.{below, without_prefix}
use Rattle.rart_keys.specs.Ranges.{between}
use Rattle.rart_keys.specs.SortedMap.{lookup, put, without}
use Rattle.rart_trie.specs.edits.RangeRemovals.{outside}
use Rattle.rart_trie.specs.declared.refused.Refused.{Refused}
use Rattle.rart_parts.specs.Errors.{IsMemory}
use Rattle.rart_parts.specs.declared.error.TreeError.{TreeError}
use Rattle.rart.specs.MapAndShape.{MapAndShape}
use Rattle.rart.specs.Refusals.{MayRefuseRemove, MayRefuseInsert, MayRefuseTakePrefix, ShowsWhy, IsNotInserted}
use Rattle.rart.specs.declared.tree.TheConstants.{MAX_PAIRS}
use Rattle.rart_trie.specs.declared.refused.NotInserted.{NotInserted}
use Rattle.rart.specs.declared.tree.try_insert.TryInsertError.{TryInsertError}

module _ {V : Type 0} where
  -- `insert`. Ok: the key has the value, and the old value is returned; a full map gets no new key. Err: the value is
  -- returned, and the map is unchanged
  abbrev pub Inserts : List ℕ → V → List (List ℕ × V) → List (List ℕ × V) → Result (Option V) (Refused V) → Type 0
  Inserts key value old new (Ok was) = (was ≡ lookup key old) × (length old ≡ MAX_PAIRS → lookup key old ≢ None)
      × (new ≡ put key value old)
  Inserts key value old new (Err refused) = (refused.value ≡ value) × MayRefuseInsert old key refused.error
      × (new ≡ old)

  -- `insert_new`. Ok: the key was new, and has the value. Err: the value is returned, and the map is unchanged
  abbrev pub InsertsNew : List ℕ → V → List (List ℕ × V) → List (List ℕ × V) → Result Unit (NotInserted V) → Type 0
  InsertsNew key value old new (Ok _) = (lookup key old ≡ None) × (length old ≢ MAX_PAIRS) × (new ≡ put key value old)
  InsertsNew key value old new (Err why) = IsNotInserted old key value why × (new ≡ old)

  -- what `try_insert` returns. Ok: the key was new. Err: the value, with a reference to the stored one if there is one
  abbrev pub TriesInsert : List ℕ → V → List (List ℕ × V) → Result Unit (TryInsertError V) → Type 0
  TriesInsert key value old (Ok _) = (lookup key old ≡ None) × (length old ≢ MAX_PAIRS)
  TriesInsert key value old (Err why) = ShowsWhy old key value why

  -- the tree after it. Ok: the key has the value. Err: the tree is unchanged
  abbrev pub PutOrSame : {A E : Type 0} → List ℕ → V → Result A E → MapAndShape V → MapAndShape V → Type 0
  PutOrSame key value answer old new = MatchResult answer (λ _. new.pairs ≡ put key value old.pairs) (λ _. new ≡ old)

  -- `remove`. Ok: the key is removed, and its value is returned. Err: the map is unchanged
  abbrev pub Removes : List ℕ → List (List ℕ × V) → List (List ℕ × V) → Result (Option V) TreeError → Type 0
  Removes key old new (Ok was) = (was ≡ lookup key old) × (new ≡ without key old)
  Removes key old new (Err error) = MayRefuseRemove old key error × (new ≡ old)

  -- `delete`. Ok: the key is removed, and whether it was stored is returned. Err: the map is unchanged
  abbrev pub Deletes : List ℕ → List (List ℕ × V) → List (List ℕ × V) → Result Bool TreeError → Type 0
  Deletes key old new (Ok found) = (found ≡ is_some (lookup key old)) × (new ≡ without key old)
  Deletes key old new (Err error) = MayRefuseRemove old key error × (new ≡ old)

  -- `take_prefix`. Ok: the pairs below the prefix are removed and returned as a tree. Err: the map is unchanged
  abbrev pub TakesPrefix : List ℕ → List (List ℕ × V) → List (List ℕ × V) → Result (MapAndShape V) TreeError → Type 0
  TakesPrefix prefix old new (Ok taken) = (taken.pairs ≡ below prefix old) × (new ≡ without_prefix prefix old)
  TakesPrefix prefix old new (Err error) = MayRefuseTakePrefix old prefix error × (new ≡ old)

  -- `remove_prefix`. Ok: the pairs below the prefix are removed, their number is returned. Err: the map is unchanged
  abbrev pub RemovesPrefix : List ℕ → List (List ℕ × V) → List (List ℕ × V) → Result ℕ TreeError → Type 0
  RemovesPrefix prefix old new (Ok count) = (count ≡ length (below prefix old)) × (new ≡ without_prefix prefix old)
  RemovesPrefix prefix old new (Err error) = MayRefuseTakePrefix old prefix error × (new ≡ old)

  -- `take_range`. Ok: the pairs within the bounds are removed and returned. Err: the map is unchanged
  abbrev pub TakesRange : Bound (List ℕ) → Bound (List ℕ) → List (List ℕ × V) → List (List ℕ × V)
      → Result (MapAndShape V) TreeError → Type 0
  TakesRange start end old new (Ok taken) = (taken.pairs ≡ between start end old) × (new ≡ outside start end old)
  TakesRange start end old new (Err error) = IsMemory error × (new ≡ old)

  -- `remove_range`. Ok: these pairs are removed, their number is returned. Err: the map is unchanged
  abbrev pub RemovesRange : Bound (List ℕ) → Bound (List ℕ) → List (List ℕ × V) → List (List ℕ × V) → Result ℕ TreeError
      → Type 0
  RemovesRange start end old new (Ok count) = (count ≡ length (between start end old)) × (new ≡ outside start end old)
  RemovesRange start end old new (Err error) = IsMemory error × (new ≡ old)

  -- the key has a value now: the stored one, if it was stored, and else one of which New holds
  abbrev pub PutsIfNew : List ℕ → (V → Type 0) → List (List ℕ × V) → List (List ℕ × V) → Type 0
  PutsIfNew key New old new = (value : V) × UnwrapsOrElse (lookup key old) New value × (new ≡ put key value old)
