-- What the calls on one key return and write, and the pairs afterwards. `was` is what the caller's variable held, `is`
-- what it holds.
use Rattle.std.specs.Prelude.{◌≡◌, ◌≢◌, ◌<◌, ◌≤◌, ℕ, zero, suc, Bool, true, false, List, [], length, take, Option, None}
use Rattle.std.specs.Prelude.{Some}
use Rattle.rart_keys.specs.Filters.{below, longest_match, without_prefix}
use Rattle.rart_keys.specs.SortedMap.{keys_of, lookup, put, without}
use Rattle.rart_trie.specs.edits.InsertAllocations.{insert_allocates}
use Rattle.rart_trie.specs.edits.PrefixRemovals.{TakeAllocates}
use Rattle.rart_trie.specs.edits.RemoveAllocations.{remove_allocates}
use Rattle.rart.specs.declared.tree.TheConstants.{MAX_PAIRS}

-- the statuses of `status.rt`; 1 has a name for each call
pub data Status : Type 0 where
  Done : Status
  Otherwise : Status
  NoMemory : Status
  Full : Status
  KeyTooLong : Status
  BadBound : Status
  Unsorted : Status
  BadLength : Status
  HostBits : Status
  Unused : Status

abbrev pub status_of : ℕ → Status
status_of zero = Done
status_of (suc zero) = Otherwise
status_of (suc (suc zero)) = NoMemory
status_of (suc (suc (suc zero))) = Full
status_of (suc (suc (suc (suc zero)))) = KeyTooLong
status_of (suc (suc (suc (suc (suc zero))))) = BadBound
status_of (suc (suc (suc (suc (suc (suc zero)))))) = Unsorted
status_of (suc (suc (suc (suc (suc (suc (suc zero))))))) = BadLength
status_of (suc (suc (suc (suc (suc (suc (suc (suc zero)))))))) = HostBits
status_of (suc (suc (suc (suc (suc (suc (suc (suc (suc _))))))))) = Unused

-- nothing has changed: neither the pairs nor the caller's variable
abbrev pub IsUnchanged : {A : Type 0} → List (List ℕ × ℕ) → List (List ℕ × ℕ) → A → A → Type 0
IsUnchanged old new was is = (new ≡ old) × (is ≡ was)

-- an insertion may lack memory: the key is new, and the map is empty or its keys say that the insertion allocates
abbrev pub MayLackMemory : List (List ℕ × ℕ) → List ℕ → Type 0
MayLackMemory old key = (lookup key old ≡ None) × (length old < MAX_PAIRS)
    × (old ≢ [] → insert_allocates (keys_of old) key ≡ true)

-- `insert`. Done: the key was new. Otherwise: it was stored, and its old value was written
abbrev pub Inserts : ℕ → List ℕ → ℕ → List (List ℕ × ℕ) → List (List ℕ × ℕ) → ℕ → ℕ → Status → Type 0
Inserts width key value old new was is Done = (length key ≤ width) × (lookup key old ≡ None) × (length old ≢ MAX_PAIRS)
    × (new ≡ put key value old) × (is ≡ was)
Inserts width key value old new was is Otherwise = (length key ≤ width) × (lookup key old ≡ Some is)
    × (new ≡ put key value old)
Inserts width key value old new was is NoMemory = (length key ≤ width) × MayLackMemory old key
    × IsUnchanged old new was is
Inserts width key value old new was is Full = (length key ≤ width) × (lookup key old ≡ None) × (length old ≡ MAX_PAIRS)
    × IsUnchanged old new was is
Inserts width key value old new was is KeyTooLong = (width < length key) × IsUnchanged old new was is
Inserts width key value old new was is _ = ⊥

-- `try_insert`. Done: the key was new. Otherwise: it is stored, and its value was written
abbrev pub InsertsNew : ℕ → List ℕ → ℕ → List (List ℕ × ℕ) → List (List ℕ × ℕ) → ℕ → ℕ → Status → Type 0
InsertsNew width key value old new was is Done = (length key ≤ width) × (lookup key old ≡ None)
    × (length old ≢ MAX_PAIRS) × (new ≡ put key value old) × (is ≡ was)
InsertsNew width key value old new was is Otherwise = (length key ≤ width) × (lookup key old ≡ Some is) × (new ≡ old)
InsertsNew width key value old new was is NoMemory = (length key ≤ width) × MayLackMemory old key
    × IsUnchanged old new was is
InsertsNew width key value old new was is Full = (length key ≤ width) × (lookup key old ≡ None)
    × (length old ≡ MAX_PAIRS) × IsUnchanged old new was is
InsertsNew width key value old new was is KeyTooLong = (width < length key) × IsUnchanged old new was is
InsertsNew width key value old new was is _ = ⊥

-- `remove`. Done: the key was stored, and its value was written. Otherwise: it was not stored
abbrev pub Removes : ℕ → List ℕ → List (List ℕ × ℕ) → List (List ℕ × ℕ) → ℕ → ℕ → Status → Type 0
Removes width key old new was is Done = (length key ≤ width) × (lookup key old ≡ Some is) × (new ≡ without key old)
Removes width key old new was is Otherwise = (length key ≤ width) × (lookup key old ≡ None) × IsUnchanged old new was is
Removes width key old new was is NoMemory = (length key ≤ width) × (lookup key old ≢ None)
    × (remove_allocates (keys_of old) key ≡ true) × IsUnchanged old new was is
Removes width key old new was is KeyTooLong = (width < length key) × IsUnchanged old new was is
Removes width key old new was is _ = ⊥

-- `remove_prefix`. Done: the pairs whose key begins with the prefix were removed, and their number was written
abbrev pub RemovesPrefix : ℕ → List ℕ → List (List ℕ × ℕ) → List (List ℕ × ℕ) → ℕ → ℕ → Status → Type 0
RemovesPrefix width prefix old new was is Done = (length prefix ≤ width) × (is ≡ length (below prefix old))
    × (new ≡ without_prefix prefix old)
RemovesPrefix width prefix old new was is NoMemory = (length prefix ≤ width) × TakeAllocates prefix old
    × IsUnchanged old new was is
RemovesPrefix width prefix old new was is KeyTooLong = (width < length prefix) × IsUnchanged old new was is
RemovesPrefix width prefix old new was is _ = ⊥

-- a call that finds something or not, and writes only what it finds
abbrev pub Finds : {A B : Type 0} → (A → B) → Option B → A → A → Bool → Type 0
Finds read answer was is true = answer ≡ Some (read is)
Finds read answer was is false = (answer ≡ None) × (is ≡ was)

-- `longest_prefix`. The longest key that begins the probe has `len` bytes
abbrev pub FindsLongest : List ℕ → List (List ℕ × ℕ) → ℕ × ℕ → ℕ × ℕ → Bool → Type 0
FindsLongest probe pairs = Finds (λ w. (take w.0 probe, w.1)) (longest_match probe pairs)
