-- Where an insertion may allocate: by the keys alone, and by the trie.
use Rattle.std.specs.Prelude.{ℕ, ◌≡◌, ◌<◌, ◌==◌, ◌||◌, ◌&&◌, not, nat_le, Bool, true, false, List, [], ◌∷◌, length}
use Rattle.std.specs.Prelude.{Option, Some, None, is_some, if◌then◌else◌}
use Rattle.std.specs.List.{list_any}
use Rattle.std.specs.Option.{unwrap_or}
use Rattle.rart_keys.specs.SortedMap.{keys_of, lookup}
use Rattle.rart_trie.specs.shapes.Shape.{NodeRecord, record_at}
use Rattle.rart_trie.specs.tries.Trie.{Trie, node, Descent, descend, edges_of}

-- a node with n children takes another without memory
abbrev pub has_free_slot : ℕ → Bool
has_free_slot n = nat_le 1 n && nat_le n 255 && not (n == 4 || n == 16 || n == 48)

-- there is a branch point with fewer children than its capacity, and without one by b
abbrev pub takes_child : Option NodeRecord → ℕ → Bool
takes_child None b = false
takes_child (Some r) b = has_free_slot (length r.edges) && not (list_any (λ c. c == b) r.edges)

-- a branch point, of those whose records f gives, begins q
abbrev pub any_along : (List ℕ → Option NodeRecord) → List ℕ → Bool
any_along f [] = is_some (f [])
any_along f (b ∷ q) = is_some (f []) || any_along (λ p. f (b ∷ p)) q

-- the longest of those that properly begin q takes q's next byte
abbrev pub last_takes : (List ℕ → Option NodeRecord) → List ℕ → Bool
last_takes f [] = false
last_takes f (b ∷ q) = if any_along (λ p. f (b ∷ p)) q then last_takes (λ p. f (b ∷ p)) q else takes_child (f []) b

-- the key is no branch point, there are keys, and the longest branch point that begins it doesn't take its next byte
abbrev pub insert_allocates : List (List ℕ) → List ℕ → Bool
insert_allocates [] q = false
insert_allocates (k ∷ s) q = not (is_some (record_at (k ∷ s) q) || last_takes (record_at (k ∷ s)) q)

-- an insertion at k in the map m may allocate, as its keys say: the key is new, and no branch point
abbrev pub MayAllocateFor : {V : Type 0} → List ℕ → List (List ℕ × V) → Type 0
MayAllocateFor k m = (0 < length m) × (lookup k m ≡ None) × (record_at (keys_of m) k ≡ None)
    × (insert_allocates (keys_of m) k ≡ true)

-- the node has as many children as its capacity
abbrev pub is_full : {V : Type 0} → Trie V → Bool
is_full (node p v n cs) = nat_le n (length (edges_of cs))

-- Whether an insertion by descent requests memory: where it splits a node, and where a full node gets a child.
-- None where there is no node: then the node above gets one.
abbrev pub put_allocation : {V : Type 0} → Descent V (Option Bool)
put_allocation = record {
  left = λ k t. Some true;
  ended = λ t. Some false;
  absent = None;
  on = λ t allocates. Some (unwrap_or allocates (is_full t));
}

abbrev pub trie_put_allocates : {V : Type 0} → List ℕ → Trie V → Bool
trie_put_allocates k t = unwrap_or (descend put_allocation k t) false
