-- The unfinished nodes on the path to the last of some ascending keys, and the finished children of each.
use Rattle.std.specs.Prelude.{ℕ, ◌≡◌, ◌<◌, ◌≤◌, ◌⊎◌, List, [], ◌∷◌, ◌++◌, map, length, take, drop, reverse}
use Rattle.std.specs.Prelude.{IsSome, None, slice_index}
use Rattle.rart_trie.specs.declared.node.edits.builder.Builder.{Builder}
use Rattle.rart_trie.specs.declared.node.edits.builder.Frame.{Frame}
use Rattle.rart_trie.specs.tries.Trie.{Trie, AreCanonical, IsCanonical, children_pairs, own_pair, pairs_of, prefix_of}
use Rattle.rart_trie.specs.tries.Trie.{value_of, capacity_in, children_in, node, with_prefix}
use Rattle.rart_trie.specs.tries.TrieCode.{as_children}

-- each node at the byte that its prefix begins with
abbrev pub edge_entries : {V : Type 0} → List (Trie V) → List (ℕ × Trie V)
edge_entries ts = map (λ t. (slice_index (prefix_of t) 0, t)) ts

-- the entries are at bytes below b
abbrev pub EndsBelow : {V : Type 0} → ℕ → List (ℕ × Trie V) → Type 0
EndsBelow b [] = Unit {0}
EndsBelow b (e ∷ es) = (e.0 < b) × EndsBelow b es

-- the pairs of an unfinished node of the key k, of which ts are the finished children
abbrev pub frame_pairs : {V : Type 0} → List ℕ → Frame V → List (Trie V) → List (List ℕ × V)
frame_pairs k f ts = with_prefix (take f.depth k) (own_pair f.value ++ children_pairs (as_children (edge_entries ts)))

-- the pairs of unfinished nodes, the innermost first, of which ts are the finished children
abbrev pub spine_pairs : {V : Type 0} → List ℕ → List (Frame V) → List (Trie V) → List (List ℕ × V)
spine_pairs k [] ts = []
spine_pairs k (f ∷ fs) ts = spine_pairs k fs (take f.start ts) ++ frame_pairs k f (drop f.start ts)

-- the innermost node is above the depth d, and so are all
abbrev pub IsShallow : {V : Type 0} → ℕ → List (Frame V) → Type 0
IsShallow d [] = Unit {0}
IsShallow d (f ∷ fs) = f.depth < d

-- the innermost node is at the depth d
abbrev pub IsAt : {V : Type 0} → ℕ → List (Frame V) → Type 0
IsAt d [] = ⊥
IsAt d (f ∷ fs) = f.depth ≡ d

-- the finished children of an unfinished node of the key k are below its byte there
pub record IsOpen {V : Type 0} (k : List ℕ) (f : Frame V) (ts : List (Trie V)) : Type 0 where
  pub starts : f.start ≤ length ts
  pub inside : f.depth < length k
  pub children : AreCanonical 0 (as_children (edge_entries (drop f.start ts)))
  pub before : EndsBelow (slice_index k f.depth) (edge_entries (drop f.start ts))

-- these are the unfinished nodes of the key k, the innermost first, and each has a value or a finished child
abbrev pub IsSpine : {V : Type 0} → List ℕ → List (Frame V) → List (Trie V) → Type 0
IsSpine k [] ts = ts ≡ []
IsSpine k (f ∷ fs) ts = (IsSome f.value ⊎ (0 < length (drop f.start ts))) × IsOpen k f ts × IsShallow f.depth fs
    × IsSpine k fs (take f.start ts)

-- t, with the path to `end` as its prefix, is what is finished of the key k below these unfinished nodes
pub record IsClosed {V : Type 0} (k : List ℕ) (fs : List (Frame V)) (ts : List (Trie V)) (end : ℕ) (t : Trie V)
    (all : List (List ℕ × V)) : Type 0 where
  pub spine : IsSpine k fs ts
  pub shallow : IsShallow end fs
  pub reach : end ≤ length k
  pub canonical : IsCanonical t
  pub pairs : spine_pairs k fs ts ++ pairs_of (node (take end k) (value_of t) (capacity_in t) (children_in t)) ≡ all

-- a node at the depth d was added, where the innermost one was above it; n children wait
abbrev pub IsReached : {V : Type 0} → ℕ → ℕ → List (Frame V) → List (Frame V) → Type 0
IsReached d n fs gs = (IsShallow d fs × (gs ≡ record { depth = d; start = n; value = None } ∷ fs))
    ⊎ (IsAt d fs × (gs ≡ fs))

module _ {P V : Type 0} where
  -- the builder has the pairs below the key k
  abbrev pub IsBuilderAt : List ℕ → Builder P V → Type 0
  IsBuilderAt k b = IsSpine k (reverse b.spine.items) b.waiting.items

  -- its pairs
  abbrev pub builder_pairs : List ℕ → Builder P V → List (List ℕ × V)
  builder_pairs k b = spine_pairs k (reverse b.spine.items) b.waiting.items
