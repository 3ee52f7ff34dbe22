-- What a walk that retains pairs does at one node.
use Rattle.std.specs.Prelude.{ℕ, ◌≡◌, ◌≢◌, ◌<◌, ◌≤◌, ◌⊎◌, Bool, true, false, List, [], ◌∷◌, ◌++◌, length, Option, Some}
use Rattle.std.specs.Prelude.{None, option_map, slice_get}
use Rattle.std.specs.Borrow.{Bor, MutBor}
use Rattle.std.specs.Fn.{Mut}
use Rattle.rart_parts.specs.Entries.{without_byte}
use Rattle.rart_trie.specs.declared.node.storage.Kind.{Kind}
use Rattle.rart_trie.specs.declared.node.edits.retain.Retention.{Retention}
use Rattle.rart_trie.specs.declared.node.edits.retain.Retention.TheVariants.{Done, Rejected, Refused}
use Rattle.rart_trie.specs.edits.Deletion.{merged_if_needed}
use Rattle.rart_trie.specs.edits.RemoveAllocations.{trie_remove_allocates}
use Rattle.rart_trie.specs.edits.Retentions.{CalledFor, EndsBelowRefused, Fate, kept, is_wanted, refusals, refused_key}
use Rattle.rart_trie.specs.edits.Retentions.{remaining_pairs}
use Rattle.rart_trie.specs.declared.node.part.Part.{Part}
use Rattle.rart_trie.specs.ranges.Parts.{byte_within, is_in_part}
use Rattle.rart_trie.specs.ranges.Starts.{entries_after}
use Rattle.rart_trie.specs.storages.Stored.{ShrinksStored, capacity_without, child_entries, storage_capacity}
use Rattle.rart_trie.specs.storages.Stored.{stored_prefix, stored_value}
use Rattle.rart_trie.specs.tries.Trie.{Trie, node, Children, no_children, child, StartsWith, children_in, pairs_of}

-- a byte that begins p begins q
abbrev pub KeepsFirst : List ℕ → List ℕ → Type 0
KeepsFirst p q = (b : ℕ) → StartsWith b p → StartsWith b q

module _ {F V : Type 0} (call : Mut F (Bor (List ℕ) × (MutBor V × Unit {0})) (Bool × (MutBor V × Unit {0}))) where
  -- f was called with the value of a node at k, if h says so and the node has one
  abbrev pub CallsForOwn : Bool → List ℕ → F → Option V → Bool → Option V → F → Type 0
  CallsForOwn false k f v r w f' = (r ≡ true) × (v ≡ w) × (f ≡ f')
  CallsForOwn true k f None r None f' = (r ≡ true) × (f ≡ f')
  CallsForOwn true k f None r (Some w) f' = ⊥
  CallsForOwn true k f (Some v) r None f' = ⊥
  CallsForOwn true k f (Some v) r (Some w) f' = CalledFor call f (k, v) r w f'

  -- f was called for e, whose fate is then x, if h says so; e is kept unchanged if not
  abbrev pub CallsIf : Bool → F → List ℕ × V → V × Fate → F → Type 0
  CallsIf true f e x f' = CalledFor call f e (is_wanted x.1) x.0 f'
  CallsIf false f e x f' = (x ≡ (e.1, kept)) × (f ≡ f')

  -- f was called with those of the first pairs of whose key t holds, in turn, each key after q, and is then f'; each of
  -- the first pairs has a fate
  abbrev pub CallsWhere : (List ℕ → Bool) → List ℕ → F → List (List ℕ × V) → List (V × Fate) → F → Type 0
  CallsWhere t q f es [] f' = f ≡ f'
  CallsWhere t q f [] (x ∷ xs) f' = ⊥
  CallsWhere t q f (e ∷ es) (x ∷ xs) f' = (g : F) × (CallsIf (t e.0) f (q ++ e.0, e.1) x g × CallsWhere t q g es xs f')

  -- `RetainsAll`, but f was called with those pairs alone of whose key t holds
  pub record RetainsAllWhere (t : List ℕ → Bool) (q : List ℕ) (f : F) (es ds : List (List ℕ × V)) (n : ℕ) (f' : F)
      : Type 0 where
    pub fates : List (V × Fate)
    pub calls : CallsWhere t q f es fates f'
    pub all : length fates ≡ length es
    pub refused : refusals fates ≡ n
    pub ends : EndsBelowRefused es fates
    pub left : ds ≡ remaining_pairs es fates

  -- `RetainsFirst`, but f was called with those pairs alone of whose key t holds
  pub record RetainsFirstWhere (t : List ℕ → Bool) (q : List ℕ) (f : F) (es ds : List (List ℕ × V)) (k : List ℕ) (f' :
      F)
      : Type 0 where
    pub fates : List (V × Fate)
    pub calls : CallsWhere t q f es fates f'
    pub refused : refusals fates ≡ 1
    pub key : refused_key es fates ≡ Some k
    pub ends : EndsBelowRefused es fates
    pub left : ds ≡ remaining_pairs es fates

  -- the walk ended below the node t after a refused removal, which requests memory
  pub record RefusesSubtree (s : Part) (q : List ℕ) (f : F) (t u : Trie V) (f' : F) : Type 0 where
    pub key : List ℕ
    pub retains : RetainsFirstWhere (is_in_part s) q f (pairs_of t) (pairs_of u) key f'
    pub inner : children_in u ≢ no_children
    pub allocates : trie_remove_allocates None key u ≡ true

  -- What a walk over a part of the node t at q leaves. A rejected leaf is still to be removed by its parent.
  abbrev pub RetainsSubtree : Part → List ℕ → Retention → F → Trie V → Trie V → F → Type 0
  RetainsSubtree s q Done f t u f' = RetainsAllWhere (is_in_part s) q f (pairs_of t) (pairs_of u) 0 f'
  RetainsSubtree s q Rejected f t u f' = (children_in u ≡ no_children)
      × RetainsAllWhere (is_in_part s) q f (pairs_of t) (pairs_of u) 1 f'
  RetainsSubtree s q Refused f t u f' = RefusesSubtree s q f t u f'

  -- `RetainsSubtree` for a tree
  abbrev pub RetainsTree : Part → Retention → F → Option (Trie V) → Option (Trie V) → F → Type 0
  RetainsTree s walk f None None f' = (walk ≡ Done) × (f ≡ f')
  RetainsTree s walk f None (Some u) f' = ⊥
  RetainsTree s walk f (Some t) None f' = ⊥
  RetainsTree s walk f (Some t) (Some u) f' = RetainsSubtree s [] walk f t u f'

-- The child at b was removed, and the capacity is that of the rest; value and prefix stay. A node without a value has
-- another child.
abbrev pub RemovesChild : {P V : Type 0} → Bool → ℕ → Kind P V (Trie V) → Kind P V (Trie V) → Type 0
RemovesChild h b s s' = (child_entries s' ≡ without_byte b (child_entries s))
    × (storage_capacity s' ≡ capacity_without b s (length (child_entries s')))
    × ((h ≡ true) ⊎ (1 < length (child_entries s)))
    × (stored_value s' ≡ stored_value s) × (stored_prefix s' ≡ stored_prefix s)

-- What is done with the child at b after a walk over it, at a node that holds a value or not, and what of the node.
abbrev pub AppliesChild : {P V : Type 0} → Bool → ℕ → Retention → Retention → Kind P V (Trie V)
    → Kind P V (Trie V) → Type 0
AppliesChild h b Done Done s s' = s' ≡ s
AppliesChild h b Done Rejected s s' = ⊥
AppliesChild h b Done Refused s s' = ⊥
AppliesChild h b Rejected Done s s' = RemovesChild h b s s'
AppliesChild h b Rejected Rejected s s' = (s' ≡ s) × (h ≡ false) × (length (child_entries s) ≤ 1)
AppliesChild h b Rejected Refused s s' = (s' ≡ s) × ShrinksStored b s
AppliesChild h b Refused Done s s' = ⊥
AppliesChild h b Refused Rejected s s' = ⊥
AppliesChild h b Refused Refused s s' = s' ≡ s

-- the byte of the next child after b that may have keys of the part, if the walk continues
abbrev pub next_byte : {N : Type 0} → Part → Retention → ℕ → List (ℕ × N) → Option ℕ
next_byte s Done b es = byte_within s (option_map (λ e. e.0) (slice_get (entries_after (Some b) es) 0))
next_byte s Rejected b es = None
next_byte s Refused b es = None

-- a node after the walk over its children, by what the callback returned of its own value
abbrev pub finished_node : {V : Type 0} → Bool → Trie V → Trie V
finished_node true t = merged_if_needed t
finished_node false (node p v w no_children) = node p v w no_children
finished_node false (node p v w (child b t cs)) = merged_if_needed (node p None w (child b t cs))

abbrev pub finished_as : {V : Type 0} → Bool → Retention → Children V → Retention
finished_as true o cs = o
finished_as false o no_children = Rejected
finished_as false o (child b t cs) = o
