-- Intersections of two trees that are shared.
use Rattle.std.specs.Prelude.{ℕ, ◌≡◌, ◌≢◌, ◌+◌, ◌-◌, [], List, Some, length}
use Rattle.std.specs.declared.cmp.Ord as ord
use Rattle.std.specs.declared.cmp.PartialEq as equality
use Rattle.std.specs.declared.cmp.PartialOrd as partial_ord
use Rattle.rart_parts.specs.declared.error.TreeError.{TreeError}
use Rattle.rart_parts.specs.declared.error.TreeError.TheVariants.{Memory}
use Rattle.rart_keys.specs.Joins.{join}
use Rattle.rart_keys.specs.declared.keys.KeyTrait as keys
use Rattle.rart_keys.specs.declared.partials.Partial as partials
use Rattle.rart_nodes.specs.declared.node.seen.Seen.{Seen}
use Rattle.rart_nodes.specs.joins.SharedEdges.{joint_visits}
use Rattle.rart_nodes.specs.tries.SeenTrees.{seen_keys, seen_nodes, seen_pairs, seen_tree}
use Rattle.rart_trie.specs.tries.Trie.{Trie}

module _ {K V W C D P : Type 0} {k : keys.Ghosts K P} {e : equality.Ghosts K} {o : ord.Ghosts K}
    {q : partial_ord.Ghosts K} {p : partials.Ghosts P} where
  -- the keys of both, each with both values
  abbrev pub seen_join : Seen K V C P k e o q p → Seen K W D P k e o q p → List (List ℕ × (V × W))
  seen_join s t = join (seen_pairs s) (seen_pairs t)

  -- the visits of an intersection of them
  abbrev pub seen_visits : Seen K V C P k e o q p → Seen K W D P k e o q p → ℕ
  seen_visits s t = joint_visits (seen_keys s) (seen_keys t)

  -- no key is in both, and nothing is visited
  abbrev pub ShareNothing : Seen K V C P k e o q p → Seen K W D P k e o q p → Type 0
  ShareNothing s t = (seen_join s t ≡ []) × (seen_visits s t ≡ 0)

  -- a and b are their topmost nodes
  abbrev pub AreTops : Seen K V C P k e o q p → Trie V → Seen K W D P k e o q p → Trie W → Type 0
  AreTops s a t b = (Some a ≡ seen_tree s) × (Some b ≡ seen_tree t)

  -- at least as many: the nodes of both together less one; 0 where neither has any
  abbrev pub seen_bound : Seen K V C P k e o q p → Seen K W D P k e o q p → ℕ
  seen_bound s t = length (seen_nodes s) + length (seen_nodes t) - 1

-- memory was refused, and both have pairs
abbrev pub MayLackBoth : {A B : Type 0} → List A → List B → TreeError → Type 0
MayLackBoth xs ys e = (e ≡ Memory) × (xs ≢ []) × (ys ≢ [])
