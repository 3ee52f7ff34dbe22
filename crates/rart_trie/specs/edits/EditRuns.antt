-- A list of edits, on a tree and on a map.
use Rattle.std.specs.Prelude.{ℕ, List, [], ◌∷◌, Option, Some}
use Rattle.rart_keys.specs.SortedMap.{put, without}
use Rattle.rart_trie.specs.tries.Trie.{Trie}
use Rattle.rart_trie.specs.tries.Tree.{tree_put, tree_remove}

-- a value put at a key, or a key removed
pub data Edit (V : Type 0) : Type 0 where
  puts : List ℕ → V → Edit V
  removes : List ℕ → Edit V

-- what an edit leaves of a map
abbrev pub edit_map : {V : Type 0} → Edit V → List (List ℕ × V) → List (List ℕ × V)
edit_map (puts k v) m = put k v m
edit_map (removes k) m = without k m

-- what it leaves of a tree
abbrev pub edit_tree : {V : Type 0} → Edit V → Option (Trie V) → Option (Trie V)
edit_tree (puts k v) t = Some (tree_put k v t)
edit_tree (removes k) t = tree_remove k t

-- what edits leave of a map, one after the other
abbrev pub run_map : {V : Type 0} → List (Edit V) → List (List ℕ × V) → List (List ℕ × V)
run_map [] m = m
run_map (e ∷ es) m = run_map es (edit_map e m)

-- what they leave of a tree
abbrev pub run_tree : {V : Type 0} → List (Edit V) → Option (Trie V) → Option (Trie V)
run_tree [] t = t
run_tree (e ∷ es) t = run_tree es (edit_tree e t)
