-- What a walk that stops at an end may visit beyond two nodes for each pair that it gave.
use Rattle.std.specs.Prelude.{ℕ, ◌+◌, ◌≤◌, List, [], ◌∷◌, length, Option, None, Some}
use Rattle.rart_trie.specs.stats.Stats.{children_height, trie_height}
use Rattle.rart_trie.specs.tries.Trie.{Trie, Children, no_children, child}
use Rattle.rart_trie.specs.walks.Walk.{Level}

-- how many of the children there are, up to one
abbrev pub up_to_one : {V : Type 0} → Children V → ℕ
up_to_one no_children = 0
up_to_one (child b t cs) = 1

-- up to two
abbrev pub up_to_two : {V : Type 0} → Children V → ℕ
up_to_two no_children = 0
up_to_two (child b t cs) = 1 + up_to_one cs

-- the most nodes of these levels without a pair so far, of which a child is being walked; the topmost, which
-- is last, was visited on the path to the start
abbrev pub amortized_visits : {V : Type 0} → List (Level V) → ℕ
amortized_visits [] = 0
amortized_visits (l ∷ []) = 0
amortized_visits (l ∷ m ∷ ls) = up_to_one l.0 + amortized_visits (m ∷ ls)

-- one more than these where no child of the deepest level is being walked: the rest of its children pays for one
-- that was walked
abbrev pub potential : {V : Type 0} → List (Level V) → ℕ
potential [] = 0
potential (l ∷ []) = up_to_one l.0
potential (l ∷ m ∷ ls) = up_to_two l.0 + amortized_visits (m ∷ ls)

-- each path has at most h nodes, those of the levels included
abbrev pub AreLow : {V : Type 0} → ℕ → List (Level V) → Type 0
AreLow h [] = Unit {0}
AreLow h (l ∷ ls) = (length ls + 1 + children_height l.0 ≤ h) × AreLow h ls

-- the most nodes on a path of a tree, 0 without a root
abbrev pub tree_height : {V : Type 0} → Option (Trie V) → ℕ
tree_height None = 0
tree_height (Some t) = trie_height t

-- a walk advanced to its next pair, from n visits to m, and from the levels ls to ms
pub record IsAmortized {V : Type 0} (n m : ℕ) (ls ms : List (Level V)) : Type 0 where
  pub next : m + potential ls ≤ n + 2 + potential ms
  pub last : (h : ℕ) → AreLow h ls → m + potential ls ≤ n + h
  pub low : (h : ℕ) → AreLow h ls → AreLow h ms
