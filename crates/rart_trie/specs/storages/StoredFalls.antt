-- Each child has fewer nodes than its parent.
use Rattle.std.specs.Prelude.{◌≡◌, ℕ, ◌+◌, ◌≤◌, max, Bool, true, false, nat_lt, List, [], ◌∷◌, if◌then◌else◌}
use Rattle.std.proofs.Common.{arith, refl}
use Rattle.rart_maps.specs.FourKeys.{keyed}
use denote.Param.Weighed.{most}
use Rattle.rart_keys.specs.declared.partials.Partial.{Ghosts}
use Rattle.rart_parts.specs.Entries.{with_another, sorted_entries}
use Rattle.rart_trie.specs.declared.node.DefaultNode.TheDeep.{deep-DefaultNode}
use Rattle.rart_trie.specs.declared.node.storage.Kind.{Kind}
use Rattle.rart_trie.specs.declared.node.storage.Kind.TheVariants.{Empty, Leaf, Node4, Node16, Node48, Node256}
use Rattle.rart_trie.specs.storages.Stored.{child_entries}
use Rattle.rart_trie.specs.tries.Trie.{Trie}
use Rattle.rart_trie.specs.tries.TrieCode.{as_children, node_count, child_count}

most-children : {V : Type 0} (es : List (ℕ × Trie V)) → most (λ (e : ℕ × Trie V). max 0 (node_count e.1 + 1)) es
    ≤ child_count (as_children es) + 1
most-children [] = omega arith
most-children (e ∷ es) = omega (arith, most-children es)

count-either : {V : Type 0} (t : Bool) (a b : List (ℕ × Trie V)) (n : ℕ) → child_count (as_children a) ≡ n
    → child_count (as_children b) ≡ n → child_count (as_children (if t then a else b)) ≡ n
count-either true a b n p q = p
count-either false a b n p q = q

count-with_another : {V : Type 0} (k : ℕ) (t : Trie V) (es : List (ℕ × Trie V))
    → child_count (as_children (with_another k t es)) ≡ node_count t + child_count (as_children es)
count-with_another k t [] = refl
count-with_another k t (e ∷ es) = count-either (nat_lt e.0 k) _ _ _ (omega (arith, count-with_another k t es)) refl

count-ascending : {V : Type 0} (es : List (ℕ × Trie V)) → child_count (as_children (sorted_entries es))
    ≡ child_count (as_children es)
count-ascending [] = refl
count-ascending (e ∷ es) = omega (arith, count-with_another e.0 e.1 (sorted_entries es), count-ascending es)

most-keyed : {V : Type 0} (ks : List ℕ) (ts : List (Trie V))
    → most (λ (t : Trie V). node_count t + 1) ts ≤ child_count (as_children (keyed ks ts)) + 1
most-keyed ks [] = omega arith
most-keyed [] (t ∷ ts) = omega (arith, most-keyed [] ts)
most-keyed (k ∷ ks) (t ∷ ts) = omega (arith, most-keyed ks ts)

pub deep_le-stored : {P V : Type 0} (G : Ghosts P) (s : Kind P V (Trie V))
    → deep-DefaultNode P V G (record { storage = s }) ≤ child_count (as_children (child_entries s)) + 1
deep_le-stored G (Empty p) = omega arith
deep_le-stored G (Leaf p v) = omega arith
deep_le-stored G (Node4 p k b) = omega (arith, most-keyed k b.items)
deep_le-stored G (Node16 p m) = omega (arith, most-children m.entries)
deep_le-stored G (Node48 p m) = omega (arith, most-children m.entries, count-ascending m.entries)
deep_le-stored G (Node256 p m) = omega (arith, most-children m.entries)
