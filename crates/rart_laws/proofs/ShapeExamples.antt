-- Rows of the definitions, by computation.
use Rattle.std.proofs.Common.{◌≡◌, ℕ, zero, suc, List, [], ◌∷◌, ◌++◌, refl, Option, Some, None, Bool, true, false}
use Rattle.std.proofs.Common.{◌<◌, ◌^◌, arith, codes, decimal}
use Rattle.std.specs.Fmt.{◌++?◌}
use Rattle.std.proofs.lemmas.Fmt.{decimal-digits_of}
use Rattle.rart_trie.specs.edits.EditRuns.{Edit, puts, removes, run_tree}
use Rattle.rart_trie.specs.edits.InsertAllocations.{insert_allocates}
use Rattle.rart_trie.specs.walks.Cut.{cut}
use Rattle.rart_trie.specs.walks.ProbeCount.{probe_count}
use Rattle.rart_trie.specs.edits.RemoveAllocations.{remove_allocates}
use Rattle.rart_nodes.specs.joins.SharedEdges.{joint_visits, shared_edges}
use Rattle.rart_laws.specs.SampleKeys.{nested_keys, left_keys, right_keys}
use Rattle.rart_trie.specs.shapes.Shape.{NodeRecord, capacity_of, record_at}
use Rattle.rart_trie.specs.tries.Tree.{tree_nodes, tree_pairs}
use Rattle.rart_nodes.specs.walks.Outlines.{listed_outline}

-- a leaf, and an inner node with these edge bytes
abbrev leaf : NodeRecord
leaf = record { holds_value = true; edges = []; capacity = 0 }

abbrev inner : Bool → List ℕ → ℕ → NodeRecord
inner holds bytes reserved = record { holds_value = holds; edges = bytes; capacity = reserved }

abbrev nodes_after : List (Edit ℕ) → List (List ℕ × NodeRecord)
nodes_after es = tree_nodes (run_tree es None)

-- no keys; the empty key; a key that begins another
no_keys : nodes_after [] ≡ []
no_keys = refl

empty_key : nodes_after (puts [] 0 ∷ []) ≡ ([], leaf) ∷ []
empty_key = refl

empty_key_and_a : nodes_after (puts [] 0 ∷ puts (97 ∷ []) 1 ∷ []) ≡ ([], inner true (97 ∷ []) 4) ∷ (97 ∷ [], leaf) ∷ []
empty_key_and_a = refl

-- a split, with the key's end at the split and after it
split_at_end : nodes_after (puts (1 ∷ 2 ∷ 3 ∷ []) 7 ∷ puts (1 ∷ []) 5 ∷ [])
    ≡ (1 ∷ [], inner true (2 ∷ []) 4) ∷ (1 ∷ 2 ∷ 3 ∷ [], leaf) ∷ []
split_at_end = refl

split_and_on : nodes_after (puts (1 ∷ 2 ∷ 3 ∷ []) 7 ∷ puts (1 ∷ 2 ∷ 1 ∷ []) 5 ∷ [])
    ≡ (1 ∷ 2 ∷ [], inner false (1 ∷ 3 ∷ []) 4) ∷ (1 ∷ 2 ∷ 1 ∷ [], leaf) ∷ (1 ∷ 2 ∷ 3 ∷ [], leaf) ∷ []
split_and_on = refl

-- a removal that merges: the node with no value and one child is removed
merged : nodes_after (puts (1 ∷ 2 ∷ 3 ∷ []) 7 ∷ puts (1 ∷ 2 ∷ 4 ∷ []) 9 ∷ puts (1 ∷ []) 5 ∷ puts (6 ∷ []) 5
    ∷ removes (6 ∷ []) ∷ removes (1 ∷ []) ∷ [])
    ≡ (1 ∷ 2 ∷ [], inner false (3 ∷ 4 ∷ []) 4) ∷ (1 ∷ 2 ∷ 3 ∷ [], leaf) ∷ (1 ∷ 2 ∷ 4 ∷ [], leaf) ∷ []
merged = refl

-- the limits of the kinds
kinds : (capacity_of 0 ∷ capacity_of 1 ∷ capacity_of 4 ∷ capacity_of 5 ∷ capacity_of 16 ∷ capacity_of 17
    ∷ capacity_of 48 ∷ capacity_of 49 ∷ capacity_of 256 ∷ [])
    ≡ 0 ∷ 4 ∷ 4 ∷ 16 ∷ 16 ∷ 48 ∷ 48 ∷ 256 ∷ 256 ∷ []
kinds = refl

-- the one-byte keys below a number, ascending
abbrev one_byte_keys : ℕ → List (List ℕ)
one_byte_keys zero = []
one_byte_keys (suc n) = one_byte_keys n ++ (n ∷ []) ∷ []

abbrev capacity_at_root : Option NodeRecord → ℕ
capacity_at_root None = 0
capacity_at_root (Some r) = r.capacity

abbrev root_of : ℕ → ℕ
root_of n = capacity_at_root (record_at (one_byte_keys n) [])

roots : (root_of 4 ∷ root_of 5 ∷ root_of 16 ∷ root_of 17 ∷ root_of 48 ∷ root_of 49 ∷ root_of 256 ∷ [])
    ≡ 4 ∷ 16 ∷ 16 ∷ 48 ∷ 48 ∷ 256 ∷ 256 ∷ []
roots = refl

-- one key is no branch below it, and its beginnings are none
one_key : record_at ((1 ∷ 2 ∷ []) ∷ []) (1 ∷ []) ≡ None
one_key = refl

-- an insertion allocates at 4, 16 and 48 children, and not between; at an existing node, and in an empty tree, never
allocates : (insert_allocates (one_byte_keys 3) (9 ∷ []) ∷ insert_allocates (one_byte_keys 4)
    (9 ∷ []) ∷ insert_allocates (one_byte_keys 5)
    (9 ∷ []) ∷ insert_allocates (one_byte_keys 16) (99 ∷ [])
    ∷ insert_allocates (one_byte_keys 17) (99 ∷ []) ∷ insert_allocates (one_byte_keys 48) (99 ∷ [])
    ∷ insert_allocates (one_byte_keys 49) (99 ∷ []) ∷ []) ≡ false ∷ true ∷ false ∷ true ∷ false ∷ true ∷ false ∷ []
allocates = refl

allocates_not : (insert_allocates [] (1 ∷ []) ∷ insert_allocates (one_byte_keys 4) [] ∷ insert_allocates
    (one_byte_keys 4) (3 ∷ []) ∷ [])
    ≡ false ∷ false ∷ false ∷ []
allocates_not = refl

split_allocates : (insert_allocates ((1 ∷ 2 ∷ []) ∷ []) (1 ∷ 3 ∷ []) ∷ insert_allocates ((1 ∷ 2 ∷ []) ∷ []) (1 ∷ [])
    ∷ insert_allocates ((1 ∷ []) ∷ []) (1 ∷ 2 ∷ []) ∷ []) ≡ true ∷ true ∷ true ∷ []
split_allocates = refl

-- a removal allocates from 5, 17 and 49 children
removal_allocates : (remove_allocates (one_byte_keys 4) (3 ∷ []) ∷ remove_allocates (one_byte_keys 5) (3 ∷ [])
    ∷ remove_allocates (one_byte_keys 6) (3 ∷ []) ∷ remove_allocates (one_byte_keys 17) (3 ∷ [])
    ∷ remove_allocates (one_byte_keys 49) (3 ∷ []) ∷ remove_allocates (one_byte_keys 5) (9 ∷ []) ∷ [])
    ≡ false ∷ true ∷ false ∷ true ∷ true ∷ false ∷ []
removal_allocates = refl

-- the visits of a look-up
pub visits-deepest : probe_count nested_keys (97 ∷ 98 ∷ 99 ∷ []) ≡ 4
visits-deepest = refl

pub visits-absent : probe_count nested_keys (97 ∷ 98 ∷ 100 ∷ []) ≡ 3
visits-absent = refl

pub visits-root : probe_count nested_keys (98 ∷ []) ≡ 1
visits-root = refl

pub visits-no_keys : (k : List ℕ) → probe_count [] k ≡ 0
visits-no_keys k = refl

-- keys are cut at each branch point that begins them: "ab", "abcd" and "abce" at "ab" and "abc"; an only key and the
-- empty one aren't
abbrev branched : List (List ℕ)
branched = (97 ∷ 98 ∷ []) ∷ (97 ∷ 98 ∷ 99 ∷ 100 ∷ []) ∷ (97 ∷ 98 ∷ 99 ∷ 101 ∷ []) ∷ []

cuts : (cut branched (97 ∷ 98 ∷ 99 ∷ 100 ∷ []) ≡ (97 ∷ 98 ∷ []) ∷ (99 ∷ []) ∷ (100 ∷ []) ∷ [])
    × (cut branched (97 ∷ 98 ∷ []) ≡ (97 ∷ 98 ∷ []) ∷ [])
    × (cut ((97 ∷ 98 ∷ []) ∷ []) (97 ∷ 98 ∷ []) ≡ (97 ∷ 98 ∷ []) ∷ []) × (cut ([] ∷ (97 ∷ []) ∷ []) [] ≡ [])
    × (cut ([] ∷ (97 ∷ []) ∷ []) (97 ∷ []) ≡ (97 ∷ []) ∷ [])
cuts = (refl, refl, refl, refl, refl)

-- the visits of an intersection
pub visits-both : joint_visits left_keys right_keys ≡ 4
visits-both = refl

pub edges-both : shared_edges left_keys right_keys ≡ (97 ∷ []) ∷ (97 ∷ 98 ∷ 99 ∷ []) ∷ (100 ∷ []) ∷ []
edges-both = refl

pub visits-no_left : (s : List (List ℕ)) → joint_visits [] s ≡ 0
visits-no_left s = refl

pub visits-no_right : (s : List (List ℕ)) → joint_visits s [] ≡ 0
visits-no_right [] = refl
visits-no_right (k ∷ s) = refl

-- "cat", "catalog" and "dog", node by node
abbrev three_words : List (Edit ℕ)
three_words = puts (codes "cat") 1 ∷ puts (codes "catalog") 2 ∷ puts (codes "dog") 3 ∷ []

abbrev three_words_outline : List ℕ
three_words_outline = codes "Node4 \"\"\n  Node4 \"cat\"=1\n    Leaf \"alog\"=2\n  Leaf \"dog\"=3\n"

-- its lines, where the texts of the numbers in them are known
first-line : (four : List ℕ) → four ≡ codes "4" → Some ((codes "Node" ++ four) ++ codes " \"\"\n")
    ≡ Some (codes "Node4 \"\"\n")
first-line four e = rw e refl

inner-line : (four one : List ℕ) → four ≡ codes "4" → one ≡ codes "1"
    → Some (codes "  Node" ++ four ++ 32 ∷ 34 ∷ 99 ∷ 97 ∷ 116 ∷ 34 ∷ 61 ∷ (one ++ codes "\n"))
    ≡ Some (codes "  Node4 \"cat\"=1\n")
inner-line four one e f = rw (e, f) refl

lower-line : (two : List ℕ) → two ≡ codes "2" → Some (codes "    Leaf \"alog\"=" ++ two ++ codes "\n")
    ≡ Some (codes "    Leaf \"alog\"=2\n")
lower-line two e = rw e refl

last-line : (three : List ℕ) → three ≡ codes "3" → Some (codes "  Leaf \"dog\"=" ++ three ++ codes "\n")
    ≡ Some (codes "  Leaf \"dog\"=3\n")
last-line three e = rw e refl

all-lines : (a b c d : Option (List ℕ)) → a ≡ Some (codes "Node4 \"\"\n") → b ≡ Some (codes "  Node4 \"cat\"=1\n")
    → c ≡ Some (codes "    Leaf \"alog\"=2\n") → d ≡ Some (codes "  Leaf \"dog\"=3\n")
    → a ++? b ++? c ++? d ++? Some [] ≡ Some three_words_outline
all-lines a b c d e f g h = rw (e, f, g, h) refl

outlined : listed_outline (λ v. Some (decimal v)) (tree_pairs (run_tree three_words None)) (nodes_after three_words)
    ≡ Some three_words_outline
outlined = let digit = λ (n : ℕ) (l : 0 < n) (h : n < 2 ^ 64). decimal-digits_of n l h in
    all-lines _ _ _ _ (first-line (decimal 4) (digit 4 (omega arith) (omega arith)))
    (inner-line (decimal 4) (decimal 1) (digit 4 (omega arith) (omega arith)) (digit 1 (omega arith) (omega arith)))
    (lower-line (decimal 2) (digit 2 (omega arith) (omega arith)))
    (last-line (decimal 3) (digit 3 (omega arith) (omega arith)))
