-- Where an insertion requests memory at one node, as the code does.
use Rattle.std.proofs.Common.{◌≡◌, ℕ, Bool, true, false, List, length, Option, Some, None, arith, ap, ◌∙◌}
use Rattle.std.specs.Option.{unwrap_or}
use Rattle.std.specs.Prelude.{slice_get}
use Rattle.rart_keys.specs.ByteStrings.{strip_prefix}
use Rattle.rart_parts.specs.Entries.{child_at}
use Rattle.rart_trie.specs.edits.InsertAllocations.{put_allocation, is_full, trie_put_allocates}
use Rattle.rart_trie.specs.tries.Trie.{Trie, node, descend, edges_of}
use Rattle.rart_trie.specs.tries.TrieCode.{as_children}
use Rattle.rart_trie.proofs.storages.ChildLemmas.{edges_of-length}
use Rattle.rart_trie.proofs.tries.Descents.{descend-absent, descend-at, descend-followed}
use Rattle.rart_trie.proofs.tries.CanonicalTests.{true-le}
use Rattle.rart_trie.proofs.tries.RestLemmas.{Follows}

-- an allocation below is one of the node, whatever the parent says of a new child or a lost one
pub allocated : (o : Option Bool) (parent : Bool) → unwrap_or o false ≡ true → unwrap_or o parent ≡ true
allocated None parent h = absurd (cc)
allocated (Some z) parent h = h

module _ {V : Type 0} where
  -- a new leaf beside as many children as the capacity
  pub put_allocation-full : (p k rest : List ℕ) (old : Option V) (w w' b : ℕ) (es es' : List (ℕ × Trie V))
      → Some rest ≡ strip_prefix p k → Some b ≡ slice_get rest 0 → None ≡ child_at b es
      → w' ≡ w → es' ≡ es → length es' ≡ w' → trie_put_allocates k (node p old w (as_children es)) ≡ true
  put_allocation-full p k rest old w w' b es es' e h at ew ee many = let t' = node p old w (as_children es) in
      ap (λ o. unwrap_or o false) (descend-followed put_allocation p k rest b old w (as_children es) e h)
      ∙ ap (λ o. unwrap_or o (is_full t')) (descend-absent put_allocation b rest es at)
      ∙ true-le w (length (edges_of (as_children es))) (omega (arith, edges_of-length es, ap length ee, many, ew))

module _ {V : Type 0} {p k r : List ℕ} {v : Option V} {w b : ℕ} {t : Trie V} {es : List (ℕ × Trie V)}
    (f : Follows p k r v w b t es) where
  -- an insertion below a child
  pub put_allocation-below : trie_put_allocates r t ≡ true → trie_put_allocates k (node p v w (as_children es)) ≡ true
  put_allocation-below below = let t' = node p v w (as_children es) in
      ap (λ o. unwrap_or o false) (descend-followed put_allocation p k r b v w (as_children es) f.left f.first)
      ∙ ap (λ o. unwrap_or o (is_full t')) (descend-at put_allocation b 0 r (Some t) es f.canonical.2 f.there)
      ∙ allocated (descend put_allocation r t) (is_full t') below
