-- Children of which one is replaced or removed.
use Rattle.std.proofs.Common.{◌≡◌, ℕ, suc, List, [], ◌∷◌, ◌++◌, refl, ap, arith}
use Rattle.rart_keys.proofs.strings.ByteOrder.{eq-yes, eq-no}
use Rattle.rart_parts.specs.Entries.{entries_above, without_byte}
use Rattle.rart_trie.specs.edits.RetainSteps.{KeepsFirst}
use Rattle.rart_trie.specs.tries.Trie.{Trie, AreCanonical, IsCanonical, prefix_of}
use Rattle.rart_trie.specs.tries.TrieCode.{as_children}
use Rattle.rart_trie.proofs.storages.ChildLemmas.{lt-no}
use Rattle.rart_trie.proofs.storages.EntryPlaces.{above-all, lower-canonical, middle-low}

module _ {V : Type 0} where
  -- another child in the place of one, with the same byte
  pub middle-other : (b low : ℕ) (u x : Trie V) (xs ys : List (ℕ × Trie V))
      → AreCanonical low (as_children (xs ++ (b, u) ∷ ys)) → IsCanonical x → KeepsFirst (prefix_of u) (prefix_of x)
      → AreCanonical low (as_children (xs ++ (b, x) ∷ ys))
  middle-other b low u x [] ys c d k = (c.0, k b c.1, d, c.3)
  middle-other b low u x (e ∷ xs) ys c d k = (c.0, c.1, c.2, middle-other b (suc e.0) u x xs ys c.3 d k)

  -- and without it
  pub middle-removed : (b low : ℕ) (u : Trie V) (xs ys : List (ℕ × Trie V))
      → AreCanonical low (as_children (xs ++ (b, u) ∷ ys)) → AreCanonical low (as_children (xs ++ ys))
  middle-removed b low u [] ys c = lower-canonical low (suc b) ys (omega (arith, c.0)) c.3
  middle-removed b low u (x ∷ xs) ys c = (c.0, c.1, c.2, middle-removed b (suc x.0) u xs ys c.3)

  pub middle-without : (b low : ℕ) (u : Trie V) (xs ys : List (ℕ × Trie V))
      → AreCanonical low (as_children (xs ++ (b, u) ∷ ys)) → without_byte b (xs ++ (b, u) ∷ ys) ≡ xs ++ ys
  middle-without b low u [] ys c = rw (eq-yes b b refl) refl
  middle-without b low u (x ∷ xs) ys c
      = rw (eq-no x.0 b (λ q. omega (arith, q, middle-low b (suc x.0) u xs ys c.3)))
      (ap (λ z. x ∷ z) (middle-without b (suc x.0) u xs ys c.3))

  pub middle-after : (b low : ℕ) (u : Trie V) (xs ys : List (ℕ × Trie V))
      → AreCanonical low (as_children (xs ++ (b, u) ∷ ys)) → entries_above b (xs ++ ys) ≡ ys
  middle-after b low u [] ys c = above-all b (suc b) ys (omega arith) c.3
  middle-after b low u (x ∷ xs) ys c = rw (lt-no b x.0 (omega (arith, middle-low b (suc x.0) u xs ys c.3)))
      (middle-after b (suc x.0) u xs ys c.3)
