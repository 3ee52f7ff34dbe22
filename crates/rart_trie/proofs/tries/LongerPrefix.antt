-- A tree whose prefix has one more byte in front.
use Rattle.std.proofs.Common.{◌≡◌, ℕ, ◌==◌, true, false, List, [], ◌∷◌, refl, Option, None, if◌then◌else◌}
use Rattle.rart_keys.specs.ByteStrings.{strip_prefix}
use Rattle.rart_trie.specs.tries.Trie.{Trie, node, Children, answer_after, trie_lookup, child_lookup, prefix_of}
use Rattle.rart_trie.specs.tries.Trie.{StartsWith, IsCanonical, overlap, put_split, trie_put, put_child}
use Rattle.rart_keys.proofs.strings.ByteOrder.{eq-yes}

module _ {V : Type 0} where
  abbrev pub longer : ℕ → Trie V → Trie V
  longer x (node p v n cs) = node (x ∷ p) v n cs

  put_split-longer : (x : ℕ) (q l r : List ℕ) (v : V) (old : Option V) (n : ℕ) (cs : Children V) (f : ℕ → List ℕ
      → Children V) → put_split (x ∷ q) l r v old n cs f ≡ longer x (put_split q l r v old n cs f)
  put_split-longer x q [] [] v old n cs f = refl
  put_split-longer x q [] (b ∷ r) v old n cs f = refl
  put_split-longer x q (c ∷ l) [] v old n cs f = refl
  put_split-longer x q (c ∷ l) (b ∷ r) v old n cs f = refl

  pub put-longer : (x y : ℕ) (k : List ℕ) (v : V) (t : Trie V) → x ≡ y
      → trie_put (y ∷ k) v (longer x t) ≡ longer x (trie_put k v t)
  put-longer x y k v (node p old n cs) e = rw (eq-yes x y e)
      (put_split-longer x (overlap p k).shared (overlap p k).left (overlap p k).right v old n cs
      (λ b r. put_child b r v cs))

  pub trie_lookup-longer : (x y : ℕ) (q : List ℕ) (t : Trie V)
      → trie_lookup (y ∷ q) (longer x t) ≡ (if x == y then trie_lookup q t else None)
  trie_lookup-longer x y q (node p v n cs)
      = elim (x == y) as (λ b. answer_after (if b then strip_prefix p q else None) v (λ b r. child_lookup b r cs)
      ≡ (if b then trie_lookup q (node p v n cs) else None)) [ true ↦ refl | false ↦ refl ]

  pub look_nil-longer : (x : ℕ) (t : Trie V) → trie_lookup [] (longer x t) ≡ None
  look_nil-longer x (node p v n cs) = refl

  pub canonical-longer : (x : ℕ) (t : Trie V) → IsCanonical t → IsCanonical (longer x t)
  canonical-longer x (node p v n cs) w = w

  pub first-longer : (x : ℕ) (t : Trie V) → StartsWith x (prefix_of (longer x t))
  first-longer x (node p v n cs) = refl
