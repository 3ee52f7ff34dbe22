-- One step of a descent: how the prefix of a node and a key agree, and what follows for look-ups, visits and
-- insertions.
use Rattle.std.proofs.Common.{◌≡◌, ℕ, suc, ◌+◌, ◌<◌, ◌≤◌, Bool, true, false, cond, List, [], ◌∷◌, length, take, drop}
use Rattle.std.proofs.Common.{get_or, nat_eq, Option, Some, None, refl, arith, sym, ap, ◌∙◌}
use Rattle.std.proofs.lemmas.List.{length-drop}
use Rattle.std.proofs.Math.Numerals.{one-add}
use Rattle.std.specs.List.{common_prefix_len}
use Rattle.std.proofs.lemmas.Bool.{false≢true}
use Rattle.rart_keys.proofs.strings.ByteOrder.{eq-yes}
use Rattle.rart_trie.specs.tries.Trie.{node, Children, no_children, child, Overlap, overlap, grown_overlap, trie_put}
use Rattle.rart_trie.specs.tries.Trie.{put_child, put_overlap, put_split, fitting_node, two_children, leaf}

-- the first byte of a string
abbrev pub first : List ℕ → ℕ
first k = get_or k 0 0

common-within : (p k : List ℕ) → (common_prefix_len nat_eq p k ≤ length p)
    × (common_prefix_len nat_eq p k ≤ length k)
common-within [] k = (omega arith, omega arith)
common-within (x ∷ p) [] = (omega arith, omega arith)
common-within (x ∷ p) (y ∷ k) = let h = common-within p k in (grind (arith, h.0), grind (arith, h.1))

overlap-step : (b : Bool) (x y : ℕ) (p k : List ℕ) (n : ℕ) (r : Overlap)
    → r ≡ record { shared = take n p; left = drop n p; right = drop n k }
    → cond b (grown_overlap x r) (record { shared = []; left = x ∷ p; right = y ∷ k })
    ≡ record {
      shared = take (cond b (1 + n) 0) (x ∷ p);
      left = drop (cond b (1 + n) 0) (x ∷ p);
      right
          = drop (cond b (1 + n) 0) (y ∷ k);
    }
overlap-step true x y p k n r e = rw (e, one-add n) refl
overlap-step false x y p k n r e = refl

overlap-is : (p k : List ℕ) → overlap p k ≡ record {
  shared = take (common_prefix_len nat_eq p k) p;
  left
      = drop (common_prefix_len nat_eq p k) p;
  right = drop (common_prefix_len nat_eq p k) k;
}
overlap-is [] k = refl
overlap-is (x ∷ p) [] = refl
overlap-is (x ∷ p) (y ∷ k) = overlap-step (nat_eq x y) x y p k (common_prefix_len nat_eq p k) (overlap p k)
    (overlap-is p k)

differ-step : (z : Bool) (x y : ℕ) (p k : List ℕ) (n : ℕ) → nat_eq x y ≡ z
    → (n < length p → n < length k → first (drop n p) ≡ first (drop n k) → ⊥)
    → cond z (1 + n) 0 < suc (length p) → cond z (1 + n) 0 < suc (length k) → first (drop (cond z (1 + n) 0) (x ∷ p))
    ≡ first (drop (cond z (1 + n) 0) (y ∷ k)) → ⊥
differ-step true x y p k n e ih h g s = ih (omega arith) (omega arith) (rw (one-add n) at s)
differ-step false x y p k n e ih h g s = false≢true (sym e ∙ eq-yes x y s)

-- where two strings part, their bytes differ
pub first-differ : (p k : List ℕ) (n : ℕ) → n ≡ common_prefix_len nat_eq p k → n < length p → (length k ≡ n → ⊥)
    → first (drop n p) ≡ first (drop n k) → ⊥
first-differ [] k n e h more s = omega arith
first-differ (x ∷ p) [] n e h more s = more (sym e)
first-differ (x ∷ p) (y ∷ k) n e h more s = differ-step (nat_eq x y) x y p k (common_prefix_len nat_eq p k) refl
    (λ a b. first-differ p k (common_prefix_len nat_eq p k) refl a (λ q. omega (arith, q)))
    (omega (arith, e)) (omega (arith, e, (common-within (x ∷ p) (y ∷ k)).1, more)) (rw e at s)

module _ {V : Type 0} where
  -- what an insertion leaves
  put_split-lower : (q l r : List ℕ) (v : V) (old : Option V) (w : ℕ) (cs : Children V) (f : ℕ → List ℕ → Children V)
      → 0 < length l → length r ≡ 0
      → put_split q l r v old w cs f ≡ node q (Some v) 4 (child (first l) (node l old w cs) no_children)
  put_split-lower q [] r v old w cs f h g = absurd (omega arith)
  put_split-lower q (c ∷ l) [] v old w cs f h g = refl
  put_split-lower q (c ∷ l) (b ∷ r) v old w cs f h g = absurd (omega arith)

  put_split-aligned : (q l r : List ℕ) (v : V) (old : Option V) (w : ℕ) (cs : Children V) (f : ℕ → List ℕ → Children V)
      → 0 < length l → 0 < length r
      → put_split q l r v old w cs f
      ≡ fitting_node q None (two_children (first l) (node l old w cs) (first r) (leaf r v))
  put_split-aligned q [] r v old w cs f h g = absurd (omega arith)
  put_split-aligned q (c ∷ l) [] v old w cs f h g = absurd (omega arith)
  put_split-aligned q (c ∷ l) (b ∷ r) v old w cs f h g = refl

  trie_put-is : (p k : List ℕ) (v : V) (old : Option V) (w : ℕ) (cs : Children V) (n : ℕ)
      → n ≡ common_prefix_len nat_eq p k
      → trie_put k v (node p old w cs) ≡ put_split (take n p) (drop n p) (drop n k) v old w cs
      (λ b r. put_child b r v cs)
  trie_put-is p k v old w cs n e = ap (λ s. put_overlap s v old w cs (λ b r. put_child b r v cs)) (overlap-is p k)
      ∙ ap (λ m. put_split (take m p) (drop m p) (drop m k) v old w cs (λ b r. put_child b r v cs)) (sym e)

  pub put-lower : (p k : List ℕ) (v : V) (old : Option V) (w : ℕ) (cs : Children V) (n : ℕ)
      → n ≡ common_prefix_len nat_eq p k → n < length p → length k ≡ n
      → trie_put k v (node p old w cs) ≡ node (take n p) (Some v) 4
      (child (first (drop n p)) (node (drop n p) old w cs) no_children)
  put-lower p k v old w cs n e h end = trie_put-is p k v old w cs n e
      ∙ put_split-lower (take n p) (drop n p) (drop n k) v old w cs (λ b r. put_child b r v cs)
      (omega (arith, length-drop n p)) (omega (arith, length-drop n k))

  pub put-aligned : (p k : List ℕ) (v : V) (old : Option V) (w : ℕ) (cs : Children V) (n : ℕ)
      → n ≡ common_prefix_len nat_eq p k → n < length p → (length k ≡ n → ⊥)
      → trie_put k v (node p old w cs) ≡ fitting_node (take n p) None
      (two_children (first (drop n p)) (node (drop n p) old w cs) (first (drop n k)) (leaf (drop n k) v))
  put-aligned p k v old w cs n e h more = trie_put-is p k v old w cs n e
      ∙ put_split-aligned (take n p) (drop n p) (drop n k) v old w cs (λ b r. put_child b r v cs)
      (omega (arith, length-drop n p)) (omega (arith, length-drop n k, (common-within p k).1, more))
