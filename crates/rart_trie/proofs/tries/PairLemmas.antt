-- The pairs of a canonical tree ascend, and a look-up in them is a descent.
use Rattle.std.proofs.Common.{◌≡◌, ℕ, ◌<◌, ◌==◌, Bool, true, false, List, [], ◌∷◌, ◌++◌, suc, refl, sym, ap, ◌∙◌, arith}
use Rattle.std.proofs.Common.{Option, Some, None, ⊎_elim, if◌then◌else◌}
use Rattle.rart_keys.specs.ByteStrings.{bytes_eq, strip_prefix}
use Rattle.rart_keys.specs.SortedMap.{lookup, IsAscending}
use Rattle.rart_trie.specs.tries.Trie.{Trie, node, Children, no_children, child, looks_up, trie_lookup, child_lookup}
use Rattle.rart_trie.specs.tries.Trie.{pairs_of, children_pairs, with_prefix, own_pair, prefix_of, StartsWith}
use Rattle.rart_trie.specs.tries.Trie.{IsCanonical, AreCanonical}
use Rattle.rart_keys.proofs.strings.ByteOrder.{is_less, eq-yes, eq-no, equal_or_not}
use Rattle.rart_trie.specs.tries.Tree.{tree_pairs, IsCanonicalTree}
use Rattle.rart_trie.proofs.tries.Descents.{Keeps, by_byte, children-by, descends}
use Rattle.rart_trie.proofs.tries.FirstBytes.{ascending-append, ascending-with_prefix, pairs_of-first}
use Rattle.rart_trie.proofs.tries.FirstBytes.{children_pairs-from, nil-above, AllFrom}

pub ascending-own_pair : {V : Type 0} (v : Option V) (es : List (List ℕ × V)) → AllFrom 0 es → IsAscending es
    → IsAscending (own_pair v ++ es)
ascending-own_pair None es f a = a
ascending-own_pair (Some v) es f a = (nil-above 0 es f, a)

mutual
  pub pairs_of-ascend : {V : Type 0} (t : Trie V) → IsCanonical t → IsAscending (pairs_of t)
  pairs_of-ascend (node p v n cs) w = ascending-with_prefix p (own_pair v ++ children_pairs cs)
      (ascending-own_pair v (children_pairs cs) (children_pairs-from 0 cs w.2) (children-ascend 0 cs w.2))

  children-ascend : {V : Type 0} (low : ℕ) (cs : Children V) → AreCanonical low cs → IsAscending (children_pairs cs)
  children-ascend low no_children w = tt
  children-ascend low (child b t cs) w = ascending-append b (pairs_of t) (children_pairs cs) (pairs_of-first b t w.1)
      (children_pairs-from (suc b) cs w.3) (pairs_of-ascend t w.2) (children-ascend (suc b) cs w.3)

pub tree_pairs-ascend : {V : Type 0} (o : Option (Trie V)) → IsCanonicalTree o → IsAscending (tree_pairs o)
tree_pairs-ascend None w = tt
tree_pairs-ascend (Some t) w = pairs_of-ascend t w

abbrev pub or_else : {V : Type 0} → Option V → Option V → Option V
or_else None y = y
or_else (Some x) y = Some x

pub or_none : {V : Type 0} (x : Option V) → or_else x None ≡ x
or_none None = refl
or_none (Some x) = refl

pub lookup-append : {V : Type 0} (k : List ℕ) (xs ys : List (List ℕ × V))
    → lookup k (xs ++ ys) ≡ or_else (lookup k xs) (lookup k ys)
lookup-append k [] ys = refl
lookup-append k (x ∷ xs) ys = elim (bytes_eq x.0 k) as (λ b. (if b then Some x.1 else lookup k (xs ++ ys))
    ≡ or_else (if b then Some x.1 else lookup k xs) (lookup k ys))
    [ true ↦ refl | false ↦ lookup-append k xs ys ]

abbrev within : {V : Type 0} → Option (List ℕ) → List (List ℕ × V) → Option V
within None es = None
within (Some r) es = lookup r es

abbrev pub bytes_eq_within : List ℕ → Option (List ℕ) → Bool
bytes_eq_within l None = false
bytes_eq_within l (Some r) = bytes_eq l r

pub bytes_eq-with_prefix : (p k l : List ℕ) → bytes_eq (p ++ l) k ≡ bytes_eq_within l (strip_prefix p k)
bytes_eq-with_prefix [] k l = refl
bytes_eq-with_prefix (x ∷ p) [] l = refl
bytes_eq-with_prefix (x ∷ p) (y ∷ k) l = elim (x == y) as (λ b. (if b then bytes_eq (p ++ l) k else false)
    ≡ bytes_eq_within l (if b then strip_prefix p k else None))
    [ true ↦ bytes_eq-with_prefix p k l | false ↦ refl ]

lookup-with_prefix : {V : Type 0} (p k : List ℕ) (es : List (List ℕ × V))
    → lookup k (with_prefix p es) ≡ within (strip_prefix p k) es
lookup-with_prefix {V} p k [] = elim (strip_prefix p k) as (λ o. ◌≡◌ {A = Option V} None (within o [])) [
  | None ↦ refl
  | Some r ↦ refl
]
lookup-with_prefix p k (e ∷ es) = rw (bytes_eq-with_prefix p k e.0, lookup-with_prefix p k es)
    (elim (strip_prefix p k) as (λ o. (if bytes_eq_within e.0 o then Some e.1 else within o es) ≡ within o (e ∷ es))
    [ None ↦ refl | Some r ↦ refl ])

-- a tree whose prefix begins with another byte has no such key
pub trie_lookup-other : {V : Type 0} (b c : ℕ) (r : List ℕ) (t : Trie V) → StartsWith c (prefix_of t) → ((c ≡ b) → ⊥)
    → trie_lookup (b ∷ r) t ≡ None
trie_lookup-other b c r (node [] v n cs) f z = absurd f
trie_lookup-other b c r (node (x ∷ p) v n cs) f z = rw (eq-no x b (λ e. z (sym f ∙ e))) refl

pub trie_lookup-nil : {V : Type 0} (c : ℕ) (t : Trie V) → StartsWith c (prefix_of t) → trie_lookup [] t ≡ None
trie_lookup-nil c (node [] v n cs) f = absurd f
trie_lookup-nil c (node (x ∷ p) v n cs) f = refl

pub child_lookup-low : {V : Type 0} (b low : ℕ) (k : List ℕ) (cs : Children V) → b < low → AreCanonical low cs
    → child_lookup b k cs ≡ None
child_lookup-low b low k no_children h w = refl
child_lookup-low b low k (child c t cs) h w = rw (is_less b c (omega (arith, w.0))) refl

pub lookup-own_pair : {V : Type 0} (b : ℕ) (r : List ℕ) (v : Option V) (es : List (List ℕ × V))
    → lookup (b ∷ r) (own_pair v ++ es) ≡ lookup (b ∷ r) es
lookup-own_pair b r None es = refl
lookup-own_pair b r (Some v) es = refl

pub lookup-nil : {V : Type 0} (v : Option V) (es : List (List ℕ × V)) → lookup [] es ≡ None
    → lookup [] (own_pair v ++ es) ≡ v
lookup-nil None es h = h
lookup-nil (Some v) es h = refl

lookup-nil_from : {V : Type 0} (low : ℕ) (es : List (List ℕ × V)) → AllFrom low es → lookup [] es ≡ None
lookup-nil_from low [] f = refl
lookup-nil_from low (([], v) ∷ es) f = absurd f.0
lookup-nil_from low ((x ∷ k, v) ∷ es) f = lookup-nil_from low es f.1

lookup-by : {V : Type 0} (b : ℕ) (r : List ℕ) (es : List (List ℕ × V))
    → lookup (b ∷ r) es ≡ lookup (b ∷ r) (by_byte b es)
lookup-by b r [] = refl
lookup-by b r (([], v) ∷ es) = lookup-by b r es
lookup-by b r ((x ∷ k, v) ∷ es) = ⊎_elim (λ e. rw (eq-yes x b e) (rw (eq-yes x b e, lookup-by b r es) refl))
    (λ n. rw (eq-no x b n) (lookup-by b r es)) (equal_or_not x b)

lookup-kept : {V : Type 0} → Keeps {V = V} looks_up (λ k o a. lookup k (tree_pairs o) ≡ a)
lookup-kept = record {
  absent = λ k. refl;
  left = λ k p v n cs w s. lookup-with_prefix p k (own_pair v ++ children_pairs cs) ∙ rw s refl;
  ended = λ k p v n cs w s. lookup-with_prefix p k (own_pair v ++ children_pairs cs)
      ∙ rw s (lookup-nil v (children_pairs cs) (lookup-nil_from 0 (children_pairs cs) (children_pairs-from 0 cs w.2)));
  on = λ k p v n cs b r a w s h. lookup-with_prefix p k (own_pair v ++ children_pairs cs)
      ∙ rw s (lookup-own_pair b r v (children_pairs cs) ∙ lookup-by b r (children_pairs cs)
      ∙ ap (lookup (b ∷ r)) (children-by b 0 cs w.2) ∙ h);
}

pub lookup-pairs_of : {V : Type 0} (k : List ℕ) (t : Trie V) → IsCanonical t → lookup k (pairs_of t) ≡ trie_lookup k t
lookup-pairs_of k t w = descends looks_up (λ k o a. lookup k (tree_pairs o) ≡ a) lookup-kept k (Some t) w
