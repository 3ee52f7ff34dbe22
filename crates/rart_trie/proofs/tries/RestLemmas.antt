-- What is left of a key after a prefix, as code finds it, and what the functions on tries do with it.
use Rattle.std.proofs.Common.{◌≡◌, ℕ, suc, ◌+◌, ◌<◌, ◌≤◌, ◌==◌, Bool, true, false, cond, List, [], ◌∷◌, length, nat_eq}
use Rattle.std.proofs.Common.{Option, Some, None, refl, arith, sym, ap, ◌∙◌}
use Rattle.std.specs.Prelude.{slice_get}
use Rattle.std.specs.List.{common_prefix_len}
use Rattle.rart_keys.specs.ByteStrings.{strip_prefix}
use Rattle.rart_parts.specs.Entries.{child_at}
use Rattle.rart_trie.specs.tries.Trie.{Trie, node, Children, overlap, grown_overlap, IsCanonical, looks_up, trie_lookup}
use Rattle.rart_trie.specs.tries.Trie.{trie_put, put_child, put_overlap, put_split, fitting_node}
use Rattle.rart_trie.specs.tries.TrieCode.{as_children}
use Rattle.rart_trie.proofs.tries.Descents.{descend-left, descend-ended, descend-followed, descend-at, descend-absent}

-- where the prefix doesn't begin the key, they part within it
parts-step : (z : Bool) (p k : List ℕ) (m : ℕ) → (None ≡ strip_prefix p k → m < length p)
    → None ≡ cond z (strip_prefix p k) None → cond z (1 + m) 0 < suc (length p)
parts-step true p k m f s = omega (arith, f s)
parts-step false p k m f s = omega arith

pub parts-within : (p k : List ℕ) (n : ℕ) → n ≡ common_prefix_len nat_eq p k → None ≡ strip_prefix p k → n < length p
parts-within [] k n e s = absurd (cc)
parts-within (x ∷ p) [] n e s = omega (arith, e)
parts-within (x ∷ p) (y ∷ k) n e s = rw e
    (parts-step (x == y) p k (common_prefix_len nat_eq p k) (parts-within p k (common_prefix_len nat_eq p k) refl) s)

-- the rest is no longer than the key
rest-step : (z : Bool) (p k r : List ℕ) → (Some r ≡ strip_prefix p k → length r ≤ length k)
    → Some r ≡ cond z (strip_prefix p k) None → length r ≤ suc (length k)
rest-step true p k r f e = let l = f e in omega arith
rest-step false p k r f e = absurd (cc)

pub rest-length : (p k r : List ℕ) → Some r ≡ strip_prefix p k → length r ≤ length k
rest-length [] k r e = let same : r ≡ k = cc in omega (arith, ap length same)
rest-length (x ∷ p) [] r e = absurd (cc)
rest-length (x ∷ p) (y ∷ k) r e = rest-step (x == y) p k r (rest-length p k r) e

-- how a key and a prefix that begins it overlap
overlap-step : (z : Bool) (x y : ℕ) (p k r : List ℕ)
    → (Some r ≡ strip_prefix p k → overlap p k ≡ record { shared = p; left = []; right = r })
    → Some r ≡ cond z (strip_prefix p k) None
    → cond z (grown_overlap x (overlap p k)) (record { shared = []; left = x ∷ p; right = y ∷ k })
    ≡ record { shared = x ∷ p; left = []; right = r }
overlap-step true x y p k r f e = ap (grown_overlap x) (f e)
overlap-step false x y p k r f e = absurd (cc)

overlap-after : (p k r : List ℕ) → Some r ≡ strip_prefix p k
    → overlap p k ≡ record { shared = p; left = []; right = r }
overlap-after [] k r e = let same : r ≡ k = cc in ap (λ l. record { shared = []; left = []; right = l }) (sym same)
overlap-after (x ∷ p) [] r e = absurd (cc)
overlap-after (x ∷ p) (y ∷ k) r e = overlap-step (x == y) x y p k r (overlap-after p k r) e

module _ {V : Type 0} where
  -- a look-up at a node: the key leaves the prefix, ends after it, or continues
  pub trie_lookup-left : (p k : List ℕ) (v : Option V) (w : ℕ) (cs : Children V) → None ≡ strip_prefix p k
      → trie_lookup k (node p v w cs) ≡ None
  trie_lookup-left p k v w cs e = descend-left looks_up (node p v w cs) k e

  pub trie_lookup-ended : (p k r : List ℕ) (v : Option V) (w : ℕ) (cs : Children V) → Some r ≡ strip_prefix p k
      → None ≡ slice_get r 0 → trie_lookup k (node p v w cs) ≡ v
  trie_lookup-ended p k r v w cs e h = descend-ended looks_up (node p v w cs) k r e h

  pub trie_lookup-no_child : (p k r : List ℕ) (b : ℕ) (v : Option V) (w : ℕ) (es : List (ℕ × Trie V))
      → Some r ≡ strip_prefix p k → Some b ≡ slice_get r 0 → None ≡ child_at b es
      → trie_lookup k (node p v w (as_children es)) ≡ None
  trie_lookup-no_child p k r b v w es e h at = descend-followed looks_up p k r b v w (as_children es) e h
      ∙ descend-absent looks_up b r es at

  -- an insertion at a node whose prefix begins the key
  split-ended : (p r : List ℕ) (v : V) (old : Option V) (w : ℕ) (cs : Children V) (f : ℕ → List ℕ → Children V)
      → None ≡ slice_get r 0 → put_split p [] r v old w cs f ≡ node p (Some v) w cs
  split-ended p [] v old w cs f h = refl
  split-ended p (b ∷ r) v old w cs f h = absurd (cc)

  split-followed : (p r : List ℕ) (b : ℕ) (v : V) (old : Option V) (w : ℕ) (cs : Children V) (f : ℕ → List ℕ
      → Children V) → Some b ≡ slice_get r 0 → put_split p [] r v old w cs f ≡ fitting_node p old (f b r)
  split-followed p [] b v old w cs f h = absurd (cc)
  split-followed p (c ∷ r) b v old w cs f h = let same : b ≡ c = cc in rw same refl

  trie_put-after : (p k r : List ℕ) (v : V) (old : Option V) (w : ℕ) (cs : Children V) → Some r ≡ strip_prefix p k
      → trie_put k v (node p old w cs) ≡ put_split p [] r v old w cs (λ b q. put_child b q v cs)
  trie_put-after p k r v old w cs e = ap (λ s. put_overlap s v old w cs (λ b q. put_child b q v cs))
      (overlap-after p k r e)

  pub trie_put-ended : (p k r : List ℕ) (v : V) (old : Option V) (w : ℕ) (cs : Children V) → Some r ≡ strip_prefix p k
      → None ≡ slice_get r 0 → trie_put k v (node p old w cs) ≡ node p (Some v) w cs
  trie_put-ended p k r v old w cs e h = trie_put-after p k r v old w cs e
      ∙ split-ended p r v old w cs (λ b q. put_child b q v cs) h

  pub trie_put-followed : (p k r : List ℕ) (b : ℕ) (v : V) (old : Option V) (w : ℕ) (cs : Children V)
      → Some r ≡ strip_prefix p k → Some b ≡ slice_get r 0
      → trie_put k v (node p old w cs) ≡ fitting_node p old (put_child b r v cs)
  trie_put-followed p k r b v old w cs e h = trie_put-after p k r v old w cs e
      ∙ split-followed p r b v old w cs (λ b q. put_child b q v cs) h

  -- the key k leads from a canonical node to its child t at b, with its rest r
  pub record Follows (p k r : List ℕ) (v : Option V) (w b : ℕ) (t : Trie V) (es : List (ℕ × Trie V)) : Type 0 where
    pub canonical : IsCanonical (node p v w (as_children es))
    pub left : Some r ≡ strip_prefix p k
    pub first : Some b ≡ slice_get r 0
    pub there : Some t ≡ child_at b es

module _ {V : Type 0} {p k r : List ℕ} {v : Option V} {w b : ℕ} {t : Trie V} {es : List (ℕ × Trie V)}
    (f : Follows p k r v w b t es) where
  pub trie_lookup-child : trie_lookup k (node p v w (as_children es)) ≡ trie_lookup r t
  trie_lookup-child = descend-followed looks_up p k r b v w (as_children es) f.left f.first
      ∙ descend-at looks_up b 0 r (Some t) es f.canonical.2 f.there
