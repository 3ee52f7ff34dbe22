-- A part of a tree: which keys it has after a prefix and at a child, and which children have none of its keys.
use Rattle.std.proofs.Common.{◌≡◌, ◌==◌, ℕ, zero, suc, ◌≤◌, true, false, not, is_some, List, [], ◌∷◌}
use Rattle.std.proofs.Common.{◌++◌}
use Rattle.std.proofs.Common.{length, refl, sym, ap, ◌∙◌, arith, Option, Some, None, option_map, if◌then◌else◌}
use Rattle.std.specs.Prelude.{slice_get}
use Rattle.std.proofs.lemmas.Bool.{ltb-true}
use Rattle.rart_keys.specs.ByteStrings.{begins}
use Rattle.rart_keys.proofs.strings.ByteOrder.{eq-no}
use Rattle.rart_trie.specs.declared.node.ends.End.TheVariants.{Last}
use Rattle.rart_trie.specs.declared.node.part.Part.{Part}
use Rattle.rart_trie.specs.declared.node.part.Part.TheVariants.{All, Nothing, Below, Between}
use Rattle.rart_trie.specs.ranges.BoundCuts.{bound_at, byte_below}
use Rattle.rart_trie.specs.ranges.LentBounds.{lent_bound}
use Rattle.rart_trie.specs.ranges.Parts.{byte_within, is_above_first, is_in_part, is_past, pairs_in, part_low}
use Rattle.rart_trie.specs.tries.Trie.{Trie, children_pairs, AreCanonical}
use Rattle.rart_trie.specs.tries.TrieCode.{as_children}
use Rattle.rart_trie.proofs.ranges.BetweenLemmas.{at-end, at-start}
use Rattle.rart_trie.proofs.ranges.BoundCutLemmas.{later-none, none-before}
use Rattle.rart_trie.proofs.ranges.PassedChildren.{NoneFrom, NoneUpTo, later-children}
use Rattle.rart_trie.proofs.storages.EntryPlaces.{ahead-first, ahead_count, begins-first, tail-canonical}

-- no key that p begins has a first byte below that of p
below-low : (p : List ℕ) (d : ℕ) → byte_below p ≡ Some d → NoneUpTo (begins p) d
below-low [] d h c l k f = absurd (cc)
below-low (zero ∷ p) d h c l k f = absurd (cc)
below-low (suc b ∷ p) d h c l k f = let e : b ≡ d = cc in begins-first (suc b) c p k (λ q. omega (arith, e, l, q)) f

-- nor one above it
below-past : (p : List ℕ) (d : ℕ) → is_above_first d p ≡ true → NoneFrom (begins p) d
below-past [] d h c l k f = absurd (cc)
below-past (b ∷ p) d h c l k f = begins-first b c p k (λ q. omega (arith, ltb-true b d h, l, q)) f

-- of a prefix the empty key is in the part only if the prefix is empty
pub begins-empty : (p : List ℕ) → (length p == 0) ≡ begins p []
begins-empty [] = refl
begins-empty (x ∷ p) = eq-no (length (x ∷ p)) 0 (λ q. omega (arith, q))

no-bound : {A : Type 0} (o : Option A) → not (is_some o) ≡ true → o ≡ None
no-bound None h = refl
no-bound (Some a) h = absurd (cc)

-- a part after a prefix
pub after-prefix : (s' s : Part) (p q : List ℕ) → p ≡ q → ((k : List ℕ) → is_in_part s k ≡ is_in_part s' (q ++ k))
    → (k : List ℕ) → is_in_part s' (p ++ k) ≡ is_in_part s k
after-prefix s' s p q e h k = ap (λ z. is_in_part s' (z ++ k)) e ∙ sym (h k)

-- none of its keys begins with a byte up to its low one
pub none-low : (s : Part) (d : ℕ) → part_low s ≡ Some d → NoneUpTo (is_in_part s) d
none-low All d h = absurd (cc)
none-low Nothing d h = absurd (cc)
none-low (Below p) d h = below-low p.now d h
none-low (Between a b) d h = λ c l k f. at-start (lent_bound a) (lent_bound b) c k f (none-before (lent_bound a) d c h
    l)

-- nor with one that is past it, or a greater one
none-past : (s : Part) (d : ℕ) → is_past s d ≡ true → NoneFrom (is_in_part s) d
none-past All d h = absurd (cc)
none-past Nothing d h = λ c l k f. refl
none-past (Below p) d h = below-past p.now d h
none-past (Between a b) d h = λ c l k f. at-end (lent_bound a) (lent_bound b) c k f
    (later-none (lent_bound b) d c l (no-bound (bound_at Last d (lent_bound b)) h))

module _ {V : Type 0} where
  -- the next child is the first of these, or none of them has a key of the part
  abbrev pub IsAhead : Part → Option ℕ → List (ℕ × Trie V) → Type 0
  IsAhead s None rest = pairs_in s (children_pairs (as_children rest)) ≡ []
  IsAhead s (Some b) rest = Some b ≡ option_map (λ e. e.0) (slice_get rest 0)

  pub ahead-is : (s : Part) (low : ℕ) (rest : List (ℕ × Trie V)) (next : Option ℕ) → AreCanonical low (as_children rest)
      → next ≡ byte_within s (option_map (λ e. e.0) (slice_get rest 0)) → IsAhead s next rest
  ahead-is s low [] next w h = rw h refl
  ahead-is s low (e ∷ rest) next w h = elim (is_past s e.0)
      as (λ z. is_past s e.0 ≡ z → next ≡ (if z then None else Some e.0) → IsAhead s next (e ∷ rest)) [
        | true ↦ λ q h. rw h (later-children (is_in_part s) e.0 e.0 (e ∷ rest) (omega arith)
            (tail-canonical e low [] rest w) (none-past s e.0 q))
        | false ↦ λ q h. rw h refl
      ] refl h

  pub ahead-few : (s : Part) (low : ℕ) (xs rest es : List (ℕ × Trie V)) (next : Option ℕ) → es ≡ xs ++ rest
      → AreCanonical low (as_children (xs ++ rest)) → IsAhead s next rest → ahead_count next es ≤ length rest
  ahead-few s low xs rest es None e w h = omega arith
  ahead-few s low xs rest es (Some b) e w h = omega (arith, ahead-first low xs rest es (Some b) e w h)
