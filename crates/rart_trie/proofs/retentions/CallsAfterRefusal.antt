-- Keys that were called after a refused one begin with it: along lists of pairs.
use Rattle.std.proofs.Common.{◌≡◌, ℕ, ◌+◌, ◌≤◌, List, [], ◌∷◌, ◌++◌, length, refl, ap, ◌∙◌, arith, Option, Some, None}
use Rattle.rart_trie.specs.edits.Retentions.{AllBegin, EndsBelowRefused, Fate, refused, refusal, refusals}
use Rattle.rart_trie.specs.tries.Trie.{own_pair, with_prefix}
use Rattle.rart_trie.proofs.retentions.RetentionLemmas.{no-more}
use Rattle.rart_trie.proofs.tries.EndLemmas.{strip_prefix-append}
use Rattle.rart_trie.proofs.tries.PrefixedStrings.{begins-after}

not-refused : (x : Fate) (n : ℕ) → refusal x + n ≡ 0 → x ≡ refused → ⊥
not-refused x n h r = omega (arith, h, ap refusal r)

module _ {V : Type 0} where
  -- the empty string begins each key
  all_begin-empty : (es : List (List ℕ × V)) (xs : List (V × Fate)) → AllBegin [] es xs
  all_begin-empty es [] = tt
  all_begin-empty [] (x ∷ xs) = tt
  all_begin-empty (e ∷ es) (x ∷ xs) = (refl, all_begin-empty es xs)

  all_begin-front : (k : List ℕ) (es ds : List (List ℕ × V)) (xs : List (V × Fate)) → length xs ≤ length es
      → AllBegin k es xs → AllBegin k (es ++ ds) xs
  all_begin-front k es ds [] l h = tt
  all_begin-front k [] ds (x ∷ xs) l h = absurd (omega (arith, l))
  all_begin-front k (e ∷ es) ds (x ∷ xs) l h = (h.0, all_begin-front k es ds xs (omega (arith, l)) h.1)

  all_begin-after : (p k : List ℕ) (es : List (List ℕ × V)) (xs : List (V × Fate)) → AllBegin k es xs
      → AllBegin (p ++ k) (with_prefix p es) xs
  all_begin-after p k es [] h = tt
  all_begin-after p k [] (x ∷ xs) h = tt
  all_begin-after p k (e ∷ es) (x ∷ xs) h
      = (begins-after p (p ++ k) k e.0 (strip_prefix-append p k) ∙ h.0, all_begin-after p k es xs h.1)

  -- no removal was refused
  pub ends-none : (es : List (List ℕ × V)) (xs : List (V × Fate)) → refusals xs ≡ 0 → EndsBelowRefused es xs
  ends-none es [] h = tt
  ends-none [] (x ∷ xs) h = tt
  ends-none (e ∷ es) (x ∷ xs) h
      = (λ r. absurd (not-refused x.1 (refusals xs) h r), ends-none es xs (no-more x.1 (refusals xs) h))

  -- the pairs of the second list were not called
  pub ends-front : (es ds : List (List ℕ × V)) (xs : List (V × Fate)) → length xs ≤ length es
      → EndsBelowRefused es xs → EndsBelowRefused (es ++ ds) xs
  ends-front es ds [] l h = tt
  ends-front [] ds (x ∷ xs) l h = absurd (omega (arith, l))
  ends-front (e ∷ es) ds (x ∷ xs) l h = let less : length xs ≤ length es = omega (arith, l) in
      (λ r. all_begin-front e.0 es ds xs less (h.0 r), ends-front es ds xs less h.1)

  -- one list after another, where no removal of the first was refused
  pub ends-append : (es ds : List (List ℕ × V)) (xs ys : List (V × Fate)) → length xs ≡ length es → refusals xs ≡ 0
      → EndsBelowRefused ds ys → EndsBelowRefused (es ++ ds) (xs ++ ys)
  ends-append [] ds [] ys l n h = h
  ends-append [] ds (x ∷ xs) ys l n h = absurd (omega (arith, l))
  ends-append (e ∷ es) ds [] ys l n h = absurd (omega (arith, l))
  ends-append (e ∷ es) ds (x ∷ xs) ys l n h = (
    λ r. absurd (not-refused x.1 (refusals xs) n r),
    ends-append es ds xs ys (omega (arith, l)) (no-more x.1 (refusals xs) n) h,
  )

  -- a node's own key is the empty string, whatever became of its pair
  pub ends-own : (v : Option V) (es : List (List ℕ × V)) (os xs : List (V × Fate)) → length os ≡ length (own_pair v)
      → EndsBelowRefused es xs → EndsBelowRefused (own_pair v ++ es) (os ++ xs)
  ends-own None es [] xs l h = h
  ends-own None es (o ∷ os) xs l h = absurd (omega (arith, l))
  ends-own (Some v) es [] xs l h = absurd (omega (arith, l))
  ends-own (Some v) es (o ∷ []) xs l h = (λ r. all_begin-empty es xs, h)
  ends-own (Some v) es (o ∷ x ∷ os) xs l h = absurd (omega (arith, l))

  pub ends-after : (p : List ℕ) (es : List (List ℕ × V)) (xs : List (V × Fate)) → EndsBelowRefused es xs
      → EndsBelowRefused (with_prefix p es) xs
  ends-after p es [] h = tt
  ends-after p [] (x ∷ xs) h = tt
  ends-after p (e ∷ es) (x ∷ xs) h = (λ r. all_begin-after p e.0 es xs (h.0 r), ends-after p es xs h.1)
