-- The longest key that begins a probe is the first of those that it begins.
use Rattle.std.proofs.Common.{◌≡◌, ◌≢◌, ℕ, ◌⊎◌, inl, inr, ⊎_elim, true, false, List, [], ◌∷◌, refl, sym, ap, ◌∙◌}
use Rattle.std.proofs.Common.{Option, Some, None, if◌then◌else◌}
use Rattle.rart_keys.specs.ByteStrings.{begins, IsLess}
use Rattle.rart_keys.specs.Filters.{below, matches, last_or, longest_match}
use Rattle.rart_keys.specs.SortedMap.{AreAbove, IsAscending, keys_of}
use Rattle.rart_keys.proofs.strings.ByteOrder.{is_equal, eq-yes, eq-no, equal_or_not}
use Rattle.rart_trie.specs.tries.Tree.{tree_pairs, IsCanonicalTree}
use Rattle.rart_trie.specs.tries.Trie.{Trie}
use Rattle.rart_trie.specs.walks.Cut.{cut, cut_pairs}
use Rattle.rart_nodes.specs.walks.Part.{tree_part, part_entries}
use Rattle.rart_trie.specs.walks.Walk.{SegmentList}
use Rattle.rart_nodes.specs.walks.PathParts.{one_segment}
use Rattle.rart_trie.proofs.tries.PairLemmas.{pairs_of-ascend}
use Rattle.rart_nodes.proofs.walks.PartCuts.{part-cut}

begins-itself : (k : List ℕ) → begins k k ≡ true
begins-itself [] = refl
begins-itself (x ∷ k) = rw (eq-yes x x refl) (begins-itself k)

-- what k begins isn't below it
not_begun : (x k : List ℕ) → IsLess x k → begins k x ≡ false
not_begun [] [] h = absurd (cc)
not_begun (z ∷ x) [] h = absurd (cc)
not_begun [] (y ∷ k) h = refl
not_begun (z ∷ x) (y ∷ k) h = ⊎_elim
    (λ e. rw (eq-yes y z (sym e)) (not_begun x k (rw (is_equal z y e) at h)))
    (λ n. rw (eq-no y z (λ e. n (sym e))) refl) (equal_or_not z y)

module _ {V : Type 0} where
  abbrev IsIn : List ℕ × V → List (List ℕ × V) → Type 0
  IsIn e [] = ⊥
  IsIn e (x ∷ xs) = (x ≡ e) ⊎ IsIn e xs

  in-last : (o : Option (List ℕ × V)) (e : List ℕ × V) (xs : List (List ℕ × V)) → last_or o xs ≡ Some e → (o ≡ Some e)
      ⊎ IsIn e xs
  in-last o e [] h = inl h
  in-last o e (x ∷ xs) h = ⊎_elim (λ a. let same : x ≡ e = cc in inr (inl same)) (λ a. inr (inr a))
      (in-last (Some x) e xs h)

  in-matches : (q : List ℕ) (e : List ℕ × V) (xs : List (List ℕ × V)) → IsIn e (matches q xs) → IsIn e xs
  in-matches q e [] h = h
  in-matches q e (x ∷ xs) h = (elim (begins x.0 q) as (λ z. IsIn e (if z then x ∷ matches q xs else matches q xs)
      → IsIn e (x ∷ xs)) [
        | true ↦ λ a. ⊎_elim (λ b. inl b) (λ b. inr (in-matches q e xs b)) a
        | false ↦ λ a. inr (in-matches q e xs a)
      ]) h

  above-in : (k : List ℕ) (e : List ℕ × V) (xs : List (List ℕ × V)) → AreAbove k xs → IsIn e xs → IsLess k e.0
  above-in k e [] a h = absurd h
  above-in k e (x ∷ xs) a h = ⊎_elim (λ b. let first = a.0 in rw b at first) (λ b. above-in k e xs a.1 b) h

  below-yes : (k : List ℕ) (e : List ℕ × V) (xs : List (List ℕ × V)) → begins k e.0 ≡ true
      → below k (e ∷ xs) ≡ e ∷ below k xs
  below-yes k e xs h = ap (λ z. if z then e ∷ below k xs else below k xs) h

  below-no : (k : List ℕ) (e : List ℕ × V) (xs : List (List ℕ × V)) → begins k e.0 ≡ false
      → below k (e ∷ xs) ≡ below k xs
  below-no k e xs h = ap (λ z. if z then e ∷ below k xs else below k xs) h

  first-below : (e : List ℕ × V) (xs : List (List ℕ × V)) → IsAscending xs → IsIn e xs → (rest : List (List ℕ × V))
      × (below e.0 xs ≡ e ∷ rest)
  first-below e [] a h = absurd h
  first-below e (x ∷ xs) a h = ⊎_elim
      (λ b. (below e.0 xs, rw b (below-yes e.0 e xs (begins-itself e.0))))
      (λ b. let more = first-below e xs a.1 b in
      (more.0, below-no e.0 x xs (not_begun x.0 e.0 (above-in x.0 e xs a.0 b)) ∙ more.1)) h

  in-longest : (q : List ℕ) (e : List ℕ × V) (xs : List (List ℕ × V)) → longest_match q xs ≡ Some e → IsIn e xs
  in-longest q e xs h = ⊎_elim (λ a. absurd (cc)) (λ a. in-matches q e xs a) (in-last None e (matches q xs) h)

  -- equal lists begin alike
  first-same : (p q : SegmentList) (x y : V) (xs ys : List (SegmentList × V)) → (p, x) ∷ xs ≡ (q, y) ∷ ys
      → (p ≡ q) × (x ≡ y)
  first-same p q x y xs ys e = let h : ◌≡◌ {A = SegmentList × V} (p, x) (q, y) = cc in
      (ap (λ z. z.0) h, ap (λ z. z.1) h)

  -- the walk below it begins with it
  longest-part : (q : List ℕ) (e : List ℕ × V) (o : Option (Trie V)) → IsCanonicalTree o
      → longest_match q (tree_pairs o) ≡ Some e
      → (rest : List (SegmentList × V)) × (part_entries one_segment (tree_part one_segment [] e.0 o)
      ≡ (cut (keys_of (tree_pairs o)) e.0, e.1) ∷ rest)
  longest-part q e None w h = absurd (cc)
  longest-part q e (Some t) w h =
      let first = first-below e (tree_pairs (Some t)) (pairs_of-ascend t w)
      (in-longest q e (tree_pairs (Some t)) h) in (
        cut_pairs (keys_of (tree_pairs (Some t))) first.0,
        part-cut e.0 (Some t) w
            ∙ ap (cut_pairs (keys_of (tree_pairs (Some t)))) first.1,
      )

  -- so what is kept of the way to the first stop there is its cut, and the value its own
  pub first-cut : (q k : List ℕ) (v : V) (o : Option (Trie V)) → IsCanonicalTree o
      → longest_match q (tree_pairs o) ≡ Some (k, v)
      → (p : SegmentList) (x : V) (more : List (SegmentList × V))
      → (p, x) ∷ more ≡ part_entries one_segment (tree_part one_segment [] k o)
      → (p ≡ cut (keys_of (tree_pairs o)) k) × (x ≡ v)
  first-cut q k v o w h p x more e =
      let part = longest-part q (k, v) o w h in
      first-same p (cut (keys_of (tree_pairs o)) k) x v more part.0 (e ∙ part.1)

  -- there is one
  pub first-contained : (q k : List ℕ) (v : V) (o : Option (Trie V)) → IsCanonicalTree o
      → longest_match q (tree_pairs o) ≡ Some (k, v)
      → part_entries one_segment (tree_part one_segment [] k o) ≢ []
  first-contained q k v o w h e = let part = longest-part q (k, v) o w h in let none = sym part.1 ∙ e in absurd (cc)
