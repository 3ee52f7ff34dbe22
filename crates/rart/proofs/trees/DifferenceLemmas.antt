-- The pairs of a map whose keys another map doesn't have, where both are walked together.
use Rattle.std.proofs.Common.{◌≡◌, ℕ, Bool, true, false, List, [], ◌∷◌, refl, sym, ap, ◌∙◌, Option, Some, None}
use Rattle.std.proofs.Common.{Less, Equal, Greater, not, if◌then◌else◌}
use Rattle.std.specs.Cmp.Lexicographic.{slice_cmp}
use Rattle.std.specs.Option.{is_none}
use Rattle.std.specs.Ordering.{is_eq, match_ordering, nat_cmp}
use Rattle.std.proofs.lemmas.Cmp.{nat_list_cmp_total}
use Rattle.std.proofs.lemmas.Map.Lookups.{exact_bytes}
use Rattle.rart_keys.specs.ByteStrings.{bytes_eq, IsLess}
use Rattle.rart_keys.specs.SortedMap.{AreAbove, IsAscending, lookup}
use Rattle.rart.specs.Unions.{difference_of, first_alone, first_order_to, pairs_from_key}
use Rattle.rart.proofs.trees.UnionLemmas.{above-trans, from-same, lookup-above, lookup-after, lookup-at}

module _ {W : Type 0} where
  pub rest-ascends : (k : List ℕ) (m : List (List ℕ × W)) → IsAscending m → IsAscending (pairs_from_key k m)
  rest-ascends k [] h = tt
  rest-ascends k (e ∷ m) h = elim (slice_cmp nat_cmp e.0 k)
      as (λ o. IsAscending (match_ordering o (pairs_from_key k m) (e ∷ m) (e ∷ m))) [
        | Less ↦ rest-ascends k m h.1
        | Equal ↦ h
        | Greater ↦ h
      ]

  -- whether the second map has k
  found : (k : List ℕ) (m : List (List ℕ × W)) → IsAscending m
      → is_none (lookup k m) ≡ not (is_eq (first_order_to k (pairs_from_key k m)))
  found k [] h = refl
  found k (e ∷ m) h = elim (slice_cmp nat_cmp e.0 k) as (λ o. slice_cmp nat_cmp e.0 k ≡ o
      → is_none (lookup k (e ∷ m))
      ≡ not (is_eq (first_order_to k (match_ordering o (pairs_from_key k m) (e ∷ m) (e ∷ m))))) [
        | Less ↦ λ s. ap is_none (lookup-after k e m s) ∙ found k m h.1
        | Equal ↦ λ s. ap is_none (lookup-at k e m (exact_bytes e.0 k s)) ∙ rw s refl
        | Greater ↦ λ s. let less : IsLess k e.0 = rw (nat_list_cmp_total.antisymm k e.0, s) refl in
            ap is_none (lookup-above k (e ∷ m) (less, above-trans k e.0 m less h.0)) ∙ rw s refl
      ] refl

module _ {V W : Type 0} where
  -- a key below all keys of the first map changes nothing
  skip-one : (l : List (List ℕ × V)) (e : List ℕ × W) (m : List (List ℕ × W)) → AreAbove e.0 l
      → difference_of l (e ∷ m) ≡ difference_of l m
  skip-one [] e m a = refl
  skip-one (d ∷ l) e m a = rw (lookup-after d.0 e m a.0)
      (ap (λ z. if is_none (lookup d.0 m) then d ∷ z else z) (skip-one l e m a.1))

  -- nor do keys below k
  skip-below : (k : List ℕ) (l : List (List ℕ × V)) (m : List (List ℕ × W)) → AreAbove k l
      → difference_of l (pairs_from_key k m) ≡ difference_of l m
  skip-below k l [] a = refl
  skip-below k l (e ∷ m) a = elim (slice_cmp nat_cmp e.0 k) as (λ o. slice_cmp nat_cmp e.0 k ≡ o
      → difference_of l (match_ordering o (pairs_from_key k m) (e ∷ m) (e ∷ m)) ≡ difference_of l (e ∷ m)) [
        | Less ↦ λ s. skip-below k l m a ∙ sym (skip-one l e m (above-trans e.0 k l s a))
        | Equal ↦ λ s. refl
        | Greater ↦ λ s. refl
      ] refl

  -- the first pair of the first map
  pub passes : (all l l' : List (List ℕ × V)) (m m' : List (List ℕ × W)) (d : List ℕ × V) (b : Bool)
      → difference_of l m ≡ all → IsAscending l → IsAscending m → l ≡ d ∷ l' → m' ≡ pairs_from_key d.0 m
      → b ≡ is_eq (first_order_to d.0 m') → all ≡ (if b then difference_of l' m' else d ∷ difference_of l' m')
  passes all l l' m m' d b is up-l up-m split rest order =
      let ascends : IsAscending (d ∷ l') = rw split at up-l in
      let none : is_none (lookup d.0 m) ≡ not b
      = found d.0 m up-m ∙ ap (λ z. not (is_eq (first_order_to d.0 z))) (sym rest) ∙ ap not (sym order) in
      let same : difference_of l' m' ≡ difference_of l' m
      = ap (difference_of l') rest ∙ skip-below d.0 l' m ascends.0 in
      sym is ∙ ap (λ z. difference_of z m) split
      ∙ ap (λ t. if t then d ∷ difference_of l' m else difference_of l' m) none
      ∙ ap (λ z. if not b then d ∷ z else z) (sym same)
      ∙ elim b as (λ t. (if not t then d ∷ difference_of l' m' else difference_of l' m')
      ≡ (if t then difference_of l' m' else d ∷ difference_of l' m')) [ true ↦ refl | false ↦ refl ]

-- the difference ascends, and is looked up in both maps
module _ {V W : Type 0} where
  above-difference : (k : List ℕ) (l : List (List ℕ × V)) (m : List (List ℕ × W)) → AreAbove k l
      → AreAbove k (difference_of l m)
  above-difference k [] m h = tt
  above-difference k (d ∷ l) m h = elim (is_none (lookup d.0 m))
      as (λ b. AreAbove k (if b then d ∷ difference_of l m else difference_of l m)) [
        | true ↦ (h.0, above-difference k l m h.1)
        | false ↦ above-difference k l m h.1
      ]

  pub difference-ascends : (l : List (List ℕ × V)) (m : List (List ℕ × W)) → IsAscending l
      → IsAscending (difference_of l m)
  difference-ascends [] m h = tt
  difference-ascends (d ∷ l) m h = elim (is_none (lookup d.0 m))
      as (λ b. IsAscending (if b then d ∷ difference_of l m else difference_of l m)) [
        | true ↦ (above-difference d.0 l m h.0, difference-ascends l m h.1)
        | false ↦ difference-ascends l m h.1
      ]

  -- the look-up of k where a pair with that key is in front, or left out
  lookup-kept : (k : List ℕ) (d : List ℕ × V) (l : List (List ℕ × V)) (o : Option W) → d.0 ≡ k
      → lookup k l ≡ first_alone (lookup k l) o → lookup k (if is_none o then d ∷ l else l) ≡ first_alone (Some d.1) o
  lookup-kept k d l None e h = lookup-at k d l e
  lookup-kept k d l (Some w) e h = h

  -- leaving out twice is leaving out once
  only-alone : (x : Option V) (o : Option W) → first_alone (first_alone x o) o ≡ first_alone x o
  only-alone x None = refl
  only-alone x (Some w) = refl

  pub lookup-difference : (k : List ℕ) (l : List (List ℕ × V)) (m : List (List ℕ × W))
      → lookup k (difference_of l m) ≡ first_alone (lookup k l) (lookup k m)
  lookup-difference k [] m = sym (none-alone (lookup k m))
    where
      none-alone : (o : Option W) → first_alone {V = V} None o ≡ None
      none-alone None = refl
      none-alone (Some w) = refl
  lookup-difference k (d ∷ l) m = elim (bytes_eq d.0 k) as (λ b. bytes_eq d.0 k ≡ b
      → lookup k (if is_none (lookup d.0 m) then d ∷ difference_of l m else difference_of l m)
      ≡ first_alone (if b then Some d.1 else lookup k l) (lookup k m)) [
        | true ↦ λ e. let same = from-same d.0 k e in
            let ih = lookup-difference k l m in
            ap (λ z. lookup k (if is_none (lookup z m) then d ∷ difference_of l m else difference_of l m)) same
            ∙ lookup-kept k d (difference_of l m) (lookup k m) same
            (ih ∙ sym (only-alone (lookup k l) (lookup k m)) ∙ ap (λ z. first_alone z (lookup k m)) (sym ih))
        | false ↦ λ e. passed-over e (is_none (lookup d.0 m)) ∙ lookup-difference k l m
      ] refl
    where
      passed-over : bytes_eq d.0 k ≡ false → (b : Bool)
          → lookup k (if b then d ∷ difference_of l m else difference_of l m) ≡ lookup k (difference_of l m)
      passed-over e true = rw e refl
      passed-over e false = refl
