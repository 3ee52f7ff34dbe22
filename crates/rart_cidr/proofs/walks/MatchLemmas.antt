-- The matches of an address in order, by what the strides on its way hold.
use Rattle.std.proofs.Common.{◌≡◌, ℕ, ◌+◌, ◌*◌, ◌/◌, ◌%◌, ◌<◌, ◌≤◌, ⊎_elim, length}
use Rattle.std.proofs.Common.{take, arith, List, [], ◌∷◌, true, false, refl, sym, ap, subst, ◌∙◌, Some, None}
use Rattle.std.proofs.Common.{if◌then◌else◌}
use Rattle.std.specs.Prelude.{filter, nat_le, slice_index}
use Rattle.std.proofs.lemmas.Bool.Decides.{nat_tests}
use Rattle.std.proofs.lemmas.List.{length-take-le}
use Rattle.rart_keys.specs.ByteStrings.{IsLess, begins}
use Rattle.rart_keys.specs.Filters.{matches}
use Rattle.rart_keys.specs.KeyBytes.{AreBytes}
use Rattle.rart_keys.specs.SortedMap.{AreAbove, IsAscending, lookup}
use Rattle.rart_keys.proofs.strings.ByteOrder.{bytes_eq-differ, bytes_eq-itself}
use Rattle.rart_keys.proofs.maps.LongestMatchLemmas.{below-shorter}
use Rattle.rart_cidr.specs.Bits.{bits_of, network}
use Rattle.rart_cidr.specs.Matches.{HasNoneBetween, IsFirstAfter, IsNextMatch, matches_from}
use Rattle.rart_cidr.specs.Routes.{AreStrides, IsShortestIn, in_stride, routes_of}
use Rattle.rart_cidr.proofs.networks.BitLemmas.{length-bits}
use Rattle.rart_cidr.proofs.walks.LongestLemmas.{begins-take, begun, less_or_not, seen-stride, taken-network}
use Rattle.rart_cidr.proofs.routes.RouteLemmas.{same_or_not}

within : (m n : ℕ) → m ≤ n → nat_le m n ≡ true
within m n h = grind (arith, nat_tests, h)

beyond : (m n : ℕ) → n < m → nat_le m n ≡ false
beyond m n h = grind (arith, nat_tests, h)

module _ {T : Type 0} where
  first-found : (e : List ℕ × T) (es : List (List ℕ × T)) → lookup e.0 (e ∷ es) ≡ Some e.1
  first-found e es = rw (bytes_eq-itself e.0) refl

  -- what is stored elsewhere than at the first pair
  later-found : (k : List ℕ) (e : List ℕ × T) (es : List (List ℕ × T)) → (e.0 ≡ k → ⊥) → lookup k (e ∷ es) ≡ lookup k es
  later-found k e es n = rw (bytes_eq-differ e.0 k n) refl

  later-none : (k : List ℕ) (e : List ℕ × T) (es : List (List ℕ × T)) → lookup k (e ∷ es) ≡ None → lookup k es ≡ None
  later-none k e es h = ⊎_elim
      (λ m. absurd (let t = sym (first-found e es) ∙ ap (λ z. lookup z (e ∷ es)) m ∙ h in cc))
      (λ n. sym (later-found k e es n) ∙ h)
      (same_or_not e.0 k)

  above-found : (p k : List ℕ) (v : T) (es : List (List ℕ × T)) → AreAbove p es → lookup k es ≡ Some v → IsLess p k
  above-found p k v [] a h = absurd (cc)
  above-found p k v (e ∷ es) a h = ⊎_elim
      (λ m. subst (λ z. IsLess p z) m a.0)
      (λ n. above-found p k v es a.1 (sym (later-found k e es n) ∙ h))
      (same_or_not e.0 k)

  -- a pair that a walk of the matches leaves out, or not
  left-out : (low : ℕ) (q : List ℕ) (e : List ℕ × T) (es : List (List ℕ × T)) → begins e.0 q ≡ false
      → matches_from low q (e ∷ es) ≡ matches_from low q es
  left-out low q e es f = rw f refl

  too-short : (low : ℕ) (q : List ℕ) (e : List ℕ × T) (es : List (List ℕ × T)) → begins e.0 q ≡ true → length e.0 < low
      → matches_from low q (e ∷ es) ≡ matches_from low q es
  too-short low q e es f h = rw (f, beyond low (length e.0) h) refl

  taken-in : (low : ℕ) (q : List ℕ) (e : List ℕ × T) (es : List (List ℕ × T)) → begins e.0 q ≡ true → low ≤ length e.0
      → matches_from low q (e ∷ es) ≡ e ∷ matches_from low q es
  taken-in low q e es f h = rw (f, within low (length e.0) h) refl

  -- the matches after a match are longer than it
  all-longer : (low : ℕ) (p q : List ℕ) (es : List (List ℕ × T)) → AreAbove p es → begins p q ≡ true
      → low ≤ length p + 1 → matches_from low q es ≡ matches q es
  all-longer low p q [] a f h = refl
  all-longer low p q (e ∷ es) a f h = elim (begins e.0 q) as (λ b. begins e.0 q ≡ b
      → filter (λ z. nat_le low (length z.0)) (if b then e ∷ matches q es else matches q es)
      ≡ (if b then e ∷ matches q es else matches q es)) [
        | true ↦ λ s. let long = below-shorter p e.0 q a.0 f s in
            rw (within low (length e.0) (omega (arith, long, h))) (ap (λ z. e ∷ z) (all-longer low p q es a.1 f h))
        | false ↦ λ s. all-longer low p q es a.1 f h
      ] refl

  -- all matches have no bits or more
  pub all_matches : (q : List ℕ) (v : List (List ℕ × T)) → matches_from 0 q v ≡ matches q v
  all_matches q [] = refl
  all_matches q (e ∷ es) = elim (begins e.0 q)
      as (λ b. filter (λ z. nat_le 0 (length z.0)) (if b then e ∷ matches q es else matches q es)
      ≡ (if b then e ∷ matches q es else matches q es)) [
        | true ↦ rw (within 0 (length e.0) (omega arith)) (ap (λ z. e ∷ z) (all_matches q es))
        | false ↦ all_matches q es
      ]

  -- no stored network of low bits or more begins q
  no_matches : (low : ℕ) (q : List ℕ) (v : List (List ℕ × T))
      → ((n : ℕ) → low ≤ n → n ≤ length q → lookup (take n q) v ≡ None) → matches_from low q v ≡ []
  no_matches low q [] none = refl
  no_matches low q (e ∷ es) none =
      let rest = no_matches low q es (λ n g l. later-none (take n q) e es (none n g l)) in
      elim (begins e.0 q) as (λ b. begins e.0 q ≡ b → matches_from low q (e ∷ es) ≡ []) [
        | true ↦ λ s. let h = begun e.0 q s in ⊎_elim
            (λ g. too-short low q e es s g ∙ rest)
            (λ g. absurd (let t = sym (first-found e es) ∙ ap (λ z. lookup z (e ∷ es)) (sym h.0)
            ∙ none (length e.0) g h.1 in cc))
            (less_or_not (length e.0) low)
        | false ↦ λ s. left-out low q e es s ∙ rest
      ] refl

  -- the shortest stored network of low bits or more that begins q has n bits
  next_is : (low n : ℕ) (q : List ℕ) (t : T) (v : List (List ℕ × T)) → IsAscending v → low ≤ n → n ≤ length q
      → lookup (take n q) v ≡ Some t → ((m : ℕ) → low ≤ m → m < n → lookup (take m q) v ≡ None)
      → matches_from low q v ≡ (take n q, t) ∷ matches_from (n + 1) q v
  next_is low n q t [] a g l h none = absurd (cc)
  next_is low n q t (e ∷ es) a g l h none =
      let long : length (take n q) ≡ n = length-take-le n q l in
      let fewer : (m : ℕ) → low ≤ m → m < n → lookup (take m q) es ≡ None
      = λ m i j. later-none (take m q) e es (none m i j) in
      elim (begins e.0 q) as (λ b. begins e.0 q ≡ b
      → matches_from low q (e ∷ es) ≡ (take n q, t) ∷ matches_from (n + 1) q (e ∷ es)) [
        | false ↦ λ s.
            let other : e.0 ≡ take n q → ⊥ = (λ m. let x = begins-take n q in let y = ap (λ z. begins z q) m in cc) in
            left-out low q e es s
            ∙ next_is low n q t es a.1 g l (sym (later-found (take n q) e es other) ∙ h) fewer
            ∙ ap (λ z. (take n q, t) ∷ z) (sym (left-out (n + 1) q e es s))
        | true ↦ λ s. let b = begun e.0 q s in ⊎_elim
            (λ i. ⊎_elim
            (λ j. let other : e.0 ≡ take n q → ⊥ = (λ m. omega (arith, ap length m, long, j, g)) in
            too-short low q e es s j
            ∙ next_is low n q t es a.1 g l (sym (later-found (take n q) e es other) ∙ h) fewer
            ∙ ap (λ z. (take n q, t) ∷ z) (sym (too-short (n + 1) q e es s (omega (arith, j, g)))))
            (λ j. absurd (let x = sym (first-found e es) ∙ ap (λ z. lookup z (e ∷ es)) (sym b.0)
            ∙ none (length e.0) j i in cc))
            (less_or_not (length e.0) low))
            (λ i. ⊎_elim
            (λ m.
            let value : e.1 ≡ t = (let x = sym (first-found e es) ∙ ap (λ z. lookup z (e ∷ es)) m ∙ h in cc) in
            let size : length e.0 ≡ n = ap length m ∙ long in
            let pair : ◌≡◌ {A = List ℕ × T} e (take n q, t)
            = ap (λ z. (z, e.1)) m ∙ ap (λ z. (take n q, z)) value in
            taken-in low q e es s (omega (arith, size, g))
            ∙ ap (λ z. z ∷ matches_from low q es) pair
            ∙ ap (λ z. (take n q, t) ∷ z) (all-longer low e.0 q es a.0 s (omega (arith, size, g))
            ∙ sym (all-longer (n + 1) e.0 q es a.0 s (omega (arith, size)))
            ∙ sym (too-short (n + 1) q e es s (omega (arith, size)))))
            (λ other. absurd (let less = above-found e.0 (take n q) t es a.0
            (sym (later-found (take n q) e es other) ∙ h) in
            let short = below-shorter e.0 (take n q) q less s (begins-take n q) in omega (arith, short, long, i)))
            (same_or_not e.0 (take n q)))
            (less_or_not (length e.0) n)
      ] refl

  -- the first n of the first w bits
  first-bits : (v : List (List ℕ × T)) (o : List ℕ) (w n : ℕ) → n ≤ w → lookup (take n (network o w)) v
      ≡ lookup (network o n) v
  first-bits v o w n h = ap (λ z. lookup z v) (taken-network n w (bits_of o) h)

  pub is_next : (v : List (List ℕ × T)) (o : List ℕ) (w low from n : ℕ) (t : T) → w ≤ 8 * length o → IsAscending v
      → low ≤ from → HasNoneBetween v o w low from → IsFirstAfter v o w from (Some (n, t))
      → IsNextMatch low (network o w) v (Some (n, t))
  is_next v o w low from n t enough a g none p =
      let wide : length (network o w) ≡ w = length-take-le w (bits_of o) (omega (arith, enough, length-bits o)) in
      next_is low n (network o w) t v a (omega (arith, g, p.0)) (omega (arith, wide, p.2))
      (first-bits v o w n p.2 ∙ p.3)
      (λ m i j. first-bits v o w m (omega (arith, j, p.2)) ∙ ⊎_elim
      (λ k. none m i k (omega (arith, j, p.2)))
      (λ k. p.4 m k j)
      (less_or_not m from))

  pub has_no_next : (v : List (List ℕ × T)) (o : List ℕ) (w low from : ℕ) → w ≤ 8 * length o → w < from
      → HasNoneBetween v o w low from → IsNextMatch low (network o w) v None
  has_no_next v o w low from enough g none =
      let wide : length (network o w) ≡ w = length-take-le w (bits_of o) (omega (arith, enough, length-bits o)) in
      no_matches low (network o w) v
      (λ m i j. let l : m ≤ w = omega (arith, j, wide) in
      first-bits v o w m l ∙ none m i (omega (arith, l, g)) l)

  -- one octet more without a network
  pub none_before : (v : List (List ℕ × T)) (o : List ℕ) (w low from : ℕ) → IsFirstAfter v o w from None
      → HasNoneBetween v o w low from → HasNoneBetween v o w low ((from / 8 + 1) * 8)
  none_before v o w low from h i = λ n g l m. ⊎_elim
      (λ k. i n g k m)
      (λ k. h n k (omega (arith, k, l)) m)
      (less_or_not n from)

  pub none_after : (S : List (List ℕ × List (List ℕ × T))) (o q : List ℕ) (w low : ℕ) → IsAscending S → AreStrides S
      → AreBytes o → w ≤ 8 * length o → q ≡ take (low / 8) o → None ≡ lookup q S
      → IsFirstAfter (routes_of S) o w low None
  none_after S o q w low a b f g m h = λ n k e l.
      seen-stride S o q (low / 8) n (slice_index o (low / 8)) None a b f e (omega (arith, l, g)) m h refl

  pub none_in_stride_after : (S : List (List ℕ × List (List ℕ × T))) (o q : List ℕ) (w low x most : ℕ)
      (s : List (List ℕ × T)) → IsAscending S → AreStrides S → AreBytes o → w ≤ 8 * length o → q ≡ take (low / 8) o
      → Some s ≡ lookup q S → x ≡ slice_index o (low / 8) → ((n : ℕ) → n / 8 ≡ low / 8 → n ≤ w → n % 8 ≤ most)
      → IsShortestIn s x (low % 8) most None → IsFirstAfter (routes_of S) o w low None
  none_in_stride_after S o q w low x most s a b f g m h i few none = λ n k e l.
      seen-stride S o q (low / 8) n x (Some s) a b f e (omega (arith, l, g)) m h i
      ∙ none (n % 8) (omega (arith, k, e)) (few n e l)

  pub first_in_stride : (S : List (List ℕ × List (List ℕ × T))) (o q : List ℕ) (w low x most r : ℕ) (t : T)
      (s : List (List ℕ × T)) → IsAscending S → AreStrides S → AreBytes o → w ≤ 8 * length o → q ≡ take (low / 8) o
      → Some s ≡ lookup q S → x ≡ slice_index o (low / 8) → most < 8 → 8 * (low / 8) + most ≤ w
      → IsShortestIn s x (low % 8) most (Some (r, t))
      → IsFirstAfter (routes_of S) o w low (Some (8 * (low / 8) + r, t))
  first_in_stride S o q w low x most r t s a b f g m h i small fits p =
      let short : r ≤ most = p.1 in
      let least : low % 8 ≤ r = p.0 in
      let quotient : (8 * (low / 8) + r) / 8 ≡ low / 8 = omega (arith, short, small) in
      let rest : (8 * (low / 8) + r) % 8 ≡ r = omega (arith, short, small) in
      let inside : 8 * (low / 8) + r ≤ w = omega (arith, short, fits) in (
        omega (arith, least),
        quotient,
        inside,
        seen-stride S o q (low / 8) (8 * (low / 8) + r) x (Some s) a b f quotient (omega (arith, inside, g)) m h i
            ∙ ap (in_stride s x) rest ∙ p.2,
        λ n k l. let e : n / 8 ≡ low / 8 = omega (arith, k, l, short, small) in
            seen-stride S o q (low / 8) n x (Some s) a b f e (omega (arith, l, inside, g)) m h i
            ∙ p.3 (n % 8) (omega (arith, k, e)) (omega (arith, l, e)),
      )
