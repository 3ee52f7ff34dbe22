-- The longest match of an address, by what the strides on its way hold.
use Rattle.std.proofs.Common.{◌≡◌, ℕ, zero, suc, ◌+◌, ◌-◌, ◌*◌, ◌/◌, ◌%◌, ◌<◌, ◌≤◌, ◌==◌, ◌⊎◌, ⊎_elim, inl, inr, length}
use Rattle.std.proofs.Common.{take, arith, List, [], ◌∷◌, true, false, refl, sym, ap, subst, ◌∙◌, Option, Some, None}
use Rattle.std.proofs.Common.{eq-eqb, eqb-true}
use Rattle.std.specs.Prelude.{IfSome, option_map, slice_index}
use Rattle.std.proofs.Math.Seq.{take-length}
use Rattle.std.proofs.lemmas.List.{length-take-le}
use Rattle.rart_keys.specs.ByteStrings.{begins}
use Rattle.rart_keys.specs.Filters.{longest_match}
use Rattle.rart_keys.specs.KeyBytes.{AreBytes}
use Rattle.rart_keys.specs.LongestMatches.{HasNoLonger, IsLongest}
use Rattle.rart_keys.specs.SortedMap.{IsAscending, lookup}
use Rattle.rart_keys.proofs.maps.LongestStored.{longest-stored, no-match, stored-longest}
use Rattle.rart_cidr.specs.Bits.{bits_of, code, network}
use Rattle.rart_cidr.specs.Longest.{HasNoneAfter, HasNoneFrom, IsLastStride, IsLongestAfter, IsLongestRoute}
use Rattle.rart_cidr.specs.Longest.{first_by_lengths, nodes_to, route_or}
use Rattle.rart_cidr.specs.Routes.{AreStrides, IsLongestIn, in_stride, routes_of, stride_at, stride_or_empty}
use Rattle.rart_cidr.proofs.networks.BitLemmas.{length-bits}
use Rattle.rart_cidr.proofs.routes.StrideLemmas.{lookup-network}

pub begins-take : (k : ℕ) (q : List ℕ) → begins (take k q) q ≡ true
begins-take zero q = refl
begins-take (suc k) [] = refl
begins-take (suc k) (x ∷ q) = rw (eq-eqb x x refl) (begins-take k q)

pub begun : (p q : List ℕ) → begins p q ≡ true → (take (length p) q ≡ p) × (length p ≤ length q)
begun [] q f = (refl, omega arith)
begun (x ∷ p) [] f = absurd (cc)
begun (x ∷ p) (y ∷ q) f = elim (x == y) as (λ b. (x == y) ≡ b → (take (suc (length p)) (y ∷ q) ≡ (x ∷ p))
    × (suc (length p) ≤ suc (length q))) [
      | true ↦ λ e. let h = begun p q (rw e at f) in let t = h.0 in let l = h.1 in let heads = eqb-true x y e in
          (cc, omega (arith, l))
      | false ↦ λ e. absurd (let t = rw e at f in cc)
    ] refl

-- the first bits of a network are a network
pub taken-network : (n w : ℕ) (l : List ℕ) → n ≤ w → take n (take w l) ≡ take n l
taken-network zero w l h = refl
taken-network (suc n) zero l h = absurd (omega arith)
taken-network (suc n) (suc w) [] h = refl
taken-network (suc n) (suc w) (x ∷ l) h = ap (λ z. x ∷ z) (taken-network n w l (omega arith))

way-begins : (o : List ℕ) (k at : ℕ) → k ≤ at → begins (take k o) (take at o) ≡ true
way-begins o k at h = subst (λ z. begins z (take at o) ≡ true) (taken-network k at o h) (begins-take k (take at o))

-- all bits of some octets
network-all : (o : List ℕ) → network o (8 * length o) ≡ bits_of o
network-all o = ap (λ n. take n (bits_of o)) (sym (length-bits o)) ∙ take-length (bits_of o)

pub less_or_not : (m n : ℕ) → (m < n) ⊎ (n ≤ m)
less_or_not zero zero = inr (omega arith)
less_or_not zero (suc n) = inl (omega arith)
less_or_not (suc m) zero = inr (omega arith)
less_or_not (suc m) (suc n) = ⊎_elim (λ h. inl (omega arith)) (λ h. inr (omega arith)) (less_or_not m n)

-- look-ups of one number of octets less
pub nodes_to-fewer : (n : ℕ) → 0 < n → nodes_to n ≡ nodes_to (n - 1) + n
nodes_to-fewer zero h = absurd (omega arith)
nodes_to-fewer (suc n) h = let last : suc n - 1 ≡ n = omega arith in omega (arith, ap nodes_to last)

pub nodes_to-more : (m n : ℕ) → m ≤ n → nodes_to m ≤ nodes_to n
nodes_to-more zero n h = omega arith
nodes_to-more (suc m) zero h = absurd (omega arith)
nodes_to-more (suc m) (suc n) h = omega (arith, nodes_to-more m n (omega arith))

module _ {T : Type 0} where
  -- a network that ends within the octet at `at` is looked up in the stride there
  in-stride : (S : List (List ℕ × List (List ℕ × T))) (o : List ℕ) (at n : ℕ) → IsAscending S → AreStrides S
      → AreBytes o → n / 8 ≡ at → n ≤ 8 * length o →
      lookup (network o n) (routes_of S) ≡ in_stride (stride_at (take at o) S) (slice_index o at) (n % 8)
  in-stride S o at n a b f e l = lookup-network S o n a b f l
      ∙ ap (λ z. lookup (code (slice_index o z) (n % 8) ∷ []) (stride_at (take z o) S)) e

  -- the same, by what was read on the way
  pub seen-stride : (S : List (List ℕ × List (List ℕ × T))) (o q : List ℕ) (at n x : ℕ) (s : Option (List (List ℕ × T)))
      → IsAscending S → AreStrides S → AreBytes o → n / 8 ≡ at → n ≤ 8 * length o →
      q ≡ take at o → s ≡ lookup q S → x ≡ slice_index o at → lookup (network o n) (routes_of S)
      ≡ in_stride (stride_or_empty s) x (n % 8)
  seen-stride S o q at n x s a b f e l m h i = in-stride S o at n a b f e l
      ∙ ap (λ z. in_stride (stride_at (take at o) S) z (n % 8)) (sym i) ∙
      ap (λ z. in_stride (stride_or_empty z) x (n % 8)) (sym (h ∙ ap (λ z. lookup z S) m))

  no_stride : (S : List (List ℕ × List (List ℕ × T))) (o q : List ℕ) (w at : ℕ) → IsAscending S → AreStrides S
      → AreBytes o → w ≤ 8 * length o → q ≡ take at o → None ≡ lookup q S → HasNoneAfter (routes_of S) o w at
  no_stride S o q w at a b f g m h = λ n e l.
      seen-stride S o q at n (slice_index o at) None a b f e (omega (arith, l, g)) m h refl

  pub none_in_stride : (S : List (List ℕ × List (List ℕ × T))) (o q : List ℕ) (w at x most : ℕ) (s : List (List ℕ × T))
      → IsAscending S → AreStrides S → AreBytes o → w ≤ 8 * length o → q ≡ take at o → Some s ≡ lookup q S
      → x ≡ slice_index o at → ((n : ℕ) → n / 8 ≡ at → n ≤ w → n % 8 ≤ most) → IsLongestIn s x most None
      → HasNoneAfter (routes_of S) o w at
  none_in_stride S o q w at x most s a b f g m h i few none = λ n e l.
      seen-stride S o q at n x (Some s) a b f e (omega (arith, l, g)) m h i ∙ none (n % 8) (few n e l)

  pub some_in_stride : (S : List (List ℕ × List (List ℕ × T))) (o q : List ℕ) (w at x most r : ℕ) (t : T)
      (s : List (List ℕ × T)) → IsAscending S → AreStrides S → AreBytes o → w ≤ 8 * length o → q ≡ take at o
      → Some s ≡ lookup q S → x ≡ slice_index o at → most < 8 → 8 * at + most ≤ w
      → ((n : ℕ) → n / 8 ≡ at → n ≤ w → n % 8 ≤ most)
      → IsLongestIn s x most (Some (r, t)) → IsLongestAfter (routes_of S) o w at (Some (8 * at + r, t))
  some_in_stride S o q w at x most r t s a b f enough m h i small fits few p =
      let short : r ≤ most = p.0 in
      let quotient : (8 * at + r) / 8 ≡ at = omega (arith, short, small) in
      let rest : (8 * at + r) % 8 ≡ r = omega (arith, short, small) in
      let within : 8 * at + r ≤ w = omega (arith, short, fits) in (
        quotient,
        within,
        seen-stride S o q at (8 * at + r) x (Some s) a b f quotient (omega (arith, within, enough)) m h i
            ∙ ap (in_stride s x) rest ∙ p.1,
        λ n g e l. seen-stride S o q at n x (Some s) a b f e (omega (arith, l, enough)) m h i
            ∙ p.2 (n % 8) (omega (arith, g, e)) (few n e l),
      )

  -- a longer beginning of the way has no stride
  no-longer : (S : List (List ℕ × List (List ℕ × T))) (o : List ℕ) (w at count k : ℕ) → IsAscending S → AreStrides S
      → AreBytes o → w ≤ 8 * length o → at ≤ length o → count ≤ at → HasNoLonger (take count o) (take at o) S
      → count < k → k ≤ at → HasNoneAfter (routes_of S) o w k
  no-longer S o w at count k a b f g enough fits none more within = no_stride S o (take k o) w k a b f g refl
      (elim (lookup (take k o) S) as (λ s. lookup (take k o) S ≡ s → None ≡ s) [
        | None ↦ λ e. refl
        | Some s ↦ λ e. absurd (let stored = none (take k o) (λ m. let c = sym e ∙ m in cc)
            (way-begins o k at within) in
            omega (
              arith,
              stored,
              more,
              length-take-le k o (omega (arith, within, enough)),
              length-take-le count o (omega (arith, fits, enough)),
            ))
      ] refl)

  -- the last stride on the way, or none
  pub last-none : (S : List (List ℕ × List (List ℕ × T))) (o q : List ℕ) (w at : ℕ) → IsAscending S → AreStrides S
      → AreBytes o → w ≤ 8 * length o → q ≡ take at o → None ≡ longest_match q S
      → IsLastStride (routes_of S) o w at None
  last-none S o q w at a b f g is none = λ k within. no_stride S o (take k o) w k a b f g refl
      (sym (no-match (take at o) S (ap (λ z. longest_match z S) (sym is) ∙ sym none) (take k o)
      (way-begins o k at within)))

  pub last-some : (S : List (List ℕ × List (List ℕ × T))) (o q : List ℕ) (w at count : ℕ) (s : List (List ℕ × T))
      (r : Option (ℕ × T)) → IsAscending S → AreStrides S → AreBytes o → w ≤ 8 * length o → at ≤ length o
      → q ≡ take at o → count ≤ length q → Some (take count q, s) ≡ longest_match q S
      → (Some s ≡ lookup (take count o) S → IsLongestAfter (routes_of S) o w count r)
      → IsLastStride (routes_of S) o w at (Some (count, r))
  last-some S o q w at count s r a b f g enough is within found after =
      let fits : count ≤ at = omega (arith, within, ap length is, length-take-le at o enough) in
      let way : take count q ≡ take count o = ap (take count) is ∙ taken-network count at o fits in
      let longest : IsLongest (take count o) s (take at o) S = longest-stored (take count o) (take at o) s S a
      (ap (λ z. longest_match z S) (sym is) ∙ sym found ∙ ap (λ z. Some (z, s)) way) in (
        fits,
        after (sym longest.0),
        λ k more l. no-longer S o w at count k a b f g enough fits longest.2 more l,
      )

  -- octets without a network before those that have none
  pub none-before : (v : List (List ℕ × T)) (o : List ℕ) (w low up : ℕ)
      → ((k : ℕ) → low ≤ k → k < up → HasNoneAfter v o w k) → HasNoneFrom v o w (8 * up)
      → HasNoneFrom v o w (8 * low)
  none-before v o w low up h i = λ n l m. ⊎_elim
      (λ g. h (n / 8) (omega (arith, l)) g n refl m)
      (λ g. i n (omega (arith, g)) m)
      (less_or_not (n / 8) up)

  -- a stored network that begins the first w bits is the first bits of the octets
  stored-begins : (v : List (List ℕ × T)) (o k : List ℕ) (w : ℕ) → w ≤ 8 * length o → begins k (network o w) ≡ true
      → (network o (length k) ≡ k) × (length k ≤ w)
  stored-begins v o k w g f =
      let h = begun k (network o w) f in
      let long : length (network o w) ≡ w = length-take-le w (bits_of o) (omega (arith, g, length-bits o)) in
      let m : length k ≤ w = omega (arith, h.1, long) in
      (sym (taken-network (length k) w (bits_of o) m) ∙ h.0, m)

  pub is_longest : (v : List (List ℕ × T)) (o : List ℕ) (w at low n : ℕ) (t : T) → w ≤ 8 * length o → low ≤ 8 * at + 8
      → IsAscending v → IsLongestAfter v o w at (Some (n, t)) → HasNoneFrom v o w low
      → ◌≡◌ {A = Option (List ℕ × T)} (Some (take n (network o w), t)) (longest_match (network o w) v)
  is_longest v o w at low n t enough b a p none =
      let same : take n (network o w) ≡ network o n = taken-network n w (bits_of o) p.1 in
      let wide : length (network o w) ≡ w = length-take-le w (bits_of o) (omega (arith, enough, length-bits o)) in
      let long : length (take n (network o w)) ≡ n = length-take-le n (network o w) (omega (arith, p.1, wide)) in
      sym (stored-longest (take n (network o w)) (network o w) t v a (
        ap (λ z. lookup z v) same ∙ p.2,
        begins-take n (network o w),
        λ k stored f. ⊎_elim
            (λ g. let h = stored-begins v o k w enough f in
            absurd (stored (ap (λ z. lookup z v) (sym h.0) ∙ ⊎_elim
            (λ i. p.3 (length k) (omega (arith, g, long)) (omega (arith, g, long, p.0, i)) h.1)
            (λ i. none (length k) (omega (arith, i, b)) h.1)
            (less_or_not (length k) (8 * at + 8)))))
            (λ g. g)
            (less_or_not (length (take n (network o w))) (length k)),
      ))

  pub has_none : (v : List (List ℕ × T)) (o : List ℕ) (w : ℕ) → w ≤ 8 * length o → IsAscending v
      → HasNoneFrom v o w 0 → None ≡ longest_match (network o w) v
  has_none v o w enough a none =
      elim (longest_match (network o w) v) as (λ r. longest_match (network o w) v ≡ r → None ≡ r) [
        | None ↦ λ e. refl
        | Some f ↦ λ e. let p = longest-stored f.0 (network o w) f.1 v a e in
            let h = stored-begins v o f.0 w enough p.1 in
            absurd (let m = sym p.0 ∙ ap (λ z. lookup z v) (sym h.0) ∙ none (length f.0) (omega arith) h.1 in cc)
      ] refl

  -- the longest match of all bits of the octets
  pub matched-all : {X : Type 0} (now : X → T) (v : List (List ℕ × T)) (o : List ℕ) (r : Option (ℕ × X))
      → IfSome r (λ p. p.0 ≤ 8 * length o)
      → option_map (λ p. (take p.0 (network o (8 * length o)), now p.1)) r ≡ longest_match (network o (8 * length o)) v
      → option_map (λ p. (network o p.0, now p.1)) r ≡ longest_match (bits_of o) v
  matched-all now v o None l h = h ∙ ap (λ z. longest_match z v) (network-all o)
  matched-all now v o (Some p) l h =
      ap (λ z. Some (z, now p.1)) (sym (taken-network p.0 (8 * length o) (bits_of o) l)) ∙ h
      ∙ ap (λ z. longest_match z v) (network-all o)

  -- a network found at n bits, after none was found with more
  pub found-at : (v : List (List ℕ × T)) (o : List ℕ) (w n : ℕ) (t : T) → w ≤ 8 * length o → n ≤ w → IsAscending v
      → Some t ≡ lookup (network o n) v → HasNoneFrom v o w (n + 1)
      → ◌≡◌ {A = Option (List ℕ × T)} (Some (take n (network o w), t)) (longest_match (network o w) v)
  found-at v o w n t enough h a e none = is_longest v o w (n / 8) (n + 1) n t enough (omega arith) a
      (refl, h, sym e, λ m g i l. none m (omega (arith, g)) l) none

  -- nor with one bit fewer
  pub none-at : (v : List (List ℕ × T)) (o : List ℕ) (w n : ℕ) → None ≡ lookup (network o n) v
      → HasNoneFrom v o w (n + 1) → HasNoneFrom v o w n
  none-at v o w n e none = λ m h l. ⊎_elim
      (λ g. none m (omega (arith, g)) l)
      (λ g. let q : m ≡ n = omega (arith, g, h) in ap (λ z. lookup (network o z) v) q ∙ sym e)
      (less_or_not n m)

  -- look-ups that find nothing are passed over
  tried-down : (v : List (List ℕ × T)) (o : List ℕ) (w n m : ℕ) → n ≤ m → m ≤ w → HasNoneFrom v o w (n + 1)
      → first_by_lengths (network o w) m v ≡ first_by_lengths (network o w) n v
  tried-down v o w n zero h i none = let e : n ≡ 0 = omega arith in rw e refl
  tried-down v o w n (suc m) h i none = ⊎_elim
      (λ g. let free : lookup (take (suc m) (network o w)) v ≡ None
      = ap (λ z. lookup z v) (taken-network (suc m) w (bits_of o) i) ∙ none (suc m) (omega (arith, g)) i in
      ap (route_or (first_by_lengths (network o w) m v) (take (suc m) (network o w))) free
      ∙ tried-down v o w n m (omega (arith, g)) (omega arith) none)
      (λ g. let e : n ≡ suc m = omega (arith, h, g) in rw e refl)
      (less_or_not n (suc m))

  -- and the first that finds a target is the answer
  found-first : (net : List ℕ) (n : ℕ) (t : T) (v : List (List ℕ × T)) → lookup (take n net) v ≡ Some t
      → first_by_lengths net n v ≡ Some (take n net, t)
  found-first net zero t v e = ap (route_or None (take 0 net)) e
  found-first net (suc n) t v e = ap (route_or (first_by_lengths net n v) (take (suc n) net)) e

  pub tried-found : (v : List (List ℕ × T)) (o : List ℕ) (w n : ℕ) (t : T) → n ≤ w → Some t ≡ lookup (network o n) v
      → HasNoneFrom v o w (n + 1)
      → ◌≡◌ {A = Option (List ℕ × T)} (Some (take n (network o w), t)) (first_by_lengths (network o w) w v)
  tried-found v o w n t h e none = sym (tried-down v o w n w h (omega arith) none
      ∙ found-first (network o w) n t v (ap (λ z. lookup z v) (taken-network n w (bits_of o) h) ∙ sym e))

  pub tried-none : (v : List (List ℕ × T)) (o : List ℕ) (w : ℕ) → None ≡ lookup (network o 0) v
      → HasNoneFrom v o w 1 → None ≡ first_by_lengths (network o w) w v
  tried-none v o w e none = sym (tried-down v o w 0 w (omega arith) (omega arith) none
      ∙ ap (route_or None (take 0 (network o w))) (sym e))

  -- a longest match is longest
  pub longest-route : (q : List ℕ) (v : List (List ℕ × T)) (r : Option (List ℕ × T)) → IsAscending v
      → r ≡ longest_match q v → IsLongestRoute q v r
  longest-route q v None a e = no-match q v (sym e)
  longest-route q v (Some p) a e = longest-stored p.0 q p.1 v a (sym e)
