-- What a walk over the routes of a table does next.
use Rattle.std.proofs.Common.{◌≡◌, ℕ, suc, ◌*◌, ◌<◌, ◌≤◌, ◌++◌, ◌&&◌, ⊎_elim, length, take}
use Rattle.std.proofs.Common.{arith}
use Rattle.std.proofs.Common.{Bool, List, [], ◌∷◌, true, false, refl, sym, ap, subst, ◌∙◌, Option, Some, None}
use Rattle.std.proofs.Common.{if◌then◌else◌}
use Rattle.std.specs.Prelude.{◌≢◌, filter, option_map, slice_index}
use Rattle.std.proofs.Common.{◌/◌, ◌%◌}
use Rattle.std.specs.declared.ops.Bound.{Bound}
use Rattle.std.specs.declared.ops.Bound.TheVariants.{Unbounded}
use Rattle.std.proofs.lemmas.List.{append-nil}
use Rattle.rart_keys.specs.ByteStrings.{IsLess}
use Rattle.rart_keys.specs.KeyBytes.{AreBytes, AreBytes-take}
use Rattle.rart_keys.specs.Ranges.{between, is_from, is_from_bound, pairs_from}
use Rattle.rart_keys.specs.SortedMap.{AreAbove, IsAscending, keys_of, lookup}
use Rattle.rart_keys.proofs.strings.ByteOrder.{below-trans, bytes_eq-differ, compare}
use Rattle.rart_keys.proofs.maps.SortedMaps.{above-trans, lookup-above}
use Rattle.rart_cidr.specs.Bits.{bits_of, code, code_bits, network}
use Rattle.rart_cidr.specs.Routes.{AreStrides, IsCode, coded_network, routes_of, stride_at, stride_or_empty}
use Rattle.rart_cidr.specs.Routes.{with_stride}
use Rattle.rart_cidr.specs.Walks.{AreAhead, IsBefore, IsNextBefore, IsStart, keys_ahead, net_at}
use Rattle.rart_cidr.proofs.networks.BitLemmas.{code-in_range, code-short, network-coded}
use Rattle.rart_cidr.proofs.walks.FilterLemmas.{equal_filters, first_filtered, from_after, from_before, from_is}
use Rattle.rart_cidr.proofs.walks.FilterLemmas.{from_itself, from_not_stored, from_stored}
use Rattle.rart_cidr.proofs.walks.FilterLemmas.{ascending_filter, lookup_filter, none_filtered}
use Rattle.rart_cidr.proofs.walks.NextLemmas.{before_trans}
use Rattle.rart_cidr.proofs.networks.OrderLemmas.{bytes-order}
use Rattle.rart_cidr.proofs.networks.PlaceLemmas.{before_more, begun_or_after, bytes_begun, not-less_itself}
use Rattle.rart_cidr.proofs.routes.RouteLemmas.{IsFormed, lookup-routes, put-some, routes-ascend, routes-formed}
use Rattle.rart_cidr.proofs.routes.RouteLemmas.{same_or_not}

-- the first key ahead
abbrev first_of : List (List ℕ) → Option (List ℕ)
first_of [] = None
first_of (k ∷ ks) = Some k

and-true : (b : Bool) → (b && true) ≡ true → b ≡ true
and-true true h = refl
and-true false h = absurd (cc)

true-and : (b : Bool) → b ≡ true → (b && true) ≡ true
true-and true h = refl
true-and false h = absurd (cc)

-- a network in a stride at a beginning of the bytes k
record IsAtLevel (k n : List ℕ) : Type 0 where
  at : ℕ
  code : ℕ
  within : at ≤ length k
  is_code : IsCode (code ∷ [])
  is : n ≡ net_at (take at k) code

module _ {T : Type 0} where
  no-stride : (p l : List ℕ) (S : List (List ℕ × List (List ℕ × T))) (t : T) → lookup l (stride_at p S) ≡ Some t
      → lookup p S ≢ None
  no-stride p l S t h n = let e = ap (λ z. lookup l (stride_or_empty z)) (sym n) ∙ h in cc

  -- bytes whose bits come after a network come from the first key ahead on
  ahead-from : (S : List (List ℕ × List (List ℕ × T))) (ks : List (List ℕ)) (q p : List ℕ) → AreAhead q S ks
      → lookup p S ≢ None → IsLess q (bits_of p) → (w : List ℕ) → IsBefore (bits_of p ++ w) (first_of ks) → ⊥
  ahead-from S [] q p a s l w b = a p s l
  ahead-from S (k ∷ ks) q p a s l w b = a.1 p s l (before_more (bits_of p) w (bits_of k) b)

  -- a stored network after that of k and c, before the first stride ahead
  level-of : (S : List (List ℕ × List (List ℕ × T))) (ks : List (List ℕ)) (k : List ℕ) (c : ℕ) (n : List ℕ) (t : T)
      → IsAscending S → AreStrides S → AreBytes k → IsCode (c ∷ []) → AreAhead (net_at k c) S ks
      → lookup n (routes_of S) ≡ Some t → IsLess (net_at k c) n → IsBefore n (first_of ks)
      → (o l : List ℕ) → n ≡ coded_network o l → AreBytes o → IsCode l → IsAtLevel k n
  level-of S ks k c n t a b f g ahead h less before o [] e i j = absurd j
  level-of S ks k c n t a b f g ahead h less before o (d ∷ d2 ∷ l) e i j = absurd j
  level-of S ks k c n t a b f g ahead h less before o (d ∷ []) e i j = ⊎_elim
      (λ r. let begun = bytes_begun o k (code_bits c) r.0 i f (code-short c g.1) r.1 in record {
        at = length o;
        code = d;
        within = begun.1;
        is_code = j;
        is = e ∙ ap (λ z. net_at z d) begun.0;
      })
      (λ l. absurd (ahead-from S ks (net_at k c) o ahead
      (no-stride o (d ∷ []) S t (sym (lookup-routes S o (d ∷ []) a b i j)
      ∙ ap (λ z. lookup z (routes_of S)) (sym e) ∙ h))
      l (code_bits d) (subst (λ z. IsBefore z (first_of ks)) e before)))
      (begun_or_after (bits_of o) (net_at k c) (code_bits d) (subst (λ z. IsLess (net_at k c) z) e less))

  level : (S : List (List ℕ × List (List ℕ × T))) (ks : List (List ℕ)) (k : List ℕ) (c : ℕ) (n : List ℕ) (t : T)
      → IsAscending S → AreStrides S → AreBytes k → IsCode (c ∷ []) → AreAhead (net_at k c) S ks
      → lookup n (routes_of S) ≡ Some t → IsLess (net_at k c) n → IsBefore n (first_of ks) → IsAtLevel k n
  unfolding IsFormed
  level S ks k c n t a b f g ahead h less before = let w = routes-formed S n t b h in
      level-of S ks k c n t a b f g ahead h less before w.0 w.1 w.2 w.3 w.4

  level-value : (S : List (List ℕ × List (List ℕ × T))) (k n : List ℕ) → IsAscending S → AreStrides S → AreBytes k
      → (v : IsAtLevel k n)
      → lookup n (routes_of S) ≡ lookup (v.code ∷ []) (stride_at (take v.at k) S)
  level-value S k n a b f v = ap (λ z. lookup z (routes_of S)) v.is
      ∙ lookup-routes S (take v.at k) (v.code ∷ []) a b (AreBytes-take v.at k f) v.is_code

  -- the route of the network itself, or none
  pub itself : (S : List (List ℕ × List (List ℕ × T))) (k : List ℕ) (c : ℕ) (t : T) → IsAscending S → AreStrides S
      → AreBytes k → IsCode (c ∷ []) → lookup (c ∷ []) (stride_at k S) ≡ Some t
      → pairs_from true (net_at k c) (routes_of S) ≡ (net_at k c, t) ∷ pairs_from false (net_at k c) (routes_of S)
  itself S k c t a b f g h = from_stored (net_at k c) t (routes_of S) (routes-ascend S)
      (lookup-routes S k (c ∷ []) a b f g ∙ h)

  pub not_itself : (S : List (List ℕ × List (List ℕ × T))) (k : List ℕ) (c : ℕ) → IsAscending S → AreStrides S
      → AreBytes k → IsCode (c ∷ []) → lookup (c ∷ []) (stride_at k S) ≡ None
      → pairs_from true (net_at k c) (routes_of S) ≡ pairs_from false (net_at k c) (routes_of S)
  not_itself S k c a b f g h = from_not_stored (net_at k c) (routes_of S) (routes-ascend S)
      (lookup-routes S k (c ∷ []) a b f g ∙ h)

  -- no route is after the network and before the first stride ahead
  none-before : (S : List (List ℕ × List (List ℕ × T))) (ks : List (List ℕ)) (k : List ℕ) (c : ℕ) (n : List ℕ) (t : T)
      → IsAscending S → AreStrides S → AreBytes k → IsCode (c ∷ []) → AreAhead (net_at k c) S ks
      → IsNextBefore S k (net_at k c) (first_of ks) None → lookup n (routes_of S) ≡ Some t → IsLess (net_at k c) n
      → IsBefore n (first_of ks) → ⊥
  none-before S ks k c n t a b f g ahead none h less before =
      let v = level S ks k c n t a b f g ahead h less before in
      let value = level-value S k n a b f v in
      let nothing = none v.at v.code (omega arith) v.within v.is_code (subst (λ z. IsLess (net_at k c) z) v.is less)
      (subst (λ z. IsBefore z (first_of ks)) v.is before) in
      let e = sym h ∙ value ∙ nothing in cc

  -- the next route is before the first stride ahead
  next_route : (S : List (List ℕ × List (List ℕ × T))) (ks : List (List ℕ)) (k : List ℕ) (c at d : ℕ) (t : T)
      → IsAscending S → AreStrides S → AreBytes k → IsCode (c ∷ []) → AreAhead (net_at k c) S ks
      → IsNextBefore S k (net_at k c) (first_of ks) (Some (at, d, t))
      → pairs_from false (net_at k c) (routes_of S)
      ≡ (net_at (take at k) d, t) ∷ pairs_from false (net_at (take at k) d) (routes_of S)
  next_route S ks k c at d t a b f g ahead next = let q = net_at k c in let n = net_at (take at k) d in
      first_filtered (is_from_bound false q) (is_from_bound false n) n t (routes_of S) (routes-ascend S)
      (lookup-routes S (take at k) (d ∷ []) a b (AreBytes-take at k f) next.1 ∙ next.4)
      (from_after false q n next.2)
      (λ p e. ⊎_elim (λ l. l) (λ m. absurd (let z = m.1 in cc)) (from_is false n p e))
      (λ p u e m. ⊎_elim
      (λ l. from_after false q p (below-trans q n p next.2 l) ∙ sym (from_after false n p l))
      (⊎_elim
      (λ s. absurd (m s))
      (λ l. ⊎_elim
      (λ s. absurd (let v = level S ks k c p u a b f g ahead e s (before_trans p n (first_of ks) l next.3) in
      let value = level-value S k p a b f v in
      let nothing = next.5 v.at v.code v.within v.is_code (subst (λ z. IsLess q z) v.is s)
      (subst (λ z. IsLess z n) v.is l) in
      let z = sym e ∙ value ∙ nothing in cc))
      (⊎_elim
      (λ s. ap (is_from_bound false q) (sym s) ∙ from_itself false q ∙ sym (from_before false n p l))
      (λ s. from_before false q p s ∙ sym (from_before false n p l)))
      (compare q p)))
      (compare n p))

  ahead_later : (S : List (List ℕ × List (List ℕ × T))) (ks : List (List ℕ)) (q n : List ℕ) → AreAhead q S ks
      → IsLess q n → IsBefore n (first_of ks) → AreAhead n S ks
  ahead_later S [] q n ahead l b = λ p s m. ahead p s (below-trans q n (bits_of p) l m)
  ahead_later S (k ∷ ks) q n ahead l b = (b, λ p s m. ahead.1 p s (below-trans q n (bits_of p) l m), ahead.2)

  -- none is, and the walk enters the stride
  entered : (S : List (List ℕ × List (List ℕ × T))) (ks : List (List ℕ)) (k : List ℕ) (c : ℕ) (m : List ℕ)
      → IsAscending S → AreStrides S → AreBytes k → IsCode (c ∷ []) → AreAhead (net_at k c) S (m ∷ ks)
      → IsNextBefore S k (net_at k c) (Some m) None
      → (pairs_from true (net_at m 1) (routes_of S) ≡ pairs_from false (net_at k c) (routes_of S))
      × AreAhead (net_at m 1) S ks
  entered S ks k c m a b f g ahead none =
      let q = net_at k c in
      let start : net_at m 1 ≡ bits_of m = append-nil (bits_of m) in (
        ap (λ z. pairs_from true z (routes_of S)) start
            ∙ equal_filters (is_from_bound true (bits_of m)) (is_from_bound false q) (routes_of S) (routes-ascend S)
            (λ p t e. ⊎_elim
            (λ l. from_after true (bits_of m) p l ∙ sym (from_after false q p (below-trans q (bits_of m) p ahead.0 l)))
            (⊎_elim
            (λ s. ap (is_from_bound true (bits_of m)) (sym s) ∙ from_itself true (bits_of m)
            ∙ sym (from_after false q p (subst (λ z. IsLess q z) s ahead.0)))
            (λ l. from_before true (bits_of m) p l ∙ sym (⊎_elim
            (λ s. absurd (none-before S (m ∷ ks) k c p t a b f g ahead none e s l))
            (⊎_elim
            (λ s. ap (is_from_bound false q) (sym s) ∙ from_itself false q)
            (λ s. from_before false q p s))
            (compare q p))))
            (compare (bits_of m) p)),
        subst (λ z. AreAhead z S ks) (sym start) ahead.2,
      )

  -- none is, and no stride is ahead
  ended : (S : List (List ℕ × List (List ℕ × T))) (k : List ℕ) (c : ℕ) → IsAscending S → AreStrides S → AreBytes k
      → IsCode (c ∷ []) → AreAhead (net_at k c) S [] → IsNextBefore S k (net_at k c) None None
      → pairs_from false (net_at k c) (routes_of S) ≡ []
  ended S k c a b f g ahead none = let q = net_at k c in
      none_filtered (is_from_bound false q) (routes_of S) (routes-ascend S) (λ p t e. ⊎_elim
      (λ s. absurd (none-before S [] k c p t a b f g ahead none e s tt))
      (⊎_elim (λ s. ap (is_from_bound false q) (sym s) ∙ from_itself false q) (λ s. from_before false q p s))
      (compare q p))

  later : (k : List ℕ) (e : List ℕ × List (List ℕ × T)) (es : List (List ℕ × List (List ℕ × T))) → (e.0 ≡ k → ⊥)
      → lookup k (e ∷ es) ≡ lookup k es
  later k e es n = rw (bytes_eq-differ e.0 k n) refl

  -- keys that consist of bytes, and whose bits come after q
  AreAfter : List ℕ → List (List ℕ × List (List ℕ × T)) → Type 0
  AreAfter q [] = Unit {0}
  AreAfter q (e ∷ es) = AreBytes e.0 × IsLess q (bits_of e.0) × AreAfter q es

  after-key : (k q : List ℕ) (es : List (List ℕ × List (List ℕ × T))) → AreBytes k → AreAbove k es → AreAfter q es
      → AreAfter (bits_of k) es
  unfolding AreAfter
  after-key k q [] f a b = tt
  after-key k q (e ∷ es) f a b = (b.0, bytes-order k e.0 f b.0 ∙ a.0, after-key k q es f a.1 b.2)

  stored-bytes : (S : List (List ℕ × List (List ℕ × T))) (p : List ℕ) → AreStrides S → lookup p S ≢ None → AreBytes p
  stored-bytes [] p b n = absurd (n refl)
  stored-bytes (e ∷ S) p b n = ⊎_elim
      (λ m. subst AreBytes m b.0)
      (λ m. stored-bytes S p b.4 (λ h. n (later p e S m ∙ h)))
      (same_or_not e.0 p)

  -- keys in order, all of those whose bits come after q
  in-order : (S es : List (List ℕ × List (List ℕ × T))) (q : List ℕ) → AreStrides S → IsAscending es → AreAfter q es
      → ((p : List ℕ) → lookup p S ≢ None → IsLess q (bits_of p) → lookup p es ≢ None) → AreAhead q S (keys_of es)
  unfolding AreAfter
  in-order S [] q b a f all = λ p s l. all p s l refl
  in-order S (e ∷ es) q b a f all = (
    f.1,
    λ p s l m. all p s l (lookup-above p (e ∷ es)
        (let less = sym (bytes-order p e.0 (stored-bytes S p b s) f.0) ∙ m in
        (less, above-trans p e.0 es less a.0))),
    in-order S es (bits_of e.0) b a.1 (after-key e.0 q es f.0 a.0 f.2) (λ p s l n.
        all p s (below-trans q (bits_of e.0) (bits_of p) f.1 l)
        (later p e es (λ m. not-less_itself (bits_of p) (subst (λ z. IsLess (bits_of z) (bits_of p)) m l)) ∙ n)),
  )

  after-start : (f : List ℕ → Bool) (q : List ℕ) (S : List (List ℕ × List (List ℕ × T))) → AreStrides S
      → ((p : List ℕ) → AreBytes p → f p ≡ true → IsLess q (bits_of p)) → AreAfter q (filter (λ e. f e.0) S)
  unfolding AreAfter
  after-start f q [] b h = tt
  after-start f q (e ∷ S) b h = elim (f e.0) as (λ z. f e.0 ≡ z
      → AreAfter q (if z then e ∷ filter (λ x. f x.0) S else filter (λ x. f x.0) S)) [
        | true ↦ λ s. (b.0, h e.0 b.0 s, after-start f q S b.4 h)
        | false ↦ λ s. after-start f q S b.4 h
      ] refl

  -- the keys within a start are those ahead
  pub started_ahead : (S : List (List ℕ × List (List ℕ × T))) (q : List ℕ) (start : Bound (List ℕ)) → IsAscending S
      → AreStrides S → IsStart q start → AreAhead q S (keys_of (between start Unbounded S))
  started_ahead S q start a b h = let f = λ (p : List ℕ). is_from start p && true in
      in-order S (filter (λ e. f e.0) S) q b (ascending_filter f S a)
      (after-start f q S b (λ p g s. (h p g).0 (and-true (is_from start p) s)))
      (λ p s l n. s (let t : f p ≡ true = true-and (is_from start p)
      ((h p (stored-bytes S p b s)).1 l) in
      rw t at (sym (lookup_filter f p S) ∙ n)))

  -- a walk from the network of the first n bits of some octets
  pub walk_started : (S : List (List ℕ × List (List ℕ × T))) (o key : List ℕ) (n x c : ℕ) (start : Bound (List ℕ))
      (L : List (List ℕ × List (List ℕ × T))) (ks : List (List ℕ)) → IsAscending S → AreStrides S → AreBytes o
      → n ≤ 8 * length o → key ≡ take (n / 8) o → x ≡ slice_index o (n / 8) → c ≡ code x (n % 8)
      → IsStart (network o n) start → L ≡ between start Unbounded S → ks ≡ keys_of L
      → IsCode (c ∷ []) × (net_at key c ≡ network o n) × AreAhead (net_at key c) S ks
  walk_started S o key n x c start L ks a b f h ek ex ec s el es =
      let y = slice_index o (n / 8) in
      let byte : x < 256 = subst (λ z. z < 256) (sym ex) (f (n / 8)) in
      let same : net_at key c ≡ network o n = ap (λ z. net_at z c) ek
      ∙ ap (net_at (take (n / 8) o)) (ec ∙ ap (λ z. code z (n % 8)) ex) ∙ sym (network-coded o n f h) in (
        subst (λ z. IsCode (z ∷ [])) (sym ec) (code-in_range x (n % 8) byte (omega arith)),
        same,
        subst (λ z. AreAhead z S ks) (sym same) (subst (λ z. AreAhead (network o n) S z) (sym (es ∙ ap keys_of el))
            (started_ahead S (network o n) start a b s)),
      )

  pub some_routes : (S : List (List ℕ × List (List ℕ × T))) → AreStrides S → (S ≡ [] → ⊥) → routes_of S ≡ [] → ⊥
  some_routes [] b n e = n refl
  some_routes ((o, []) ∷ S) b n e = b.1 refl
  some_routes ((o, x ∷ s) ∷ S) b n e = put-some (coded_network o x.0) x.1 (with_stride o s (routes_of S)) e

first_ahead : {K S : Type 0} (bytes : K → List ℕ) (ahead : Option K) (rest : List (List ℕ × S))
    → option_map bytes ahead ≡ first_of (keys_ahead bytes ahead rest)
first_ahead bytes None rest = refl
first_ahead bytes (Some key) rest = refl

module _ {K T : Type 0} (bytes : K → List ℕ) (S : List (List ℕ × List (List ℕ × T))) (a : IsAscending S)
    (b : AreStrides S) where
  -- the next route, by what was found
  pub walk_next : (ahead : Option K) (rest : List (List ℕ × List (List ℕ × T))) (k o m : List ℕ) (c at d : ℕ) (t : T)
      → AreBytes k → IsCode (c ∷ []) → AreAhead (net_at k c) S (keys_ahead bytes ahead rest) → o ≡ k → m ≡ take at k
      → IsNextBefore S o (net_at o c) (option_map bytes ahead) (Some (at, d, t))
      → IsCode (d ∷ [])
      × (pairs_from false (net_at k c) (routes_of S) ≡ (net_at m d, t) ∷ pairs_from false (net_at m d) (routes_of S))
      × AreAhead (net_at m d) S (keys_ahead bytes ahead rest)
  walk_next ahead rest k o m c at d t f g h e l n =
      let ks = keys_ahead bytes ahead rest in
      let next : IsNextBefore S k (net_at k c) (first_of ks) (Some (at, d, t))
      = subst (λ z. IsNextBefore S k (net_at k c) z (Some (at, d, t))) (first_ahead bytes ahead rest)
      (subst (λ z. IsNextBefore S z (net_at z c) (option_map bytes ahead) (Some (at, d, t))) e n) in (
        next.1,
        next_route S ks k c at d t a b f g h next
            ∙ ap (λ z. (net_at z d, t) ∷ pairs_from false (net_at z d) (routes_of S)) (sym l),
        subst (λ z. AreAhead (net_at z d) S ks) (sym l)
            (ahead_later S ks (net_at k c) (net_at (take at k) d) h next.2 next.3),
      )

  pub walk_entered : (ahead : Option K) (key : K) (rest : List (List ℕ × List (List ℕ × T))) (ks : List (List ℕ))
      (k o : List ℕ) (c : ℕ) → AreBytes k → IsCode (c ∷ []) → AreAhead (net_at k c) S (keys_ahead bytes ahead rest)
      → o ≡ k → ahead ≡ Some key → ks ≡ keys_of rest
      → IsNextBefore S o (net_at o c) (option_map bytes ahead) None
      → (pairs_from true (net_at (bytes key) 1) (routes_of S) ≡ pairs_from false (net_at k c) (routes_of S))
      × AreAhead (net_at (bytes key) 1) S ks × (length (keys_ahead bytes ahead rest) ≡ suc (length ks))
  walk_entered ahead key rest ks k o c f g h e s es n =
      let here : AreAhead (net_at k c) S (bytes key ∷ keys_of rest)
      = subst (λ z. AreAhead (net_at k c) S (keys_ahead bytes z rest)) s h in
      let none : IsNextBefore S k (net_at k c) (Some (bytes key)) None
      = subst (λ z. IsNextBefore S k (net_at k c) (option_map bytes z) None) s
      (subst (λ z. IsNextBefore S z (net_at z c) (option_map bytes ahead) None) e n) in
      let t = entered S (keys_of rest) k c (bytes key) a b f g here none in (
        t.0,
        subst (λ z. AreAhead (net_at (bytes key) 1) S z) (sym es) t.1,
        ap (λ z. length (keys_ahead bytes z rest)) s ∙ ap (λ z. suc (length z)) (sym es),
      )

  pub walk_ended : (ahead : Option K) (rest : List (List ℕ × List (List ℕ × T))) (k o : List ℕ) (c : ℕ)
      → AreBytes k → IsCode (c ∷ []) → AreAhead (net_at k c) S (keys_ahead bytes ahead rest) → o ≡ k → ahead ≡ None
      → IsNextBefore S o (net_at o c) (option_map bytes ahead) None
      → pairs_from false (net_at k c) (routes_of S) ≡ []
  walk_ended ahead rest k o c f g h e s n = ended S k c a b f g
      (subst (λ z. AreAhead (net_at k c) S (keys_ahead bytes z rest)) s h)
      (subst (λ z. IsNextBefore S k (net_at k c) (option_map bytes z) None) s
      (subst (λ z. IsNextBefore S z (net_at z c) (option_map bytes ahead) None) e n))
