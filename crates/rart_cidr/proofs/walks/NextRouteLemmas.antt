-- The first route after a network: which key is ahead, and how many are after it.
use Rattle.std.proofs.Common.{◌≡◌, ℕ, ◌<◌, ◌≤◌, ◌&&◌, ⊎_elim, arith, length, drop, List, [], ◌∷◌, true, false, refl}
use Rattle.std.proofs.Common.{sym, ap, subst, ◌∙◌, Option, Some, None, if◌then◌else◌, Bool}
use Rattle.std.specs.Prelude.{◌≢◌, filter, option_map, slice_get}
use Rattle.std.specs.declared.ops.Bound.{Bound}
use Rattle.std.specs.declared.ops.Bound.TheVariants.{Excluded, Unbounded}
use Rattle.rart_keys.specs.ByteStrings.{IsLess}
use Rattle.rart_keys.specs.KeyBytes.{AreBytes}
use Rattle.rart_keys.specs.Ranges.{between, from_bound, is_from, is_from_bound, pairs_from}
use Rattle.rart_keys.specs.SortedMap.{IsAscending, keys_of, lookup}
use Rattle.rart_keys.proofs.strings.ByteOrder.{below-trans}
use Rattle.rart_keys.proofs.maps.LongestMatchLemmas.{other-stored, stored-after}
use Rattle.rart_keys.proofs.maps.SortedMaps.{lookup-first}
use Rattle.rart_cidr.specs.Bits.{bits_of, code_bits}
use Rattle.rart_cidr.specs.Routes.{AreStrides}
use Rattle.rart_cidr.specs.Walks.{AreAhead, IsBefore, IsStart, keys_ahead, net_at}
use Rattle.rart_cidr.proofs.networks.OrderLemmas.{bytes-order}
use Rattle.rart_cidr.proofs.networks.PlaceLemmas.{before_more}
use Rattle.rart_cidr.proofs.routes.RouteLemmas.{same_or_not}
use Rattle.rart_cidr.proofs.walks.AheadLemmas.{started_ahead}
use Rattle.rart_cidr.proofs.walks.FilterLemmas.{from_after, from_is, from_itself}
use Rattle.rart_cidr.proofs.walks.StartLemmas.{start_key}
use Rattle.std.proofs.lemmas.List.{append-nil}

module _ {K S : Type 0} (bytes : K → List ℕ) where
  -- the keys of a list, by its first
  first-keys : (ahead : Option K) (es : List (List ℕ × S))
      → option_map bytes ahead ≡ option_map (λ e. e.0) (slice_get es 0)
      → keys_ahead bytes ahead (drop 1 es) ≡ keys_of es
  first-keys None [] h = refl
  first-keys None (e ∷ es) h = absurd (let x = h in cc)
  first-keys (Some key) [] h = absurd (let x = h in cc)
  first-keys (Some key) (e ∷ es) h = let same : bytes key ≡ e.0 = (let x = h in cc) in ap (λ z. z ∷ keys_of es) same

  pub first-stored : (ahead : Option K) (key : K) (f : List ℕ → Bool) (es : List (List ℕ × S)) → ahead ≡ Some key
      → option_map bytes ahead ≡ option_map (λ e. e.0) (slice_get (filter (λ e. f e.0) es) 0)
      → lookup (bytes key) es ≢ None
  first-stored ahead key f [] e h = absurd (let x = ap (option_map bytes) (sym e) ∙ h in cc)
  first-stored ahead key f (x ∷ es) e h = elim (f x.0) as (λ b. option_map bytes ahead ≡ option_map (λ e. e.0)
      (slice_get (if b then x ∷ filter (λ e. f e.0) es else filter (λ e. f e.0) es) 0)
      → lookup (bytes key) (x ∷ es) ≢ None) [
        | true ↦ λ g. let same : bytes key ≡ x.0 = (let y = ap (option_map bytes) (sym e) ∙ g in cc) in
            subst (λ z. lookup z (x ∷ es) ≢ None) (sym same) (λ n. let s = lookup-first x.0 x.1 es in cc)
        | false ↦ λ g. stored-after (bytes key) x es (first-stored ahead key f es e g)
      ] h

module _ {S : Type 0} where
  all-or-from : (a : Bound (List ℕ)) (es : List (List ℕ × S)) → between a Unbounded es ≡ from_bound a es
  all-or-from a [] = refl
  all-or-from a (e ∷ es) = elim (is_from a e.0) as (λ b. (if b && true then e ∷ between a Unbounded es
      else between a Unbounded es) ≡ (if b then e ∷ from_bound a es else from_bound a es)) [
        | true ↦ ap (λ z. e ∷ z) (all-or-from a es)
        | false ↦ all-or-from a es
      ]

  no-more : (k m : List ℕ) (es : List (List ℕ × S)) → IsLess k m
      → length (pairs_from false m es) ≤ length (pairs_from false k es)
  no-more k m [] l = omega arith
  no-more k m (e ∷ es) l = let more = no-more k m es l in elim (is_from_bound false m e.0)
      as (λ b. is_from_bound false m e.0 ≡ b → length (if b then e ∷ pairs_from false m es else pairs_from false m es)
      ≤ length (pairs_from false k (e ∷ es))) [
        | true ↦ λ s. ⊎_elim
            (λ g. rw (from_after false k e.0 (below-trans k m e.0 l g)) (omega (arith, more)))
            (λ g. absurd (let x = g.1 in cc))
            (from_is false m e.0 s)
        | false ↦ λ s. elim (is_from_bound false k e.0) as (λ b. length (pairs_from false m es)
            ≤ length (if b then e ∷ pairs_from false k es else pairs_from false k es)) [
              | true ↦ omega (arith, more)
              | false ↦ more
            ]
      ] refl

  -- fewer are after a stored key than after one before it
  pub fewer-after : (k m : List ℕ) (es : List (List ℕ × S)) → IsLess k m → lookup m es ≢ None
      → length (pairs_from false m es) < length (pairs_from false k es)
  fewer-after k m [] l s = absurd (s refl)
  fewer-after k m (e ∷ es) l s = ⊎_elim
      (λ g. let more = no-more k m es l in
      let one : is_from_bound false m e.0 ≡ false = ap (is_from_bound false m) g ∙ from_itself false m in
      let two : is_from_bound false k e.0 ≡ true = from_after false k e.0 (subst (IsLess k) (sym g) l) in
      rw (one, two) (omega (arith, more)))
      (λ g. let more = fewer-after k m es l (other-stored m e es s g) in elim (is_from_bound false m e.0)
      as (λ b. is_from_bound false m e.0 ≡ b → length (if b then e ∷ pairs_from false m es else pairs_from false m es)
      < length (pairs_from false k (e ∷ es))) [
        | true ↦ λ t. ⊎_elim
            (λ g. rw (from_after false k e.0 (below-trans k m e.0 l g)) (omega (arith, more)))
            (λ g. absurd (let x = g.1 in cc))
            (from_is false m e.0 t)
        | false ↦ λ t. elim (is_from_bound false k e.0) as (λ b. length (pairs_from false m es)
            < length (if b then e ∷ pairs_from false k es else pairs_from false k es)) [
              | true ↦ omega (arith, more)
              | false ↦ more
            ]
      ] refl)
      (same_or_not e.0 m)

module _ {K T : Type 0} (bytes : K → List ℕ) (S : List (List ℕ × List (List ℕ × T))) (a : IsAscending S)
    (b : AreStrides S) where
  -- the first key within a start is the first ahead
  pub ahead-first : (q : List ℕ) (start : Bound (List ℕ)) (ahead : Option K) → IsStart q start
      → option_map bytes ahead ≡ option_map (λ e. e.0) (slice_get (from_bound start S) 0)
      → AreAhead q S (keys_ahead bytes ahead (drop 1 (from_bound start S)))
  ahead-first q start ahead s h = subst (AreAhead q S)
      (ap keys_of (all-or-from start S) ∙ sym (first-keys bytes ahead (from_bound start S) h))
      (started_ahead S q start a b s)

  -- the first key after m is the first ahead of the first network of m
  pub ahead-after : (m : List ℕ) (ahead : Option K) → AreBytes m
      → option_map bytes ahead ≡ option_map (λ e. e.0) (slice_get (pairs_from false m S) 0)
      → AreAhead (net_at m 1) S (keys_ahead bytes ahead (drop 1 (pairs_from false m S)))
  ahead-after m ahead f h = ahead-first (net_at m 1) (Excluded m) ahead
      (subst (λ z. IsStart z (Excluded m)) (sym (append-nil (bits_of m))) (start_key m f)) h

  -- the key ahead is greater
  pub ahead-greater : (k : List ℕ) (c : ℕ) (ahead : Option K) (key : K) (rest : List (List ℕ × List (List ℕ × T)))
      → AreBytes k → AreBytes (bytes key) → AreAhead (net_at k c) S (keys_ahead bytes ahead rest) → ahead ≡ Some key
      → IsLess k (bytes key)
  ahead-greater k c ahead key rest f g h e =
      let here : AreAhead (net_at k c) S (bytes key ∷ keys_of rest)
      = subst (λ z. AreAhead (net_at k c) S (keys_ahead bytes z rest)) e h in
      sym (bytes-order k (bytes key) f g) ∙ before_more (bits_of k) (code_bits c) (bits_of (bytes key)) here.0

  -- the network comes before the key ahead
  pub before-ahead : (ahead : Option K) (rest : List (List ℕ × List (List ℕ × T))) (k o : List ℕ) (c : ℕ)
      → AreAhead (net_at k c) S (keys_ahead bytes ahead rest) → o ≡ k → IsBefore (net_at o c) (option_map bytes ahead)
  before-ahead None rest k o c h e = tt
  before-ahead (Some key) rest k o c h e = subst (λ z. IsBefore (net_at z c) (Some (bytes key))) (sym e) h.0
