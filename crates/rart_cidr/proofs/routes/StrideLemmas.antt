-- Edits of one stride, and what they leave of the routes.
use Rattle.std.proofs.Common.{◌≡◌, ℕ, ◌+◌, ◌*◌, ◌/◌, ◌%◌, ◌<◌, ◌≤◌, ◌&&◌, ⊎_elim, length, take, arith, List, [], ◌∷◌}
use Rattle.std.proofs.Common.{Bool, true, false, not, refl, sym, ap, ◌∙◌, Some, None, if◌then◌else◌}
use Rattle.std.specs.Prelude.{◌≢◌, slice_index}
use Rattle.std.specs.Ordering.{nat_cmp, match_ordering}
use Rattle.std.specs.Cmp.Lexicographic.{slice_cmp}
use Rattle.std.specs.declared.cmp.Ordering.TheVariants.{Less, Equal, Greater}
use Rattle.rart_keys.specs.ByteStrings.{bytes_eq}
use Rattle.rart_keys.specs.KeyBytes.{AreBytes, AreBytes-take}
use Rattle.rart_keys.specs.SortedMap.{IsAscending, count_of, keys_of, lookup, put, without}
use Rattle.rart_keys.proofs.maps.SortedMaps.{ascending-put, ascending-without, equal_by_lookups, length-put}
use Rattle.rart_keys.proofs.maps.SortedMaps.{lookup-above}
use Rattle.rart_keys.proofs.maps.SortedMaps.{lookup-put_at, lookup-put_elsewhere, lookup-without_at}
use Rattle.rart_keys.proofs.maps.SortedMaps.{lookup-without_elsewhere}
use Rattle.rart_cidr.specs.Bits.{code, network}
use Rattle.rart_cidr.specs.Routes.{AreCodes, AreStrides, IsCode, coded_network, routes_of, set_stride, stride_at}
use Rattle.rart_cidr.specs.Routes.{stride_or_empty, target_at, with_stride}
use Rattle.rart_cidr.proofs.networks.BitLemmas.{code-in_range, network-coded}
use Rattle.rart_cidr.proofs.routes.RouteLemmas.{lookup-routes, put-some, routes-ascend, routes-put, routes-without}
use Rattle.rart_cidr.proofs.routes.RouteLemmas.{same_or_not, with-ascends, with-here}

not-empty : {A : Type 0} (s : List A) → s ≢ [] → 0 < length s
not-empty [] n = absurd (n refl)
not-empty (e ∷ s) n = omega arith

module _ {T : Type 0} where
  codes-put : (k : List ℕ) (t : T) (s : List (List ℕ × T)) → IsCode k → AreCodes s → AreCodes (put k t s)
  codes-put k t [] c a = (c, tt)
  codes-put k t (e ∷ s) c a = elim (slice_cmp nat_cmp k e.0)
      as (λ z. AreCodes (match_ordering z ((k, t) ∷ e ∷ s) ((k, t) ∷ s) (e ∷ put k t s))) [
        | Less ↦ (c, a)
        | Equal ↦ (c, a.1)
        | Greater ↦ (a.0, codes-put k t s c a.1)
      ]

  codes-without : (k : List ℕ) (s : List (List ℕ × T)) → AreCodes s → AreCodes (without k s)
  codes-without k [] a = tt
  codes-without k (e ∷ s) a = elim (bytes_eq e.0 k)
      as (λ b. AreCodes (if not b then e ∷ without k s else without k s)) [
        | true ↦ codes-without k s a.1
        | false ↦ (a.0, codes-without k s a.1)
      ]

  pub without-absent : (k : List ℕ) (s : List (List ℕ × T)) → IsAscending s → lookup k s ≡ None → without k s ≡ s
  without-absent k s a n = equal_by_lookups (without k s) s (ascending-without k s a) a (λ q. ⊎_elim
      (λ m. ap (λ z. lookup z (without k s)) m ∙ lookup-without_at k s ∙ sym n ∙ ap (λ z. lookup z s) (sym m))
      (λ m. lookup-without_elsewhere q k s m)
      (same_or_not q k))

  -- what holds of the stride at any bytes
  stride-facts : (S : List (List ℕ × List (List ℕ × T))) (o : List ℕ) → AreStrides S → AreCodes (stride_at o S)
      × IsAscending (stride_at o S)
  stride-facts [] o b = (tt, tt)
  stride-facts (e ∷ S) o b = elim (bytes_eq e.0 o)
      as (λ z. AreCodes (stride_or_empty (if z then Some e.1 else lookup o S))
      × IsAscending (stride_or_empty (if z then Some e.1 else lookup o S))) [
        | true ↦ (b.2, b.3)
        | false ↦ stride-facts S o b.4
      ]

  strides-without : (S : List (List ℕ × List (List ℕ × T))) (o : List ℕ) → AreStrides S → AreStrides (without o S)
  strides-without [] o b = tt
  strides-without (e ∷ S) o b = elim (bytes_eq e.0 o)
      as (λ z. AreStrides (if not z then e ∷ without o S else without o S)) [
        | true ↦ strides-without S o b.4
        | false ↦ (b.0, b.1, b.2, b.3, strides-without S o b.4)
      ]

  strides-put : (S : List (List ℕ × List (List ℕ × T))) (o : List ℕ) (s : List (List ℕ × T)) → AreStrides S → AreBytes o
      → s ≢ [] → AreCodes s → IsAscending s → AreStrides (put o s S)
  strides-put [] o s b f n c a = (f, n, c, a, tt)
  strides-put (e ∷ S) o s b f n c a = elim (slice_cmp nat_cmp o e.0)
      as (λ z. AreStrides (match_ordering z ((o, s) ∷ e ∷ S) ((o, s) ∷ S) (e ∷ put o s S))) [
        | Less ↦ (f, n, c, a, b)
        | Equal ↦ (f, n, c, a, b.4)
        | Greater ↦ (b.0, b.1, b.2, b.3, strides-put S o s b.4 f n c a)
      ]

  -- the strides with another one at o
  set-ascends : (S : List (List ℕ × List (List ℕ × T))) (o : List ℕ) (s : List (List ℕ × T)) → IsAscending S
      → IsAscending (set_stride o s S)
  set-ascends S o [] a = ascending-without o S a
  set-ascends S o (e ∷ s) a = ascending-put o (e ∷ s) S a

  set-strides : (S : List (List ℕ × List (List ℕ × T))) (o : List ℕ) (s : List (List ℕ × T)) → AreStrides S → AreBytes o
      → AreCodes s → IsAscending s → AreStrides (set_stride o s S)
  set-strides S o [] b f c a = strides-without S o b
  set-strides S o (e ∷ s) b f c a = strides-put S o (e ∷ s) b f (λ z. cc) c a

  set-here : (S : List (List ℕ × List (List ℕ × T))) (o : List ℕ) (s : List (List ℕ × T))
      → stride_at o (set_stride o s S) ≡ s
  set-here S o [] = ap stride_or_empty (lookup-without_at o S)
  set-here S o (e ∷ s) = ap stride_or_empty (lookup-put_at o (e ∷ s) S)

  set-elsewhere : (S : List (List ℕ × List (List ℕ × T))) (o p : List ℕ) (s : List (List ℕ × T)) → (p ≡ o → ⊥)
      → stride_at p (set_stride o s S) ≡ stride_at p S
  set-elsewhere S o p [] n = ap stride_or_empty (lookup-without_elsewhere p o S n)
  set-elsewhere S o p (e ∷ s) n = ap stride_or_empty (lookup-put_elsewhere p o (e ∷ s) S n)

  pub set-put : (S : List (List ℕ × List (List ℕ × T))) (o k : List ℕ) (t : T) (s : List (List ℕ × T))
      → set_stride o (put k t s) S ≡ put o (put k t s) S
  set-put S o k t s = elim (put k t s) as (λ z. put k t s ≡ z → set_stride o z S ≡ put o z S) [
    | [] ↦ λ e. absurd (put-some k t s e)
    | f ∷ l ↦ λ e. refl
  ] refl

  -- the routes after an edit of one stride
  pub put-target : (S : List (List ℕ × List (List ℕ × T))) (o k : List ℕ) (t : T) → IsAscending S → AreStrides S
      → AreBytes o → IsCode k →
      AreStrides (set_stride o (put k t (stride_at o S)) S)
      × (routes_of (set_stride o (put k t (stride_at o S)) S) ≡ put (coded_network o k) t (routes_of S))
  put-target S o k t a b f c = let facts = stride-facts S o b in
      let after = put k t (stride_at o S) in
      let strides = set-strides S o (put k t (stride_at o S)) b f (codes-put k t (stride_at o S) c facts.0)
      (ascending-put k t (stride_at o S) facts.1) in (
        strides,
        routes-put S (set_stride o (put k t (stride_at o S)) S) o k t a (set-ascends S o (put k t (stride_at o S)) a) b
            strides f c
            (λ p n. set-elsewhere S o p (put k t (stride_at o S)) n) (set-here S o (put k t (stride_at o S))),
      )

  pub take-target : (S : List (List ℕ × List (List ℕ × T))) (o k : List ℕ) → IsAscending S → AreStrides S → AreBytes o
      → IsCode k →
      AreStrides (set_stride o (without k (stride_at o S)) S)
      × (routes_of (set_stride o (without k (stride_at o S)) S) ≡ without (coded_network o k) (routes_of S))
  take-target S o k a b f c = let facts = stride-facts S o b in
      let strides = set-strides S o (without k (stride_at o S)) b f (codes-without k (stride_at o S) facts.0)
      (ascending-without k (stride_at o S) facts.1) in (
        strides,
        routes-without S (set_stride o (without k (stride_at o S)) S) o k a
            (set-ascends S o (without k (stride_at o S)) a) b strides f c
            (λ p n. set-elsewhere S o p (without k (stride_at o S)) n) (set-here S o (without k (stride_at o S))),
      )

  -- no stride has more targets than there are routes, and there are no more strides
  with-length : (o : List ℕ) (s r : List (List ℕ × T)) → AreBytes o → AreCodes s → IsAscending s → IsAscending r
      → ((k : List ℕ) → IsCode k → lookup (coded_network o k) r ≡ None)
      → length (with_stride o s r) ≡ length s + length r
  with-length o [] r f c a b n = omega arith
  with-length o (e ∷ s) r f c a b n =
      let none : lookup (coded_network o e.0) (with_stride o s r) ≡ None = with-here o e.0 s r f c.1 c.0 (n e.0 c.0)
      ∙ lookup-above e.0 s a.0 in
      let more = length-put (coded_network o e.0) e.1 (with_stride o s r) (with-ascends o s r b) in
      let rest = with-length o s r f c.1 a.1 b n in
      omega (arith, more, rest, ap count_of none)

  none-beside : (e : List ℕ × List (List ℕ × T)) (S : List (List ℕ × List (List ℕ × T))) → IsAscending (e ∷ S)
      → AreStrides (e ∷ S) → (k : List ℕ) → IsCode k → lookup (coded_network e.0 k) (routes_of S) ≡ None
  none-beside e S a b k c = lookup-routes S e.0 k a.1 b.4 b.0 c
      ∙ ap (λ z. lookup k (stride_or_empty z)) (lookup-above e.0 S a.0)

  pub few-strides : (S : List (List ℕ × List (List ℕ × T))) → IsAscending S → AreStrides S
      → length S ≤ length (routes_of S)
  few-strides [] a b = omega arith
  few-strides (e ∷ S) a b =
      let all = with-length e.0 e.1 (routes_of S) b.0 b.2 b.3 (routes-ascend S) (none-beside e S a b) in
      let rest = few-strides S a.1 b.4 in
      let some : 0 < length e.1 = not-empty e.1 b.1 in omega (arith, all, rest, some)

  pub few-targets : (S : List (List ℕ × List (List ℕ × T))) (o : List ℕ) → IsAscending S → AreStrides S
      → length (stride_at o S) ≤ length (routes_of S)
  few-targets [] o a b = omega arith
  few-targets (e ∷ S) o a b =
      let all = with-length e.0 e.1 (routes_of S) b.0 b.2 b.3 (routes-ascend S) (none-beside e S a b) in
      let rest = few-targets S o a.1 b.4 in
      elim (bytes_eq e.0 o) as (λ z. length (stride_or_empty (if z then Some e.1 else lookup o S))
      ≤ length (with_stride e.0 e.1 (routes_of S))) [
        | true ↦ omega (arith, all)
        | false ↦ omega (arith, all, rest)
      ]

  -- a look-up of a network is one in a stride
  pub lookup-network : (S : List (List ℕ × List (List ℕ × T))) (o : List ℕ) (n : ℕ) → IsAscending S → AreStrides S
      → AreBytes o → n ≤ 8 * length o → lookup (network o n) (routes_of S) ≡ target_at S o n
  lookup-network S o n a b f h = ap (λ z. lookup z (routes_of S)) (network-coded o n f h) ∙
      lookup-routes S (take (n / 8) o) (code (slice_index o (n / 8)) (n % 8) ∷ []) a b (AreBytes-take (n / 8) o f)
      (code-in_range (slice_index o (n / 8)) (n % 8) (f (n / 8)) (omega arith))
