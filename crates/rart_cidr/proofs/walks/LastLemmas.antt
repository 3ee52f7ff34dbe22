-- A walk to the last route.
use Rattle.std.proofs.Common.{◌≡◌, ℕ, ◌<◌, ◌≤◌, ⊎_elim, length, List, [], ◌∷◌, ◌++◌, false, true, refl, sym, ap}
use Rattle.std.proofs.Common.{subst, ◌∙◌, Option, Some, None}
use Rattle.std.specs.Prelude.{option_map, slice_get, MatchOption}
use Rattle.std.specs.Borrow.{Bor}
use Rattle.rart_keys.specs.Filters.{last_or}
use Rattle.rart_keys.specs.KeyBytes.{AreBytes}
use Rattle.rart_keys.specs.Ranges.{pairs_from}
use Rattle.rart_keys.specs.SortedMap.{IsAscending, lookup}
use Rattle.rart_keys.proofs.maps.SortedMaps.{lookup-above}
use Rattle.rart_keys.proofs.strings.ByteOrder.{bytes_eq-differ, bytes_eq-itself}
use Rattle.rart_cidr.specs.Routes.{AreStrides, IsCode, coded_network, routes_of, stride_or_empty}
use Rattle.rart_cidr.specs.Walks.{AreWithin}
use Rattle.rart_cidr.proofs.routes.RouteLemmas.{lookup-routes, same_or_not}
use Rattle.rart_cidr.proofs.walks.FilterLemmas.{from_stored}
use Rattle.rart_cidr.proofs.walks.JoinSteps.{from-parts}
use Rattle.rart_cidr.proofs.walks.PositionLemmas.{IsSplitAt, after-pair, at-pair, fewer-after, no-pair, routes_at}
use Rattle.rart_cidr.proofs.walks.PositionLemmas.{split-start}

module _ {T : Type 0} where
  -- the walk is at a stored route
  pub record IsAmong (cur : List (List ℕ × T)) (e : List ℕ × T) : Type 0 where
    pub done : List (List ℕ × T)
    pub todo : List (List ℕ × T)
    pub split : IsSplitAt cur (Some e) done todo

  pub among-stored : {e : List ℕ × T} {cur : List (List ℕ × T)} → IsAscending cur → lookup e.0 cur ≡ Some e.1
      → IsAmong cur e
  among-stored {e} {cur} a h = let p = from-parts e.0 cur a in record {
    done = p.0;
    todo = pairs_from true e.0 cur;
    split = record { routes = p.1; first = ap (λ z. slice_get z 0) (sym (from_stored e.0 e.1 cur a h)) };
  }

  module _ {e : List ℕ × T} {cur : List (List ℕ × T)} (a : IsAscending cur) (s : IsAmong cur e) where
    -- the next one
    pub among-next : {d : List ℕ × T} → Some d ≡ slice_get (pairs_from false e.0 cur) 0
        → IsAmong cur d × (length (routes_at (Some d) cur) < length (routes_at (Some e) cur))
    among-next {d} h = let r = at-pair a s.split in let next = after-pair r h in
        (record { done = s.done ++ e ∷ []; todo = r.rest; split = next }, fewer-after a s.split r next)

    last-of : (d : List (List ℕ × T)) (o : Option (List ℕ × T)) → last_or o (d ++ e ∷ []) ≡ Some e
    last-of [] o = refl
    last-of (x ∷ d) o = last-of d (Some x)

    -- the last one
    pub is-last : None ≡ slice_get (pairs_from false e.0 cur) 0 → Some e ≡ last_or None cur
    is-last h = let r = at-pair a s.split in let none = no-pair r.rest (after-pair r h).first in
        sym (ap (last_or None) (r.routes ∙ ap (λ z. s.done ++ e ∷ z) none) ∙ last-of s.done None)

  pub first-stored : {N : Type 0} (bits : N → List ℕ) (cur : List (List ℕ × T)) (o : Option (N × Bor T))
      → IsAscending cur → option_map (λ p. (bits p.0, p.1.now)) o ≡ slice_get cur 0
      → MatchOption o (cur ≡ []) (λ p. lookup (bits p.0) cur ≡ Some p.1.now)
  first-stored bits cur None a h = no-pair cur h
  first-stored bits cur (Some p) a h = (at-pair a (split-start cur (Some (bits p.0, p.1.now)) h)).stored

  -- a stored network is as short as all are
  pub stored-width : (w : ℕ) (n : List ℕ) (t : T) (es : List (List ℕ × T)) → AreWithin w es → lookup n es ≡ Some t
      → length n ≤ w
  stored-width w n t [] a h = absurd (let x = h in cc)
  stored-width w n t (e ∷ es) a h = ⊎_elim
      (λ s. subst (λ z. length z ≤ w) s a.0)
      (λ s. stored-width w n t es a.1 (rw (bytes_eq-differ e.0 n s) at h))
      (same_or_not e.0 n)

  last-stored : (k : List ℕ) (x : T) (es : List (List ℕ × T)) → IsAscending es → Some (k, x) ≡ last_or None es
      → lookup k es ≡ Some x
  last-stored k x [] a h = absurd (let y = h in cc)
  last-stored k x (e ∷ []) a h = let same : (k, x) ≡ e = (let y = h in cc) in
      subst (λ z. lookup k (z ∷ []) ≡ Some x) same (rw (bytes_eq-itself k) refl)
  last-stored k x (e ∷ f ∷ es) a h = let later = last-stored k x (f ∷ es) a.1 h in ⊎_elim
      (λ s. absurd (let none = lookup-above e.0 (f ∷ es) a.0 in let y = ap (λ z. lookup z (f ∷ es)) s in cc))
      (λ s. rw (bytes_eq-differ e.0 k s) later)
      (same_or_not e.0 k)

module _ {T : Type 0} where
  last-bytes : (k : List ℕ) (s : List (List ℕ × T)) (S : List (List ℕ × List (List ℕ × T))) → AreStrides S
      → Some (k, s) ≡ last_or None S → AreBytes k
  last-bytes k s [] f h = absurd (let y = h in cc)
  last-bytes k s (e ∷ []) f h = let same : (k, s) ≡ e = (let y = h in cc) in
      subst (λ z. AreBytes z.0) (sym same) f.0
  last-bytes k s (e ∷ d ∷ S) f h = last-bytes k s (d ∷ S) f.4 h

  -- a target of the last stride is that of a route
  pub in-last : (k : List ℕ) (c : ℕ) (S : List (List ℕ × List (List ℕ × T))) (s : List (List ℕ × T)) (t : T)
      → IsAscending S → AreStrides S → IsCode (c ∷ []) → Some (k, s) ≡ last_or None S → lookup (c ∷ []) s ≡ Some t
      → lookup (coded_network k (c ∷ [])) (routes_of S) ≡ Some t
  in-last k c S s t a f d h n = lookup-routes S k (c ∷ []) a f (last-bytes k s S f h) d
      ∙ ap (λ z. lookup (c ∷ []) (stride_or_empty z)) (last-stored k s S a h) ∙ n
