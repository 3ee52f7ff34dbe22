-- A walk over the routes: those before the network that it is at, and those from it on.
use Rattle.std.proofs.Common.{◌≡◌, ℕ, ◌<◌, arith, length, List, [], ◌∷◌, ◌++◌, false, true, refl, sym, ap, subst, ◌∙◌}
use Rattle.std.proofs.Common.{Option, Some, None}
use Rattle.std.specs.Borrow.{Bor}
use Rattle.std.specs.Prelude.{option_map, slice_get}
use Rattle.std.proofs.lemmas.List.{append-nil, append_assoc}
use Rattle.rart_keys.specs.Ranges.{pairs_from}
use Rattle.rart_keys.specs.SortedMap.{IsAscending, lookup, put}
use Rattle.rart_keys.proofs.strings.ByteOrder.{below-greater, cmp-itself}
use Rattle.rart_cidr.specs.tables.TwoTables.{routes_from}
use Rattle.rart_cidr.proofs.routes.RemovalLemmas.{first_key, no-first}
use Rattle.rart_cidr.proofs.routes.SplitLemmas.{above-last, split-after, split-from, split-lookup}

module _ {T : Type 0} where
  -- some routes are before the network, which is the first of the others
  pub record IsSplit (cur : List (List ℕ × T)) (at : Option (List ℕ)) (done todo : List (List ℕ × T)) : Type 0 where
    pub routes : cur ≡ done ++ todo
    pub first : at ≡ first_key todo

  -- the walk is at n: its target, and the routes after it
  pub record IsAtRoute (cur : List (List ℕ × T)) (n : List ℕ) (done todo : List (List ℕ × T)) : Type 0 where
    pub target : T
    pub rest : List (List ℕ × T)
    pub here : todo ≡ (n, target) ∷ rest
    pub routes : cur ≡ done ++ (n, target) ∷ rest
    pub ascends : IsAscending (done ++ (n, target) ∷ rest)
    pub stored : lookup n cur ≡ Some target

  pub first-is : (n : List ℕ) (es : List (List ℕ × T)) → Some n ≡ first_key es
      → (t : T) × (rest : List (List ℕ × T)) × (es ≡ (n, t) ∷ rest)
  first-is n [] h = absurd (let x = h in cc)
  first-is n (e ∷ es) h = let same : n ≡ e.0 = (let x = h in cc) in
      (e.1, es, ap (λ z. (z, e.1) ∷ es) (sym same))

  pub at-end : (cur done todo : List (List ℕ × T)) → IsSplit cur None done todo → (todo ≡ []) × (cur ≡ done)
  at-end cur done todo s = let none = no-first todo s.first in
      (none, s.routes ∙ ap (λ z. done ++ z) none ∙ append-nil done)

  pub at-route : (n : List ℕ) (cur done todo : List (List ℕ × T)) → IsAscending cur → IsSplit cur (Some n) done todo
      → IsAtRoute cur n done todo
  at-route n cur done todo a s = let f = first-is n todo s.first in
      let here : cur ≡ done ++ (n, f.0) ∷ f.1 = s.routes ∙ ap (λ z. done ++ z) f.2 in
      let up : IsAscending (done ++ (n, f.0) ∷ f.1) = subst IsAscending here a in record {
        target = f.0;
        rest = f.1;
        here = f.2;
        routes = here;
        ascends = up;
        stored = ap (lookup n) here ∙ split-lookup n f.0 done f.1 up;
      }

  pub todo-is : (cur done todo : List (List ℕ × T)) (at : Option (List ℕ)) → IsAscending cur → IsSplit cur at done todo
      → routes_from at cur ≡ todo
  todo-is cur done todo None a s = sym (at-end cur done todo s).0
  todo-is cur done todo (Some n) a s = let r = at-route n cur done todo a s in
      ap (pairs_from true n) r.routes ∙ split-from n r.target done r.rest r.ascends ∙ sym r.here

  module _ (n : List ℕ) (cur done todo : List (List ℕ × T)) (at : Option (List ℕ)) (r : IsAtRoute cur n done todo)
      (e : at ≡ first_key (pairs_from false n cur)) where
    -- the walk goes to the next route
    pub next-first : at ≡ first_key r.rest
    next-first = e ∙ ap (λ z. first_key (pairs_from false n z)) r.routes
        ∙ ap first_key (split-after n r.target done r.rest r.ascends)

  -- fewer routes are left
  pub fewer-left : (n : List ℕ) (cur new done kept todo : List (List ℕ × T)) (at : Option (List ℕ)) → IsAscending cur
      → IsAscending new → IsSplit cur (Some n) done todo → (r : IsAtRoute cur n done todo) → IsSplit new at kept r.rest
      → length (routes_from at new) < length (routes_from (Some n) cur)
  fewer-left n cur new done kept todo at a b s r t = let one = ap length (todo-is new kept r.rest at b t) in
      let two = ap length (todo-is cur done todo (Some n) a s ∙ r.here) in omega (arith, one, two)

  -- the table with another target of the route
  pub split-put : (n : List ℕ) (t w : T) (done rest : List (List ℕ × T)) → IsAscending (done ++ (n, t) ∷ rest)
      → put n w (done ++ (n, t) ∷ rest) ≡ done ++ (n, w) ∷ rest
  split-put n t w [] rest a = rw (cmp-itself n) refl
  split-put n t w (e ∷ done) rest a = rw (below-greater e.0 n (above-last e.0 n t done rest a.0))
      (ap (λ z. e ∷ z) (split-put n t w done rest a.1))

  -- a route as contracts see it, if there is one
  abbrev pub at_route : {N : Type 0} → (N → List ℕ) → Option (N × Bor T) → Option (List ℕ × T)
  at_route bits = option_map (λ p. (bits p.0, p.1.now))

  -- some routes are before the one that the walk is at, which is the first of the others
  pub record IsSplitAt (cur : List (List ℕ × T)) (at : Option (List ℕ × T)) (done todo : List (List ℕ × T)) : Type 0
    where
      pub routes : cur ≡ done ++ todo
      pub first : at ≡ slice_get todo 0

  -- the walk is at the route e: the routes after it
  pub record IsAtPair (cur : List (List ℕ × T)) (e : List ℕ × T) (done todo : List (List ℕ × T)) : Type 0 where
    pub rest : List (List ℕ × T)
    pub here : todo ≡ e ∷ rest
    pub routes : cur ≡ done ++ e ∷ rest
    pub ascends : IsAscending (done ++ e ∷ rest)
    pub stored : lookup e.0 cur ≡ Some e.1

  -- the routes from one on, or none
  abbrev pub routes_at : Option (List ℕ × T) → List (List ℕ × T) → List (List ℕ × T)
  routes_at at cur = routes_from (option_map (λ e. e.0) at) cur

  pub split-start : (cur : List (List ℕ × T)) (at : Option (List ℕ × T)) → at ≡ slice_get cur 0
      → IsSplitAt cur at [] cur
  split-start cur at h = record { routes = refl; first = h }

  pub no-pair : (es : List (List ℕ × T)) → None ≡ slice_get es 0 → es ≡ []
  no-pair es h = no-first es (ap (option_map (λ e. e.0)) h)

  first-pair : {e : List ℕ × T} (es : List (List ℕ × T)) → Some e ≡ slice_get es 0
      → (rest : List (List ℕ × T)) × (es ≡ e ∷ rest)
  first-pair [] h = absurd (let x = h in cc)
  first-pair {e} (d ∷ es) h = let same : e ≡ d = (let x = h in cc) in (es, ap (λ z. z ∷ es) (sym same))

  pub at-pair : {cur done todo : List (List ℕ × T)} {e : List ℕ × T} → IsAscending cur
      → IsSplitAt cur (Some e) done todo → IsAtPair cur e done todo
  at-pair {cur} {done} {todo} {e} a s = let f = first-pair todo s.first in
      let here : cur ≡ done ++ e ∷ f.0 = s.routes ∙ ap (λ z. done ++ z) f.1 in
      let up : IsAscending (done ++ e ∷ f.0) = subst IsAscending here a in record {
        rest = f.0;
        here = f.1;
        routes = here;
        ascends = up;
        stored = ap (lookup e.0) here ∙ split-lookup e.0 e.1 done f.0 up;
      }

  -- the walk goes to the next route
  pub after-pair : {cur done todo : List (List ℕ × T)} {e : List ℕ × T} {at : Option (List ℕ × T)}
      → (r : IsAtPair cur e done todo) → at ≡ slice_get (pairs_from false e.0 cur) 0
      → IsSplitAt cur at (done ++ e ∷ []) r.rest
  after-pair {cur} {done} {todo} {e} {at} r h = record {
    routes = r.routes ∙ sym (append_assoc done (e ∷ []) r.rest);
    first = h ∙ ap (λ z. slice_get (pairs_from false e.0 z) 0) r.routes
        ∙ ap (λ z. slice_get z 0) (split-after e.0 e.1 done r.rest r.ascends);
  }

  pub ascends-last : (done todo : List (List ℕ × T)) → IsAscending (done ++ todo) → IsAscending todo
  ascends-last [] todo a = a
  ascends-last (e ∷ done) todo a = ascends-last done todo a.1

  pub routes-left : {cur done todo : List (List ℕ × T)} {at : Option (List ℕ × T)} → IsAscending cur
      → IsSplitAt cur at done todo → routes_at at cur ≡ todo
  routes-left {cur} {done} {todo} {at} a s = todo-is cur done todo (option_map (λ e. e.0) at) a
      (record { routes = s.routes; first = ap (option_map (λ e. e.0)) s.first })

  -- fewer routes are left
  pub fewer-after : {cur done todo kept : List (List ℕ × T)} {e : List ℕ × T} {at : Option (List ℕ × T)}
      → IsAscending cur → IsSplitAt cur (Some e) done todo → (r : IsAtPair cur e done todo)
      → IsSplitAt cur at kept r.rest → length (routes_at at cur) < length (routes_at (Some e) cur)
  fewer-after a s r t = let one = ap length (routes-left a t) in let two = ap length (routes-left a s ∙ r.here) in
      omega (arith, one, two)
