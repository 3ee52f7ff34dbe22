-- A walk that calls a callback with each route: those that it was called with are changed, or gone.
use Rattle.std.proofs.Common.{◌≡◌, ℕ, ◌<◌, length, Bool, List, [], ◌∷◌, ◌++◌, true, false, refl, sym, ap, subst, ◌∙◌}
use Rattle.std.proofs.Common.{Option, Some, None}
use Rattle.std.proofs.lemmas.List.{append-nil, append_assoc}
use Rattle.std.specs.Prelude.{◌≢◌}
use Rattle.std.specs.Borrow.{Bor, MutBor}
use Rattle.std.specs.Fn.{Mut, always_mut}
use Rattle.std.specs.List.{FoldsTo}
use Rattle.rart_keys.specs.Ranges.{pairs_from}
use Rattle.rart_keys.specs.SortedMap.{IsAscending, lookup, put, without}
use Rattle.rart_keys.proofs.maps.SortedMaps.{ascending-put, ascending-without}
use Rattle.rart_trie.proofs.edits.CallbackLemmas.{always-on}
use Rattle.rart_cidr.specs.tables.RouteCalls.{CalledForAny, CalledForRoute, CallsForEach, CanCallForEach, EndsAtRefused}
use Rattle.rart_cidr.specs.tables.RouteCalls.{TakesRoute, before_if}
use Rattle.rart_cidr.specs.tables.TwoTables.{routes_from}
use Rattle.rart_cidr.proofs.walks.PositionLemmas.{IsAtRoute, IsSplit, at-end, at-route, fewer-left}
use Rattle.rart_cidr.proofs.walks.PositionLemmas.{next-first, split-put}
use Rattle.rart_cidr.proofs.routes.RemovalLemmas.{first_key}
use Rattle.rart_cidr.proofs.routes.SplitLemmas.{split-without}

before-append : {T : Type 0} (b : Bool) (e : List ℕ × T) (es ds : List (List ℕ × T))
    → before_if b e es ++ ds ≡ before_if b e (es ++ ds)
before-append true e es ds = refl
before-append false e es ds = refl

module _ {F N T R : Type 0} (call : Mut F (Bor N × (MutBor T × Unit {0})) (R × (MutBor T × Unit {0})))
    (bits : N → List ℕ) where
  module _ (stays : R → Bool) where
    -- one call more
    calls-more : (f g h : F) (es ds : List (List ℕ × T)) (e : List ℕ × T) (r : R) (w : T)
        → CallsForEach call bits stays f es ds g → CalledForRoute call bits g e r w h
        → CallsForEach call bits stays f (es ++ e ∷ []) (ds ++ before_if (stays r) (e.0, w) []) h
    calls-more f g h [] ds e r w c d = (
      r,
      w,
      h,
      [],
      subst (λ z. CalledForRoute call bits z e r w h) (sym c.1) d,
      ap (λ z. z ++ before_if (stays r) (e.0, w) []) c.0,
      (refl, refl),
    )
    calls-more f g h (x ∷ es) ds e r w c d = let more = before_if (stays r) (e.0, w) [] in (
      c.0,
      c.1,
      c.2,
      c.3 ++ more,
      c.4,
      ap (λ z. z ++ more) c.5 ∙ before-append (stays c.0) (x.0, c.1) c.3 more,
      calls-more c.2 g h es c.3 e r w c.6 d,
    )

    calls-fold : (f g : F) (es ds : List (List ℕ × T)) → CallsForEach call bits stays f es ds g
        → FoldsTo (λ p x q. CalledForAny call bits p x q) f es g
    calls-fold f g [] ds c = c.1
    calls-fold f g (e ∷ es) ds c = (c.2, (c.0, (c.1, c.4)), calls-fold c.2 g es c.3 c.6)

    -- the routes before the network were given to f, and some of them are gone; those from it on are as before
    pub record Visiting (f0 : F) (old cur : List (List ℕ × T)) (at : Option (List ℕ)) (f : F) : Type 0 where
      pub done : List (List ℕ × T)
      pub kept : List (List ℕ × T)
      pub todo : List (List ℕ × T)
      pub old_is : old ≡ done ++ todo
      pub split : IsSplit cur at kept todo
      pub calls : CallsForEach call bits stays f0 done kept f

module _ {F N T R : Type 0} {call : Mut F (Bor N × (MutBor T × Unit {0})) (R × (MutBor T × Unit {0}))}
    {bits : N → List ℕ} {stays : R → Bool} {f0 f : F} {old cur : List (List ℕ × T)} where
  pub visiting-at : {at to : Option (List ℕ)} → at ≡ to → Visiting call bits stays f0 old cur at f
      → Visiting call bits stays f0 old cur to f
  visiting-at e v = subst (λ z. Visiting call bits stays f0 old cur z f) e v

  -- all were given to f
  pub visited : Visiting call bits stays f0 old cur None f → CallsForEach call bits stays f0 old cur f
  visited v = let e = at-end cur v.kept v.todo v.split in
      let all : old ≡ v.done = v.old_is ∙ ap (λ z. v.done ++ z) e.0 ∙ append-nil v.done in
      subst (λ z. CallsForEach call bits stays f0 z cur f) (sym all)
      (subst (λ z. CallsForEach call bits stays f0 v.done z f) (sym e.1) v.calls)

  module _ {n : List ℕ} (a : IsAscending cur) (v : Visiting call bits stays f0 old cur (Some n) f) where
    route : IsAtRoute cur n v.kept v.todo
    route = at-route n cur v.kept v.todo a v.split

    before : old ≡ v.done ++ (n, route.target) ∷ route.rest
    before = v.old_is ∙ ap (λ z. v.done ++ z) route.here

    pub is-stored : lookup n cur ≢ None
    is-stored = λ e. let x = sym e ∙ route.stored in cc

    -- f may be called with the route at n
    pub takes-next : CanCallForEach call bits f0 old → (t : T) → lookup n cur ≡ Some t → TakesRoute call bits f (n, t)
    takes-next k t h = let same : route.target ≡ t = (let x = sym route.stored ∙ h in cc) in
        subst (λ z. TakesRoute call bits f (n, z)) same
        (k.at v.done (n, route.target) route.rest f before (calls-fold call bits stays f0 f v.done v.kept v.calls))

    module _ {r : R} {g : F} {new : List (List ℕ × T)}
        (c : (t : T) → lookup n cur ≡ Some t
        → (w : T) × CalledForRoute call bits f (n, t) r w g × (new ≡ put n w cur)) where
      left : T
      left = (c route.target route.stored).0

      called : CalledForRoute call bits f (n, route.target) r left g
      unfolding left
      called = (c route.target route.stored).1

      -- a callback that may always be called still may after the call
      pub always-next : always_mut call f → always_mut call g
      always-next h = always-on call f (called.net, (called.shown, tt)) (r, (called.left, tt)) g called.called h

      put-is : new ≡ v.kept ++ (n, left) ∷ route.rest
      unfolding left
      put-is = (c route.target route.stored).2 ∙ ap (put n left) route.routes
          ∙ split-put n route.target left v.kept route.rest route.ascends

      new-up : IsAscending new
      unfolding left
      new-up = subst IsAscending (sym (c route.target route.stored).2) (ascending-put n left cur a)

      module _ {at : Option (List ℕ)} (e : at ≡ first_key (pairs_from false n cur)) where
        step : (then : List (List ℕ × T)) → then ≡ (v.kept ++ before_if (stays r) (n, left) []) ++ route.rest
            → IsAscending then → Visiting call bits stays f0 old then at g
            × (length (routes_from at then) < length (routes_from (Some n) cur))
        step then h b = let split : IsSplit then at (v.kept ++ before_if (stays r) (n, left) []) route.rest = record {
          routes = h;
          first = next-first n cur v.kept v.todo at route e;
        } in (
          record {
            done = v.done ++ (n, route.target) ∷ [];
            kept = v.kept ++ before_if (stays r) (n, left) [];
            todo = route.rest;
            old_is = before ∙ sym (append_assoc v.done ((n, route.target) ∷ []) route.rest);
            split = split;
            calls = calls-more call bits stays f0 f g v.done v.kept (n, route.target) r left v.calls called;
          },
          fewer-left n cur then v.kept _ v.todo at a b v.split route split,
        )

        -- the route stays
        pub step-kept : stays r ≡ true → Visiting call bits stays f0 old new at g
            × (length (routes_from at new) < length (routes_from (Some n) cur))
        step-kept s = step new (put-is ∙ sym (append_assoc v.kept ((n, left) ∷ []) route.rest)
            ∙ ap (λ b. (v.kept ++ before_if b (n, left) []) ++ route.rest) (sym s)) new-up

        -- it leaves
        pub step-removed : {then : List (List ℕ × T)} → stays r ≡ false → then ≡ without n new
            → Visiting call bits stays f0 old then at g
            × (length (routes_from at then) < length (routes_from (Some n) cur))
        step-removed {then} s h = step then (h ∙ ap (without n) put-is
            ∙ split-without n left v.kept route.rest (subst IsAscending put-is new-up)
            ∙ ap (λ z. z ++ route.rest) (sym (append-nil v.kept))
            ∙ ap (λ b. (v.kept ++ before_if b (n, left) []) ++ route.rest) (sym s))
            (subst IsAscending (sym h) (ascending-without n new new-up))

-- it was to leave, and could not
pub ends-refused : {F N T : Type 0} {call : Mut F (Bor N × (MutBor T × Unit {0})) (Bool × (MutBor T × Unit {0}))}
    {bits : N → List ℕ} {n : List ℕ} {f0 f g : F} {old cur new : List (List ℕ × T)} {r : Bool} → IsAscending cur
    → Visiting call bits (λ b. b) f0 old cur (Some n) f
    → ((t : T) → lookup n cur ≡ Some t → (w : T) × CalledForRoute call bits f (n, t) r w g × (new ≡ put n w cur))
    → r ≡ false → EndsAtRefused call bits f0 old new g
ends-refused {call} {bits} {n} {f} {g} {cur} a v c s =
    let x = at-route n cur v.kept v.todo a v.split in let d = c x.target x.stored in record {
      before = v.done;
      rejected = (n, x.target);
      after = x.rest;
      kept = v.kept;
      left = d.0;
      last = f;
      old_is = v.old_is ∙ ap (λ z. v.done ++ z) x.here;
      new_is = d.2 ∙ ap (put n d.0) x.routes ∙ split-put n x.target d.0 v.kept x.rest x.ascends;
      calls = v.calls;
      called = subst (λ z. CalledForRoute call bits f (n, x.target) z d.0 g) s d.1;
    }
