-- A walk over the networks that two tables share: each table skips to the network that the other one is at.
use Rattle.std.proofs.Common.{◌≡◌, ℕ, ◌+◌, ◌<◌, ◌≤◌, ⊎_elim, arith, length, List, [], ◌∷◌, ◌++◌, true, false, refl, sym}
use Rattle.std.proofs.Common.{ap, subst, ◌∙◌, Option, Some, None, Less, Equal, Greater}
use Rattle.std.proofs.lemmas.List.{append_assoc, length-append}
use Rattle.std.proofs.lemmas.Cmp.{nat_list_cmp_total}
use Rattle.std.proofs.lemmas.Map.Lookups.{exact_bytes}
use Rattle.std.specs.Borrow.{Bor}
use Rattle.std.specs.Cmp.Lexicographic.{slice_cmp}
use Rattle.std.specs.Fn.{Mut, always_mut}
use Rattle.std.specs.Ordering.{nat_cmp}
use Rattle.std.specs.Prelude.{slice_get}
use Rattle.rart_keys.specs.ByteStrings.{IsLess, bytes_eq}
use Rattle.rart_keys.specs.Joins.{ahead_if, join}
use Rattle.rart_keys.specs.Ranges.{is_from_bound, pairs_from}
use Rattle.rart_keys.specs.SortedMap.{AreAbove, IsAscending, lookup}
use Rattle.rart_keys.proofs.maps.SortedMaps.{above-trans, lookup-above}
use Rattle.rart_keys.proofs.strings.ByteOrder.{below-not_eq, below-trans, bytes_eq-itself, compare}
use Rattle.rart_trie.proofs.edits.CallbackLemmas.{always-on, folds-keep}
use Rattle.rart_nodes.specs.joins.PairCalls.{CalledAt, CallsAtEach, CanCallAt, TakesAtKey}
use Rattle.rart_cidr.proofs.walks.PositionLemmas.{IsAtPair, IsSplitAt, after-pair, ascends-last, at-pair, no-pair}
use Rattle.rart_cidr.proofs.walks.PositionLemmas.{routes-left, routes_at, split-start}
use Rattle.rart_cidr.proofs.routes.SplitLemmas.{above-last, from-all}
use Rattle.rart_cidr.proofs.walks.CallWalks.{Remains, remains-all, remains-first, remains-next, remains-none}
use Rattle.rart_cidr.proofs.walks.FilterLemmas.{from_after, from_before, from_itself, lookup_filter}

module _ {T : Type 0} where
  -- the routes before a network, and those from it on
  pub from-parts : (m : List ℕ) (es : List (List ℕ × T)) → IsAscending es
      → (before : List (List ℕ × T)) × (es ≡ before ++ pairs_from true m es)
  from-parts m [] a = ([], refl)
  from-parts m (e ∷ es) a = ⊎_elim
      (λ l. rw (from_after true m e.0 l)
      ([], ap (λ z. e ∷ z) (sym (from-all true m es (above-trans m e.0 es l a.0)))))
      (⊎_elim
      (λ s. let one : is_from_bound true m e.0 ≡ true = ap (is_from_bound true m) (sym s) ∙ from_itself true m in
      rw one ([], ap (λ z. e ∷ z) (sym (from-all true m es (subst (λ z. AreAbove z es) (sym s) a.0)))))
      (λ l. rw (from_before true m e.0 l) (let r = from-parts m es a.1 in (e ∷ r.0, ap (λ z. e ∷ z) r.1))))
      (compare m e.0)

  -- those from a network on that comes after a route
  from-later : (n m : List ℕ) (x : T) (done rest : List (List ℕ × T)) → IsAscending (done ++ (n, x) ∷ rest) → IsLess n m
      → pairs_from true m (done ++ (n, x) ∷ rest) ≡ pairs_from true m rest
  from-later n m x [] rest a l = rw (from_before true m n l) refl
  from-later n m x (e ∷ done) rest a l
      = rw (from_before true m e.0 (below-trans e.0 n m (above-last e.0 n x done rest a.0) l))
      (from-later n m x done rest a.1 l)

  -- the walk skips to a network after its own
  record SkipsTo (cur : List (List ℕ × T)) (at : Option (List ℕ × T)) (m : List ℕ) (rest : List (List ℕ × T)) : Type 0
    where
      pub kept : List (List ℕ × T)
      pub split : IsSplitAt cur at kept (pairs_from true m rest)
      pub fewer : length (pairs_from true m rest) ≤ length rest

  skips-to : {cur done todo : List (List ℕ × T)} {e : List ℕ × T} {at : Option (List ℕ × T)} (m : List ℕ)
      → (r : IsAtPair cur e done todo) → IsLess e.0 m → at ≡ slice_get (pairs_from true m cur) 0
      → SkipsTo cur at m r.rest
  skips-to {cur} {done} {todo} {e} {at} m r l h =
      let parts = from-parts m r.rest (ascends-last done (e ∷ r.rest) r.ascends).1 in
      let one = ap length parts.1 in let two = length-append parts.0 (pairs_from true m r.rest) in record {
        kept = done ++ e ∷ parts.0;
        split = record {
          routes = r.routes ∙ ap (λ z. done ++ e ∷ z) parts.1
              ∙ sym (append_assoc done (e ∷ parts.0) (pairs_from true m r.rest));
          first = h ∙ ap (λ z. slice_get (pairs_from true m z) 0) r.routes
              ∙ ap (λ z. slice_get z 0) (from-later e.0 m e.1 done r.rest r.ascends l);
        };
        fewer = omega (arith, one, two);
      }

module _ {V W : Type 0} where
  join-skip : (es : List (List ℕ × V)) (t : List (List ℕ × W)) (m : List ℕ)
      → ((k : List ℕ) → IsLess k m → lookup k t ≡ None) → join es t ≡ join (pairs_from true m es) t
  join-skip [] t m h = refl
  join-skip (e ∷ es) t m h = ⊎_elim
      (λ l. rw (from_after true m e.0 l) (ap (ahead_if e.0 e.1 (lookup e.0 t)) (join-skip es t m h)))
      (⊎_elim
      (λ s. let one : is_from_bound true m e.0 ≡ true = ap (is_from_bound true m) (sym s) ∙ from_itself true m in
      rw one (ap (ahead_if e.0 e.1 (lookup e.0 t)) (join-skip es t m h)))
      (λ l. rw (from_before true m e.0 l, h e.0 l) (join-skip es t m h)))
      (compare m e.0)

  -- a network before all of the first table
  join-past : (d : List ℕ × W) (es : List (List ℕ × V)) (ds : List (List ℕ × W)) → AreAbove d.0 es
      → join es (d ∷ ds) ≡ join es ds
  join-past d [] ds a = refl
  join-past d (e ∷ es) ds a = rw (below-not_eq d.0 e.0 a.0)
      (ap (ahead_if e.0 e.1 (lookup e.0 ds)) (join-past d es ds a.1))

  join-after : (n : List ℕ) (es : List (List ℕ × V)) (t : List (List ℕ × W)) → AreAbove n es
      → join es (pairs_from true n t) ≡ join es t
  join-after n [] t a = refl
  join-after n (e ∷ es) t a =
      let same : lookup e.0 (pairs_from true n t) ≡ lookup e.0 t
      = rw (from_after true n e.0 a.0) at (lookup_filter (is_from_bound true n) e.0 t) in
      ap (λ z. ahead_if e.0 e.1 z (join es (pairs_from true n t))) same
      ∙ ap (ahead_if e.0 e.1 (lookup e.0 t)) (join-after n es t a.1)

  module _ (e : List ℕ × V) (d : List ℕ × W) (es : List (List ℕ × V)) (ds : List (List ℕ × W))
      (a : IsAscending (e ∷ es)) (b : IsAscending (d ∷ ds)) where
    join-less : IsLess e.0 d.0 → join (e ∷ es) (d ∷ ds) ≡ join (pairs_from true d.0 es) (d ∷ ds)
    join-less l = ap (λ z. ahead_if e.0 e.1 z (join es (d ∷ ds))) (none e.0 l) ∙ join-skip es (d ∷ ds) d.0 none
      where
        none : (k : List ℕ) → IsLess k d.0 → lookup k (d ∷ ds) ≡ None
        none k i = lookup-above k (d ∷ ds) (i, above-trans k d.0 ds i b.0)

    join-equal : e.0 ≡ d.0 → join (e ∷ es) (d ∷ ds) ≡ (e.0, (e.1, d.1)) ∷ join (e ∷ es) ds
    join-equal s =
        let one : bytes_eq d.0 e.0 ≡ true = ap (bytes_eq d.0) s ∙ bytes_eq-itself d.0 in
        let found : lookup e.0 (d ∷ ds) ≡ Some d.1 = rw one refl in
        ap (λ z. ahead_if e.0 e.1 z (join es (d ∷ ds))) found
        ∙ ap (λ z. (e.0, (e.1, d.1)) ∷ z) (join-past d es ds (subst (λ z. AreAbove z es) s a.0)
        ∙ sym (ap (λ z. ahead_if e.0 e.1 z (join es ds))
        (lookup-above e.0 ds (subst (λ z. AreAbove z ds) (sym s) b.0))))

    join-greater : IsLess d.0 e.0 → join (e ∷ es) (d ∷ ds) ≡ join (e ∷ es) (pairs_from true e.0 ds)
    join-greater l =
        let same : lookup e.0 (pairs_from true e.0 ds) ≡ lookup e.0 ds
        = rw (from_itself true e.0) at (lookup_filter (is_from_bound true e.0) e.0 ds) in
        join-past d (e ∷ es) ds (l, above-trans d.0 e.0 es l a.0)
        ∙ sym (ap (λ z. ahead_if e.0 e.1 z (join es (pairs_from true e.0 ds))) same
        ∙ ap (ahead_if e.0 e.1 (lookup e.0 ds)) (join-after e.0 es ds a.0))

  join-none : (es : List (List ℕ × V)) → ◌≡◌ {A = List (List ℕ × (V × W))} (join es []) []
  join-none [] = refl
  join-none (e ∷ es) = join-none es

module _ {F K V W : Type 0} (g : Mut F (K × (Bor V × (Bor W × Unit {0}))) (Unit {0})) (bytes : K → List ℕ)
    (s : List (List ℕ × V)) (t : List (List ℕ × W)) where
  -- the calls with the networks from these routes on are left
  pub record Joining (f0 : F) (at : Option (List ℕ × V)) (there : Option (List ℕ × W)) (f : F) : Type 0 where
    pub done : List (List ℕ × V)
    pub todo : List (List ℕ × V)
    pub done_there : List (List ℕ × W)
    pub todo_there : List (List ℕ × W)
    pub here : IsSplitAt s at done todo
    pub other : IsSplitAt t there done_there todo_there
    pub calls : Remains (λ p x q. CalledAt g bytes p x q) (λ p x. TakesAtKey g bytes p x) f0 (join s t) f
        (join todo todo_there)

  pub joining-first : (f : F) (at : Option (List ℕ × V)) (there : Option (List ℕ × W)) → CanCallAt g bytes f (join s t)
      → at ≡ slice_get s 0 → there ≡ slice_get t 0 → Joining f at there f
  joining-first f at there c e d = record {
    done = [];
    todo = s;
    done_there = [];
    todo_there = t;
    here = split-start s at e;
    other = split-start t there d;
    calls = remains-all _ _ f (join s t) c;
  }

  pub always-joined : (f0 f : F) → CallsAtEach g bytes f0 (join s t) f → always_mut g f0 → always_mut g f
  always-joined f0 f c h = folds-keep _ (always_mut g)
      (λ p x q k i. always-on g p (k.key, (k.left, (k.right, tt))) tt q k.called i) (join s t) f0 f c h

module _ {F K V W : Type 0} {g : Mut F (K × (Bor V × (Bor W × Unit {0}))) (Unit {0})} {bytes : K → List ℕ}
    {s : List (List ℕ × V)} {t : List (List ℕ × W)} {f0 f : F} where
  pub joining-at : {at to : Option (List ℕ × V)} {there to_there : Option (List ℕ × W)} → at ≡ to → there ≡ to_there
      → Joining g bytes s t f0 at there f → Joining g bytes s t f0 to to_there f
  joining-at {to} {there} e d j = subst (λ z. Joining g bytes s t f0 to z f) d
      (subst (λ z. Joining g bytes s t f0 z there f) e j)

  -- all calls were made
  pub joined : {there : Option (List ℕ × W)} → Joining g bytes s t f0 None there f
      → CallsAtEach g bytes f0 (join s t) f
  joined j = remains-none _ _ f0 (join s t) f (join j.todo j.todo_there)
      (ap (λ z. join z j.todo_there) (no-pair j.todo j.here.first)) j.calls

  pub joined-there : {at : Option (List ℕ × V)} → Joining g bytes s t f0 at None f
      → CallsAtEach g bytes f0 (join s t) f
  joined-there j = remains-none _ _ f0 (join s t) f (join j.todo j.todo_there)
      (ap (join j.todo) (no-pair j.todo_there j.other.first) ∙ join-none j.todo) j.calls

  module _ {e : List ℕ × V} {d : List ℕ × W} (a : IsAscending s) (b : IsAscending t)
      (j : Joining g bytes s t f0 (Some e) (Some d) f) where
    route : IsAtPair s e j.done j.todo
    route = at-pair a j.here

    route_there : IsAtPair t d j.done_there j.todo_there
    route_there = at-pair b j.other

    up : IsAscending (e ∷ route.rest)
    up = ascends-last j.done (e ∷ route.rest) route.ascends

    up_there : IsAscending (d ∷ route_there.rest)
    up_there = ascends-last j.done_there (d ∷ route_there.rest) route_there.ascends

    left : join j.todo j.todo_there ≡ join (e ∷ route.rest) (d ∷ route_there.rest)
    left = ap (λ z. join z j.todo_there) route.here ∙ ap (join (e ∷ route.rest)) route_there.here

    -- the other table is at the same network
    module _ (m : slice_cmp nat_cmp e.0 d.0 ≡ Equal) where
      shared : join j.todo j.todo_there ≡ (e.0, (e.1, d.1)) ∷ join j.todo route_there.rest
      shared = left ∙ join-equal e d route.rest route_there.rest up up_there (exact_bytes e.0 d.0 m)
          ∙ ap (λ z. (e.0, (e.1, d.1)) ∷ join z route_there.rest) (sym route.here)

      pub may-call : TakesAtKey g bytes f (e.0, (e.1, d.1))
      may-call = remains-first _ _ f0 (join s t) f (e.0, (e.1, d.1)) (join j.todo j.todo_there)
          (join j.todo route_there.rest) shared j.calls

      pub joining-equal : {f' : F} {there : Option (List ℕ × W)} → CalledAt g bytes f (e.0, (e.1, d.1)) f'
          → there ≡ slice_get (pairs_from false e.0 t) 0 → Joining g bytes s t f0 (Some e) there f'
          × (length (routes_at (Some e) s) + length (routes_at there t)
          < length (routes_at (Some e) s) + length (routes_at (Some d) t))
      joining-equal {f'} c h =
          let next = after-pair route_there
          (h ∙ ap (λ z. slice_get (pairs_from false z t) 0) (exact_bytes e.0 d.0 m)) in
          let one = ap length (routes-left b next) in
          let two = ap length (routes-left b j.other ∙ route_there.here) in (
            record {
              done = j.done;
              todo = j.todo;
              done_there = j.done_there ++ d ∷ [];
              todo_there = route_there.rest;
              here = j.here;
              other = next;
              calls = remains-next _ _ f0 (join s t) f f' (e.0, (e.1, d.1)) (join j.todo j.todo_there)
                  (join j.todo route_there.rest) shared c j.calls;
            },
            omega (arith, one, two),
          )

    -- the other table is at a later network
    pub joining-less : {at : Option (List ℕ × V)} → slice_cmp nat_cmp e.0 d.0 ≡ Less
        → at ≡ slice_get (pairs_from true d.0 s) 0 → Joining g bytes s t f0 at (Some d) f
        × (length (routes_at at s) + length (routes_at (Some d) t)
        < length (routes_at (Some e) s) + length (routes_at (Some d) t))
    joining-less l h = let next = skips-to d.0 route l h in
        let one = ap length (routes-left a next.split) in
        let two = ap length (routes-left a j.here ∙ route.here) in let few = next.fewer in (
          record {
            done = next.kept;
            todo = pairs_from true d.0 route.rest;
            done_there = j.done_there;
            todo_there = j.todo_there;
            here = next.split;
            other = j.other;
            calls = subst (λ z. Remains (λ p x q. CalledAt g bytes p x q) (λ p x. TakesAtKey g bytes p x) f0 (join s t)
                f z) (left ∙ join-less e d route.rest route_there.rest up up_there l
                ∙ ap (join (pairs_from true d.0 route.rest)) (sym route_there.here)) j.calls;
          },
          omega (arith, one, two, few),
        )

    -- the other table is at an earlier network
    pub joining-greater : {there : Option (List ℕ × W)} → slice_cmp nat_cmp e.0 d.0 ≡ Greater
        → there ≡ slice_get (pairs_from true e.0 t) 0 → Joining g bytes s t f0 (Some e) there f
        × (length (routes_at (Some e) s) + length (routes_at there t)
        < length (routes_at (Some e) s) + length (routes_at (Some d) t))
    joining-greater m h = let l : IsLess d.0 e.0 = rw (nat_list_cmp_total.antisymm d.0 e.0, m) refl in
        let next = skips-to e.0 route_there l h in
        let one = ap length (routes-left b next.split) in
        let two = ap length (routes-left b j.other ∙ route_there.here) in let few = next.fewer in (
          record {
            done = j.done;
            todo = j.todo;
            done_there = next.kept;
            todo_there = pairs_from true e.0 route_there.rest;
            here = j.here;
            other = next.split;
            calls = subst (λ z. Remains (λ p x q. CalledAt g bytes p x q) (λ p x. TakesAtKey g bytes p x) f0 (join s t)
                f z) (left ∙ join-greater e d route.rest route_there.rest up up_there l
                ∙ ap (λ z. join z (pairs_from true e.0 route_there.rest)) (sym route.here)) j.calls;
          },
          omega (arith, one, two, few),
        )
