-- A walk over the networks that one of two tables has, or both: the next one is the lesser of both tables' next ones.
use Rattle.std.proofs.Common.{◌≡◌, ℕ, ◌+◌, ◌<◌, length, Bool, List, [], ◌∷◌, ◌++◌, true, false, refl, sym, ap, subst}
use Rattle.std.proofs.Common.{◌∙◌, arith, Option, Some, None, Less, Equal, Greater}
use Rattle.std.proofs.lemmas.Map.Lookups.{exact_bytes}
use Rattle.std.specs.Borrow.{Bor}
use Rattle.std.specs.Cmp.Lexicographic.{slice_cmp}
use Rattle.std.specs.Fn.{Mut}
use Rattle.std.specs.Option.{option_copied}
use Rattle.std.specs.Ordering.{match_ordering, nat_cmp}
use Rattle.std.specs.Prelude.{is_some, slice_get}
use Rattle.rart_keys.specs.Ranges.{pairs_from}
use Rattle.rart_keys.specs.SortedMap.{IsAscending}
use Rattle.rart.specs.UnionCalls.{CalledAtEither, CallsAtEither, CanCallAtEither, TakesEither}
use Rattle.rart.specs.Unions.{union_of}
use Rattle.rart.proofs.trees.UnionLemmas.{steps-both, steps-first, steps-second}
use Rattle.rart_cidr.specs.tables.TwoTables.{least_route, next_if}
use Rattle.rart_cidr.proofs.walks.CallWalks.{Remains, remains-all, remains-first, remains-next, remains-none}
use Rattle.rart_cidr.proofs.walks.PositionLemmas.{IsSplitAt, after-pair, ascends-last, at-pair, routes-left}
use Rattle.rart_cidr.proofs.walks.PositionLemmas.{routes_at, split-start}

-- the target is there where its copy is
pub copied-alike : {T : Type 0} (o : Option (Bor T)) (b : Bool) → b ≡ is_some o → b ≡ is_some (option_copied o)
copied-alike None b h = h
copied-alike (Some t) b h = h

module _ {T : Type 0} where
  ascends-left : {cur done todo : List (List ℕ × T)} {at : Option (List ℕ × T)} → IsAscending cur
      → IsSplitAt cur at done todo → IsAscending todo
  ascends-left {done} {todo} a s = ascends-last done todo (subst IsAscending s.routes a)

  -- the route of a network, if it has a target, and others
  abbrev before_others : List ℕ → Option T → List (List ℕ × T) → List (List ℕ × T)
  before_others n None es = es
  before_others n (Some t) es = (n, t) ∷ es

  -- the walk goes to the next route where the network has a target
  goes-after : {cur done todo : List (List ℕ × T)} {at to : Option (List ℕ × T)} (n : List ℕ) (o : Option T) (b : Bool)
      (rest : List (List ℕ × T)) → IsAscending cur → IsSplitAt cur at done todo → todo ≡ before_others n o rest
      → b ≡ is_some o → to ≡ next_if b (pairs_from false n cur) at
      → (kept : List (List ℕ × T)) × IsSplitAt cur to kept rest
  goes-after n None true rest a s h i e = absurd (let x = i in cc)
  goes-after {done} n None false rest a s h i e = (
    done,
    record { routes = s.routes ∙ ap (λ z. done ++ z) h; first = e ∙ s.first ∙ ap (λ z. slice_get z 0) h },
  )
  goes-after {cur} {done} {to} n (Some t) true rest a s h i e =
      let r = at-pair {e = (n, t)} a (record { routes = s.routes ∙ ap (λ z. done ++ z) h; first = refl }) in
      let same : r.rest ≡ rest = (let x = r.here in cc) in
      (done ++ (n, t) ∷ [], subst (IsSplitAt cur to (done ++ (n, t) ∷ [])) same (after-pair r e))
  goes-after n (Some t) false rest a s h i e = absurd (let x = i in cc)

module _ {V W : Type 0} where
  -- the lesser first network of two tables with its targets, and the routes after it
  record IsLeast (x : List ℕ × (Option V × Option W)) (es : List (List ℕ × V)) (ds : List (List ℕ × W)) : Type 0 where
    pub rest : List (List ℕ × V)
    pub rest_there : List (List ℕ × W)
    pub here : es ≡ before_others x.0 x.1.0 rest
    pub there : ds ≡ before_others x.0 x.1.1 rest_there
    pub union : union_of es ds ≡ x ∷ union_of rest rest_there
    pub fewer : length rest + length rest_there < length es + length ds

  least-is : (x : List ℕ × (Option V × Option W)) (es : List (List ℕ × V)) (ds : List (List ℕ × W)) → IsAscending es
      → IsAscending ds → Some x ≡ least_route (slice_get es 0) (slice_get ds 0) → IsLeast x es ds
  least-is x [] [] a b h = absurd (let y = h in cc)
  least-is x [] (d ∷ ds) a b h = let same : x ≡ (d.0, (None, Some d.1)) = (let y = h in cc) in
      subst (λ z. IsLeast z [] (d ∷ ds)) (sym same)
      (record { rest = []; rest_there = ds; here = refl; there = refl; union = refl; fewer = omega arith })
  least-is x (e ∷ es) [] a b h = let same : x ≡ (e.0, (Some e.1, None)) = (let y = h in cc) in
      subst (λ z. IsLeast z (e ∷ es) []) (sym same) (record {
        rest = es;
        rest_there = [];
        here = refl;
        there = refl;
        union = steps-first (union_of (e ∷ es) []) (e ∷ es) es [] e Less refl (a, b) refl refl refl;
        fewer = omega arith;
      })
  least-is x (e ∷ es) (d ∷ ds) a b h = elim (slice_cmp nat_cmp e.0 d.0) as (λ o. slice_cmp nat_cmp e.0 d.0 ≡ o
      → Some x ≡ match_ordering o (Some (e.0, (Some e.1, None))) (Some (e.0, (Some e.1, Some d.1)))
      (Some (d.0, (None, Some d.1))) → IsLeast x (e ∷ es) (d ∷ ds)) [
        | Less ↦ λ o i. let same : x ≡ (e.0, (Some e.1, None)) = (let y = i in cc) in
            subst (λ z. IsLeast z (e ∷ es) (d ∷ ds)) (sym same) (record {
              rest = es;
              rest_there = d ∷ ds;
              here = refl;
              there = refl;
              union = steps-first (union_of (e ∷ es) (d ∷ ds)) (e ∷ es) es (d ∷ ds) e Less refl (a, b)
                  (ap (λ z. Some z) (sym o)) refl refl;
              fewer = omega arith;
            })
        | Equal ↦ λ o i. let same : x ≡ (e.0, (Some e.1, Some d.1)) = (let y = i in cc) in
            subst (λ z. IsLeast z (e ∷ es) (d ∷ ds)) (sym same) (record {
              rest = es;
              rest_there = ds;
              here = refl;
              there = ap (λ z. (z, d.1) ∷ ds) (sym (exact_bytes e.0 d.0 o));
              union = steps-both {d = e} {k = d.0} {w = d.1} refl (a, b) (ap (λ z. Some z) (sym o)) refl refl refl;
              fewer = omega arith;
            })
        | Greater ↦ λ o i. let same : x ≡ (d.0, (None, Some d.1)) = (let y = i in cc) in
            subst (λ z. IsLeast z (e ∷ es) (d ∷ ds)) (sym same) (record {
              rest = e ∷ es;
              rest_there = ds;
              here = refl;
              there = refl;
              union = steps-second (union_of (e ∷ es) (d ∷ ds)) (e ∷ es) (d ∷ ds) ds d Greater refl (a, b)
                  (ap (λ z. Some z) (sym o)) refl refl;
              fewer = omega arith;
            })
      ] refl h

  -- no network is left
  none-left : (es : List (List ℕ × V)) (ds : List (List ℕ × W))
      → None ≡ least_route (slice_get es 0) (slice_get ds 0) → union_of es ds ≡ []
  none-left [] [] h = refl
  none-left [] (d ∷ ds) h = absurd (let x = h in cc)
  none-left (e ∷ es) [] h = absurd (let x = h in cc)
  none-left (e ∷ es) (d ∷ ds) h = absurd (elim (slice_cmp nat_cmp e.0 d.0)
      as (λ o. ◌≡◌ {A = Option (List ℕ × (Option V × Option W))} None (match_ordering o (Some (e.0, (Some e.1, None)))
      (Some (e.0, (Some e.1, Some d.1))) (Some (d.0, (None, Some d.1)))) → ⊥) [
        | Less ↦ λ i. let x = i in cc
        | Equal ↦ λ i. let x = i in cc
        | Greater ↦ λ i. let x = i in cc
      ] h)

module _ {F K V W : Type 0} (g : Mut F (K × (Option (Bor V) × (Option (Bor W) × Unit {0}))) (Unit {0}))
    (bytes : K → List ℕ) (s : List (List ℕ × V)) (t : List (List ℕ × W)) where
  -- the calls with the networks from these routes on are left
  pub record Uniting (f0 : F) (at : Option (List ℕ × V)) (there : Option (List ℕ × W)) (f : F) : Type 0 where
    pub done : List (List ℕ × V)
    pub todo : List (List ℕ × V)
    pub done_there : List (List ℕ × W)
    pub todo_there : List (List ℕ × W)
    pub here : IsSplitAt s at done todo
    pub other : IsSplitAt t there done_there todo_there
    pub calls : Remains (λ p x q. CalledAtEither g bytes p x q) (λ p x. TakesEither g bytes p x) f0 (union_of s t) f
        (union_of todo todo_there)

  pub uniting-first : (f : F) (at : Option (List ℕ × V)) (there : Option (List ℕ × W))
      → CanCallAtEither g bytes f (union_of s t) → at ≡ slice_get s 0 → there ≡ slice_get t 0 → Uniting f at there f
  uniting-first f at there c e d = record {
    done = [];
    todo = s;
    done_there = [];
    todo_there = t;
    here = split-start s at e;
    other = split-start t there d;
    calls = remains-all _ _ f (union_of s t) c;
  }

module _ {F K V W : Type 0} {g : Mut F (K × (Option (Bor V) × (Option (Bor W) × Unit {0}))) (Unit {0})}
    {bytes : K → List ℕ} {s : List (List ℕ × V)} {t : List (List ℕ × W)} {f0 f : F} {at : Option (List ℕ × V)}
    {there : Option (List ℕ × W)} (u : Uniting g bytes s t f0 at there f) where
  from-lists : {o : Option (List ℕ × (Option V × Option W))} → o ≡ least_route at there
      → o ≡ least_route (slice_get u.todo 0) (slice_get u.todo_there 0)
  from-lists e = e ∙ ap (λ z. least_route z there) u.here.first ∙ ap (least_route (slice_get u.todo 0)) u.other.first

  -- all calls were made
  pub united : None ≡ least_route at there → CallsAtEither g bytes f0 (union_of s t) f
  united e = remains-none _ _ f0 (union_of s t) f (union_of u.todo u.todo_there)
      (none-left u.todo u.todo_there (from-lists e)) u.calls

  module _ {x : List ℕ × (Option V × Option W)} (a : IsAscending s) (b : IsAscending t)
      (e : Some x ≡ least_route at there) where
    least : IsLeast x u.todo u.todo_there
    least = least-is x u.todo u.todo_there (ascends-left a u.here) (ascends-left b u.other) (from-lists e)

    pub may-unite : TakesEither g bytes f x
    may-unite = remains-first _ _ f0 (union_of s t) f x (union_of u.todo u.todo_there)
        (union_of least.rest least.rest_there) least.union u.calls

    pub uniting-next : {f' : F} {to : Option (List ℕ × V)} {to_there : Option (List ℕ × W)} (h i : Bool)
        → CalledAtEither g bytes f x f' → h ≡ is_some x.1.0 → i ≡ is_some x.1.1
        → to ≡ next_if h (pairs_from false x.0 s) at
        → to_there ≡ next_if i (pairs_from false x.0 t) there
        → Uniting g bytes s t f0 to to_there f'
        × (length (routes_at to s) + length (routes_at to_there t)
        < length (routes_at at s) + length (routes_at there t))
    uniting-next {f'} h i c p q m n =
        let k = goes-after x.0 x.1.0 h least.rest a u.here least.here p m in
        let l = goes-after x.0 x.1.1 i least.rest_there b u.other least.there q n in
        let one = ap length (routes-left a k.1) in let two = ap length (routes-left b l.1) in
        let three = ap length (routes-left a u.here) in let four = ap length (routes-left b u.other) in
        let few = least.fewer in (
          record {
            done = k.0;
            todo = least.rest;
            done_there = l.0;
            todo_there = least.rest_there;
            here = k.1;
            other = l.1;
            calls = remains-next _ _ f0 (union_of s t) f f' x (union_of u.todo u.todo_there)
                (union_of least.rest least.rest_there) least.union c u.calls;
          },
          omega (arith, one, two, three, four, few),
        )
