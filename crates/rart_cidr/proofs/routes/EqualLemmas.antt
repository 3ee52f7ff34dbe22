-- Two tables that are compared route by route.
use Rattle.std.proofs.Common.{◌≡◌, ℕ, ◌<◌, ◌&&◌, ⊎_elim, arith, length, Bool, List, [], ◌∷◌, ◌++◌, true, false, refl}
use Rattle.std.proofs.Common.{sym, ap, subst, ◌∙◌, Option, Some, None}
use Rattle.std.specs.Prelude.{is_none, is_some, nat_eq, not, option_map, slice_get}
use Rattle.std.specs.Cmp.Lexicographic.{pointwise}
use Rattle.rart_keys.specs.ByteStrings.{begins}
use Rattle.rart_keys.specs.Ranges.{pairs_from}
use Rattle.rart_keys.specs.SortedMap.{IsAscending}
use Rattle.rart_keys.proofs.strings.ByteOrder.{eq-no, eq-yes, equal_or_not}
use Rattle.rart_nodes.specs.tries.Equal.{same_pairs}
use Rattle.rart_cidr.proofs.walks.PositionLemmas.{IsAtPair, IsSplitAt, after-pair, at-pair, fewer-after, no-pair}
use Rattle.rart_cidr.proofs.walks.PositionLemmas.{routes_at, split-start}

-- of lists that are as long, one begins the other if they are equal
pub same-bits : (n m : List ℕ) → length n ≡ length m → begins n m ≡ pointwise nat_eq n m
same-bits [] [] h = refl
same-bits [] (y ∷ m) h = absurd (omega (arith, h))
same-bits (x ∷ n) [] h = absurd (omega (arith, h))
same-bits (x ∷ n) (y ∷ m) h = ⊎_elim
    (λ e. rw (eq-yes x y e) (same-bits n m (omega (arith, h))))
    (λ e. rw (eq-no x y e) refl)
    (equal_or_not x y)

module _ {T : Type 0} (eq : T → T → Bool) (s t : List (List ℕ × T)) where
  -- the tables are equal if the routes from these on are
  pub record Comparing (at there : Option (List ℕ × T)) : Type 0 where
    pub done : List (List ℕ × T)
    pub todo : List (List ℕ × T)
    pub done_there : List (List ℕ × T)
    pub todo_there : List (List ℕ × T)
    pub here : IsSplitAt s at done todo
    pub other : IsSplitAt t there done_there todo_there
    pub same : same_pairs eq s t ≡ same_pairs eq todo todo_there

  pub comparing-first : (at there : Option (List ℕ × T)) → at ≡ slice_get s 0 → there ≡ slice_get t 0
      → Comparing at there
  comparing-first at there e f = record {
    done = [];
    todo = s;
    done_there = [];
    todo_there = t;
    here = split-start s at e;
    other = split-start t there f;
    same = refl;
  }

module _ {T : Type 0} {eq : T → T → Bool} {s t : List (List ℕ × T)} where
  pub comparing-at : {at to there to_there : Option (List ℕ × T)} → at ≡ to → there ≡ to_there
      → Comparing eq s t at there → Comparing eq s t to to_there
  comparing-at {to} {there} e f c = subst (Comparing eq s t to) f (subst (λ z. Comparing eq s t z there) e c)

  module _ {d e : List ℕ × T} (a : IsAscending s) (b : IsAscending t) (c : Comparing eq s t (Some d) (Some e)) where
    route : IsAtPair s d c.done c.todo
    route = at-pair a c.here

    route_there : IsAtPair t e c.done_there c.todo_there
    route_there = at-pair b c.other

    compared : (r : Bool) → r ≡ (pointwise nat_eq d.0 e.0 && eq d.1 e.1)
        → same_pairs eq s t ≡ (r && same_pairs eq route.rest route_there.rest)
    compared r h = c.same ∙ ap (λ z. same_pairs eq z c.todo_there) route.here
        ∙ ap (same_pairs eq (d ∷ route.rest)) route_there.here
        ∙ ap (λ z. z && same_pairs eq route.rest route_there.rest) (sym h)

    pub found-other : false ≡ (pointwise nat_eq d.0 e.0 && eq d.1 e.1) → false ≡ same_pairs eq s t
    found-other h = sym (compared false h)

    pub comparing-next : {at there : Option (List ℕ × T)} → true ≡ (pointwise nat_eq d.0 e.0 && eq d.1 e.1)
        → at ≡ slice_get (pairs_from false d.0 s) 0 → there ≡ slice_get (pairs_from false e.0 t) 0
        → Comparing eq s t at there
    comparing-next {at} {there} h n m = record {
      done = c.done ++ d ∷ [];
      todo = route.rest;
      done_there = c.done_there ++ e ∷ [];
      todo_there = route_there.rest;
      here = after-pair route n;
      other = after-pair route_there m;
      same = compared true h;
    }

  -- the other table has fewer routes, or more
  pub none-there : {e : List ℕ × T} → IsAscending s → Comparing eq s t (Some e) None → false ≡ same_pairs eq s t
  none-there {e} a c = let r = at-pair a c.here in
      sym (c.same ∙ ap (λ z. same_pairs eq z c.todo_there) r.here
      ∙ ap (same_pairs eq (e ∷ r.rest)) (no-pair c.todo_there c.other.first))

  pub none-here : IsAscending t → (there : Option (List ℕ × T)) → Comparing eq s t None there
      → is_none there ≡ same_pairs eq s t
  none-here b None c = sym (c.same ∙ ap (λ z. same_pairs eq z c.todo_there) (no-pair c.todo c.here.first)
      ∙ ap (same_pairs eq []) (no-pair c.todo_there c.other.first))
  none-here b (Some e) c = sym (c.same ∙ ap (λ z. same_pairs eq z c.todo_there) (no-pair c.todo c.here.first)
      ∙ ap (same_pairs eq []) (at-pair b c.other).here)

  -- fewer routes are left
  pub fewer-compared : {e : List ℕ × T} {at there : Option (List ℕ × T)} → IsAscending s
      → Comparing eq s t (Some e) there → at ≡ slice_get (pairs_from false e.0 s) 0
      → length (routes_at at s) < length (routes_at (Some e) s)
  fewer-compared {e} {at} a c h = let r = at-pair a c.here in fewer-after a c.here r (after-pair r h)

-- what the test of an option says of what a function makes of it
pub none-test : {A B : Type 0} (f : A → B) (o : Option A) (r : Bool) → is_some o ≡ not r → r ≡ is_none (option_map f o)
none-test f None true h = refl
none-test f None false h = absurd (let x = h in cc)
none-test f (Some a) true h = absurd (let x = h in cc)
none-test f (Some a) false h = refl
