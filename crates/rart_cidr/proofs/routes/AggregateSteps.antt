-- The steps of an aggregation: each route in turn stays or leaves.
use Rattle.std.proofs.Common.{◌≡◌, ℕ, ◌+◌, ◌<◌, ◌≤◌, arith, length, Bool, List, [], ◌∷◌, ◌++◌, true, false, refl, sym}
use Rattle.std.proofs.Common.{ap, subst, ◌∙◌, Option, Some, None}
use Rattle.std.proofs.lemmas.List.{append-nil, append_assoc, length-append}
use Rattle.rart_keys.specs.Filters.{longest_value}
use Rattle.rart_keys.specs.Ranges.{pairs_from}
use Rattle.rart_keys.specs.SortedMap.{IsAscending, lookup, without}
use Rattle.rart_keys.proofs.maps.SortedMaps.{ascending-without}
use Rattle.rart_cidr.specs.Aggregates.{AreCompared, AreNeeded, KeepsMatches}
use Rattle.rart_cidr.specs.tables.TwoTables.{routes_from}
use Rattle.rart_cidr.proofs.routes.AggregateLemmas.{keeps-more, keeps-removed, needed-more}
use Rattle.rart_cidr.proofs.walks.PositionLemmas.{first-is, todo-is}
use Rattle.rart_cidr.proofs.routes.RemovalLemmas.{first_key, no-first}
use Rattle.rart_cidr.proofs.routes.SplitLemmas.{split-after, split-front, split-lookup, split-without}

module _ {T : Type 0} where
  -- some routes are done, of which some are kept; those to come are as before
  pub record Aggregating (same : T → T → Bool) (old cur : List (List ℕ × T)) (at : Option (List ℕ)) : Type 0 where
    pub done : List (List ℕ × T)
    pub kept : List (List ℕ × T)
    pub todo : List (List ℕ × T)
    pub old_is : old ≡ done ++ todo
    pub cur_is : cur ≡ kept ++ todo
    pub at_is : at ≡ first_key todo
    pub keeps : KeepsMatches same done kept
    pub needed : AreNeeded same kept
    pub fewer : length kept ≤ length done

  compared-false : (same : T → T → Bool) (t u : T) (o p : Option T) → p ≡ Some t → AreCompared same p o false
      → o ≡ Some u → same t u ≡ false
  compared-false same t u o None e h s = absurd (let x = e in cc)
  compared-false same t u None (Some v) e h s = absurd (let x = s in cc)
  compared-false same t u (Some w) (Some v) e h s = let one : v ≡ t = (let x = e in cc) in
      let two : w ≡ u = (let x = s in cc) in sym (h ∙ ap (λ z. same z w) one ∙ ap (same t) two)

  compared-true : (same : T → T → Bool) (t : T) (o p : Option T) → p ≡ Some t → AreCompared same p o true
      → (u : T) × (o ≡ Some u) × (same t u ≡ true)
  compared-true same t o None e h = absurd (let x = e in cc)
  compared-true same t None (Some v) e h = absurd (let x = h in cc)
  compared-true same t (Some w) (Some v) e h = let one : v ≡ t = (let x = e in cc) in
      (w, refl, sym (h ∙ ap (λ z. same z w) one))

  module _ (same : T → T → Bool) where
    pub aggregating-first : (old : List (List ℕ × T)) (at : Option (List ℕ)) → at ≡ first_key old
        → Aggregating same old old at
    aggregating-first old at h = record {
      done = [];
      kept = [];
      todo = old;
      old_is = refl;
      cur_is = refl;
      at_is = h;
      keeps = record { only = λ n t e. e; matches = λ q. tt };
      needed = λ n t u e v. absurd (let x = e in cc);
      fewer = omega arith;
    }

    left-at : (old cur : List (List ℕ × T)) (at : Option (List ℕ)) → IsAscending cur
        → (s : Aggregating same old cur at) → routes_from at cur ≡ s.todo
    left-at old cur at a s = todo-is cur s.kept s.todo at a (record { routes = s.cur_is; first = s.at_is })

    module _ (n : List ℕ) (old cur : List (List ℕ × T)) (at : Option (List ℕ)) (b : IsAscending old)
        (a : IsAscending cur) (s : Aggregating same old cur (Some n))
        (e : at ≡ first_key (pairs_from false n cur)) where
      -- the route at n, and those after it
      now : (t : T) × (rest : List (List ℕ × T)) × (s.todo ≡ (n, t) ∷ rest)
      now = first-is n s.todo s.at_is

      here : cur ≡ s.kept ++ (n, now.0) ∷ now.1
      here = s.cur_is ∙ ap (λ z. s.kept ++ z) now.2

      ascends : IsAscending (s.kept ++ (n, now.0) ∷ now.1)
      ascends = subst IsAscending here a

      before : old ≡ (s.done ++ (n, now.0) ∷ []) ++ now.1
      before = s.old_is ∙ ap (λ z. s.done ++ z) now.2 ∙ sym (append_assoc s.done ((n, now.0) ∷ []) now.1)

      after : at ≡ first_key now.1
      after = e ∙ ap (λ z. first_key (pairs_from false n z)) here
          ∙ ap first_key (split-after n now.0 s.kept now.1 ascends)

      target : lookup n cur ≡ Some now.0
      target = ap (lookup n) here ∙ split-lookup n now.0 s.kept now.1 ascends

      longer-done : length (s.done ++ (n, now.0) ∷ []) ≡ length s.done + 1
      longer-done = length-append s.done ((n, now.0) ∷ [])

      step-kept : AreCompared same (lookup n cur) (longest_value n (without n cur)) false → Aggregating same old cur at
      step-kept c = record {
        done = s.done ++ (n, now.0) ∷ [];
        kept = s.kept ++ (n, now.0) ∷ [];
        todo = now.1;
        old_is = before;
        cur_is = here ∙ sym (append_assoc s.kept ((n, now.0) ∷ []) now.1);
        at_is = after;
        keeps = keeps-last;
        needed = needed-more same n now.0 s.kept now.1 s.needed ascends
            (λ u v. compared-false same now.0 u (longest_value n (without n cur)) (lookup n cur) target c
            (ap (λ z. longest_value n (without n z)) here ∙ v));
        fewer = let one = longer-done in let two = length-append s.kept ((n, now.0) ∷ []) in let f = s.fewer in
            omega (arith, one, two, f);
      }
        where
          keeps-last : KeepsMatches same (s.done ++ (n, now.0) ∷ []) (s.kept ++ (n, now.0) ∷ [])
          keeps-last = keeps-more same s.done s.kept ((n, now.0) ∷ []) (split-front n now.0 s.done now.1
              (subst IsAscending (s.old_is ∙ ap (λ z. s.done ++ z) now.2) b)) s.keeps

      step-removed : AreCompared same (lookup n cur) (longest_value n (without n cur)) true
          → Aggregating same old (without n cur) at
      step-removed c = let u = compared-true same now.0 (longest_value n (without n cur)) (lookup n cur) target c in
          record {
            done = s.done ++ (n, now.0) ∷ [];
            kept = s.kept;
            todo = now.1;
            old_is = before;
            cur_is = ap (without n) here ∙ split-without n now.0 s.kept now.1 ascends;
            at_is = after;
            keeps = keeps-removed same n now.0 u.0 s.done s.kept now.1 s.keeps ascends
                (ap (λ z. longest_value n (without n z)) (sym here) ∙ u.1) u.2;
            needed = s.needed;
            fewer = let one = longer-done in let f = s.fewer in omega (arith, one, f);
          }

      smaller : (new : List (List ℕ × T)) → routes_from at new ≡ now.1
          → length (routes_from at new) < length (routes_from (Some n) cur)
      smaller new m = let one = ap length m in
          let two = ap length (left-at old cur (Some n) a s ∙ now.2) in omega (arith, one, two)

      -- the route stays
      pub kept-step : AreCompared same (lookup n cur) (longest_value n (without n cur)) false
          → Aggregating same old cur at × (length (routes_from at cur) < length (routes_from (Some n) cur))
      unfolding now step-kept
      kept-step c = (step-kept c, smaller cur (left-at old cur at a (step-kept c)))

      -- the route leaves
      pub removed-step : AreCompared same (lookup n cur) (longest_value n (without n cur)) true
          → (new : List (List ℕ × T)) → new ≡ without n cur
          → Aggregating same old new at × (length (routes_from at new) < length (routes_from (Some n) cur))
      unfolding now step-removed
      removed-step c new m = let one = step-removed c in (
        subst (λ z. Aggregating same old z at) (sym m) one,
        subst (λ z. length (routes_from at z) < length (routes_from (Some n) cur)) (sym m)
            (smaller (without n cur) (left-at old (without n cur) at (ascending-without n cur a) one)),
      )

    -- all routes are done
    pub aggregated : (old cur : List (List ℕ × T)) → Aggregating same old cur None
        → KeepsMatches same old cur × AreNeeded same cur × (length cur ≤ length old)
    aggregated old cur s =
        let none = no-first s.todo s.at_is in
        let one : old ≡ s.done = s.old_is ∙ ap (λ z. s.done ++ z) none ∙ append-nil s.done in
        let two : cur ≡ s.kept = s.cur_is ∙ ap (λ z. s.kept ++ z) none ∙ append-nil s.kept in (
          subst (λ z. KeepsMatches same z cur) (sym one) (subst (KeepsMatches same s.done) (sym two) s.keeps),
          subst (AreNeeded same) (sym two) s.needed,
          let f = s.fewer in let l = ap length one in let m = ap length two in omega (arith, f, l, m),
        )

    -- some are
    pub partly-aggregated : (old cur : List (List ℕ × T)) (at : Option (List ℕ)) → IsAscending old
        → Aggregating same old cur at → KeepsMatches same old cur
    partly-aggregated old cur at a s = subst (λ z. KeepsMatches same z cur) (sym s.old_is)
        (subst (KeepsMatches same (s.done ++ s.todo)) (sym s.cur_is)
        (keeps-more same s.done s.kept s.todo (subst IsAscending s.old_is a) s.keeps))
