-- Where a walk over the routes of one or two tables goes next.
use Rattle.std.specs.Prelude.{ℕ, Bool, true, false, List, [], Option, Some, None, slice_get}
use Rattle.std.specs.Cmp.Lexicographic.{slice_cmp}
use Rattle.std.specs.Ordering.{match_ordering, nat_cmp}
use Rattle.rart_keys.specs.Ranges.{pairs_from}

-- the routes from a network on, or none
abbrev pub routes_from : {T : Type 0} → Option (List ℕ) → List (List ℕ × T) → List (List ℕ × T)
routes_from None es = []
routes_from (Some n) es = pairs_from true n es

-- the lesser network of two routes, and the target of each route of this network
abbrev pub least_route : {V W : Type 0} → Option (List ℕ × V) → Option (List ℕ × W)
    → Option (List ℕ × (Option V × Option W))
least_route None None = None
least_route None (Some e) = Some (e.0, (None, Some e.1))
least_route (Some d) None = Some (d.0, (Some d.1, None))
least_route (Some d) (Some e) = match_ordering (slice_cmp nat_cmp d.0 e.0) (Some (d.0, (Some d.1, None)))
    (Some (d.0, (Some d.1, Some e.1))) (Some (e.0, (None, Some e.1)))

-- the first of the later routes where the walk goes on, and else the route that it is at
abbrev pub next_if : {T : Type 0} → Bool → List (List ℕ × T) → Option (List ℕ × T) → Option (List ℕ × T)
next_if true later at = slice_get later 0
next_if false later at = at
