-- Routes of either version of IP: a network by its version and its bits, and a target.
use Rattle.std.specs.Prelude.{◌++◌, ℕ, List, map}
use Rattle.rart_keys.specs.declared.keys.array_key.ArrayKey.{ArrayKey}
use Rattle.rart_routes.specs.declared.found.Found.{Found}
use Rattle.rart_routes.specs.declared.found.Found.TheVariants as found
use Rattle.rart_routes.specs.declared.found.Both.{Both}
use Rattle.rart_routes.specs.declared.target.TheConstants.{TARGET_SIZE}

-- routes of one version of IP
abbrev pub of_version : ℕ → List (List ℕ × ArrayKey TARGET_SIZE) → List ((ℕ × List ℕ) × ArrayKey TARGET_SIZE)
of_version version routes = map (λ e. ((version, e.0), e.1)) routes

-- the routes of both tables that are still to come
abbrev pub both_left : Both → List ((ℕ × List ℕ) × ArrayKey TARGET_SIZE)
both_left both = of_version 4 both.v4 ++ of_version 6 both.v6

-- the routes that are still to come
abbrev pub found_left : Found → List ((ℕ × List ℕ) × ArrayKey TARGET_SIZE)
found_left (found.Matches4 routes) = of_version 4 routes
found_left (found.Matches6 routes) = of_version 6 routes
found_left (found.Routes4 routes) = of_version 4 routes
found_left (found.Routes6 routes) = of_version 6 routes
found_left (found.Both both) = both_left both
