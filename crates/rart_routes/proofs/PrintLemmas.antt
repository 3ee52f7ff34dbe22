-- Routes that are printed one after the other.
use Rattle.std.proofs.Common.{◌≡◌, ℕ, List, [], ◌∷◌, ◌++◌, Option, refl, sym, ap, subst, ◌∙◌, append_assoc, append-nil}
use Rattle.std.specs.Prelude.{codes, flat_map}
use Rattle.std.specs.Io.KnownBytes.{Appends}
use Rattle.std.proofs.lemmas.List.{flat_map_more, map-append}
use Rattle.rart_keys.specs.declared.keys.array_key.ArrayKey.{ArrayKey}
use Rattle.rart_lines.proofs.RunLemmas.{Appends-both}
use Rattle.rart_routes.specs.Answers.{PrintsRoutes, route_word, routes_in, routes_line}
use Rattle.rart_routes.specs.Net.{net_bits}
use Rattle.rart_routes.specs.declared.net.Net.{Net}
use Rattle.rart_routes.specs.declared.target.TheConstants.{TARGET_SIZE}

-- a route with its network's version and bits
abbrev pub in_bits : Net × ArrayKey TARGET_SIZE → (ℕ × List ℕ) × ArrayKey TARGET_SIZE
in_bits r = (net_bits r.0, r.1)

-- routes after the first, each after a space
abbrev further_routes : List (Net × ArrayKey TARGET_SIZE) → List ℕ
further_routes routes = flat_map (λ r. codes " " ++ route_word r) routes

-- of all routes some were printed, at least one, and these are left
pub record HasPrintedRoutes (old new : Option (List ℕ))
    (left all : List ((ℕ × List ℕ) × ArrayKey TARGET_SIZE)) : Type 0 where
  pub first : Net × ArrayKey TARGET_SIZE
  pub others : List (Net × ArrayKey TARGET_SIZE)
  pub split : routes_in (first ∷ others) ++ left ≡ all
  pub appends : Appends old new (route_word first ++ further_routes others)

-- the first route is printed
pub routes-begin : (a b : Option (List ℕ)) (route : Net × ArrayKey TARGET_SIZE)
    (all left : List ((ℕ × List ℕ) × ArrayKey TARGET_SIZE)) → all ≡ in_bits route ∷ left
    → Appends a b (route_word route) → HasPrintedRoutes a b left all
routes-begin a b route all left is h = record {
  first = route;
  others = [];
  split = sym is;
  appends = subst (Appends a b) (sym (append-nil (route_word route))) h;
}

-- a space and the next route are printed
pub routes-continue : (a b c d : Option (List ℕ)) (route : Net × ArrayKey TARGET_SIZE)
    (left rest all : List ((ℕ × List ℕ) × ArrayKey TARGET_SIZE)) → left ≡ in_bits route ∷ rest
    → HasPrintedRoutes a b left all → Appends b c (codes " ") → Appends c d (route_word route)
    → HasPrintedRoutes a d rest all
routes-continue a b c d route left rest all is h space more =
    let before = route_word h.first ++ further_routes h.others in
    let printed = Appends-both a b d before (codes " " ++ route_word route) h.appends
    (Appends-both b c d (codes " ") (route_word route) space more) in
    record {
      first = h.first;
      others = h.others ++ route ∷ [];
      split = ap (λ l. l ++ rest) (map-append in_bits (h.first ∷ h.others) (route ∷ []))
          ∙ append_assoc (routes_in (h.first ∷ h.others)) (in_bits route ∷ []) rest
          ∙ ap (λ l. routes_in (h.first ∷ h.others) ++ l) (sym is) ∙ h.split;
      appends = subst (Appends a d)
          (flat_map_more (λ r. codes " " ++ route_word r) (route_word h.first) h.others route) printed;
    }

-- the newline is printed
pub routes-end : (a b c : Option (List ℕ)) (left all : List ((ℕ × List ℕ) × ArrayKey TARGET_SIZE)) → left ≡ []
    → HasPrintedRoutes a b left all → Appends b c (10 ∷ []) → PrintsRoutes all a c
routes-end a b c left all is h more =
    let whole : routes_in (h.first ∷ h.others) ≡ all
    = sym (append-nil (routes_in (h.first ∷ h.others))) ∙ ap (λ l. routes_in (h.first ∷ h.others) ++ l) (sym is)
    ∙ h.split in (
      routes_line (h.first ∷ h.others),
      (
        (h.first ∷ h.others, whole, refl),
        Appends-both a b c (route_word h.first ++ further_routes h.others)
            (10 ∷ []) h.appends more,
      ),
    )
