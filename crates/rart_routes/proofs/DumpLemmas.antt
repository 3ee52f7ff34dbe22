-- Routes that are written as lines that load them, one after the other.
use Rattle.std.proofs.Common.{◌≡◌, ℕ, List, [], ◌∷◌, ◌++◌, Option, refl, sym, ap, subst, ◌∙◌, append_assoc, append-nil}
use Rattle.std.specs.Prelude.{flat_map}
use Rattle.std.specs.Io.KnownBytes.{Appends}
use Rattle.std.proofs.lemmas.List.{flat_map_more, map-append}
use Rattle.rart_keys.specs.declared.keys.array_key.ArrayKey.{ArrayKey}
use Rattle.rart_lines.proofs.RunLemmas.{Appends-both}
use Rattle.rart_routes.specs.Answers.{PrintsDump, dumped_line, routes_in}
use Rattle.rart_routes.specs.declared.net.Net.{Net}
use Rattle.rart_routes.specs.declared.target.TheConstants.{TARGET_SIZE}
use Rattle.rart_routes.proofs.EndLemmas.{Appends-kept, Keeps-same}
use Rattle.rart_routes.proofs.PrintLemmas.{in_bits}

-- of all routes some were written, and these are left
pub record HasDumped (old new : Option (List ℕ)) (left all : List ((ℕ × List ℕ) × ArrayKey TARGET_SIZE)) : Type 0 where
  pub routes : List (Net × ArrayKey TARGET_SIZE)
  pub split : routes_in routes ++ left ≡ all
  pub appends : Appends old new (flat_map dumped_line routes)

-- none is written
pub dump-begin : (a : Option (List ℕ)) (all : List ((ℕ × List ℕ) × ArrayKey TARGET_SIZE)) → HasDumped a a all all
dump-begin a all = record { routes = []; split = refl; appends = Appends-kept a a (Keeps-same a) }

-- the next is written
pub dump-continue : (a b c : Option (List ℕ)) (route : Net × ArrayKey TARGET_SIZE)
    (left rest all : List ((ℕ × List ℕ) × ArrayKey TARGET_SIZE)) → left ≡ in_bits route ∷ rest
    → HasDumped a b left all → Appends b c (dumped_line route) → HasDumped a c rest all
dump-continue a b c route left rest all is h more = record {
  routes = h.routes ++ route ∷ [];
  split = ap (λ l. l ++ rest) (map-append in_bits h.routes (route ∷ []))
      ∙ append_assoc (routes_in h.routes) (in_bits route ∷ []) rest ∙ ap (λ l. routes_in h.routes ++ l) (sym is)
      ∙ h.split;
  appends = subst (Appends a c) (flat_map_more dumped_line [] h.routes route)
      (Appends-both a b c (flat_map dumped_line h.routes) (dumped_line route) h.appends more);
}

-- none is left
pub dump-end : (a b : Option (List ℕ)) (left all : List ((ℕ × List ℕ) × ArrayKey TARGET_SIZE)) → left ≡ []
    → HasDumped a b left all → PrintsDump all a b
dump-end a b left all is h
    = (
      flat_map dumped_line h.routes,
      (
        (
          h.routes,
          sym (append-nil (routes_in h.routes)) ∙ ap (λ l. routes_in h.routes ++ l) (sym is) ∙ h.split,
          refl,
        ),
        h.appends,
      ),
    )
