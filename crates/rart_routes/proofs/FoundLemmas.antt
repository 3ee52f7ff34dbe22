-- Routes of both versions of IP, one list after the other.
use Rattle.std.proofs.Common.{◌≡◌, ◌++◌, ℕ, List, [], ◌∷◌, refl}
use Rattle.rart_keys.specs.declared.keys.array_key.ArrayKey.{ArrayKey}
use Rattle.rart_routes.specs.Found.{of_version}
use Rattle.rart_routes.specs.declared.target.TheConstants.{TARGET_SIZE}

-- no route of either version where there is none of both
pub none-of-both : (v4 v6 : List (List ℕ × ArrayKey TARGET_SIZE)) → of_version 4 v4 ++ of_version 6 v6 ≡ []
    → (v4 ≡ []) × (v6 ≡ [])
none-of-both [] [] h = (refl, refl)
none-of-both [] (e ∷ v6) h = absurd (cc)
none-of-both (e ∷ v4) v6 h = absurd (cc)
