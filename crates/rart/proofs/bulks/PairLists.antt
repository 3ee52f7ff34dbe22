-- Keys and values that are walked side by side.
use Rattle.std.proofs.Common.{◌≡◌, ℕ, suc, List, [], ◌∷◌, length, map, refl, ap, arith}
use Rattle.std.specs.List.{zip}
use Rattle.rart_keys.specs.SortedMap.{keys_of, values_of}

zip-pairs : {V : Type 0} (es : List (List ℕ × V)) → zip (keys_of es) (values_of es) ≡ es
zip-pairs [] = refl
zip-pairs (e ∷ es) = ap (λ z. e ∷ z) (zip-pairs es)

-- keys and values that were read side by side are the pairs
pub zipped : {V : Type 0} (ks : List (List ℕ)) (vs : List V) (es : List (List ℕ × V)) → ks ≡ keys_of es
    → vs ≡ values_of es → zip ks vs ≡ es
zipped ks vs es a b = rw (a, b) (zip-pairs es)

-- there are as many pairs as keys
pub counted : {A V : Type 0} (f : A → List ℕ) (ks : List A) (vs : List V) → length ks ≡ length vs
    → length (zip (map f ks) vs) ≡ length ks
counted f [] vs e = refl
counted f (k ∷ ks) [] e = absurd (omega (arith, e))
counted f (k ∷ ks) (v ∷ vs) e = ap suc (counted f ks vs (omega (arith, e)))
