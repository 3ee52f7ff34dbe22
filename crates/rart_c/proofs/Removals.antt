-- The removal of a key that is not stored.
use Rattle.std.proofs.Common.{◌≡◌, List, [], ◌∷◌, Bool, true, false, None, Some, not, refl, ap, ℕ}
use Rattle.std.specs.Prelude.{if◌then◌else◌}
use Rattle.rart_keys.specs.ByteStrings.{bytes_eq}
use Rattle.rart_keys.specs.SortedMap.{lookup, without}

kept : (b : Bool) (k : List ℕ) (e : List ℕ × ℕ) (es : List (List ℕ × ℕ))
    → (lookup k es ≡ None → without k es ≡ es)
    → (if b then Some e.1 else lookup k es) ≡ None → (if not b then e ∷ without k es else without k es) ≡ e ∷ es
kept true k e es same absent = cc
kept false k e es same absent = ap (λ fs. e ∷ fs) (same absent)

pub without-absent : (k : List ℕ) (es : List (List ℕ × ℕ)) → lookup k es ≡ None → without k es ≡ es
without-absent k [] absent = refl
without-absent k (e ∷ es) absent = kept (bytes_eq e.0 k) k e es (without-absent k es) absent
