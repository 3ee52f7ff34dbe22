-- What a map from codes ends as once the loan of a target is over.
use Rattle.std.specs.Prelude.{◌≡◌, ℕ, List, [], ◌∷◌, Option, OnSome}
use Rattle.std.specs.Borrow.{Fml, LendsSo, MutBor}
use denote.RattleType.{RattleType}
use Rattle.rart_keys.specs.SortedMap.{put}
use Rattle.rart_cidr.specs.contracts.code_map.CodeMap.{the_row}

-- the target at a code was borrowed, if there is one: the map ends with what was left there; if nothing was borrowed,
-- it is unchanged
abbrev pub lends_coded : (T : RattleType) → MutBor (List (List ℕ × T.Denot)) → ℕ → Option (MutBor T.Denot) → Fml
lends_coded T map code lent = LendsSo (the_row T) T map lent
    (λ m w. OnSome lent (m ≡ put (code ∷ []) w map.now)) (λ m. m ≡ map.now)
