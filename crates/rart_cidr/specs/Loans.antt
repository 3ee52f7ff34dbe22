-- What a table or a stride ends as once the loan of a target is over.
use Rattle.std.specs.Prelude.{◌≡◌, ℕ, List, [], ◌∷◌, Option, OnSome}
use Rattle.std.specs.Borrow.{Fml, LendsSo, MutBor}
use denote.RattleType.{RattleType}
use Rattle.rart_keys.specs.SortedMap.{put}
use Rattle.rart_cidr.specs.contracts.stride.Stride.{the_row}
use Rattle.rart_cidr.specs.contracts.stride.Targets as targets
use Rattle.rart_cidr.specs.declared.stride.Targets.{Targets}
use Rattle.rart_cidr.specs.Targets.{pairs_of}

-- the target at a code was borrowed, if there is one: the stride ends with what was left there; if nothing was
-- borrowed, it is unchanged
abbrev pub lends_target : (T : RattleType) → MutBor (List (List ℕ × T.Denot)) → ℕ → Option (MutBor T.Denot) → Fml
lends_target T stride code lent = LendsSo (the_row T) T stride lent
    (λ s w. OnSome lent (s ≡ put (code ∷ []) w stride.now)) (λ s. s ≡ stride.now)

-- `lends_target` of the targets of a stride
abbrev pub lends_at : (T : RattleType) → MutBor (Targets T.Denot) → ℕ → Option (MutBor T.Denot) → Fml
lends_at T held code lent = LendsSo (targets.the_row T) T held lent
    (λ s w. OnSome lent (pairs_of s ≡ put (code ∷ []) w (pairs_of held.now))) (λ s. pairs_of s ≡ pairs_of held.now)
