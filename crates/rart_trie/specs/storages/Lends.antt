-- What a storage ends as once the loan of a child or of the value is over.
use Rattle.std.specs.Prelude.{ℕ, Option}
use Rattle.std.specs.Borrow.{Fml, LendsSo, MutBor}
use denote.RattleType.{RattleType}
use Rattle.rart_trie.specs.contracts.node.storage.Storage.{the_row}
use Rattle.rart_trie.specs.declared.node.storage.Kind.{Kind}
use Rattle.rart_trie.specs.storages.Stored.{LeavesValue, StoresLent, StoresSame}

-- the child at b was borrowed, if there is one: the storage ends with what was left at b, in the same capacity; if
-- nothing was borrowed, it is unchanged
abbrev pub lends_child : (P V N : RattleType) → MutBor (Kind P.Denot V.Denot N.Denot) → ℕ → Option (MutBor N.Denot)
    → Fml
lends_child P V N storage b lent = LendsSo (the_row P V N) N storage lent (λ s w. StoresLent b w lent storage.now s)
    (StoresSame storage.now)

-- the value was borrowed, if there is one: the storage ends with what was left of it; if nothing was borrowed, it is
-- unchanged
abbrev pub lends_value : (P V N : RattleType) → MutBor (Kind P.Denot V.Denot N.Denot) → Option (MutBor V.Denot) → Fml
lends_value P V N storage lent = LendsSo (the_row P V N) V storage lent
    (λ s w. LeavesValue w lent storage.now s) (StoresSame storage.now)
