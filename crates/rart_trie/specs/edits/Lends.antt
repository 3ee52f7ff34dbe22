-- What a tree ends as once a loan of a part of it is over.
use Rattle.std.specs.Prelude.{◌≡◌, ℕ, List, Option}
use Rattle.std.specs.Borrow.{Fml, Lends, LendsSo, MutBor}
use Rattle.std.specs.contracts.option.Option.{the_row as option_row}
use denote.RattleType.{RattleType}
use Rattle.rart_keys.specs.declared.partials.Partial as partials
use Rattle.rart_trie.specs.contracts.node.DefaultNode.{the_row}
use Rattle.rart_trie.specs.edits.Loan.{EndsLent, LeavesAt}
use Rattle.rart_trie.specs.contracts.node.storage.Storage.{the_row as storage_row}
use Rattle.rart_trie.specs.declared.node.storage.Kind.{Kind}
use Rattle.rart_trie.specs.edits.NodeEdits.{stored_node}
use Rattle.rart_trie.specs.tries.Trie.{Trie, trie_put}

-- the storage was borrowed: the node ends with what was left of it
abbrev pub lends_storage : (P V : RattleType) → (G : partials.Ghosts P.Denot) → MutBor (Trie V.Denot)
    → MutBor (Kind P.Denot V.Denot (Trie V.Denot)) → Fml
lends_storage P V G node lent = Lends (the_row P V G) (storage_row P V (the_row P V G)) node lent
    (stored_node G.bytes)

-- the value at k, the rest of a key after the path to the node, was borrowed, if there is one: the node ends with what
-- was left at k; if nothing was borrowed, it is unchanged
abbrev pub lends_below : (P V : RattleType) → partials.Ghosts P.Denot → MutBor (Trie V.Denot) → List ℕ
    → Option (MutBor V.Denot) → Fml
lends_below P V G node k lent = LendsSo (the_row P V G) V node lent
    (λ n w. EndsLent lent (trie_put k w node.now) node.now n) (λ n. n ≡ node.now)

-- `lends_below` for a tree, a root or none, with what its pairs and nodes then are
abbrev pub lends_in : (P V : RattleType) → partials.Ghosts P.Denot → MutBor (Option (Trie V.Denot)) → List ℕ
    → Option (MutBor V.Denot) → Fml
lends_in P V G root k lent = LendsSo (option_row (the_row P V G)) V root lent (λ t w. LeavesAt k w lent root.now t)
    (λ t. t ≡ root.now)
