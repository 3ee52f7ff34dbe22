-- What a tree ends as once what was borrowed from it is over.
use Rattle.std.specs.Prelude.{◌≡◌, ℕ, List, Bool, Option, Result, OnSome, ⊤}
use Rattle.std.specs.declared.cmp.Ordering.{Ordering}
use Rattle.std.specs.Borrow.{Fml, LendsSo, LendsSoOk, MutBor, follows_so}
use mathlib.Core.Option.{none}
use denote.RattleType.{RattleType}
use Rattle.rart_keys.specs.SortedMap.{put}
use Rattle.rart_keys.specs.declared.partials.Partial as partials
use Rattle.rart.specs.MapAndShape.{MapAndShape}
use Rattle.rart.specs.contracts.tree.AdaptiveRadixTree.{the_row}

-- what a clause has as K.KeyTrait
abbrev pub KeyMembers : Type 0 → Type 0
KeyMembers K = record {
  partial_cmp : K → K → Option Ordering;
  cmp : K → K → Ordering;
  eq : K → K
      → Bool;
  MAXIMUM_SIZE : Option ℕ;
  bytes : K → List ℕ;
}

-- the type of a tree
abbrev pub tree_row : (K V P : RattleType) → KeyMembers K.Denot → partials.Ghosts P.Denot → RattleType
tree_row K V P k p = the_row K V P (record { MAXIMUM_SIZE = k.MAXIMUM_SIZE; bytes = k.bytes }) (record { eq = k.eq })
    (record { cmp = k.cmp }) (record { partial_cmp = k.partial_cmp }) p

-- whatever was borrowed from the tree only to be read, it ends as one of which E holds
abbrev pub ends_as : (K V P : RattleType) → KeyMembers K.Denot → partials.Ghosts P.Denot → MutBor (MapAndShape V.Denot)
    → (MapAndShape V.Denot → Type 0) → Fml
ends_as K V P k p tree E = follows_so (tree_row K V P k p) (tree_row K V P k p) tree.ghost_name none (λ _ _. ⊤) E

-- the value at a key was borrowed from the tree, if there is one: the tree ends with what was left at that key, and
-- with the same nodes; if nothing was borrowed, it is unchanged
abbrev pub lends_value : (K V P : RattleType) → KeyMembers K.Denot → partials.Ghosts P.Denot
    → MutBor (MapAndShape V.Denot) → List ℕ → Option (MutBor V.Denot) → Fml
lends_value K V P k p tree key lent = LendsSo (tree_row K V P k p) V tree lent
    (λ t w. OnSome lent ((t.pairs ≡ put key w tree.now.pairs) × (t.nodes ≡ tree.now.nodes))) (λ t. t ≡ tree.now)

-- the value at a key was borrowed from the tree, after an insertion if the key was new: the tree ends with what was
-- written at that key; if the insertion was refused, it is unchanged
abbrev pub lends_put : {E : Type 0} → (K V P : RattleType) → KeyMembers K.Denot → partials.Ghosts P.Denot
    → MutBor (MapAndShape V.Denot) → List ℕ → Result (MutBor V.Denot) E → Fml
lends_put K V P k p tree key lent = LendsSoOk (tree_row K V P k p) V tree lent
    (λ t w. t.pairs ≡ put key w tree.now.pairs) (λ t. t ≡ tree.now)
