-- What the laws of insertions and removals answer, also where one of their calls was refused.
use Rattle.std.specs.Prelude.{◌≡◌, ℕ, List, Err}
use Rattle.rart_keys.specs.SortedMap.{keys_of, put}
use Rattle.rart_trie.specs.shapes.Shape.{HasShape, NodeRecord}
use Rattle.rart_trie.specs.stats.Stats.{KeyStats, stats_of}
use Rattle.rart.specs.Edits.{Inserts, Removes}
use Rattle.rart.specs.MapAndShape.{MapAndShape}
use Rattle.rart.specs.Refusals.{MayLackStats}
use Rattle.rart.specs.declared.laws.RefusedCall.{RefusedCall}
use Rattle.rart.specs.declared.laws.RefusedCall.TheVariants.{StatsBefore, Insertion, StatsBetween, Removal}
use Rattle.rart.specs.declared.laws.RefusedCall.TheVariants.{StatsAfter}

-- the statistics of a tree with these keys: their nodes are the ones of the keys' shape
abbrev pub IsCounted : List (List ℕ) → KeyStats → Type 0
IsCounted keys numbers = (nodes : List (List ℕ × NodeRecord)) → HasShape keys nodes → numbers ≡ stats_of keys nodes

module _ {V : Type 0} where
  -- the inserted pair is stored, and the nodes have the shape of the keys with it
  abbrev pub HoldsPair : List ℕ → V → MapAndShape V → MapAndShape V → Type 0
  HoldsPair key value old new = (new.pairs ≡ put key value old.pairs) × HasShape (keys_of new.pairs) new.nodes

  -- the call that was refused, for a reason that the keys allow, and the state after it
  abbrev pub RefusesCall : List ℕ → V → MapAndShape V → MapAndShape V → RefusedCall V → Type 0
  RefusesCall key value old new (StatsBefore error) = MayLackStats (keys_of old.pairs) error × (new ≡ old)
  RefusesCall key value old new (Insertion refused) = Inserts key value old.pairs new.pairs (Err refused) × (new ≡ old)
  RefusesCall key value old new (StatsBetween error) = MayLackStats (keys_of new.pairs) error
      × HoldsPair key value old new
  RefusesCall key value old new (Removal error) = Removes key (put key value old.pairs) new.pairs (Err error)
      × HoldsPair key value old new
  RefusesCall key value old new (StatsAfter error) = MayLackStats (keys_of old.pairs) error
      × (new.pairs ≡ old.pairs) × (new.nodes ≡ old.nodes)
