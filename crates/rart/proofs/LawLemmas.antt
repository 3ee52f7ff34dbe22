-- What one tree's statistics are, by its keys alone, and after an insertion and a removal.
use Rattle.std.proofs.Common.{◌≡◌, ℕ, List, ap, sym, ◌∙◌}
use Rattle.rart_keys.specs.SortedMap.{keys_of, put, without}
use Rattle.rart_trie.specs.shapes.Shape.{HasShape, NodeRecord}
use Rattle.rart_trie.specs.stats.Stats.{KeyStats, stats_of}
use Rattle.rart.specs.LawAnswers.{IsCounted}
use Rattle.rart.specs.MapAndShape.{MapAndShape}

-- keys have one shape
abbrev OneShape : Type 0
OneShape = (s : List (List ℕ)) (xs ys : List (List ℕ × NodeRecord)) → HasShape s xs → HasShape s ys → xs ≡ ys

module _ {V : Type 0} where
  -- the numbers of a tree are those of any nodes of its keys' shape
  pub counted-by-keys : (m : List (List ℕ × V)) (tree : MapAndShape V) (numbers : KeyStats) → OneShape
      → tree.pairs ≡ m → numbers ≡ stats_of (keys_of tree.pairs) tree.nodes → HasShape (keys_of tree.pairs) tree.nodes
      → IsCounted (keys_of m) numbers
  counted-by-keys m tree numbers one same said shape others theirs =
      said ∙ ap (λ k. stats_of (keys_of k) tree.nodes) same
      ∙ ap (stats_of (keys_of m)) (one _ _ _ (rw same at shape) theirs)

  -- a pair that was inserted and removed again
  pub pairs-restored : (key : List ℕ) (value : V) (old between new : List (List ℕ × V)) → between ≡ put key value old
      → new ≡ without key between → without key (put key value old) ≡ old → new ≡ old
  pairs-restored key value old between new added taken law = taken ∙ ap (without key) added ∙ law

  -- trees with the same pairs have the same nodes
  pub same-nodes : (one-tree other : MapAndShape V) → OneShape → other.pairs ≡ one-tree.pairs
      → HasShape (keys_of other.pairs) other.nodes → HasShape (keys_of one-tree.pairs) one-tree.nodes
      → other.nodes ≡ one-tree.nodes
  same-nodes one-tree other one same theirs ours = one _ _ _ (rw same at theirs) ours

  -- and the same statistics
  pub same-stats : (one-tree other : MapAndShape V) (ours theirs : KeyStats) → other.pairs ≡ one-tree.pairs
      → other.nodes ≡ one-tree.nodes → ours ≡ stats_of (keys_of one-tree.pairs) one-tree.nodes
      → theirs ≡ stats_of (keys_of other.pairs) other.nodes → theirs ≡ ours
  same-stats one-tree other ours theirs pairs nodes said says
      = says ∙ ap (λ k. stats_of (keys_of k) other.nodes) pairs ∙ ap (stats_of (keys_of one-tree.pairs)) nodes
      ∙ sym said
