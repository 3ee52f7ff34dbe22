-- What taking the pair at an end leaves.
use Rattle.std.specs.Prelude.{ℕ, ◌≡◌, List, [], ◌∷◌, ◌++◌, true, Option, Some, None, MatchOption}
use Rattle.rart_trie.specs.declared.node.ends.End.{End}
use Rattle.rart_trie.specs.declared.node.ends.End.TheVariants.{First, Last}
use Rattle.rart_trie.specs.edits.RemoveAllocations.{trie_remove_allocates}
use Rattle.rart_trie.specs.tries.Ends.{end_of}
use Rattle.rart_trie.specs.tries.Trie.{Trie, pairs_of, trie_remove}

-- the first pair was taken from a list, or there was none
abbrev pub PopsFirst : {A : Type 0} → List A → Option A → List A → Type 0
PopsFirst old taken new = MatchOption taken ((old ≡ []) × (new ≡ [])) (λ x. old ≡ x ∷ new)

-- the last pair was
abbrev pub PopsLast : {A : Type 0} → List A → Option A → List A → Type 0
PopsLast old taken new = MatchOption taken ((old ≡ []) × (new ≡ [])) (λ x. old ≡ new ++ x ∷ [])

abbrev pub PopsEnd : {A : Type 0} → End → List A → Option A → List A → Type 0
PopsEnd First old taken new = PopsFirst old taken new
PopsEnd Last old taken new = PopsLast old taken new

-- The pair at an end was removed from a trie: its value was taken, and its key follows the bytes q in r.
pub record Pops {V : Type 0} (e : End) (old : Trie V) (q r : List ℕ) (taken : Option V) (new : Trie V) : Type 0 where
  pub pair : List ℕ × V
  pub here : end_of e (pairs_of old) ≡ Some pair
  pub path : r ≡ q ++ pair.0
  pub value : taken ≡ Some pair.1
  pub rest : Some new ≡ trie_remove pair.0 old

-- the removal of that pair requests memory
pub record PopAllocates {V : Type 0} (e : End) (old : Trie V) : Type 0 where
  pub pair : List ℕ × V
  pub here : end_of e (pairs_of old) ≡ Some pair
  pub allocates : trie_remove_allocates None pair.0 old ≡ true
