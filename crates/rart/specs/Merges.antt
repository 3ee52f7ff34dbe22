-- What `merge_with` does with each pair of another tree: it is moved, or merged into the value of its key.
use Rattle.std.specs.Prelude.{◌≡◌, ◌++◌, ◌∷◌, ℕ, List, Option, Some, None}
use Rattle.std.specs.Borrow.{Bor, MutBor}
use Rattle.std.specs.Fn.{Called, Mut, Takes}
use Rattle.std.specs.List.{FoldsTo}
use Rattle.rart_keys.specs.SortedMap.{lookup, put}
use Rattle.rart_trie.specs.declared.refused.Refused.{Refused}
use Rattle.rart_trie.specs.walks.Calls.{CallableAtEach}
use Rattle.rart.specs.Appends.{IsNotMoved}

-- f was called with the key of x, a loan of the value v and the value of x: it left w, and is then f'
pub record CalledToMerge {F K V : Type 0}
    (call : Mut F (Bor K × (MutBor V × (V × Unit {0}))) (Unit {0} × (MutBor V × Unit {0}))) (bytes : K → List ℕ)
    (f : F) (x : List ℕ × V) (v w : V) (f' : F) : Type 0 where
  pub key : Bor K
  pub key_is : bytes key.now ≡ x.0
  pub lent : MutBor V
  pub lent_is : lent.now ≡ v
  pub left : MutBor V
  pub leaves : left.now ≡ w
  pub called : Called call f (key, (lent, (x.1, tt))) (tt, (left, tt)) f'

module _ {F K V : Type 0} (call : Mut F (Bor K × (MutBor V × (V × Unit {0}))) (Unit {0} × (MutBor V × Unit {0})))
    (bytes : K → List ℕ) where
  -- the pair x is put into the map of p: without a call if its key has no value yet, and what f leaves of v if it has v
  abbrev pub MergesInto : Option V → F × List (List ℕ × V) → List ℕ × V → F × List (List ℕ × V) → Type 0
  MergesInto None p x q = (q.0 ≡ p.0) × (q.1 ≡ put x.0 x.1 p.1)
  MergesInto (Some v) p x q = (w : V) × (CalledToMerge call bytes p.0 x v w q.0 × (q.1 ≡ put x.0 w p.1))

  -- the pair x is merged: p is the callback and the map before it, q after it
  abbrev pub MergesPair : F × List (List ℕ × V) → List ℕ × V → F × List (List ℕ × V) → Type 0
  MergesPair p x q = MergesInto (lookup x.0 p.1) p x q

  -- f may be called with the key and the value of x, and a loan of what the key has, if it has a value
  abbrev pub TakesMerge : Option V → F → List ℕ × V → Type 0
  TakesMerge o f x = (key : Bor K) (lent : MutBor V) → bytes key.now ≡ x.0 → o ≡ Some lent.now
      → Takes call f (key, (lent, (x.1, tt)))

  -- f may be called wherever a pair of `other` is merged into the map, one after the other
  abbrev pub CanMerge : F → List (List ℕ × V) → List (List ℕ × V) → Type 0
  CanMerge f map other = CallableAtEach {F = F × List (List ℕ × V)} (λ p x q. MergesPair p x q)
      (λ p x. TakesMerge (lookup x.0 p.1) p.0 x) (f, map) other

  -- the pairs of `other` are merged into the map, one after the other; then f is f' and the map is `new`
  abbrev pub Merges : F → List (List ℕ × V) → List (List ℕ × V) → F → List (List ℕ × V) → Type 0
  Merges f map other f' new = FoldsTo {P = F × List (List ℕ × V)} (λ p x q. MergesPair p x q) (f, map) other (f', new)

  -- the pairs of `other` before those that are left were merged
  pub record MergesFirst (f : F) (old other : List (List ℕ × V)) (f' : F) (new left : List (List ℕ × V)) : Type 0 where
    pub before : List (List ℕ × V)
    pub split : other ≡ before ++ left
    pub merged : Merges f old before f' new

  -- the pairs of `other` before one were merged, and that one was refused
  pub record MergesUntil (f : F) (old other : List (List ℕ × V)) (refused : Refused (Option (K × V))) (f' : F)
      (new left : List (List ℕ × V)) : Type 0 where
    pub before : List (List ℕ × V)
    pub pair : List ℕ × V
    pub rest : List (List ℕ × V)
    pub split : other ≡ before ++ pair ∷ rest
    pub merged : Merges f old before f' new
    pub kept : IsNotMoved bytes new pair rest refused.error refused.value left

  -- `Merges` for an f taken by value
  abbrev pub MergesByValue : F → List (List ℕ × V) → List (List ℕ × V) → List (List ℕ × V) → Type 0
  MergesByValue f map other new = (last : F) × Merges f map other last new

  -- `MergesUntil` for an f taken by value
  abbrev pub MergesUntilByValue : F → List (List ℕ × V) → List (List ℕ × V) → Refused (Option (K × V))
      → List (List ℕ × V) → List (List ℕ × V) → Type 0
  MergesUntilByValue f old other refused new left = (last : F) × MergesUntil f old other refused last new left
