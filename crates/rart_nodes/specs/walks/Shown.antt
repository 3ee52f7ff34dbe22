-- Calls of a callback with a value.
use Rattle.std.specs.Prelude.{◌≡◌, List}
use Rattle.std.specs.Borrow.{Bor}
use Rattle.std.specs.Fn.{Mut, Called, Takes, TakesAt}
use Rattle.std.specs.List.{FoldsTo}
use Rattle.rart_trie.specs.walks.Calls.{CallableAtEach, CallsEach}

-- f was called with the value x, and is then f'
pub record Shown {F V : Type 0} (g : Mut F (Bor V × Unit {0}) (Unit {0})) (f : F) (x : V) (f' : F) : Type 0 where
  pub shown : Bor V
  pub shows : shown.now ≡ x
  pub called : Called g f (shown, tt) tt f'

module _ {F V : Type 0} (g : Mut F (Bor V × Unit {0}) (Unit {0})) where
  -- f may be called with each value in turn
  abbrev pub CanShow : F → List V → Type 0
  CanShow f xs = CallableAtEach (λ p x q. Shown g p x q) (λ p x. TakesAt g p x) f xs

  -- f was called with each value in turn, and is then f'
  abbrev pub ShowsEach : F → List V → F → Type 0
  ShowsEach f xs f' = FoldsTo (λ p x q. Shown g p x q) f xs f'

  -- `ShowsEach` for an f taken by value
  abbrev pub ShowsEachByValue : F → List V → Type 0
  ShowsEachByValue f xs = CallsEach (λ p x q. Shown g p x q) f xs

-- f was called with the state of p and the value x, and q is what it then is and what it answered
pub record Folded {F S V : Type 0} (g : Mut F (S × (Bor V × Unit {0})) S) (p : F × S) (x : V) (q : F × S) : Type 0 where
  pub shown : Bor V
  pub shows : shown.now ≡ x
  pub called : Called g p.0 (p.1, (shown, tt)) q.1 q.0

module _ {F S V : Type 0} (g : Mut F (S × (Bor V × Unit {0})) S) where
  -- f may be called with a state and a value
  abbrev pub TakesState : F × S → V → Type 0
  TakesState p x = (shown : Bor V) → shown.now ≡ x → Takes g p.0 (p.1, (shown, tt))

  -- f may be called with each value in turn, from the state s on
  abbrev pub CanFold : F → S → List V → Type 0
  CanFold f s xs = CallableAtEach {F = F × S} (λ p x q. Folded g p x q) (λ p x. TakesState p x) (f, s) xs

  -- f was called with each value in turn, from the state s on, and answered r last, and is then f'
  abbrev pub FoldsEach : F → S → List V → F → S → Type 0
  FoldsEach f s xs f' r = FoldsTo {P = F × S} (λ p x q. Folded g p x q) (f, s) xs (f', r)

  -- `FoldsEach` for an f taken by value
  abbrev pub FoldsEachByValue : F → S → List V → S → Type 0
  FoldsEachByValue f s xs r = (f' : F) × FoldsEach f s xs f' r
