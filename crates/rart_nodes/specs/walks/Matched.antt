-- Calls of a callback with a lent key and a value.
use Rattle.std.specs.Prelude.{ℕ, ◌≡◌, List}
use Rattle.std.specs.Borrow.{Bor}
use Rattle.std.specs.Fn.{Mut, Called, Takes}
use Rattle.std.specs.List.{FoldsTo}
use Rattle.rart_trie.specs.walks.Calls.{CallableAtEach, CallsEach}

-- f was called with the key and the value of x, and is then f'
pub record Matched {F V : Type 0} (g : Mut F (Bor (List ℕ) × (Bor V × Unit {0})) (Unit {0})) (f : F) (x : List ℕ × V)
    (f' : F) : Type 0 where
  pub key : Bor (List ℕ)
  pub shown : Bor V
  pub key_is : key.now ≡ x.0
  pub shows : shown.now ≡ x.1
  pub called : Called g f (key, (shown, tt)) tt f'

module _ {F V : Type 0} (g : Mut F (Bor (List ℕ) × (Bor V × Unit {0})) (Unit {0})) where
  -- f may be called with the key and the value of x
  abbrev pub TakesMatch : F → List ℕ × V → Type 0
  TakesMatch f x = (key : Bor (List ℕ)) (shown : Bor V) → key.now ≡ x.0 → shown.now ≡ x.1 → Takes g f (key, (shown, tt))

  -- f may be called with each pair in turn
  abbrev pub CanMatch : F → List (List ℕ × V) → Type 0
  CanMatch f xs = CallableAtEach (λ p x q. Matched g p x q) (λ p x. TakesMatch p x) f xs

  -- f was called with each pair in turn, and is then f'
  abbrev pub MatchesEach : F → List (List ℕ × V) → F → Type 0
  MatchesEach f xs f' = FoldsTo (λ p x q. Matched g p x q) f xs f'

  -- `MatchesEach` for an f taken by value
  abbrev pub MatchesEachByValue : F → List (List ℕ × V) → Type 0
  MatchesEachByValue f xs = CallsEach (λ p x q. Matched g p x q) f xs
