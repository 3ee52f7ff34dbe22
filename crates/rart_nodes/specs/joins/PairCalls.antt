-- Calls of a callback at pairs of values.
use Rattle.std.specs.Prelude.{ℕ, ◌≡◌, List}
use Rattle.std.specs.Borrow.{Bor}
use Rattle.std.specs.Fn.{Mut, Called, Takes}
use Rattle.std.specs.List.{FoldsTo}
use Rattle.rart_trie.specs.walks.Calls.{CallableAtEach, CallsEach}

-- f was called at the values x, and is then f'
pub record CalledWith {F V W : Type 0} (g : Mut F (Bor V × (Bor W × Unit {0})) (Unit {0})) (f : F) (x : V × W)
    (f' : F) : Type 0 where
  pub left : Bor V
  pub right : Bor W
  pub left_is : left.now ≡ x.0
  pub right_is : right.now ≡ x.1
  pub called : Called g f (left, (right, tt)) tt f'

module _ {F V W : Type 0} (g : Mut F (Bor V × (Bor W × Unit {0})) (Unit {0})) where
  -- f may be called at the values x
  abbrev pub TakesWith : F → V × W → Type 0
  TakesWith f x = (left : Bor V) (right : Bor W) → left.now ≡ x.0 → right.now ≡ x.1 → Takes g f (left, (right, tt))

  -- f may be called at each two values in turn
  abbrev pub CanCallWith : F → List (V × W) → Type 0
  CanCallWith f xs = CallableAtEach (λ p x q. CalledWith g p x q) (λ p x. TakesWith p x) f xs

  -- f was called at each two values in turn, and is then f'
  abbrev pub CallsWithEach : F → List (V × W) → F → Type 0
  CallsWithEach f xs f' = FoldsTo (λ p x q. CalledWith g p x q) f xs f'

  -- `CallsWithEach` for an f taken by value
  abbrev pub CallsWithEachByValue : F → List (V × W) → Type 0
  CallsWithEachByValue f xs = CallsEach (λ p x q. CalledWith g p x q) f xs

-- f was called at the key and the values x, and is then f'
pub record CalledAt {F K V W : Type 0} (g : Mut F (K × (Bor V × (Bor W × Unit {0}))) (Unit {0})) (bytes : K
    → List ℕ) (f : F) (x : List ℕ × (V × W)) (f' : F) : Type 0 where
  pub key : K
  pub left : Bor V
  pub right : Bor W
  pub key_is : bytes key ≡ x.0
  pub left_is : left.now ≡ x.1.0
  pub right_is : right.now ≡ x.1.1
  pub called : Called g f (key, (left, (right, tt))) tt f'

module _ {F K V W : Type 0} (g : Mut F (K × (Bor V × (Bor W × Unit {0}))) (Unit {0})) (bytes : K → List ℕ) where
  -- f may be called at the key and the values x
  abbrev pub TakesAtKey : F → List ℕ × (V × W) → Type 0
  TakesAtKey f x = (key : K) (left : Bor V) (right : Bor W) → bytes key ≡ x.0 → left.now ≡ x.1.0 → right.now ≡ x.1.1
      → Takes g f (key, (left, (right, tt)))

  -- f may be called at each key and its values in turn
  abbrev pub CanCallAt : F → List (List ℕ × (V × W)) → Type 0
  CanCallAt f xs = CallableAtEach (λ p x q. CalledAt g bytes p x q) (λ p x. TakesAtKey p x) f xs

  -- f was called at each key and its values in turn, and is then f'
  abbrev pub CallsAtEach : F → List (List ℕ × (V × W)) → F → Type 0
  CallsAtEach f xs f' = FoldsTo (λ p x q. CalledAt g bytes p x q) f xs f'

  -- `CallsAtEach` for an f taken by value
  abbrev pub CallsAtEachByValue : F → List (List ℕ × (V × W)) → Type 0
  CallsAtEachByValue f xs = CallsEach (λ p x q. CalledAt g bytes p x q) f xs
