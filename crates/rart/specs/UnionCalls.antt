-- Calls of a callback with a key and its value in each of two maps.
use Rattle.std.specs.Prelude.{ℕ, ◌≡◌, ◌≢◌, ◌⊎◌, List, [], Option}
use Rattle.std.specs.Borrow.{Bor}
use Rattle.std.specs.Fn.{Mut, Called, Takes}
use Rattle.std.specs.List.{FoldsTo}
use Rattle.std.specs.Option.{option_copied}
use Rattle.rart_parts.specs.declared.error.TreeError.{TreeError}
use Rattle.rart_parts.specs.declared.error.TreeError.TheVariants.{Memory}
use Rattle.rart_trie.specs.walks.Calls.{CallableAtEach, CallsEach}

-- f was called at the key and the values x, and is then f'
pub record CalledAtEither {F K V W : Type 0}
    (g : Mut F (K × (Option (Bor V) × (Option (Bor W) × Unit {0}))) (Unit {0})) (bytes : K → List ℕ) (f : F)
    (x : List ℕ × (Option V × Option W)) (f' : F) : Type 0 where
  pub key : K
  pub left : Option (Bor V)
  pub right : Option (Bor W)
  pub key_is : bytes key ≡ x.0
  pub left_is : option_copied left ≡ x.1.0
  pub right_is : option_copied right ≡ x.1.1
  pub called : Called g f (key, (left, (right, tt))) tt f'

module _ {F K V W : Type 0} (g : Mut F (K × (Option (Bor V) × (Option (Bor W) × Unit {0}))) (Unit {0}))
    (bytes : K → List ℕ) where
  -- f may be called at the key and the values x
  abbrev pub TakesEither : F → List ℕ × (Option V × Option W) → Type 0
  TakesEither f x = (key : K) (left : Option (Bor V)) (right : Option (Bor W)) → bytes key ≡ x.0
      → option_copied left ≡ x.1.0 → option_copied right ≡ x.1.1 → Takes g f (key, (left, (right, tt)))

  -- f may be called at each key and its values in turn
  abbrev pub CanCallAtEither : F → List (List ℕ × (Option V × Option W)) → Type 0
  CanCallAtEither f xs = CallableAtEach (λ p x q. CalledAtEither g bytes p x q) (λ p x. TakesEither p x) f xs

  -- f was called at each key and its values in turn, and is then f'
  abbrev pub CallsAtEither : F → List (List ℕ × (Option V × Option W)) → F → Type 0
  CallsAtEither f xs f' = FoldsTo (λ p x q. CalledAtEither g bytes p x q) f xs f'

  -- `CallsAtEither` for an f taken by value
  abbrev pub CallsAtEitherByValue : F → List (List ℕ × (Option V × Option W)) → Type 0
  CallsAtEitherByValue f xs = CallsEach (λ p x q. CalledAtEither g bytes p x q) f xs

-- memory was refused, and one of the two has pairs
abbrev pub MayLackEither : {A B : Type 0} → List A → List B → TreeError → Type 0
MayLackEither xs ys e = (e ≡ Memory) × ((xs ≢ []) ⊎ (ys ≢ []))
