-- Calls of a callback with a lent key and a value that can end a walk.
use Rattle.std.specs.Prelude.{ℕ, ◌≡◌, List, [], ◌∷◌, Option, Some, None, IfSome, Result, Ok}
use Rattle.std.specs.Prelude.{Err}
use Rattle.std.specs.Borrow.{Bor}
use Rattle.std.specs.Fn.{Mut, Called, Takes}
use Rattle.rart_trie.specs.walks.Calls.{CallableAtEach}
use Rattle.rart_nodes.specs.declared.node.control.VisitControl.{VisitControl}
use Rattle.rart_nodes.specs.declared.node.control.VisitControl.TheVariants.{Continue, Stop}
use Rattle.rart_nodes.specs.walks.TriedViews.{EndsBy}

-- f was called with the key and the value of x, returned r, and is then f'
pub record MatchedAs {F V R : Type 0} (g : Mut F (Bor (List ℕ) × (Bor V × Unit {0})) R) (f : F) (x : List ℕ × V) (r : R)
    (f' : F) : Type 0 where
  pub key : Bor (List ℕ)
  pub shown : Bor V
  pub key_is : key.now ≡ x.0
  pub shows : shown.now ≡ x.1
  pub called : Called g f (key, (shown, tt)) r f'

-- f may be called so
abbrev pub TakesMatchOf : {F V R : Type 0} → Mut F (Bor (List ℕ) × (Bor V × Unit {0})) R → F → List ℕ × V → Type 0
TakesMatchOf {F} {V} g f x = (key : Bor (List ℕ)) (shown : Bor V) → key.now ≡ x.0 → shown.now ≡ x.1
    → Takes g f (key, (shown, tt))

-- how a walk continues or ends after an answer at the key k, as `more` continues it; `end` is the key that ended it
abbrev pub EndsAtKey : {F E : Type 0} → Result VisitControl E → F → List ℕ → (F → Type 0) → Result (Unit {0}) E → F
    → Option (List ℕ) → Type 0
EndsAtKey (Ok Continue) f k more r f' end = more f
EndsAtKey (Ok Stop) f k more r f' end = (r ≡ Ok tt) × ((f ≡ f') × (end ≡ Some k))
EndsAtKey (Err e) f k more r f' end = (r ≡ Err e) × ((f ≡ f') × (end ≡ Some k))

module _ {F V E : Type 0} (g : Mut F (Bor (List ℕ) × (Bor V × Unit {0})) (Result VisitControl E)) where
  -- f may be called with each pair in turn, for as long as each call has said that the walk continues
  abbrev pub CanTryMatch : F → List (List ℕ × V) → Type 0
  CanTryMatch f xs = CallableAtEach (λ p x q. MatchedAs g p x (Ok Continue) q) (λ p x. TakesMatchOf g p x) f xs

  -- f is called with each pair in order until it says stop or fails, and the walk ends with r and f'
  abbrev pub EndsMatches : F → List (List ℕ × V) → Result (Unit {0}) E → F → Type 0
  EndsMatches f xs r f' = EndsBy (λ p x a q. MatchedAs g p x a q) f xs r f'

  -- f is called with each pair in order, and the walk ends with r and f', at the key `end` unless all were given
  abbrev pub EndsMatchesAt : F → List (List ℕ × V) → Result (Unit {0}) E → F → Option (List ℕ) → Type 0
  EndsMatchesAt f [] r f' end = (r ≡ Ok tt) × ((f ≡ f') × (end ≡ None))
  EndsMatchesAt f (x ∷ xs) r f' end = (answer : Result VisitControl E) × ((next : F)
      × (MatchedAs g f x answer next × EndsAtKey answer next x.0 (λ h. EndsMatchesAt h xs r f' end) r f' end))

  -- P holds of the key that ended the walk, if one did
  abbrev pub EndsMatchesSo : F → List (List ℕ × V) → Result (Unit {0}) E → F → (List ℕ → Type 0) → Type 0
  EndsMatchesSo f xs r f' P = (end : Option (List ℕ)) × (EndsMatchesAt f xs r f' end × IfSome end P)

  -- `EndsMatches` for an f taken by value
  abbrev pub EndsMatchesByValue : F → List (List ℕ × V) → Result (Unit {0}) E → Type 0
  EndsMatchesByValue f xs r = (last : F) × EndsMatches f xs r last
