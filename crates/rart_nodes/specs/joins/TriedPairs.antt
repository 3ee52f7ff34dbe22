-- Calls of a callback at keys of two trees that can end an intersection.
use Rattle.std.specs.Prelude.{ℕ, ◌≡◌, ◌≢◌, List, [], ◌∷◌, Result, Ok, Err}
use Rattle.std.specs.Borrow.{Bor}
use Rattle.std.specs.Fn.{Mut, Called, Takes}
use Rattle.rart_trie.specs.walks.Calls.{CallableAtEach}
use Rattle.rart_nodes.specs.declared.node.control.VisitControl.{VisitControl}
use Rattle.rart_nodes.specs.declared.node.control.VisitControl.TheVariants.{Continue, Stop}
use Rattle.rart_nodes.specs.declared.node.control.VisitError.{VisitError}
use Rattle.rart_nodes.specs.declared.node.control.VisitError.TheVariants.{Memory}
use Rattle.rart_nodes.specs.walks.TriedViews.{EndsVisitBy}

-- how a walk continues or ends after an answer, as `more` continues it: an `Err` says that it ended, and with what
abbrev pub TriedOn : {F E : Type 0} → Result VisitControl E → F → (F → Type 0)
    → Result (Unit {0}) (Result (Unit {0}) E) → F → Type 0
TriedOn (Ok Continue) f more r f' = more f
TriedOn (Ok Stop) f more r f' = (r ≡ Err (Ok tt)) × (f ≡ f')
TriedOn (Err e) f more r f' = (r ≡ Err (Err e)) × (f ≡ f')

-- f is called with each item in order until it says stop or fails, of which R speaks, and is then f'
abbrev pub TriesEach : {F X E : Type 0} → (F → X → Result VisitControl E → F → Type 0) → F → List X
    → Result (Unit {0}) (Result (Unit {0}) E) → F → Type 0
TriesEach R f [] r f' = (r ≡ Ok tt) × (f ≡ f')
TriesEach {F} {X} {E} R f (x ∷ xs) r f' = (answer : Result VisitControl E) × ((next : F)
    × (R f x answer next × TriedOn answer next (λ h. TriesEach R h xs r f') r f'))

-- f was called at the key and the values x, returned r, and is then f'
pub record AnsweredAt {F K V W R : Type 0} (g : Mut F (K × (Bor V × (Bor W × Unit {0}))) R) (bytes : K → List ℕ)
    (f : F) (x : List ℕ × (V × W)) (r : R) (f' : F) : Type 0 where
  pub key : K
  pub left : Bor V
  pub right : Bor W
  pub key_is : bytes key ≡ x.0
  pub left_is : left.now ≡ x.1.0
  pub right_is : right.now ≡ x.1.1
  pub called : Called g f (key, (left, (right, tt))) r f'

-- f may be called so
abbrev pub TakesPairAt : {F K V W R : Type 0} → Mut F (K × (Bor V × (Bor W × Unit {0}))) R → (K → List ℕ) → F
    → List ℕ × (V × W) → Type 0
TakesPairAt {F} {K} {V} {W} g bytes f x = (key : K) (left : Bor V) (right : Bor W) → bytes key ≡ x.0
    → left.now ≡ x.1.0 → right.now ≡ x.1.1 → Takes g f (key, (left, (right, tt)))

module _ {F K V W E : Type 0} (g : Mut F (K × (Bor V × (Bor W × Unit {0}))) (Result VisitControl E))
    (bytes : K → List ℕ) where
  -- f may be called at each key and its values in turn, for as long as each call has said that the walk continues
  abbrev pub CanTryAt : F → List (List ℕ × (V × W)) → Type 0
  CanTryAt f xs = CallableAtEach (λ p x q. AnsweredAt g bytes p x (Ok Continue) q) (λ p x. TakesPairAt g bytes p x) f xs

  -- f is called at each key and its values in order until it says stop or fails, and the walk ends with r and f'. If
  -- its allocation was refused, it calls nothing
  abbrev pub EndsVisitAt : F → List (List ℕ × (V × W)) → Result (Unit {0}) (VisitError E) → F → Type 0
  EndsVisitAt f xs r f' = EndsVisitBy (λ p x a q. AnsweredAt g bytes p x a q) f xs r f'

  -- `EndsVisitAt` for an f taken by value
  abbrev pub EndsVisitAtByValue : F → List (List ℕ × (V × W)) → Result (Unit {0}) (VisitError E) → Type 0
  EndsVisitAtByValue f xs r = (last : F) × EndsVisitAt f xs r last

-- the allocation failed, and neither list is empty
abbrev pub MayStopForBoth : {A B E : Type 0} → List A → List B → VisitError E → Type 0
MayStopForBoth xs ys e = e ≡ Memory → (xs ≢ []) × (ys ≢ [])
