-- Calls of a callback that sees keys in segments and can end a walk.
use Rattle.std.specs.Prelude.{ℕ, ◌≡◌, List, [], ◌∷◌, Result, Ok, Err}
use Rattle.std.specs.Borrow.{Bor}
use Rattle.std.specs.Fn.{Mut, Called, Takes}
use Rattle.rart_trie.specs.walks.Calls.{CallableAtEach}
use Rattle.rart_trie.specs.walks.Walk.{SegmentList}
use Rattle.rart_nodes.specs.declared.node.view.LendingKeyView.{LendingKeyView}
use Rattle.rart_nodes.specs.declared.node.control.VisitControl.{VisitControl}
use Rattle.rart_nodes.specs.declared.node.control.VisitControl.TheVariants.{Continue}
use Rattle.rart_nodes.specs.declared.node.control.VisitError.{VisitError}
use Rattle.rart_nodes.specs.declared.node.control.VisitError.TheVariants.{Callback, Memory}
use Rattle.rart_nodes.specs.walks.KeyViews.{view_segments}
use Rattle.rart_nodes.specs.walks.Tried.{ContinuesAs, CountsCall}

-- where R says how f is called with an item, what it answers and what it then is
module _ {F X E : Type 0} (R : F → X → Result VisitControl E → F → Type 0) where
  -- f is called with each item in order until it says stop or fails, and the walk ends with r and f'
  abbrev pub EndsBy : F → List X → Result (Unit {0}) E → F → Type 0
  EndsBy f [] r f' = (r ≡ Ok tt) × (f ≡ f')
  EndsBy f (x ∷ xs) r f' = (answer : Result VisitControl E) × ((next : F)
      × (R f x answer next × ContinuesAs answer next (λ h. EndsBy h xs r f') r f'))

  -- f is called n times, with the first n items in order, until it says stop or fails, and the walk ends with r and f'
  abbrev pub EndsAfterBy : F → List X → ℕ → Result (Unit {0}) E → F → Type 0
  EndsAfterBy f [] n r f' = (n ≡ 0) × ((r ≡ Ok tt) × (f ≡ f'))
  EndsAfterBy f (x ∷ xs) n r f' = (answer : Result VisitControl E) × ((next : F)
      × (R f x answer next × CountsCall answer next n (λ h m. EndsAfterBy h xs m r f') r f'))

  -- `EndsAfterBy` for a walk whose allocation can also be refused, and that then calls nothing
  abbrev pub EndsVisitBy : F → List X → Result (Unit {0}) (VisitError E) → F → Type 0
  EndsVisitBy f xs (Ok u) f' = EndsBy f xs (Ok tt) f'
  EndsVisitBy f xs (Err (Callback e)) f' = EndsBy f xs (Err e) f'
  EndsVisitBy f xs (Err Memory) f' = f ≡ f'

  abbrev pub EndsVisitAfterBy : F → List X → ℕ → Result (Unit {0}) (VisitError E) → F → Type 0
  EndsVisitAfterBy f xs n (Ok u) f' = EndsAfterBy f xs n (Ok tt) f'
  EndsVisitAfterBy f xs n (Err (Callback e)) f' = EndsAfterBy f xs n (Err e) f'
  EndsVisitAfterBy f xs n (Err Memory) f' = (n ≡ 0) × (f ≡ f')

  -- P holds of the number of calls
  abbrev pub CallsSoBy : F → List X → Result (Unit {0}) (VisitError E) → F → (ℕ → Type 0) → Type 0
  CallsSoBy f xs r f' P = (n : ℕ) × (EndsVisitAfterBy f xs n r f' × P n)

-- f was called with a view of the segments of x and with its value, returned r, and is then f'
pub record ViewedAs {F V R : Type 0} (g : Mut F (LendingKeyView × (Bor V × Unit {0})) R) (f : F) (x : SegmentList × V)
    (r : R) (f' : F) : Type 0 where
  pub key : LendingKeyView
  pub shown : Bor V
  pub key_is : view_segments key ≡ x.0
  pub shows : shown.now ≡ x.1
  pub called : Called g f (key, (shown, tt)) r f'

-- f may be called so
abbrev pub TakesViewOf : {F V R : Type 0} → Mut F (LendingKeyView × (Bor V × Unit {0})) R → F → SegmentList × V → Type 0
TakesViewOf {F} {V} g f x = (key : LendingKeyView) (shown : Bor V) → view_segments key ≡ x.0 → shown.now ≡ x.1
    → Takes g f (key, (shown, tt))

module _ {F V E : Type 0} (g : Mut F (LendingKeyView × (Bor V × Unit {0})) (Result VisitControl E)) where
  -- f may be called with a view of each pair in turn, for as long as each call has said that the walk continues
  abbrev pub CanTryView : F → List (SegmentList × V) → Type 0
  CanTryView f xs = CallableAtEach (λ p x q. ViewedAs g p x (Ok Continue) q) (λ p x. TakesViewOf g p x) f xs

  -- f is called with a view of each pair in order until it says stop or fails, and the walk ends with r and f'
  abbrev pub EndsViews : F → List (SegmentList × V) → Result (Unit {0}) E → F → Type 0
  EndsViews f xs r f' = EndsBy (λ p x a q. ViewedAs g p x a q) f xs r f'

  -- after n calls
  abbrev pub EndsViewsAfter : F → List (SegmentList × V) → ℕ → Result (Unit {0}) E → F → Type 0
  EndsViewsAfter f xs n r f' = EndsAfterBy (λ p x a q. ViewedAs g p x a q) f xs n r f'

  -- `EndsViewsAfter` for a walk whose allocation can also be refused, and that then calls nothing
  abbrev pub EndsViewVisit : F → List (SegmentList × V) → Result (Unit {0}) (VisitError E) → F → Type 0
  EndsViewVisit f xs r f' = EndsVisitBy (λ p x a q. ViewedAs g p x a q) f xs r f'

  -- P holds of the number of calls
  abbrev pub ViewsSo : F → List (SegmentList × V) → Result (Unit {0}) (VisitError E) → F → (ℕ → Type 0) → Type 0
  ViewsSo f xs r f' P = CallsSoBy (λ p x a q. ViewedAs g p x a q) f xs r f' P

  -- an f that is taken by value
  abbrev pub EndsViewVisitByValue : F → List (SegmentList × V) → Result (Unit {0}) (VisitError E) → Type 0
  EndsViewVisitByValue f xs r = (last : F) × EndsViewVisit f xs r last

  abbrev pub ViewsSoByValue : F → List (SegmentList × V) → Result (Unit {0}) (VisitError E) → (ℕ → Type 0) → Type 0
  ViewsSoByValue f xs r P = (last : F) × ViewsSo f xs r last P
