-- Calls of a callback with a key that is lent in segments.
use Rattle.std.specs.Prelude.{ℕ, ◌≡◌, Bool, true, false, List, Option, Some, None, IsSomeAnd}
use Rattle.std.specs.Borrow.{Bor}
use Rattle.std.specs.Fn.{Mut, Once, Called, Takes}
use Rattle.std.specs.List.{FoldsTo}
use Rattle.rart_trie.specs.walks.Calls.{CallableAtEach, CallsEach}
use Rattle.rart_trie.specs.walks.Cut.{cut}
use Rattle.rart_nodes.specs.walks.KeyViews.{view_segments}
use Rattle.rart_trie.specs.walks.Walk.{SegmentList}
use Rattle.rart_nodes.specs.walks.PathParts.{lent_segments}
use Rattle.rart_nodes.specs.declared.node.path_walk.path.SegmentPath.{SegmentPath}
use Rattle.rart_nodes.specs.declared.node.view.LendingKeyView.{LendingKeyView}

-- f was called with a view of the segments of x and with its value, and is then f'
pub record Viewed {F V : Type 0} (g : Mut F (LendingKeyView × (Bor V × Unit {0})) (Unit {0})) (f : F) (x : SegmentList
    × V) (f' : F) : Type 0 where
  pub key : LendingKeyView
  pub shown : Bor V
  pub key_is : view_segments key ≡ x.0
  pub shows : shown.now ≡ x.1
  pub called : Called g f (key, (shown, tt)) tt f'

module _ {F V : Type 0} (g : Mut F (LendingKeyView × (Bor V × Unit {0})) (Unit {0})) where
  -- f may be called with a view of the segments of x and with its value
  abbrev pub TakesView : F → SegmentList × V → Type 0
  TakesView f x = (key : LendingKeyView) (shown : Bor V) → view_segments key ≡ x.0 → shown.now ≡ x.1
      → Takes g f (key, (shown, tt))

  -- f may be called with a view of each pair in turn
  abbrev pub CanView : F → List (SegmentList × V) → Type 0
  CanView f xs = CallableAtEach (λ p x q. Viewed g p x q) (λ p x. TakesView p x) f xs

  -- f was called with a view of each pair in turn, and is then f'
  abbrev pub ViewsEach : F → List (SegmentList × V) → F → Type 0
  ViewsEach f xs f' = FoldsTo (λ p x q. Viewed g p x q) f xs f'

  -- `ViewsEach` for an f taken by value
  abbrev pub ViewsEachByValue : F → List (SegmentList × V) → Type 0
  ViewsEachByValue f xs = CallsEach (λ p x q. Viewed g p x q) f xs

-- f may be called with a view of the pair that is found, if there is one, its key cut as s says
abbrev pub CanShowFound : {F V : Type 0} → Mut F (LendingKeyView × (Bor V × Unit {0})) (Unit {0}) → F → List (List ℕ)
    → Option (List ℕ × V) → Type 0
CanShowFound g f s None = Unit {0}
CanShowFound g f s (Some e) = TakesView g f (cut s e.0, e.1)

-- `CanShowFound` for an f that is called once
abbrev pub CanSeeFound : {F V : Type 0} → Once F (LendingKeyView × (Bor V × Unit {0})) (Unit {0}) → F → List (List ℕ)
    → Option (List ℕ × V) → Type 0
CanSeeFound g f s None = Unit {0}
CanSeeFound {F} {V} g f s (Some e) = (key : LendingKeyView) (shown : Bor V) → view_segments key ≡ cut s e.0
    → shown.now ≡ e.1 → g.pre f (key, (shown, tt))

-- f was called once, with a view of the segments of x and with its value
pub record ViewedOnce {F V : Type 0} (g : Once F (LendingKeyView × (Bor V × Unit {0})) (Unit {0})) (f : F)
    (x : SegmentList × V) : Type 0 where
  pub key : LendingKeyView
  pub shown : Bor V
  pub key_is : view_segments key ≡ x.0
  pub shows : shown.now ≡ x.1
  pub called : g.post f (key, (shown, tt)) tt

-- the segments of the key that was found, cut as s says, with its value; or nothing where none was found
abbrev pub IsCutOf : {V : Type 0} → List (List ℕ) → Option (List ℕ × V) → Option (SegmentPath × Bor V) → Type 0
IsCutOf s None r = r ≡ None
IsCutOf s (Some e) r = IsSomeAnd r (λ p. (lent_segments p.0.segments.items ≡ cut s e.0) × (p.1.now ≡ e.1))

-- f was called once with the pair that was found, its key cut as s says; and whether there is one was returned
abbrev pub SeesFound : {F V : Type 0} → Once F (LendingKeyView × (Bor V × Unit {0})) (Unit {0}) → F → List (List ℕ)
    → Option (List ℕ × V) → Bool → Type 0
SeesFound g f s None found = found ≡ false
SeesFound g f s (Some e) found = (found ≡ true) × ViewedOnce g f (cut s e.0, e.1)

-- f was called once with the pair that was found, its key cut as s says, and is then f'; where there is none it wasn't
-- called; and whether there is one was returned
abbrev pub ShowsFound : {F V : Type 0} → Mut F (LendingKeyView × (Bor V × Unit {0})) (Unit {0}) → F → List (List ℕ)
    → Option (List ℕ × V) → F → Bool → Type 0
ShowsFound g f s None f' found = (found ≡ false) × (f' ≡ f)
ShowsFound g f s (Some e) f' found = (found ≡ true) × Viewed g f (cut s e.0, e.1) f'
