-- Calls of a callback at a pair whose key is lent in segments.
use Rattle.std.specs.Prelude.{ℕ, ◌≡◌, List}
use Rattle.std.specs.Borrow.{Bor}
use Rattle.std.specs.Fn.{Mut, Called, Takes}
use Rattle.std.specs.List.{FoldsTo}
use Rattle.rart_trie.specs.walks.Calls.{CallableAtEach, CallsEach}
use Rattle.rart_nodes.specs.declared.node.view.LendingKeyView.{LendingKeyView}
use Rattle.rart_nodes.specs.walks.KeyViews.{view_bytes}

-- f was called with a view whose segments join to the key of x, and with the values of x, and is then f'
pub record ViewedAt {F V W : Type 0} (g : Mut F (LendingKeyView × (Bor V × (Bor W × Unit {0}))) (Unit {0})) (f : F)
    (x : List ℕ × (V × W)) (f' : F) : Type 0 where
  pub key : LendingKeyView
  pub left : Bor V
  pub right : Bor W
  pub key_is : view_bytes key ≡ x.0
  pub left_is : left.now ≡ x.1.0
  pub right_is : right.now ≡ x.1.1
  pub called : Called g f (key, (left, (right, tt))) tt f'

module _ {F V W : Type 0} (g : Mut F (LendingKeyView × (Bor V × (Bor W × Unit {0}))) (Unit {0})) where
  -- f may be called with a view of the key of x, and with the values of x
  abbrev pub TakesViewAt : F → List ℕ × (V × W) → Type 0
  TakesViewAt f x = (key : LendingKeyView) (left : Bor V) (right : Bor W) → view_bytes key ≡ x.0
      → left.now ≡ x.1.0 → right.now ≡ x.1.1 → Takes g f (key, (left, (right, tt)))

  -- f may be called with a view of each key and its values in turn
  abbrev pub CanViewAt : F → List (List ℕ × (V × W)) → Type 0
  CanViewAt f xs = CallableAtEach (λ p x q. ViewedAt g p x q) (λ p x. TakesViewAt p x) f xs

  -- f was called with a view of each key and its values in turn, and is then f'
  abbrev pub ViewsAtEach : F → List (List ℕ × (V × W)) → F → Type 0
  ViewsAtEach f xs f' = FoldsTo (λ p x q. ViewedAt g p x q) f xs f'

  -- `ViewsAtEach` for an f taken by value
  abbrev pub ViewsAtEachByValue : F → List (List ℕ × (V × W)) → Type 0
  ViewsAtEachByValue f xs = CallsEach (λ p x q. ViewedAt g p x q) f xs
