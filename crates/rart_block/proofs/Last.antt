-- The last item of a block.
use Rattle.std.proofs.Common.{◌≡◌, ℕ, zero, suc, ◌+◌, List, [], ◌∷◌, ◌++◌, Some, length, slice_get, remove, ap, sym}
use Rattle.std.proofs.Common.{◌∙◌, arith}
use Rattle.rart_block.specs.Contents.{Contents, with_items}

-- a list is itself without its last item, and then that item
last_removed : {X : Type 0} (xs : List X) (n : ℕ) (x : X) → n + 1 ≡ length xs → slice_get xs n ≡ Some x
    → xs ≡ remove xs n ++ x ∷ []
last_removed [] n x e at = absurd (omega arith)
last_removed (y ∷ []) zero x e at = cc
last_removed (y ∷ z ∷ ys) zero x e at = absurd (omega arith)
last_removed (y ∷ ys) (suc n) x e at = ap (λ l. y ∷ l) (last_removed ys n x (omega arith) at)

pub last_popped : {H K T : Type 0} (b c : Contents H K T) (n : ℕ) (x : T) → n + 1 ≡ length b.items
    → slice_get b.items n ≡ Some x → c ≡ with_items b (remove b.items n) → b ≡ with_items c (c.items ++ x ∷ [])
last_popped b c n x e at rest = ap (with_items b) (last_removed b.items n x e at)
    ∙ ap (λ d. with_items d (d.items ++ x ∷ [])) (sym rest)
