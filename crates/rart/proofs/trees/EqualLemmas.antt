-- Maps with different numbers of pairs are not equal.
use Rattle.std.proofs.Common.{◌≡◌, ◌≢◌, ℕ, Bool, false, List, length}
use Rattle.std.specs.Cmp.Lexicographic.{unequal}
use Rattle.rart_nodes.specs.tries.Equal.{same_pairs}

pub lengths_apart : {V : Type 0} (eq : V → V → Bool) (xs ys : List (List ℕ × V)) → length xs ≢ length ys
    → same_pairs eq xs ys ≡ false
lengths_apart eq xs ys n = unequal _ xs ys n
