-- Loads of a buffer of pairs: what is too long in it, and what a bulk load says of it.
use Rattle.std.proofs.Common.{◌≡◌, ◌<◌, ◌≤◌, ◌+◌, ◌^◌, ◌∙◌, ℕ, suc, List, [], ◌∷◌, ◌++◌, length, length-append}
use Rattle.std.proofs.Common.{Option, None, Some, Bool, true, false, arith, refl, sym, ap, nat_lt}
use Rattle.std.specs.Prelude.{if◌then◌else◌, Result, Ok, Err, IfOk, IfErr}
use Rattle.std.specs.declared.cmp.Ordering.{Ordering}
use Rattle.std.specs.declared.cmp.Ordering.TheVariants.{Less, Equal, Greater}
use Rattle.std.specs.Ordering.{nat_cmp, match_ordering}
use Rattle.std.specs.Cmp.Lexicographic.{slice_cmp}
use Rattle.std.proofs.Math.Nat.{min-eq_left}
use Rattle.std.proofs.lemmas.Bool.{ltb-false}
use Rattle.rart_keys.specs.ByteStrings.{bytes_eq}
use Rattle.rart_keys.specs.BulkLists.{first_fault, first_fault_after, last_wins, last_wins_from}
use Rattle.rart.specs.MapAndShape.{MapAndShape}
use Rattle.rart.specs.BulkLoads.{FailsSorted}
use Rattle.rart.specs.declared.bulk.BulkError.{BulkError}
use Rattle.rart.specs.declared.bulk.BulkError.TheVariants.{Memory, Full, Unsorted}
use Rattle.rart_c.specs.Loads.{AreWithin, first_too_long_from, LoadsTree}

-- a list none of whose lengths is too long
within-step : (place width l : ℕ) (ls : List ℕ) (long : Bool) → nat_lt width l ≡ long
    → ((if long then Some place else first_too_long_from (suc place) width ls) ≡ None)
    → (l ≤ width) × (first_too_long_from (suc place) width ls ≡ None)
within-step place width l ls true is e = cc
within-step place width l ls false is e = (ltb-false width l is, e)

none-within : (place width : ℕ) (ls : List ℕ) → first_too_long_from place width ls ≡ None → AreWithin width ls
none-within place width [] e = tt
none-within place width (l ∷ ls) e =
    let s = within-step place width l ls (nat_lt width l) refl e in (s.0, none-within (suc place) width ls s.1)

pub ended-within : (place width : ℕ) (ls all : List ℕ) → length ls ≡ 0
    → first_too_long_from place width ls ≡ first_too_long_from 0 width all → AreWithin width all
ended-within place width [] all is e = none-within 0 width all (sym e)
ended-within place width (l ∷ ls) all is e = absurd (omega (arith, is))

-- a fault in the beginning of a list is its first
still : (i : ℕ) (o : Ordering) (a b c : Option ℕ) → (b ≡ Some i → c ≡ Some i) → match_ordering o a b b ≡ Some i
    → match_ordering o a c c ≡ Some i
still i Less a b c f e = e
still i Equal a b c f e = f e
still i Greater a b c f e = f e

fault-after : (n i : ℕ) (k : List ℕ) (es more : List (List ℕ × ℕ)) → first_fault_after n k es ≡ Some i
    → first_fault_after n k (es ++ more) ≡ Some i
fault-after n i k [] more e = cc
fault-after n i k (x ∷ es) more e =
    still i (slice_cmp nat_cmp x.0 k) (Some n) (first_fault_after (suc n) x.0 es)
    (first_fault_after (suc n) x.0 (es ++ more)) (fault-after (suc n) i x.0 es more) e

fault-more : (i : ℕ) (es more : List (List ℕ × ℕ)) → first_fault es ≡ Some i → first_fault (es ++ more) ≡ Some i
fault-more i [] more e = cc
fault-more i (x ∷ es) more e = fault-after 1 i x.0 es more e

-- no more pairs stay than there are
fewer : (b : Bool) (e : List ℕ × ℕ) (n : ℕ) (es : List (List ℕ × ℕ)) → length es ≤ n
    → length (if b then es else (e ∷ es)) ≤ n + 1
fewer true e n es h = omega (arith, h)
fewer false e n es h = omega (arith, h)

fewer-from : (e : List ℕ × ℕ) (es : List (List ℕ × ℕ)) → length (last_wins_from e es) ≤ length es + 1
fewer-from e [] = omega arith
fewer-from e (f ∷ es) = omega (
  arith,
  fewer (bytes_eq e.0 f.0) e (length es + 1) (last_wins_from f es)
      (fewer-from f es),
)

fewer-all : (es : List (List ℕ × ℕ)) → length (last_wins es) ≤ length es
fewer-all [] = omega arith
fewer-all (e ∷ es) = omega (arith, fewer-from e es)

-- why a bulk load of the beginning of a list stopped is why one of the list does
stopped : (all es more : List (List ℕ × ℕ)) (e : BulkError) → length all < 2 ^ 63 → all ≡ es ++ more → FailsSorted es e
    → LoadsTree all (Err e)
stopped all es more Memory few is s = tt
stopped all es more Full few is s = omega (arith, s.1, fewer-all es, ap length is, length-append es more)
stopped all es more (Unsorted at) few is s =
    let at_is : at ≡ s.0 = s.3 ∙ min-eq_left (omega (arith, few, s.2, ap length is, length-append es more)) in
    rw is (fault-more s.0 es more s.1) ∙ ap Some (sym at_is)

pub loads : (all : List (List ℕ × ℕ)) (r : Result (MapAndShape ℕ) BulkError) → length all < 2 ^ 63
    → IfOk r (λ tree. (first_fault all ≡ None) × (tree.pairs ≡ last_wins all))
    → IfErr r (λ e. (es more : List (List ℕ × ℕ)) × (all ≡ es ++ more) × FailsSorted es e) → LoadsTree all r
loads all (Ok tree) few ok err = ok
loads all (Err e) few ok err = stopped all err.0 err.1 e few err.2 err.3
