-- A walk from a start that ends at the first key past its end gives what is between.
use Rattle.std.proofs.Common.{◌≡◌, ℕ, ⊎_elim, ◌&&◌, true, false, List, [], ◌∷◌, ◌++◌, refl, sym, ap, ◌∙◌, Less, Equal}
use Rattle.std.proofs.Common.{Greater, Some, None, if◌then◌else◌}
use Rattle.std.specs.Ordering.{nat_cmp}
use Rattle.std.specs.Cmp.Lexicographic.{slice_cmp}
use Rattle.std.specs.declared.ops.Bound.{Bound}
use Rattle.std.specs.declared.ops.Bound.TheVariants.{Included, Excluded, Unbounded}
use Rattle.rart_keys.specs.ByteStrings.{IsLess, strip_prefix}
use Rattle.rart_keys.specs.Ranges.{bound_bytes, is_inclusive, is_from_bound, is_from, is_to, from_bound, up_to, between}
use Rattle.rart_keys.specs.SortedMap.{AreAbove, IsAscending}
use Rattle.rart_keys.proofs.strings.ByteOrder.{order, is_less, is_equal, is_greater, eq-yes, eq-no, equal_or_not}
use Rattle.rart_keys.proofs.strings.ByteOrder.{compare}
use Rattle.rart_keys.proofs.strings.ByteOrder.{below-trans, below-greater, cmp-itself}

past : (b : Bound (List ℕ)) (k l : List ℕ) → IsLess k l → is_to b k ≡ false → is_to b l ≡ false
past Unbounded k l h f = cc
past (Included a) k l h f = ⊎_elim (λ s. let g = rw s at f in cc)
    (⊎_elim (λ e. let q : slice_cmp nat_cmp k a ≡ Equal = ap (λ z. slice_cmp nat_cmp k z) (sym e) ∙ cmp-itself k in
    let g = rw q at f in cc) (λ s. rw (below-greater a l (below-trans a k l s h)) refl)) (compare k a)
past (Excluded a) k l h f = ⊎_elim (λ s. let g = rw s at f in cc)
    (⊎_elim (λ e. rw (below-greater a l (rw (← e) h)) refl) (λ s. rw (below-greater a l (below-trans a k l s h)) refl))
    (compare k a)

-- without a start the walk is from the empty string
pub from_bound-bytes : (a : Bound (List ℕ)) (k : List ℕ) → is_from_bound (is_inclusive a) (bound_bytes a) k
    ≡ is_from a k
from_bound-bytes Unbounded [] = refl
from_bound-bytes Unbounded (x ∷ k) = refl
from_bound-bytes (Included a) k = refl
from_bound-bytes (Excluded a) k = refl

module _ {V : Type 0} where
  none-past : (a b : Bound (List ℕ)) (k : List ℕ) (es : List (List ℕ × V)) → is_to b k ≡ false → AreAbove k es
      → between a b es ≡ []
  none-past a b k [] f h = refl
  none-past a b k (e ∷ es) f h = rw (past b k e.0 h.0 f)
      (elim (is_from a e.0) as (λ z. (if z && false then e ∷ between a b es else between a b es) ≡ [])
      [ true ↦ none-past a b k es f h.1 | false ↦ none-past a b k es f h.1 ])

  pub up_to-from_bound : (a b : Bound (List ℕ)) (es : List (List ℕ × V)) → IsAscending es
      → up_to b (from_bound a es) ≡ between a b es
  up_to-from_bound a b [] w = refl
  up_to-from_bound a b (e ∷ es) w = elim (is_from a e.0)
      as (λ z. up_to b (if z then e ∷ from_bound a es else from_bound a es)
      ≡ (if z && is_to b e.0 then e ∷ between a b es else between a b es)) [
        | false ↦ up_to-from_bound a b es w.1
        | true ↦ elim (is_to b e.0) as (λ z. is_to b e.0 ≡ z → (if z then e ∷ up_to b (from_bound a es) else [])
            ≡ (if z then e ∷ between a b es else between a b es)) [
              | true ↦ λ s. ap (λ z. e ∷ z) (up_to-from_bound a b es w.1)
              | false ↦ λ s. sym (none-past a b e.0 es s w.0)
            ] refl
      ]

-- a string against one that its beginning doesn't begin, and against one that it begins
pub cmp-apart : (q r x : List ℕ) → strip_prefix q r ≡ None → slice_cmp nat_cmp (q ++ x) r ≡ slice_cmp nat_cmp q r
cmp-apart [] r x s = cc
cmp-apart (a ∷ q) [] x s = refl
cmp-apart (a ∷ q) (b ∷ r) x s = ⊎_elim
    (λ h. rw (is_less a b h) refl)
    (⊎_elim (λ h. rw (is_equal a b h) (cmp-apart q r x (rw (eq-yes a b h) at s))) (λ h. rw (is_greater a b h) refl))
    (order a b)

pub cmp-past : (q r s x : List ℕ) → strip_prefix q r ≡ Some s → slice_cmp nat_cmp (q ++ x) r ≡ slice_cmp nat_cmp x s
cmp-past [] r s x e = let f : r ≡ s = cc in ap (slice_cmp nat_cmp x) f
cmp-past (a ∷ q) [] s x e = cc
cmp-past (a ∷ q) (b ∷ r) s x e = ⊎_elim
    (λ h. rw (is_equal a b h) (cmp-past q r s x (rw (eq-yes a b h) at e)))
    (λ n. let f = rw (eq-no a b n) at e in cc) (equal_or_not a b)

-- it isn't equal to it
pub not-same : (q r : List ℕ) → strip_prefix q r ≡ None → slice_cmp nat_cmp q r ≡ Equal → ⊥
not-same [] r s e = cc
not-same (a ∷ q) [] s e = cc
not-same (a ∷ q) (b ∷ r) s e = ⊎_elim
    (λ h. let f = rw (is_less a b h) at e in cc)
    (⊎_elim (λ h. not-same q r (rw (eq-yes a b h) at s) (rw (is_equal a b h) at e)) (λ h. let f
    = rw (is_greater a b h) at e in cc)) (order a b)

pub lower-apart : (q r : List ℕ) → strip_prefix q r ≡ None → (slice_cmp nat_cmp q r ≡ Greater → ⊥)
    → slice_cmp nat_cmp q r ≡ Less
lower-apart q r s n = ⊎_elim (λ h. h) (⊎_elim
    (λ e. absurd (not-same q r s (ap (λ z. slice_cmp nat_cmp z r) e ∙ cmp-itself r)))
    (λ h. absurd (n (below-greater r q h)))) (compare q r)
