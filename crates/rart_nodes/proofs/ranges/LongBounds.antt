-- Bounds with more bytes than any key has.
use Rattle.std.proofs.Common.{◌≡◌, ℕ, zero, suc, ◌<◌, ◌≤◌, ⊎_elim, ◌&&◌, Bool, true, false, List, [], ◌∷◌, length, take}
use Rattle.std.proofs.Common.{refl, ap, ap₂, ◌∙◌, ◌⊎◌, inl, inr, arith, if◌then◌else◌}
use Rattle.std.specs.Ordering.{nat_cmp, match_ordering}
use Rattle.std.specs.Cmp.Lexicographic.{slice_cmp}
use Rattle.std.specs.declared.ops.Bound.{Bound}
use Rattle.std.proofs.lemmas.List.{take_all}
use Rattle.rart_keys.specs.Ranges.{between, is_from, is_from_bound, is_to, is_until}
use Rattle.rart_keys.specs.SortedMap.{longest_key}
use Rattle.rart_keys.proofs.strings.ByteOrder.{order, is_less, is_equal, is_greater}

-- a key of at most m bytes isn't a longer string, and is less than it if it isn't greater than its first m
cmp-cut : {A : Type 0} (x y z : A) (m : ℕ) (k s : List ℕ) → length k ≤ m → m < length s
    → match_ordering (slice_cmp nat_cmp k (take m s)) x x y ≡ match_ordering (slice_cmp nat_cmp k s) x z y
cmp-cut x y z m k [] l g = absurd (omega (arith, g))
cmp-cut x y z zero [] (b ∷ s) l g = refl
cmp-cut x y z zero (c ∷ k) (b ∷ s) l g = absurd (omega (arith, l))
cmp-cut x y z (suc m) [] (b ∷ s) l g = refl
cmp-cut x y z (suc m) (c ∷ k) (b ∷ s) l g = ⊎_elim (λ h. rw (is_less c b h) refl)
    (⊎_elim (λ h. rw (is_equal c b h) (cmp-cut x y z m k s (omega (arith, l)) (omega (arith, g))))
    (λ h. rw (is_greater c b h) refl)) (order c b)

short-or-long : (m n : ℕ) → (n ≤ m) ⊎ (m < n)
short-or-long m n = ⊎_elim (λ h. inr h) (⊎_elim (λ h. inl (omega (arith, h))) (λ h. inl (omega (arith, h)))) (order m n)

-- an end
to-short : (h : Bool) (m : ℕ) (s k : List ℕ) → length s ≤ m → is_until h (take m s) k ≡ is_until h s k
to-short h m s k l = ap (λ z. is_until h z k) (take_all m s l)

pub to-cut : (h : Bool) (m : ℕ) (s k : List ℕ) → length k ≤ m → m < length s
    → is_until true (take m s) k ≡ is_until h s k
to-cut h m s k l g = cmp-cut true false h m k s l g

pub to-included : (m : ℕ) (s k : List ℕ) → length k ≤ m → is_until true (take m s) k ≡ is_until true s k
to-included m s k l = ⊎_elim (λ h. to-short true m s k h) (λ h. to-cut true m s k l h) (short-or-long m (length s))

-- a start
from-short : (h : Bool) (m : ℕ) (s k : List ℕ) → length s ≤ m → is_from_bound h (take m s) k ≡ is_from_bound h s k
from-short h m s k l = ap (λ z. is_from_bound h z k) (take_all m s l)

pub from-cut : (h : Bool) (m : ℕ) (s k : List ℕ) → length k ≤ m → m < length s
    → is_from_bound false (take m s) k ≡ is_from_bound h s k
from-cut h m s k l g = cmp-cut false true h m k s l g

pub from-excluded : (m : ℕ) (s k : List ℕ) → length k ≤ m → is_from_bound false (take m s) k ≡ is_from_bound false s k
from-excluded m s k l
    = ⊎_elim (λ h. from-short false m s k h) (λ h. from-cut false m s k l h) (short-or-long m (length s))

module _ {V : Type 0} where
  -- bounds that agree on keys of at most m bytes
  pub between-short : (a b c d : Bound (List ℕ)) (m : ℕ) (es : List (List ℕ × V)) → longest_key es ≤ m
      → ((k : List ℕ) → length k ≤ m → is_from a k ≡ is_from c k)
      → ((k : List ℕ) → length k ≤ m → is_to b k ≡ is_to d k) → between a b es ≡ between c d es
  between-short a b c d m [] l f g = refl
  between-short a b c d m (e ∷ es) l f g =
      let rest = between-short a b c d m es (omega (arith, l)) f g in
      let n : length e.0 ≤ m = omega (arith, l) in
      let same : is_from a e.0 && is_to b e.0 ≡ is_from c e.0 && is_to d e.0
      = ap₂ (λ x y. x && y) (f e.0 n) (g e.0 n) in
      ap (λ (z : Bool). if z then e ∷ between a b es else between a b es) same
      ∙ elim (is_from c e.0 && is_to d e.0) as (λ z. (if z then e ∷ between a b es else between a b es)
      ≡ (if z then e ∷ between c d es else between c d es)) [ true ↦ ap (λ z. e ∷ z) rest | false ↦ rest ]
