-- The order of a string that is cut into segments.
use Rattle.std.proofs.Common.{◌≡◌, ℕ, ◌<◌, ◌≤◌, List, [], ◌∷◌, ◌++◌, length, take, drop, refl, sym, ap, ◌∙◌, arith}
use Rattle.std.proofs.Common.{Ordering, Less, Equal, Greater}
use Rattle.std.specs.Cmp.Lexicographic.{slice_cmp}
use Rattle.std.specs.Ordering.{nat_cmp, ordering_then}
use Rattle.std.proofs.lemmas.Map.Lookups.{exact_bytes}
use Rattle.rart_keys.proofs.strings.ByteOrder.{cmp-itself}

-- a first segment is compared to as many bytes
cmp-front : (p xs k : List ℕ) → length p ≤ length k
    → slice_cmp nat_cmp (p ++ xs) k ≡ ordering_then (slice_cmp nat_cmp p (take (length p) k))
    (slice_cmp nat_cmp xs (drop (length p) k))
cmp-front [] xs k h = refl
cmp-front (x ∷ p) xs [] h = absurd (omega arith)
cmp-front (x ∷ p) xs (y ∷ k) h = rw (cmp-front p xs k (omega arith))
    (elim (nat_cmp x y) as (λ o. ordering_then o
    (ordering_then (slice_cmp nat_cmp p (take (length p) k)) (slice_cmp nat_cmp xs (drop (length p) k)))
    ≡ ordering_then (ordering_then o (slice_cmp nat_cmp p (take (length p) k)))
    (slice_cmp nat_cmp xs (drop (length p) k))) [ Less ↦ refl | Equal ↦ refl | Greater ↦ refl ])

-- a longer segment decides
pub cmp-short : (p xs k : List ℕ) → length k < length p → slice_cmp nat_cmp (p ++ xs) k ≡ slice_cmp nat_cmp p k
cmp-short [] xs k h = absurd (omega arith)
cmp-short (x ∷ p) xs [] h = refl
cmp-short (x ∷ p) xs (y ∷ k) h = ap (ordering_then (nat_cmp x y)) (cmp-short p xs k (omega arith))

-- the order determines which strings are equal
pub cmp-equal : (k l : List ℕ) → (slice_cmp nat_cmp k l ≡ Equal → k ≡ l) × (k ≡ l → slice_cmp nat_cmp k l ≡ Equal)
cmp-equal k l = (exact_bytes k l, λ e. rw e (cmp-itself l))

-- where a first segment differs, it decides
pub segment-apart : (p xs k front : List ℕ) (o : Ordering) → length p ≤ length k → front ≡ take (length p) k
    → o ≡ slice_cmp nat_cmp p front → (o ≡ Equal → ⊥) → slice_cmp nat_cmp (p ++ xs) k ≡ o
segment-apart p xs k front o h f e n =
    let m : slice_cmp nat_cmp p (take (length p) k) ≡ o = ap (slice_cmp nat_cmp p) (sym f) ∙ sym e in
    cmp-front p xs k h ∙ rw m (elim o as (λ z. (z ≡ Equal → ⊥)
    → ordering_then z (slice_cmp nat_cmp xs (drop (length p) k)) ≡ z) [
      | Less ↦ λ d. refl
      | Equal ↦ λ d. absurd (d refl)
      | Greater ↦ λ d. refl
    ] n)

-- where it doesn't, what is after it does
pub segment-same : (p xs k front after : List ℕ) (o : Ordering) → length p ≤ length k → front ≡ take (length p) k
    → after ≡ drop (length p) k → o ≡ slice_cmp nat_cmp p front → o ≡ Equal
    → slice_cmp nat_cmp (p ++ xs) k ≡ slice_cmp nat_cmp xs after
segment-same p xs k front after o h f g e n =
    let m : slice_cmp nat_cmp p (take (length p) k) ≡ Equal = ap (slice_cmp nat_cmp p) (sym f) ∙ sym e ∙ n in
    cmp-front p xs k h ∙ rw (m, g) refl
