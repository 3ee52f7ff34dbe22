-- The union of two maps: its first key, and its look-ups.
use Rattle.std.proofs.Common.{◌≡◌, ℕ, ◌==◌, List, [], ◌∷◌, true, false, refl, sym, ap, ◌∙◌}
use Rattle.std.proofs.Common.{Option, Some, None, if◌then◌else◌, Less, Equal, Greater, arith}
use Rattle.std.specs.Ordering.{match_ordering, nat_cmp}
use Rattle.std.specs.Cmp.Lexicographic.{slice_cmp}
use Rattle.std.specs.declared.cmp.Ordering.{Ordering}
use Rattle.std.proofs.lemmas.Bool.Decides.{nat_tests}
use Rattle.std.proofs.lemmas.Cmp.{nat_list_cmp_total, tied_itself}
use Rattle.std.proofs.lemmas.Map.Lookups.{exact_bytes}
use Rattle.rart_keys.specs.ByteStrings.{bytes_eq, IsLess}
use Rattle.rart_keys.specs.SortedMap.{AreAbove, IsAscending, lookup, put}
use Rattle.rart.specs.Unions.{first_order, union_of}

-- equal keys, as a test
same-byte : (b : ℕ) → b == b ≡ true
same-byte b = grind (arith, nat_tests)

pub same-bytes : (k : List ℕ) → bytes_eq k k ≡ true
same-bytes [] = refl
same-bytes (b ∷ k) = rw (same-byte b) (same-bytes k)

pub from-same : (k l : List ℕ) → bytes_eq k l ≡ true → k ≡ l
from-same [] [] h = refl
from-same [] (c ∷ l) h = cc
from-same (b ∷ k) [] h = cc
from-same (b ∷ k) (c ∷ l) h = elim (b == c) as (λ t. b == c ≡ t → (if t then bytes_eq k l else false) ≡ true
    → b ∷ k ≡ c ∷ l) [
      | true ↦ λ e s. let same : b ≡ c = grind (arith, nat_tests) in let rest = from-same k l s in cc
      | false ↦ λ e s. cc
    ] refl h

above-back : (k l : List ℕ) → IsLess k l → slice_cmp nat_cmp l k ≡ Greater
above-back k l h = rw (nat_list_cmp_total.antisymm l k, h) refl

-- two keys of which one is below the other differ
apart : (k l : List ℕ) → IsLess k l → bytes_eq k l ≡ false
apart k l h = elim (bytes_eq k l) as (λ t. bytes_eq k l ≡ t → t ≡ false) [
  | true ↦ λ e. let less : slice_cmp nat_cmp k k ≡ Less = rw (← from-same k l e) at h in
      let tied = tied_itself nat_list_cmp_total k in cc
  | false ↦ λ e. refl
] refl

apart-back : (k l : List ℕ) → IsLess k l → bytes_eq l k ≡ false
apart-back k l h = elim (bytes_eq l k) as (λ t. bytes_eq l k ≡ t → t ≡ false) [
  | true ↦ λ e. let less : slice_cmp nat_cmp k k ≡ Less = rw (from-same l k e) at h in
      let tied = tied_itself nat_list_cmp_total k in cc
  | false ↦ λ e. refl
] refl

module _ {V : Type 0} where
  pub above-trans : (k l : List ℕ) (es : List (List ℕ × V)) → IsLess k l → AreAbove l es → AreAbove k es
  above-trans k l [] b h = tt
  above-trans k l (e ∷ es) b h = (nat_list_cmp_total.trans k l e.0 b h.0, above-trans k l es b h.1)

  pub lookup-above : (k : List ℕ) (es : List (List ℕ × V)) → AreAbove k es → lookup k es ≡ None
  lookup-above k [] h = refl
  lookup-above k (e ∷ es) h = rw (apart-back k e.0 h.0) (lookup-above k es h.1)

  above-put : (l k : List ℕ) (v : V) (es : List (List ℕ × V)) → IsLess l k → AreAbove l es → AreAbove l (put k v es)
  above-put l k v [] b h = (b, tt)
  above-put l k v (e ∷ es) b h = elim (slice_cmp nat_cmp k e.0) as (λ o. AreAbove l
      (match_ordering o ((k, v) ∷ e ∷ es) ((k, v) ∷ es) (e ∷ put k v es))) [
        | Less ↦ (b, h)
        | Equal ↦ (b, h.1)
        | Greater ↦ (h.0, above-put l k v es b h.1)
      ]

  put-before : (k : List ℕ) (v : V) (es : List (List ℕ × V)) → AreAbove k es → put k v es ≡ (k, v) ∷ es
  put-before k v [] a = refl
  put-before k v (e ∷ es) a = rw a.0 refl

  pub put-after : (k : List ℕ) (v : V) (e : List ℕ × V) (es : List (List ℕ × V)) → IsLess e.0 k
      → put k v (e ∷ es) ≡ e ∷ put k v es
  put-after k v e es h = rw (above-back e.0 k h) refl

  pub lookup-at : (k : List ℕ) (e : List ℕ × V) (es : List (List ℕ × V)) → e.0 ≡ k → lookup k (e ∷ es) ≡ Some e.1
  lookup-at k e es s = rw (s, same-bytes k) refl

  pub lookup-after : (k : List ℕ) (e : List ℕ × V) (es : List (List ℕ × V)) → IsLess e.0 k
      → lookup k (e ∷ es) ≡ lookup k es
  lookup-after k e es h = rw (apart e.0 k h) refl

pub above-seconds : {W : Type 0} (V : Type 0) (k : List ℕ) (m : List (List ℕ × W)) → AreAbove k m
    → AreAbove k (union_of {V = V} [] m)
above-seconds V k [] h = tt
above-seconds V k (e ∷ m) h = (h.0, above-seconds V k m h.1)

module _ {V W : Type 0} where
  above-union : (k : List ℕ) (l : List (List ℕ × V)) (m : List (List ℕ × W)) → AreAbove k l → AreAbove k m
      → AreAbove k (union_of l m)
  above-union k [] m a b = above-seconds V k m b
  above-union k (d ∷ l) m a b = above-put k d.0 (Some d.1, lookup d.0 m) (union_of l m) a.0 (above-union k l m a.1 b)

  -- a key of the second map that is below all others
  second-first : (e : List ℕ × W) (l : List (List ℕ × V)) (m : List (List ℕ × W)) → AreAbove e.0 l
      → union_of l (e ∷ m) ≡ (e.0, (None, Some e.1)) ∷ union_of l m
  second-first e [] m a = refl
  second-first e (d ∷ l) m a =
      ap (put d.0 (Some d.1, lookup d.0 (e ∷ m))) (second-first e l m a.1)
      ∙ put-after d.0 (Some d.1, lookup d.0 (e ∷ m)) (e.0, (None, Some e.1)) (union_of l m) a.0
      ∙ ap (λ o. (e.0, (None, Some e.1)) ∷ put d.0 (Some d.1, o) (union_of l m)) (lookup-after d.0 e m a.0)

  -- the first pairs of both maps
  first-alone : (d : List ℕ × V) (l : List (List ℕ × V)) (m : List (List ℕ × W)) → AreAbove d.0 l → AreAbove d.0 m
      → union_of (d ∷ l) m ≡ (d.0, (Some d.1, None)) ∷ union_of l m
  first-alone d l m a b = rw (lookup-above d.0 m b)
      (put-before d.0 (Some d.1, None) (union_of l m) (above-union d.0 l m a b))

  before-second : (d : List ℕ × V) (l : List (List ℕ × V)) (m : List (List ℕ × W)) → IsAscending (d ∷ l)
      → IsAscending m → first_order (d ∷ l) m ≡ Some Less
      → union_of (d ∷ l) m ≡ (d.0, (Some d.1, None)) ∷ union_of l m
  before-second d l [] a b o = first-alone d l [] a.0 tt
  before-second d l (e ∷ m) a b o = let less : IsLess d.0 e.0 = cc in
      first-alone d l (e ∷ m) a.0 (less, above-trans d.0 e.0 m less b.0)

  with-second : (d : List ℕ × V) (l : List (List ℕ × V)) (e : List ℕ × W) (m : List (List ℕ × W))
      → IsAscending (d ∷ l) → first_order (d ∷ l) (e ∷ m) ≡ Some Equal
      → union_of (d ∷ l) (e ∷ m) ≡ (d.0, (Some d.1, Some e.1)) ∷ union_of l m
  with-second d l e m a o =
      let tied : slice_cmp nat_cmp d.0 e.0 ≡ Equal = cc in
      let same : d.0 ≡ e.0 = exact_bytes d.0 e.0 tied in
      let above : AreAbove e.0 l = rw same at a.0 in
      rw (second-first e l m above, ← same, same-bytes d.0, tied_itself nat_list_cmp_total d.0) refl

  after-second : (l : List (List ℕ × V)) (e : List ℕ × W) (m : List (List ℕ × W)) → IsAscending l
      → first_order l (e ∷ m) ≡ Some Greater
      → union_of l (e ∷ m) ≡ (e.0, (None, Some e.1)) ∷ union_of l m
  after-second [] e m a o = refl
  after-second (d ∷ l) e m a o =
      let greater : slice_cmp nat_cmp d.0 e.0 ≡ Greater = cc in
      let less : IsLess e.0 d.0 = rw (nat_list_cmp_total.antisymm e.0 d.0, greater) refl in
      second-first e (d ∷ l) m (less, above-trans e.0 d.0 l less a.0)

  -- a step of both maps together
  pub steps-first : (all : List (List ℕ × (Option V × Option W))) (l l' : List (List ℕ × V)) (m : List (List ℕ × W))
      (d : List ℕ × V) (o : Ordering) → union_of l m ≡ all → IsAscending l × IsAscending m → Some o ≡ first_order l m
      → o ≡ Less → l ≡ d ∷ l' → all ≡ (d.0, (Some d.1, None)) ∷ union_of l' m
  steps-first all l l' m d o is up order less split =
      let ascends : IsAscending (d ∷ l') = rw split at up.0 in
      let first : first_order (d ∷ l') m ≡ Some Less = rw (← split) (sym order ∙ ap (λ z. Some z) less) in
      sym is ∙ rw split (before-second d l' m ascends up.1 first)

  pub steps-both : {all : List (List ℕ × (Option V × Option W))} {l l' : List (List ℕ × V)}
      {m m' : List (List ℕ × W)} {d : List ℕ × V} {k : List ℕ} {w : W} {o : Ordering} → union_of l m ≡ all
      → IsAscending l × IsAscending m
      → Some o ≡ first_order l m → o ≡ Equal → l ≡ d ∷ l' → m ≡ (k, w) ∷ m'
      → all ≡ (d.0, (Some d.1, Some w)) ∷ union_of l' m'
  steps-both {l} {l'} {m'} {d} {k} {w} is up order equal split split-m =
      let ascends : IsAscending (d ∷ l') = rw split at up.0 in
      let first : first_order (d ∷ l') ((k, w) ∷ m') ≡ Some Equal
      = ap (λ z. first_order z ((k, w) ∷ m')) (sym split) ∙ ap (λ z. first_order l z) (sym split-m) ∙ sym order
      ∙ ap (λ z. Some z) equal in
      sym is ∙ rw (split, split-m) (with-second d l' (k, w) m' ascends first)

  pub steps-second : (all : List (List ℕ × (Option V × Option W))) (l : List (List ℕ × V)) (m m' : List (List ℕ × W))
      (e : List ℕ × W) (o : Ordering) → union_of l m ≡ all → IsAscending l × IsAscending m → Some o ≡ first_order l m
      → o ≡ Greater → m ≡ e ∷ m' → all ≡ (e.0, (None, Some e.1)) ∷ union_of l m'
  steps-second all l m m' e o is up order greater split =
      let first : first_order l (e ∷ m') ≡ Some Greater = rw (← split) (sym order ∙ ap (λ z. Some z) greater) in
      sym is ∙ rw split (after-second l e m' up.0 first)
