-- Lists that a bulk load reads: their first fault, and the pairs of which the last stay.
use Rattle.std.proofs.Common.{◌≡◌, ℕ, ◌+◌, ◌-◌, ◌<◌, ⊎_elim, zero, suc, true, false, List, [], ◌∷◌, ◌++◌, length}
use Rattle.std.proofs.Common.{reverse, get_or, refl, sym, ap, ◌∙◌, arith, Option, Some, None, if◌then◌else◌, Equal}
use Rattle.std.specs.Ordering.{nat_cmp}
use Rattle.std.specs.Option.{option_or}
use Rattle.std.specs.Cmp.Lexicographic.{slice_cmp}
use Rattle.std.proofs.lemmas.Grind.{reverse_onto}
use Rattle.rart_keys.specs.ByteStrings.{bytes_eq, IsLess}
use Rattle.rart_keys.specs.SortedMap.{AreAbove, IsAscending, keys_of, lookup}
use Rattle.rart_keys.specs.BulkLists.{IsFaultAt, first_fault_after, first_fault, last_wins_from, last_wins}
use Rattle.rart_keys.proofs.strings.ByteOrder.{below-trans, below-not_eq, bytes_eq-itself, bytes_eq-equal, compare}
use Rattle.rart_keys.proofs.strings.ByteOrder.{below-greater, cmp-itself}
use Rattle.rart_keys.proofs.maps.SortedMaps.{lookup-above}

pub cmp-equal : (k l : List ℕ) → k ≡ l → slice_cmp nat_cmp l k ≡ Equal
cmp-equal k l q = ap (λ z. slice_cmp nat_cmp l z) q ∙ cmp-itself l

pub bytes_eq-of : (k l : List ℕ) → k ≡ l → bytes_eq k l ≡ true
bytes_eq-of k l q = ap (λ z. bytes_eq z l) q ∙ bytes_eq-itself l

pub below-not_below : (k l : List ℕ) → IsLess k l → IsLess l k → ⊥
below-not_below k l b c = let g = below-greater k l b in cc

or_none : {A : Type 0} (o : Option A) → option_or o None ≡ o
or_none None = refl
or_none (Some a) = refl

module _ {V : Type 0} where
  -- with no fault, the key after k isn't below it
  pub faultless-after : (n : ℕ) (k : List ℕ) (e : List ℕ × V) (es : List (List ℕ × V))
      → first_fault_after n k (e ∷ es) ≡ None → (IsLess e.0 k → ⊥) × (first_fault_after (suc n) e.0 es ≡ None)
  faultless-after n k e es h = ⊎_elim
      (λ s. (λ b. below-not_below k e.0 s b, rw (below-greater k e.0 s) at h))
      (⊎_elim (λ q. (λ b. let g = cmp-equal k e.0 q in cc, rw (cmp-equal k e.0 q) at h))
      (λ s. let g = rw s at h in absurd (cc))) (compare k e.0)

  above-last : (n : ℕ) (k : List ℕ) (e : List ℕ × V) (es : List (List ℕ × V)) → IsLess k e.0
      → first_fault_after n e.0 es ≡ None → AreAbove k (last_wins_from e es)
  above-last n k e [] b h = (b, tt)
  above-last n k e (f ∷ es) b h = ⊎_elim
      (λ s. rw (below-not_eq e.0 f.0 s) (
        b,
        above-last (suc n) k f es (below-trans k e.0 f.0 b s)
            (rw (below-greater e.0 f.0 s) at h),
      ))
      (⊎_elim (λ q. let g = rw (cmp-equal e.0 f.0 q) at h in
      rw (bytes_eq-of e.0 f.0 q) (above-last (suc n) k f es (rw q at b) g))
      (λ s. let g = rw s at h in cc)) (compare e.0 f.0)

  last-ascends : (n : ℕ) (e : List ℕ × V) (es : List (List ℕ × V)) → first_fault_after n e.0 es ≡ None
      → IsAscending (last_wins_from e es)
  last-ascends n e [] h = (tt, tt)
  last-ascends n e (f ∷ es) h = ⊎_elim
      (λ s. let g = rw (below-greater e.0 f.0 s) at h in
      rw (below-not_eq e.0 f.0 s) (above-last (suc n) e.0 f es s g, last-ascends (suc n) f es g))
      (⊎_elim (λ q. let g = rw (cmp-equal e.0 f.0 q) at h in rw (bytes_eq-of e.0 f.0 q) (last-ascends (suc n) f es g))
      (λ s. let g = rw s at h in cc)) (compare e.0 f.0)

  pub last_wins-ascends : (es : List (List ℕ × V)) → first_fault es ≡ None → IsAscending (last_wins es)
  last_wins-ascends [] h = tt
  last_wins-ascends (e ∷ es) h = last-ascends 1 e es h

  -- the last value of a key
  lookup-append : (k : List ℕ) (xs ys : List (List ℕ × V)) → lookup k (xs ++ ys) ≡ option_or (lookup k xs) (lookup k ys)
  lookup-append k [] ys = refl
  lookup-append k (x ∷ xs) ys = elim (bytes_eq x.0 k) as (λ b. (if b then Some x.1 else lookup k (xs ++ ys))
      ≡ option_or (if b then Some x.1 else lookup k xs) (lookup k ys)) [
        | true ↦ refl
        | false ↦ lookup-append k xs ys
      ]

  lookup-reverse : (k : List ℕ) (e : List ℕ × V) (es : List (List ℕ × V))
      → lookup k (reverse (e ∷ es)) ≡ option_or (lookup k (reverse es)) (if bytes_eq e.0 k then Some e.1 else None)
  lookup-reverse k e es = ap (lookup k) (reverse_onto es e []) ∙ lookup-append k (reverse es) (e ∷ [])

  -- an equal key after it hides a pair
  hidden : (x : Option V) (v : V) (o : Option V) → option_or (option_or x (Some v)) o ≡ option_or x (Some v)
  hidden None v o = refl
  hidden (Some w) v o = refl

  lookup-last : (n : ℕ) (k : List ℕ) (e : List ℕ × V) (es : List (List ℕ × V)) → first_fault_after n e.0 es ≡ None
      → lookup k (last_wins_from e es) ≡ lookup k (reverse (e ∷ es))
  lookup-last n k e [] h = refl
  lookup-last n k e (f ∷ es) h = ⊎_elim
      (λ s. let g = rw (below-greater e.0 f.0 s) at h in rw (below-not_eq e.0 f.0 s, lookup-reverse k e (f ∷ es))
      (elim (bytes_eq e.0 k) as (λ b. bytes_eq e.0 k ≡ b → (if b then Some e.1 else lookup k (last_wins_from f es))
      ≡ option_or (lookup k (reverse (f ∷ es))) (if b then Some e.1 else None)) [
        | true ↦ λ m. let a : lookup k (reverse (f ∷ es)) ≡ None = sym (lookup-last (suc n) k f es g)
            ∙ ap (λ z. lookup z (last_wins_from f es)) (sym (bytes_eq-equal e.0 k m))
            ∙ lookup-above e.0 (last_wins_from f es) (above-last (suc n) e.0 f es s g) in
            sym (ap (λ z. option_or z (Some e.1)) a)
        | false ↦ λ m. lookup-last (suc n) k f es g ∙ sym (or_none (lookup k (reverse (f ∷ es))))
      ] refl))
      (⊎_elim (λ q. let g = rw (cmp-equal e.0 f.0 q) at h in
      rw (bytes_eq-of e.0 f.0 q, lookup-reverse k e (f ∷ es)) (lookup-last (suc n) k f es g ∙
      rw (lookup-reverse k f es, q) (elim (bytes_eq f.0 k)
      as (λ b. option_or (lookup k (reverse es)) (if b then Some f.1 else None)
      ≡ option_or (option_or (lookup k (reverse es)) (if b then Some f.1 else None)) (if b then Some e.1 else None)) [
        | true ↦ sym (hidden (lookup k (reverse es)) f.1 (Some e.1))
        | false ↦ sym (or_none (option_or (lookup k (reverse es)) None))
      ])))
      (λ s. let g = rw s at h in cc)) (compare e.0 f.0)

  pub lookup-last_wins : (k : List ℕ) (es : List (List ℕ × V)) → first_fault es ≡ None
      → lookup k (last_wins es) ≡ lookup k (reverse es)
  lookup-last_wins k [] h = refl
  lookup-last_wins k (e ∷ es) h = lookup-last 1 k e es h

  -- strictly ascending pairs
  strict-after : (n : ℕ) (e : List ℕ × V) (es : List (List ℕ × V)) → IsAscending (e ∷ es)
      → (first_fault_after n e.0 es ≡ None) × (last_wins_from e es ≡ e ∷ es)
  strict-after n e [] h = (refl, refl)
  strict-after n e (f ∷ es) h = let r = strict-after (suc n) f es h.1 in
      (rw (below-greater e.0 f.0 h.0.0) r.0, rw (below-not_eq e.0 f.0 h.0.0) (ap (λ z. e ∷ z) r.1))

  pub strict-faultless : (es : List (List ℕ × V)) → IsAscending es → first_fault es ≡ None
  strict-faultless [] h = refl
  strict-faultless (e ∷ es) h = (strict-after 1 e es h).0

  pub strict-stays : (es : List (List ℕ × V)) → IsAscending es → last_wins es ≡ es
  strict-stays [] h = refl
  strict-stays (e ∷ es) h = (strict-after 1 e es h).1

  -- the place after k, of which the list continues with es
  abbrev FaultAfter : List ℕ → List (List ℕ × V) → ℕ → Type 0
  FaultAfter k es i = (i < length es) × IsLess (get_or (keys_of es) i []) (get_or (k ∷ keys_of es) i [])

  -- the first fault after k, of a list whose places begin at n
  abbrev FirstAfter : ℕ → ℕ → List ℕ → List (List ℕ × V) → Type 0
  FirstAfter n i k es = (j : ℕ) × (i ≡ n + j) × FaultAfter k es j × ((m : ℕ) → m < j → FaultAfter k es m → ⊥)

  none-before : (k : List ℕ) (e : List ℕ × V) (es : List (List ℕ × V)) (j : ℕ) → (IsLess e.0 k → ⊥)
      → ((m : ℕ) → m < j → FaultAfter e.0 es m → ⊥) → (m : ℕ) → m < suc j → FaultAfter k (e ∷ es) m → ⊥
  none-before k e es j differs r zero l f = differs f.1
  none-before k e es j differs r (suc m) l f = r m (omega arith) (omega (arith, f.0), f.1)

  first-later : (n i : ℕ) (k : List ℕ) (e : List ℕ × V) (es : List (List ℕ × V)) → (IsLess e.0 k → ⊥)
      → FirstAfter (suc n) i e.0 es → FirstAfter n i k (e ∷ es)
  first-later n i k e es differs r = (
    suc r.0,
    omega (arith, r.1),
    (omega (arith, r.2.0), r.2.1),
    none-before k e es r.0
        differs r.3,
  )

  found-after : (n i : ℕ) (k : List ℕ) (es : List (List ℕ × V)) → first_fault_after n k es ≡ Some i
      → FirstAfter n i k es
  found-after n i k [] h = absurd (cc)
  found-after n i k (e ∷ es) h = ⊎_elim
      (λ s. let g = rw (below-greater k e.0 s) at h in
      first-later n i k e es (λ b. below-not_below k e.0 s b) (found-after (suc n) i e.0 es g))
      (⊎_elim (λ q. let g = rw (cmp-equal k e.0 q) at h in
      first-later n i k e es (λ b. let f = cmp-equal k e.0 q in cc) (found-after (suc n) i e.0 es g))
      (λ s. let g = rw s at h in let f : n ≡ i = cc in
      (0, omega (arith, f), (omega arith, s), λ m l. absurd (omega arith)))) (compare k e.0)

  none-after : (n : ℕ) (k : List ℕ) (es : List (List ℕ × V)) → first_fault_after n k es ≡ None → (m : ℕ)
      → FaultAfter k es m → ⊥
  none-after n k [] h m f = absurd (omega (arith, f.0))
  none-after n k (e ∷ es) h zero f = (faultless-after n k e es h).0 f.1
  none-after n k (e ∷ es) h (suc m) f = none-after (suc n) e.0 es (faultless-after n k e es h).1 m
      (omega (arith, f.0), f.1)

  to-after : (e : List ℕ × V) (es : List (List ℕ × V)) (i : ℕ) → IsFaultAt (e ∷ es) (suc i) → FaultAfter e.0 es i
  to-after e es i h = let s : suc i - 1 ≡ i = omega arith in (omega (arith, h.1), rw s at h.2)

  from-after : (e : List ℕ × V) (es : List (List ℕ × V)) (i : ℕ) → FaultAfter e.0 es i → IsFaultAt (e ∷ es) (suc i)
  from-after e es i h = let s : suc i - 1 ≡ i = omega arith in (omega arith, omega (arith, h.0), rw s h.1)

  pub fault-there : (es : List (List ℕ × V)) (i : ℕ) → first_fault es ≡ Some i → IsFaultAt es i
  fault-there [] i h = absurd (cc)
  fault-there (e ∷ es) i h = let r = found-after 1 i e.0 es h in let s : i ≡ suc r.0 = omega (arith, r.1) in
      rw s (from-after e es r.0 r.2)

  pub fault-first : (es : List (List ℕ × V)) (i j : ℕ) → first_fault es ≡ Some i → j < i → IsFaultAt es j → ⊥
  fault-first [] i j h l f = absurd (cc)
  fault-first (e ∷ es) i zero h l f = absurd (omega (arith, f.0))
  fault-first (e ∷ es) i (suc j) h l f = let r = found-after 1 i e.0 es h in
      r.3 j (omega (arith, r.1, l)) (to-after e es j f)

  pub fault-none : (es : List (List ℕ × V)) (j : ℕ) → first_fault es ≡ None → IsFaultAt es j → ⊥
  fault-none [] j h f = absurd (omega (arith, f.1))
  fault-none (e ∷ es) zero h f = absurd (omega (arith, f.0))
  fault-none (e ∷ es) (suc j) h f = none-after 1 e.0 es h j (to-after e es j f)
