-- Targets packed in the order of their codes: what look-ups find, and what edits are to the pairs.
use Rattle.std.proofs.Common.{◌≡◌, ℕ, zero, suc, ◌+◌, ◌-◌, ◌<◌, ◌≤◌, ◌==◌, ◌⊎◌, ⊎_elim, inl, inr, Bool, true, false}
use Rattle.std.proofs.Common.{List, [], ◌∷◌, length, drop, set, insert, remove, slice_get, refl, sym, ap, ◌∙◌, arith}
use Rattle.std.proofs.Common.{Some, None, if◌then◌else◌}
use Rattle.rart_keys.specs.ByteStrings.{IsLess}
use Rattle.rart_keys.specs.SortedMap.{AreAbove, IsAscending, lookup, put, without}
use Rattle.rart_keys.proofs.maps.SortedMaps.{lookup-above}
use Rattle.rart_keys.proofs.strings.ByteOrder.{eq-no, eq-yes, is_equal, is_greater, is_less}
use Rattle.rart_parts.specs.Bits.{members_from}
use Rattle.rart_parts.proofs.sets.Members.{length-members_from, length-members_from-add, members_from-same}
use Rattle.rart_cidr.specs.CodeSets.{pairs_from, with_first_target}
use Rattle.rart_cidr.proofs.routes.StrideLemmas.{without-absent}

pub either : (b : Bool) → (b ≡ true) ⊎ (b ≡ false)
either true = inl refl
either false = inr refl

pub not_both : (b : Bool) → b ≡ true → b ≡ false → ⊥
not_both b p q = cc

-- ---- how many numbers of a set there are
count-with : (has : ℕ → Bool) (from count : ℕ) → has from ≡ true
    → length (members_from has from (suc count)) ≡ suc (length (members_from has (suc from) count))
count-with has from count e = ap (λ b. length (if b then from ∷ members_from has (suc from) count
    else members_from has (suc from) count)) e

count-without : (has : ℕ → Bool) (from count : ℕ) → has from ≡ false
    → length (members_from has from (suc count)) ≡ length (members_from has (suc from) count)
count-without has from count e = ap (λ b. length (if b then from ∷ members_from has (suc from) count
    else members_from has (suc from) count)) e

-- those before c, c and those after it
count-parts : (has : ℕ → Bool) (c m : ℕ) → length (members_from has 0 (c + suc m))
    ≡ length (members_from has 0 c) + length (members_from has c (suc m))
count-parts has c m = length-members_from-add has 0 c (suc m)
    ∙ ap (λ z. length (members_from has 0 c) + length (members_from has z (suc m))) (omega arith)

-- c is in the set
pub rank-within : (has : ℕ → Bool) (c m : ℕ) → has c ≡ true
    → length (members_from has 0 c) < length (members_from has 0 (c + suc m))
rank-within has c m h = let parts = count-parts has c m in let one = count-with has c m h in omega (arith, parts, one)

-- and here it isn't
pub rank-at_most : (has : ℕ → Bool) (c m : ℕ) → has c ≡ false
    → (length (members_from has 0 c) ≤ length (members_from has 0 (c + suc m)))
    × (length (members_from has 0 (c + suc m)) ≤ c + m)
rank-at_most has c m h =
    let parts = count-parts has c m in
    let none = count-without has c m h in
    let before = length-members_from has 0 c in
    let after = length-members_from has (suc c) m in (
      omega (arith, parts),
      omega (arith, parts, none, before, after),
    )

-- c is in the one set and not in the other, and all else alike
pub count-more : (has new : ℕ → Bool) (c m : ℕ) → ((k : ℕ) → k < c + suc m → (k ≡ c → ⊥) → new k ≡ has k)
    → has c ≡ false → new c ≡ true
    → length (members_from new 0 (c + suc m)) ≡ suc (length (members_from has 0 (c + suc m)))
count-more has new c m same h g =
    let one = count-with new c m g in
    let none = count-without has c m h in
    let all = count-parts new c m in
    let old = count-parts has c m in
    let before = ap length (members_from-same new has 0 c (λ k l u. same k (omega (arith, u))
    (λ e. omega (arith, e, u)))) in
    let after = ap length (members_from-same new has (suc c) m (λ k l u. same k (omega (arith, u))
    (λ e. omega (arith, e, l)))) in
    omega (arith, one, none, all, old, before, after)

-- ---- keys of one byte
less : (c d : ℕ) → c < d → IsLess (c ∷ []) (d ∷ [])
less c d h = rw (is_less c d h) refl

module _ {T : Type 0} where
  -- the pair of a code and a target before others
  abbrev pair_before : ℕ → T → List (List ℕ × T) → List (List ℕ × T)
  pair_before c t es = (c ∷ [], t) ∷ es

  lookup-here : (c d : ℕ) (t : T) (es : List (List ℕ × T)) → d ≡ c → lookup (c ∷ []) (pair_before d t es) ≡ Some t
  lookup-here c d t es e = rw (eq-yes d c e) refl

  lookup-later : (c d : ℕ) (t : T) (es : List (List ℕ × T)) → (d ≡ c → ⊥)
      → lookup (c ∷ []) (pair_before d t es) ≡ lookup (c ∷ []) es
  lookup-later c d t es n = rw (eq-no d c n) refl

  put-here : (c : ℕ) (t w : T) (es : List (List ℕ × T)) → put (c ∷ []) w (pair_before c t es) ≡ pair_before c w es
  put-here c t w es = rw (is_equal c c refl) refl

  put-later : (c d : ℕ) (t w : T) (es : List (List ℕ × T)) → d < c
      → put (c ∷ []) w (pair_before d t es) ≡ pair_before d t (put (c ∷ []) w es)
  put-later c d t w es h = rw (is_greater c d h) refl

  put-above : (k : List ℕ) (w : T) (es : List (List ℕ × T)) → AreAbove k es → put k w es ≡ (k, w) ∷ es
  put-above k w [] a = refl
  put-above k w (e ∷ es) a = let before = a.0 in rw before refl

  without-here : (c : ℕ) (t : T) (es : List (List ℕ × T)) → without (c ∷ []) (pair_before c t es) ≡ without (c ∷ []) es
  without-here c t es = rw (eq-yes c c refl) refl

  without-later : (c d : ℕ) (t : T) (es : List (List ℕ × T)) → d < c
      → without (c ∷ []) (pair_before d t es) ≡ pair_before d t (without (c ∷ []) es)
  without-later c d t es h = rw (eq-no d c (λ e. omega (arith, e, h))) refl

  -- ---- the pairs, one code after another
  pub with-code : (has : ℕ → Bool) (from count : ℕ) (t : T) (ts : List T) → has from ≡ true
      → pairs_from has from (suc count) (t ∷ ts) ≡ pair_before from t (pairs_from has (suc from) count ts)
  with-code has from count t ts e = ap (λ b. if b then pair_before from t (pairs_from has (suc from) count ts)
      else pairs_from has (suc from) count (t ∷ ts)) e

  pub without-code : (has : ℕ → Bool) (from count : ℕ) (ts : List T) → has from ≡ false
      → pairs_from has from (suc count) ts ≡ pairs_from has (suc from) count ts
  without-code has from count ts e = ap (λ b.
      if b then with_first_target from ts (pairs_from has (suc from) count (drop 1 ts))
      else pairs_from has (suc from) count ts) e

  -- the target of a code that is in the set
  pub first-target : (has : ℕ → Bool) (from count : ℕ) (ts : List T) → has from ≡ true
      → length ts ≡ length (members_from has from (suc count))
      → (t : T) × (u : List T) × (ts ≡ t ∷ u) × (length u ≡ length (members_from has (suc from) count))
  first-target has from count [] y l = absurd (let one = count-with has from count y in omega (arith, l, one))
  first-target has from count (t ∷ u) y l =
      (t, u, refl, let one = count-with has from count y in omega (arith, l, one))

  above-first : (k c : ℕ) (ts : List T) (es : List (List ℕ × T)) → k < c → AreAbove (k ∷ []) es
      → AreAbove (k ∷ []) (with_first_target c ts es)
  above-first k c [] es h a = a
  above-first k c (t ∷ ts) es h a = (less k c h, a)

  pairs-above : (has : ℕ → Bool) (k from count : ℕ) (ts : List T) → k < from
      → AreAbove (k ∷ []) (pairs_from has from count ts)
  pairs-above has k from zero ts h = tt
  pairs-above has k from (suc count) ts h = elim (has from)
      as (λ b. AreAbove (k ∷ []) (if b then with_first_target from ts (pairs_from has (suc from) count (drop 1 ts))
      else pairs_from has (suc from) count ts)) [
        | true ↦ above-first k from ts (pairs_from has (suc from) count (drop 1 ts)) h
            (pairs-above has k (suc from) count (drop 1 ts) (omega (arith, h)))
        | false ↦ pairs-above has k (suc from) count ts (omega (arith, h))
      ]

  ascend-first : (c : ℕ) (ts : List T) (es : List (List ℕ × T)) → AreAbove (c ∷ []) es → IsAscending es
      → IsAscending (with_first_target c ts es)
  ascend-first c [] es a i = i
  ascend-first c (t ∷ ts) es a i = (a, i)

  pub pairs-ascend : (has : ℕ → Bool) (from count : ℕ) (ts : List T) → IsAscending (pairs_from has from count ts)
  pairs-ascend has from zero ts = tt
  pairs-ascend has from (suc count) ts = elim (has from)
      as (λ b. IsAscending (if b then with_first_target from ts (pairs_from has (suc from) count (drop 1 ts))
      else pairs_from has (suc from) count ts)) [
        | true ↦ ascend-first from ts (pairs_from has (suc from) count (drop 1 ts))
            (pairs-above has from (suc from) count (drop 1 ts) (omega arith))
            (pairs-ascend has (suc from) count (drop 1 ts))
        | false ↦ pairs-ascend has (suc from) count ts
      ]

  pub length-pairs : (has : ℕ → Bool) (from count : ℕ) (ts : List T)
      → length ts ≡ length (members_from has from count) → length (pairs_from has from count ts) ≡ length ts
  length-pairs has from zero ts l = sym l
  length-pairs has from (suc count) ts l = ⊎_elim
      (λ y.
      let f = first-target has from count ts y l in
      ap (λ z. length (pairs_from has from (suc count) z)) f.2 ∙ ap length (with-code has from count f.0 f.1 y)
      ∙ ap suc (length-pairs has (suc from) count f.1 f.3) ∙ sym (ap length f.2))
      (λ n. ap length (without-code has from count ts n)
      ∙ length-pairs has (suc from) count ts (l ∙ count-without has from count n))
      (either (has from))

  -- the target at a code is at its rank
  pub target-found : (has : ℕ → Bool) (c j from count : ℕ) (ts : List T) → from + j ≡ c → j < count → has c ≡ true
      → length ts ≡ length (members_from has from count)
      → lookup (c ∷ []) (pairs_from has from count ts) ≡ slice_get ts (length (members_from has from j))
  target-found has c j from zero ts e m h l = absurd (omega (arith, m))
  target-found has c zero from (suc count) ts e m h l =
      let at : from ≡ c = omega (arith, e) in
      let y : has from ≡ true = ap has at ∙ h in
      let f = first-target has from count ts y l in
      ap (λ z. lookup (c ∷ []) (pairs_from has from (suc count) z)) f.2
      ∙ ap (lookup (c ∷ [])) (with-code has from count f.0 f.1 y)
      ∙ lookup-here c from f.0 (pairs_from has (suc from) count f.1) at
      ∙ ap (λ z. slice_get z 0) (sym f.2)
  target-found has c (suc j) from (suc count) ts e m h l = ⊎_elim
      (λ y.
      let f = first-target has from count ts y l in
      ap (λ z. lookup (c ∷ []) (pairs_from has from (suc count) z)) f.2
      ∙ ap (lookup (c ∷ [])) (with-code has from count f.0 f.1 y)
      ∙ lookup-later c from f.0 (pairs_from has (suc from) count f.1) (λ q. omega (arith, q, e))
      ∙ target-found has c j (suc from) count f.1 (omega (arith, e)) (omega (arith, m)) h f.3
      ∙ ap (λ r. slice_get (f.0 ∷ f.1) r) (sym (count-with has from j y))
      ∙ ap (λ z. slice_get z (length (members_from has from (suc j)))) (sym f.2))
      (λ n. ap (lookup (c ∷ [])) (without-code has from count ts n)
      ∙ target-found has c j (suc from) count ts (omega (arith, e)) (omega (arith, m)) h
      (l ∙ count-without has from count n)
      ∙ ap (slice_get ts) (sym (count-without has from j n)))
      (either (has from))

  -- and at another code there is none
  absent-first : (c d : ℕ) (ts : List T) (es : List (List ℕ × T)) → (d ≡ c → ⊥) → lookup (c ∷ []) es ≡ None
      → lookup (c ∷ []) (with_first_target d ts es) ≡ None
  absent-first c d [] es n a = a
  absent-first c d (t ∷ ts) es n a = lookup-later c d t es n ∙ a

  pub target-absent : (has : ℕ → Bool) (c from count : ℕ) (ts : List T) → has c ≡ false
      → lookup (c ∷ []) (pairs_from has from count ts) ≡ None
  target-absent has c from zero ts h = refl
  target-absent has c from (suc count) ts h = elim (has from) as (λ b. has from ≡ b → lookup (c ∷ [])
      (if b then with_first_target from ts (pairs_from has (suc from) count (drop 1 ts))
      else pairs_from has (suc from) count ts) ≡ None) [
        | true ↦ λ y. absent-first c from ts (pairs_from has (suc from) count (drop 1 ts))
            (λ e. not_both (has from) y (ap has e ∙ h)) (target-absent has c (suc from) count (drop 1 ts) h)
        | false ↦ λ n. target-absent has c (suc from) count ts h
      ] refl

  -- equal tests have the same pairs
  pairs-alike : (has new : ℕ → Bool) (from count : ℕ) (ts : List T)
      → ((k : ℕ) → from ≤ k → k < from + count → new k ≡ has k)
      → pairs_from has from count ts ≡ pairs_from new from count ts
  pairs-alike has new from zero ts e = refl
  pairs-alike has new from (suc count) ts e =
      let first = pairs-alike has new (suc from) count (drop 1 ts)
      (λ k l h. e k (omega (arith, l)) (omega (arith, h))) in
      let rest = pairs-alike has new (suc from) count ts (λ k l h. e k (omega (arith, l)) (omega (arith, h))) in
      let here : has from ≡ new from = sym (e from (omega arith) (omega arith)) in
      (λ i. if here i then with_first_target from ts (first i) else rest i)

  -- an edit F of the pairs at the code c is the edit `change` of the targets at its rank: F passes the pairs before c,
  -- and `change` as many targets. There are n numbers from c on
  module _ (c n : ℕ) (has new : ℕ → Bool) (same : (k : ℕ) → k < c → new k ≡ has k)
      (F : List (List ℕ × T) → List (List ℕ × T))
      (passes : (d : ℕ) (t : T) (es : List (List ℕ × T)) → d < c → F (pair_before d t es) ≡ pair_before d t (F es))
      (change : List T → ℕ → List T)
      (next : (t : T) (u : List T) (r : ℕ) → change (t ∷ u) (suc r) ≡ t ∷ change u r)
      (here : (u : List T) → length u ≡ length (members_from has c n)
      → F (pairs_from has c n u) ≡ pairs_from new c n (change u 0)) where
    changed : (j from count : ℕ) (ts : List T) → from + j ≡ c → count ≡ j + n
        → length ts ≡ length (members_from has from count)
        → F (pairs_from has from count ts) ≡ pairs_from new from count (change ts (length (members_from has from j)))
    changed zero from count ts e s l =
        let at : from ≡ c = omega (arith, e) in
        let size : count ≡ n = omega (arith, s) in
        (λ i. F (pairs_from has (at i) (size i) ts))
        ∙ here ts (l ∙ (λ i. length (members_from has (at i) (size i))))
        ∙ sym (λ i. pairs_from new (at i) (size i) (change ts 0))
    changed (suc j) from zero ts e s l = absurd (omega (arith, s))
    changed (suc j) from (suc count) ts e s l = ⊎_elim
        (λ y.
        let f = first-target has from count ts y l in
        let small : from < c = omega (arith, e) in
        let r : ℕ = length (members_from has (suc from) j) in
        ap (λ z. F (pairs_from has from (suc count) z)) f.2
        ∙ ap F (with-code has from count f.0 f.1 y)
        ∙ passes from f.0 (pairs_from has (suc from) count f.1) small
        ∙ ap (pair_before from f.0) (changed j (suc from) count f.1 (omega (arith, e)) (omega (arith, s)) f.3)
        ∙ sym (with-code new from count f.0 (change f.1 r) (same from small ∙ y))
        ∙ ap (pairs_from new from (suc count)) (sym (next f.0 f.1 r))
        ∙ ap (λ z. pairs_from new from (suc count) (change (f.0 ∷ f.1) z)) (sym (count-with has from j y))
        ∙ ap (λ z. pairs_from new from (suc count) (change z (length (members_from has from (suc j))))) (sym f.2))
        (λ m.
        let small : from < c = omega (arith, e) in
        ap F (without-code has from count ts m)
        ∙ changed j (suc from) count ts (omega (arith, e)) (omega (arith, s)) (l ∙ count-without has from count m)
        ∙ sym (without-code new from count (change ts (length (members_from has (suc from) j))) (same from small ∙ m))
        ∙ ap (λ r. pairs_from new from (suc count) (change ts r)) (sym (count-without has from j m)))
        (either (has from))

  -- ---- the edits
  module _ (has : ℕ → Bool) (c m : ℕ) (ts : List T) (l : length ts ≡ length (members_from has 0 (c + suc m))) where
    -- another target at a stored code
    pub target-set : (w : T) → has c ≡ true → put (c ∷ []) w (pairs_from has 0 (c + suc m) ts)
        ≡ pairs_from has 0 (c + suc m) (set ts (length (members_from has 0 c)) w)
    target-set w h = changed c (suc m) has has (λ k u. refl) (put (c ∷ []) w)
        (λ d t es u. put-later c d t w es u) (λ u r. set u r w) (λ t u r. refl)
        (λ u s.
        let f = first-target has c m u h s in
        ap (λ z. put (c ∷ []) w (pairs_from has c (suc m) z)) f.2
        ∙ ap (put (c ∷ []) w) (with-code has c m f.0 f.1 h)
        ∙ put-here c f.0 w (pairs_from has (suc c) m f.1)
        ∙ sym (with-code has c m w f.1 h)
        ∙ ap (λ z. pairs_from has c (suc m) (set z 0 w)) (sym f.2))
        c 0 (c + suc m) ts (omega arith) refl l

    -- a target at a new code
    pub target-inserted : (new : ℕ → Bool) (w : T) → ((k : ℕ) → k < c + suc m → (k ≡ c → ⊥) → new k ≡ has k)
        → has c ≡ false → new c ≡ true → put (c ∷ []) w (pairs_from has 0 (c + suc m) ts)
        ≡ pairs_from new 0 (c + suc m) (insert ts (length (members_from has 0 c)) w)
    target-inserted new w same h g = changed c (suc m) has new
        (λ k u. same k (omega (arith, u)) (λ e. omega (arith, e, u))) (put (c ∷ []) w)
        (λ d t es u. put-later c d t w es u) (λ u r. insert u r w) (λ t u r. refl)
        (λ u s. ap (put (c ∷ []) w) (without-code has c m u h)
        ∙ put-above (c ∷ []) w (pairs_from has (suc c) m u) (pairs-above has c (suc c) m u (omega arith))
        ∙ ap (pair_before c w) (pairs-alike has new (suc c) m u (λ k low high. same k (omega (arith, high))
        (λ e. omega (arith, e, low))))
        ∙ sym (with-code new c m w u g))
        c 0 (c + suc m) ts (omega arith) refl l

    -- a target is removed with its code
    pub target-removed : (new : ℕ → Bool) → ((k : ℕ) → k < c + suc m → (k ≡ c → ⊥) → new k ≡ has k)
        → has c ≡ true → new c ≡ false → without (c ∷ []) (pairs_from has 0 (c + suc m) ts)
        ≡ pairs_from new 0 (c + suc m) (remove ts (length (members_from has 0 c)))
    target-removed new same h g = changed c (suc m) has new
        (λ k u. same k (omega (arith, u)) (λ e. omega (arith, e, u))) (without (c ∷ []))
        (λ d t es u. without-later c d t es u) remove (λ t u r. refl)
        (λ u s.
        let f = first-target has c m u h s in
        let after = pairs_from has (suc c) m f.1 in
        ap (λ z. without (c ∷ []) (pairs_from has c (suc m) z)) f.2
        ∙ ap (without (c ∷ [])) (with-code has c m f.0 f.1 h)
        ∙ without-here c f.0 after
        ∙ without-absent (c ∷ []) after (pairs-ascend has (suc c) m f.1)
        (lookup-above (c ∷ []) after (pairs-above has c (suc c) m f.1 (omega arith)))
        ∙ pairs-alike has new (suc c) m f.1 (λ k low high. same k (omega (arith, high)) (λ e. omega (arith, e, low)))
        ∙ sym (without-code new c m f.1 g)
        ∙ ap (λ z. pairs_from new c (suc m) (remove z 0)) (sym f.2))
        c 0 (c + suc m) ts (omega arith) refl l
