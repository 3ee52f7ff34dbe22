-- What an inserted or a removed pair does to the longest match.
use Rattle.std.proofs.Common.{◌≡◌, ℕ, ◌<◌, ⊎_elim, length, arith, List, [], ◌∷◌, true, false, not, refl, sym, ap, ◌∙◌}
use Rattle.std.proofs.Common.{Option, Some, None, if◌then◌else◌}
use Rattle.std.specs.Prelude.{◌≢◌}
use Rattle.rart_keys.specs.ByteStrings.{begins, bytes_eq, IsLess}
use Rattle.rart_keys.specs.Filters.{last_or, longest_match, matches}
use Rattle.rart_keys.specs.LongestMatches.{HasLonger, HasNoLonger}
use Rattle.rart_keys.specs.SortedMap.{AreAbove, IsAscending, lookup, put, without}
use Rattle.rart_keys.proofs.strings.ByteOrder.{is_equal, eq-yes, eq-no, equal_or_not, bytes_eq-equal, bytes_eq-differ}
use Rattle.rart_keys.proofs.strings.ByteOrder.{compare}
use Rattle.rart_keys.proofs.strings.ByteOrder.{below-greater, cmp-itself}
use Rattle.rart_keys.proofs.maps.SortedMaps.{above-trans, lookup-first}

-- of two strings that begin a third the lower one is shorter
pub below-shorter : (p k q : List ℕ) → IsLess p k → begins p q ≡ true → begins k q ≡ true → length p < length k
below-shorter [] [] q b f g = absurd (cc)
below-shorter [] (y ∷ k) q b f g = omega arith
below-shorter (x ∷ p) [] q b f g = absurd (cc)
below-shorter (x ∷ p) (y ∷ k) [] b f g = absurd (cc)
below-shorter (x ∷ p) (y ∷ k) (z ∷ q) b f g = ⊎_elim
    (λ e. ⊎_elim
    (λ h. let m : x ≡ y = e ∙ sym h in let s
    = below-shorter p k q (rw (is_equal x y m) at b) (rw (eq-yes x z e) at f) (rw (eq-yes y z h) at g) in
    omega (arith, s))
    (λ n. absurd (let t = rw (eq-no y z n) at g in cc)) (equal_or_not y z))
    (λ n. absurd (let t = rw (eq-no x z n) at f in cc)) (equal_or_not x z)

module _ {V : Type 0} where
  first-begins : (o : Option (List ℕ × V)) (q : List ℕ) (e : List ℕ × V) (es : List (List ℕ × V)) → begins e.0 q ≡ true
      → last_or o (matches q (e ∷ es)) ≡ last_or (Some e) (matches q es)
  first-begins o q e es f = rw f refl

  first-stored : (e : List ℕ × V) (es : List (List ℕ × V)) → lookup e.0 (e ∷ es) ≢ None
  first-stored e es n = let f = lookup-first e.0 e.1 es in cc

  pub stored-after : (k : List ℕ) (e : List ℕ × V) (es : List (List ℕ × V)) → lookup k es ≢ None
      → lookup k (e ∷ es) ≢ None
  stored-after k e es h = elim (bytes_eq e.0 k) as (λ b. (if b then Some e.1 else lookup k es) ≢ None) [
    | true ↦ λ n. cc
    | false ↦ h
  ]

  pub other-stored : (k : List ℕ) (e : List ℕ × V) (es : List (List ℕ × V)) → lookup k (e ∷ es) ≢ None → (e.0 ≡ k → ⊥)
      → lookup k es ≢ None
  other-stored k e es h n m = h (rw (bytes_eq-differ e.0 k n) m)

  no-longer-after : (p q : List ℕ) (e : List ℕ × V) (es : List (List ℕ × V)) → HasNoLonger p q (e ∷ es)
      → HasNoLonger p q es
  no-longer-after p q e es h = λ k s f. h k (stored-after k e es s) f

  -- where a stored key begins q, the value to start from doesn't matter
  some-match : (k q : List ℕ) (o r : Option (List ℕ × V)) (es : List (List ℕ × V)) → lookup k es ≢ None
      → begins k q ≡ true → last_or o (matches q es) ≡ last_or r (matches q es)
  some-match k q o r [] h f = absurd (h refl)
  some-match k q o r (e ∷ es) h f = elim (begins e.0 q) as (λ b. begins e.0 q ≡ b
      → last_or o (if b then e ∷ matches q es else matches q es)
      ≡ last_or r (if b then e ∷ matches q es else matches q es)) [
        | true ↦ λ s. refl
        | false ↦ λ s. some-match k q o r es (other-stored k e es h (λ m. let t = ap (λ z. begins z q) m in cc)) f
      ] refl

  none-above : (p q : List ℕ) (es : List (List ℕ × V)) → AreAbove p es → begins p q ≡ true → HasNoLonger p q es
      → matches q es ≡ []
  none-above p q [] a f h = refl
  none-above p q (e ∷ es) a f h = elim (begins e.0 q) as (λ b. begins e.0 q ≡ b
      → (if b then e ∷ matches q es else matches q es) ≡ []) [
        | true ↦ λ s. absurd (let n = h e.0 (first-stored e es) s in let m = below-shorter p e.0 q a.0 f s in
            omega (arith, n, m))
        | false ↦ λ s. none-above p q es a.1 f (no-longer-after p q e es h)
      ] refl

  longest-put-from : (o : Option (List ℕ × V)) (p q : List ℕ) (v : V) (es : List (List ℕ × V)) → IsAscending es
      → begins p q ≡ true → HasNoLonger p q es → last_or o (matches q (put p v es)) ≡ Some (p, v)
  longest-put-from o p q v [] a f h = rw f refl
  longest-put-from o p q v (e ∷ es) a f h = ⊎_elim
      (λ s. let more : put p v (e ∷ es) ≡ (p, v) ∷ e ∷ es = rw s refl in
      ap (λ z. last_or o (matches q z)) more ∙ first-begins o q (p, v) (e ∷ es) f
      ∙ ap (last_or (Some (p, v))) (none-above p q (e ∷ es) (s, above-trans p e.0 es s a.0) f h))
      (⊎_elim (λ m. let same : put p v (e ∷ es) ≡ (p, v) ∷ es = rw (← m, cmp-itself p) refl in
      ap (λ z. last_or o (matches q z)) same ∙ first-begins o q (p, v) es f
      ∙ ap (last_or (Some (p, v))) (none-above p q es (rw m a.0) f (no-longer-after p q e es h)))
      (λ s. let more : put p v (e ∷ es) ≡ e ∷ put p v es = rw (below-greater e.0 p s) refl in
      ap (λ z. last_or o (matches q z)) more ∙ elim (begins e.0 q)
      as (λ b. last_or o (if b then e ∷ matches q (put p v es) else matches q (put p v es)) ≡ Some (p, v)) [
        | true ↦ longest-put-from (Some e) p q v es a.1 f (no-longer-after p q e es h)
        | false ↦ longest-put-from o p q v es a.1 f (no-longer-after p q e es h)
      ])) (compare p e.0)

  pub longest-put : (p q : List ℕ) (v : V) (es : List (List ℕ × V)) → IsAscending es → begins p q ≡ true
      → HasNoLonger p q es → longest_match q (put p v es) ≡ Some (p, v)
  longest-put p q v es a f h = longest-put-from None p q v es a f h

  matches-put : (p q : List ℕ) (v : V) (es : List (List ℕ × V)) → begins p q ≡ false
      → matches q (put p v es) ≡ matches q es
  matches-put p q v [] f = rw f refl
  matches-put p q v (e ∷ es) f = ⊎_elim
      (λ s. let more : put p v (e ∷ es) ≡ (p, v) ∷ e ∷ es = rw s refl in ap (matches q) more ∙ rw f refl)
      (⊎_elim (λ m. let same : put p v (e ∷ es) ≡ (p, v) ∷ es = rw (← m, cmp-itself p) refl in
      let g : begins e.0 q ≡ false = rw (← m) f in ap (matches q) same ∙ rw (f, g) refl)
      (λ s. let more : put p v (e ∷ es) ≡ e ∷ put p v es = rw (below-greater e.0 p s) refl in
      ap (matches q) more ∙ elim (begins e.0 q)
      as (λ b. (if b then e ∷ matches q (put p v es) else matches q (put p v es))
      ≡ (if b then e ∷ matches q es else matches q es)) [
        | true ↦ ap (λ z. e ∷ z) (matches-put p q v es f)
        | false ↦ matches-put p q v es f
      ])) (compare p e.0)

  pub elsewhere-put : (p q : List ℕ) (v : V) (es : List (List ℕ × V)) → begins p q ≡ false
      → longest_match q (put p v es) ≡ longest_match q es
  elsewhere-put p q v es f = ap (last_or None) (matches-put p q v es f)

  shorter-put-from : (o : Option (List ℕ × V)) (p q k : List ℕ) (v : V) (es : List (List ℕ × V)) → begins p q ≡ true
      → lookup k es ≢ None → begins k q ≡ true → length p < length k → last_or o (matches q (put p v es))
      ≡ last_or o (matches q es)
  shorter-put-from o p q k v [] f h g l = absurd (h refl)
  shorter-put-from o p q k v (e ∷ es) f h g l = ⊎_elim
      (λ s. let more : put p v (e ∷ es) ≡ (p, v) ∷ e ∷ es = rw s refl in
      ap (λ z. last_or o (matches q z)) more ∙ first-begins o q (p, v) (e ∷ es) f
      ∙ some-match k q (Some (p, v)) o (e ∷ es) h g)
      (⊎_elim (λ m. let same : put p v (e ∷ es) ≡ (p, v) ∷ es = rw (← m, cmp-itself p) refl in
      let begun : begins e.0 q ≡ true = rw (← m) f in
      let after = other-stored k e es h (λ n. omega (arith, ap length (m ∙ n), l)) in
      ap (λ z. last_or o (matches q z)) same ∙ first-begins o q (p, v) es f
      ∙ some-match k q (Some (p, v)) (Some e) es after g ∙ sym (first-begins o q e es begun))
      (λ s. let more : put p v (e ∷ es) ≡ e ∷ put p v es = rw (below-greater e.0 p s) refl in
      let after = other-stored k e es h (λ n. let b : begins e.0 q ≡ true = rw n g in
      omega (arith, below-shorter e.0 p q s b f, ap length n, l)) in
      ap (λ z. last_or o (matches q z)) more ∙ elim (begins e.0 q)
      as (λ b. last_or o (if b then e ∷ matches q (put p v es) else matches q (put p v es))
      ≡ last_or o (if b then e ∷ matches q es else matches q es)) [
        | true ↦ shorter-put-from (Some e) p q k v es f after g l
        | false ↦ shorter-put-from o p q k v es f after g l
      ])) (compare p e.0)

  pub shorter-put : (p q : List ℕ) (v : V) (es : List (List ℕ × V)) → HasLonger p q es
      → longest_match q (put p v es) ≡ longest_match q es
  shorter-put p q v es h = elim (begins p q) as (λ b. begins p q ≡ b
      → longest_match q (put p v es) ≡ longest_match q es) [
        | true ↦ λ f. shorter-put-from None p q h.0 v es f h.1 h.2 h.3
        | false ↦ λ f. elsewhere-put p q v es f
      ] refl

  matches-without : (p q : List ℕ) (es : List (List ℕ × V)) → begins p q ≡ false
      → matches q (without p es) ≡ matches q es
  matches-without p q [] f = refl
  matches-without p q (e ∷ es) f = elim (bytes_eq e.0 p) as (λ b. bytes_eq e.0 p ≡ b
      → matches q (if not b then e ∷ without p es else without p es)
      ≡ (if begins e.0 q then e ∷ matches q es else matches q es)) [
        | true ↦ λ m. let g : begins e.0 q ≡ false = rw (bytes_eq-equal e.0 p m) f in rw g (matches-without p q es f)
        | false ↦ λ m. elim (begins e.0 q) as (λ b. (if b then e ∷ matches q (without p es)
            else matches q (without p es))
            ≡ (if b then e ∷ matches q es else matches q es)) [
              | true ↦ ap (λ z. e ∷ z) (matches-without p q es f)
              | false ↦ matches-without p q es f
            ]
      ] refl

  pub elsewhere-without : (p q : List ℕ) (es : List (List ℕ × V)) → begins p q ≡ false
      → longest_match q (without p es) ≡ longest_match q es
  elsewhere-without p q es f = ap (last_or None) (matches-without p q es f)
