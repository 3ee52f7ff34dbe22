-- The pairs of a list whose key a string doesn't begin.
use Rattle.std.proofs.Common.{◌≡◌, ℕ, ◌+◌, ◌<◌, ◌≤◌, ⊎_elim, not, Bool, true, false, List, [], ◌∷◌, ◌++◌, length, refl}
use Rattle.std.proofs.Common.{sym, ap, ◌∙◌, arith, Option, Some, None, if◌then◌else◌}
use Rattle.std.specs.List.{filter}
use Rattle.rart_keys.specs.ByteStrings.{begins, strip_prefix}
use Rattle.rart_keys.specs.Filters.{below, without_prefix}
use Rattle.rart_keys.specs.SortedMap.{longest_key}
use Rattle.rart_keys.proofs.strings.ByteOrder.{eq-yes, eq-no, equal_or_not}
use Rattle.rart_trie.specs.tries.Trie.{own_pair, with_prefix}
use Rattle.rart_trie.proofs.tries.FirstBytes.{AllFirst, AllFrom}
use Rattle.rart_trie.proofs.tries.PrefixedStrings.{begins-after, begins-apart}

-- a string that is a prefix begins it; one that is longer doesn't
pub ended-begins : (p q : List ℕ) → strip_prefix p q ≡ Some [] → begins q p ≡ true
ended-begins [] q s = let e : q ≡ [] = cc in rw e refl
ended-begins (x ∷ p) [] s = absurd (cc)
ended-begins (x ∷ p) (y ∷ q) s = ⊎_elim
    (λ e. let h = rw (eq-yes x y e) at s in rw (eq-yes y x (sym e)) (ended-begins p q h))
    (λ n. let h = rw (eq-no x y n) at s in absurd (cc)) (equal_or_not x y)

pub longer-not_begins : (p q r : List ℕ) (b : ℕ) → strip_prefix p q ≡ Some (b ∷ r) → begins q p ≡ false
longer-not_begins [] q r b s = let e : q ≡ b ∷ r = cc in rw e refl
longer-not_begins (x ∷ p) [] r b s = absurd (cc)
longer-not_begins (x ∷ p) (y ∷ q) r b s = ⊎_elim
    (λ e. let h = rw (eq-yes x y e) at s in rw (eq-yes y x (sym e)) (longer-not_begins p q r b h))
    (λ n. let h = rw (eq-no x y n) at s in absurd (cc)) (equal_or_not x y)

module _ {V : Type 0} where
  pub without-after : (q p r : List ℕ) (es : List (List ℕ × V)) → strip_prefix q p ≡ Some r
      → without_prefix p (with_prefix q es) ≡ with_prefix q (without_prefix r es)
  without-after q p r [] s = refl
  without-after q p r (e ∷ es) s = rw (begins-after q p r e.0 s, without-after q p r es s)
      (elim (begins r e.0) as (λ z. (if not z then (q ++ e.0, e.1) ∷ with_prefix q (without_prefix r es)
      else with_prefix q (without_prefix r es))
      ≡ with_prefix q (if not z then e ∷ without_prefix r es else without_prefix r es)) [ true ↦ refl | false ↦ refl ])

  pub without-apart : (q p : List ℕ) (es : List (List ℕ × V)) → strip_prefix q p ≡ None
      → without_prefix p (with_prefix q es) ≡ (if begins p q then [] else with_prefix q es)
  without-apart q p [] s = elim (begins p q) as (λ z. ◌≡◌ {A = List (List ℕ × V)} [] (if z then [] else [])) [
    | true ↦ refl
    | false ↦ refl
  ]
  without-apart q p (e ∷ es) s = rw (begins-apart q p e.0 s, without-apart q p es s)
      (elim (begins p q) as (λ z. (if not z then (q ++ e.0, e.1) ∷ (if z then [] else with_prefix q es)
      else (if z then [] else with_prefix q es)) ≡ (if z then [] else with_prefix q (e ∷ es))) [
        | true ↦ refl
        | false ↦ refl
      ])

  pub without-nil : (es : List (List ℕ × V)) → without_prefix [] es ≡ []
  without-nil [] = refl
  without-nil (e ∷ es) = without-nil es

  pub without-here : (b : ℕ) (r : List ℕ) (v : Option V) (es : List (List ℕ × V))
      → without_prefix (b ∷ r) (own_pair v ++ es) ≡ own_pair v ++ without_prefix (b ∷ r) es
  without-here b r None es = refl
  without-here b r (Some v) es = refl

  -- no key continues by the byte
  pub without-first : (b c : ℕ) (r : List ℕ) (es : List (List ℕ × V)) → AllFirst c es → (c ≡ b → ⊥)
      → without_prefix (b ∷ r) es ≡ es
  without-first b c r [] f n = refl
  without-first b c r (([], v) ∷ es) f n = absurd f.0
  without-first b c r ((x ∷ k, v) ∷ es) f n = rw (eq-no b x (λ e. n (sym f.0 ∙ sym e)))
      (ap (λ z. (x ∷ k, v) ∷ z) (without-first b c r es f.1 n))

  pub without-from : (b low : ℕ) (r : List ℕ) (es : List (List ℕ × V)) → AllFrom low es → b < low
      → without_prefix (b ∷ r) es ≡ es
  without-from b low r [] f n = refl
  without-from b low r (([], v) ∷ es) f n = absurd f.0
  without-from b low r ((x ∷ k, v) ∷ es) f n = rw (eq-no b x (λ e. omega (arith, f.0)))
      (ap (λ z. (x ∷ k, v) ∷ z) (without-from b low r es f.1 n))

  -- how many there are, and how long the keys are
  pub length-parted : (q : List ℕ) (es : List (List ℕ × V))
      → length (without_prefix q es) + length (below q es) ≡ length es
  length-parted q [] = refl
  length-parted q (e ∷ es) = elim (begins q e.0)
      as (λ z. length (if not z then e ∷ without_prefix q es else without_prefix q es)
      + length (if z then e ∷ below q es else below q es) ≡ length (e ∷ es)) [
        | true ↦ omega (arith, length-parted q es)
        | false ↦ omega (arith, length-parted q es)
      ]

  pub longest_key-filter : (h : List ℕ × V → Bool) (es : List (List ℕ × V))
      → longest_key (filter h es) ≤ longest_key es
  longest_key-filter h [] = omega arith
  longest_key-filter h (e ∷ es) = elim (h e) as (λ z. longest_key (if z then e ∷ filter h es else filter h es)
      ≤ longest_key (e ∷ es)) [
        | true ↦ omega (arith, longest_key-filter h es)
        | false ↦ omega (arith, longest_key-filter h es)
      ]
