-- The longest match is the longest stored key that begins the probe, and matches ascend by length.
use Rattle.std.proofs.Common.{◌≡◌, ℕ, ◌<◌, ◌≤◌, ◌⊎◌, ⊎_elim, inl, inr, length, arith, List, [], ◌∷◌, true, false, refl}
use Rattle.std.proofs.Common.{sym, ap, subst, ◌∙◌, Option, Some, None, if◌then◌else◌}
use Rattle.rart_keys.specs.ByteStrings.{begins, bytes_eq, IsLess}
use Rattle.rart_keys.specs.Filters.{last_or, matches}
use Rattle.rart_keys.specs.LongestMatches.{AreLonger, AscendByLength, HasNoMatch, IsLongest, LongestIsMatch}
use Rattle.rart_keys.specs.LongestMatches.{MatchIsLongest}
use Rattle.rart_keys.specs.SortedMap.{AreAbove, IsAscending, lookup}
use Rattle.rart_keys.proofs.strings.ByteOrder.{bytes_eq-equal, bytes_eq-differ, bytes_eq-itself, eq-no, eq-yes}
use Rattle.rart_keys.proofs.strings.ByteOrder.{equal_or_not}
use Rattle.rart_keys.proofs.maps.LongestMatchLemmas.{below-shorter, other-stored}
use Rattle.rart_keys.proofs.maps.SortedMaps.{lookup-first}

-- two beginnings of q with one length are equal
begin-alike : (k l q : List ℕ) → begins k q ≡ true → begins l q ≡ true → length k ≡ length l → k ≡ l
begin-alike [] [] q f g n = refl
begin-alike [] (y ∷ l) q f g n = absurd (cc)
begin-alike (x ∷ k) [] q f g n = absurd (cc)
begin-alike (x ∷ k) (y ∷ l) [] f g n = absurd (cc)
begin-alike (x ∷ k) (y ∷ l) (z ∷ q) f g n = ⊎_elim
    (λ e. ⊎_elim
    (λ h. let m : k ≡ l = begin-alike k l q (rw (eq-yes x z e) at f) (rw (eq-yes y z h) at g) (omega (arith, n)) in cc)
    (λ o. absurd (let t = rw (eq-no y z o) at g in cc)) (equal_or_not y z))
    (λ o. absurd (let t = rw (eq-no x z o) at f in cc)) (equal_or_not x z)

same_or_not : (k l : List ℕ) → (k ≡ l) ⊎ (k ≡ l → ⊥)
same_or_not k l = elim (bytes_eq k l) as (λ b. bytes_eq k l ≡ b → (k ≡ l) ⊎ (k ≡ l → ⊥)) [
  | true ↦ λ e. inl (bytes_eq-equal k l e)
  | false ↦ λ e. inr (λ m. let t = bytes_eq-itself l in let u = ap (λ z. bytes_eq z l) m in cc)
] refl

module _ {V : Type 0} where
  above-stored : (p k : List ℕ) (v : V) (es : List (List ℕ × V)) → AreAbove p es → lookup k es ≡ Some v → IsLess p k
  above-stored p k v [] a h = absurd (cc)
  above-stored p k v (e ∷ es) a h = elim (bytes_eq e.0 k) as (λ b. bytes_eq e.0 k ≡ b
      → (if b then Some e.1 else lookup k es) ≡ Some v → IsLess p k) [
        | true ↦ λ m t. subst (λ z. IsLess p z) (bytes_eq-equal e.0 k m) a.0
        | false ↦ λ m t. above-stored p k v es a.1 t
      ] refl h

  skipped : (k : List ℕ) (o : Option V) (e : List ℕ × V) (es : List (List ℕ × V)) → (e.0 ≡ k → ⊥) → lookup k es ≡ o
      → lookup k (e ∷ es) ≡ o
  skipped k o e es n h = rw (bytes_eq-differ e.0 k n) h

  -- what a walk along the matches of q has last: what it had, if no stored key begins q, and the longest of these
  -- otherwise
  Found : List ℕ → List (List ℕ × V) → Option (List ℕ × V) → Option (List ℕ × V) → Type 0
  Found q es o r = ((r ≡ o) × HasNoMatch q es) ⊎ ((e : List ℕ × V) × (r ≡ Some e) × IsLongest e.0 e.1 q es)

  found : (q : List ℕ) (es : List (List ℕ × V)) (o : Option (List ℕ × V)) → IsAscending es
      → Found q es o (last_or o (matches q es))
  unfolding Found
  found q [] o a = inl (refl, λ k f. refl)
  found q (e ∷ es) o a = elim (begins e.0 q) as (λ b. begins e.0 q ≡ b
      → Found q (e ∷ es) o (last_or o (if b then e ∷ matches q es else matches q es))) [
        | true ↦ λ s. ⊎_elim
            (λ h. inr (
              e,
              h.0,
              (
                lookup-first e.0 e.1 es,
                s,
                λ k t f. ⊎_elim
                    (λ m. omega (arith, ap length m))
                    (λ n. absurd (other-stored k e es t n (h.1 k f)))
                    (same_or_not e.0 k),
              ),
            ))
            (λ h. let lower : IsLess e.0 h.0.0 = above-stored e.0 h.0.0 h.0.1 es a.0 h.2.0 in
            let short : length e.0 < length h.0.0 = below-shorter e.0 h.0.0 q lower s h.2.1 in
            inr (
              h.0,
              h.1,
              (
                skipped h.0.0 (Some h.0.1) e es (λ m. omega (arith, ap length m, short)) h.2.0,
                h.2.1,
                λ k t f. ⊎_elim
                    (λ m. omega (arith, ap length m, short))
                    (λ n. h.2.2 k (other-stored k e es t n) f)
                    (same_or_not e.0 k),
              ),
            ))
            (found q es (Some e) a.1)
        | false ↦ λ s. ⊎_elim
            (λ h. inl (h.0, λ k f. skipped k None e es (λ m. let t = ap (λ z. begins z q) m in cc) (h.1 k f)))
            (λ h. inr (
              h.0,
              h.1,
              (
                skipped h.0.0 (Some h.0.1) e es (λ m. let t = ap (λ z. begins z q) m in let u = h.2.1 in cc) h.2.0,
                h.2.1,
                λ k t f. ⊎_elim
                    (λ m. let u = ap (λ z. begins z q) m in absurd (cc))
                    (λ n. h.2.2 k (other-stored k e es t n) f)
                    (same_or_not e.0 k),
              ),
            ))
            (found q es o a.1)
      ] refl

  pub longest-stored : (p q : List ℕ) (v : V) (es : List (List ℕ × V)) → IsAscending es → MatchIsLongest p v q es
  unfolding Found
  longest-stored p q v es a m = ⊎_elim
      (λ h. absurd (let c = sym m ∙ h.0 in cc))
      (λ h. let item : List ℕ × V = (p, v) in let same : h.0 ≡ item = (let c = sym m ∙ h.1 in cc) in
      subst (λ z. IsLongest z.0 z.1 q es) same h.2)
      (found q es None a)

  pub stored-longest : (p q : List ℕ) (v : V) (es : List (List ℕ × V)) → IsAscending es → LongestIsMatch p v q es
  unfolding Found
  stored-longest p q v es a m = ⊎_elim
      (λ h. absurd (let c = sym m.0 ∙ h.1 p m.1 in cc))
      (λ h. let item : List ℕ × V = (p, v) in
      let one : length p ≤ length h.0.0 = h.2.2 p (λ n. let c = sym m.0 ∙ n in cc) m.1 in
      let two : length h.0.0 ≤ length p = m.2 h.0.0 (λ n. let c = sym h.2.0 ∙ n in cc) h.2.1 in
      let keys : h.0.0 ≡ p = begin-alike h.0.0 p q h.2.1 m.1 (omega (arith, one, two)) in
      let values : h.0.1 ≡ v = (let c = sym h.2.0 ∙ ap (λ z. lookup z es) keys ∙ m.0 in cc) in
      let found_item : List ℕ × V = (h.0.0, h.0.1) in let same : found_item ≡ item = cc in h.1 ∙ ap Some same)
      (found q es None a)

  some-left : (q : List ℕ) (es : List (List ℕ × V)) (e : List ℕ × V) → last_or (Some e) (matches q es) ≡ None → ⊥
  some-left q [] e m = cc
  some-left q (f ∷ es) e m = elim (begins f.0 q)
      as (λ b. last_or (Some e) (if b then f ∷ matches q es else matches q es) ≡ None → ⊥) [
        | true ↦ λ n. some-left q es f n
        | false ↦ λ n. some-left q es e n
      ] m

  pub no-match : (q : List ℕ) (es : List (List ℕ × V)) → last_or None (matches q es) ≡ None → HasNoMatch q es
  no-match q [] m = λ k f. refl
  no-match q (e ∷ es) m = elim (begins e.0 q) as (λ b. begins e.0 q ≡ b
      → last_or None (if b then e ∷ matches q es else matches q es) ≡ None → HasNoMatch q (e ∷ es)) [
        | true ↦ λ s n. absurd (some-left q es e n)
        | false ↦ λ s n k f. skipped k None e es (λ o. let t = ap (λ z. begins z q) o in cc) (no-match q es n k f)
      ] refl m

  -- what is above a string that begins q, and begins q itself, is longer
  longer : (p q : List ℕ) (es : List (List ℕ × V)) → AreAbove p es → begins p q ≡ true → AreLonger p (matches q es)
  longer p q [] a f = tt
  longer p q (e ∷ es) a f = elim (begins e.0 q) as (λ b. begins e.0 q ≡ b
      → AreLonger p (if b then e ∷ matches q es else matches q es)) [
        | true ↦ λ s. (below-shorter p e.0 q a.0 f s, longer p q es a.1 f)
        | false ↦ λ s. longer p q es a.1 f
      ] refl

  pub lengths-ascend : (q : List ℕ) (es : List (List ℕ × V)) → IsAscending es → AscendByLength (matches q es)
  lengths-ascend q [] a = tt
  lengths-ascend q (e ∷ es) a = elim (begins e.0 q) as (λ b. begins e.0 q ≡ b
      → AscendByLength (if b then e ∷ matches q es else matches q es)) [
        | true ↦ λ s. (longer e.0 q es a.0 s, lengths-ascend q es a.1)
        | false ↦ λ s. lengths-ascend q es a.1
      ] refl
