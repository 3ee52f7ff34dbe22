-- The length of a join: which keys of the first map are keys of the second.
use Rattle.std.proofs.Common.{◌≡◌, ℕ, suc, true, false, List, [], ◌∷◌, length, refl, subst, arith, Some}
use Rattle.std.proofs.Common.{None, if◌then◌else◌}
use Rattle.std.specs.Prelude.{◌≢◌}
use Rattle.rart_keys.specs.ByteStrings.{bytes_eq}
use Rattle.rart_keys.specs.Joins.{AreKeysOf, ShareNoKey, ahead_if, join}
use Rattle.rart_keys.specs.SortedMap.{lookup}
use Rattle.rart_keys.proofs.strings.ByteOrder.{bytes_eq-equal}
use Rattle.rart_keys.proofs.maps.JoinsOfMaps.{few-joined}
use Rattle.rart_keys.proofs.maps.LongestMatchLemmas.{stored-after}
use Rattle.rart_keys.proofs.maps.SortedMaps.{lookup-first}

module _ {V : Type 0} where
  first-stored : (e : List ℕ × V) (l : List (List ℕ × V)) → lookup e.0 (e ∷ l) ≢ None
  first-stored e l n = let first = lookup-first e.0 e.1 l in cc

  -- a fact of the first key, which holds of the keys after it too, holds of each stored key
  each-stored : (P : List ℕ → Type 0) (e : List ℕ × V) (l : List (List ℕ × V)) → P e.0
      → ((k : List ℕ) → lookup k l ≢ None → P k) → (k : List ℕ) → lookup k (e ∷ l) ≢ None → P k
  each-stored P e l first others k = elim (bytes_eq e.0 k) as (λ b. bytes_eq e.0 k ≡ b
      → (if b then Some e.1 else lookup k l) ≢ None → P k) [
        | true ↦ λ s t. subst P (bytes_eq-equal e.0 k s) first
        | false ↦ λ s t. others k t
      ] refl

module _ {V W : Type 0} where
  pub keys-from_length : (l : List (List ℕ × V)) (m : List (List ℕ × W)) → length (join l m) ≡ length l
      → AreKeysOf l m
  keys-from_length [] m n = λ k stored. absurd (stored refl)
  keys-from_length (e ∷ l) m n = elim (lookup e.0 m) as (λ o. lookup e.0 m ≡ o
      → length (ahead_if e.0 e.1 o (join l m)) ≡ suc (length l) → AreKeysOf (e ∷ l) m) [
        | None ↦ λ o n. absurd (omega (arith, n, few-joined l m))
        | Some w ↦ λ o n. each-stored (λ k. lookup k m ≢ None) e l (λ none. cc)
            (keys-from_length l m (omega (arith, n)))
      ] refl n

  pub length-from_keys : (l : List (List ℕ × V)) (m : List (List ℕ × W)) → AreKeysOf l m
      → length (join l m) ≡ length l
  length-from_keys [] m h = refl
  length-from_keys (e ∷ l) m h = elim (lookup e.0 m) as (λ o. lookup e.0 m ≡ o
      → length (ahead_if e.0 e.1 o (join l m)) ≡ suc (length l)) [
        | None ↦ λ o. absurd (h e.0 (first-stored e l) o)
        | Some w ↦ λ o. omega (arith, length-from_keys l m (λ k stored. h k (stored-after k e l stored)))
      ] refl

  pub apart-from_length : (l : List (List ℕ × V)) (m : List (List ℕ × W)) → length (join l m) ≡ 0
      → ShareNoKey l m
  apart-from_length [] m n = λ k stored. absurd (stored refl)
  apart-from_length (e ∷ l) m n = elim (lookup e.0 m) as (λ o. lookup e.0 m ≡ o
      → length (ahead_if e.0 e.1 o (join l m)) ≡ 0 → ShareNoKey (e ∷ l) m) [
        | None ↦ λ o n. each-stored (λ k. lookup k m ≡ None) e l o (apart-from_length l m n)
        | Some w ↦ λ o n. absurd (omega (arith, n))
      ] refl n

  pub length-from_apart : (l : List (List ℕ × V)) (m : List (List ℕ × W)) → ShareNoKey l m
      → length (join l m) ≡ 0
  length-from_apart [] m h = refl
  length-from_apart (e ∷ l) m h = elim (lookup e.0 m) as (λ o. lookup e.0 m ≡ o
      → length (ahead_if e.0 e.1 o (join l m)) ≡ 0) [
        | None ↦ λ o. length-from_apart l m (λ k stored. h k (stored-after k e l stored))
        | Some w ↦ λ o. absurd (let none = h e.0 (first-stored e l) in cc)
      ] refl
