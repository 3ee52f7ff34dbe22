-- What is left of a storage's entries, and of its capacity, without the child at a byte.
use Rattle.std.proofs.Common.{◌≡◌, ◌≢◌, ◌⊎◌, ℕ, ◌+◌, ◌<◌, ◌≤◌, true, false, cond, eqb, List, [], ◌∷◌, length, Some}
use Rattle.std.proofs.Common.{None, is_some, refl, arith, ⊎_elim, if◌then◌else◌}
use Rattle.std.proofs.lemmas.Bool.Decides.{nat_tests}
use Rattle.rart_parts.specs.Entries.{child_at, without_byte}
use Rattle.rart_trie.specs.storages.Capacities.{shrunk_capacity, previous_capacity}

module _ {N : Type 0} where
  pub length-without_byte : (b : ℕ) (es : List (ℕ × N)) → child_at b es ≢ None
      → length (without_byte b es) + 1 ≡ length es
  length-without_byte b [] h = absurd (h refl)
  length-without_byte b (e ∷ es) h = elim (eqb e.0 b) as (λ z. cond z (Some e.1) (child_at b es) ≢ None
      → length (cond z es (e ∷ without_byte b es)) + 1 ≡ length (e ∷ es)) [
        | true ↦ λ n. omega arith
        | false ↦ λ n. omega (arith, length-without_byte b es n)
      ] h

  pub few-left : (b n : ℕ) (es : List (ℕ × N)) → child_at b es ≢ None → length es ≤ n + 1
      → length (without_byte b es) ≤ n
  few-left b n es h l = omega (arith, length-without_byte b es h)

  no-entry : (es : List (ℕ × N)) → length es ≤ 0 → es ≡ []
  no-entry [] l = refl
  no-entry (e ∷ es) l = absurd (omega (arith, l))

  pub none-left : (b : ℕ) (es : List (ℕ × N)) → child_at b es ≢ None → length es ≤ 1 → without_byte b es ≡ []
  none-left b es h l = no-entry (without_byte b es) (few-left b 0 es h l)

  -- the capacity where the kind is kept
  pub capacity-kept : (b w : ℕ) (es : List (ℕ × N)) → (child_at b es ≡ None) ⊎ (previous_capacity w + 1 < length es)
      → w ≡ (if is_some (child_at b es) then shrunk_capacity (length (without_byte b es)) w else w)
  capacity-kept b w es k = elim (child_at b es) as (λ o. child_at b es ≡ o
      → w ≡ (if is_some o then shrunk_capacity (length (without_byte b es)) w else w)) [
        | None ↦ λ e. refl
        | Some n ↦ λ e. ⊎_elim (λ z. absurd (cc (z, e))) (λ z. let l = length-without_byte b es (λ q. cc (q, e)) in
            grind (arith, nat_tests)) k
      ] refl

  -- the capacity where it is given up
  pub capacity-given : (b w : ℕ) (es : List (ℕ × N)) → child_at b es ≢ None → length es ≤ previous_capacity w + 1
      → previous_capacity w ≡ (if is_some (child_at b es) then shrunk_capacity (length (without_byte b es)) w else w)
  capacity-given b w es h l = elim (child_at b es) as (λ o. o ≢ None
      → previous_capacity w ≡ (if is_some o then shrunk_capacity (length (without_byte b es)) w else w)) [
        | None ↦ λ n. absurd (n refl)
        | Some n ↦ λ _. let f = few-left b (previous_capacity w) es h l in grind (arith, nat_tests)
      ] h
