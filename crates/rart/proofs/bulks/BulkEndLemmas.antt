-- What a bulk load answers, once its items were read.
use Rattle.std.proofs.Common.{◌≡◌, ◌≢◌, ℕ, ◌≤◌, List, [], ◌∷◌, length, ap, ◌∙◌, arith, Option, Result, Ok, Err}
use Rattle.std.specs.Prelude.{IfErr, OnErr}
use Rattle.rart_keys.specs.BulkLists.{last_wins}
use Rattle.rart_keys.specs.SortedMap.{AreAbove, IsAscending, keys_of}
use Rattle.rart_trie.specs.shapes.KeyLists.{unit_pairs}
use Rattle.rart.specs.BulkLoads.{LoadsSorted, Reads, ReadsAll, FailsSorted, FailsUnique}
use Rattle.rart.specs.Steps.{pairs_in}
use Rattle.rart.specs.declared.bulk.BulkError.{BulkError}
use Rattle.rart.specs.declared.bulk.BulkError.TheVariants.{Memory}
use Rattle.rart.specs.declared.tree.TheConstants.{MAX_PAIRS}

-- what holds holds on an error
pub on-err : {T E P : Type 0} (r : Result T E) → P → OnErr r P
on-err (Ok t) p = tt
on-err (Err e) p = p

-- keys ascend as their pairs do
above-by-keys : {V : Type 0} (k : List ℕ) (es : List (List ℕ × V)) → AreAbove k es → AreAbove k
    (unit_pairs (keys_of es))
above-by-keys k [] h = tt
above-by-keys k (e ∷ es) h = (h.0, above-by-keys k es h.1)

pub ascending-by-keys : {V : Type 0} (es : List (List ℕ × V)) → IsAscending es → IsAscending (unit_pairs (keys_of es))
ascending-by-keys [] h = tt
ascending-by-keys (e ∷ es) h = (above-by-keys e.0 es h.0, ascending-by-keys es h.1)

-- the items left the pairs m, of which a tree was to be made
module _ {U S K V T : Type 0} (becomes : U → S → Type 0) (steps : S → Option (K × V) → S → Type 0) (items : U)
    (bytes : K → List ℕ) (m : List (List ℕ × V)) (r : Result T BulkError) (memory : IfErr r (λ e. e ≡ Memory))
    (refused : OnErr r ((m ≢ []) × (length m ≤ MAX_PAIRS))) where
  pub sorted-refused : ReadsAll becomes steps items (λ xs. LoadsSorted (pairs_in bytes xs) m)
      → IfErr r (λ e. Reads becomes steps items (λ xs. FailsSorted (pairs_in bytes xs) e))
  sorted-refused read = elim r as (λ z. IfErr z (λ e. e ≡ Memory) → OnErr z ((m ≢ []) × (length m ≤ MAX_PAIRS))
      → IfErr z (λ e. Reads becomes steps items (λ xs. FailsSorted (pairs_in bytes xs) e))) [
        | Ok t ↦ λ s l. tt
        | Err e ↦ λ s l. rw s (
          read.0,
          read.1,
          read.3.1.0,
          read.2,
          read.3.1.1,
          (λ none. l.0 (read.4.1 ∙ ap last_wins none), read.4.0, omega (arith, ap length read.4.1, l.1)),
        )
      ] memory refused

  pub unique-refused : ReadsAll becomes steps items (λ xs. m ≡ pairs_in bytes xs)
      → IfErr r (λ e. Reads becomes steps items (λ xs. FailsUnique (pairs_in bytes xs) e))
  unique-refused read = elim r as (λ z. IfErr z (λ e. e ≡ Memory) → OnErr z ((m ≢ []) × (length m ≤ MAX_PAIRS))
      → IfErr z (λ e. Reads becomes steps items (λ xs. FailsUnique (pairs_in bytes xs) e))) [
        | Ok t ↦ λ s l. tt
        | Err e ↦ λ s l. rw s (
          read.0,
          read.1,
          read.3.1.0,
          read.2,
          read.3.1.1,
          (λ none. l.0 (read.4 ∙ none), omega (arith, ap length read.4, l.1)),
        )
      ] memory refused
