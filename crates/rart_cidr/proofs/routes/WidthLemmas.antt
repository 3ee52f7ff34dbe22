-- Each network of a table has at most as many bits as an address, whatever edits the table.
use Rattle.std.proofs.Common.{ℕ, ◌≤◌, length, List, [], ◌∷◌, true, false, not, sym, subst, Option, if◌then◌else◌}
use Rattle.std.specs.Prelude.{◌≡◌, Result, Ok, Err, Some, slice_get}
use Rattle.std.specs.Ordering.{nat_cmp, match_ordering}
use Rattle.std.specs.Cmp.Lexicographic.{slice_cmp}
use Rattle.std.specs.declared.cmp.Ordering.TheVariants.{Less, Equal, Greater}
use Rattle.rart_keys.specs.ByteStrings.{bytes_eq}
use Rattle.rart_keys.specs.SortedMap.{put, without}
use Rattle.rart_trie.specs.declared.refused.Refused.{Refused}
use Rattle.rart_parts.specs.declared.error.TreeError.{TreeError}
use Rattle.rart_cidr.specs.Edits.{InsertsRoute, RemovesRoute}
use Rattle.rart_cidr.specs.Walks.{AreWithin}

module _ {T : Type 0} where
  pub put_within : (w : ℕ) (k : List ℕ) (t : T) (es : List (List ℕ × T)) → length k ≤ w → AreWithin w es
      → AreWithin w (put k t es)
  put_within w k t [] h a = (h, tt)
  put_within w k t (e ∷ es) h a = elim (slice_cmp nat_cmp k e.0)
      as (λ z. AreWithin w (match_ordering z ((k, t) ∷ e ∷ es) ((k, t) ∷ es) (e ∷ put k t es))) [
        | Less ↦ (h, a)
        | Equal ↦ (h, a.1)
        | Greater ↦ (a.0, put_within w k t es h a.1)
      ]

  without_within : (w : ℕ) (k : List ℕ) (es : List (List ℕ × T)) → AreWithin w es → AreWithin w (without k es)
  without_within w k [] a = tt
  without_within w k (e ∷ es) a = elim (bytes_eq e.0 k)
      as (λ b. AreWithin w (if not b then e ∷ without k es else without k es)) [
        | true ↦ without_within w k es a.1
        | false ↦ (a.0, without_within w k es a.1)
      ]

  pub insert_within : (w : ℕ) (k : List ℕ) (t : T) (old new : List (List ℕ × T)) (r : Result (Option T) (Refused T))
      → length k ≤ w → InsertsRoute k t old new r → AreWithin w old → AreWithin w new
  insert_within w k t old new (Ok was) h i a = subst (AreWithin w) (sym i.2) (put_within w k t old h a)
  insert_within w k t old new (Err refused) h i a = subst (AreWithin w) (sym i.2) a

  pub remove_within : (w : ℕ) (k : List ℕ) (old new : List (List ℕ × T)) (r : Result (Option T) TreeError)
      → RemovesRoute k old new r → AreWithin w old → AreWithin w new
  remove_within w k old new (Ok was) i a = subst (AreWithin w) (sym i.1) (without_within w k old a)
  remove_within w k old new (Err error) i a = subst (AreWithin w) (sym i.3) a

  pub first_width : (w : ℕ) (n : List ℕ) (t : T) (es : List (List ℕ × T)) → AreWithin w es
      → Some (n, t) ≡ slice_get es 0 → length n ≤ w
  first_width w n t [] a h = absurd (let x = h in cc)
  first_width w n t (e ∷ es) a h = let same : n ≡ e.0 = (let x = h in cc) in subst (λ z. length z ≤ w) (sym same) a.0
