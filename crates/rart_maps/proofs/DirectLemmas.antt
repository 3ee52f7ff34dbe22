-- The places of a direct mapping through its calls.
use Rattle.std.proofs.Common.{◌≡◌, ℕ, zero, suc, ◌<◌, ◌≤◌, ◌+◌, ◌-◌, cond, eqb, List, [], ◌∷◌, Option}
use Rattle.std.proofs.Common.{Some, None, length, get_or, set, replicate, sym, ap, ◌∙◌, refl, arith}
use Rattle.std.proofs.Common.{⊎_elim}
use Rattle.std.proofs.lemmas.Bool.Decides.{eqb_tells}
use Rattle.std.proofs.lemmas.List.{length-set, length-replicate, get_or-set_same, get_or-set_other}
use Rattle.rart_parts.specs.Entries.{child_at, with_entry, without_byte, replaced_at, StartsAbove}
use Rattle.rart_parts.specs.Entries.{BytesAscend}
use Rattle.rart_parts.specs.Places.{numbered_values, values_in}
use Rattle.rart_maps.specs.Direct.{IsDirect}
use Rattle.rart_parts.proofs.entries.EntryLemmas.{at_same, at_other, same_lookups}
use Rattle.rart_parts.proofs.entries.EntryLemmas.{child_at-with_entry}
use Rattle.rart_parts.proofs.entries.EntryLemmas.{child_at-without_byte, child_at-replaced, with_entry-ascends}
use Rattle.rart_parts.proofs.entries.EntryLemmas.{without_byte-ascends, replaced-ascends, length-with_entry}
use Rattle.rart_parts.proofs.entries.EntryLemmas.{length-without_byte, length-replaced}

below_none : {X : Type 0} (n k : ℕ) (os : List (Option X)) → k < n → child_at k (numbered_values n os) ≡ None
below_none n k [] h = refl
below_none n k (None ∷ os) h = below_none (suc n) k os (omega arith)
below_none n k (Some x ∷ os) h = at_other k (n, x) (numbered_values (suc n) os) (λ e. omega (arith, e, h))
    ∙ below_none (suc n) k os (omega arith)

numbered_from : {X : Type 0} (n k i : ℕ) (os : List (Option X)) → k ≡ n + i
    → child_at k (numbered_values n os) ≡ get_or os i None
numbered_from n k i [] e = refl
numbered_from n k zero (None ∷ os) e = below_none (suc n) k os (omega arith)
numbered_from n k zero (Some x ∷ os) e = at_same k (n, x) (numbered_values (suc n) os) (omega arith)
numbered_from n k (suc i) (None ∷ os) e = numbered_from (suc n) k i os (omega arith)
numbered_from n k (suc i) (Some x ∷ os) e = at_other k (n, x) (numbered_values (suc n) os) (λ f. omega (arith, e, f))
    ∙ numbered_from (suc n) k i os (omega arith)

-- the child at a byte is what its place has
pub numbered_child : {X : Type 0} (os : List (Option X)) (k : ℕ) → child_at k (numbered_values 0 os) ≡ get_or os k None
numbered_child os k = numbered_from 0 k k os (omega arith)

starts : {X : Type 0} (b n : ℕ) (os : List (Option X)) → b < n → StartsAbove b (numbered_values n os)
starts b n [] h = tt
starts b n (None ∷ os) h = starts b (suc n) os (omega arith)
starts b n (Some x ∷ os) h = h

pub numbered-ascends : {X : Type 0} (n : ℕ) (os : List (Option X)) → BytesAscend (numbered_values n os)
numbered-ascends n [] = tt
numbered-ascends n (None ∷ os) = numbered-ascends (suc n) os
numbered-ascends n (Some x ∷ os) = (starts n (suc n) os (omega arith), numbered-ascends (suc n) os)

pub numbered-free : (X : Type 0) (n m : ℕ) → numbered_values {X = X} n (replicate m None) ≡ []
numbered-free X n zero = refl
numbered-free X n (suc m) = numbered-free X (suc n) m

pub length-numbered : {X : Type 0} (n : ℕ) (os : List (Option X)) → length (numbered_values n os) ≤ length os
length-numbered n [] = omega arith
length-numbered n (None ∷ os) = omega (arith, length-numbered (suc n) os)
length-numbered n (Some x ∷ os) = omega (arith, length-numbered (suc n) os)

module _ {X : Type 0} (os : List (Option X)) (k : ℕ) (h : k < length os) where
  place_set : (o : Option X) (b : ℕ) → get_or (set os k o) b None ≡ cond (eqb k b) o (get_or os b None)
  place_set o b = ⊎_elim
      (λ t. ap (λ j. get_or (set os k o) j None) (sym t.1) ∙ get_or-set_same os k o None h
      ∙ ap (λ c. cond c o (get_or os b None)) (sym t.0))
      (λ t. get_or-set_other os k b o None (λ e. t.1 (sym e)) ∙ ap (λ c. cond c o (get_or os b None)) (sym t.0))
      (eqb_tells k b)

  pub numbered-put : (x : X) → numbered_values 0 (set os k (Some x)) ≡ with_entry k x (numbered_values 0 os)
  numbered-put x = same_lookups _ _ (numbered-ascends 0 (set os k (Some x)))
      (with_entry-ascends k x (numbered_values 0 os) (numbered-ascends 0 os))
      (λ b. numbered_child (set os k (Some x)) b ∙ place_set (Some x) b
      ∙ ap (cond (eqb k b) (Some x)) (sym (numbered_child os b)) ∙ sym
      (child_at-with_entry k x (numbered_values 0 os) b))

  pub numbered-taken : numbered_values 0 (set os k None) ≡ without_byte k (numbered_values 0 os)
  numbered-taken = same_lookups _ _ (numbered-ascends 0 (set os k None))
      (without_byte-ascends k (numbered_values 0 os) (numbered-ascends 0 os))
      (λ b. numbered_child (set os k None) b ∙ place_set None b ∙ ap (cond (eqb k b) None) (sym (numbered_child os b))
      ∙ sym (child_at-without_byte k (numbered_values 0 os) (numbered-ascends 0 os) b))

  pub numbered-written : (x w : X) → get_or os k None ≡ Some x
      → numbered_values 0 (set os k (Some w)) ≡ replaced_at k w (numbered_values 0 os)
  numbered-written x w e = same_lookups _ _ (numbered-ascends 0 (set os k (Some w)))
      (replaced-ascends k w (numbered_values 0 os) (numbered-ascends 0 os))
      (λ b. numbered_child (set os k (Some w)) b ∙ place_set (Some w) b
      ∙ ap (cond (eqb k b) (Some w)) (sym (numbered_child os b))
      ∙ sym (child_at-replaced k w x (numbered_values 0 os) (numbered_child os k ∙ e) b))

-- ---- the invariant
module _ {X : Type 0} {os : List (Option X)} {count : ℕ} (d : IsDirect os count) (k : ℕ) (h : k < 256) where
  within : k < length os
  within = omega (arith, h, d.full)

  pub direct_put : (x : X) → get_or os k None ≡ None → IsDirect (set os k (Some x)) (count + 1)
  direct_put x free = record {
    full = length-set os k (Some x) ∙ d.full;
    counted = ap (λ n. n + 1) d.counted ∙ sym (ap length (numbered-put os k within x)
        ∙ length-with_entry k x (numbered_values 0 os) (numbered_child os k ∙ free));
  }

  pub direct_taken : (x : X) → get_or os k None ≡ Some x → count ≡ length (numbered_values 0 (set os k None)) + 1
  direct_taken x e = d.counted ∙ length-without_byte k x (numbered_values 0 os) (numbered_child os k ∙ e)
      ∙ ap (λ es. length es + 1) (sym (numbered-taken os k within))

  pub direct_without : (x : X) → get_or os k None ≡ Some x → IsDirect (set os k None) (count - 1)
  direct_without x e = record { full = length-set os k None ∙ d.full; counted = omega (arith, direct_taken x e) }

  pub direct_written : (x w : X) → get_or os k None ≡ Some x → IsDirect (set os k (Some w)) count
  direct_written x w e = record {
    full = length-set os k (Some w) ∙ d.full;
    counted = d.counted ∙ sym (ap length (numbered-written os k within x w e) ∙ length-replaced k w
        (numbered_values 0 os));
  }

pub direct_start : (X : Type 0) → IsDirect {X = X} (replicate 256 None) 0
direct_start X = record {
  full = length-replicate {A = Option X} 256 None;
  counted
      = sym (ap length (numbered-free X 0 256));
}

-- ---- slots without a child
pub numbered_valueless : {X : Type 0} (n : ℕ) (os : List (Option X)) → numbered_values n os ≡ [] → values_in os ≡ []
numbered_valueless n [] h = refl
numbered_valueless n (None ∷ os) h = numbered_valueless (suc n) os h
numbered_valueless n (Some x ∷ os) h = absurd (cc)

pub numbered_vacant : {X : Type 0} (n : ℕ) (os : List (Option X)) → numbered_values n os ≡ []
    → os ≡ replicate (length os) None
numbered_vacant n [] h = refl
numbered_vacant n (None ∷ os) h = ap (λ l. None ∷ l) (numbered_vacant (suc n) os h)
numbered_vacant n (Some x ∷ os) h = absurd (cc)

pub vacant_same : {X : Type 0} (os : List (Option X)) (k : ℕ) → get_or os k None ≡ None → set os k None ≡ os
vacant_same [] k e = refl
vacant_same (o ∷ os) zero e = ap (λ c. c ∷ os) (sym e)
vacant_same (o ∷ os) (suc k) e = ap (λ l. o ∷ l) (vacant_same os k e)
