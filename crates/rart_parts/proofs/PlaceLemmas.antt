-- An array of places beside the set of those that are used.
use Rattle.std.proofs.Common.{◌≡◌, ℕ, zero, suc, ◌<◌, ◌≤◌, ◌+◌, ◌-◌, ◌^◌, ◌||◌, ◌&&◌, not, Bool, true, false, eqb, List}
use Rattle.std.proofs.Common.{[], ◌∷◌, Option, Some, None, length, set, get_or, replicate, arith, sym, ap, ◌∙◌, refl}
use Rattle.std.proofs.Common.{⊎_elim, subst, ◌↔◌}
use Rattle.std.proofs.Math.Dec.{eqb-suc-zero, eqb-zero-suc, eqb-suc-suc as eqb-suc}
use Rattle.std.proofs.lemmas.List.{length-set}
use Rattle.std.proofs.lemmas.Bool.{cases_lt, false≢true}
use Rattle.std.proofs.lemmas.Bool.Decides.{eqb_tells}
use Rattle.std.specs.Prelude.{IsTrue}
use Rattle.std.specs.Option.{is_some}
use Rattle.rart_parts.specs.Bits.{members, members_from, IsFirst, IsLast}
use Rattle.rart_parts.specs.Places.{is_used, is_filled, values_in, Agrees, AgreesIfAny, IsBitArray}
use Rattle.rart_parts.proofs.sets.Members.{members_from-same, members_from-none, length-members_from-add}
use Rattle.rart_parts.proofs.sets.Members.{length-members_from-moved}

-- ---- which places are used
pub none_used : (X : Type 0) (n i : ℕ) → is_used {X = X} (replicate n None) i ≡ false
none_used X zero i = refl
none_used X (suc n) zero = refl
none_used X (suc n) (suc i) = none_used X n i

pub past_used : {X : Type 0} (os : List (Option X)) (i : ℕ) → length os ≤ i → is_used os i ≡ false
past_used [] i h = refl
past_used (o ∷ os) zero h = absurd (omega arith)
past_used (o ∷ os) (suc i) h = past_used os i (omega arith)

pub used_with : {X : Type 0} (os : List (Option X)) (p : ℕ) (x : X) (i : ℕ) → p < length os
    → is_used (set os p (Some x)) i ≡ (eqb i p || is_used os i)
used_with [] p x i h = absurd (omega arith)
used_with (o ∷ os) zero x zero h = refl
used_with (o ∷ os) zero x (suc i) h = ap (λ b. b || is_used os i) (sym (eqb-suc-zero i))
used_with (o ∷ os) (suc p) x zero h = ap (λ b. b || is_filled o) (sym (eqb-zero-suc p))
used_with (o ∷ os) (suc p) x (suc i) h = used_with os p x i (omega arith)
    ∙ ap (λ b. b || is_used os i) (sym (eqb-suc i p))

pub used_without : {X : Type 0} (os : List (Option X)) (p i : ℕ)
    → is_used (set os p None) i ≡ (not (eqb i p) && is_used os i)
used_without [] p i = elim (not (eqb i p)) as (λ b. false ≡ (b && false)) [ true ↦ refl | false ↦ refl ]
used_without (o ∷ os) zero zero = refl
used_without (o ∷ os) zero (suc i) = ap (λ b. not b && is_used os i) (sym (eqb-suc-zero i))
used_without (o ∷ os) (suc p) zero = ap (λ b. not b && is_filled o) (sym (eqb-zero-suc p))
used_without (o ∷ os) (suc p) (suc i) = used_without os p i ∙ ap (λ b. not b && is_used os i) (sym (eqb-suc i p))

pub used_place : {X : Type 0} (os : List (Option X)) (i : ℕ) → is_used os i ≡ true → i < length os
used_place os i e = ⊎_elim (λ h. h) (λ h. absurd (false≢true (sym (past_used os i h) ∙ e))) (cases_lt i (length os))

tail_used : {X : Type 0} (o : Option X) (os : List (Option X)) (j : ℕ) → is_used (o ∷ os) (1 + j) ≡ is_used os (0 + j)
tail_used o os j =
    let next : 1 + j ≡ suc j = omega arith in
    let same : j ≡ 0 + j = omega arith in
    ap (is_used (o ∷ os)) next ∙ ap (is_used os) same

-- as many values as used places
length-values_in : {X : Type 0} (os : List (Option X)) → length (members (is_used os) (length os))
    ≡ length (values_in os)
length-values_in [] = refl
length-values_in (None ∷ os) = length-members_from-moved (is_used (None ∷ os)) (is_used os) 1 0 (length os)
    (λ j h. tail_used None os j) ∙ length-values_in os
length-values_in (Some x ∷ os) = omega (
  arith,
  length-members_from-moved (is_used (Some x ∷ os)) (is_used os) 1 0
      (length os) (λ j h. tail_used (Some x) os j),
  length-values_in os,
)

values_in-none : {X : Type 0} (os : List (Option X)) → ((i : ℕ) → is_used os i ≡ false) → values_in os ≡ []
values_in-none [] h = refl
values_in-none (None ∷ os) h = values_in-none os (λ i. h (suc i))
values_in-none (Some x ∷ os) h = absurd (false≢true (sym (h 0)))

none_in : {X : Type 0} (os : List (Option X)) → values_in os ≡ [] → (i : ℕ) → is_used os i ≡ false
none_in [] e i = refl
none_in (None ∷ os) e zero = refl
none_in (None ∷ os) e (suc i) = none_in os e i
none_in (Some x ∷ os) e i = cc

-- ---- the pair of both
-- what holds of every set with a position holds of one with none
if_any : {X : Type 0} (n : ℕ) (has : ℕ → Bool) (os : List (Option X)) → ((k : ℕ) → k < n → has k ≡ false)
    → AgreesIfAny n has os
if_any n has os none = λ k l e. absurd (false≢true (sym (none k l) ∙ e))

module _ {X : Type 0} {width capacity : ℕ} where
  pub array_of : (has : ℕ → Bool) (os : List (Option X)) → length os ≡ width → width ≤ capacity → capacity < 2 ^ 64
      → ((k : ℕ) → k < capacity → has k ≡ false) → IsBitArray {X = X} width capacity has os
  array_of has os full covers fits none = record {
    full = full;
    covers = covers;
    fits = fits;
    agrees
        = if_any capacity has os none;
  }

  module _ {has : ℕ → Bool} {os : List (Option X)} (a : IsBitArray width capacity has os) where
    pub array_with : {found more : ℕ → Bool} {seen : List (Option X)} (p : ℕ) (x : X) → p < width → seen ≡ os
        → Agrees capacity found seen → ((k : ℕ) → k < capacity → more k ≡ (eqb k p || found k))
        → IsBitArray width capacity more (set os p (Some x))
    array_with p x h same t e = record {
      full = length-set os p (Some x) ∙ a.full;
      covers = a.covers;
      fits = a.fits;
      agrees = λ k m any i l. e i l ∙ ap (λ b. eqb i p || b) (t i l ∙ ap (λ s. is_used s i) same)
          ∙ sym (used_with os p x i (omega (arith, h, a.full)));
    }

    pub array_without : {found less : ℕ → Bool} {seen : List (Option X)} (p : ℕ) → p < width → seen ≡ os
        → Agrees capacity found seen → ((k : ℕ) → k < capacity → less k ≡ (not (eqb k p) && found k))
        → IsBitArray width capacity less (set os p None)
    array_without p h same t e = record {
      full = length-set os p None ∙ a.full;
      covers = a.covers;
      fits = a.fits;
      agrees = λ k m any i l. e i l ∙ ap (λ b. not (eqb i p) && b) (t i l ∙ ap (λ s. is_used s i) same)
          ∙ sym (used_without os p i);
    }

    -- a used place gets another value
    pub array_replaced : (p : ℕ) (x : X) → p < width → is_used os p ≡ true
        → IsBitArray width capacity has (set os p (Some x))
    array_replaced p x h e = record {
      full = length-set os p (Some x) ∙ a.full;
      covers = a.covers;
      fits = a.fits;
      agrees = λ k m any i l. a.agrees k m any i l ∙ still i ∙ sym (used_with os p x i (omega (arith, h, a.full)));
    }
      where
        still : (i : ℕ) → is_used os i ≡ (eqb i p || is_used os i)
        still i = ⊎_elim (λ t. ap (is_used os) t.1 ∙ e ∙ ap (λ b. b || is_used os i) (sym t.0))
            (λ t. ap (λ b. b || is_used os i) (sym t.0)) (eqb_tells i p)

    used_below : (i : ℕ) → i < capacity → has i ≡ true → i < width
    used_below i h e = subst (λ n. i < n) a.full (used_place os i (sym (a.agrees i h e i h) ∙ e))

    pub array_first_used : (p : ℕ) → IsFirst has capacity (Some p) → IsFirst (is_used os) width (Some p)
    array_first_used p f =
        let t = a.agrees p f.0 f.1 in
        (used_below p f.0 f.1, sym (t p f.0) ∙ f.1, λ k h. sym (t k (omega (arith, h, f.0))) ∙ f.2 k h)

    pub array_last_used_pos : (p : ℕ) → IsLast has capacity (Some p) → IsLast (is_used os) width (Some p)
    array_last_used_pos p f =
        let t = a.agrees p f.0 f.1 in (
          used_below p f.0 f.1,
          sym (t p f.0) ∙ f.1,
          λ k l h. sym (t k (omega (arith, h, a.covers)))
              ∙ f.2 k l (omega (arith, h, a.covers)),
        )

    pub array_known : (r : Option ℕ) → true ≡ is_some r → IsFirst has capacity r → Agrees capacity has os
    array_known None e f = absurd (false≢true (sym e))
    array_known (Some p) e f = a.agrees p f.0 f.1

-- a set that agrees with the places has as many positions as there are values
pub size_agrees : {X : Type 0} (capacity : ℕ) (has : ℕ → Bool) (os : List (Option X)) → length os ≤ capacity
    → Agrees capacity has os → length (members has capacity) ≡ length (values_in os)
size_agrees capacity has os covers t =
    let more = capacity - length os in
    let whole : length os + more ≡ capacity = omega (arith, covers) in
    let same : members has capacity ≡ members (is_used os) capacity
    = members_from-same has (is_used os) 0 capacity (λ k l h. t k (omega arith)) in
    let past : members_from (is_used os) (0 + length os) more ≡ []
    = members_from-none (is_used os) (0 + length os) more (λ k l h. past_used os k (omega (arith, l))) in
    omega (
      arith,
      ap length same,
      ap (λ n. length (members (is_used os) n)) whole,
      length-members_from-add (is_used os)
          0 (length os) more,
      ap length past,
      length-values_in os,
    )

-- an array is empty where no place is the first used one
pub empty_if : {X : Type 0} (os : List (Option X)) (n : ℕ) (r : Option ℕ) (b : Bool) → length os ≡ n
    → IsFirst (is_used os) n r → is_some r ≡ not b → IsTrue b ↔ (values_in os ≡ [])
empty_if os n None true full f e = (
  λ _. values_in-none os
      (λ i. ⊎_elim (λ h. f i (omega (arith, h, full))) (past_used os i) (cases_lt i (length os))),
  λ _. refl,
)
empty_if os n None false full f e = absurd (false≢true e)
empty_if os n (Some p) true full f e = absurd (false≢true (sym e))
empty_if os n (Some p) false full f e = (
  λ t. absurd (false≢true t),
  λ none. absurd
      (false≢true (sym (none_in os none p) ∙ f.1)),
)

-- ---- a look at one place after another
pub read_used : {X : Type 0} (os : List (Option X)) (i : ℕ) (o : Option X) → i < length os → o ≡ get_or os i o
    → is_some o ≡ is_used os i
read_used [] i o h e = absurd (omega arith)
read_used (p ∷ os) zero o h e = ap is_some e ∙ filled p
  where
    filled : {X : Type 0} (o : Option X) → is_some o ≡ is_filled o
    filled None = refl
    filled (Some x) = refl
read_used (p ∷ os) (suc i) o h e = read_used os i o (omega arith) e

pub read_true : {X : Type 0} (os : List (Option X)) (i : ℕ) (o : Option X) → i < length os → o ≡ get_or os i o
    → true ≡ is_some o → is_used os i ≡ true
read_true os i o h e t = sym (read_used os i o h e) ∙ sym t

pub below_more : (f : ℕ → Bool) (p : ℕ) → ((k : ℕ) → k < p → f k ≡ false) → f p ≡ false → (k : ℕ) → k < p + 1
    → f k ≡ false
below_more f p h e k l = ⊎_elim (λ t. ap f t.1 ∙ e) (λ t. h k (omega (arith, l, t.1))) (eqb_tells k p)

pub above_more : (f : ℕ → Bool) (p n : ℕ) → ((k : ℕ) → p ≤ k → k < n → f k ≡ false) → f (p - 1) ≡ false → (k : ℕ)
    → p - 1 ≤ k → k < n → f k ≡ false
above_more f p n h e k l m = ⊎_elim (λ t. ap f t.1 ∙ e) (λ t. h k (omega (arith, l, t.1)) m) (eqb_tells k (p - 1))

-- a set has the used places below p and none from there on
abbrev pub FoundBelow : {X : Type 0} → ℕ → (ℕ → Bool) → List (Option X) → ℕ → Type 0
FoundBelow capacity has os p = ((k : ℕ) → k < p → k < capacity → has k ≡ is_used os k)
    × ((k : ℕ) → p ≤ k → k < capacity → has k ≡ false)

module _ {X : Type 0} (capacity : ℕ) (old : ℕ → Bool) (os : List (Option X)) (p : ℕ)
    (found : FoundBelow capacity old os p) where
  pub found_more : (new : ℕ → Bool) → is_used os p ≡ true → ((k : ℕ) → k < capacity → new k ≡ (eqb k p || old k))
      → FoundBelow capacity new os (p + 1)
  found_more new u e = (
    λ k l m. ⊎_elim
        (λ t. e k m ∙ ap (λ b. b || old k) t.0 ∙ sym (ap (is_used os) t.1 ∙ u))
        (λ t. e k m ∙ ap (λ b. b || old k) t.0 ∙ found.0 k (omega (arith, l, t.1)) m)
        (eqb_tells k p),
    λ k l m. ⊎_elim
        (λ t. absurd (omega (arith, l, t.1)))
        (λ t. e k m ∙ ap (λ b. b || old k) t.0 ∙ found.1 k (omega (arith, l)) m)
        (eqb_tells k p),
  )

  pub found_same : is_used os p ≡ false → FoundBelow capacity old os (p + 1)
  found_same u = (
    λ k l m. ⊎_elim
        (λ t. found.1 k (omega (arith, t.1)) m ∙ sym (ap (is_used os) t.1 ∙ u))
        (λ t. found.0 k (omega (arith, l, t.1)) m)
        (eqb_tells k p),
    λ k l m. found.1 k (omega (arith, l)) m,
  )

  pub found_all : length os ≤ p → Agrees capacity old os
  found_all h i l = ⊎_elim (λ t. found.0 i t l) (λ t. found.1 i t l ∙ sym (past_used os i (omega (arith, h, t))))
      (cases_lt i p)

-- ---- what is stored at a place
pub used_read : {X : Type 0} (os : List (Option X)) (p : ℕ) → is_used os p ≡ true
    → (x : X) × (get_or os p None ≡ Some x)
used_read [] p e = absurd (false≢true e)
used_read (None ∷ os) zero e = absurd (false≢true e)
used_read (Some x ∷ os) zero e = (x, refl)
used_read (o ∷ os) (suc p) e = used_read os p e

pub all_free : {X : Type 0} (os : List (Option X)) (n : ℕ) → length os ≡ n → ((k : ℕ) → k < n → is_used os k ≡ false)
    → os ≡ replicate n None
all_free [] zero e h = refl
all_free [] (suc n) e h = absurd (omega arith)
all_free (o ∷ os) zero e h = absurd (omega arith)
all_free (None ∷ os) (suc n) e h = ap (λ l. None ∷ l) (all_free os n (omega arith) (λ k l. h (suc k) (omega arith)))
all_free (Some x ∷ os) (suc n) e h = absurd (false≢true (sym (h 0 (omega arith))))

-- one more place was emptied
pub freed_more : {X : Type 0} (os : List (Option X)) (p : ℕ) → ((k : ℕ) → k < p → is_used os k ≡ false) → (k : ℕ)
    → k < p + 1 → is_used (set os p None) k ≡ false
freed_more os p below k h = used_without os p k ∙ ⊎_elim
    (λ t. ap (λ b. not b && is_used os k) t.0)
    (λ t. ap (λ b. not b && is_used os k) t.0 ∙ below k (omega (arith, h, t.1)))
    (eqb_tells k p)

pub set_same : {A : Type 0} (xs : List A) (i : ℕ) (x : A) → x ≡ get_or xs i x → set xs i x ≡ xs
set_same [] i x e = refl
set_same (y ∷ xs) zero x e = ap (λ z. z ∷ xs) e
set_same (y ∷ xs) (suc i) x e = ap (λ l. y ∷ l) (set_same xs i x e)

pub free_read : {X : Type 0} (os : List (Option X)) (p : ℕ) → is_used os p ≡ false → get_or os p None ≡ None
free_read [] p e = refl
free_read (None ∷ os) zero e = refl
free_read (Some x ∷ os) zero e = absurd (false≢true (sym e))
free_read (o ∷ os) (suc p) e = free_read os p e

-- a read by an index is one with any other value in default
pub place_reads : {A : Type 0} (xs : List A) (k : ℕ) (x d : A) → k < length xs → x ≡ get_or xs k x → get_or xs k d ≡ x
place_reads [] k x d h e = absurd (omega arith)
place_reads (y ∷ xs) zero x d h e = sym e
place_reads (y ∷ xs) (suc k) x d h e = place_reads xs k x d (omega arith) e
