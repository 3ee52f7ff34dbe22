-- The positions of a set, as a list.
use Rattle.std.proofs.Common.{◌≡◌, ℕ, zero, suc, ◌<◌, ◌≤◌, ◌+◌, Bool, true, false, cond, eqb, not, ◌&&◌, List, [], ◌∷◌}
use Rattle.std.proofs.Common.{Option, Some, None, length, arith, sym, ap, ◌∙◌, refl, ⊎_elim, if◌then◌else◌}
use Rattle.std.specs.Prelude.{nat_lt}
use Rattle.std.proofs.lemmas.Bool.{ne_eqb, lt-ltb, le-ltb, cases_lt}
use Rattle.std.proofs.lemmas.Bool.Decides.{eqb_tells}
use Rattle.rart_parts.specs.Bits.{members_from, members, positions_above, IsLast}

-- no more positions than numbers
pub length-members_from : (has : ℕ → Bool) (from count : ℕ) → length (members_from has from count) ≤ count
length-members_from has from zero = omega arith
length-members_from has from (suc count) =
    elim (has from) as (λ b. length (cond b (from ∷ members_from has (suc from) count)
    (members_from has (suc from) count)) ≤ suc count) [
      | true ↦ omega (arith, length-members_from has (suc from) count)
      | false ↦ omega (arith, length-members_from has (suc from) count)
    ]

-- equal tests have the same positions
pub members_from-same : (f g : ℕ → Bool) (from count : ℕ) → ((k : ℕ) → from ≤ k → k < from + count → f k ≡ g k)
    → members_from f from count ≡ members_from g from count
members_from-same f g from zero e = refl
members_from-same f g from (suc count) e =
    (λ i. cond (e from (omega arith) (omega arith) i) (from ∷ members_from f (suc from) count)
    (members_from f (suc from) count))
    ∙ ap (λ l. cond (g from) (from ∷ l) l) (members_from-same f g (suc from) count
    (λ k l h. e k (omega arith) (omega arith)))

pub members_from-none : (has : ℕ → Bool) (from count : ℕ) → ((k : ℕ) → from ≤ k → k < from + count → has k ≡ false)
    → members_from has from count ≡ []
members_from-none has from zero e = refl
members_from-none has from (suc count) e =
    ap (λ b. cond b (from ∷ members_from has (suc from) count) (members_from has (suc from) count))
    (e from (omega arith) (omega arith))
    ∙ members_from-none has (suc from) count (λ k l h. e k (omega arith) (omega arith))

-- the same number of positions, where one test is the other one moved
pub length-members_from-moved : (f g : ℕ → Bool) (a b count : ℕ) → ((j : ℕ) → j < count → f (a + j) ≡ g (b + j))
    → length (members_from f a count) ≡ length (members_from g b count)
length-members_from-moved f g a b zero e = refl
length-members_from-moved f g a b (suc count) e =
    let here : f a ≡ g b = ap f (omega arith) ∙ e 0 (omega arith) ∙ ap g (omega arith) in
    let rest : length (members_from f (suc a) count) ≡ length (members_from g (suc b) count)
    = length-members_from-moved f g (suc a) (suc b) count (λ j h. ap f (omega arith) ∙ e (suc j) (omega arith)
    ∙ ap g (omega arith)) in
    ap (λ c. length (cond c (a ∷ members_from f (suc a) count) (members_from f (suc a) count))) here
    ∙ elim (g b) as (λ c. length (cond c (a ∷ members_from f (suc a) count) (members_from f (suc a) count))
    ≡ length (cond c (b ∷ members_from g (suc b) count) (members_from g (suc b) count))) [
      | true ↦ omega (arith, rest)
      | false ↦ rest
    ]

pub length-members_from-add : (has : ℕ → Bool) (from a b : ℕ) → length (members_from has from (a + b))
    ≡ length (members_from has from a) + length (members_from has (from + a) b)
length-members_from-add has from zero b =
    let none : 0 + b ≡ b = omega arith in
    let here : from ≡ from + 0 = omega arith in
    omega (arith, ap (λ n. length (members_from has from n)) none, ap (λ n. length (members_from has n b)) here)
length-members_from-add has from (suc a) b =
    let rest = length-members_from-add has (suc from) a b in
    let next : suc from + a ≡ from + suc a = omega arith in
    let moved : members_from has (suc from + a) b ≡ members_from has (from + suc a) b
    = ap (λ n. members_from has n b) next in
    let count : suc a + b ≡ suc (a + b) = omega arith in
    ap (λ n. length (members_from has from n)) count
    ∙ elim (has from) as (λ c. length (cond c (from ∷ members_from has (suc from) (a + b))
    (members_from has (suc from) (a + b))) ≡ length
    (cond c (from ∷ members_from has (suc from) a) (members_from has (suc from) a))
    + length (members_from has (from + suc a) b)) [
      | true ↦ omega (arith, rest, ap length moved)
      | false ↦ omega (arith, rest, ap length moved)
    ]

-- the first position, and the set without it
members_from-first : (has less : ℕ → Bool) (from count p : ℕ) → from ≤ p → p < from + count → has p ≡ true
    → ((k : ℕ) → k < p → has k ≡ false)
    → ((k : ℕ) → k < from + count → less k ≡ (not (eqb k p) && has k))
    → members_from has from count ≡ p ∷ members_from less from count
members_from-first has less from zero p low high here before e = absurd (omega arith)
members_from-first has less from (suc count) p low high here before e = ⊎_elim
    (λ t.
    let at : has from ≡ true = ap has t.1 ∙ here in
    let removed : less from ≡ false = e from (omega arith) ∙ ap (λ b. not b && has from) t.0 in
    let same = members_from-same has less (suc from) count
    (λ k l h. sym (e k (omega arith) ∙ ap (λ b. not b && has k) (ne_eqb k p (λ q. omega (arith, q, t.1))))) in
    ap (λ b. cond b (from ∷ members_from has (suc from) count) (members_from has (suc from) count)) at
    ∙ (λ i. t.1 i ∷ same i)
    ∙ ap (λ b. p ∷ cond b (from ∷ members_from less (suc from) count) (members_from less (suc from) count))
    (sym removed))
    (λ t.
    let past : has from ≡ false = before from (omega (arith, t.1)) in
    let removed : less from ≡ false = e from (omega arith) ∙ ap (λ b. not b && has from) t.0 ∙ past in
    ap (λ b. cond b (from ∷ members_from has (suc from) count) (members_from has (suc from) count)) past
    ∙ members_from-first has less (suc from) count p (omega (arith, t.1)) (omega arith) here before
    (λ k h. e k (omega arith))
    ∙ ap (λ b. p ∷ cond b (from ∷ members_from less (suc from) count) (members_from less (suc from) count))
    (sym removed))
    (eqb_tells from p)

-- ---- below a capacity
within : (k capacity : ℕ) → k < 0 + capacity → k < capacity
within k capacity h = omega arith

pub members-none : (has : ℕ → Bool) (capacity : ℕ) → ((k : ℕ) → k < capacity → has k ≡ false)
    → members has capacity ≡ []
members-none has capacity none = members_from-none has 0 capacity (λ k l h. none k (within k capacity h))

pub members-first : (has less : ℕ → Bool) (capacity p : ℕ) → (p < capacity) × (has p ≡ true)
    × ((k : ℕ) → k < p → has k ≡ false)
    → ((k : ℕ) → k < capacity → less k ≡ (not (eqb k p) && has k)) → members has capacity ≡ p ∷ members less capacity
members-first has less capacity p first rest =
    members_from-first has less 0 capacity p (omega arith) (omega (arith, first.0)) first.1 first.2
    (λ k h. rest k (within k capacity h))

-- equal tests have the same last position
pub last_agrees : (f g : ℕ → Bool) (n : ℕ) → ((k : ℕ) → k < n → f k ≡ g k) → (r : Option ℕ) → IsLast f n r
    → IsLast g n r
last_agrees f g n e None h = λ k l. sym (e k l) ∙ h k l
last_agrees f g n e (Some p) h = (h.0, sym (e p h.0) ∙ h.1, λ k m l. sym (e k l) ∙ h.2 k m l)

members_from-passed : (has : ℕ → Bool) (p from count : ℕ) → members_from (λ k. nat_lt p k && has k) from count
    ≡ positions_above p (members_from has from count)
members_from-passed has p from zero = refl
members_from-passed has p from (suc count) = rw (members_from-passed has p (suc from) count) (elim (has from)
    as (λ b. (if nat_lt p from && b then from ∷ positions_above p (members_from has (suc from) count)
    else positions_above p (members_from has (suc from) count))
    ≡ positions_above p (if b then from ∷ members_from has (suc from) count else members_from has (suc from) count)) [
      | true ↦ elim (nat_lt p from)
          as (λ t. (if t && true then from ∷ positions_above p (members_from has (suc from) count)
          else positions_above p (members_from has (suc from) count))
          ≡ (if t then from ∷ positions_above p (members_from has (suc from) count)
          else positions_above p (members_from has (suc from) count))) [ true ↦ refl | false ↦ refl ]
      | false ↦ elim (nat_lt p from)
          as (λ t. (if t && false then from ∷ positions_above p (members_from has (suc from) count)
          else positions_above p (members_from has (suc from) count))
          ≡ positions_above p (members_from has (suc from) count)) [ true ↦ refl | false ↦ refl ]
    ])

-- a set that has lost the positions up to p
pub members-passed : (has left : ℕ → Bool) (capacity p : ℕ)
    → ((k : ℕ) → k < capacity → left k ≡ (nat_lt p k && has k))
    → members left capacity ≡ positions_above p (members has capacity)
members-passed has left capacity p e = members_from-same left (λ k. nat_lt p k && has k) 0 capacity
    (λ k low high. e k (omega arith)) ∙ members_from-passed has p 0 capacity
