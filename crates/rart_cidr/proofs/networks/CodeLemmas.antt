-- The order of codes, and the next code in it.
use Rattle.std.proofs.Common.{◌≡◌, ℕ, zero, suc, ◌+◌, ◌*◌, ◌<◌, ◌≤◌, ◌==◌, ⊎_elim, length}
use Rattle.std.proofs.Common.{arith, Bool, List, [], ◌∷◌, true, false, refl, sym, ap, ◌∙◌, eqb-true, Some, None}
use Rattle.std.proofs.Common.{◌-◌, if◌then◌else◌}
use Rattle.std.specs.Prelude.{◌&&◌}
use Rattle.std.proofs.Math.Dec.{ltb}
use Rattle.std.proofs.lemmas.Bool.{ltb-true}
use Rattle.rart_keys.specs.ByteStrings.{IsLess}
use Rattle.rart_keys.specs.SortedMap.{lookup}
use Rattle.rart_keys.proofs.strings.ByteOrder.{compare, is_equal, is_greater, order}
use Rattle.rart_cidr.specs.Bits.{after_one, byte_bits, code_bits}
use Rattle.rart_cidr.specs.Codes.{code_place, next_code, place, size}
use Rattle.rart_cidr.specs.Routes.{IsCode}
use Rattle.rart_cidr.specs.Walks.{IsCodeLess, IsNextIn}
use Rattle.rart_cidr.proofs.networks.BitLemmas.{code-number, code-short, holds_at, holds_below, number_after}
use Rattle.rart_cidr.proofs.networks.OrderLemmas.{AreBits, are-bits}

-- what tests of a range of numbers show of one of them
pub agree_at : (f g : ℕ → ℕ) (low size c : ℕ) → holds_below (λ i. f (low + i) == g (low + i)) size ≡ true → low ≤ c
    → c < low + size → f c ≡ g c
agree_at f g low size c t h l = let e : low + (c - low) ≡ c = omega (arith, h) in
    ap f (sym e) ∙ eqb-true _ _ (holds_at (λ i. f (low + i) == g (low + i)) size (c - low) t (omega (arith, h, l)))
    ∙ ap g e

place-bound : (n : ℕ) (l : List ℕ) → length l ≤ n → place n l + 2 ≤ size n
unfolding place size
place-bound zero [] h = omega arith
place-bound (suc n) [] h = let b = place-bound n [] (omega arith) in
    omega (arith, b)
place-bound zero (b ∷ l) h = absurd (omega (arith, h))
place-bound (suc n) (zero ∷ l) h = let b = place-bound n l (omega (arith, h)) in
    omega (arith, b)
place-bound (suc n) (suc x ∷ l) h = let b = place-bound n l (omega (arith, h)) in
    omega (arith, b)

place-less : (n : ℕ) (l m : List ℕ) → AreBits l → AreBits m → length l ≤ n → length m ≤ n → IsLess l m
    → place n l < place n m
unfolding AreBits place size
place-less n [] [] f g i j h = absurd (cc)
place-less zero [] (y ∷ m) f g i j h = absurd (omega (arith, j))
place-less (suc n) [] (zero ∷ m) f g i j h = omega arith
place-less (suc n) [] (suc y ∷ m) f g i j h = let b = place-bound n [] (omega arith) in omega (arith, b)
place-less n (x ∷ l) [] f g i j h = absurd (cc)
place-less zero (x ∷ l) (y ∷ m) f g i j h = absurd (omega (arith, i))
place-less (suc n) (zero ∷ l) (zero ∷ m) f g i j h =
    let less = place-less n l m f.1 g.1 (omega (arith, i)) (omega (arith, j)) h in omega (arith, less)
place-less (suc n) (zero ∷ l) (suc y ∷ m) f g i j h = let b = place-bound n l (omega (arith, i)) in omega (arith, b)
place-less (suc n) (suc x ∷ l) (zero ∷ m) f g i j h = absurd
    (let t = rw (is_greater (suc x) 0 (omega arith)) at h in cc)
place-less (suc n) (suc x ∷ l) (suc y ∷ m) f g i j h = let one = f.0 in let two = g.0 in
    let less = place-less n l m f.1 g.1 (omega (arith, i)) (omega (arith, j))
    (rw (is_equal (suc x) (suc y) (omega (arith, one, two))) at h) in omega (arith, less)

after-bits : (l : List ℕ) → AreBits l → AreBits (after_one l)
unfolding AreBits
after-bits [] f = tt
after-bits (zero ∷ l) f = after-bits l f.1
after-bits (suc b ∷ l) f = f.1

short : (c : ℕ) → IsCode (c ∷ []) → length (code_bits c) ≤ 7
short c f = let s = code-short c f.1 in omega (arith, s)

pub place_less : (c d : ℕ) → IsCode (c ∷ []) → IsCode (d ∷ []) → IsCodeLess c d → code_place c < code_place d
unfolding code_place
place_less c d f g h = place-less 7 (code_bits c) (code_bits d) (after-bits (byte_bits c) (are-bits c))
    (after-bits (byte_bits d) (are-bits d)) (short c f) (short d g) h

pub less_place : (c d : ℕ) → IsCode (c ∷ []) → IsCode (d ∷ []) → code_place c < code_place d → IsCodeLess c d
unfolding code_place
less_place c d f g h = ⊎_elim
    (λ l. l)
    (⊎_elim
    (λ e. absurd (omega (arith, ap (place 7) e, h)))
    (λ l. absurd (let more = place_less d c g f l in omega (arith, more, h))))
    (compare (code_bits c) (code_bits d))

same_place : (c d : ℕ) → IsCode (c ∷ []) → IsCode (d ∷ []) → code_place c ≡ code_place d → c ≡ d
unfolding code_place
same_place c d f g h = ⊎_elim
    (λ l. absurd (let more = place_less c d f g l in omega (arith, more, h)))
    (⊎_elim
    (λ e. sym (code-number c f.0 f.1) ∙ ap (number_after 1) e ∙ code-number d g.0 g.1)
    (λ l. absurd (let more = place_less d c g f l in omega (arith, more, h))))
    (compare (code_bits c) (code_bits d))

-- no code comes after 255
pub none_after_last : (d : ℕ) → IsCode (d ∷ []) → IsCodeLess 255 d → ⊥
unfolding code_place place size
none_after_last d f h = let more = place_less 255 d (omega arith, omega arith) f h in
    let bound = place-bound 7 (code_bits d) (short d f) in
    let all : code_place 255 ≡ 254 = refl in omega (arith, more, bound, all)

both-true : (a b : Bool) → (a && b) ≡ true → (a ≡ true) × (b ≡ true)
both-true true true h = (refl, refl)
both-true true false h = absurd (cc)
both-true false b h = absurd (cc)

-- the place of the next code is the next place
next-place : (c : ℕ) → IsCode (c ∷ []) → (c ≡ 255 → ⊥)
    → IsCode (next_code c ∷ []) × (code_place (next_code c) ≡ suc (code_place c))
unfolding holds_below code_place place size
next-place zero f n = absurd (let l = f.0 in omega (arith, l))
next-place (suc c) f n =
    let most = f.1 in
    let small : c < 254 = ⊎_elim (λ l. l) (⊎_elim (λ e. absurd (n (ap suc e))) (λ l. absurd (omega (arith, l, most))))
    (order c 254) in
    let all = holds_at (λ y. (ltb 0 (next_code (suc y)) && ltb (next_code (suc y)) 256)
    && (place 7 (code_bits (next_code (suc y))) == suc (place 7 (code_bits (suc y))))) 254 c refl small in
    let parts = both-true _ _ all in let ends = both-true _ _ parts.0 in
    let least : 0 < next_code (suc c) = ltb-true _ _ ends.0 in
    ((omega (arith, least), ltb-true _ _ ends.1), eqb-true _ _ parts.1)

pub not_after : (last c : ℕ) → IsCode (last ∷ []) → IsCode (c ∷ []) → (IsCodeLess last c → ⊥)
    → code_place c ≤ code_place last
not_after last c f g n = ⊎_elim
    (λ l. absurd (n (less_place last c f g l)))
    (⊎_elim (λ e. omega (arith, e)) (λ l. omega (arith, l)))
    (order (code_place last) (code_place c))

-- what comes after a code, up to a last one that isn't it
pub record Follows (c last : ℕ) : Type 0 where
  pub is_code : IsCode (next_code c ∷ [])
  pub place : code_place (next_code c) ≡ suc (code_place c)
  pub within : code_place (next_code c) ≤ code_place last

pub follows : (c last : ℕ) → IsCode (c ∷ []) → IsCode (last ∷ []) → (c ≡ last → ⊥) → code_place c ≤ code_place last
    → Follows c last
unfolding code_place place size
follows c last f g n h =
    let other : code_place c ≡ code_place last → ⊥ = λ e. n (same_place c last f g e) in
    let less : code_place c < code_place last = ⊎_elim (λ l. l)
    (⊎_elim (λ e. absurd (other e)) (λ l. absurd (omega (arith, l, h)))) (order (code_place c) (code_place last)) in
    let bound = place-bound 7 (code_bits last) (short last g) in
    let last_one : code_place 255 ≡ 254 = refl in
    let t = next-place c f (λ e. let same = ap code_place e in omega (arith, same, less, bound, last_one)) in
    let p = t.1 in record {
      is_code = t.0;
      place = p;
      within = omega (arith, p, less);
    }

module _ {T : Type 0} where
  -- no target between two codes, the second one included
  unfoldable pub HasNoneUpTo : List (List ℕ × T) → ℕ → ℕ → Type 0
  HasNoneUpTo stride c at = (d : ℕ) → IsCode (d ∷ []) → code_place c < code_place d → code_place d ≤ code_place at
      → lookup (d ∷ []) stride ≡ None

  pub none_at_first : (stride : List (List ℕ × T)) (c : ℕ) → HasNoneUpTo stride c c
  unfolding HasNoneUpTo
  none_at_first stride c = λ d f l h. absurd (omega (arith, l, h))

  pub none_at_next : (stride : List (List ℕ × T)) (c at : ℕ) → IsCode (at ∷ []) → HasNoneUpTo stride c at
      → IsCode (next_code at ∷ []) → code_place (next_code at) ≡ suc (code_place at)
      → lookup (next_code at ∷ []) stride ≡ None → HasNoneUpTo stride c (next_code at)
  unfolding HasNoneUpTo
  none_at_next stride c at g i f p none = λ d j l h. ⊎_elim
      (λ k. i d j l (omega (arith, k, p)))
      (⊎_elim
      (λ e. ap (λ z. lookup (z ∷ []) stride) (same_place d (next_code at) j f e) ∙ none)
      (λ k. absurd (omega (arith, k, h))))
      (order (code_place d) (code_place (next_code at)))

  pub next_found : (stride : List (List ℕ × T)) (c at last : ℕ) (t : T) → IsCode (c ∷ []) → IsCode (at ∷ [])
      → IsCode (last ∷ []) → code_place c ≤ code_place at → HasNoneUpTo stride c at → Follows at last
      → lookup (next_code at ∷ []) stride ≡ Some t → IsNextIn stride c last (Some (next_code at, t))
  unfolding HasNoneUpTo
  next_found stride c at last t f g h least none k found =
      let is = k.is_code in let step = k.place in let most = k.within in (
        is,
        less_place c (next_code at) f is (omega (arith, least, step)),
        λ l. let more = place_less last (next_code at) h is l in omega (arith, more, most),
        found,
        λ d j l m. let more = place_less d (next_code at) j is m in
            none d j (place_less c d f j l) (omega (arith, more, step)),
      )

  pub next_none : (stride : List (List ℕ × T)) (c last : ℕ) → IsCode (c ∷ []) → IsCode (last ∷ [])
      → HasNoneUpTo stride c last → IsNextIn stride c last None
  unfolding HasNoneUpTo
  next_none stride c last f g none = λ d j l m. none d j (place_less c d f j l) (⊎_elim
      (λ k. absurd (m (less_place last d g j k)))
      (⊎_elim (λ e. omega (arith, e)) (λ k. omega (arith, k)))
      (order (code_place last) (code_place d)))
