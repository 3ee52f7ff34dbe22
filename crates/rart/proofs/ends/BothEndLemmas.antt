-- Two walks towards each other give each item once.
use Rattle.std.proofs.Common.{◌≡◌, ℕ, zero, suc, ◌+◌, ◌-◌, ◌≤◌, List, [], ◌∷◌, ◌++◌, length, take, drop, refl}
use Rattle.std.proofs.Common.{sym, ap, ◌∙◌, arith, length-append, reverse}
use Rattle.std.proofs.lemmas.Grind.{reverse_onto}
use Rattle.std.proofs.lemmas.List.{drop-append-le, length-drop, length-map, map-append, reverse-append}
use Rattle.std.proofs.lemmas.List.{reverse-reverse, take-append-le, take-take, take_all}
use Rattle.rart_keys.specs.SortedMap.{values_of}
use Rattle.rart.specs.BothEnds.{AreLeft}

module _ {A : Type 0} where
  -- all are left at first
  all-left : (n : ℕ) (es : List A) → n ≡ length es → AreLeft n es es
  all-left n es size = let none : length es - n ≡ 0 = omega arith in record {
    in_front = omega arith;
    in_back = omega arith;
    same = take_all n es (omega arith) ∙ ap (λ d. drop d es) (sym none);
  }

  pub items-left : (n : ℕ) (front es down : List A) → n ≡ length es → front ≡ es → down ≡ reverse es
      → AreLeft n front (reverse down)
  items-left n front es down e f h = rw (f, h, reverse-reverse) (all-left n es e)

  pub all-items : (n : ℕ) (front es : List A) → n ≡ length es → front ≡ es → take n front ≡ es
  all-items n front es e f = rw f (take_all n es (omega arith))

  drop-next : (d : ℕ) (x : A) (xs ys : List A) → drop d xs ≡ x ∷ ys → drop (suc d) xs ≡ ys
  drop-next zero x [] ys e = absurd (cc)
  drop-next zero x (z ∷ xs) ys e = cc
  drop-next (suc d) x [] ys e = absurd (cc)
  drop-next (suc d) x (z ∷ xs) ys e = drop-next d x xs ys e

  -- the first is taken
  pub record FrontStep (n m : ℕ) (x : A) (front rest back : List A) : Type 0 where
    pub given : take n front ≡ x ∷ take m rest
    pub left : AreLeft m rest back

  pub front-step : (n m : ℕ) (x : A) (front rest back : List A) → AreLeft n front back → front ≡ x ∷ rest → n ≡ suc m
      → FrontStep n m x front rest back
  front-step n m x front rest back w e f =
      let given : take n front ≡ x ∷ take m rest = ap (take n) e ∙ ap (λ i. take i (x ∷ rest)) f in
      let few : suc m ≤ length back = omega (arith, w.in_back, f) in
      let next : length back - m ≡ suc (length back - n) = omega (arith, few, f) in
      record {
        given = given;
        left = record {
          in_front = omega (arith, w.in_front, f, ap length e);
          in_back = omega (arith, few);
          same = sym (ap (λ d. drop d back) next
              ∙ drop-next (length back - n) x back (take m rest) (sym w.same ∙ given));
        };
      }

  -- what a descending list gives first is the last of the ascending one
  reversed : (x : A) (down rest : List A) → down ≡ x ∷ rest → reverse down ≡ reverse rest ++ x ∷ []
  reversed x down rest e = ap reverse e ∙ reverse_onto rest x []

  -- the last is taken
  pub record BackGiven (n m : ℕ) (x : A) (front rest : List A) : Type 0 where
    pub given : take n front ≡ take m front ++ x ∷ []
    pub left : AreLeft m front rest

  given-back : (n m : ℕ) (x : A) (front back rest : List A) → AreLeft n front back → back ≡ rest ++ x ∷ [] → n ≡ suc m
      → BackGiven n m x front rest
  given-back n m x front back rest w e f =
      let long : length back ≡ length rest + 1 = omega (arith, ap length e, length-append rest (x ∷ [])) in
      let few : m ≤ length rest = omega (arith, w.in_back, long, f) in
      let start : length back - n ≡ length rest - m = omega (arith, long, few, f) in
      let same : take n front ≡ drop (length rest - m) rest ++ x ∷ []
      = w.same ∙ ap (λ d. drop d back) start ∙ ap (drop (length rest - m)) e
      ∙ drop-append-le (length rest - m) rest (x ∷ []) (omega arith) in
      let size : length (drop (length rest - m) rest) ≡ m
      = omega (arith, length-drop (length rest - m) rest, few) in
      let first : take m front ≡ drop (length rest - m) rest
      = sym (take-take m n front (omega (arith, f))) ∙ ap (take m) same
      ∙ take-append-le m (drop (length rest - m) rest) (x ∷ []) (omega (arith, size))
      ∙ take_all m (drop (length rest - m) rest) (omega (arith, size)) in
      record {
        given = same ∙ ap (λ z. z ++ x ∷ []) (sym first);
        left = record { in_front = omega (arith, w.in_front, f); in_back = few; same = first };
      }

  pub back-step : (n m : ℕ) (x : A) (front down rest : List A) → AreLeft n front (reverse down) → down ≡ x ∷ rest
      → n ≡ suc m → BackGiven n m x front (reverse rest)
  back-step n m x front down rest w e f
      = given-back n m x front (reverse down) (reverse rest) w (reversed x down rest e) f

-- values that are walked from both ends
module _ {V : Type 0} where
  values-back : (es : List (List ℕ × V)) → reverse (values_of (reverse es)) ≡ values_of es
  values-back [] = refl
  values-back (e ∷ es) = ap (λ z. reverse (values_of z)) (reverse_onto es e [])
      ∙ ap reverse (map-append (λ p. p.1) (reverse es) (e ∷ []))
      ∙ reverse-append (values_of (reverse es)) (e.1 ∷ []) ∙ ap (λ z. e.1 ∷ z) (values-back es)

  pub all-values : (n : ℕ) (front : List V) (es : List (List ℕ × V)) → n ≡ length es → front ≡ values_of es
      → take n front ≡ values_of es
  all-values n front es e f = rw f (take_all n (values_of es) (omega (arith, e, length-map es (λ p. p.1))))

  pub values-left : (n : ℕ) (front : List V) (es down : List (List ℕ × V)) → n ≡ length es → front ≡ values_of es
      → down ≡ reverse es → AreLeft n front (reverse (values_of down))
  values-left n front es down e f h = rw (f, h, values-back es)
      (all-left n (values_of es) (omega (arith, e, length-map es (λ p. p.1))))
