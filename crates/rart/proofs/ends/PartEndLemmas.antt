-- Two walks towards each other, each one pair ahead, give each pair once: keys differ.
use Rattle.std.proofs.Common.{◌≡◌, ℕ, suc, ◌-◌, ◌≤◌, ◌↔◌, ◌&&◌, Bool, true, false, List, [], ◌∷◌, ◌++◌, length}
use Rattle.std.proofs.Common.{take, refl, subst, sym, ap, ◌∙◌, arith, length-append, reverse, append_assoc}
use Rattle.std.proofs.Common.{if◌then◌else◌}
use Rattle.std.specs.List.{filter}
use Rattle.std.specs.Bool.{IsTrue}
use Rattle.std.specs.Str.{bytes_eq}
use Rattle.std.proofs.lemmas.Cmp.{nat_list_cmp_total, tied_itself}
use Rattle.std.proofs.lemmas.Grind.{reverse_onto}
use Rattle.std.proofs.lemmas.List.{length-reverse, reverse-reverse, take-append-le, take-take, take_all}
use Rattle.std.proofs.lemmas.Slice.Eq.{bytes_eq-Decides}
use Rattle.std.specs.declared.ops.Bound.{Bound}
use Rattle.std.specs.declared.ops.Bound.TheVariants.{Unbounded}
use Rattle.rart_keys.specs.ByteStrings.{IsLess, begins}
use Rattle.rart_keys.specs.Filters.{below}
use Rattle.rart_keys.specs.Ranges.{between, is_from, is_to, up_to}
use Rattle.rart_keys.specs.SortedMap.{AreAbove, IsAscending}
use Rattle.rart.specs.BothEnds.{AreBetween, through}

same_keys : (k l : List ℕ) → k ≡ l → bytes_eq k l ≡ true
same_keys k l = (bytes_eq-Decides k l).1

other_keys : (k l : List ℕ) → (k ≡ l → ⊥) → bytes_eq k l ≡ false
other_keys k l d = elim (bytes_eq k l) as (λ b. b ≡ bytes_eq k l → b ≡ false) [
  | true ↦ λ e. absurd (d ((bytes_eq-Decides k l).0 (sym e)))
  | false ↦ λ e. refl
] refl

apart : (k l : List ℕ) → (b : Bool) → b ≡ bytes_eq k l → IsLess k l → b ≡ false
apart k l false e h = refl
apart k l true e h = let same : k ≡ l = (bytes_eq-Decides k l).0 (sym e) in
    let tied = tied_itself nat_list_cmp_total l in let less = rw same at h in absurd (cc)

-- keys whose test failed
pub unlike : (k l m : List ℕ) (r : Bool) → IsTrue r ↔ (k ≡ m) → r ≡ false → m ≡ l → k ≡ l → ⊥
unlike k l m r h e f g = let t : r ≡ true = h.1 (g ∙ sym f) in absurd (cc)

module _ {V : Type 0} where
  above-seam : (k : List ℕ) (p : List ℕ × V) (xs ys : List (List ℕ × V)) → AreAbove k (xs ++ p ∷ ys) → IsLess k p.0
  above-seam k p [] ys h = h.0
  above-seam k p (x ∷ xs) ys h = above-seam k p xs ys h.1

  -- in ascending pairs, those up to the last of a beginning are that beginning, whatever follows
  through-last : (p : List ℕ × V) (xs ys zs : List (List ℕ × V)) → IsAscending (xs ++ p ∷ ys)
      → through p.0 (xs ++ p ∷ zs) ≡ xs ++ p ∷ []
  through-last p [] ys zs h = rw (same_keys p.0 p.0 refl) refl
  through-last p (x ∷ xs) ys zs h
      = rw (apart x.0 p.0 (bytes_eq x.0 p.0) refl (above-seam x.0 p xs ys h.0))
      (ap (λ z. x ∷ z) (through-last p xs ys zs h.1))

  above-first : (k : List ℕ) (xs ys : List (List ℕ × V)) → AreAbove k (xs ++ ys) → AreAbove k xs
  above-first k [] ys h = tt
  above-first k (x ∷ xs) ys h = (h.0, above-first k xs ys h.1)

  ascending-first : (xs ys : List (List ℕ × V)) → IsAscending (xs ++ ys) → IsAscending xs
  ascending-first [] ys h = tt
  ascending-first (x ∷ xs) ys h = (above-first x.0 xs ys h.0, ascending-first xs ys h.1)

  above-filter : (f : List ℕ × V → Bool) (k : List ℕ) (es : List (List ℕ × V)) → AreAbove k es
      → AreAbove k (filter f es)
  above-filter f k [] h = tt
  above-filter f k (e ∷ es) h = elim (f e) as (λ b. AreAbove k (if b then e ∷ filter f es else filter f es)) [
    | true ↦ (h.0, above-filter f k es h.1)
    | false ↦ above-filter f k es h.1
  ]

  ascending-filter : (f : List ℕ × V → Bool) (es : List (List ℕ × V)) → IsAscending es → IsAscending (filter f es)
  ascending-filter f [] h = tt
  ascending-filter f (e ∷ es) h = elim (f e) as (λ b. IsAscending (if b then e ∷ filter f es else filter f es)) [
    | true ↦ (above-filter f e.0 es h.0, ascending-filter f es h.1)
    | false ↦ ascending-filter f es h.1
  ]

  pub ascending-below : (p : List ℕ) (es : List (List ℕ × V)) → IsAscending es → IsAscending (below p es)
  ascending-below p es = ascending-filter (λ e. begins p e.0) es

  pub ascending-between : (a b : Bound (List ℕ)) (es : List (List ℕ × V)) → IsAscending es
      → IsAscending (between a b es)
  ascending-between a b es = ascending-filter (λ e. is_from a e.0 && is_to b e.0) es

  all-up_to : (es : List (List ℕ × V)) → up_to Unbounded es ≡ es
  all-up_to [] = refl
  all-up_to (e ∷ es) = ap (λ z. e ∷ z) (all-up_to es)

  -- without an end all remaining pairs come
  pub without-end : (b : Bound (List ℕ)) (es xs : List (List ℕ × V)) → b ≡ Unbounded → es ≡ xs → up_to b es ≡ xs
  without-end b es xs e f = rw (e, f) (all-up_to xs)

  not_empty : (p : List ℕ × V) (xs ys : List (List ℕ × V)) → [] ≡ xs ++ p ∷ ys → ⊥
  not_empty p [] ys e = absurd (cc)
  not_empty p (x ∷ xs) ys e = absurd (cc)

  -- those up to an earlier pair
  through-earlier : (k : List ℕ) (p : List ℕ × V) (es xs ys : List (List ℕ × V)) → through k es ≡ xs ++ p ∷ ys
      → IsAscending (xs ++ p ∷ ys) → through p.0 es ≡ xs ++ p ∷ []
  through-earlier k p [] [] ys e h = absurd (cc)
  through-earlier k p [] (x ∷ xs) ys e h = absurd (cc)
  through-earlier k p (y ∷ es) [] ys e h = let first : y ≡ p = cc in rw (first, same_keys p.0 p.0 refl) refl
  through-earlier k p (y ∷ es) (x ∷ xs) ys e h = let first : y ≡ x = cc in
      let last : through k (y ∷ es) ≡ y ∷ through k es = elim (bytes_eq y.0 k)
      as (λ b. (if b then [] else through k es) ≡ xs ++ p ∷ ys
      → y ∷ (if b then [] else through k es) ≡ y ∷ through k es) [
        | true ↦ λ s. absurd (not_empty p xs ys s)
        | false ↦ λ s. refl
      ] (cc) in
      let rest : through k es ≡ xs ++ p ∷ ys = cc in
      rw (first, apart x.0 p.0 (bytes_eq x.0 p.0) refl (above-seam x.0 p xs ys h.0))
      (ap (λ z. x ∷ z) (through-earlier k p es xs ys rest h.1))

  through-more : (k : List ℕ) (f : List ℕ × V) (es : List (List ℕ × V)) → (f.0 ≡ k → ⊥)
      → through k (f ∷ es) ≡ f ∷ through k es
  through-more k f es d = rw (other_keys f.0 k d) refl

  -- the equation of two walks, at an equal list
  as_list : (xs ys backward : List (List ℕ × V)) → xs ≡ ys → take (length xs) backward ≡ reverse xs
      → take (length ys) backward ≡ reverse ys
  as_list xs ys backward e h = rw (← e) h

  more_than_one : (f l : List ℕ × V) (es back : List (List ℕ × V))
      → take (length (f ∷ es)) (l ∷ back) ≡ reverse (f ∷ es) → (f.0 ≡ l.0 → ⊥) → 2 ≤ length (f ∷ es)
  more_than_one f l [] back h d = let alone : l ∷ [] ≡ f ∷ [] = h in let one : l ≡ f = cc in
      absurd (d (sym (ap (λ p. p.0) one)))
  more_than_one f l (e ∷ es) back h d = omega arith

  two : (f l : List ℕ × V) (front back : List (List ℕ × V)) → AreBetween l.0 (f ∷ front) (l ∷ back) → (f.0 ≡ l.0 → ⊥)
      → 2 ≤ length (through l.0 (f ∷ front))
  two f l front back w d = let more = through-more l.0 f front d in
      subst (λ z. 2 ≤ length z) (sym more) (more_than_one f l (through l.0 front) back
      (as_list _ _ (l ∷ back) more w.same) d)

  front-rest : (k : List ℕ) (f : List ℕ × V) (front backward : List (List ℕ × V)) → AreBetween k (f ∷ front) backward
      → (f.0 ≡ k → ⊥) → AreBetween k front backward
  front-rest k f front backward w d = let more = through-more k f front d in
      let rest = through k front in
      let same : take (suc (length rest)) backward ≡ reverse rest ++ f ∷ []
      = as_list _ _ backward more w.same ∙ reverse_onto rest f [] in
      record {
        ascending = (subst IsAscending more w.ascending).1;
        same = sym (take-take (length rest) (suc (length rest)) backward (omega arith)) ∙ ap (take (length rest)) same
            ∙ take-append-le (length rest) (reverse rest) (f ∷ []) (omega (arith, length-reverse rest))
            ∙ take_all (length rest) (reverse rest) (omega (arith, length-reverse rest));
      }

  -- the first is taken, and the next one read
  pub front-step : (k : List ℕ) (f s : List ℕ × V) (front rest backward : List (List ℕ × V))
      → AreBetween k (f ∷ front) backward → (f.0 ≡ k → ⊥) → front ≡ s ∷ rest → AreBetween k (s ∷ rest) backward
  front-step k f s front rest backward w d e = subst (λ z. AreBetween k z backward) e
      (front-rest k f front backward w d)

  -- the last is taken, and the one before it read
  pub record BackStep (l s : List ℕ × V) (ahead rest : List (List ℕ × V)) : Type 0 where
    pub given : through l.0 ahead ≡ through s.0 ahead ++ l ∷ []
    pub fewer : length (through l.0 ahead) ≡ suc (length (through s.0 ahead))
    pub left : AreBetween s.0 ahead (s ∷ rest)

  back-two : (l s : List ℕ × V) (ahead rest : List (List ℕ × V)) (n : ℕ) → AreBetween l.0 ahead (l ∷ s ∷ rest)
      → length (through l.0 ahead) ≡ suc (suc n) → BackStep l s ahead rest
  back-two l s ahead rest n w e =
      let last = reverse (take n rest) in
      let down : l ∷ s ∷ take n rest ≡ reverse (through l.0 ahead) = rw e at w.same in
      let up : through l.0 ahead ≡ last ++ s ∷ l ∷ []
      = sym (reverse-reverse (through l.0 ahead)) ∙ ap reverse (sym down) ∙ reverse_onto (take n rest) s (l ∷ []) in
      let same : through s.0 ahead ≡ last ++ s ∷ []
      = through-earlier l.0 s ahead last (l ∷ []) up (rw up at w.ascending) in
      let join : last ++ s ∷ l ∷ [] ≡ (last ++ s ∷ []) ++ l ∷ [] = sym (append_assoc last (s ∷ []) (l ∷ [])) in
      let size : length (last ++ s ∷ []) ≡ suc n
      = omega (arith, e, ap length up, length-append last (s ∷ l ∷ []), length-append last (s ∷ [])) in
      record {
        given = up ∙ join ∙ ap (λ z. z ++ l ∷ []) (sym same);
        fewer = omega (arith, e, size, ap length same);
        left = record {
          ascending = rw same (ascending-first (last ++ s ∷ []) (l ∷ []) (rw (up, join) at w.ascending));
          same = rw (same, size) (sym (ap reverse (sym (reverse_onto (take n rest) s []))
              ∙ reverse-reverse (s ∷ take n rest)));
        };
      }

  pub back-step : (f l s : List ℕ × V) (front back rest : List (List ℕ × V)) → AreBetween l.0 (f ∷ front) (l ∷ back)
      → (f.0 ≡ l.0 → ⊥) → back ≡ s ∷ rest → BackStep l s (f ∷ front) rest
  back-step f l s front back rest w d e = let both = two f l front back w d in
      back-two l s (f ∷ front) rest (length (through l.0 (f ∷ front)) - 2) (rw e at w) (omega (arith, both))

  -- where the walks begin, all pairs are between them
  pub record Begin (f l : List ℕ × V) (ahead front back : List (List ℕ × V)) : Type 0 where
    pub all : through l.0 (f ∷ front) ≡ ahead
    pub left : AreBetween l.0 (f ∷ front) (l ∷ back)

  pub begin : (f l : List ℕ × V) (ahead backward front back : List (List ℕ × V)) → IsAscending ahead
      → backward ≡ reverse ahead → ahead ≡ f ∷ front → backward ≡ l ∷ back → Begin f l ahead front back
  begin f l ahead backward front back h e s t =
      let up : ahead ≡ reverse back ++ l ∷ []
      = sym (reverse-reverse ahead) ∙ ap reverse (sym e ∙ t) ∙ reverse_onto back l [] in
      let all : through l.0 ahead ≡ ahead
      = ap (through l.0) up ∙ through-last l (reverse back) [] [] (rw up at h) ∙ sym up in
      let left : AreBetween l.0 ahead backward = record {
        ascending = rw all h;
        same = rw (all, e) (take_all (length ahead) (reverse ahead) (omega (arith, length-reverse ahead)));
      } in
      record {
        all = subst (λ z. through l.0 z ≡ ahead) s all;
        left = subst (λ z. AreBetween l.0 z (l ∷ back)) s (subst (AreBetween l.0 ahead) t left);
      }
