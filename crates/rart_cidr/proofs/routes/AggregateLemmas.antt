-- Routes that leave one after the other: some are settled, and others are to come.
use Rattle.std.proofs.Common.{◌≡◌, ℕ, zero, suc, ◌+◌, ◌⊎◌, ⊎_elim, inl, inr, arith, Bool, List, []}
use Rattle.std.proofs.Common.{◌∷◌, ◌++◌, true, false}
use Rattle.std.proofs.Common.{not}
use Rattle.std.proofs.Common.{refl, sym, ap, ◌∙◌, Option, Some, None, if◌then◌else◌, subst, length, take}
use Rattle.std.specs.Prelude.{option_map}
use Rattle.std.proofs.lemmas.List.Elements.{filter-append}
use Rattle.rart_keys.specs.ByteStrings.{IsLess, begins, bytes_eq}
use Rattle.rart_keys.specs.Filters.{last_or, longest_match, longest_value, matches}
use Rattle.rart_keys.specs.SortedMap.{AreAbove, IsAscending, lookup, without}
use Rattle.rart_keys.proofs.strings.ByteOrder.{below-not_eq, bytes_eq-back, bytes_eq-equal}
use Rattle.rart_keys.proofs.strings.ByteOrder.{eq-no, eq-yes, equal_or_not, is_equal}
use Rattle.rart_keys.proofs.maps.SortedMaps.{lookup-above}
use Rattle.rart_cidr.specs.Aggregates.{AreAlike, AreNeeded, KeepsMatches}
use Rattle.rart_cidr.proofs.routes.SplitLemmas.{above-last, split-above, split-front, split-without}
use Rattle.rart_cidr.proofs.walks.FilterLemmas.{not-inside-before}

-- a network and a lesser one that both begin a third: the lesser begins the greater
lesser-begins : (k n q : List ℕ) → IsLess k n → begins n q ≡ true → begins k q ≡ true → begins k n ≡ true
lesser-begins [] n q l f g = refl
lesser-begins (x ∷ k) [] q l f g = absurd (let e = l in cc)
lesser-begins (x ∷ k) (y ∷ n) [] l f g = absurd (let e = f in cc)
lesser-begins (x ∷ k) (y ∷ n) (z ∷ q) l f g = ⊎_elim
    (λ e. ⊎_elim
    (λ h. let m : x ≡ y = e ∙ sym h in rw (eq-yes x y m)
    (lesser-begins k n q (rw (is_equal x y m) at l) (rw (eq-yes y z h) at f) (rw (eq-yes x z e) at g)))
    (λ h. absurd (let t = rw (eq-no y z h) at f in cc)) (equal_or_not y z))
    (λ e. absurd (let t = rw (eq-no x z e) at g in cc)) (equal_or_not x z)

begins-trans : (k n q : List ℕ) → begins k n ≡ true → begins n q ≡ true → begins k q ≡ true
begins-trans [] n q f g = refl
begins-trans (x ∷ k) [] q f g = absurd (let e = f in cc)
begins-trans (x ∷ k) (y ∷ n) [] f g = absurd (let e = g in cc)
begins-trans (x ∷ k) (y ∷ n) (z ∷ q) f g = ⊎_elim
    (λ e. ⊎_elim
    (λ h. let a : begins k n ≡ true = rw (eq-yes x y e) at f in let b : begins n q ≡ true = rw (eq-yes y z h) at g in
    rw (eq-yes x z (e ∙ h)) (begins-trans k n q a b))
    (λ h. absurd (let t = rw (eq-no y z h) at g in cc)) (equal_or_not y z))
    (λ e. absurd (let t = rw (eq-no x y e) at f in cc)) (equal_or_not x y)

false-or-true : (b : Bool) → (b ≡ true) ⊎ (b ≡ false)
false-or-true true = inl refl
false-or-true false = inr refl

-- a lesser network begins both or none
same-begun : (k n q : List ℕ) → IsLess k n → begins n q ≡ true → begins k q ≡ begins k n
same-begun k n q l f = ⊎_elim
    (λ t. t ∙ sym (lesser-begins k n q l f t))
    (λ t. ⊎_elim
    (λ u. absurd (let v = begins-trans k n q u f in cc))
    (λ u. t ∙ sym u)
    (false-or-true (begins k n)))
    (false-or-true (begins k q))

-- without the last bit it has the same others before it
begins-shorter : (k n : List ℕ) (m : ℕ) → length n ≡ suc m
    → begins k (take m n) ≡ (if bytes_eq k n then false else begins k n)
begins-shorter k [] m h = absurd (omega (arith, h))
begins-shorter [] (y ∷ n) m h = refl
begins-shorter (x ∷ []) (y ∷ []) zero h = ⊎_elim (λ e. rw (eq-yes x y e) refl) (λ e. rw (eq-no x y e) refl)
    (equal_or_not x y)
begins-shorter (x ∷ z ∷ k) (y ∷ []) zero h
    = ⊎_elim (λ e. rw (eq-yes x y e) refl) (λ e. rw (eq-no x y e) refl) (equal_or_not x y)
begins-shorter (x ∷ k) (y ∷ w ∷ n) zero h = absurd (omega (arith, h))
begins-shorter (x ∷ k) (y ∷ n) (suc m) h = ⊎_elim
    (λ e. rw (eq-yes x y e) (begins-shorter k n m (omega (arith, h))))
    (λ e. rw (eq-no x y e) refl)
    (equal_or_not x y)

module _ {T : Type 0} where
  -- the matches of all but the last bit of n are the other matches of n
  pub other-matches : (n : List ℕ) (m : ℕ) (es : List (List ℕ × T)) → length n ≡ suc m
      → matches (take m n) es ≡ matches n (without n es)
  other-matches n m [] h = refl
  other-matches n m (e ∷ es) h = rw (begins-shorter e.0 n m h) (elim (bytes_eq e.0 n)
      as (λ b. (if (if b then false else begins e.0 n) then e ∷ matches (take m n) es else matches (take m n) es)
      ≡ matches n (if not b then e ∷ without n es else without n es)) [
        | true ↦ other-matches n m es h
        | false ↦ elim (begins e.0 n) as (λ b. (if b then e ∷ matches (take m n) es else matches (take m n) es)
            ≡ (if b then e ∷ matches n (without n es) else matches n (without n es))) [
              | true ↦ ap (λ z. e ∷ z) (other-matches n m es h)
              | false ↦ other-matches n m es h
            ]
      ])

  -- the network of no bits has no other
  no-other-matches : (es : List (List ℕ × T)) → matches [] (without [] es) ≡ []
  no-other-matches [] = refl
  no-other-matches (([], t) ∷ es) = no-other-matches es
  no-other-matches ((x ∷ k, t) ∷ es) = no-other-matches es

  pub no-other : (n : List ℕ) (es : List (List ℕ × T)) → length n ≡ 0 → None ≡ longest_match n (without n es)
  no-other [] es h = ap (last_or None) (sym (no-other-matches es))
  no-other (x ∷ n) es h = absurd (omega (arith, h))

  last-append : (o : Option (List ℕ × T)) (xs ys : List (List ℕ × T)) → last_or o (xs ++ ys) ≡ last_or (last_or o xs) ys
  last-append o [] ys = refl
  last-append o (x ∷ xs) ys = last-append (Some x) xs ys

  longest-append : (q : List ℕ) (es fs : List (List ℕ × T))
      → longest_match q (es ++ fs) ≡ last_or (longest_match q es) (matches q fs)
  longest-append q es fs = ap (last_or None) (filter-append (λ e. begins e.0 q) es fs)
      ∙ last-append None (matches q es) (matches q fs)

  none-begin : (n : List ℕ) (es : List (List ℕ × T)) → AreAbove n es → matches n es ≡ []
  none-begin n [] a = refl
  none-begin n (e ∷ es) a = rw (not-inside-before e.0 n a.0) (none-begin n es a.1)

  -- the longest other match of a route is among those before it
  cover-before : (n : List ℕ) (t : T) (kept todo : List (List ℕ × T)) → IsAscending (kept ++ (n, t) ∷ todo)
      → longest_match n (without n (kept ++ (n, t) ∷ todo)) ≡ longest_match n kept
  cover-before n t kept todo a = ap (longest_match n) (split-without n t kept todo a) ∙ longest-append n kept todo
      ∙ ap (last_or (longest_match n kept)) (none-begin n todo (split-above n t kept todo a))

  -- what n begins has the matches of n, of those before n
  same-matches : (q n : List ℕ) (t : T) (kept todo : List (List ℕ × T)) → IsAscending (kept ++ (n, t) ∷ todo)
      → begins n q ≡ true → matches q kept ≡ matches n kept
  same-matches q n t [] todo a f = refl
  same-matches q n t (e ∷ kept) todo a f = rw (same-begun e.0 n q (above-last e.0 n t kept todo a.0) f)
      (elim (begins e.0 n) as (λ b. (if b then e ∷ matches q kept else matches q kept)
      ≡ (if b then e ∷ matches n kept else matches n kept)) [
        | true ↦ ap (λ z. e ∷ z) (same-matches q n t kept todo a.1 f)
        | false ↦ same-matches q n t kept todo a.1 f
      ])

  lookup-skip : (n : List ℕ) (t : T) (e : List ℕ × T) (es : List (List ℕ × T)) → AreAbove e.0 es → lookup n es ≡ Some t
      → lookup n (e ∷ es) ≡ Some t
  lookup-skip n t e es a h = elim (bytes_eq e.0 n) as (λ b. bytes_eq e.0 n ≡ b
      → (if b then Some e.1 else lookup n es) ≡ Some t) [
        | true ↦ λ m. absurd (let none = lookup-above e.0 es a in
            let same = ap (λ z. lookup z es) (bytes_eq-equal e.0 n m) in cc)
        | false ↦ λ m. h
      ] refl

  lookup-later : (n : List ℕ) (t : T) (xs ys : List (List ℕ × T)) → IsAscending (xs ++ ys) → lookup n ys ≡ Some t
      → lookup n (xs ++ ys) ≡ Some t
  lookup-later n t [] ys a h = h
  lookup-later n t (x ∷ xs) ys a h = lookup-skip n t x (xs ++ ys) a.0 (lookup-later n t xs ys a.1 h)

  lookup-earlier : (n : List ℕ) (t : T) (xs ys : List (List ℕ × T)) → lookup n xs ≡ Some t
      → lookup n (xs ++ ys) ≡ Some t
  lookup-earlier n t [] ys h = absurd (let e = h in cc)
  lookup-earlier n t (x ∷ xs) ys h = elim (bytes_eq x.0 n) as (λ b. (if b then Some x.1 else lookup n xs) ≡ Some t
      → (if b then Some x.1 else lookup n (xs ++ ys)) ≡ Some t) [
        | true ↦ λ e. e
        | false ↦ λ e. lookup-earlier n t xs ys e
      ] h

  lookup-either : (n : List ℕ) (t : T) (xs ys : List (List ℕ × T)) → lookup n (xs ++ ys) ≡ Some t
      → (lookup n xs ≡ Some t) ⊎ (lookup n ys ≡ Some t)
  lookup-either n t [] ys h = inr h
  lookup-either n t (x ∷ xs) ys h = elim (bytes_eq x.0 n)
      as (λ b. (if b then Some x.1 else lookup n (xs ++ ys)) ≡ Some t
      → ((if b then Some x.1 else lookup n xs) ≡ Some t) ⊎ (lookup n ys ≡ Some t)) [
        | true ↦ λ e. inl e
        | false ↦ λ e. lookup-either n t xs ys e
      ] h

  -- what is before a route is less
  before-less : (k n : List ℕ) (s t : T) (kept todo : List (List ℕ × T)) → IsAscending (kept ++ (n, t) ∷ todo)
      → lookup k kept ≡ Some s → IsLess k n
  before-less k n s t [] todo a h = absurd (let e = h in cc)
  before-less k n s t (e ∷ kept) todo a h = elim (bytes_eq e.0 k)
      as (λ b. bytes_eq e.0 k ≡ b → (if b then Some e.1 else lookup k kept) ≡ Some s → IsLess k n) [
        | true ↦ λ m g. subst (λ z. IsLess z n) (bytes_eq-equal e.0 k m) (above-last e.0 n t kept todo a.0)
        | false ↦ λ m g. before-less k n s t kept todo a.1 g
      ] refl h

  module _ (same : T → T → Bool) where
    alike-itself : (o : Option T) → AreAlike same o o
    alike-itself None = tt
    alike-itself (Some t) = inl refl

    alike-last : (o r : Option (List ℕ × T)) (xs : List (List ℕ × T))
        → AreAlike same (option_map (λ e. e.1) o) (option_map (λ e. e.1) r)
        → AreAlike same (option_map (λ e. e.1) (last_or o xs)) (option_map (λ e. e.1) (last_or r xs))
    alike-last o r [] h = h
    alike-last o r (x ∷ xs) h = alike-itself (option_map (λ e. e.1) (last_or (Some x) xs))

    -- the same routes come after
    pub keeps-more : (done kept todo : List (List ℕ × T)) → IsAscending (done ++ todo) → KeepsMatches same done kept
        → KeepsMatches same (done ++ todo) (kept ++ todo)
    keeps-more done kept todo a k = record {
      only = λ n t h. ⊎_elim
          (λ l. lookup-earlier n t done todo (k.only n t l))
          (λ l. lookup-later n t done todo a l)
          (lookup-either n t kept todo h);
      matches = λ q. rw (longest-append q done todo, longest-append q kept todo)
          (alike-last (longest_match q done) (longest_match q kept) (matches q todo) (k.matches q));
    }

    -- a route leaves whose target is that of its longest other match
    pub keeps-removed : (n : List ℕ) (t u : T) (done kept todo : List (List ℕ × T)) → KeepsMatches same done kept
        → IsAscending (kept ++ (n, t) ∷ todo) → longest_value n (without n (kept ++ (n, t) ∷ todo)) ≡ Some u
        → same t u ≡ true → KeepsMatches same (done ++ (n, t) ∷ []) kept
    keeps-removed n t u done kept todo k a c s = record {
      only = λ m w h. lookup-earlier m w done ((n, t) ∷ []) (k.only m w h);
      matches = λ q. rw (longest-append q done ((n, t) ∷ [])) (elim (begins n q) as (λ b. begins n q ≡ b
          → AreAlike same (option_map (λ e. e.1) (last_or (longest_match q done) (if b then (n, t) ∷ [] else [])))
          (longest_value q kept)) [
            | true ↦ λ f. let v : longest_value q kept ≡ Some u
                = ap (λ z. option_map (λ e. e.1) (last_or None z)) (same-matches q n t kept todo a f)
                ∙ ap (option_map (λ e. e.1)) (sym (cover-before n t kept todo a)) ∙ c in
                subst (λ z. AreAlike same (Some t) z) (sym v) (inr s)
            | false ↦ λ f. k.matches q
          ] refl);
    }

    -- a route stays whose target isn't
    pub needed-more : (n : List ℕ) (t : T) (kept todo : List (List ℕ × T)) → AreNeeded same kept
        → IsAscending (kept ++ (n, t) ∷ todo)
        → ((u : T) → longest_value n (without n (kept ++ (n, t) ∷ todo)) ≡ Some u → same t u ≡ false)
        → AreNeeded same (kept ++ (n, t) ∷ [])
    needed-more n t kept todo g a c k s u h v = ⊎_elim
        (λ l. let less = before-less k n s t kept todo a l in
        let others : without k (kept ++ (n, t) ∷ []) ≡ without k kept ++ (n, t) ∷ []
        = filter-append (λ e. not (bytes_eq e.0 k)) kept ((n, t) ∷ [])
        ∙ (let f : bytes_eq n k ≡ false = bytes_eq-back n k ∙ below-not_eq k n less in rw f refl) in
        let value : longest_match k (without k (kept ++ (n, t) ∷ [])) ≡ longest_match k (without k kept)
        = ap (longest_match k) others ∙ longest-append k (without k kept) ((n, t) ∷ [])
        ∙ (let f = not-inside-before n k less in rw f refl) in
        g k s u l (ap (option_map (λ e. e.1)) (sym value) ∙ v))
        (λ l. elim (bytes_eq n k)
        as (λ b. bytes_eq n k ≡ b → (if b then Some t else None) ≡ Some s → same s u ≡ false) [
          | true ↦ λ m e. let key = bytes_eq-equal n k m in
              let value : longest_value n (without n (kept ++ (n, t) ∷ todo)) ≡ Some u
              = ap (option_map (λ e. e.1)) (cover-before n t kept todo a
              ∙ sym (cover-before n t kept [] (split-front n t kept todo a)))
              ∙ ap (λ z. longest_value z (without z (kept ++ (n, t) ∷ []))) key ∙ v in
              let target : t ≡ s = (let x = e in cc) in subst (λ z. same z u ≡ false) target (c u value)
          | false ↦ λ m e. absurd (let x = e in cc)
        ] refl l)
        (lookup-either k s kept ((n, t) ∷ []) h)
