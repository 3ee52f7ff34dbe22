-- The two columns of a sorted mapping through its calls.
use Rattle.std.proofs.Common.{◌≡◌, ℕ, zero, suc, ◌<◌, ◌≤◌, ◌+◌, ◌-◌, List, [], ◌∷◌, ◌++◌, Option, Some, None, length}
use Rattle.std.proofs.Common.{get_or, set, take, drop, sym, ap, ◌∙◌, refl, arith, subst, ⊎_elim}
use Rattle.std.proofs.lemmas.Bool.Decides.{eqb_tells}
use Rattle.std.specs.Prelude.{insert, OnSome}
use Rattle.std.specs.List.{zip}
use Rattle.std.proofs.lemmas.List.{length-set, length-append, length-take, length-drop, get_or-set_same}
use Rattle.std.proofs.lemmas.List.{get_or-set_other, get_or-append_right, get_or-drop}
use Rattle.rart_parts.specs.Entries.{child_at, entries_above, with_entry, without_byte, BytesAscend}
use Rattle.rart_parts.specs.Keys.{IsAscendingBelow}
use Rattle.rart_maps.specs.SortedKeyed.{IsSortedKeyed, IsPadded}
use Rattle.rart_parts.proofs.entries.EntryLemmas.{all_above, not_above, with_entry-ascends, without_byte-ascends}
use Rattle.rart_maps.proofs.Zipped.{length_zipped, zip_same, set_zip, set_child-ascends, inserted}
use Rattle.rart_maps.proofs.Zipped.{keys_ascend, zip_last, front-ascends}

pub no_entries : {X : Type 0} (ks : List ℕ) (vs : List X) → length vs ≡ 0 → zip ks vs ≡ []
no_entries [] [] e = refl
no_entries (k ∷ ks) [] e = refl
no_entries ks (v ∷ vs) e = absurd (omega arith)

zip_nothing : {X : Type 0} (ks : List ℕ) → (let none : List X = [] in ◌≡◌ {A = List (ℕ × X)} (zip ks none) [])
zip_nothing [] = refl
zip_nothing (k ∷ ks) = refl

-- from the first place on whose key is above
pub zip_above : {X : Type 0} (k at : ℕ) (ks : List ℕ) (vs : List X) → length vs ≤ length ks → BytesAscend (zip ks vs)
    → at ≤ length vs → ((j : ℕ) → j < at → get_or ks j 0 ≤ k) → (at < length vs → k < get_or ks at 0)
    → zip (drop at ks) (drop at vs) ≡ entries_above k (zip ks vs)
zip_above k zero ks [] h a l below above = zip_nothing ks ∙ ap (entries_above k) (sym (zip_nothing ks))
zip_above k zero [] (v ∷ vs) h a l below above = absurd (omega arith)
zip_above k zero (y ∷ ks) (v ∷ vs) h a l below above = sym (all_above k ((y, v) ∷ zip ks vs) (above (omega arith)) a)
zip_above k (suc at) ks [] h a l below above = absurd (omega arith)
zip_above k (suc at) [] (v ∷ vs) h a l below above = absurd (omega arith)
zip_above k (suc at) (y ∷ ks) (v ∷ vs) h a l below above =
    zip_above k at ks vs (omega arith) a.1 (omega arith) (λ j m. below (suc j) (omega arith)) (λ m. above (omega arith))
    ∙ sym (not_above k (y, v) (zip ks vs) (below 0 (omega arith)))

-- keys in front of others, as many as there are children
zip_front : {X : Type 0} (ks rest : List ℕ) (vs : List X) → length vs ≤ length ks → zip (take (length vs) ks ++ rest) vs
    ≡ zip ks vs
zip_front ks rest [] h = zip_nothing (take 0 ks ++ rest) ∙ sym (zip_nothing ks)
zip_front [] rest (v ∷ vs) h = absurd (omega arith)
zip_front (k ∷ ks) rest (v ∷ vs) h = ap (λ es. (k, v) ∷ es) (zip_front ks rest vs (omega arith))

module _ {X : Type 0} {width : ℕ} {ks : List ℕ} {vs : List X} {reserved : ℕ}
    (s : IsSortedKeyed width ks vs reserved) where
  pub fits : length vs ≤ length ks
  fits = omega (arith, s.full, s.few)

  -- as many entries as children
  pub counted : (es : List (ℕ × X)) → zip ks vs ≡ es → length es ≡ length vs
  counted es e = sym (ap length e) ∙ length_zipped ks vs fits

  pub ordered : (n : ℕ) → n ≡ length vs → IsAscendingBelow ks n
  ordered n e = subst (IsAscendingBelow ks) (sym e) (keys_ascend ks vs fits s.ascends)

  pub written : (i : ℕ) (w : X) → IsSortedKeyed width ks (set vs i w) reserved
  written i w = record {
    full = s.full;
    few = omega (arith, length-set vs i w, s.few);
    reserved = s.reserved;
    narrow = s.narrow;
    ascends = subst BytesAscend (sym (set_zip ks vs i w)) (set_child-ascends i w (zip ks vs) s.ascends);
    padded = λ k l m. s.padded k (omega (arith, l, length-set vs i w)) m;
  }

  pub added : (key : ℕ) (x : X) (ks' : List ℕ) (vs' : List X) (reserved' : ℕ) → length ks' ≡ length ks
      → length vs' ≡ length vs + 1 → length vs < width → reserved ≤ reserved'
      → zip ks' vs' ≡ with_entry key x (zip ks vs) → IsPadded ks' (length vs + 1) width
      → IsSortedKeyed width ks' vs' reserved'
  added key x ks' vs' reserved' n m l r e p = record {
    full = n ∙ s.full;
    few = omega (arith, m, l);
    reserved = omega (arith, r, s.reserved);
    narrow = s.narrow;
    ascends = subst BytesAscend (sym e) (with_entry-ascends key x (zip ks vs) s.ascends);
    padded = subst (λ n. IsPadded ks' n width) (sym m) p;
  }

  pub deleted : (key : ℕ) (ks' : List ℕ) (vs' : List X) (reserved' : ℕ) → length ks' ≡ length ks
      → length vs ≡ length vs' + 1 → reserved' ≡ reserved
      → zip ks' vs' ≡ without_byte key (zip ks vs) → IsPadded ks' (length vs') width
      → IsSortedKeyed width ks' vs' reserved'
  deleted key ks' vs' reserved' n m r e p = record {
    full = n ∙ s.full;
    few = omega (arith, m, s.few);
    reserved = omega (arith, r, s.reserved);
    narrow = s.narrow;
    ascends = subst BytesAscend (sym e) (without_byte-ascends key (zip ks vs) s.ascends);
    padded = p;
  }

  -- without the last child
  module _ (rest : List X) (x : X) (e : vs ≡ rest ++ x ∷ []) where
    last_within : length rest < length ks
    last_within = omega (arith, fits, ap length e, length-append rest (x ∷ []))

    pub last_entry : zip ks vs ≡ zip ks rest ++ (get_or ks (length rest) 0, x) ∷ []
    last_entry = ap (zip ks) e ∙ zip_last ks rest x last_within

    pub popped_zip : zip (set ks (length rest) 255) rest ≡ zip ks rest
    popped_zip = zip_same ks (set ks (length rest) 255) rest (omega (arith, last_within))
        (omega (arith, last_within, length-set ks (length rest) 255))
        (λ j l. get_or-set_other ks (length rest) j 255 0 (λ q. omega (arith, q, l)))

    pub popped : (reserved' : ℕ) → reserved' ≡ reserved → IsSortedKeyed width (set ks (length rest) 255) rest reserved'
    popped reserved' r = record {
      full = length-set ks (length rest) 255 ∙ s.full;
      few = omega (arith, s.few, ap length e, length-append rest (x ∷ []));
      reserved = omega (arith, r, s.reserved);
      narrow = s.narrow;
      ascends = subst BytesAscend (sym popped_zip)
          (front-ascends (zip ks rest) _ (subst BytesAscend last_entry s.ascends));
      padded = λ k l m. ⊎_elim
          (λ t. ap (λ j. get_or (set ks (length rest) 255) j 0) t.1
          ∙ get_or-set_same ks (length rest) 255 0 last_within)
          (λ t. get_or-set_other ks (length rest) k 255 0 t.1
          ∙ s.padded k (omega (arith, l, t.1, ap length e, length-append rest (x ∷ []))) m)
          (eqb_tells k (length rest));
    }

  pub emptied : (ks' : List ℕ) (vs' : List X) → length ks' ≡ width → length vs' ≡ 0 → (reserved' : ℕ)
      → reserved' ≡ reserved
      → IsPadded ks' 0 width → IsSortedKeyed width ks' vs' reserved'
  emptied ks' [] full e reserved' r p = record {
    full = full;
    few = omega (arith, s.few);
    reserved
        = omega (arith, r, s.reserved);
    narrow = s.narrow;
    ascends
        = subst BytesAscend (sym (no_entries ks' [] refl)) tt;
    padded = p;
  }
  emptied ks' (v ∷ vs') full e reserved' r p = absurd (omega arith)

  -- one more key, at a place, with the keys after it moved up
  pub padded_more : (ks₁ : List ℕ) (n at key : ℕ) → n ≡ length vs → at ≤ n
      → ((k d : ℕ) → at + 1 + (n - at) ≤ k → get_or ks₁ k d ≡ get_or ks k d)
      → IsPadded (set ks₁ at key) (length vs + 1) width
  padded_more ks₁ n at key count h same k l m =
      get_or-set_other ks₁ at k key 0 (λ q. omega (arith, q, l, count, h)) ∙ same k 0 (omega (arith, l, count, h))
      ∙ s.padded k (omega (arith, l)) m

  -- one fewer, with the keys after it moved down and the last one overwritten
  pub padded_less : (ks₁ : List ℕ) (n at fewer : ℕ) → n ≡ length vs → at < n → length ks₁ ≡ length ks
      → ((k d : ℕ) → at + (n - (at + 1)) ≤ k → get_or ks₁ k d ≡ get_or ks k d) → length vs ≡ fewer + 1
      → IsPadded (set ks₁ (n - 1) 255) fewer width
  padded_less ks₁ n at fewer count h len same one k l m = ⊎_elim
      (λ t. ap (λ j. get_or (set ks₁ (n - 1) 255) j 0) t.1
      ∙ get_or-set_same ks₁ (n - 1) 255 0 (omega (arith, len, fits, count, h)))
      (λ t. get_or-set_other ks₁ (n - 1) k 255 0 t.1 ∙ same k 0 (omega (arith, l, one, count, h))
      ∙ s.padded k (omega (arith, l, one, count, t.1)) m)
      (eqb_tells k (n - 1))

  -- without the only child
  pub padded_alone : length vs ≡ 1 → IsPadded (set ks 0 255) 0 width
  padded_alone one k l m = ⊎_elim
      (λ t. ap (λ j. get_or (set ks 0 255) j 0) t.1 ∙ get_or-set_same ks 0 255 0 (omega (arith, one, s.few, s.full)))
      (λ t. get_or-set_other ks 0 k 255 0 t.1 ∙ s.padded k (omega (arith, one, t.1)) m)
      (eqb_tells k 0)

  -- a key was put in at a place, and its child at the same place
  pub put_in : (ks₁ : List ℕ) (n at key : ℕ) (x : X) → n ≡ length vs → length vs < width → length ks₁ ≡ length ks
      → (at ≤ n) × ((k : ℕ) → k < at → get_or ks k 0 ≤ key) × (at < n → key < get_or ks at 0)
      → child_at key (zip ks vs) ≡ None
      → ((k d : ℕ) → at + 1 ≤ k → k < at + 1 + (n - at) → get_or ks₁ k d ≡ get_or ks (at + (k - (at + 1))) d)
      → ((k d : ℕ) → k < at + 1 → get_or ks₁ k d ≡ get_or ks k d)
      → zip (set ks₁ at key) (insert vs at x) ≡ with_entry key x (zip ks vs)
  put_in ks₁ n at key x count reserved len place absent moved same =
      inserted key x ks (set ks₁ at key) vs at (omega (arith, s.full, reserved)) (length-set ks₁ at key ∙ len)
      (omega (arith, place.0, count))
      place.1 (λ l. place.2 (omega (arith, l, count))) absent
      (λ j l. get_or-set_other ks₁ at j key 0 (λ e. omega (arith, e, l)) ∙ same j 0 (omega (arith, l)))
      (get_or-set_same ks₁ at key 0 (omega (arith, place.0, count, len, s.full, reserved)))
      (λ j l m. get_or-set_other ks₁ at (j + 1) key 0 (λ e. omega (arith, e, l))
      ∙ moved (j + 1) 0 (omega (arith, l)) (omega (arith, l, m, count))
      ∙ (let back : at + (j + 1 - (at + 1)) ≡ j = omega (arith, l) in ap (λ q. get_or ks q 0) back))

  -- the same children with their keys in another row of keys
  module _ (n : ℕ) (count : n ≡ length vs) (ks' : List ℕ) where
    pub resized_zip : zip (take n ks ++ drop n ks') vs ≡ zip ks vs
    resized_zip = ap (λ m. zip (take m ks ++ drop n ks') vs) count ∙ zip_front ks (drop n ks') vs fits

    pub resized : (width' reserved' : ℕ) → length vs ≤ width' → width' ≤ reserved' → width' ≤ 255 → length ks' ≡ width'
        → IsPadded ks' 0 width' → IsSortedKeyed width' (take n ks ++ drop n ks') vs reserved'
    resized width' reserved' few r narrow full p = record {
      full = omega (
        arith,
        length-append (take n ks) (drop n ks'),
        length-take n ks,
        length-drop n ks',
        full,
        few,
        count,
        fits,
      );
      few = few;
      reserved = r;
      narrow = narrow;
      ascends = subst BytesAscend (sym resized_zip) s.ascends;
      padded = λ k l m. get_or-append_right (take n ks) (drop n ks') n k 0
          (omega (arith, length-take n ks, count, fits)) (omega (arith, l, count)) ∙ get_or-drop n ks' (k - n) 0
          ∙ (let at : n + (k - n) ≡ k = omega (arith, count, l) in ap (λ j. get_or ks' j 0) at) ∙ p k (omega arith) m;
    }

pub no_items : {A : Type 0} (xs : List A) → length xs ≡ 0 → xs ≡ []
no_items [] e = refl
no_items (x ∷ xs) e = absurd (omega arith)

pub on_any : {A : Type 0} (r : Option A) {P : Type 0} → P → OnSome r P
on_any None p = tt
on_any (Some x) p = p
