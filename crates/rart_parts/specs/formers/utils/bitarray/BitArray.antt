-- `BitArray` as a type that may hold the type that holds it, by its values.
use Rattle.std.specs.Prelude.{◌≡◌, ℕ, zero, suc, Bool, List, [], ◌∷◌, map, Option, None, Some}
use mathlib.Core.Path.{refl, sym, ap, ◌∙◌}
use mathlib.Core.Logic.{◌⊎◌, inl, inr}
use mathlib.Core.Former.{Former, this, const, pair, or, list, via, children}
use native.Mathlib.Nat.{ℕ_set}
use native.Mathlib.Bridge.{le_prop}
use lib.ListN.{length-map}
use base.Stored.{gcons, gnum, code_map, Coded-set, coded_bool}
use denote.RattleType.{RattleType}
use denote.Param.{value_of}
use denote.HoleLaws.{Alike}
use denote.HolePlaces.{Recodes, struct_places, enum_places, eachs, laid}
use denote.Hole.Carrier.{listed}
use denote.Hole.Fix.{over}
use denote.Param.Weighed.{Weighed, w_or, w_const, w_via, w_list}
use denote.Model.Placed.{view_places}
use Rattle.std.specs.Coded.{coded_option}
use Rattle.std.specs.contracts.option.Option as option
use Rattle.std.specs.formers.vec.Vec as vec
use Rattle.std.specs.declared.alloc.Global.{Global}
use Rattle.std.specs.contracts.alloc.Global as heap
use Rattle.std.specs.contracts.impls.GlobalAllocator.TheImpl.{ghosts}
use Rattle.std.specs.declared.default.Default as default
use Rattle.rart_parts.specs.declared.utils.bitset.BitsetTrait as bits
use Rattle.rart_parts.specs.declared.utils.bitarray.BitArray.TheInside.{Inside}
use Rattle.rart_parts.specs.declared.utils.bitarray.BitArray.TheView.{view, invariant}
use Rattle.rart_parts.specs.contracts.utils.bitarray.BitArray as C
use Rattle.rart_parts.specs.contracts.utils.bitarray.BitArray.TheInside as I
use Rattle.rart_parts.specs.Places.{is_used, values_in, Agrees, IsBitArray}

module _ (g : Former {0}) where
  abbrev pub split : (X : Type 0) → Option (g.Of X) → Unit {0} ⊎ g.Of X
  split X None = inl tt
  split X (Some y) = inr y

  abbrev pub join : (X : Type 0) → Unit {0} ⊎ g.Of X → Option (g.Of X)
  join X (inl u) = None
  join X (inr y) = Some y

  pub join-split : (X : Type 0) (o : Option (g.Of X)) → join X (split X o) ≡ o
  join-split X None = refl
  join-split X (Some y) = refl

  pub split-join : (X : Type 0) (x : Unit {0} ⊎ g.Of X) → split X (join X x) ≡ x
  split-join X (inl u) = refl
  split-join X (inr y) = refl

  abbrev pub place : Former {0}
  place = via (or (const (Unit {0})) g) (λ X. Option (g.Of X)) split join join-split split-join

abbrev w_place : {g : Former {0}} → Weighed g → Weighed (place g)
w_place {g} w = w_via (w_or (w_const (Unit {0})) w) (λ X. Option (g.Of X)) (split g) (join g) (join-split g)
    (split-join g)

abbrev pub the_former : Former {0} → ℕ → Type 0 → Former {0}
the_former g W B = list (place g)

abbrev pub the_weighed : {g : Former {0}} → Weighed g → (W : ℕ) (B : Type 0) → Weighed (the_former g W B)
the_weighed w W B = w_list (w_place w)

abbrev pub the_items : (W : ℕ) (B X : Type 0) → List (Option X) → List X
the_items W B X d = values_in d

pub the_items_listed : (W : ℕ) (B X : Type 0) (d : List (Option X)) → listed _ (children (the_former this W B) X d)
    ≡ the_items W B X d
the_items_listed W B X [] = refl
the_items_listed W B X (None ∷ es) = the_items_listed W B X es
the_items_listed W B X (Some e ∷ es) = ap (λ l. e ∷ l) (the_items_listed W B X es)

abbrev fields : ℕ → Type 0 → Former {0}
fields W B = via (pair (const B) (vec.the_former (place this) Global)) (λ X. Inside X W B) (λ X a. (a.bitset, a.places))
    (λ X v. record { bitset = v.0; places = v.1 }) (λ X a. refl) (λ X v. refl)

abbrev filled_map : {X Y : Type 0} → (X → Y) → Option X → Option Y
filled_map h None = None
filled_map h (Some x) = Some (h x)

over_place : {X Y : Type 0} (h : X → Y) (o : Option X) → (place this).map X Y h o ≡ filled_map h o
over_place h None = refl
over_place h (Some x) = refl

pub used_along : {X Y : Type 0} (h : X → Y) (os : List (Option X)) (i : ℕ) → is_used (map ((place this).map X Y h) os) i
    ≡ is_used os i
used_along h [] i = refl
used_along h (None ∷ os) zero = refl
used_along h (Some x ∷ os) zero = refl
used_along h (o ∷ os) (suc i) = used_along h os i

Agrees-prop : {X : Type 0} (n : ℕ) (t : ℕ → Bool) (os : List (Option X)) → IsProp (Agrees n t os)
Agrees-prop n t os = λ x y j i h. Coded-set coded_bool (t i) (is_used os i) (x i h) (y i h) j

IsBitArray-prop : {X : Type 0} (w n : ℕ) (t : ℕ → Bool) (os : List (Option X)) → IsProp (IsBitArray w n t os)
IsBitArray-prop w n t os = λ x y j. record {
  full = ℕ_set _ _ x.full y.full j;
  covers = le_prop x.covers y.covers j;
  fits = le_prop x.fits y.fits j;
  agrees = λ k l e. Agrees-prop n t os (x.agrees k l e) (y.agrees k l e) j;
}

module _ (R R' : RattleType) (h : R.Denot → R'.Denot) where
  variant_alike : (o : Option R.Denot) → (option.enum R').as_values ((place this).map R.Denot R'.Denot h o)
      ≡ eachs (option.enum R).parts (option.enum R').parts (tt, ((h, tt), tt)) ((option.enum R).as_values o)
  variant_alike None = refl
  variant_alike (Some r) = refl

  pub place_alike : Alike R R' h → Alike (option.the_row R) (option.the_row R') ((place this).map R.Denot R'.Denot h)
  place_alike a = enum_places (option.enum R) (option.enum R') (tt, ((h, tt), tt)) ((place this).map R.Denot R'.Denot h)
      variant_alike refl (tt, ((laid _ _ _ a, tt), tt))

module _ (W B : RattleType) (G : bits.Ghosts B.Denot) (G' : default.Ghosts B.Denot) (R R' : RattleType) (h : R.Denot
    → R'.Denot) where
  abbrev pub put_over : Option R.Denot → Option R'.Denot
  put_over = (place this).map R.Denot R'.Denot h

  variant : (o : Option R.Denot) → (option.enum R').as_values (put_over o)
      ≡ eachs (option.enum R).parts (option.enum R').parts (tt, ((h, tt), tt)) ((option.enum R).as_values o)
  variant None = refl
  variant (Some r) = refl

  place_places : Alike R R' h → Alike (option.the_row R) (option.the_row R') put_over
  place_places a = enum_places (option.enum R) (option.enum R') (tt, ((h, tt), tt)) put_over variant refl
      (tt, ((laid _ _ _ a, tt), tt))

  pub the_places : Alike R R' h → Alike (C.the_row R W B G G') (C.the_row R' W B G G')
      ((the_former this (value_of W) B.Denot).map R.Denot R'.Denot h)
  the_places a = view_places (fields (value_of W) B.Denot) (the_former this (value_of W) B.Denot)
      (λ X. view X (value_of W) B.Denot G G')
      (λ X Y k u. refl) (λ X u. refl)
      R.Denot R'.Denot h (C.the_row R W B G G').coded (C.the_row R' W B G G').coded
      (invariant R.Denot (value_of W) B.Denot G G') (invariant R'.Denot (value_of W) B.Denot G G')
      (λ u. IsBitArray-prop _ _ _ _) (λ u. IsBitArray-prop _ _ _ _)
      (λ u e. record {
        full = length-map u.places.items put_over ∙ e.full;
        covers = e.covers;
        fits = e.fits;
        agrees
            = λ k l any i lt. e.agrees k l any i lt ∙ sym (used_along h u.places.items i);
      })
      (λ u e. record {
        full = sym (length-map u.places.items put_over) ∙ e.full;
        covers = e.covers;
        fits
            = e.fits;
        agrees = λ k l any i lt. e.agrees k l any i lt ∙ used_along h u.places.items i;
      })
      (over (I.the_row R W B G G')) (over (I.the_row R' W B G G'))
      (struct_places (I.the_type R W B G G') (I.the_type R' W B G G') (λ n. n, (vec.mapped put_over, tt)) _ (λ d. refl)
      refl (
        (refl, (λ n. refl, λ n. refl)),
        (
          laid _ _ _
              (vec.the_places heap.the_row ghosts (option.the_row R) (option.the_row R') put_over (place_places a)),
          tt,
        ),
      ))

  coded_place : Recodes R R' h → (o : Option R.Denot)
      → (coded_option R.coded).code o ≡ (coded_option R'.coded).code (put_over o)
  coded_place e None = refl
  coded_place e (Some x) = λ i. gcons (gnum 1) (sym (e x) i)

  pub the_codes_placed : Recodes R R' h → Recodes (C.the_row R W B G G') (C.the_row R' W B G G')
      ((the_former this (value_of W) B.Denot).map R.Denot R'.Denot h)
  the_codes_placed e es = sym (code_map (coded_option R.coded).code (coded_option R'.coded).code put_over
      (coded_place e) es)
