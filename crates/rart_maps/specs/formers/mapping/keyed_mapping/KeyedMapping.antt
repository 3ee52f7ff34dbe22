-- `KeyedMapping` as a type that may hold the type that holds it, by its children.
use Rattle.std.specs.Prelude.{◌≡◌, ◌<◌, ◌≤◌, ℕ, true, false, nat_lt, List, [], ◌∷◌, Option, None, Some, map, length}
use Rattle.std.specs.Prelude.{if◌then◌else◌}
use mathlib.Core.Path.{refl, sym, ap, subst, ◌∙◌}
use mathlib.Core.Former.{Former, one_more, this, const, pair, list, via, children}
use native.Mathlib.Nat.{ℕ_set}
use native.Mathlib.Bridge.{le_prop}
use native.Mathlib.Omega.{arith}
use lib.ListN.{length-map}
use base.Stored.{gcons, coded_ℕ, coded×, code_map}
use denote.RattleType.{RattleType}
use denote.Param.{value_of}
use denote.HoleLaws.{Alike}
use denote.HolePlaces.{Recodes, struct_places, laid}
use denote.Hole.Carrier.{listed}
use denote.Hole.Fix.{over}
use denote.Param.Weighed.{Weighed, w_list, w_const, w_pair}
use denote.Model.Placed.{held, view_places_where}
use Rattle.std.specs.declared.default.Default as default
use Rattle.rart_parts.specs.declared.utils.bitset.BitsetTrait as bits
use Rattle.rart_maps.specs.declared.mapping.keyed_mapping.KeyedMapping.TheInside.{Inside}
use Rattle.rart_maps.specs.declared.mapping.keyed_mapping.KeyedMapping.TheView.{view, invariant}
use Rattle.rart_maps.specs.contracts.mapping.keyed_mapping.KeyedMapping as C
use Rattle.rart_maps.specs.contracts.mapping.keyed_mapping.KeyedMapping.TheInside as I
use Rattle.rart_parts.specs.formers.utils.bitarray.BitArray as places
use Rattle.rart_parts.specs.formers.utils.bitarray.BitArray.{place}
use Rattle.rart_parts.specs.Entries.{children_of, with_another, sorted_entries}
use Rattle.rart_maps.specs.EntryShapes.{entry, on_value}
use Rattle.rart_parts.specs.Places.{numbered_values}
use Rattle.rart_maps.specs.Keyed.{IsSlots, IsKeyed, with_keys}
use Rattle.rart_maps.specs.formers.mapping.direct_mapping.DirectMapping.{numbered-map}

abbrev pub the_former : Former {0} → ℕ → Type 0 → Former {0}
the_former g W B = list (entry g)

abbrev pub the_weighed : {g : Former {0}} → Weighed g → (W : ℕ) (B : Type 0) → Weighed (the_former g W B)
the_weighed w W B = w_list (w_pair (w_const ℕ) w)

abbrev pub the_items : (W : ℕ) (B X : Type 0) → List (ℕ × X) → List X
the_items W B X d = children_of d

pub the_items_listed : (W : ℕ) (B X : Type 0) (d : List (ℕ × X)) → listed _ (children (the_former this W B) X d)
    ≡ the_items W B X d
the_items_listed W B X [] = refl
the_items_listed W B X (e ∷ es) = ap (λ l. e.1 ∷ l) (the_items_listed W B X es)

abbrev fields : ℕ → Type 0 → Former {0}
fields W B = via (pair (const (List ℕ × ℕ)) (places.the_former this W B)) (λ X. Inside X W B)
    (λ X a. ((a.keys, a.num_children), a.children))
    (λ X v. record { keys = v.0.0; children = v.1; num_children = v.0.1 }) (λ X a. refl) (λ X v. refl)

with_another-map : {X Y : Type 0} (h : X → Y) (k : ℕ) (x : X) (es : List (ℕ × X))
    → with_another k (h x) (map (on_value h) es) ≡ map (on_value h) (with_another k x es)
with_another-map h k x [] = refl
with_another-map h k x (e ∷ es) =
    elim (nat_lt e.0 k) as (λ b. (if b then on_value h e ∷ with_another k (h x) (map (on_value h) es)
    else (k, h x) ∷ on_value h e ∷ map (on_value h) es)
    ≡ map (on_value h) (if b then e ∷ with_another k x es else (k, x) ∷ e ∷ es)) [
      | true ↦ ap (λ l. on_value h e ∷ l) (with_another-map h k x es)
      | false ↦ refl
    ]

ascending-map : {X Y : Type 0} (h : X → Y) (es : List (ℕ × X))
    → sorted_entries (map (on_value h) es) ≡ map (on_value h) (sorted_entries es)
ascending-map h [] = refl
ascending-map h (e ∷ es) = ap (with_another e.0 (h e.1)) (ascending-map h es)
    ∙ with_another-map h e.0 e.1 (sorted_entries es)

with_keys-map : {X Y : Type 0} (h : X → Y) (ks : List ℕ) (os : List (Option X))
    → with_keys ks (map ((place this).map X Y h) os) ≡ map (on_value h) (with_keys ks os)
with_keys-map h [] os = refl
with_keys-map h (k ∷ ks) [] = refl
with_keys-map h (k ∷ ks) (None ∷ os) = with_keys-map h ks os
with_keys-map h (k ∷ ks) (Some x ∷ os) = ap (λ l. (k, h x) ∷ l) (with_keys-map h ks os)

with_keys-held : (X : Type 0) (ks : List ℕ) (os : List (Option X)) → length os ≤ length ks
    → held (list (entry this)) X (with_keys ks os) ≡ held (list (place this)) X os
with_keys-held X [] [] e = refl
with_keys-held X [] (o ∷ os) e = absurd (omega arith)
with_keys-held X (k ∷ ks) [] e = refl
with_keys-held X (k ∷ ks) (None ∷ os) e = with_keys-held X ks os (omega arith)
with_keys-held X (k ∷ ks) (Some x ∷ os) e
    = λ i. (one_more (with_keys-held X ks os (omega arith) i).0, (x, (with_keys-held X ks os (omega arith) i).1))

IsSlots-prop : {X : Type 0} (ks : List ℕ) (os : List (Option X)) → IsProp (IsSlots ks os)
IsSlots-prop ks os = λ x y j. record {
  whole = ℕ_set _ _ x.whole y.whole j;
  apart = λ p q u v e. ℕ_set p q (x.apart p q u v e) (y.apart p q u v e) j;
  free = λ p l u. ℕ_set _ _ (x.free p l u) (y.free p l u) j;
}

IsKeyed-prop : {X : Type 0} (w : ℕ) (ks : List ℕ) (os : List (Option X)) (n : ℕ) → IsProp (IsKeyed w ks os n)
IsKeyed-prop w ks os n = λ x y j. record {
  full = ℕ_set _ _ x.full y.full j;
  narrow = le_prop x.narrow y.narrow j;
  slots = IsSlots-prop ks os x.slots y.slots j;
  counted = ℕ_set _ _ x.counted y.counted j;
  entries = ℕ_set _ _ x.entries y.entries j;
}

module _ {X Y : Type 0} (h : X → Y) (w : ℕ) (ks : List ℕ) (os : List (Option X)) (n : ℕ) where
  abbrev moved : List (Option Y)
  moved = map ((place this).map X Y h) os

  same_slots : length (numbered_values 0 moved) ≡ length (numbered_values 0 os)
  same_slots = ap length (numbered-map h 0 os) ∙ length-map (numbered_values 0 os) (on_value h)

  same_entries : length (sorted_entries (with_keys ks moved)) ≡ length (sorted_entries (with_keys ks os))
  same_entries = ap (λ es. length (sorted_entries es)) (with_keys-map h ks os)
      ∙ ap length (ascending-map h (with_keys ks os)) ∙ length-map (sorted_entries (with_keys ks os)) (on_value h)

  same_length : length moved ≡ length os
  same_length = length-map os ((place this).map X Y h)

  along : IsKeyed w ks os n → IsKeyed w ks moved n
  along e = record {
    full = same_length ∙ e.full;
    narrow = e.narrow;
    slots = record {
      whole = e.slots.whole ∙ sym same_length;
      apart = λ p q u v s. e.slots.apart p q (sym (places.used_along h os p) ∙ u) (sym (places.used_along h os q) ∙ v)
          s;
      free = λ p l u. e.slots.free p (subst (λ m. p < m) same_length l) (sym (places.used_along h os p) ∙ u);
    };
    counted = e.counted ∙ sym same_slots;
    entries = e.entries ∙ sym same_entries;
  }

  back : IsKeyed w ks moved n → IsKeyed w ks os n
  back e = record {
    full = sym same_length ∙ e.full;
    narrow = e.narrow;
    slots = record {
      whole = e.slots.whole ∙ same_length;
      apart = λ p q u v s. e.slots.apart p q (places.used_along h os p ∙ u) (places.used_along h os q ∙ v) s;
      free = λ p l u. e.slots.free p (subst (λ m. p < m) (sym same_length) l) (places.used_along h os p ∙ u);
    };
    counted = e.counted ∙ same_slots;
    entries = e.entries ∙ same_entries;
  }

le_self : (n : ℕ) → n ≤ n
le_self n = omega arith

module _ (W B : RattleType) (G : bits.Ghosts B.Denot) (G' : default.Ghosts B.Denot) (R R' : RattleType) (h : R.Denot
    → R'.Denot) where
  pub the_places : Alike R R' h → Alike (C.the_row R W B G G') (C.the_row R' W B G G')
      ((the_former this (value_of W) B.Denot).map R.Denot R'.Denot h)
  the_places a = view_places_where (fields (value_of W) B.Denot) (the_former this (value_of W) B.Denot)
      (λ X. view X (value_of W) B.Denot G G')
      (λ X Y k u. with_keys-map k u.keys u.children)
      (λ X u. length u.children ≤ length u.keys)
      (λ X Y k u e. subst (λ n. n ≤ length u.keys) (length-map u.children ((place this).map X Y k)) e)
      (λ X u e. with_keys-held X u.keys u.children e)
      R.Denot R'.Denot h (C.the_row R W B G G').coded (C.the_row R' W B G G').coded
      (invariant R.Denot (value_of W) B.Denot G G') (invariant R'.Denot (value_of W) B.Denot G G')
      (λ u. IsKeyed-prop _ _ _ _) (λ u. IsKeyed-prop _ _ _ _)
      (λ u e. along h _ u.keys u.children u.num_children e) (λ u e. back h _ u.keys u.children u.num_children e)
      (λ u e. subst (λ n. n ≤ length u.keys) e.slots.whole (le_self (length u.keys)))
      (over (I.the_row R W B G G')) (over (I.the_row R' W B G G'))
      (struct_places (I.the_type R W B G G') (I.the_type R' W B G G')
      (λ n. n, ((places.the_former this (value_of W) B.Denot).map R.Denot R'.Denot h, (λ n. n, tt))) _ (λ d. refl)
      refl (
        (refl, (λ n. refl, λ n. refl)),
        (
          laid _ _ _ (places.the_places W B G G' R R' h a),
          ((refl, (λ n. refl, λ n. refl)), tt),
        ),
      ))

  pub the_codes_placed : Recodes R R' h → Recodes (C.the_row R W B G G') (C.the_row R' W B G G')
      ((the_former this (value_of W) B.Denot).map R.Denot R'.Denot h)
  the_codes_placed e es = sym (code_map (coded× coded_ℕ R.coded).code (coded× coded_ℕ R'.coded).code (on_value h)
      (λ x i. gcons (coded_ℕ.code x.0) (sym (e x.1) i)) es)
