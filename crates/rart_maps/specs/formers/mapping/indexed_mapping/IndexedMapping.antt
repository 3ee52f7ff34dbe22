-- `IndexedMapping` as a type that may hold the type that holds it, by its children.
use Rattle.std.specs.Prelude.{◌≡◌, ◌<◌, ◌≤◌, ℕ, List, Option, map, length}
use Rattle.std.specs.Coded.{coded_option}
use mathlib.Core.Path.{refl, sym, ap, subst}
use mathlib.Core.Former.{Former, this, via, children}
use native.Mathlib.Nat.{ℕ_set}
use native.Mathlib.Bridge.{le_prop}
use lib.ListN.{length-map}
use base.Stored.{gcons, coded_ℕ, coded×, Coded-set, code_map}
use denote.RattleType.{RattleType}
use denote.Param.{value_of}
use denote.HoleLaws.{Alike}
use denote.HolePlaces.{Recodes, struct_places, laid}
use denote.Hole.Carrier.{listed}
use denote.Hole.Fix.{over}
use denote.Param.Weighed.{Weighed}
use denote.Model.Placed.{view_places_where}
use Rattle.std.specs.declared.default.Default as default
use Rattle.rart_parts.specs.declared.utils.bitset.BitsetTrait as bits
use Rattle.rart_maps.specs.EntryShapes.{on_value}
use Rattle.rart_block.specs.formers.block.Block as block
use Rattle.rart_maps.specs.Contents.{Contents}
use Rattle.rart_maps.specs.Dense.{IsDense}
use Rattle.rart_maps.specs.formers.mapping.sorted_keyed_mapping.SortedKeyedMapping as sorted
use Rattle.rart_maps.specs.formers.mapping.sorted_keyed_mapping.SortedKeyedMapping.{zip-map, zip-held}
use Rattle.rart_maps.specs.declared.mapping.indexed_mapping.Slots.{Slots}
use Rattle.rart_maps.specs.contracts.mapping.indexed_mapping.Slots as slots
use Rattle.rart_maps.specs.declared.mapping.indexed_mapping.IndexedMapping.TheInside.{Inside}
use Rattle.rart_maps.specs.declared.mapping.indexed_mapping.IndexedMapping.TheView.{view, invariant}
use Rattle.rart_maps.specs.contracts.mapping.indexed_mapping.IndexedMapping as C
use Rattle.rart_maps.specs.contracts.mapping.indexed_mapping.IndexedMapping.TheInside as I

abbrev pub the_former : Former {0} → ℕ → Type 0 → Type 0 → Former {0}
the_former g W B E = sorted.the_former g W E

abbrev pub the_weighed : {g : Former {0}} → Weighed g → (W : ℕ) (B E : Type 0) → Weighed (the_former g W B E)
the_weighed w W B E = sorted.the_weighed w W E

abbrev pub the_items : (W : ℕ) (B E X : Type 0) → Contents X E → List X
the_items W B E X c = sorted.the_items W E X c

pub the_items_listed : (W : ℕ) (B E X : Type 0) (c : Contents X E)
    → listed _ (children (the_former this W B E) X c) ≡ the_items W B E X c
the_items_listed W B E X c = sorted.the_items_listed W E X c

abbrev fields : ℕ → Type 0 → Type 0 → Former {0}
fields W B E = via (block.the_former this E (Slots W B) W) (λ X. Inside X W B E) (λ X a. a.block)
    (λ X v. record { block = v }) (λ X a. refl) (λ X v. refl)

IsDense-prop : {X : Type 0} (w : ℕ) (at : List (Option ℕ)) (bs : List ℕ) (vs : List X) → IsProp (IsDense w at bs vs)
IsDense-prop w at bs vs = λ x y i. record {
  whole = ℕ_set _ _ x.whole y.whole i;
  full = ℕ_set _ _ x.full y.full i;
  narrow = le_prop x.narrow y.narrow i;
  few = le_prop x.few y.few i;
  has_child = λ k p e. le_prop (x.has_child k p e) (y.has_child k p e) i;
  has_byte = λ k p e. ℕ_set _ _ (x.has_byte k p e) (y.has_byte k p e) i;
  is_named = λ p l. Coded-set (coded_option coded_ℕ) _ _ (x.is_named p l) (y.is_named p l) i;
}

module _ {X Y : Type 0} (h : X → Y) (w : ℕ) (at : List (Option ℕ)) (bs : List ℕ) (vs : List X) where
  along : IsDense w at bs vs → IsDense w at bs (map h vs)
  along e = record {
    whole = e.whole;
    full = e.full;
    narrow = e.narrow;
    few = subst (λ n. n ≤ w) (sym (length-map vs h)) e.few;
    has_child = λ k p l. subst (λ n. p < n) (sym (length-map vs h)) (e.has_child k p l);
    has_byte = e.has_byte;
    is_named = λ p l. e.is_named p (subst (λ n. p < n) (length-map vs h) l);
  }

  back : IsDense w at bs (map h vs) → IsDense w at bs vs
  back e = record {
    whole = e.whole;
    full = e.full;
    narrow = e.narrow;
    few = subst (λ n. n ≤ w) (length-map vs h) e.few;
    has_child = λ k p l. subst (λ n. p < n) (length-map vs h) (e.has_child k p l);
    has_byte = e.has_byte;
    is_named = λ p l. e.is_named p (subst (λ n. p < n) (sym (length-map vs h)) l);
  }

module _ (W B E : RattleType) (G : bits.Ghosts B.Denot) (G' : default.Ghosts B.Denot) (R R' : RattleType)
    (h : R.Denot → R'.Denot) where
  abbrev w : ℕ
  w = value_of W

  abbrev former : Former {0}
  former = the_former this w B.Denot E.Denot

  pub the_places : Alike R R' h → Alike (C.the_row R W B E G G') (C.the_row R' W B E G G')
      (former.map R.Denot R'.Denot h)
  the_places a = view_places_where (fields w B.Denot E.Denot) former (λ X. view X w B.Denot E.Denot G G')
      (λ X Y k u. ap (λ es. record { extra = u.block.head; entries = es }) (zip-map k u.block.keys.bytes u.block.items))
      (λ X u. length u.block.items ≤ length u.block.keys.bytes)
      (λ X Y k u e. subst (λ n. n ≤ length u.block.keys.bytes) (length-map u.block.items k) e)
      (λ X u e. zip-held X u.block.keys.bytes u.block.items e)
      R.Denot R'.Denot h (C.the_row R W B E G G').coded (C.the_row R' W B E G G').coded
      (invariant R.Denot w B.Denot E.Denot G G') (invariant R'.Denot w B.Denot E.Denot G G')
      (λ u. IsDense-prop _ _ _ _) (λ u. IsDense-prop _ _ _ _)
      (λ u e. along h _ u.block.keys.index u.block.keys.bytes u.block.items e)
      (λ u e. back h _ u.block.keys.index u.block.keys.bytes u.block.items e)
      (λ u e. subst (λ n. length u.block.items ≤ n) (sym e.full) e.few)
      (over (I.the_row R W B E G G')) (over (I.the_row R' W B E G G'))
      (struct_places (I.the_type R W B E G G') (I.the_type R' W B E G G')
      ((block.the_former this E.Denot (Slots w B.Denot) w).map R.Denot R'.Denot h, tt) _ (λ d. refl) refl
      (laid _ _ _ (block.the_places E (slots.the_row W B) W R R' h a), tt))

  pub the_codes_placed : Recodes R R' h
      → Recodes (C.the_row R W B E G G') (C.the_row R' W B E G G') (former.map R.Denot R'.Denot h)
  the_codes_placed e c = ap (λ es. gcons (E.coded.code c.extra) es)
      (sym (code_map (coded× coded_ℕ R.coded).code (coded× coded_ℕ R'.coded).code (on_value h)
      (λ x i. gcons (coded_ℕ.code x.0) (sym (e x.1) i)) c.entries))
