-- `DirectMapping` as a type that may hold the type that holds it, by its children.
use Rattle.std.specs.Prelude.{◌≡◌, ℕ, zero, suc, List, [], ◌∷◌, map, length, Option, None, Some}
use mathlib.Core.Path.{refl, sym, ap, ◌∙◌}
use mathlib.Core.Former.{Former, one_more, this, list, via, children}
use native.Mathlib.Nat.{ℕ_set}
use lib.ListN.{length-map}
use base.Stored.{gcons, coded_ℕ, coded×, coded_bool, Coded-set, code_map}
use denote.RattleType.{RattleType}
use denote.Param.{number}
use denote.HoleLaws.{Alike}
use denote.HolePlaces.{Recodes, struct_places, laid}
use denote.Hole.Carrier.{listed}
use denote.Hole.Fix.{over}
use denote.Param.Weighed.{Weighed}
use denote.Model.Placed.{held, view_places}
use Rattle.rart_maps.specs.EntryShapes.{entry, on_value}
use Rattle.rart_parts.specs.Bits.{words_have}
use Rattle.rart_maps.specs.Direct.{IsDirect}
use Rattle.rart_parts.specs.Places.{Agrees, is_used, numbered_values}
use Rattle.rart_block.specs.formers.raw_sparse.RawSparseBlock.{slot_former, slot_map}
use Rattle.rart_block.specs.formers.sparse_block.SparseBlock as block
use Rattle.rart_maps.specs.Contents.{Contents}
use Rattle.rart_maps.specs.formers.mapping.sorted_keyed_mapping.SortedKeyedMapping as sorted
use Rattle.rart_maps.specs.declared.mapping.direct_mapping.Used.{Used}
use Rattle.rart_maps.specs.contracts.mapping.direct_mapping.Used as used
use Rattle.rart_maps.specs.declared.mapping.direct_mapping.DirectMapping.TheInside.{Inside}
use Rattle.rart_maps.specs.declared.mapping.direct_mapping.DirectMapping.TheView.{view, invariant}
use Rattle.rart_maps.specs.contracts.mapping.direct_mapping.DirectMapping as C
use Rattle.rart_maps.specs.contracts.mapping.direct_mapping.DirectMapping.TheInside as I

abbrev pub the_former : Former {0} → Type 0 → Former {0}
the_former g E = sorted.the_former g 256 E

abbrev pub the_weighed : {g : Former {0}} → Weighed g → (E : Type 0) → Weighed (the_former g E)
the_weighed w E = sorted.the_weighed w 256 E

abbrev pub the_items : (E X : Type 0) → Contents X E → List X
the_items E X c = sorted.the_items 256 E X c

pub the_items_listed : (E X : Type 0) (c : Contents X E) → listed _ (children (the_former this E) X c) ≡ the_items E X c
the_items_listed E X c = sorted.the_items_listed 256 E X c

abbrev fields : Type 0 → Former {0}
fields E = via (block.the_former this E Used 256) (λ X. Inside X E) (λ X a. a.block)
    (λ X v. record { block = v })
    (λ X a. refl) (λ X v. refl)

pub numbered-map : {X Y : Type 0} (h : X → Y) (n : ℕ) (os : List (Option X))
    → numbered_values n (map (slot_map h) os) ≡ map (on_value h) (numbered_values n os)
numbered-map h n [] = refl
numbered-map h n (None ∷ os) = numbered-map h (suc n) os
numbered-map h n (Some x ∷ os) = ap (λ l. (n, h x) ∷ l) (numbered-map h (suc n) os)

numbered-held : (X : Type 0) (n : ℕ) (os : List (Option X)) → held (list (entry this)) X (numbered_values n os)
    ≡ held (list (slot_former this)) X os
numbered-held X n [] = refl
numbered-held X n (None ∷ os) = numbered-held X (suc n) os
numbered-held X n (Some x ∷ os) = λ i. (
  one_more (numbered-held X (suc n) os i).0,
  (x, (numbered-held X (suc n) os i).1),
)

used_along : {X Y : Type 0} (h : X → Y) (os : List (Option X)) (k : ℕ) → is_used (map (slot_map h) os) k ≡ is_used os k
used_along h [] k = refl
used_along h (None ∷ os) zero = refl
used_along h (Some x ∷ os) zero = refl
used_along h (o ∷ os) (suc k) = used_along h os k

abbrev AreSet : {X : Type 0} → List ℕ → List (Option X) → Type 0
AreSet ws os = Agrees 256 (words_have 64 (λ w. w) ws) os

direct-prop : {X : Type 0} (ws : List ℕ) (n : ℕ) (os : List (Option X)) → IsProp (IsDirect os n × AreSet ws os)
direct-prop ws n os = λ x y i. (
  record { full = ℕ_set _ _ x.0.full y.0.full i; counted = ℕ_set _ _ x.0.counted y.0.counted i },
  λ k h. Coded-set coded_bool _ _ (x.1 k h) (y.1 k h) i,
)

module _ {X Y : Type 0} (h : X → Y) (ws : List ℕ) (n : ℕ) (os : List (Option X)) where
  abbrev moved : List (Option Y)
  moved = map (slot_map h) os

  same_count : length (numbered_values 0 moved) ≡ length (numbered_values 0 os)
  same_count = ap length (numbered-map h 0 os) ∙ length-map (numbered_values 0 os) (on_value h)

  along : IsDirect os n × AreSet ws os → IsDirect moved n × AreSet ws moved
  along e = (
    record { full = length-map os (slot_map h) ∙ e.0.full; counted = e.0.counted ∙ sym same_count },
    λ k l. e.1 k l ∙ sym (used_along h os k),
  )

  back : IsDirect moved n × AreSet ws moved → IsDirect os n × AreSet ws os
  back e = (
    record { full = sym (length-map os (slot_map h)) ∙ e.0.full; counted = e.0.counted ∙ same_count },
    λ k l. e.1 k l ∙ used_along h os k,
  )

module _ (E : RattleType) (R R' : RattleType) (h : R.Denot → R'.Denot) where
  abbrev former : Former {0}
  former = the_former this E.Denot

  pub the_places : Alike R R' h → Alike (C.the_row R E) (C.the_row R' E) (former.map R.Denot R'.Denot h)
  the_places a = view_places (fields E.Denot) former (λ X. view X E.Denot)
      (λ X Y k u. ap (λ es. record { extra = u.block.head; entries = es }) (numbered-map k 0 u.block.items))
      (λ X u. numbered-held X 0 u.block.items)
      R.Denot R'.Denot h (C.the_row R E).coded (C.the_row R' E).coded
      (invariant R.Denot E.Denot) (invariant R'.Denot E.Denot) (λ u. direct-prop _ _ _) (λ u. direct-prop _ _ _)
      (λ u e. along h u.block.keys.bytes.words u.block.keys.count u.block.items e)
      (λ u e. back h u.block.keys.bytes.words u.block.keys.count u.block.items e)
      (over (I.the_row R E)) (over (I.the_row R' E))
      (struct_places (I.the_type R E) (I.the_type R' E)
      ((block.the_former this E.Denot Used 256).map R.Denot R'.Denot h, tt) _ (λ d. refl) refl
      (laid _ _ _ (block.the_places E used.the_row (number 256) R R' h a), tt))

  pub the_codes_placed : Recodes R R' h → Recodes (C.the_row R E) (C.the_row R' E) (former.map R.Denot R'.Denot h)
  the_codes_placed e c = ap (λ es. gcons (E.coded.code c.extra) es)
      (sym (code_map (coded× coded_ℕ R.coded).code (coded× coded_ℕ R'.coded).code (on_value h)
      (λ x i. gcons (coded_ℕ.code x.0) (sym (e x.1) i)) c.entries))
