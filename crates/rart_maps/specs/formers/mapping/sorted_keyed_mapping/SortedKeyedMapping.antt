-- `SortedKeyedMapping` as a type that may hold the type that holds it, by its children.
use Rattle.std.specs.Prelude.{◌≡◌, ◌≤◌, ℕ, List, [], ◌∷◌, map, length}
use Rattle.std.specs.List.{zip}
use mathlib.Core.Path.{refl, sym, ap, subst, ◌∙◌}
use mathlib.Core.Former.{Former, one_more, this, const, pair, list, via, children}
use native.Mathlib.Nat.{ℕ_set}
use native.Mathlib.Bridge.{le_prop}
use native.Mathlib.Omega.{arith}
use lib.ListN.{length-map}
use base.Stored.{gcons, coded_ℕ, coded×, code_map}
use denote.RattleType.{RattleType}
use denote.Param.{ArrayAt, value_of}
use denote.HoleLaws.{Alike}
use denote.HolePlaces.{Recodes, struct_places, laid}
use denote.Hole.Carrier.{listed}
use denote.Hole.Fix.{over}
use denote.Param.Weighed.{Weighed, w_list, w_pair, w_const, w_via}
use denote.Model.Placed.{held, view_places_where}
use Rattle.std.specs.Borrow.{u8}
use Rattle.rart_parts.specs.Entries.{children_of as values_of, StartsAbove, BytesAscend}
use Rattle.rart_maps.specs.EntryShapes.{entry, on_value}
use Rattle.rart_maps.specs.SortedKeyed.{IsSortedKeyed}
use Rattle.rart_block.specs.formers.block.Block as block
use Rattle.rart_maps.specs.Contents.{Contents}
use Rattle.rart_maps.specs.declared.mapping.sorted_keyed_mapping.SortedKeyedMapping.TheInside.{Inside}
use Rattle.rart_maps.specs.declared.mapping.sorted_keyed_mapping.SortedKeyedMapping.TheView.{view, invariant}
use Rattle.rart_maps.specs.contracts.mapping.sorted_keyed_mapping.SortedKeyedMapping as C
use Rattle.rart_maps.specs.contracts.mapping.sorted_keyed_mapping.SortedKeyedMapping.TheInside as I

abbrev pub the_former : Former {0} → ℕ → Type 0 → Former {0}
the_former g W E = via (pair (const E) (list (entry g))) (λ X. Contents (g.Of X) E) (λ X c. (c.extra, c.entries))
    (λ X p. record { extra = p.0; entries = p.1 }) (λ X c. refl) (λ X p. refl)

abbrev pub the_weighed : {g : Former {0}} → Weighed g → (W : ℕ) (E : Type 0) → Weighed (the_former g W E)
the_weighed {g} w W E = w_via (w_pair (w_const E) (w_list (w_pair (w_const ℕ) w))) (λ X. Contents (g.Of X) E)
    (λ X c. (c.extra, c.entries)) (λ X p. record { extra = p.0; entries = p.1 }) (λ X c. refl) (λ X p. refl)

abbrev fields : ℕ → Type 0 → Former {0}
fields W E = via (block.the_former this E (List ℕ) W) (λ X. Inside X W E) (λ X a. a.block)
    (λ X v. record { block = v }) (λ X a. refl) (λ X v. refl)

pub zip-map : {X Y : Type 0} (h : X → Y) (ks : List ℕ) (vs : List X) → zip ks (map h vs) ≡ map (on_value h) (zip ks vs)
zip-map h [] vs = refl
zip-map h (k ∷ ks) [] = refl
zip-map h (k ∷ ks) (v ∷ vs) = ap (λ l. (k, h v) ∷ l) (zip-map h ks vs)

starts-map : {X Y : Type 0} (h : X → Y) (k : ℕ) (es : List (ℕ × X)) → StartsAbove k (map (on_value h) es)
    ≡ StartsAbove k es
starts-map h k [] = refl
starts-map h k (e ∷ es) = refl

ascends-map : {X Y : Type 0} (h : X → Y) (es : List (ℕ × X)) → BytesAscend (map (on_value h) es) ≡ BytesAscend es
ascends-map h [] = refl
ascends-map h (e ∷ es) = λ i. (starts-map h e.0 es i) × ascends-map h es i

starts-prop : {X : Type 0} (k : ℕ) (es : List (ℕ × X)) → IsProp (StartsAbove k es)
starts-prop k [] = λ x y i. tt
starts-prop k (e ∷ es) = λ x y. le_prop x y

ascends-prop : {X : Type 0} (es : List (ℕ × X)) → IsProp (BytesAscend es)
ascends-prop [] = λ x y i. tt
ascends-prop (e ∷ es) = λ x y i. (starts-prop e.0 es x.0 y.0 i, ascends-prop es x.1 y.1 i)

IsSortedKeyed-prop : {X : Type 0} (w : ℕ) (ks : List ℕ) (vs : List X) (r : ℕ) → IsProp (IsSortedKeyed w ks vs r)
IsSortedKeyed-prop w ks vs r = λ x y i. record {
  full = ℕ_set _ _ x.full y.full i;
  few = le_prop x.few y.few i;
  reserved = le_prop x.reserved y.reserved i;
  narrow = le_prop x.narrow y.narrow i;
  ascends = ascends-prop (zip ks vs) x.ascends y.ascends i;
  padded = λ k l m. ℕ_set _ _ (x.padded k l m) (y.padded k l m) i;
}

along : {X Y : Type 0} (h : X → Y) (w : ℕ) (ks : List ℕ) (vs : List X) (r : ℕ) → IsSortedKeyed w ks vs r
    → IsSortedKeyed w ks (map h vs) r
along h w ks vs r e = record {
  full = e.full;
  few = subst (λ n. n ≤ w) (sym (length-map vs h)) e.few;
  reserved = e.reserved;
  narrow = e.narrow;
  ascends = coe 0 1 (i. sym (ap BytesAscend (zip-map h ks vs) ∙ ascends-map h (zip ks vs)) i) e.ascends;
  padded = λ k l. e.padded k (subst (λ n. n ≤ k) (length-map vs h) l);
}

back : {X Y : Type 0} (h : X → Y) (w : ℕ) (ks : List ℕ) (vs : List X) (r : ℕ) → IsSortedKeyed w ks (map h vs) r
    → IsSortedKeyed w ks vs r
back h w ks vs r e = record {
  full = e.full;
  few = subst (λ n. n ≤ w) (length-map vs h) e.few;
  reserved = e.reserved;
  narrow = e.narrow;
  ascends = coe 0 1 (i. (ap BytesAscend (zip-map h ks vs) ∙ ascends-map h (zip ks vs)) i) e.ascends;
  padded = λ k l. e.padded k (subst (λ n. n ≤ k) (sym (length-map vs h)) l);
}

pub zip-held : (X : Type 0) (ks : List ℕ) (vs : List X) → length vs ≤ length ks → held (list (entry this)) X (zip ks vs)
    ≡ held (list this) X vs
zip-held X [] [] e = refl
zip-held X [] (v ∷ vs) e = absurd (omega arith)
zip-held X (k ∷ ks) [] e = refl
zip-held X (k ∷ ks) (v ∷ vs) e = λ i. (
  one_more (zip-held X ks vs (omega arith) i).0,
  (v, (zip-held X ks vs (omega arith) i).1),
)

abbrev pub the_items : (W : ℕ) (E X : Type 0) → Contents X E → List X
the_items W E X c = values_of c.entries

entries_listed : (X : Type 0) (es : List (ℕ × X)) → listed _ (children (list (entry this)) X es) ≡ values_of es
entries_listed X [] = refl
entries_listed X (e ∷ es) = ap (λ l. e.1 ∷ l) (entries_listed X es)

pub the_items_listed : (W : ℕ) (E X : Type 0) (c : Contents X E)
    → listed _ (children (the_former this W E) X c) ≡ the_items W E X c
the_items_listed W E X c = entries_listed X c.entries

module _ (W E : RattleType) (R R' : RattleType) (h : R.Denot → R'.Denot) where
  abbrev w : ℕ
  w = value_of W

  abbrev former : Former {0}
  former = the_former this w E.Denot

  pub the_places : Alike R R' h → Alike (C.the_row R W E) (C.the_row R' W E) (former.map R.Denot R'.Denot h)
  the_places a = view_places_where (fields w E.Denot) former (λ X. view X w E.Denot)
      (λ X Y k u. ap (λ es. record { extra = u.block.head; entries = es }) (zip-map k u.block.keys u.block.items))
      (λ X u. length u.block.items ≤ length u.block.keys)
      (λ X Y k u e. subst (λ n. n ≤ length u.block.keys) (length-map u.block.items k) e)
      (λ X u e. zip-held X u.block.keys u.block.items e)
      R.Denot R'.Denot h (C.the_row R W E).coded (C.the_row R' W E).coded
      (invariant R.Denot w E.Denot) (invariant R'.Denot w E.Denot) (λ u. IsSortedKeyed-prop _ _ _ _)
      (λ u. IsSortedKeyed-prop _ _ _ _)
      (λ u e. along h _ u.block.keys u.block.items _ e) (λ u e. back h _ u.block.keys u.block.items _ e)
      (λ u e. subst (λ n. length u.block.items ≤ n) (sym e.full) e.few)
      (over (I.the_row R W E)) (over (I.the_row R' W E))
      (struct_places (I.the_type R W E) (I.the_type R' W E)
      ((block.the_former this E.Denot (List ℕ) w).map R.Denot R'.Denot h, tt) _ (λ d. refl) refl
      (laid _ _ _ (block.the_places E (ArrayAt u8 W) W R R' h a), tt))

  pub the_codes_placed : Recodes R R' h
      → Recodes (C.the_row R W E) (C.the_row R' W E) (former.map R.Denot R'.Denot h)
  the_codes_placed e c = ap (λ es. gcons (E.coded.code c.extra) es)
      (sym (code_map (coded× coded_ℕ R.coded).code (coded× coded_ℕ R'.coded).code (on_value h)
      (λ x i. gcons (coded_ℕ.code x.0) (sym (e x.1) i)) c.entries))
