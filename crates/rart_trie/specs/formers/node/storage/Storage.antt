-- `Storage` as a type that may hold the type that holds it, by its children.
use Rattle.std.specs.Prelude.{◌≡◌, ℕ, List, Option, length, map, ⊤}
use mathlib.Core.Path.{refl, sym, ap, ◌∙◌}
use mathlib.Core.Former.{Former, this, const, pair, or, via}
use native.Mathlib.Nat.{ℕ_set}
use lib.ListN.{length-map}
use base.Stored.{Gv, gcons, gnum, code_l, code_map, coded_unit}
use denote.Builtin.{u64, unit}
use denote.Param.{number}
use Rattle.std.specs.Coded.{coded×, coded_list, coded_option, coded_ℕ}
use Rattle.std.specs.contracts.option.Option as option
use Rattle.rart_parts.specs.contracts.utils.bitset.set.Bitset as bitset
use Rattle.rart_parts.specs.contracts.utils.bitset.set.BitsetBitsetTrait.TheImpl as traits
use Rattle.rart_parts.specs.contracts.utils.bitset.set.BitsetDefault.TheImpl as defaults
use Rattle.rart_parts.specs.contracts.utils.bitset.word.U64BitsetWord.TheImpl as word
use Rattle.std.specs.declared.clone.Clone as clone
use Rattle.rart_maps.specs.EntryShapes.{on_value}
use Rattle.rart_maps.specs.contracts.mapping.four_keys.FourKeys as keys
use denote.RattleType.{RattleType}
use denote.HoleLaws.{Alike}
use denote.HolePlaces.{Laid, Mapss, Recodes, struct_places, enum_places, eachs, laid}
use denote.Hole.Fix.{over}
use denote.Param.Weighed.{Weighed, w_const, w_pair, w_or, w_via}
use denote.Model.Placed.{view_places}
use Rattle.rart_block.specs.formers.block.Block as block
use Rattle.rart_maps.specs.formers.mapping.sorted_keyed_mapping.SortedKeyedMapping as sorted
use Rattle.rart_maps.specs.formers.mapping.indexed_mapping.IndexedMapping as indexed
use Rattle.rart_maps.specs.formers.mapping.direct_mapping.DirectMapping as direct
use Rattle.rart_trie.specs.declared.node.storage.Kind.{Kind}
use Rattle.rart_trie.specs.declared.node.storage.Kind.TheVariants.{Empty, Leaf, Node4, Node16, Node48, Node256}
use Rattle.rart_trie.specs.declared.node.storage.Storage.TheInside.{Inside}
use Rattle.rart_trie.specs.declared.node.storage.Storage.TheView.{view, invariant}
use Rattle.rart_trie.specs.contracts.node.storage.Kind as kind
use Rattle.rart_trie.specs.contracts.node.storage.Storage as C
use Rattle.rart_trie.specs.contracts.node.storage.Storage.TheInside as I
use Rattle.rart_trie.specs.storages.Kinds.{IsKeyed, kind_of, kind_of-parts_of, parts_of, parts_of-kind_of}

module _ (g : Former {0}) (P V : Type 0) where
  abbrev four : Former {0}
  four = block.the_former g (Option V) (Unit {0}) 4

  abbrev parts : Former {0}
  parts = or (const P) (or (const (P × V)) (or (pair (const P) (pair (const (List ℕ)) four))
      (or (pair (const P) (sorted.the_former g 16 (Option V)))
      (or (pair (const P) (indexed.the_former g 48 (Unit {0}) (Option V)))
      (pair (const P) (direct.the_former g (Option V)))))))

  abbrev pub the_former : Former {0}
  the_former = via parts (λ X. Kind P V (g.Of X)) (λ X. parts_of P V (g.Of X)) (λ X. kind_of P V (g.Of X))
      (λ X. kind_of-parts_of P V (g.Of X)) (λ X. parts_of-kind_of P V (g.Of X))

abbrev pub the_weighed : {g : Former {0}} → Weighed g → (P V : Type 0) → Weighed (the_former g P V)
the_weighed {g} w P V = w_via (w_or (w_const P) (w_or (w_const (P × V)) (w_or (w_pair (w_const P)
    (w_pair (w_const (List ℕ)) (block.the_weighed w (Option V) (Unit {0}) 4)))
    (w_or (w_pair (w_const P) (sorted.the_weighed w 16 (Option V)))
    (w_or (w_pair (w_const P) (indexed.the_weighed w 48 (Unit {0}) (Option V)))
    (w_pair (w_const P) (direct.the_weighed w (Option V)))))))) (λ X. Kind P V (g.Of X))
    (λ X. parts_of P V (g.Of X)) (λ X. kind_of P V (g.Of X))
    (λ X. kind_of-parts_of P V (g.Of X)) (λ X. parts_of-kind_of P V (g.Of X))

pub the_empty : (P V : Type 0) → P → V → Kind P V ⊥
the_empty P V p v = Empty p

abbrev fields : Type 0 → Type 0 → Former {0}
fields P V = via (the_former this P V) (λ X. Inside P V X) (λ X a. a.kind) (λ X k. record { kind = k }) (λ X a. refl)
    (λ X k. refl)

keyed-prop : {P V X : Type 0} (k : Kind P V X) → IsProp (IsKeyed k)
keyed-prop (Empty p) = λ x y i. tt
keyed-prop (Leaf p v) = λ x y i. tt
keyed-prop (Node4 p k b) = ℕ_set _ _
keyed-prop (Node16 p m) = λ x y i. tt
keyed-prop (Node48 p m) = λ x y i. tt
keyed-prop (Node256 p m) = λ x y i. tt

module _ {P V X Y : Type 0} (h : X → Y) where
  along : (k : Kind P V X) → IsKeyed k → IsKeyed ((the_former this P V).map X Y h k)
  along (Empty p) e = tt
  along (Leaf p v) e = tt
  along (Node4 p k b) e = e ∙ sym (length-map b.items h)
  along (Node16 p m) e = tt
  along (Node48 p m) e = tt
  along (Node256 p m) e = tt

  back : (k : Kind P V X) → IsKeyed ((the_former this P V).map X Y h k) → IsKeyed k
  back (Empty p) e = tt
  back (Leaf p v) e = tt
  back (Node4 p k b) e = e ∙ length-map b.items h
  back (Node16 p m) e = tt
  back (Node48 p m) e = tt
  back (Node256 p m) e = tt

-- the code of a part of a sum, after that of its place
abbrev first : Gv → Gv
first z = gcons (gnum 0) z

abbrev later : Gv → Gv
later z = gcons (gnum 1) z

-- a number is cloned as itself
abbrev copied : clone.Ghosts ℕ
copied = record { is_clone = λ x y. y ≡ x; is_infallible = λ x. ⊤ }

module _ (P V R R' : RattleType) (h : R.Denot → R'.Denot) where
  abbrev D : Type 0
  D = Option V.Denot

  abbrev mapped : Kind P.Denot V.Denot R.Denot → Kind P.Denot V.Denot R'.Denot
  mapped = (the_former this P.Denot V.Denot).map R.Denot R'.Denot h

  -- what becomes of the fields of each kind
  abbrev fields_mapped : Mapss (kind.enum P V R).parts (kind.enum P V R').parts
  fields_mapped = (
    (λ p. p, tt),
    (
      (λ p. p, (λ v. v, tt)),
      (
        (λ p. p, (λ k. k, ((block.the_former this D (Unit {0}) 4).map R.Denot R'.Denot h, tt))),
        (
          (λ p. p, ((sorted.the_former this 16 D).map R.Denot R'.Denot h, tt)),
          (
            (λ p. p, ((indexed.the_former this 48 (Unit {0}) D).map R.Denot R'.Denot h, tt)),
            ((λ p. p, ((direct.the_former this D).map R.Denot R'.Denot h, tt)), tt),
          ),
        ),
      ),
    ),
  )

  variant : (k : Kind P.Denot V.Denot R.Denot) → (kind.enum P V R').as_values (mapped k)
      ≡ eachs (kind.enum P V R).parts (kind.enum P V R').parts fields_mapped ((kind.enum P V R).as_values k)
  variant (Empty p) = refl
  variant (Leaf p v) = refl
  variant (Node4 p k b) = refl
  variant (Node16 p m) = refl
  variant (Node48 p m) = refl
  variant (Node256 p m) = refl

  same : (T : RattleType) → Laid T T (λ x. x)
  same T = (refl, (λ x. refl, λ x. refl))

  kinds_placed : Alike R R' h → Alike (kind.the_row P V R) (kind.the_row P V R') mapped
  kinds_placed a = enum_places (kind.enum P V R) (kind.enum P V R') fields_mapped mapped variant refl (
    (same P, tt),
    (
      (same P, (same V, tt)),
      (
        (same P, (same keys.the_row, (laid _ _ _ (block.the_places (option.the_row V) unit (number 4) R R' h a), tt))),
        (
          (same P, (laid _ _ _ (sorted.the_places (number 16) (option.the_row V) R R' h a), tt)),
          (
            (
              same P,
              (
                laid _ _ _ (indexed.the_places (number 48) (bitset.the_row u64 (number 1)) (option.the_row V)
                    (traits.ghosts u64 (number 1) word.ghosts word.dict copied word.dict)
                    (defaults.ghosts u64 (number 1) word.ghosts word.dict copied word.dict) R R' h a),
                tt,
              ),
            ),
            ((same P, (laid _ _ _ (direct.the_places (option.the_row V) R R' h a), tt)), tt),
          ),
        ),
      ),
    ),
  )

  pub the_places : Alike R R' h → Alike (C.the_row P V R) (C.the_row P V R') mapped
  the_places a = view_places (fields P.Denot V.Denot) (the_former this P.Denot V.Denot) (λ X. view P.Denot V.Denot X)
      (λ X Y k u. refl) (λ X u. refl) R.Denot R'.Denot h (C.the_row P V R).coded (C.the_row P V R').coded
      (invariant P.Denot V.Denot R.Denot) (invariant P.Denot V.Denot R'.Denot) (λ u. keyed-prop u.kind)
      (λ u. keyed-prop u.kind) (λ u e. along h u.kind e) (λ u e. back h u.kind e)
      (over (I.the_row P V R)) (over (I.the_row P V R'))
      (struct_places (I.the_type P V R) (I.the_type P V R') (mapped, tt) _ (λ d. refl) refl
      (laid _ _ _ (kinds_placed a), tt))

  module _ (e : Recodes R R' h) where
    items : (xs : List R.Denot) → code_l R'.coded.code (map h xs) ≡ code_l R.coded.code xs
    items xs = sym (code_map R.coded.code R'.coded.code h (λ x. sym (e x)) xs)

    entries : (es : List (ℕ × R.Denot)) → code_l (coded× coded_ℕ R'.coded).code (map (on_value h) es)
        ≡ code_l (coded× coded_ℕ R.coded).code es
    entries es = sym (code_map (coded× coded_ℕ R.coded).code (coded× coded_ℕ R'.coded).code (on_value h)
        (λ x i. gcons (coded_ℕ.code x.0) (sym (e x.1) i)) es)

    abbrev code_p : P.Denot → Gv → Gv
    code_p p z = gcons (P.coded.code p) z

    abbrev code_x : D → Gv → Gv
    code_x x z = gcons ((coded_option V.coded).code x) z

    pub the_codes_placed : Recodes (C.the_row P V R) (C.the_row P V R') mapped
    the_codes_placed (Empty p) = refl
    the_codes_placed (Leaf p v) = refl
    the_codes_placed (Node4 p k b) = ap (λ z. later (later (first (code_p p (gcons ((coded_list coded_ℕ).code k)
        (code_x b.head (gcons (coded_unit.code b.keys) z))))))) (items b.items)
    the_codes_placed (Node16 p m) = ap (λ z. later (later (later (first (code_p p (code_x m.extra z))))))
        (entries m.entries)
    the_codes_placed (Node48 p m) = ap (λ z. later (later (later (later (first (code_p p (code_x m.extra z)))))))
        (entries m.entries)
    the_codes_placed (Node256 p m) = ap (λ z. later (later (later (later (later (code_p p (code_x m.extra z)))))))
        (entries m.entries)
