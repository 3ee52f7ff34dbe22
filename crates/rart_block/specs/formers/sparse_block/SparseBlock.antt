-- `SparseBlock` as a type that may hold the type that holds it, by the items in its slots.
use Rattle.std.specs.Prelude.{◌≡◌, ℕ, List, Option}
use mathlib.Core.Path.{refl, sym, ap, ◌∙◌}
use mathlib.Core.Former.{Former, this, const, pair, list, via, children}
use native.Mathlib.Nat.{ℕ_set}
use lib.ListN.{length-map}
use base.Stored.{gcons}
use denote.RattleType.{RattleType}
use denote.Param.{value_of}
use denote.HoleLaws.{Alike}
use denote.HolePlaces.{Recodes, struct_places, laid}
use denote.Hole.Carrier.{listed}
use denote.Hole.Fix.{over}
use denote.Param.Weighed.{Weighed, w_const, w_pair, w_list, w_via}
use denote.Model.Placed.{view_places}
use Rattle.rart_block.specs.formers.raw_sparse.RawSparseBlock as raw
use Rattle.rart_block.specs.formers.raw_sparse.RawSparseBlock.{slot_former, slot_weighed, slot_map}
use Rattle.rart_block.specs.Contents.{Contents, items_in}
use Rattle.rart_block.specs.declared.sparse_block.Header.{Header}
use Rattle.rart_block.specs.contracts.sparse_block.Header as header
use Rattle.rart_block.specs.declared.sparse_block.SparseBlock.TheInside.{Inside}
use Rattle.rart_block.specs.declared.sparse_block.SparseBlock.TheView.{view, invariant}
use Rattle.rart_block.specs.contracts.sparse_block.SparseBlock as C
use Rattle.rart_block.specs.contracts.sparse_block.SparseBlock.TheInside as I

abbrev pub the_former : Former {0} → Type 0 → Type 0 → ℕ → Former {0}
the_former g H K w = via (pair (const (H × K)) (list (slot_former g))) (λ X. Contents H K (Option (g.Of X)))
    (λ X c. ((c.head, c.keys), c.items))
    (λ X p. record { head = p.0.0; keys = p.0.1; items = p.1 }) (λ X c. refl) (λ X p. refl)

abbrev pub the_weighed : {g : Former {0}} → Weighed g → (H K : Type 0) (w : ℕ) → Weighed (the_former g H K w)
the_weighed {g} k H K w = w_via (w_pair (w_const (H × K)) (w_list (slot_weighed k)))
    (λ X. Contents H K (Option (g.Of X)))
    (λ X c. ((c.head, c.keys), c.items)) (λ X p. record { head = p.0.0; keys = p.0.1; items = p.1 })
    (λ X c. refl) (λ X p. refl)

abbrev pub the_items : (H K : Type 0) (w : ℕ) (X : Type 0) → Contents H K (Option X) → List X
the_items H K w X c = items_in c.items

pub the_items_listed : (H K : Type 0) (w : ℕ) (X : Type 0) (c : Contents H K (Option X))
    → listed _ (children (the_former this H K w) X c) ≡ the_items H K w X c
the_items_listed H K w X c = raw.slots_listed X c.items

abbrev fields : Type 0 → Type 0 → ℕ → Former {0}
fields H K w = via (raw.the_former this (Header H K) w) (λ X. Inside H K X w) (λ X b. b.raw)
    (λ X v. record { raw = v }) (λ X b. refl) (λ X v. refl)

module _ (H K W R R' : RattleType) (h : R.Denot → R'.Denot) where
  abbrev w : ℕ
  w = value_of W

  abbrev former : Former {0}
  former = the_former this H.Denot K.Denot w

  pub the_places : Alike R R' h → Alike (C.the_row H K R W) (C.the_row H K R' W) (former.map R.Denot R'.Denot h)
  the_places a = view_places (fields H.Denot K.Denot w) former (λ X. view H.Denot K.Denot X w) (λ X Y k u. refl)
      (λ X u. refl) R.Denot R'.Denot h (C.the_row H K R W).coded (C.the_row H K R' W).coded
      (invariant H.Denot K.Denot R.Denot w) (invariant H.Denot K.Denot R'.Denot w)
      (λ u p q i. ℕ_set _ _ p q i) (λ u p q i. ℕ_set _ _ p q i)
      (λ u e. length-map u.raw.slots (slot_map h) ∙ e)
      (λ u e. sym (length-map u.raw.slots (slot_map h)) ∙ e)
      (over (I.the_row H K R W)) (over (I.the_row H K R' W))
      (struct_places (I.the_type H K R W) (I.the_type H K R' W)
      ((raw.the_former this (Header H.Denot K.Denot) w).map R.Denot R'.Denot h, tt) _ (λ d. refl) refl
      (laid _ _ _ (raw.the_places (header.the_row H K) W R R' h a), tt))

  pub the_codes_placed : Recodes R R' h
      → Recodes (C.the_row H K R W) (C.the_row H K R' W) (former.map R.Denot R'.Denot h)
  the_codes_placed e d = ap (λ xs. gcons (H.coded.code d.head) (gcons (K.coded.code d.keys) xs))
      (raw.slots_recoded R R' h e d.items)
