-- `Block` as a type that may hold the type that holds it, by its items.
use Rattle.std.specs.Prelude.{◌≡◌, ℕ, ◌≤◌, List}
use mathlib.Core.Path.{refl, sym, ap, subst, ◌∙◌}
use mathlib.Core.Former.{Former, this, const, pair, list, via, children}
use native.Mathlib.Nat.{ℕ_set}
use native.Mathlib.Bridge.{le_prop}
use lib.ListN.{length-map}
use base.Stored.{gcons, coded_bool, Coded-set, code_map}
use denote.RattleType.{RattleType}
use denote.Param.{value_of}
use denote.HoleLaws.{Alike}
use denote.HolePlaces.{Recodes, struct_places, laid}
use denote.Hole.Carrier.{listed, list-listed}
use denote.Hole.Fix.{over}
use denote.Param.Weighed.{Weighed, w_const, w_pair, w_list, w_via}
use denote.Model.Placed.{view_places}
use Rattle.rart_block.specs.formers.raw.RawBlock as raw
use Rattle.rart_block.specs.Contents.{Contents}
use Rattle.rart_block.specs.declared.block.Header.{Header}
use Rattle.rart_block.specs.contracts.block.Header as header
use Rattle.rart_block.specs.declared.block.Block.TheInside.{Inside}
use Rattle.rart_block.specs.declared.block.Block.TheView.{view, invariant}
use Rattle.rart_block.specs.contracts.block.Block as C
use Rattle.rart_block.specs.contracts.block.Block.TheInside as I

abbrev pub the_former : Former {0} → Type 0 → Type 0 → ℕ → Former {0}
the_former g H K w = via (pair (const (H × K)) (list g)) (λ X. Contents H K (g.Of X))
    (λ X c. ((c.head, c.keys), c.items))
    (λ X p. record { head = p.0.0; keys = p.0.1; items = p.1 }) (λ X c. refl) (λ X p. refl)

abbrev pub the_weighed : {g : Former {0}} → Weighed g → (H K : Type 0) (w : ℕ) → Weighed (the_former g H K w)
the_weighed {g} k H K w = w_via (w_pair (w_const (H × K)) (w_list k)) (λ X. Contents H K (g.Of X))
    (λ X c. ((c.head, c.keys), c.items)) (λ X p. record { head = p.0.0; keys = p.0.1; items = p.1 })
    (λ X c. refl) (λ X p. refl)

abbrev pub the_items : (H K : Type 0) (w : ℕ) (X : Type 0) → Contents H K X → List X
the_items H K w X c = c.items

pub the_items_listed : (H K : Type 0) (w : ℕ) (X : Type 0) (c : Contents H K X)
    → listed _ (children (the_former this H K w) X c) ≡ the_items H K w X c
the_items_listed H K w X c = list-listed X c.items

abbrev fields : Type 0 → Type 0 → ℕ → Former {0}
fields H K w = via (raw.the_former this (Header H K) w) (λ X. Inside H K X w) (λ X b. b.raw)
    (λ X v. record { raw = v }) (λ X b. refl) (λ X v. refl)

module _ (H K W R R' : RattleType) (h : R.Denot → R'.Denot) where
  abbrev w : ℕ
  w = value_of W

  abbrev former : Former {0}
  former = the_former this H.Denot K.Denot w

  pub the_places : Alike R R' h → Alike (C.the_row H K R W) (C.the_row H K R' W) (former.map R.Denot R'.Denot h)
  the_places a = view_places (fields H.Denot K.Denot w) former (λ X. view H.Denot K.Denot X w) (λ X Y k u. refl)
      (λ X u. refl) R.Denot R'.Denot h (C.the_row H K R W).coded (C.the_row H K R' W).coded
      (invariant H.Denot K.Denot R.Denot w) (invariant H.Denot K.Denot R'.Denot w)
      (λ u p q i. (Coded-set coded_bool _ _ p.0 q.0 i, ℕ_set _ _ p.1 q.1 i, le_prop p.2 q.2 i, le_prop p.3 q.3 i))
      (λ u p q i. (Coded-set coded_bool _ _ p.0 q.0 i, ℕ_set _ _ p.1 q.1 i, le_prop p.2 q.2 i, le_prop p.3 q.3 i))
      (λ u e. let same = sym (length-map u.raw.items h) in (e.0, e.1 ∙ same, subst (λ n. n ≤ w) same e.2, e.3))
      (λ u e. let same = length-map u.raw.items h in (e.0, e.1 ∙ same, subst (λ n. n ≤ w) same e.2, e.3))
      (over (I.the_row H K R W)) (over (I.the_row H K R' W))
      (struct_places (I.the_type H K R W) (I.the_type H K R' W) (raw.mapped h, tt) _ (λ d. refl) refl
      (laid _ _ _ (raw.the_places (header.the_row H K) W R R' h a), tt))

  pub the_codes_placed : Recodes R R' h
      → Recodes (C.the_row H K R W) (C.the_row H K R' W) (former.map R.Denot R'.Denot h)
  the_codes_placed e d = ap (λ xs. gcons (H.coded.code d.head) (gcons (K.coded.code d.keys) xs))
      (sym (code_map R.coded.code R'.coded.code h (λ x. sym (e x)) d.items))
