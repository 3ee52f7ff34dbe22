-- The kinds of storage as sums of products, and what is true of each.
use Rattle.std.specs.Prelude.{◌≡◌, ◌⊎◌, ℕ, List, MatchOption, None, Option, refl}
use Rattle.rart_parts.specs.Entries.{child_at}
use Rattle.std.specs.Coded.{Coded, code_by, coded×, coded⊎, coded_list, coded_ℕ, coded_option}
use mathlib.Core.Logic.{inl, inr}
use base.Stored.{coded_unit}
use Rattle.rart_block.specs.Contents as block
use Rattle.rart_maps.specs.Contents as mapping
use Rattle.rart_maps.specs.FourKeys.{HasKeyEach, IsChildPlace, four_entries}
use Rattle.rart_trie.specs.declared.node.storage.Kind.{Kind}
use Rattle.rart_trie.specs.declared.node.storage.Kind.TheVariants.{Empty, Leaf, Node4, Node16, Node48, Node256}

-- each child has a key, where the keys are not in the block of the children
abbrev pub IsKeyed : {P V N : Type 0} → Kind P V N → Type 0
IsKeyed (Empty p) = Unit {0}
IsKeyed (Leaf p v) = Unit {0}
IsKeyed (Node4 p k b) = HasKeyEach k b
IsKeyed (Node16 p m) = Unit {0}
IsKeyed (Node48 p m) = Unit {0}
IsKeyed (Node256 p m) = Unit {0}

-- where the child at a byte is in a node of at most four children; in other kinds it is nowhere
abbrev pub IsFourPlace : {P V N : Type 0} → ℕ → Kind P V N → Option ℕ → Type 0
IsFourPlace byte (Empty p) at = at ≡ None
IsFourPlace byte (Leaf p v) at = at ≡ None
IsFourPlace byte (Node4 p k b) at = MatchOption at (child_at byte (four_entries k b) ≡ None) (IsChildPlace k b byte)
IsFourPlace byte (Node16 p m) at = at ≡ None
IsFourPlace byte (Node48 p m) at = at ≡ None
IsFourPlace byte (Node256 p m) at = at ≡ None

module _ (P V N : Type 0) where
  abbrev Block4 : Type 0
  Block4 = block.Contents (Option V) (Unit {0}) N

  abbrev Map : Type 0
  Map = mapping.Contents N (Option V)

  -- a kind as a sum: its parts
  abbrev pub Parts : Type 0
  Parts = P ⊎ ((P × V) ⊎ ((P × (List ℕ × Block4)) ⊎ ((P × Map) ⊎ ((P × Map) ⊎ (P × Map)))))

  abbrev pub parts_of : Kind P V N → Parts
  parts_of (Empty p) = inl p
  parts_of (Leaf p v) = inr (inl (p, v))
  parts_of (Node4 p k b) = inr (inr (inl (p, (k, b))))
  parts_of (Node16 p m) = inr (inr (inr (inl (p, m))))
  parts_of (Node48 p m) = inr (inr (inr (inr (inl (p, m)))))
  parts_of (Node256 p m) = inr (inr (inr (inr (inr (p, m)))))

  abbrev pub kind_of : Parts → Kind P V N
  kind_of (inl p) = Empty p
  kind_of (inr (inl x)) = Leaf x.0 x.1
  kind_of (inr (inr (inl x))) = Node4 x.0 x.1.0 x.1.1
  kind_of (inr (inr (inr (inl x)))) = Node16 x.0 x.1
  kind_of (inr (inr (inr (inr (inl x))))) = Node48 x.0 x.1
  kind_of (inr (inr (inr (inr (inr x))))) = Node256 x.0 x.1

  pub kind_of-parts_of : (k : Kind P V N) → kind_of (parts_of k) ≡ k
  kind_of-parts_of (Empty p) = refl
  kind_of-parts_of (Leaf p v) = refl
  kind_of-parts_of (Node4 p k b) = refl
  kind_of-parts_of (Node16 p m) = refl
  kind_of-parts_of (Node48 p m) = refl
  kind_of-parts_of (Node256 p m) = refl

  pub parts_of-kind_of : (x : Parts) → parts_of (kind_of x) ≡ x
  parts_of-kind_of (inl p) = refl
  parts_of-kind_of (inr (inl x)) = refl
  parts_of-kind_of (inr (inr (inl x))) = refl
  parts_of-kind_of (inr (inr (inr (inl x)))) = refl
  parts_of-kind_of (inr (inr (inr (inr (inl x))))) = refl
  parts_of-kind_of (inr (inr (inr (inr (inr x))))) = refl

abbrev pub kind_code : {P V N : Type 0} → Coded P → Coded V → Coded N → Coded (Kind P V N)
kind_code {P} {V} {N} p v n =
    let four = block.contents_code (coded_option v) coded_unit n in
    let map = mapping.contents_code n (coded_option v) in
    code_by (Parts P V N) (coded⊎ p (coded⊎ (coded× p v) (coded⊎ (coded× p (coded× (coded_list coded_ℕ) four))
    (coded⊎ (coded× p map) (coded⊎ (coded× p map) (coded× p map))))))
    (parts_of P V N) (kind_of P V N) (kind_of-parts_of P V N)
