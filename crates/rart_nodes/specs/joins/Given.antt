-- What becomes of a caller's state as an intersection gives it pairs, by what is kept of the path.
use Rattle.std.specs.Prelude.{ℕ, ◌≡◌, ◌+◌, ◌-◌, ◌^◌, ◌≤◌, ◌<◌, true, min, List, [], ◌∷◌, ◌++◌, length, vec_capacity}
use Rattle.std.specs.Prelude.{Option, Result, Ok, Err}
use Rattle.std.specs.Borrow.{Bor}
use Rattle.std.specs.Global.{Vec}
use Rattle.std.specs.List.{FoldsTo}
use Rattle.rart_keys.specs.KeyBytes.{IsWithin}
use Rattle.rart_keys.specs.SortedMap.{values_of}
use Rattle.rart_nodes.specs.declared.node.intersect.join_path.JoinPath.TheVariants.{Nothing, Bytes, Segments}
use Rattle.rart_nodes.specs.declared.node.control.VisitControl.{VisitControl}
use Rattle.rart_nodes.specs.joins.JoinPaths.{Kept, PathReserved, PathGrown}
use Rattle.rart_nodes.specs.joins.TriedPairs.{TriesEach}
use Rattle.rart_trie.specs.tries.Trie.{with_prefix}
use Rattle.rart_trie.specs.walks.Walk.{joined_bytes}
use Rattle.rart_nodes.specs.walks.PathParts.{lent_segments}
use Rattle.rart_nodes.specs.walks.ViewSegments.{all_have_bytes}

-- `given s f es r g`: given the pairs es after the path s, f became g; an `Err` ended the walk among them.
-- `reserved s n`: s can grow by n bytes
pub record AreVisitors {F X B : Type 0} (reserved : Kept → ℕ → Type 0) (given : Kept → F → List (List ℕ × X)
    → Result (Unit {0}) B → F → Type 0) : Type 0 where
  pub holds : (s : Kept) (n : ℕ) → reserved s n → PathReserved s n
  pub keeps_reserved : (s t : Kept) (p : List ℕ) (m n : ℕ) → PathGrown s p t → reserved s m → length p + n ≤ m
      → reserved t n
  pub gives_none : (s : Kept) (f : F) → given s f [] (Ok tt) f
  pub gives_more : (s : Kept) (f g h : F) (xs ys : List (List ℕ × X)) (r : Result (Unit {0}) B)
      → given s f xs (Ok tt) g → given s g ys r h → given s f (xs ++ ys) r h
  pub gives_end : (s : Kept) (f g : F) (xs ys : List (List ℕ × X)) (b : B) → given s f xs (Err b) g
      → given s f (xs ++ ys) (Err b) g
  pub gives_after : (s t : Kept) (p : List ℕ) (f g : F) (es : List (List ℕ × X)) (r : Result (Unit {0}) B)
      → PathGrown s p t → given t f es r g → given s f (with_prefix p es) r g

-- `can s f x`: after the path s, f may be given x. It is so after more of the path with less of the key
abbrev pub CanDeeper : {F X : Type 0} → (Kept → F → List ℕ × X → Type 0) → Type 0
CanDeeper {F} {X} can = (s t : Kept) (p : List ℕ) (f : F) (x : List ℕ × X) → PathGrown s p t → can s f (p ++ x.0, x.1)
    → can t f x

-- after the path s, f may be given each of the pairs es, as those before it leave f
pub record CanGive {F X B : Type 0} (can : Kept → F → List ℕ × X → Type 0) (given : Kept → F → List (List ℕ × X)
    → Result (Unit {0}) B → F → Type 0) (s : Kept) (f : F) (es : List (List ℕ × X)) : Type 0 where
  pub at : (before : List (List ℕ × X)) (x : List ℕ × X) (after : List (List ℕ × X)) (g : F) → es ≡ before ++ x ∷ after
      → given s f before (Ok tt) g → can s g x

-- of a visitor that ends no walk
abbrev pub Throughout : {F X B : Type 0} → (Kept → F → List (List ℕ × X) → F → Type 0) → Kept → F
    → List (List ℕ × X) → Result (Unit {0}) B → F → Type 0
Throughout given s f es r g = (r ≡ Ok tt) × given s f es g

-- the most that a count can be, at which it stops
abbrev pub most_count : ℕ
most_count = 2 ^ 64 - 1

-- one more, or the most
abbrev pub CountedOn : {X : Type 0} → ℕ → X → ℕ → Type 0
CountedOn n x m = m ≡ min (n + 1) most_count

-- pairs given by their values
abbrev pub GivenValues : {F X : Type 0} → (F → X → F → Type 0) → Kept → F → List (List ℕ × X) → F → Type 0
GivenValues r s f es g = FoldsTo r f (values_of es) g

abbrev pub CanGiveValues : {F X : Type 0} → (F → X → Type 0) → Kept → F → List ℕ × X → Type 0
CanGiveValues q s f x = q f x.1

-- pairs given with their keys, from the bytes of the path
pub record KeyReserved (most : Option ℕ) (k : Vec ℕ) (n : ℕ) : Type 0 where
  pub place : length k.items + n ≤ vec_capacity k
  pub within : IsWithin most (length k.items + n)

abbrev pub KeysReserved : Option ℕ → Kept → ℕ → Type 0
KeysReserved most Nothing n = ⊥
KeysReserved most (Bytes k) n = KeyReserved most k n
KeysReserved most (Segments k) n = ⊥

abbrev pub GivenKeys : {F X : Type 0} → (F → List ℕ × X → F → Type 0) → Kept → F → List (List ℕ × X) → F → Type 0
GivenKeys r Nothing f es g = Unit {0}
GivenKeys r (Bytes k) f es g = FoldsTo r f (with_prefix k.items es) g
GivenKeys r (Segments k) f es g = Unit {0}

-- pairs given with their keys until one ends the walk
abbrev pub GivenTried : {F X E : Type 0} → (F → List ℕ × X → Result VisitControl E → F → Type 0) → Kept → F
    → List (List ℕ × X) → Result (Unit {0}) (Result (Unit {0}) E) → F → Type 0
GivenTried R Nothing f es r g = Unit {0}
GivenTried R (Bytes k) f es r g = TriesEach R f (with_prefix k.items es) r g
GivenTried R (Segments k) f es r g = Unit {0}

-- a walk that its first pair ends
abbrev pub GivenFirst : {F X : Type 0} → Kept → F → List (List ℕ × X) → Result (Unit {0}) (Unit {0}) → F → Type 0
GivenFirst s f [] r g = (r ≡ Ok tt) × (f ≡ g)
GivenFirst s f (e ∷ es) r g = (r ≡ Err tt) × (f ≡ g)

abbrev pub CanGiveKeys : {F X : Type 0} → (F → List ℕ × X → Type 0) → Kept → F → List ℕ × X → Type 0
CanGiveKeys q Nothing f x = Unit {0}
CanGiveKeys q (Bytes k) f x = q f (k.items ++ x.0, x.1)
CanGiveKeys q (Segments k) f x = Unit {0}

-- pairs given with views of their keys, from the segments of the path
pub record ViewReserved (k : Vec (Bor (List ℕ))) (n : ℕ) : Type 0 where
  pub place : length k.items + n ≤ vec_capacity k
  pub fits : length (joined_bytes (lent_segments k.items)) + n < 2 ^ 64
  pub full : all_have_bytes (lent_segments k.items) ≡ true

abbrev pub ViewsReserved : Kept → ℕ → Type 0
ViewsReserved Nothing n = ⊥
ViewsReserved (Bytes k) n = ⊥
ViewsReserved (Segments k) n = ViewReserved k n

abbrev pub GivenViews : {F X : Type 0} → (F → List ℕ × X → F → Type 0) → Kept → F → List (List ℕ × X) → F → Type 0
GivenViews r Nothing f es g = Unit {0}
GivenViews r (Bytes k) f es g = Unit {0}
GivenViews r (Segments k) f es g = FoldsTo r f (with_prefix (joined_bytes (lent_segments k.items)) es) g

abbrev pub CanGiveViews : {F X : Type 0} → (F → List ℕ × X → Type 0) → Kept → F → List ℕ × X → Type 0
CanGiveViews q Nothing f x = Unit {0}
CanGiveViews q (Bytes k) f x = Unit {0}
CanGiveViews q (Segments k) f x = q f (joined_bytes (lent_segments k.items) ++ x.0, x.1)
