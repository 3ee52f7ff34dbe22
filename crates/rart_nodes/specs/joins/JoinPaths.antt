-- What an intersection keeps of its path, and how that grows and is cut.
use Rattle.std.specs.Prelude.{ℕ, ◌≡◌, ◌+◌, ◌≤◌, true, List, ◌++◌, length, take, vec_capacity}
use Rattle.std.specs.Borrow.{Bor}
use Rattle.std.specs.Global.{Vec}
use Rattle.rart_nodes.specs.declared.node.intersect.join_path.JoinPath.{JoinPath}
use Rattle.rart_nodes.specs.declared.node.intersect.join_path.JoinPath.TheVariants.{Nothing, Bytes, Segments}
use Rattle.rart_trie.specs.walks.Walk.{SegmentList, joined_bytes}
use Rattle.rart_nodes.specs.walks.PathParts.{lent_segments}
use Rattle.rart_nodes.specs.walks.ViewSegments.{all_have_bytes}

abbrev pub Kept : Type 0
Kept = JoinPath

-- how much is kept
abbrev pub path_mark : Kept → ℕ
path_mark Nothing = 0
path_mark (Bytes k) = length k.items
path_mark (Segments k) = length k.items

-- capacity is reserved for n bytes more
abbrev pub PathReserved : Kept → ℕ → Type 0
PathReserved Nothing n = Unit {0}
PathReserved (Bytes k) n = length k.items + n ≤ vec_capacity k
PathReserved (Segments k) n = length k.items + n ≤ vec_capacity k

-- the capacity is that of n bytes, and no more
abbrev pub HasCapacityOf : ℕ → Kept → Type 0
HasCapacityOf n Nothing = Unit {0}
HasCapacityOf n (Bytes k) = vec_capacity k ≡ n
HasCapacityOf n (Segments k) = vec_capacity k ≡ n

-- l is k followed by the bytes p
pub record BytesGrown (k : Vec ℕ) (p : List ℕ) (l : Vec ℕ) : Type 0 where
  pub bytes : l.items ≡ k.items ++ p
  pub place : vec_capacity k ≤ vec_capacity l

pub record SegmentsGrown (k : Vec (Bor (List ℕ))) (p : List ℕ) (l : Vec (Bor (List ℕ))) : Type 0 where
  pub more : SegmentList
  pub segments : lent_segments l.items ≡ lent_segments k.items ++ more
  pub bytes : joined_bytes more ≡ p
  pub full : all_have_bytes more ≡ true
  pub place : vec_capacity k ≤ vec_capacity l

abbrev pub PathGrown : Kept → List ℕ → Kept → Type 0
PathGrown Nothing p Nothing = Unit {0}
PathGrown Nothing p (Bytes l) = ⊥
PathGrown Nothing p (Segments l) = ⊥
PathGrown (Bytes k) p Nothing = ⊥
PathGrown (Bytes k) p (Bytes l) = BytesGrown k p l
PathGrown (Bytes k) p (Segments l) = ⊥
PathGrown (Segments k) p Nothing = ⊥
PathGrown (Segments k) p (Bytes l) = ⊥
PathGrown (Segments k) p (Segments l) = SegmentsGrown k p l

-- l is what k was where n was kept of it
pub record BytesCut (n : ℕ) (k l : Vec ℕ) : Type 0 where
  pub bytes : l.items ≡ take n k.items
  pub place : vec_capacity k ≤ vec_capacity l

pub record SegmentsCut (n : ℕ) (k l : Vec (Bor (List ℕ))) : Type 0 where
  pub segments : l.items ≡ take n k.items
  pub place : vec_capacity k ≤ vec_capacity l

abbrev pub PathCut : ℕ → Kept → Kept → Type 0
PathCut n Nothing Nothing = Unit {0}
PathCut n Nothing (Bytes l) = ⊥
PathCut n Nothing (Segments l) = ⊥
PathCut n (Bytes k) Nothing = ⊥
PathCut n (Bytes k) (Bytes l) = BytesCut n k l
PathCut n (Bytes k) (Segments l) = ⊥
PathCut n (Segments k) Nothing = ⊥
PathCut n (Segments k) (Bytes l) = ⊥
PathCut n (Segments k) (Segments l) = SegmentsCut n k l
