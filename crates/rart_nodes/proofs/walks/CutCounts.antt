-- A key is cut into no more segments than it has bytes.
use Rattle.std.proofs.Common.{ℕ, ◌+◌, ◌≤◌, suc, Bool, true, false, List, [], ◌∷◌, ◌++◌, length, arith, Option}
use Rattle.std.proofs.Common.{if◌then◌else◌, is_some}
use Rattle.std.proofs.lemmas.List.{length-append}
use Rattle.rart_trie.specs.shapes.Shape.{NodeRecord, record_at}
use Rattle.rart_trie.specs.walks.Cut.{cut, cut_by, with_segment}
use Rattle.rart_trie.specs.walks.Walk.{SegmentList, KeepsEach}
use Rattle.rart_nodes.specs.walks.PathParts.{one_segment}

segment-few : (p : List ℕ) (ps : SegmentList) → length (with_segment p ps) ≤ length p + length ps
segment-few [] ps = omega arith
segment-few (b ∷ p) ps = omega arith

either-few : (t : Bool) (n : ℕ) (xs ys : SegmentList) → length xs ≤ n → length ys ≤ n
    → length (if t then xs else ys) ≤ n
either-few true n xs ys p q = p
either-few false n xs ys p q = q

cut_by-few : (f : List ℕ → Option NodeRecord) (p k : List ℕ) → length (cut_by f p k) ≤ length p + length k
cut_by-few f p [] = segment-few p []
cut_by-few f p (b ∷ k) =
    let f' : List ℕ → Option NodeRecord = λ z. f (b ∷ z) in
    let one = segment-few p (cut_by f' (b ∷ []) k) in
    let after = cut_by-few f' (b ∷ []) k in
    let more = cut_by-few f' (p ++ b ∷ []) k in
    either-few (is_some (f [])) (length p + suc (length k)) (with_segment p (cut_by f' (b ∷ []) k))
    (cut_by f' (p ++ b ∷ []) k) (omega (arith, one, after)) (omega (arith, more, length-append p (b ∷ [])))

pub cut-few : (s : List (List ℕ)) (k : List ℕ) → length (cut s k) ≤ length k
cut-few s k = let few = cut_by-few (record_at s) [] k in omega (arith, few)

pub keeps_each-one : KeepsEach one_segment
keeps_each-one b p = omega arith
