-- Two strings after the bytes with which both begin.
use Rattle.std.proofs.Common.{◌≡◌, ℕ, ◌+◌, ◌-◌, ◌≤◌, List, [], ◌∷◌, ◌++◌, length, length-append, take, drop, arith, sym}
use Rattle.std.proofs.Common.{ap, ◌∙◌}
use Rattle.std.proofs.lemmas.List.{append_assoc, take-append-drop, length-take-le}
use Rattle.std.proofs.Math.Seq.{take-append_seam}
use Rattle.rart_keys.specs.CommonPrefix.{IsCommonPrefixLength}
use Rattle.rart_nodes.specs.joins.SharedChildren.{IsParted}
use Rattle.rart_trie.proofs.tries.PrefixedStrings.{slice_from-is}

-- one byte more is taken
take-more : (l w k : List ℕ) (x n : ℕ) → l ≡ w ++ x ∷ k → length w ≡ n → take (n + 1) l ≡ w ++ x ∷ []
take-more l w k x n e f =
    let whole : l ≡ (w ++ x ∷ []) ++ k = e ∙ sym (append_assoc w (x ∷ []) k) in
    let many : n + 1 ≡ length (w ++ x ∷ []) = omega (arith, length-append w (x ∷ [])) in
    ap (λ i. take i l) many ∙ ap (λ z. take (length (w ++ x ∷ [])) z) whole ∙ take-append_seam (w ++ x ∷ []) k

pub parted : (l r : List ℕ) (m : ℕ) → IsCommonPrefixLength l r m
    → IsParted l r (take m l) (take (length l - m) (drop m l)) (take (length r - m) (drop m r))
parted l r m h = rw (slice_from-is l m, slice_from-is r m) (record {
  left_is = left;
  right_is = right;
  apart = λ x y k q i j s.
      let on_left : l ≡ take m l ++ x ∷ k = left ∙ ap (λ z. take m l ++ z) i in
      let on_right : r ≡ take m l ++ y ∷ q = right ∙ ap (λ z. take m l ++ z) j in
      let long : length (take m l) ≡ m = length-take-le m l h.within_left in
      let same : take (m + 1) l ≡ take (m + 1) r = take-more l (take m l) k x m on_left long
      ∙ ap (λ z. take m l ++ z ∷ []) s ∙ sym (take-more r (take m l) q y m on_right long) in
      let more : m + 1 ≤ m = h.greatest (m + 1) (omega (arith, ap length on_left, length-append (take m l) (x ∷ k)))
      (omega (arith, ap length on_right, length-append (take m l) (y ∷ q))) same in
      absurd (omega (arith, more));
})
  where
    left : l ≡ take m l ++ drop m l
    left = sym (take-append-drop m l)

    right : r ≡ take m l ++ drop m r
    right = rw h.same (sym (take-append-drop m r))
