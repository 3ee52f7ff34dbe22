-- Laws of segments, joined. They are here, not in proofs/, since ghost fields name terms that rest on them.
use Rattle.std.specs.Prelude.{◌≡◌, ◌≤◌, true, [], ◌∷◌, ◌++◌, length}
use Rattle.std.proofs.Common.{refl, arith, sym, ap, ◌∙◌, length-append}
use Rattle.std.proofs.lemmas.List.{append_assoc}
use Rattle.rart_trie.specs.walks.Walk.{SegmentList, joined_bytes}
use Rattle.rart_nodes.specs.walks.ViewSegments.{all_have_bytes}

pub joined-append : (xs ys : SegmentList) → joined_bytes (xs ++ ys) ≡ joined_bytes xs ++ joined_bytes ys
joined-append [] ys = refl
joined-append (x ∷ xs) ys = ap (λ z. x ++ z) (joined-append xs ys) ∙ sym
    (append_assoc x (joined_bytes xs) (joined_bytes ys))

pub full-append : (xs ys : SegmentList) → all_have_bytes xs ≡ true → all_have_bytes ys ≡ true
    → all_have_bytes (xs ++ ys) ≡ true
full-append [] ys h k = k
full-append ([] ∷ xs) ys h k = absurd (cc h)
full-append ((b ∷ x) ∷ xs) ys h k = full-append xs ys h k

-- no more segments than bytes
pub many-joined : (xs : SegmentList) → all_have_bytes xs ≡ true → length xs ≤ length (joined_bytes xs)
many-joined [] h = omega arith
many-joined ([] ∷ xs) h = absurd (cc h)
many-joined ((b ∷ x) ∷ xs) h = omega (arith, many-joined xs h, length-append x (joined_bytes xs))
