-- What it takes to write two byte strings at the front of an array of zeros, or at its end.
use Rattle.std.proofs.Common.{◌≡◌, ℕ, ◌+◌, ◌-◌, ◌≤◌, List, [], ◌++◌, length, take, drop, replicate, refl, sym, ap, ap₂}
use Rattle.std.proofs.Common.{◌∙◌, arith}
use Rattle.std.proofs.Math.Seq.{take-append_seam, drop-append_seam}
use Rattle.std.proofs.lemmas.List.{append-nil, append_assoc, drop-drop, drop-replicate, drop_all, length-replicate}
use Rattle.std.proofs.lemmas.List.{take-replicate}
use Rattle.std.proofs.lemmas.Slice.{take-put_mid}
use borrow.Rule.Slice.PartMut.{put_mid}

-- writing xs at the front of zeros, and then ys after it, gives both and the zeros that are left
pub two_parts-zeros : (size : ℕ) (xs ys us vs : List ℕ) → us ≡ xs → vs ≡ ys → length xs + length ys ≤ size
    → put_mid (length xs) (length xs + length ys - length xs) (us ++ drop (length xs) (replicate size 0)) vs
    ≡ xs ++ ys ++ replicate (size - (length xs + length ys)) 0
two_parts-zeros size xs ys us vs e f h =
    let a = length xs in
    let b = length ys in
    let k : a + b - a ≡ b = omega arith in
    let r : size - a - b ≡ size - (a + b) = omega arith in
    rw (e, f, k, take-append_seam, drop-append_seam, drop-replicate, drop-replicate, r, append_assoc) refl

-- writing xs after s of the zeros, and then ys after it up to the end, leaves s zeros before both
pub zeros-two_parts : (size s : ℕ) (xs ys us vs : List ℕ) → us ≡ xs → vs ≡ ys → s + (length xs + length ys) ≡ size
    → (let inner = put_mid s (s + length xs - s) (replicate size 0) us in
    put_mid (s + length xs) (length inner - (s + length xs)) inner vs) ≡ replicate s 0 ++ xs ++ ys
zeros-two_parts size s xs ys us vs e f h =
    let zs : List ℕ = replicate size 0 in
    let enough : s ≤ size = omega arith in
    let inner = put_mid s (s + length xs - s) zs us in
    let front : take (s + length xs) inner ≡ replicate s 0 ++ xs =
    take-put_mid s (s + length xs - s) zs us (s + length xs) (ap (λ l. s + length l) (sym e))
    (omega (arith, length-replicate {A = ℕ} size 0)) ∙ rw (e, take-replicate) refl in
    let nothing_after : drop (length inner - (s + length xs)) (drop (s + length xs) inner) ≡ [] =
    drop-drop (length inner - (s + length xs)) (s + length xs) inner ∙ drop_all _ inner (omega arith) in
    ap₂ (λ a b. a ++ (vs ++ b)) front nothing_after ∙ ap (λ b. (replicate s 0 ++ xs) ++ b) (append-nil vs ∙ f)
