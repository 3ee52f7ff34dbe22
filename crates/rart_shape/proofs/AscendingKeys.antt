-- Keys that ascend pair by pair ascend.
use Rattle.std.proofs.Common.{◌≡◌, ℕ, ◌+◌, ◌-◌, ◌<◌, ◌≤◌, ◌↔◌, zero, suc, true, List, [], ◌∷◌, length, drop, get_or}
use Rattle.std.proofs.Common.{refl, arith}
use Rattle.std.specs.Prelude.{IsTrue}
use Rattle.std.specs.Borrow.{Bor}
use Rattle.rart_keys.specs.ByteStrings.{IsLess}
use Rattle.rart_keys.specs.SortedMap.{IsAscending}
use Rattle.rart_keys.proofs.maps.SortedMaps.{above-trans}
use Rattle.rart_trie.specs.shapes.KeyLists.{keys_in, unit_pairs}

-- the keys from place j on ascend
abbrev pub AscendFrom : ℕ → List (Bor (List ℕ)) → Type 0
AscendFrom j ks = IsAscending (unit_pairs (keys_in (drop j ks)))

one_more : (j : ℕ) (ks : List (Bor (List ℕ))) (d : Bor (List ℕ)) → suc j < length ks
    → IsLess (get_or ks j d).now (get_or ks (suc j) d).now → AscendFrom (suc j) ks → AscendFrom j ks
one_more j [] d h b a = absurd (omega arith)
one_more zero (k ∷ []) d h b a = absurd (omega arith)
one_more zero (k ∷ l ∷ ks) d h b a = ((b, above-trans k.now l.now (unit_pairs (keys_in ks)) b a.0), a)
one_more (suc j) (k ∷ ks) d h b a = one_more j ks d (omega arith) b a

one_less : (j : ℕ) (ks : List (Bor (List ℕ))) → AscendFrom j ks → AscendFrom (suc j) ks
one_less zero [] a = tt
one_less (suc j) [] a = tt
one_less zero (k ∷ ks) a = a.1
one_less (suc j) (k ∷ ks) a = one_less j ks a

alone : (j : ℕ) (ks : List (Bor (List ℕ))) → length ks ≤ suc j → AscendFrom j ks
alone zero [] h = tt
alone (suc j) [] h = tt
alone zero (k ∷ []) h = (tt, tt)
alone zero (k ∷ l ∷ ks) h = absurd (omega arith)
alone (suc j) (k ∷ ks) h = alone j ks (omega arith)

-- at a place i after the first
pub pair-step : (i : ℕ) (ks : List (Bor (List ℕ))) (d : Bor (List ℕ)) → 1 ≤ i → i < length ks
    → IsLess (get_or ks (i - 1) d).now (get_or ks i d).now →
    AscendFrom (i - 1) ks ↔ IsAscending (unit_pairs (keys_in ks))
    → AscendFrom (i + 1 - 1) ks ↔ IsAscending (unit_pairs (keys_in ks))
pair-step zero ks d p h b e = absurd (omega arith)
pair-step (suc j) ks d p h b e =
    let m : suc j - 1 ≡ j = omega arith in let n : suc j + 1 - 1 ≡ suc j = omega arith in
    let f = rw m at e in let c = rw m at b in
    rw n ((λ a. f.0 (one_more j ks d h c a)), (λ a. one_less j ks (f.1 a)))

pub pairs-end : (i : ℕ) (ks : List (Bor (List ℕ))) → length ks ≤ i
    → AscendFrom (i - 1) ks ↔ IsAscending (unit_pairs (keys_in ks)) → IsTrue true ↔ IsAscending
    (unit_pairs (keys_in ks))
pairs-end i ks h e = ((λ t. e.0 (alone (i - 1) ks (omega arith))), λ a. refl)
