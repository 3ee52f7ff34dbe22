-- A line that is printed piece by piece.
use Rattle.std.proofs.Common.{◌≡◌, ℕ, List, [], ◌∷◌, ◌++◌, Option, refl, sym, ap, subst, ◌∙◌, append_assoc}
use Rattle.std.specs.Prelude.{map}
use Rattle.std.specs.Io.KnownBytes.{Appends}
use Rattle.std.specs.List.{concat, join_with_byte}
use Rattle.rart_trie.specs.stats.Stats.{KeyStats}
use Rattle.rart_trie.specs.declared.stats.NodeStats.{NodeStats}
use Rattle.rart_script.specs.Answers.{pair_word, pairs_line}
use Rattle.rart_script.specs.Stats.{width_word, sums_text, stats_line}
use Rattle.rart_lines.proofs.PrintLemmas.{HasPrinted, print-begins, print-continues, print-ends}

-- further pairs, each after a space, and the newline
abbrev pub further_pairs : List (List ℕ × ℕ) → List ℕ
further_pairs [] = 10 ∷ []
further_pairs (pair ∷ pairs) = 32 ∷ pair_word pair ++ further_pairs pairs

first_pair : (pair : List ℕ × ℕ) (pairs : List (List ℕ × ℕ)) → pair_word pair ++ further_pairs pairs
    ≡ join_with_byte 32 (map pair_word (pair ∷ pairs)) ++ 10 ∷ []
first_pair pair [] = refl
first_pair pair (next ∷ pairs) = ap (λ l. pair_word pair ++ 32 ∷ l) (first_pair next pairs)
    ∙ sym (append_assoc (pair_word pair) (32 ∷ join_with_byte 32 (map pair_word (next ∷ pairs))) (10 ∷ []))

-- the first pair is printed
pub pairs-begin : {a b : Option (List ℕ)} {key bytes : List ℕ} {value : ℕ} {all rest left : List (List ℕ × ℕ)}
    → all ≡ (bytes, value) ∷ rest → left ≡ rest → key ≡ bytes → Appends a b (pair_word (key, value))
    → HasPrinted a b (further_pairs left) (pairs_line all)
pairs-begin {a} {b} {key} {value} {all} {rest} is from here h =
    let whole : all ≡ (key, value) ∷ rest = is ∙ ap (λ k. (k, value) ∷ rest) (sym here) in
    rw (whole, from) (print-begins a b (pair_word (key, value)) (further_pairs rest) _ h (first_pair (key, value) rest))

-- a space and the next pair are printed
pub pairs-next : (c : Option (List ℕ)) {a b d : Option (List ℕ)} {key bytes : List ℕ} {value : ℕ}
    {left rest : List (List ℕ × ℕ)} {whole : List ℕ} → left ≡ (bytes, value) ∷ rest → key ≡ bytes
    → HasPrinted a b (further_pairs left) whole → Appends b c (32 ∷ []) → Appends c d (pair_word (key, value))
    → HasPrinted a d (further_pairs rest) whole
pairs-next c {a} {b} {d} {key} {value} {rest} {whole} is here h space more =
    let before : HasPrinted a b (32 ∷ pair_word (key, value) ++ further_pairs rest) whole
    = subst (λ l. HasPrinted a b (further_pairs l) whole) (is ∙ ap (λ k. (k, value) ∷ rest) (sym here)) h in
    print-continues a c d (pair_word (key, value)) (further_pairs rest) whole
    (print-continues a b c (32 ∷ []) _ whole before space) more

-- the newline is printed
pub pairs-end : (a b c : Option (List ℕ)) (left : List (List ℕ × ℕ)) (whole : List ℕ) → left ≡ []
    → HasPrinted a b (further_pairs left) whole → Appends b c (10 ∷ []) → Appends a c whole
pairs-end a b c left whole is h more = print-ends a b c (10 ∷ []) whole
    (subst (λ l. HasPrinted a b (further_pairs l) whole) is h) more

-- the nodes of further widths, and the newline
abbrev pub further_widths : List (ℕ × NodeStats) → List ℕ
further_widths widths = concat (map width_word widths) ++ 10 ∷ []

-- the sums are printed
pub widths-begin : (a b : Option (List ℕ)) (s : KeyStats) (left : List (ℕ × NodeStats)) → left ≡ s.widths
    → Appends a b (sums_text s) → HasPrinted a b (further_widths left) (stats_line s)
widths-begin a b s left is h = rw is (print-begins a b (sums_text s) (further_widths s.widths) _ h
    (sym (append_assoc (sums_text s) (concat (map width_word s.widths)) (10 ∷ []))))

-- the nodes of the next width are printed
pub widths-next : (a b c : Option (List ℕ)) (width : ℕ × NodeStats) (left rest : List (ℕ × NodeStats)) (whole : List ℕ)
    → left ≡ width ∷ rest → HasPrinted a b (further_widths left) whole → Appends b c (width_word width)
    → HasPrinted a c (further_widths rest) whole
widths-next a b c width left rest whole is h more =
    let whole_left : further_widths left ≡ width_word width ++ further_widths rest
    = rw is (append_assoc (width_word width) (concat (map width_word rest)) (10 ∷ [])) in
    print-continues a b c (width_word width) (further_widths rest) whole
    (subst (λ l. HasPrinted a b l whole) whole_left h) more

-- the newline is printed
pub widths-end : (a b c : Option (List ℕ)) (left : List (ℕ × NodeStats)) (whole : List ℕ) → left ≡ []
    → HasPrinted a b (further_widths left) whole → Appends b c (10 ∷ []) → Appends a c whole
widths-end a b c left whole is h more = print-ends a b c (10 ∷ []) whole
    (subst (λ l. HasPrinted a b (further_widths l) whole) is h) more
