-- How a line's words follow from its first word and the rest.
use Rattle.std.proofs.Common.{◌≡◌, ℕ, ◌<◌, Bool, true, false, List, [], ◌∷◌, length, take, drop, refl, ap, arith, sym}
use Rattle.std.proofs.Common.{◌∙◌, subst}
use Rattle.std.specs.Prelude.{filter}
use Rattle.std.specs.List.{slice_split}
use Rattle.std.proofs.Math.Numerals.{one-add}
use Rattle.rart_lines.specs.Words.{is_separator, is_nonempty, words_of, word_len, gap_len}

-- the parts that are not empty
abbrev nonempty : List (List ℕ) → List (List ℕ)
nonempty parts = filter is_nonempty parts

-- xs cut at its first separator: the other parts' words are those of what begins there
record IsCut (xs : List ℕ) (parts : List (List ℕ)) : Type 0 where
  pub first : slice_split is_separator xs ≡ take (word_len xs) xs ∷ parts
  pub others : nonempty parts ≡ words_of (drop (word_len xs) xs)

cut_step : (x : ℕ) (xs : List ℕ) (parts : List (List ℕ)) (b : Bool) → is_separator x ≡ b → IsCut xs parts
    → (ps : List (List ℕ)) × IsCut (x ∷ xs) ps
cut_step x xs parts true e h = (slice_split is_separator xs, record { first = simp e; others = simp e })
cut_step x xs parts false e h = (
  parts,
  record {
    first = simp (e, h.first, one-add);
    others
        = simp (e, one-add) h.others;
  },
)

cut : (xs : List ℕ) → (parts : List (List ℕ)) × IsCut xs parts
cut [] = ([], record { first = refl; others = refl })
cut (x ∷ xs) = let h = cut xs in cut_step x xs h.0 (is_separator x) refl h.1

-- rest, what begins at the first word of a line, has its words, and its first word in front where it is not empty
pub record Begins (xs rest : List ℕ) : Type 0 where
  pub none : length rest ≡ 0 → words_of xs ≡ []
  pub some : 0 < length rest → words_of xs ≡ take (word_len rest) rest ∷ words_of (drop (word_len rest) rest)

keep_first : (first : List ℕ) (others : List (List ℕ)) (words : List (List ℕ)) → 0 < length first
    → nonempty others ≡ words → nonempty (first ∷ others) ≡ first ∷ words
keep_first [] others words l e = absurd (omega arith)
keep_first (y ∷ ys) others words l e = ap (λ ws. (y ∷ ys) ∷ ws) e

begins_word : (x : ℕ) (xs : List ℕ) → is_separator x ≡ false → (parts : List (List ℕ)) → IsCut (x ∷ xs) parts
    → words_of (x ∷ xs) ≡ take (word_len (x ∷ xs)) (x ∷ xs) ∷ words_of (drop (word_len (x ∷ xs)) (x ∷ xs))
begins_word x xs e parts h = ap nonempty h.first ∙ keep_first _ parts _ (simp (e, one-add) (omega arith)) h.others

begins_step : (x : ℕ) (xs : List ℕ) (b : Bool) → is_separator x ≡ b → Begins xs (drop (gap_len xs) xs)
    → Begins (x ∷ xs) (drop (gap_len (x ∷ xs)) (x ∷ xs))
begins_step x xs true e h =
    let same : words_of (x ∷ xs) ≡ words_of xs = simp e in
    let dropped : drop (gap_len (x ∷ xs)) (x ∷ xs) ≡ drop (gap_len xs) xs = simp (e, one-add) in
    subst (Begins (x ∷ xs)) (sym dropped) (record { none = λ l. same ∙ h.none l; some = λ l. same ∙ h.some l })
begins_step x xs false e h =
    let dropped : drop (gap_len (x ∷ xs)) (x ∷ xs) ≡ x ∷ xs = simp e in
    let parts = cut (x ∷ xs) in
    subst (Begins (x ∷ xs)) (sym dropped) (record {
      none = λ l. absurd (omega arith);
      some
          = λ l. begins_word x xs e parts.0 parts.1;
    })

pub begins : (xs : List ℕ) → Begins xs (drop (gap_len xs) xs)
begins [] = record { none = λ e. refl; some = λ l. absurd (omega arith) }
begins (x ∷ xs) = begins_step x xs (is_separator x) refl (begins xs)
