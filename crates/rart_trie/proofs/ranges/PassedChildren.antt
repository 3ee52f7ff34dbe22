-- Children that a walk passes, since a test holds of no key of theirs: those up to a byte, and those from a byte on.
use Rattle.std.proofs.Common.{◌≡◌, ℕ, suc, ◌≤◌, ⊎_elim, Bool, false, List, [], ◌∷◌, ◌++◌, refl, sym, ap, ap₂, ◌∙◌}
use Rattle.std.proofs.Common.{arith}
use Rattle.std.proofs.lemmas.Bool.{cases_lt}
use Rattle.std.proofs.lemmas.List.Elements.{filter-append}
use Rattle.rart_parts.specs.Entries.{entries_above}
use Rattle.rart_trie.specs.tries.Trie.{Trie, pairs_of, children_pairs, AreCanonical, StartsWith, prefix_of}
use Rattle.rart_trie.specs.tries.TrieCode.{as_children}
use Rattle.rart_trie.proofs.changes.ValueChangeLemmas.{agree-first, pairs_where, where-agree, where-none}
use Rattle.rart_trie.proofs.storages.ChildLemmas.{lt-no}
use Rattle.rart_trie.proofs.storages.EntryPlaces.{above-all}
use Rattle.rart_trie.proofs.tries.FirstBytes.{AllFirst, pairs_of-first}

-- a test holds of no key that begins with a byte up to d
abbrev pub NoneUpTo : (List ℕ → Bool) → ℕ → Type 0
NoneUpTo t d = (c : ℕ) → c ≤ d → (k : List ℕ) → StartsWith c k → t k ≡ false

-- or with a byte from d on
abbrev pub NoneFrom : (List ℕ → Bool) → ℕ → Type 0
NoneFrom t d = (c : ℕ) → d ≤ c → (k : List ℕ) → StartsWith c k → t k ≡ false

module _ {V : Type 0} where
  pub none-first : (t : List ℕ → Bool) (c : ℕ) (es : List (List ℕ × V))
      → ((k : List ℕ) → StartsWith c k → t k ≡ false) → AllFirst c es → pairs_where t es ≡ []
  none-first t c es h f = where-agree t (λ k. false) es (agree-first c t (λ k. false) es h f) ∙ where-none es

  -- the children from a byte on
  pub later-children : (t : List ℕ → Bool) (c low : ℕ) (es : List (ℕ × Trie V)) → c ≤ low
      → AreCanonical low (as_children es) → NoneFrom t c → pairs_where t (children_pairs (as_children es)) ≡ []
  later-children t c low [] l w n = refl
  later-children t c low (e ∷ es) l w n = filter-append (λ x. t x.0) (pairs_of e.1) (children_pairs (as_children es))
      ∙ ap₂ (λ xs ys. xs ++ ys)
      (none-first t e.0 (pairs_of e.1) (n e.0 (omega (arith, l, w.0))) (pairs_of-first e.0 e.1 w.1))
      (later-children t c (suc e.0) es (omega (arith, l, w.0)) w.3 n)

  -- the children up to a byte
  pub record Skipped (t : List ℕ → Bool) (d : ℕ) (es : List (ℕ × Trie V)) : Type 0 where
    pub done : List (ℕ × Trie V)
    pub whole : es ≡ done ++ entries_above d es
    pub none : pairs_where t (children_pairs (as_children done)) ≡ []

  skipped-none : (t : List ℕ → Bool) (d : ℕ) (es : List (ℕ × Trie V)) → entries_above d es ≡ es → Skipped t d es
  skipped-none t d es e = record { done = []; whole = sym e; none = refl }

  skipped-one : (t : List ℕ → Bool) (d : ℕ) (e : ℕ × Trie V) (es : List (ℕ × Trie V)) → e.0 ≤ d
      → StartsWith e.0 (prefix_of e.1) → NoneUpTo t d → Skipped t d es → Skipped t d (e ∷ es)
  skipped-one t d e es l s h w = record {
    done = e ∷ w.done;
    whole = rw (lt-no d e.0 l) (ap (λ z. e ∷ z) w.whole);
    none = filter-append (λ x. t x.0) (pairs_of e.1) (children_pairs (as_children w.done))
        ∙ ap₂ (λ xs ys. xs ++ ys) (none-first t e.0 (pairs_of e.1) (h e.0 l) (pairs_of-first e.0 e.1 s)) w.none;
  }

  pub skipped : (t : List ℕ → Bool) (d low : ℕ) (es : List (ℕ × Trie V)) → AreCanonical low (as_children es)
      → NoneUpTo t d → Skipped t d es
  skipped t d low [] w h = skipped-none t d [] refl
  skipped t d low (e ∷ es) w h = ⊎_elim
      (λ l. skipped-none t d (e ∷ es) (above-all d e.0 (e ∷ es) l (omega arith, w.1, w.2, w.3)))
      (λ l. skipped-one t d e es l w.1 h (skipped t d (suc e.0) es w.3 h)) (cases_lt d e.0)
