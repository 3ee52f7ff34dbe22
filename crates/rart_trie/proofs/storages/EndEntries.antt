-- The first and the last of entries that ascend by byte.
use Rattle.std.proofs.Common.{◌≡◌, ℕ, ◌<◌, ◌≤◌, ⊎_elim, List, [], ◌∷◌, Option, Some, None, refl, sym, ap, ◌∙◌, arith}
use Rattle.std.proofs.Common.{false, is_some}
use Rattle.std.proofs.lemmas.Bool.{cases_lt}
use Rattle.std.specs.Prelude.{slice_get}
use Rattle.rart_keys.specs.Filters.{last_or}
use Rattle.rart_keys.proofs.strings.ByteOrder.{equal_or_not}
use Rattle.rart_parts.specs.Entries.{BytesAscend, IsLastUnder, child_at}
use Rattle.rart_parts.proofs.entries.EntryLemmas.{at_same, at_other, first_absent}
use Rattle.rart_trie.specs.declared.node.ends.End.TheVariants.{First}
use Rattle.rart_trie.specs.tries.Ends.{end_child, first_child, last_child}
use Rattle.rart_trie.specs.tries.Trie.{Trie, node}
use Rattle.rart_trie.specs.tries.TrieCode.{as_children}

module _ {X : Type 0} where
  -- the entry above which there is none is the last
  last-greatest : (b : ℕ) (x : X) (es : List (ℕ × X)) → BytesAscend es → child_at b es ≡ Some x
      → ((c : ℕ) → b < c → child_at c es ≡ None) → last_or None es ≡ Some (b, x)
  last-greatest b x [] w h n = absurd (cc)
  last-greatest b x (e ∷ []) w h n = ⊎_elim
      (λ s. let same : e.1 ≡ x = let q = sym (at_same b e [] s) ∙ h in cc in
      ap (λ z. Some (z, e.1)) s ∙ ap (λ z. Some (b, z)) same)
      (λ d. let q = sym (at_other b e [] d) ∙ h in absurd (cc)) (equal_or_not e.0 b)
  last-greatest b x (e ∷ d ∷ es) w h n = ⊎_elim
      (λ s. let q = n d.0 (omega (arith, w.0)) in
      let r = sym (at_other d.0 e (d ∷ es) (λ z. omega (arith, w.0))) ∙ q in
      let f = sym (at_same d.0 d es refl) ∙ r in absurd (cc))
      (λ s. last-greatest b x (d ∷ es) w.1 (sym (at_other b e (d ∷ es) s) ∙ h)
      (λ c l. let q = n c l in sym (at_other c e (d ∷ es) (first_absent c e (d ∷ es) q)) ∙ q))
      (equal_or_not e.0 b)

  last-none : (es : List (ℕ × X)) → ((c : ℕ) → child_at c es ≡ None) → last_or None es ≡ None
  last-none [] n = refl
  last-none (e ∷ es) n = let q = sym (at_same e.0 e es refl) ∙ n e.0 in absurd (cc)

  -- the last of all bytes
  pub last-entry : (es : List (ℕ × X)) (answer : Option (ℕ × X)) → BytesAscend es
      → ((b : ℕ) → 256 ≤ b → child_at b es ≡ None) → IsLastUnder 256 es answer → answer ≡ last_or None es
  last-entry es None w past h = sym (last-none es (λ b. ⊎_elim (h b) (past b) (cases_lt b 256)))
  last-entry es (Some e) w past h = sym (last-greatest e.0 e.1 es w h.1
      (λ b l. ⊎_elim (h.2 b l) (past b) (cases_lt b 256)))

module _ {V : Type 0} where
  -- entries as a trie's children
  first_child-entries : (es : List (ℕ × Trie V)) → first_child (as_children es) ≡ slice_get es 0
  first_child-entries [] = refl
  first_child-entries (e ∷ es) = refl

  pub last_child-entries : (es : List (ℕ × Trie V)) → last_child (as_children es) ≡ last_or None es
  last_child-entries [] = refl
  last_child-entries (e ∷ []) = refl
  last_child-entries (e ∷ d ∷ es) = last_child-entries (d ∷ es)

  pub first-below : (p : List ℕ) (v : Option V) (n : ℕ) (es : List (ℕ × Trie V)) → is_some v ≡ false
      → end_child First (node p v n (as_children es)) ≡ slice_get es 0
  first-below p None n es h = first_child-entries es
  first-below p (Some v) n es h = absurd (cc)
