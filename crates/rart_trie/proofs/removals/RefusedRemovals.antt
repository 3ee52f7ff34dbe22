-- A removal that was refused below a node requests memory after the node is settled.
use Rattle.std.proofs.Common.{◌≡◌, ◌≢◌, ℕ, ⊎_elim, true, false, List, [], ◌∷◌, ◌++◌, length, refl, sym}
use Rattle.std.proofs.Common.{ap, ◌∙◌, arith, Option, Some, None, ◌==◌, if◌then◌else◌}
use Rattle.rart_keys.specs.ByteStrings.{strip_prefix}
use Rattle.rart_keys.proofs.strings.ByteOrder.{eq-yes}
use Rattle.rart_parts.specs.Entries.{child_at}
use Rattle.rart_trie.specs.edits.Deletion.{merged_if_needed}
use Rattle.rart_trie.specs.edits.RemoveAllocations.{trie_remove_allocates}
use Rattle.rart_trie.specs.edits.Retentions.{Fate}
use Rattle.rart_trie.specs.shapes.Shape.{capacity_of}
use Rattle.rart_trie.specs.tries.Trie.{Trie, node, Children, no_children, AreCanonical, IsCanonical, children_in}
use Rattle.rart_trie.specs.tries.TrieCode.{as_children}
use Rattle.rart_trie.proofs.retentions.RetainJoins.{joined-canonical}
use Rattle.rart_trie.proofs.retentions.RetainWalkLemmas.{RefusesAmong}
use Rattle.rart_trie.proofs.removals.PopLemmas.{inner-stays}
use Rattle.rart_trie.proofs.removals.RemoveAllocationSteps.{remove_allocation-below, remove_allocation-leaf}
use Rattle.rart_trie.proofs.storages.ChildLemmas.{edges_of-length}
use Rattle.rart_trie.proofs.tries.EndLemmas.{strip_prefix-append}
use Rattle.rart_trie.proofs.tries.RestLemmas.{Follows}

strip-both : (p q k : List ℕ) → strip_prefix (p ++ q) (p ++ k) ≡ strip_prefix q k
strip-both [] q k = refl
strip-both (x ∷ p) q k = rw (eq-yes x x refl) (strip-both p q k)

module _ {V : Type 0} where
  -- a longer prefix, and as many bytes more of the key
  longer : (p q k : List ℕ) (v : Option V) (n : ℕ) (cs : Children V)
      → trie_remove_allocates None (p ++ k) (node (p ++ q) v n cs) ≡ trie_remove_allocates None k (node q v n cs)
  longer p q k v n cs = rw (strip-both p q k) refl

  held-first : (c b : ℕ) (t u : Trie V) → Some u ≡ child_at b ((c, t) ∷ []) → u ≡ t
  held-first c b t u h = elim (c == b) as (λ z. Some u ≡ (if z then Some t else None) → u ≡ t) [
    | true ↦ λ h. cc
    | false ↦ λ h. absurd (cc)
  ] h

  -- at a node that is not merged
  module _ (p : List ℕ) (v : Option V) (n : ℕ) (es : List (ℕ × Trie V)) (old : List (List ℕ × V))
      (xs : List (V × Fate)) (c : IsCanonical (node p v n (as_children es))) (r : RefusesAmong n old xs es) where
    follows : Follows p (p ++ r.key) r.key v n r.byte r.held es
    follows = record {
      canonical = c;
      left = sym (strip_prefix-append p r.key);
      first = r.first;
      there = r.there;
    }

    refuses-here : trie_remove_allocates None (p ++ r.key) (node p v n (as_children es)) ≡ true
    refuses-here = ⊎_elim (λ w. remove_allocation-leaf follows n es w.0 refl refl w.1
        (rw (edges_of-length es) w.2))
        (λ w. remove_allocation-below follows (inner-stays r.key r.held w.0) w.1) r.why

  refuses-some : (n : ℕ) (es : List (ℕ × Trie V)) (old : List (List ℕ × V)) (xs : List (V × Fate))
      → RefusesAmong n old xs es → as_children es ≢ no_children
  refuses-some n [] old xs r = let none : Some r.held ≡ None = r.there in absurd (cc)
  refuses-some n (e ∷ es) old xs r = λ h. absurd (cc)

  pub refuses-inner : (p : List ℕ) (v : Option V) (n : ℕ) (es : List (ℕ × Trie V)) (old : List (List ℕ × V))
      (xs : List (V × Fate)) → n ≡ capacity_of (length es) → AreCanonical 0 (as_children es) → RefusesAmong n old xs es
      → children_in (merged_if_needed (node p v n (as_children es))) ≢ no_children
  refuses-inner p (Some v) n es old xs w c r = refuses-some n es old xs r
  refuses-inner p None n [] old xs w c r = refuses-some n [] old xs r
  refuses-inner p None n ((b, node q u m cs) ∷ []) old xs w c r =
      let same = held-first b r.byte (node q u m cs) r.held r.there in
      ⊎_elim (λ y. absurd (omega (arith, w, y.1))) (λ y. rw same at y.0) r.why
  refuses-inner p None n (e ∷ f ∷ es) old xs w c r = refuses-some n (e ∷ f ∷ es) old xs r

  pub refuses-joined : (p : List ℕ) (v : Option V) (n : ℕ) (es : List (ℕ × Trie V)) (old : List (List ℕ × V))
      (xs : List (V × Fate)) → n ≡ capacity_of (length es) → AreCanonical 0 (as_children es)
      → (r : RefusesAmong n old xs es)
      → trie_remove_allocates None (p ++ r.key) (merged_if_needed (node p v n (as_children es))) ≡ true
  refuses-joined p (Some v) n es old xs w c r = refuses-here p (Some v) n es old xs
      (joined-canonical p (Some v) n es w (λ z. absurd (cc)) c) r
  refuses-joined p None n [] old xs w c r = absurd (refuses-some n [] old xs r refl)
  refuses-joined p None n ((b, node q u m cs) ∷ []) old xs w c r =
      let same = held-first b r.byte (node q u m cs) r.held r.there in
      ⊎_elim (λ y. absurd (omega (arith, w, y.1)))
      (λ y. longer p q r.key u m cs ∙ ap (λ t. trie_remove_allocates None r.key t) (sym same) ∙ y.1) r.why
  refuses-joined p None n (e ∷ f ∷ es) old xs w c r = refuses-here p None n (e ∷ f ∷ es) old xs
      (joined-canonical p None n (e ∷ f ∷ es) w (λ z. omega arith) c) r
