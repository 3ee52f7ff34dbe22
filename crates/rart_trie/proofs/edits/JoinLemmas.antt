-- What a deletion leaves of a node, as the code makes it.
use Rattle.std.proofs.Common.{◌≡◌, ◌≢◌, ℕ, ◌+◌, ◌≤◌, ◌&&◌, true, false, cond, eqb, List, [], ◌∷◌, length, Option, Some}
use Rattle.std.proofs.Common.{None, is_some, refl, arith, sym, ap, ◌∙◌, if◌then◌else◌}
use Rattle.rart_keys.specs.KeyBytes.{IsWithin}
use Rattle.rart_keys.proofs.strings.ByteOrder.{eq-no}
use Rattle.rart_parts.specs.Entries.{child_at}
use Rattle.rart_parts.specs.Entries as entries
use Rattle.rart_trie.specs.edits.Deletion.{JoinsWithin, children_without, needs_merge, merged_child, merged_if_needed}
use Rattle.rart_trie.specs.edits.Deletion.{remaining_node, without_child}
use Rattle.rart_trie.specs.tries.Trie.{Trie, node, Children, no_children, child, edges_of, prefix_of}
use Rattle.rart_trie.specs.tries.TrieCode.{as_children}
use Rattle.rart_trie.specs.storages.Capacities.{shrunk_capacity}
use Rattle.rart_trie.proofs.storages.ChildLemmas.{edges_of-length}
use Rattle.rart_trie.proofs.tries.Descents.{child_of-entries}

pub within-most : (m : Option ℕ) (most n : ℕ) → m ≡ Some most → IsWithin m n → n ≤ most
within-most m most n e h = rw e at h

pub most-within : (m : Option ℕ) (most n : ℕ) → m ≡ Some most → n ≤ most → IsWithin m n
most-within m most n e h = rw e h

module _ {V : Type 0} where
  pub merge-valued : (v : Option V) (cs : Children V) → is_some v ≡ true → needs_merge v cs ≡ false
  merge-valued None cs h = absurd (cc)
  merge-valued (Some v) cs h = refl

  pub merge-many : (v : Option V) (es : List (ℕ × Trie V)) → length es ≢ 1 → needs_merge v (as_children es) ≡ false
  merge-many (Some v) es h = refl
  merge-many None [] h = refl
  merge-many None (e ∷ []) h = absurd (h refl)
  merge-many None (e ∷ f ∷ es) h = refl

  pub merges : (v : Option V) (es : List (ℕ × Trie V)) → is_some v ≡ false → length es ≡ 1
      → needs_merge v (as_children es) ≡ true
  merges (Some v) es h l = absurd (cc)
  merges None [] h l = absurd (omega (arith, l))
  merges None (e ∷ []) h l = refl
  merges None (e ∷ f ∷ es) h l = absurd (omega (arith, l))

  pub joined-not : (p : List ℕ) (v : Option V) (w : ℕ) (cs : Children V) → needs_merge v cs ≡ false
      → node p v w cs ≡ merged_if_needed (node p v w cs)
  joined-not p v w cs h = rw h refl

  -- the children that are left
  as-without : (b : ℕ) (es : List (ℕ × Trie V)) → as_children (entries.without_byte b es)
      ≡ children_without b (as_children es)
  as-without b [] = refl
  as-without b (e ∷ es) = elim (eqb e.0 b) as (λ z. as_children (cond z es (e ∷ entries.without_byte b es))
      ≡ cond z (as_children es) (child e.0 e.1 (children_without b (as_children es)))) [
        | true ↦ refl
        | false ↦ ap (child e.0 e.1) (as-without b es)
      ]

  without-absent : (b : ℕ) (es : List (ℕ × Trie V)) → child_at b es ≡ None → entries.without_byte b es ≡ es
  without-absent b [] h = refl
  without-absent b (e ∷ es) h = elim (eqb e.0 b) as (λ z. cond z (Some e.1) (child_at b es) ≡ None
      → cond z es (e ∷ entries.without_byte b es) ≡ e ∷ es) [
        | true ↦ λ q. absurd (cc)
        | false ↦ λ q. ap (λ l. e ∷ l) (without-absent b es q)
      ] h

  -- the joined prefixes stay within the maximum
  pub joins-without : (m : Option ℕ) (p : List ℕ) (b : ℕ) (es : List (ℕ × Trie V)) → JoinsWithin m p (as_children es)
      → JoinsWithin m p (as_children (entries.without_byte b es))
  joins-without m p b [] h = tt
  joins-without m p b (e ∷ es) h = elim (eqb e.0 b)
      as (λ z. JoinsWithin m p (as_children (cond z es (e ∷ entries.without_byte b es)))) [
        | true ↦ h.1
        | false ↦ (h.0, joins-without m p b es h.1)
      ]

  pub joins-only : (m : Option ℕ) (p : List ℕ) (b : ℕ) (t : Trie V) (es : List (ℕ × Trie V)) → es ≡ (b, t) ∷ []
      → JoinsWithin m p (as_children es) → IsWithin m (length p + length (prefix_of t))
  joins-only m p b t es e h = (rw e at h).0

  -- without a maximum all is within it
  pub joins-unbounded : (m : Option ℕ) (p : List ℕ) (cs : Children V) → m ≡ None → JoinsWithin m p cs
  joins-unbounded m p no_children e = tt
  joins-unbounded m p (child b t cs) e = (rw e tt, joins-unbounded m p cs e)

  pub some-there : (t : Trie V) (o : Option (Trie V)) → o ≡ Some t → o ≢ None
  some-there t o e n = let h : Some t ≡ None = sym e ∙ n in absurd (cc)

  -- there was no child at the byte
  pub without-none : (p : List ℕ) (v : Option V) (w w' b : ℕ) (es es' : List (ℕ × Trie V)) → child_at b es ≡ None
      → es' ≡ entries.without_byte b es → w' ≡ w
      → node p v w' (as_children es') ≡ without_child b (node p v w (as_children es))
  without-none p v w w' b es es' n ee ew = ap (λ z. node p v z (as_children es')) ew
      ∙ ap (λ l. node p v w (as_children l)) (ee ∙ without-absent b es n)
      ∙ sym (ap (λ o. if is_some o then remaining_node p v w (children_without b (as_children es))
      else node p v w (as_children es)) (child_of-entries b es ∙ n))

  pub without-some : (p : List ℕ) (v : Option V) (w b : ℕ) (es : List (ℕ × Trie V)) → child_at b es ≢ None
      → without_child b (node p v w (as_children es)) ≡ remaining_node p v w (as_children (entries.without_byte b es))
  without-some p v w b es s = elim (child_at b es) as (λ o. child_at b es ≡ o
      → without_child b (node p v w (as_children es))
      ≡ remaining_node p v w (as_children (entries.without_byte b es))) [
        | None ↦ λ q. absurd (s q)
        | Some t ↦ λ q. rw (child_of-entries b es, q, as-without b es) refl
      ] refl

  same-narrowed : (p : List ℕ) (v : Option V) (w w' : ℕ) (es : List (ℕ × Trie V)) → w' ≡ shrunk_capacity (length es) w
      → node p v w' (as_children es) ≡ node p v (shrunk_capacity (length (edges_of (as_children es))) w)
      (as_children es)
  same-narrowed p v w w' es e = ap (λ z. node p v z (as_children es)) (e
      ∙ ap (λ n. shrunk_capacity n w) (sym (edges_of-length es)))

  -- a node of capacity 4 gave a child up
  pub without-joined : (p : List ℕ) (v : Option V) (w w' b : ℕ) (es es' : List (ℕ × Trie V)) → w ≡ 4
      → child_at b es ≢ None → es' ≡ entries.without_byte b es → w' ≡ shrunk_capacity (length es') w
      → merged_if_needed (node p v w' (as_children es')) ≡ without_child b (node p v w (as_children es))
  without-joined p v w w' b es es' e4 s ee ew =
      ap (λ t. if needs_merge v (as_children es') then merged_child p (as_children es') else t)
      (same-narrowed p v w w' es' ew)
      ∙ rw e4 refl
      ∙ ap (λ l. remaining_node p v w (as_children l)) ee ∙ sym (without-some p v w b es s)

  -- a wider one did
  pub without-wide : (p : List ℕ) (v : Option V) (w w' b : ℕ) (es es' : List (ℕ × Trie V)) → w ≢ 4
      → child_at b es ≢ None → es' ≡ entries.without_byte b es → w' ≡ shrunk_capacity (length es') w
      → node p v w' (as_children es') ≡ without_child b (node p v w (as_children es))
  without-wide p v w w' b es es' n4 s ee ew = same-narrowed p v w w' es' ew
      ∙ sym (ap (λ z. if z && needs_merge v (as_children es') then merged_child p (as_children es')
      else node p v (shrunk_capacity (length (edges_of (as_children es'))) w) (as_children es')) (eq-no w 4 n4))
      ∙ ap (λ l. remaining_node p v w (as_children l)) ee ∙ sym (without-some p v w b es s)
