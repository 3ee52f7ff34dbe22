-- A descent enters as many nodes as `probe_count` says.
use Rattle.std.proofs.Common.{◌≡◌, ℕ, ◌+◌, ◌<◌, ◌≤◌, ◌==◌, true, false, List, [], ◌∷◌, length, refl, sym, ap, ◌∙◌}
use Rattle.std.proofs.Common.{arith, Option, Some, None, is_some, if◌then◌else◌}
use Rattle.std.specs.List.{list_any}
use Rattle.rart_keys.specs.SortedMap.{keys_of}
use Rattle.rart_trie.specs.shapes.Shape.{NodeRecord, record_at}
use Rattle.rart_trie.specs.tries.Trie.{Trie, Children, child_of, pairs_of, edges_of, IsCanonical, AreCanonical}
use Rattle.rart_trie.specs.tries.Trie.{descend, descend_child}
use Rattle.rart_trie.specs.walks.ProbeCount.{continues_by, steps_along, probe_count, counts, entered_nodes}
use Rattle.rart_trie.proofs.tries.Descents.{Keeps, descends, descend-child_of}
use Rattle.rart_trie.proofs.tries.NodeCounts.{few_nodes}
use Rattle.rart_trie.proofs.shapes.RecordsAlong.{AreReadings, edge-is_some, none-first, reads-apart, reads-after}
use Rattle.rart_trie.proofs.shapes.RecordsAlong.{records_in}
use Rattle.rart_trie.proofs.shapes.ShapeLemmas.{records, records-at}

steps_along-cong : (f g : List ℕ → Option NodeRecord) (q : List ℕ) → ((p : List ℕ) → f p ≡ g p)
    → steps_along f q ≡ steps_along g q
steps_along-cong f g [] h = refl
steps_along-cong f g (b ∷ q) h = rw (h [], steps_along-cong (λ p. f (b ∷ p)) (λ p. g (b ∷ p)) q (λ p. h (b ∷ p))) refl

no_steps : (q : List ℕ) → steps_along (λ p. None) q ≡ 0
no_steps [] = refl
no_steps (b ∷ q) = rw (no_steps q) refl

few_steps : (f : List ℕ → Option NodeRecord) (q : List ℕ) → steps_along f q ≤ length q
few_steps f [] = omega arith
few_steps f (b ∷ q) = omega (arith, few_step (f []) b, few_steps (λ p. f (b ∷ p)) q)
  where
    few_step : (o : Option NodeRecord) (b : ℕ) → continues_by o b ≤ 1
    few_step None b = omega arith
    few_step (Some r) b = elim (list_any (λ c. c == b) r.edges) as (λ z. (if z then 1 else 0) ≤ 1) [
      | true ↦ omega arith
      | false ↦ omega arith
    ]

steps_read : AreReadings (λ f q a. steps_along f q ≡ a)
steps_read = record {
  same = λ f g q a h e. sym (steps_along-cong f g q h) ∙ e;
  past = λ f b q a n e. omega (arith, ap (λ o. continues_by o b) n, e);
}

module _ {V : Type 0} where
  -- the nodes on the way, where there is a tree
  abbrev nodes_along : List ℕ → Option (Trie V) → ℕ
  nodes_along q None = 0
  nodes_along q (Some t) = 1 + steps_along (records_in (Some t)) q

  steps-below : (b : ℕ) (r : List ℕ) (cs : Children V) → AreCanonical 0 cs
      → (if list_any (λ c. c == b) (edges_of cs) then 1 else 0) + steps_along (λ z. descend_child records b (b ∷ z) cs)
      r ≡ nodes_along (b ∷ r) (child_of b cs)
  steps-below b r cs w = rw (
    edge-is_some b cs,
    steps_along-cong (λ z. descend_child records b (b ∷ z) cs)
        (λ z. records_in (child_of b cs) (b ∷ z)) r (λ z. descend-child_of records b 0 (b ∷ z) cs w),
  )
      (elim (child_of b cs) as (λ o. child_of b cs ≡ o
      → (if is_some o then 1 else 0) + steps_along (λ z. records_in o (b ∷ z)) r ≡ nodes_along (b ∷ r) o) [
        | None ↦ λ e. omega (arith, no_steps r)
        | Some t ↦ λ e. omega (
          arith,
          ap (λ o. continues_by o b)
              (sym (ap (λ o. records_in o []) e) ∙ none-first b cs w),
        )
      ] refl)

  counts-kept : Keeps {V = V} counts (λ q o a. a ≡ nodes_along q o)
  counts-kept = record {
    absent = λ q. refl;
    left = λ q p v n cs w s. ap (λ m. 1 + m)
        (sym (reads-apart (λ f q a. steps_along f q ≡ a) steps_read p q v n cs 0 s (λ f e. refl) no_steps));
    ended = λ q p v n cs w s. ap (λ m. 1 + m)
        (sym (reads-after (λ f q a. steps_along f q ≡ a) steps_read p q [] v n cs 0 s refl));
    on = λ q p v n cs b r a w s h. ap (λ m. 1 + m)
        (sym (reads-after (λ f q a. steps_along f q ≡ a) steps_read p q (b ∷ r) v n cs a s (steps-below b r cs w.2
        ∙ sym h)));
  }

  entered_nodes-steps : (q : List ℕ) (t : Trie V) → IsCanonical t
      → entered_nodes q t ≡ 1 + steps_along (λ p. descend records p t) q
  entered_nodes-steps q t w = descends counts (λ q o a. a ≡ nodes_along q o) counts-kept q (Some t) w

  probe_is : (es : List (List ℕ × V)) (q : List ℕ) → 0 < length es
      → probe_count (keys_of es) q ≡ 1 + steps_along (record_at (keys_of es)) q
  probe_is [] q h = absurd (omega arith)
  probe_is (e ∷ es) q h = refl

  pub entered_nodes-probe_count : (q : List ℕ) (t : Trie V) → IsCanonical t
      → entered_nodes q t ≡ probe_count (keys_of (pairs_of t)) q
  entered_nodes-probe_count q t w = entered_nodes-steps q t w
      ∙ ap (λ m. 1 + m) (steps_along-cong (λ p. descend records p t) (record_at (keys_of (pairs_of t))) q
      (λ p. records-at p t w)) ∙ sym (probe_is (pairs_of t) q (omega (arith, few_nodes t w)))

  -- at most one more than the probe has bytes
  pub few-entered_nodes : (q : List ℕ) (t : Trie V) → IsCanonical t → entered_nodes q t ≤ length q + 1
  few-entered_nodes q t w = omega (arith, entered_nodes-steps q t w, few_steps (λ p. descend records p t) q)
