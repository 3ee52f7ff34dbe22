-- An insertion requests memory just where the keys say so.
use Rattle.std.proofs.Common.{◌≡◌, ℕ, ◌<◌, ◌==◌, ◌||◌, ◌&&◌, not, Bool, true, false, List, [], ◌∷◌, length, refl, sym}
use Rattle.std.proofs.Common.{ap, ◌∙◌, arith, Option, Some, None, is_some, option_map, if◌then◌else◌}
use Rattle.std.specs.List.{list_any}
use Rattle.std.specs.Option.{unwrap_or}
use Rattle.std.specs.Prelude.{nat_le}
use Rattle.std.proofs.lemmas.Bool.Decides.{nat_tests}
use Rattle.std.proofs.Math.Bool.{and-false, and-true}
use Rattle.rart_keys.specs.SortedMap.{keys_of}
use Rattle.rart_trie.specs.shapes.Shape.{NodeRecord, record_at, capacity_of}
use Rattle.rart_trie.specs.tries.Trie.{Trie, node, Children, child_of, pairs_of, edges_of, IsCanonical, AreCanonical}
use Rattle.rart_trie.specs.tries.Trie.{descend, descend_child}
use Rattle.rart_trie.specs.edits.InsertAllocations.{has_free_slot, takes_child, any_along, last_takes, insert_allocates}
use Rattle.rart_trie.specs.edits.InsertAllocations.{put_allocation, is_full, trie_put_allocates}
use Rattle.rart_trie.proofs.tries.Descents.{Keeps, descends, descend-child_of}
use Rattle.rart_trie.proofs.tries.NodeCounts.{few_nodes}
use Rattle.rart_trie.proofs.shapes.RecordsAlong.{AreReadings, edge-is_some, none-first, reads-apart, reads-after}
use Rattle.rart_trie.proofs.shapes.RecordsAlong.{records_in}
use Rattle.rart_trie.proofs.shapes.ShapeLemmas.{records, records-at}

-- equal records, and none
same_any : (f g : List ℕ → Option NodeRecord) (q : List ℕ) → ((p : List ℕ) → f p ≡ g p) → any_along f q ≡ any_along g q
same_any f g [] h = ap is_some (h [])
same_any f g (b ∷ q) h = rw (h [], same_any (λ p. f (b ∷ p)) (λ p. g (b ∷ p)) q (λ p. h (b ∷ p))) refl

same_last : (f g : List ℕ → Option NodeRecord) (q : List ℕ) → ((p : List ℕ) → f p ≡ g p)
    → last_takes f q ≡ last_takes g q
same_last f g [] h = refl
same_last f g (b ∷ q) h = rw (
  h [],
  same_any (λ p. f (b ∷ p)) (λ p. g (b ∷ p)) q (λ p. h (b ∷ p)),
  same_last
      (λ p. f (b ∷ p)) (λ p. g (b ∷ p)) q (λ p. h (b ∷ p)),
) refl

none_any : (q : List ℕ) → any_along (λ p. None) q ≡ false
none_any [] = refl
none_any (b ∷ q) = none_any q

none_last : (q : List ℕ) → last_takes (λ p. None) q ≡ false
none_last [] = refl
none_last (b ∷ q) = rw (none_any q) refl

no_last : (f : List ℕ → Option NodeRecord) (q : List ℕ) → (if any_along f q then last_takes f q else false)
    ≡ last_takes f q
no_last f [] = elim (is_some (f [])) as (λ z. (if z then false else false) ≡ false) [ true ↦ refl | false ↦ refl ]
no_last f (b ∷ q) = elim (f []) as (λ o.
    (if is_some o || any_along (λ p. f (b ∷ p)) q
    then (if any_along (λ p. f (b ∷ p)) q then last_takes (λ p. f (b ∷ p)) q else takes_child o b) else false)
    ≡ (if any_along (λ p. f (b ∷ p)) q then last_takes (λ p. f (b ∷ p)) q else takes_child o b)) [
      | None ↦ elim (any_along (λ p. f (b ∷ p)) q)
          as (λ z. (if z then (if z then last_takes (λ p. f (b ∷ p)) q else false) else false)
          ≡ (if z then last_takes (λ p. f (b ∷ p)) q else false)) [ true ↦ refl | false ↦ refl ]
      | Some r ↦ refl
    ]

-- with no record at nothing, the first byte changes nothing
last-none : (f : List ℕ → Option NodeRecord) (b : ℕ) (q : List ℕ) → f [] ≡ None
    → last_takes f (b ∷ q) ≡ last_takes (λ p. f (b ∷ p)) q
last-none f b q e = rw e (no_last (λ p. f (b ∷ p)) q)

-- where the capacity is the one of the count, "full" is "no free slot"
slot_is : (m n : ℕ) → n ≡ capacity_of m → nat_le n m ≡ not (has_free_slot m)
slot_is m n e = grind (arith, nat_tests)

abbrev needs_by : (List ℕ → Option NodeRecord) → List ℕ → Bool
needs_by f q = not (is_some (f q) || last_takes f q)

needs-same : (f g : List ℕ → Option NodeRecord) (q : List ℕ) → ((z : List ℕ) → f z ≡ g z) → needs_by f q ≡ needs_by g q
needs-same f g q h = ap (λ o. not (is_some o || last_takes f q)) (h q)
    ∙ ap (λ z. not (is_some (g q) || z)) (same_last f g q h)

needs_read : AreReadings (λ f q a. needs_by f q ≡ a)
needs_read = record {
  same = λ f g q a h e. sym (needs-same f g q h) ∙ e;
  past = λ f b q a n e. ap (λ z. not (is_some (f (b ∷ q)) || z)) (last-none f b q n) ∙ e;
}

module _ {V : Type 0} where
  abbrev allocates_along : List ℕ → Option (Trie V) → Option Bool
  allocates_along q o = option_map (λ t. needs_by (records_in (Some t)) q) o

  allocates-below : (m n b : ℕ) (r : List ℕ) (cs : Children V) → n ≡ capacity_of m → AreCanonical 0 cs →
      not (is_some (descend_child records b (b ∷ r) cs) || (if any_along (λ z. descend_child records b (b ∷ z) cs) r
      then last_takes (λ z. descend_child records b (b ∷ z) cs) r
      else has_free_slot m && not (list_any (λ c. c == b) (edges_of cs))))
      ≡ unwrap_or (allocates_along (b ∷ r) (child_of b cs)) (nat_le n m)
  allocates-below m n b r cs c w =
      let same : (z : List ℕ) → descend_child records b (b ∷ z) cs ≡ records_in (child_of b cs) (b ∷ z)
      = λ z. descend-child_of records b 0 (b ∷ z) cs w in
      rw (
        edge-is_some b cs,
        same r,
        same_any (λ z. descend_child records b (b ∷ z) cs)
            (λ z. records_in (child_of b cs) (b ∷ z)) r same,
        same_last (λ z. descend_child records b (b ∷ z) cs)
            (λ z. records_in (child_of b cs) (b ∷ z)) r same,
      )
      (elim (child_of b cs) as (λ o. child_of b cs ≡ o
      → not (is_some (records_in o (b ∷ r)) ||
      (if any_along (λ z. records_in o (b ∷ z)) r then last_takes (λ z. records_in o (b ∷ z)) r
      else has_free_slot m && not (is_some o))) ≡ unwrap_or (allocates_along (b ∷ r) o) (nat_le n m)) [
        | None ↦ λ e. rw (none_any r, and-true (has_free_slot m)) (sym (slot_is m n c))
        | Some t ↦ λ e. ap (λ z. not (is_some (records_in (Some t) (b ∷ r)) || z))
            (rw (and-false (has_free_slot m)) (no_last (λ z. records_in (Some t) (b ∷ z)) r)
            ∙ sym (last-none (records_in (Some t)) b r (sym (ap (λ o. records_in o []) e) ∙ none-first b cs w)))
      ] refl)

  allocates-kept : Keeps {V = V} put_allocation (λ q o a. a ≡ allocates_along q o)
  allocates-kept = record {
    absent = λ q. refl;
    left = λ q p v n cs w s. ap Some (sym (reads-apart (λ f q a. needs_by f q ≡ a) needs_read p q v n cs true s
        (λ f e. ap (λ o. not (is_some o || false)) e) (λ q. ap not (none_last q))));
    ended = λ q p v n cs w s. ap Some (sym (reads-after (λ f q a. needs_by f q ≡ a) needs_read p q [] v n cs false s
        refl));
    on = λ q p v n cs b r a w s h. ap Some (sym
        (reads-after (λ f q a. needs_by f q ≡ a) needs_read p q (b ∷ r) v n cs (unwrap_or a (is_full (node p v n cs)))
        s
        (allocates-below (length (edges_of cs)) n b r cs w.1 w.2
        ∙ ap (λ o. unwrap_or o (is_full (node p v n cs))) (sym h))));
  }

  needs_is : (es : List (List ℕ × V)) (q : List ℕ) → 0 < length es
      → insert_allocates (keys_of es) q ≡ needs_by (record_at (keys_of es)) q
  needs_is [] q h = absurd (omega arith)
  needs_is (e ∷ es) q h = refl

  pub allocates-insert : (q : List ℕ) (t : Trie V) → IsCanonical t → trie_put_allocates q t ≡ insert_allocates
      (keys_of (pairs_of t)) q
  allocates-insert q t w = ap (λ o. unwrap_or o false)
      (descends put_allocation (λ q o a. a ≡ allocates_along q o) allocates-kept q (Some t) w)
      ∙ ap (λ o. not (is_some o || last_takes (λ z. descend records z t) q)) (records-at q t w)
      ∙ ap (λ z. not (is_some (record_at (keys_of (pairs_of t)) q) || z))
      (same_last (λ p. descend records p t) (record_at (keys_of (pairs_of t))) q (λ p. records-at p t w))
      ∙ sym (needs_is (pairs_of t) q (omega (arith, few_nodes t w)))
