-- A removal requests memory just where the keys say so.
use Rattle.std.proofs.Common.{arith, ◌≡◌, ℕ, ◌==◌, ◌&&◌, Bool, true, false, List, [], ◌∷◌, length, refl, sym, ap, ◌∙◌}
use Rattle.std.proofs.Common.{Option, Some, None, is_some, if◌then◌else◌}
use Rattle.std.specs.Option.{unwrap_or}
use Rattle.std.specs.Prelude.{nat_le, not, ◌-◌, ◌||◌}
use Rattle.std.proofs.lemmas.Bool.Decides.{nat_tests}
use Rattle.rart_keys.specs.SortedMap.{keys_of}
use Rattle.rart_trie.specs.shapes.Shape.{NodeRecord, record_at, capacity_of}
use Rattle.rart_trie.specs.tries.Trie.{Trie, node, Children, child_of, pairs_of, edges_of, IsCanonical, AreCanonical}
use Rattle.rart_trie.specs.tries.Trie.{record_of, descend, descend_child}
use Rattle.rart_trie.specs.edits.RemoveAllocations.{remove_allocation, shrinks, moves_down, is_leaf_record, last_before}
use Rattle.rart_trie.specs.edits.RemoveAllocations.{remove_allocates, trie_remove_allocates}
use Rattle.rart_trie.proofs.tries.Descents.{Keeps, descends, descend-child_of}
use Rattle.rart_trie.proofs.shapes.RecordsAlong.{AreReadings, none-first, reads-apart, reads-after, records_in}
use Rattle.rart_trie.proofs.shapes.ShapeLemmas.{records, records-at}

pub same_before : (f g : List ℕ → Option NodeRecord) (l : Option NodeRecord) (q : List ℕ) → ((p : List ℕ) → f p ≡ g p)
    → last_before f l q ≡ last_before g l q
same_before f g l [] h = refl
same_before f g l (b ∷ q) h = rw (h []) (same_before (λ p. f (b ∷ p)) (λ p. g (b ∷ p)) (if is_some (g []) then g []
    else l) q (λ p. h (b ∷ p)))

pub moves_is : (m n : ℕ) → n ≡ capacity_of m → (nat_le 2 m && not (capacity_of (m - 1) == n))
    ≡ (m == 5 || m == 17 || m == 49)
moves_is m n e = grind (arith, nat_tests)

abbrev removes_by : (List ℕ → Option NodeRecord) → Option NodeRecord → List ℕ → Bool
removes_by f l q = is_leaf_record (f q) && shrinks (last_before f l q)

removes_read : (l : Option NodeRecord) → AreReadings (λ f q a. removes_by f l q ≡ a)
removes_read l = record {
  same = λ f g q a h e. ap (λ o. is_leaf_record o && shrinks (last_before g l q)) (sym (h q))
      ∙ ap (λ o. is_leaf_record (f q) && shrinks o) (sym (same_before f g l q h)) ∙ e;
  past = λ f b q a n e. ap (λ o. is_leaf_record (f (b ∷ q)) && shrinks
      (last_before (λ z. f (b ∷ z)) (if is_some o then o else l) q)) n ∙ e;
}

module _ {V : Type 0} where
  -- at a node below one with the record l
  abbrev RemovesBy : List ℕ → Option (Trie V) → Option Bool → Type 0
  RemovesBy q o a = (l : Option NodeRecord) → moves_down l ≡ shrinks l
      → unwrap_or a (moves_down l) ≡ removes_by (records_in o) l q

  removes-below : (b : ℕ) (r : List ℕ) (l : Option NodeRecord) (cs : Children V) (a : Option Bool)
      → moves_down l ≡ shrinks l → AreCanonical 0 cs → RemovesBy (b ∷ r) (child_of b cs) a
      → removes_by (λ z. descend_child records b (b ∷ z) cs) l r ≡ unwrap_or a (moves_down l)
  removes-below b r l cs a e w h = let f = records_in (child_of b cs) in
      (removes_read l).same (λ z. f (b ∷ z)) _ r _ (λ z. sym (descend-child_of records b 0 (b ∷ z) cs w))
      (sym (h l e ∙ ap (λ o. is_leaf_record (f (b ∷ r)) && shrinks
      (last_before (λ z. f (b ∷ z)) (if is_some o then o else l) r)) (none-first b cs w)))

  removes-kept : Keeps {V = V} remove_allocation RemovesBy
  removes-kept = record {
    absent = λ q l e. refl;
    left = λ q p v n cs w s l e. sym (reads-apart (λ f q a. removes_by f l q ≡ a) (removes_read l) p q v n cs false s
        (λ f d. ap (λ o. is_leaf_record o && shrinks l) d) (λ q. refl));
    ended = λ q p v n cs w s l e. sym (reads-after (λ f q a. removes_by f l q ≡ a) (removes_read l) p q [] v n cs _ s
        (elim (length (edges_of cs) == 0) as (λ z. (z && shrinks l)
        ≡ unwrap_or (if z then None else Some false) (moves_down l)) [ true ↦ sym e | false ↦ refl ]));
    on = λ q p v n cs b r a w s h l e. sym (reads-after (λ f q a. removes_by f l q ≡ a) (removes_read l) p q (b ∷ r) v
        n cs _ s
        (removes-below b r (Some (record_of (node p v n cs))) cs a (moves_is (length (edges_of cs)) n w.1) w.2 h));
  }

  pub allocates-remove : (q : List ℕ) (t : Trie V) → IsCanonical t
      → trie_remove_allocates None q t ≡ remove_allocates (keys_of (pairs_of t)) q
  allocates-remove q t w = descends remove_allocation RemovesBy removes-kept q (Some t) w None refl
      ∙ ap (λ o. is_leaf_record o && shrinks (last_before (λ z. descend records z t) None q)) (records-at q t w)
      ∙ ap (λ z. is_leaf_record (record_at (keys_of (pairs_of t)) q) && shrinks z)
      (same_before (λ p. descend records p t) (record_at (keys_of (pairs_of t))) None q (λ p. records-at p t w))
