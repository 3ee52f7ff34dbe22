-- The finished children of an unfinished node, put into its storage in their order.
use Rattle.std.proofs.Common.{◌≡◌, ℕ, ◌<◌, ◌≤◌, List, [], ◌∷◌, ◌++◌, length, length-append, take, drop, refl, arith}
use Rattle.std.proofs.Common.{sym, ap, ap₂, ◌∙◌, None, subst}
use Rattle.std.specs.Prelude.{◌-◌, reverse, slice_index}
use borrow.Rule.Slice.PartMut.{post_of}
use Rattle.std.proofs.lemmas.Bool.Decides.{nat_tests}
use Rattle.std.proofs.lemmas.List.{append_assoc, append-nil, drop_all, length-drop, length-reverse, length-take-le}
use Rattle.std.proofs.lemmas.List.{map-append, nil_from_length, reverse-append, reverse-reverse, take_all}
use Rattle.rart_parts.specs.Entries.{child_at, with_entry}
use Rattle.rart_trie.specs.build.Spine.{edge_entries}
use Rattle.rart_trie.specs.shapes.Shape.{capacity_of}
use Rattle.rart_trie.specs.tries.Trie.{Trie, prefix_of, AreCanonical, StartsWith}
use Rattle.rart_trie.specs.tries.TrieCode.{as_children}
use Rattle.rart_trie.proofs.build.SpineLemmas.{entries-length, reversed-last}
use Rattle.rart_trie.proofs.storages.EntryPlaces.{front-absent, goes-behind, middle-first}

-- a free slot while a child is to come
capacity-free : (n k : ℕ) → n < k → k ≤ 256 → n < capacity_of k
capacity-free n k h l = grind (arith, nat_tests)

more-prefix : (b : ℕ) (p : List ℕ) → StartsWith b p → 0 < length p
more-prefix b [] h = absurd h
more-prefix b (x ∷ p) h = omega arith

-- a list whose end was reversed in place, as a vector holds it
pub turned : {A : Type 0} (n start : ℕ) (all now part : List A) → n ≡ length all → now ≡ all → start ≤ length all
    → part ≡ reverse (take (length now - start) (drop start now))
    → take n (take start now ++ (part ++ post_of start (length now - start) now)
    ++ drop (length (take start now ++ (part ++ post_of start (length now - start) now))) all)
    ≡ take start all ++ reverse (drop start all)
turned n start all now part count same l e =
    let rest = drop start all in
    let short : length rest ≤ length all - start = omega (arith, length-drop start all) in
    let back : part ≡ reverse rest = e ∙ ap (λ z. reverse (take (length z - start) (drop start z))) same
    ∙ ap reverse (take_all (length all - start) rest short) in
    let none : post_of start (length now - start) now ≡ []
    = ap (λ z. post_of start (length z - start) z) same ∙ drop_all (length all - start) rest short in
    let whole : take start now ++ (part ++ post_of start (length now - start) now) ≡ take start all ++ reverse rest
    = ap₂ (λ y z. take start y ++ z) same (ap₂ ◌++◌ back none ∙ append-nil (reverse rest)) in
    let long : length (take start all ++ reverse rest) ≡ length all = omega (
      arith,
      length-append (take start all) (reverse rest),
      length-take-le start all l,
      length-reverse rest,
      length-drop start all,
    ) in
    ap (λ z. take n (z ++ drop (length z) all)) whole
    ∙ ap (λ z. take n (take start all ++ reverse rest ++ z))
    (drop_all (length (take start all ++ reverse rest)) all (omega (arith, long)))
    ∙ ap (take n) (append-nil (take start all ++ reverse rest))
    ∙ take_all n (take start all ++ reverse rest) (omega (arith, count, long))

-- of the children from `start` on, `done` are in the storage, and `rest` wait, the first of them last
pub record IsAdding {V : Type 0} (start : ℕ) (all now : List (Trie V)) (es : List (ℕ × Trie V)) : Type 0 where
  pub done : List (Trie V)
  pub rest : List (Trie V)
  pub whole : drop start all ≡ done ++ rest
  pub waits : reverse now ≡ rest ++ reverse (take start all)
  pub made : es ≡ edge_entries done

module _ {V : Type 0} (start : ℕ) (all : List (Trie V)) where
  pub none-added : (now : List (Trie V)) (es : List (ℕ × Trie V)) → now ≡ take start all ++ reverse (drop start all)
      → es ≡ [] → IsAdding start all now es
  none-added now es e m = record {
    done = [];
    rest = drop start all;
    whole = refl;
    waits = ap reverse e ∙ reverse-append (take start all) (reverse (drop start all))
        ∙ ap (λ z. z ++ reverse (take start all)) (reverse-reverse (drop start all));
    made = m;
  }

  -- the next child that is taken from the end
  pub record HasNext (now new : List (Trie V)) (es : List (ℕ × Trie V)) (t : Trie V) : Type 0 where
    pub prefix : 0 < length (prefix_of t)
    pub absent : child_at (slice_index (prefix_of t) 0) es ≡ None
    pub free : length es < capacity_of (length (drop start all))
    pub adds : (fs : List (ℕ × Trie V)) → fs ≡ with_entry (slice_index (prefix_of t) 0) t es
        → IsAdding start all new fs

  module _ (up : AreCanonical 0 (as_children (edge_entries (drop start all)))) (few : length (drop start all) ≤ 256)
      (starts : start ≤ length all) where
    next-of : (now new : List (Trie V)) (es : List (ℕ × Trie V)) (t : Trie V) (done rest : List (Trie V))
        → drop start all ≡ done ++ rest → reverse now ≡ rest ++ reverse (take start all) → es ≡ edge_entries done
        → start < length now → now ≡ new ++ t ∷ [] → HasNext now new es t
    next-of now new es t done [] whole waits made more taken = absurd (omega (
      arith,
      more,
      ap length waits,
      length-reverse now,
      length-reverse (take start all),
      length-take-le start all starts,
    ))
    next-of now new es t done (x ∷ rest) whole waits made more taken =
        let last : t ∷ reverse new ≡ x ∷ rest ++ reverse (take start all)
        = sym (reversed-last new now t taken) ∙ waits in
        let same : x ≡ t = cc in
        let left : reverse new ≡ rest ++ reverse (take start all) = cc in
        let b = slice_index (prefix_of t) 0 in
        let order : drop start all ≡ done ++ t ∷ rest = whole ∙ ap (λ z. done ++ z ∷ rest) same in
        let entries : edge_entries (drop start all) ≡ edge_entries done ++ (b, t) ∷ edge_entries rest
        = ap edge_entries order ∙ map-append (λ u. (slice_index (prefix_of u) 0, u)) done (t ∷ rest) in
        let ascending : AreCanonical 0 (as_children (edge_entries done ++ (b, t) ∷ edge_entries rest))
        = subst (λ (fs : List (ℕ × Trie V)). AreCanonical 0 (as_children fs)) entries up in
        record {
          prefix = more-prefix b (prefix_of t) (middle-first b 0 t (edge_entries done) (edge_entries rest) ascending);
          absent = ap (child_at b) made ∙ front-absent b 0 t (edge_entries done) (edge_entries rest) ascending;
          free = capacity-free (length es) (length (drop start all)) (omega (
            arith,
            ap length made,
            entries-length done,
            ap length order,
            length-append done (t ∷ rest),
          )) few;
          adds = λ fs e. record {
            done = done ++ t ∷ [];
            rest = rest;
            whole = order ∙ sym (append_assoc done (t ∷ []) rest);
            waits = left;
            made = e ∙ ap (with_entry b t) made ∙ goes-behind b 0 t (edge_entries done) (edge_entries rest) ascending
                ∙ sym (map-append (λ u. (slice_index (prefix_of u) 0, u)) done (t ∷ []));
          };
        }

    pub next-added : (now new : List (Trie V)) (es : List (ℕ × Trie V)) (t : Trie V) → IsAdding start all now es
        → start < length now → now ≡ new ++ t ∷ [] → HasNext now new es t
    next-added now new es t h more taken
        = next-of now new es t h.done h.rest h.whole h.waits h.made more taken

  -- all are added
  pub record AreAdded (now : List (Trie V)) (es : List (ℕ × Trie V)) : Type 0 where
    pub rest : now ≡ take start all
    pub made : es ≡ edge_entries (drop start all)

  pub all-added : start ≤ length all → (now : List (Trie V)) (es : List (ℕ × Trie V)) → IsAdding start all now es
      → length now ≤ start → AreAdded now es
  all-added starts now es h short =
      let none : h.rest ≡ [] = nil_from_length h.rest (omega (
        arith,
        short,
        ap length h.waits,
        length-append h.rest (reverse (take start all)),
        length-reverse now,
        length-reverse (take start all),
        length-take-le start all starts,
      )) in
      record {
        rest = sym (reverse-reverse now) ∙ ap reverse (h.waits ∙ ap (λ z. z ++ reverse (take start all)) none)
            ∙ reverse-reverse (take start all);
        made = h.made ∙ ap edge_entries (sym (append-nil h.done) ∙ ap (λ z. h.done ++ z) (sym none) ∙ sym h.whole);
      }
