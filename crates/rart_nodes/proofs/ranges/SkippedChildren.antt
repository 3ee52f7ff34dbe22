-- The children before a start add nothing to a count, so that they can be skipped.
use Rattle.std.proofs.Common.{◌≡◌, ℕ, suc, ◌≤◌, ⊎_elim, List, length, length-append}
use Rattle.std.proofs.Common.{true, Option, Some, None, refl, sym, arith}
use Rattle.std.specs.declared.ops.Bound.{Bound}
use Rattle.std.proofs.lemmas.Bool.{cases_lt, lt-ltb, le-ltb}
use Rattle.rart_keys.specs.Ranges.{bound_bytes}
use Rattle.rart_trie.specs.declared.node.ends.End.TheVariants.{First}
use Rattle.rart_trie.specs.ranges.BoundCuts.{bound_at, byte_below}
use Rattle.rart_trie.specs.ranges.Starts.{children_above}
use Rattle.rart_trie.specs.tries.CanonicalTest.{is_canonical}
use Rattle.rart_trie.specs.tries.Trie.{Trie, Children, no_children, child, children_in, children_pairs, pairs_of}
use Rattle.rart_trie.specs.tries.Trie.{AreCanonical}
use Rattle.rart_trie.specs.tries.TrieCode.{child_count}
use Rattle.rart_trie.proofs.ranges.BoundCutLemmas.{none-before}
use Rattle.rart_trie.proofs.tries.CanonicalTests.{canonical-lower}
use Rattle.rart_nodes.specs.ranges.Steps.{children_after}
use Rattle.rart_nodes.proofs.ranges.CountedBounds.{count_in, count-append, most_below, passed}
use Rattle.rart_nodes.proofs.walks.PathLemmas.{below-canonical}

module _ {V : Type 0} where
  -- some of the children ds count as all of them do
  pub record CountAlike (a b : Bound (List ℕ)) (cs ds : Children V) : Type 0 where
    pub count : count_in (Some a) (Some b) (children_pairs cs) ≡ count_in (Some a) (Some b) (children_pairs ds)
    pub visits : most_below a b cs ≡ most_below a b ds
    pub pairs : length (children_pairs cs) ≤ length (children_pairs ds)
    pub within : child_count cs ≤ child_count ds

  all-alike : (a b : Bound (List ℕ)) (cs : Children V) → CountAlike a b cs cs
  all-alike a b cs = record { count = refl; visits = refl; pairs = omega arith; within = omega arith }

  kept-alike : (a b : Bound (List ℕ)) (c : ℕ) (t : Trie V) (cs ds : Children V) → CountAlike a b cs ds
      → CountAlike a b (child c t cs) (child c t ds)
  kept-alike a b c t cs ds w = record {
    count = omega (
      arith,
      w.count,
      count-append (Some a) (Some b) (pairs_of t) (children_pairs cs),
      count-append (Some a) (Some b) (pairs_of t) (children_pairs ds),
    );
    visits = omega (arith, w.visits);
    pairs = omega (
      arith,
      w.pairs,
      length-append (pairs_of t) (children_pairs cs),
      length-append (pairs_of t) (children_pairs ds),
    );
    within = omega (arith, w.within);
  }

  passed-alike : (a b : Bound (List ℕ)) (c : ℕ) (t : Trie V) (cs ds : Children V) → AreCanonical 0 (child c t ds)
      → bound_at First c a ≡ None → CountAlike a b cs ds → CountAlike a b cs (child c t ds)
  passed-alike a b c t cs ds u n w = let p = passed a b c t (child c t ds) ds refl u (sym n) in
      record {
        count = omega (arith, w.count, p.0);
        visits = omega (arith, w.visits, p.1);
        pairs = omega (arith, w.pairs, length-append (pairs_of t) (children_pairs ds));
        within = omega (arith, w.within);
      }

  above-alike : (a b : Bound (List ℕ)) (d low : ℕ) (cs : Children V) → AreCanonical low cs
      → byte_below (bound_bytes a) ≡ Some d → CountAlike a b (children_above d cs) cs
  above-alike a b d low no_children w h = all-alike a b no_children
  above-alike a b d low (child c t cs) w h =
      let rest = above-alike a b d (suc c) cs w.3 h in
      ⊎_elim (λ l. rw (lt-ltb d c l) (kept-alike a b c t (children_above d cs) cs rest))
      (λ l. rw (le-ltb d c l) (passed-alike a b c t (children_above d cs) cs
      (canonical-lower 0 low (child c t cs) (omega arith) w) (none-before a d c h l) rest)) (cases_lt d c)

  pub after-alike : (a b : Bound (List ℕ)) (e : Option ℕ) (t : Trie V) → is_canonical t ≡ true
      → byte_below (bound_bytes a) ≡ e → CountAlike a b (children_after e (children_in t)) (children_in t)
  after-alike a b None t w h = all-alike a b (children_in t)
  after-alike a b (Some d) t w h = above-alike a b d 0 (children_in t) (below-canonical t w) h
