-- The part of a trie of whose keys a test holds: its pairs, that it is canonical, and when it is all or nothing.
use Rattle.std.proofs.Common.{◌≡◌, ℕ, ◌+◌, ◌≤◌, ◌&&◌, ◌||◌, ◌⊎◌, ⊎_elim, suc, Bool, true, false, not, is_some}
use Rattle.std.proofs.Common.{List, []}
use Rattle.std.proofs.Common.{◌∷◌, ◌++◌, length, refl, sym, ap, ap₂, ◌∙◌, arith, Option, Some, None, if◌then◌else◌}
use Rattle.std.proofs.lemmas.List.Elements.{filter-append}
use Rattle.std.specs.Prelude.{nat_lt}
use Rattle.rart_keys.specs.KeyBytes.{IsWithin}
use Rattle.rart_keys.specs.SortedMap.{longest_key}
use Rattle.rart_trie.specs.edits.Deletion.{JoinsWithin, merged_if_needed, needs_merge}
use Rattle.rart_trie.specs.edits.Splits.{IsWhole, children_where, complement, option_where, tree_where, trie_where}
use Rattle.rart_trie.specs.shapes.Shape.{capacity_of}
use Rattle.rart_trie.specs.tries.Tree.{IsCanonicalTree, tree_pairs}
use Rattle.rart_trie.specs.tries.Trie.{Trie, node, Children, no_children, child, child_if, collapsed_node, edges_of}
use Rattle.rart_trie.specs.tries.Trie.{AreCanonical, IsCanonical, StartsWith, children_pairs, own_pair}
use Rattle.rart_trie.specs.tries.Trie.{pairs_of, prefix_of, with_prefix}
use Rattle.rart_trie.specs.tries.TrieCode.{as_children}
use Rattle.rart_trie.proofs.changes.ValueChangeLemmas.{pairs_where, where-after}
use Rattle.rart_trie.proofs.edits.InsertLemmas.{fewer-within}
use Rattle.rart_trie.proofs.edits.JoinedLengths.{joins-children, prefix-before}
use Rattle.rart_trie.proofs.removals.PrefixFilters.{longest_key-filter}
use Rattle.rart_trie.proofs.removals.PrefixPairs.{pairs-child_if, pairs-collapsed}
use Rattle.rart_trie.proofs.removals.RemoveLemmas.{IsFirstIn, canonical-child_if, canonical-collapsed, first-collapsed}
use Rattle.rart_trie.proofs.storages.ChildLemmas.{edges_of-length, lt-yes}
use Rattle.rart_trie.proofs.tries.CanonicalTests.{longest_key-append}
use Rattle.rart_trie.proofs.tries.FirstBytes.{first-append}

not-not : (h : Bool) → not (not h) ≡ h
not-not true = refl
not-not false = refl

option-some : {A : Type 0} (h : Bool) (o : Option A) → is_some (option_where h o) ≡ h && is_some o
option-some true o = refl
option-some false o = refl

-- what isn't on one side is on the other
option-other : {A : Type 0} (h : Bool) (o : Option A) → option_where (not h) o ≡ None → option_where h o ≡ o
option-other true o e = refl
option-other false o e = sym e

pub none-some : {A : Type 0} (o : Option A) → is_some o ≡ false → o ≡ None
none-some None h = refl
none-some (Some x) h = absurd (cc)

or-true : (h : Bool) → h || true ≡ true
or-true true = refl
or-true false = refl

abbrev pub one_if : Bool → ℕ
one_if true = 1
one_if false = 0

one-few : (h : Bool) → one_if h ≤ 1
one-few true = omega arith
one-few false = omega arith

module _ {V : Type 0} where
  -- canonical
  first-where : (b : ℕ) (t : List ℕ → Bool) (u : Trie V) → StartsWith b (prefix_of u) → IsFirstIn b (trie_where t u)
  first-where b t (node p v n cs) f = first-collapsed b p (option_where (t (p ++ [])) v)
      (children_where (λ k. t (p ++ k)) cs) f

  mutual
    canonical-where : (t : List ℕ → Bool) (u : Trie V) → IsCanonical u → IsCanonicalTree (trie_where t u)
    canonical-where t (node p v n cs) w = canonical-collapsed p (option_where (t (p ++ [])) v)
        (children_where (λ k. t (p ++ k)) cs) (children_canonical-where (λ k. t (p ++ k)) 0 cs w.2)

    pub children_canonical-where : (t : List ℕ → Bool) (low : ℕ) (cs : Children V) → AreCanonical low cs
        → AreCanonical low (children_where t cs)
    children_canonical-where t low no_children w = tt
    children_canonical-where t low (child b u cs) w = canonical-child_if low b (trie_where t u) (children_where t cs)
        w.0 (first-where b t u w.1) (canonical-where t u w.2) (children_canonical-where t (suc b) cs w.3)

  pub tree_canonical-where : (t : List ℕ → Bool) (o : Option (Trie V)) → IsCanonicalTree o
      → IsCanonicalTree (tree_where t o)
  tree_canonical-where t None w = tt
  tree_canonical-where t (Some u) w = canonical-where t u w

  -- its pairs
  own-where : (h : Bool) (v : Option V)
      → own_pair (option_where h v) ≡ (if h then own_pair v else [])
  own-where true v = refl
  own-where false v = refl

  own-filter : (t : List ℕ → Bool) (v : Option V) → (if t [] then own_pair v else []) ≡ pairs_where t (own_pair v)
  own-filter t None = elim (t []) as (λ h. ◌≡◌ {A = List (List ℕ × V)} (if h then [] else []) []) [
    | true ↦ refl
    | false ↦ refl
  ]
  own-filter t (Some v) = refl

  mutual
    pairs-where : (t : List ℕ → Bool) (u : Trie V) → tree_pairs (trie_where t u) ≡ pairs_where t (pairs_of u)
    pairs-where t (node p v n cs) = pairs-collapsed p (option_where (t (p ++ [])) v)
        (children_where (λ k. t (p ++ k)) cs)
        ∙ ap (with_prefix p) (ap₂ (λ xs ys. xs ++ ys) (own-where (t (p ++ [])) v ∙ own-filter (λ k. t (p ++ k)) v)
        (children_pairs-where (λ k. t (p ++ k)) cs)
        ∙ sym (filter-append (λ e. t (p ++ e.0)) (own_pair v) (children_pairs cs)))
        ∙ sym (where-after t (λ k. t (p ++ k)) p (own_pair v ++ children_pairs cs) (λ k. refl))

    children_pairs-where : (t : List ℕ → Bool) (cs : Children V)
        → children_pairs (children_where t cs) ≡ pairs_where t (children_pairs cs)
    children_pairs-where t no_children = refl
    children_pairs-where t (child b u cs) = pairs-child_if b (trie_where t u) (children_where t cs)
        ∙ ap₂ (λ xs ys. xs ++ ys) (pairs-where t u) (children_pairs-where t cs)
        ∙ sym (filter-append (λ e. t e.0) (pairs_of u) (children_pairs cs))

  pub tree_pairs-where : (t : List ℕ → Bool) (o : Option (Trie V))
      → tree_pairs (tree_where t o) ≡ pairs_where t (tree_pairs o)
  tree_pairs-where t None = refl
  tree_pairs-where t (Some u) = pairs-where t u

  -- tests that agree
  mutual
    pub trie-same : (s t : List ℕ → Bool) (u : Trie V) → ((k : List ℕ) → s (prefix_of u ++ k) ≡ t (prefix_of u ++ k))
        → trie_where s u ≡ trie_where t u
    trie-same s t (node p v n cs) h = ap₂ (λ i ds. collapsed_node p (option_where i v) ds) (h [])
        (children-same (λ k. s (p ++ k)) (λ k. t (p ++ k)) cs h)

    pub children-same : (s t : List ℕ → Bool) (cs : Children V) → ((k : List ℕ) → s k ≡ t k)
        → children_where s cs ≡ children_where t cs
    children-same s t no_children h = refl
    children-same s t (child b u cs) h = ap₂ (child_if b) (trie-same s t u (λ k. h (prefix_of u ++ k)))
        (children-same s t cs h)

  pub agree-below : (b : ℕ) (s t : List ℕ → Bool) (u : Trie V) → StartsWith b (prefix_of u)
      → ((k : List ℕ) → StartsWith b k → s k ≡ t k) → (k : List ℕ) → s (prefix_of u ++ k) ≡ t (prefix_of u ++ k)
  agree-below b s t u f h k = h (prefix_of u ++ k) (first-append b (prefix_of u) k f)

  -- a test that holds of no key
  mutual
    none-where : (t : List ℕ → Bool) (u : Trie V) → ((k : List ℕ) → t k ≡ false) → trie_where t u ≡ None
    none-where t (node p v n cs) h = ap₂ (λ i ds. collapsed_node p (option_where i v) ds) (h (p ++ []))
        (children_none-where (λ k. t (p ++ k)) cs (λ k. h (p ++ k)))

    children_none-where : (t : List ℕ → Bool) (cs : Children V) → ((k : List ℕ) → t k ≡ false)
        → children_where t cs ≡ no_children
    children_none-where t no_children h = refl
    children_none-where t (child b u cs) h = ap₂ (child_if b) (none-where t u h) (children_none-where t cs h)

  -- what isn't on one side is on the other
  none-collapsed : (p : List ℕ) (v : Option V) (cs : Children V) → collapsed_node p v cs ≡ None
      → (v ≡ None) × (cs ≡ no_children)
  none-collapsed p None no_children h = (refl, refl)
  none-collapsed p None (child b (node q u m ds) no_children) h = absurd (cc)
  none-collapsed p None (child b t (child c u cs)) h = absurd (cc)
  none-collapsed p (Some v) cs h = absurd (cc)

  none-child_if : (b : ℕ) (o : Option (Trie V)) (cs : Children V) → child_if b o cs ≡ no_children
      → (o ≡ None) × (cs ≡ no_children)
  none-child_if b None cs h = (refl, h)
  none-child_if b (Some t) cs h = absurd (cc)

  collapsed-all : (p : List ℕ) (v : Option V) (n : ℕ) (cs : Children V) → IsCanonical (node p v n cs)
      → collapsed_node p v cs ≡ Some (node p v n cs)
  collapsed-all p None n no_children w = absurd (⊎_elim (λ h. cc) (λ h. h) w.0)
  collapsed-all p None n (child b t no_children) w = absurd (⊎_elim (λ h. cc) (λ h. h) w.0)
  collapsed-all p None n (child b t (child c u cs)) w
      = ap (λ z. Some (node p None z (child b t (child c u cs)))) (sym w.1)
  collapsed-all p (Some v) n cs w = ap (λ z. Some (node p (Some v) z cs)) (sym w.1)

  mutual
    all-where : (s t : List ℕ → Bool) (u : Trie V) → ((k : List ℕ) → s k ≡ not (t k)) → IsCanonical u
        → trie_where s u ≡ None → trie_where t u ≡ Some u
    all-where s t (node p v n cs) h w e =
        let x = none-collapsed p (option_where (s (p ++ [])) v) (children_where (λ k. s (p ++ k)) cs) e in
        ap₂ (collapsed_node p) (option-other (t (p ++ [])) v (ap (λ i. option_where i v) (sym (h (p ++ []))) ∙ x.0))
        (children_all-where (λ k. s (p ++ k)) (λ k. t (p ++ k)) 0 cs (λ k. h (p ++ k)) w.2 x.1)
        ∙ collapsed-all p v n cs w

    children_all-where : (s t : List ℕ → Bool) (low : ℕ) (cs : Children V) → ((k : List ℕ) → s k ≡ not (t k))
        → AreCanonical low cs → children_where s cs ≡ no_children → children_where t cs ≡ cs
    children_all-where s t low no_children h w e = refl
    children_all-where s t low (child b u cs) h w e =
        let x = none-child_if b (trie_where s u) (children_where s cs) e in
        ap₂ (child_if b) (all-where s t u h w.2 x.0) (children_all-where s t (suc b) cs h w.3 x.1)

  -- a trie of which one side has nothing is whole
  pub whole-inside : (t : List ℕ → Bool) (u : Trie V) → IsCanonical u → trie_where (complement t) u ≡ None
      → IsWhole t u true
  whole-inside t u w e = (all-where (complement t) t u (λ k. refl) w e, e)

  pub whole-outside : (t : List ℕ → Bool) (u : Trie V) → IsCanonical u → trie_where t u ≡ None → IsWhole t u false
  whole-outside t u w e = (e, all-where t (complement t) u (λ k. sym (not-not (t k))) w e)

  pub whole-where : (t : List ℕ → Bool) (h : Bool) (u : Trie V) → IsCanonical u → ((k : List ℕ) → t k ≡ h)
      → IsWhole t u h
  whole-where t true u w e = whole-inside t u w (none-where (complement t) u (λ k. ap not (e k)))
  whole-where t false u w e = whole-outside t u w (none-where t u e)

  pub whole-found : (t : List ℕ → Bool) (h : Bool) (u : Trie V) → IsWhole t u h
      → (is_some (trie_where t u) ≡ h) × (is_some (trie_where (complement t) u) ≡ not h)
  whole-found t true u w = (ap is_some w.0, ap is_some w.1)
  whole-found t false u w = (ap is_some w.0, ap is_some w.1)

  -- whether a side has a pair
  collapsed-some : (p : List ℕ) (v : Option V) (cs : Children V)
      → is_some (collapsed_node p v cs) ≡ nat_lt 0 (length (edges_of cs)) || is_some v
  collapsed-some p None no_children = refl
  collapsed-some p None (child b (node q u m ds) no_children) = refl
  collapsed-some p None (child b t (child c u cs))
      = rw (lt-yes 0 (length (edges_of (child b t (child c u cs)))) (omega arith)) refl
  collapsed-some p (Some v) cs = sym (or-true (nat_lt 0 (length (edges_of cs))))

  pub side-some : (t : List ℕ → Bool) (p : List ℕ) (v : Option V) (n : ℕ) (cs : Children V)
      → is_some (trie_where t (node p v n cs))
      ≡ nat_lt 0 (length (edges_of (children_where (λ k. t (p ++ k)) cs))) || (t (p ++ []) && is_some v)
  side-some t p v n cs = collapsed-some p (option_where (t (p ++ [])) v) (children_where (λ k. t (p ++ k)) cs)
      ∙ ap (λ z. nat_lt 0 (length (edges_of (children_where (λ k. t (p ++ k)) cs))) || z) (option-some (t (p ++ [])) v)

  -- how many children a side has
  abbrev pub side_count : (List ℕ → Bool) → List (ℕ × Trie V) → ℕ
  side_count t es = length (edges_of (children_where t (as_children es)))

  pub child_if-count : (b : ℕ) (o : Option (Trie V)) (cs : Children V)
      → length (edges_of (child_if b o cs)) ≡ one_if (is_some o) + length (edges_of cs)
  child_if-count b None cs = omega arith
  child_if-count b (Some t) cs = omega arith

  pub count-append : (t : List ℕ → Bool) (xs ys : List (ℕ × Trie V))
      → side_count t (xs ++ ys) ≡ side_count t xs + side_count t ys
  count-append t [] ys = omega arith
  count-append t (x ∷ xs) ys = omega (
    arith,
    child_if-count x.0 (trie_where t x.1) (children_where t (as_children (xs ++ ys))),
    child_if-count x.0 (trie_where t x.1) (children_where t (as_children xs)),
    count-append t xs ys,
  )

  pub count-few : (t : List ℕ → Bool) (es : List (ℕ × Trie V)) → side_count t es ≤ length es
  count-few t [] = omega arith
  count-few t (e ∷ es) = omega (
    arith,
    child_if-count e.0 (trie_where t e.1) (children_where t (as_children es)),
    one-few (is_some (trie_where t e.1)),
    count-few t es,
  )

  -- the paths to the children of a side are parts of keys
  pub joins-where : (m : Option ℕ) (t : List ℕ → Bool) (p : List ℕ) (v : Option V) (n : ℕ) (cs : Children V)
      → IsCanonical (node p v n cs) → IsWithin m (longest_key (pairs_of (node p v n cs)))
      → JoinsWithin m p (children_where t cs)
  joins-where m t p v n cs w h = joins-children m p (longest_key (own_pair v ++ children_pairs cs)) 0
      (children_where t cs) (children_canonical-where t 0 cs w.2) (omega (
        arith,
        ap longest_key (children_pairs-where t cs),
        longest_key-filter (λ e. t e.0) (children_pairs cs),
        longest_key-append (own_pair v) (children_pairs cs),
      ))
      (fewer-within m (longest_key (pairs_of (node p v n cs)))
      (length p + longest_key (own_pair v ++ children_pairs cs)) (omega (arith, prefix-before p v n cs w)) h)

  -- a node made of a side
  pub merge-four : (v : Option V) (n : ℕ) (es : List (ℕ × Trie V)) → n ≡ capacity_of (length es)
      → needs_merge v (as_children es) ≡ true → n ≡ 4
  merge-four None n [] c h = absurd (cc)
  merge-four None n (e ∷ []) c h = c
  merge-four None n (e ∷ f ∷ es) c h = absurd (cc)
  merge-four (Some v) n es c h = absurd (cc)

  made-node : (p : List ℕ) (v : Option V) (n : ℕ) (es : List (ℕ × Trie V)) → n ≡ capacity_of (length es)
      → (is_some v ≡ true) ⊎ (length es ≡ 0 → ⊥)
      → Some (merged_if_needed (node p v n (as_children es))) ≡ collapsed_node p v (as_children es)
  made-node p None n [] c h = absurd (⊎_elim (λ z. cc) (λ z. z refl) h)
  made-node p None n ((b, node q u m ds) ∷ []) c h = refl
  made-node p None n (e ∷ f ∷ es) c h = ap (λ z. Some (node p None z (as_children (e ∷ f ∷ es))))
      (c ∙ ap capacity_of (sym (edges_of-length (e ∷ f ∷ es))))
  made-node p (Some v) n es c h = ap (λ z. Some (node p (Some v) z (as_children es)))
      (c ∙ ap capacity_of (sym (edges_of-length es)))

  pub made-side : (p q : List ℕ) (v w : Option V) (n m : ℕ) (es fs : List (ℕ × Trie V)) → p ≡ q → v ≡ w → n ≡ m
      → es ≡ fs → m ≡ capacity_of (length fs) → (is_some w ≡ true) ⊎ (length fs ≡ 0 → ⊥)
      → Some (merged_if_needed (node p v n (as_children es))) ≡ collapsed_node q w (as_children fs)
  made-side p q v w n m es fs i j k l c h = rw (i, j, k, l) (made-node q w m fs c h)
