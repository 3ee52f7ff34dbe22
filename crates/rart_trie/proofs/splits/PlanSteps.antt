-- The steps of a plan: those of the children of a node that are planned so far, and the node's own.
use Rattle.std.proofs.Common.{◌≡◌, ℕ, ◌+◌, ◌<◌, ◌≤◌, ◌&&◌, ◌||◌, ◌⊎◌, ⊎_elim, suc, Bool, true, false, not}
use Rattle.std.proofs.Common.{is_some, List, [], ◌∷◌, ◌++◌, length, refl, sym, ap, ap₂, ◌∙◌, arith, subst, Option}
use Rattle.std.proofs.Math.Bool.{and-false}
use Rattle.std.proofs.Math.Seq.{take-append_seam}
use Rattle.std.proofs.lemmas.Bool.Decides.{nat_tests}
use Rattle.std.proofs.lemmas.List.{append-nil, append_assoc, reverse-append, reverse-reverse}
use Rattle.std.specs.Prelude.{Err, IfOk, Ok, Result, nat_lt, reverse, take}
use Rattle.rart_trie.specs.declared.node.edits.split.Presence.{Presence}
use Rattle.rart_trie.specs.declared.node.edits.split.Sides.{Sides}
use Rattle.rart_trie.specs.declared.node.edits.split.Step.{Step}
use Rattle.rart_trie.specs.declared.node.edits.split.Step.TheVariants.{Whole, Split}
use Rattle.rart_trie.specs.edits.Splits.{AddsOwn, AddsStep, AreEmptyFor, ChildrenSplitBy, IsFound, IsWhole, SplitsBy}
use Rattle.rart_trie.specs.edits.Splits.{children_where, complement, trie_where}
use Rattle.rart_trie.specs.shapes.Shape.{capacity_of}
use Rattle.rart_trie.specs.tries.Trie.{Trie, node, Children, no_children, child, edges_of, AreCanonical, IsCanonical}
use Rattle.rart_trie.specs.tries.Trie.{StartsWith, prefix_of}
use Rattle.rart_trie.specs.tries.TrieCode.{as_children, node_count}
use Rattle.rart_trie.proofs.splits.SplitTries.{agree-below, child_if-count, children-same, count-append, count-few}
use Rattle.rart_trie.proofs.splits.SplitTries.{none-some, one_if, side-some, side_count, trie-same, whole-found}
use Rattle.rart_trie.proofs.splits.SplitTries.{whole-inside, whole-outside, whole-where}
use Rattle.rart_trie.proofs.storages.EntryPlaces.{middle-canonical, middle-count, middle-first}

-- the capacity for some children holds them
pub capacity-fits : (n : ℕ) → n ≤ 256 → n ≤ capacity_of n
capacity-fits n l = grind (arith, nat_tests)

and-no : (a b : Bool) → (a ≡ false) ⊎ (b ≡ false) → a && b ≡ false
and-no a false h = and-false a
and-no false true h = refl
and-no true true h = absurd (⊎_elim (λ z. cc) (λ z. cc) h)

counted-is : (n m : ℕ) (h : Bool) → (h ≡ true → m ≡ n + 1) → (h ≡ false → m ≡ n) → m ≡ n + one_if h
counted-is n m true a b = a refl
counted-is n m false a b = omega (arith, b refl)

-- children ascend
few-before : {V : Type 0} (low b : ℕ) (u : Trie V) (xs ys : List (ℕ × Trie V))
    → AreCanonical low (as_children (xs ++ (b, u) ∷ ys)) → low + length xs ≤ b
few-before low b u [] ys w = omega (arith, w.0)
few-before low b u (x ∷ xs) ys w = omega (arith, w.0, few-before (suc x.0) b u xs ys w.3)

module _ {P V : Type 0} where
  -- the step of a node
  pub adds-whole : (h : Bool) (i o : ℕ) (r : Presence) (start : ℕ) (old new : List (Step P V))
      → (r.inside ≡ false) ⊎ (r.outside ≡ false) → reverse new ≡ Whole r.inside ∷ reverse (take start old)
      → AddsOwn h i o r start old new
  adds-whole h i o r start old new n e = rw (and-no r.inside r.outside n) e

  pub adds-split : (h : Bool) (i o : ℕ) (r : Presence) (start : ℕ) (old new : List (Step P V)) (s : Sides P V)
      → r.inside ≡ true → r.outside ≡ true → AreEmptyFor h i o s → reverse new ≡ Split s ∷ reverse old
      → AddsOwn h i o r start old new
  adds-split h i o r start old new s a b x e = rw (a, b) (s, (x, e))

  -- steps by tests that agree
  mutual
    splits-same : (s t : List ℕ → Bool) (u : Trie V) (steps rest : List (Step P V))
        → ((k : List ℕ) → s (prefix_of u ++ k) ≡ t (prefix_of u ++ k)) → SplitsBy s u steps rest
        → SplitsBy t u steps rest
    splits-same s t (node p v n cs) [] rest h x = x
    splits-same s t (node p v n cs) (Whole i ∷ steps) rest h x = (
      x.0,
      (
        sym (trie-same s t (node p v n cs) h) ∙ x.1.0,
        sym (trie-same (complement s) (complement t) (node p v n cs) (λ k. ap not (h k))) ∙ x.1.1,
      ),
    )
    splits-same s t (node p v n cs) (Split e ∷ steps) rest h x = (
      rw (
        sym (h []),
        children-same (λ k. t (p ++ k)) (λ k. s (p ++ k)) cs (λ k. sym (h k)),
        children-same (λ k. complement t (p ++ k)) (λ k. complement s (p ++ k)) cs (λ k. ap not (sym (h k))),
      ) x.0,
      children_splits-same (λ k. s (p ++ k)) (λ k. t (p ++ k)) cs steps rest h x.1,
    )

    children_splits-same : (s t : List ℕ → Bool) (cs : Children V) (steps rest : List (Step P V))
        → ((k : List ℕ) → s k ≡ t k) → ChildrenSplitBy s cs steps rest → ChildrenSplitBy t cs steps rest
    children_splits-same s t no_children steps rest h x = x
    children_splits-same s t (child b u cs) steps rest h x = (
      x.0,
      (children_splits-same s t cs steps x.0 h x.1.0, splits-same s t u x.0 rest (λ k. h (prefix_of u ++ k)) x.1.1),
    )

  -- the last child is the first
  pub splits-last : (t : List ℕ → Bool) (es : List (ℕ × Trie V)) (b : ℕ) (u : Trie V) (steps rest : List (Step P V))
      → ChildrenSplitBy t (as_children (es ++ (b, u) ∷ [])) steps rest
      → (mid : List (Step P V)) × (SplitsBy t u steps mid × ChildrenSplitBy t (as_children es) mid rest)
  splits-last t [] b u steps rest h = (rest, (rw h.1.0 h.1.1, refl))
  splits-last t (e ∷ es) b u steps rest h =
      let x = splits-last t es b u steps h.0 h.1.0 in
      (x.0, (x.1.0, (h.0, (x.1.1, h.1.1))))

  splits-join : (t : List ℕ → Bool) (es : List (ℕ × Trie V)) (b : ℕ) (u : Trie V) (steps mid rest : List (Step P V))
      → SplitsBy t u steps mid → ChildrenSplitBy t (as_children es) mid rest
      → ChildrenSplitBy t (as_children (es ++ (b, u) ∷ [])) steps rest
  splits-join t [] b u steps mid rest x y = (steps, (refl, rw (← y) x))
  splits-join t (e ∷ es) b u steps mid rest x y = (y.0, (splits-join t es b u steps mid y.0 x y.1.0, y.1.1))

  -- the steps that follow are the last
  mutual
    splits-rest : (t : List ℕ → Bool) (u : Trie V) (steps rest : List (Step P V)) → SplitsBy t u steps rest
        → (xs : List (Step P V)) × (steps ≡ xs ++ rest)
    splits-rest t (node p v n cs) [] rest x = absurd x
    splits-rest t (node p v n cs) (Whole i ∷ steps) rest x = (Whole i ∷ [], ap (λ z. Whole i ∷ z) x.0)
    splits-rest t (node p v n cs) (Split e ∷ steps) rest x =
        let y = children_splits-rest (λ k. t (p ++ k)) cs steps rest x.1 in
        (Split e ∷ y.0, ap (λ z. Split e ∷ z) y.1)

    children_splits-rest : (t : List ℕ → Bool) (cs : Children V) (steps rest : List (Step P V))
        → ChildrenSplitBy t cs steps rest → (xs : List (Step P V)) × (steps ≡ xs ++ rest)
    children_splits-rest t no_children steps rest x = ([], x)
    children_splits-rest t (child b u cs) steps rest x =
        let y = children_splits-rest t cs steps x.0 x.1.0 in
        let z = splits-rest t u x.0 rest x.1.1 in
        (y.0 ++ z.0, y.1 ∙ ap (λ l. y.0 ++ l) z.1 ∙ sym (append_assoc y.0 z.0 rest))

  -- without them the stack is as before
  dropped : (t : List ℕ → Bool) (cs : Children V) (now old : List (Step P V))
      → ChildrenSplitBy t cs (reverse now) (reverse old) → take (length old) now ≡ old
  dropped t cs now old h =
      let x = children_splits-rest t cs (reverse now) (reverse old) h in
      let whole : now ≡ old ++ reverse x.0 = sym (reverse-reverse now) ∙ ap reverse x.1
      ∙ reverse-append x.0 (reverse old) ∙ ap (λ z. z ++ reverse x.0) (reverse-reverse old) in
      ap (take (length old)) whole ∙ take-append_seam old (reverse x.0)

  -- the children before `left` are planned
  pub record Planning (t : List ℕ → Bool) (es left : List (ℕ × Trie V)) (i o : ℕ) (now old : List (Step P V))
      : Type 0 where
    pub done : List (ℕ × Trie V)
    pub whole : es ≡ done ++ left
    pub steps : ChildrenSplitBy t (as_children done) (reverse now) (reverse old)
    pub inside : i ≡ side_count t done
    pub outside : o ≡ side_count (complement t) done
    pub few : (i ≤ 256) × (o ≤ 256)

  pub planning-start : {t : List ℕ → Bool} {es left : List (ℕ × Trie V)} {old : List (Step P V)} → left ≡ es
      → Planning t es left 0 0 old old
  planning-start e = record {
    done = [];
    whole = sym e;
    steps = refl;
    inside = refl;
    outside = refl;
    few = (omega arith, omega arith);
  }

  module _ {t : List ℕ → Bool} {es left after : List (ℕ × Trie V)} {i o b : ℕ} {u : Trie V}
      {now old : List (Step P V)} (h : Planning t es left i o now old) (e : left ≡ (b, u) ∷ after)
      (w : AreCanonical 0 (as_children es)) where
    next : es ≡ h.done ++ (b, u) ∷ after
    next = h.whole ∙ ap (λ z. h.done ++ z) e

    ascending : AreCanonical 0 (as_children (h.done ++ (b, u) ∷ after))
    ascending = subst (λ z. AreCanonical 0 (as_children z)) next w

    pub next-canonical : IsCanonical u
    next-canonical = middle-canonical b 0 u h.done after ascending

    pub next-fewer : (p : List ℕ) (v : Option V) (n : ℕ) → node_count u < node_count (node p v n (as_children es))
    next-fewer p v n = rw next (omega (arith, middle-count b u h.done after))

    few : length h.done ≤ b
    few = omega (arith, few-before 0 b u h.done after ascending)

    pub next-few : (i ≤ b) × (o ≤ b)
    next-few = (
      omega (arith, few, h.inside, count-few t h.done),
      omega (arith, few, h.outside, count-few (complement t) h.done),
    )

    one-more : (s : List ℕ → Bool) (n m : ℕ) (f : Bool) → n ≡ side_count s h.done → f ≡ is_some (trie_where s u)
        → (f ≡ true → m ≡ n + 1) → (f ≡ false → m ≡ n) → m ≡ side_count s (h.done ++ (b, u) ∷ [])
    one-more s n m f a g x y = omega (
      arith,
      a,
      counted-is n m f x y,
      ap one_if g,
      count-append s h.done ((b, u) ∷ []),
      child_if-count b (trie_where s u) no_children,
    )

    pub planning-step : (s : List ℕ → Bool) (r : Presence) (i' o' : ℕ) (new : List (Step P V))
        → ((k : List ℕ) → StartsWith b k → s k ≡ t k) → SplitsBy s u (reverse new) (reverse now) → IsFound s u r
        → (r.inside ≡ true → i' ≡ i + 1) → (r.inside ≡ false → i' ≡ i)
        → (r.outside ≡ true → o' ≡ o + 1) → (r.outside ≡ false → o' ≡ o) → i' ≤ 256 → o' ≤ 256
        → Planning t es after i' o' new old
    planning-step s r i' o' new a x f im is om os il ol =
        let agree = agree-below b s t u (middle-first b 0 u h.done after ascending) a in record {
          done = h.done ++ (b, u) ∷ [];
          whole = next ∙ sym (append_assoc h.done ((b, u) ∷ []) after);
          steps = splits-join t h.done b u (reverse new) (reverse now) (reverse old)
              (splits-same s t u (reverse new) (reverse now) agree x) h.steps;
          inside = one-more t i i' r.inside h.inside (f.0 ∙ ap is_some (trie-same s t u agree)) im is;
          outside = one-more (complement t) o o' r.outside h.outside
              (f.1 ∙ ap is_some (trie-same (complement s) (complement t) u (λ k. ap not (agree k)))) om os;
          few = (il, ol);
        }

  -- all are planned
  all-done : {s : List ℕ → Bool} {es left : List (ℕ × Trie V)} {i o : ℕ} {now old : List (Step P V)}
      (h : Planning s es left i o now old) → left ≡ [] → h.done ≡ es
  all-done h e = sym (append-nil h.done) ∙ sym (h.whole ∙ ap (λ z. h.done ++ z) e)

  -- and so is the node
  module _ (t : List ℕ → Bool) (p : List ℕ) (v : Option V) (n : ℕ) {s : List ℕ → Bool} {es left : List (ℕ × Trie V)}
      {i o : ℕ} {now old : List (Step P V)} (h : Planning s es left i o now old) (e : left ≡ [])
      (same : (k : List ℕ) → t (p ++ k) ≡ s k) where
    all : h.done ≡ es
    all = all-done h e

    inside-all : i ≡ length (edges_of (children_where (λ k. t (p ++ k)) (as_children es)))
    inside-all = h.inside ∙ ap (side_count s) all
        ∙ ap (λ cs. length (edges_of cs)) (children-same s (λ k. t (p ++ k)) (as_children es) (λ k. sym (same k)))

    outside-all : o ≡ length (edges_of (children_where (λ k. complement t (p ++ k)) (as_children es)))
    outside-all = h.outside ∙ ap (side_count (complement s)) all
        ∙ ap (λ cs. length (edges_of cs)) (children-same (complement s) (λ k. complement t (p ++ k)) (as_children es)
        (λ k. ap not (sym (same k))))

    module _ (hv : Bool) (r : Presence) (own : hv ≡ s []) (ri : r.inside ≡ nat_lt 0 i || (hv && is_some v))
        (ro : r.outside ≡ nat_lt 0 o || (not hv && is_some v)) where
      value : t (p ++ []) ≡ hv
      value = same [] ∙ sym own

      pub planned-found : IsFound t (node p v n (as_children es)) r
      planned-found = (
        ri ∙ ap₂ (λ a z. nat_lt 0 a || (z && is_some v)) inside-all (sym value)
            ∙ sym (side-some t p v n (as_children es)),
        ro ∙ ap₂ (λ a z. nat_lt 0 a || (not z && is_some v)) outside-all (sym value)
            ∙ sym (side-some (complement t) p v n (as_children es)),
      )

      whole-by : (a b : Bool) → IsCanonical (node p v n (as_children es))
          → a ≡ is_some (trie_where t (node p v n (as_children es)))
          → b ≡ is_some (trie_where (complement t) (node p v n (as_children es))) → a && b ≡ false
          → IsWhole t (node p v n (as_children es)) a
      whole-by true b w x y z = whole-inside t (node p v n (as_children es)) w
          (none-some (trie_where (complement t) (node p v n (as_children es))) (sym y ∙ z))
      whole-by false b w x y z = whole-outside t (node p v n (as_children es)) w
          (none-some (trie_where t (node p v n (as_children es))) (sym x))

      planned-by : (z : Bool) (new : List (Step P V)) → IsCanonical (node p v n (as_children es))
          → r.inside && r.outside ≡ z → AddsStep z hv i o r.inside (length old) now new
          → SplitsBy t (node p v n (as_children es)) (reverse new) (reverse old)
      planned-by true new w q x = rw x.1.1 (
        rw (value, ← inside-all, ← outside-all) x.1.0,
        children_splits-same s (λ k. t (p ++ k)) (as_children es) (reverse now) (reverse old) (λ k. sym (same k))
            (rw (← all) h.steps),
      )
      planned-by false new w q x = rw x (
        ap reverse (dropped s (as_children h.done) now old h.steps),
        whole-by r.inside r.outside w planned-found.0 planned-found.1 q,
      )

      pub planned-end : (new : List (Step P V)) → IsCanonical (node p v n (as_children es))
          → AddsOwn hv i o r (length old) now new
          → SplitsBy t (node p v n (as_children es)) (reverse new) (reverse old)
      planned-end new w x = planned-by (r.inside && r.outside) new w refl x

  -- a node that is all on one side
  pub planned-whole : (t : List ℕ → Bool) (h : Bool) (u : Trie V) (steps rest : List (Step P V)) → IsCanonical u
      → ((k : List ℕ) → t k ≡ h) → steps ≡ Whole h ∷ rest → SplitsBy t u steps rest
  planned-whole t h (node p v n cs) steps rest w a e = rw e (refl, whole-where t h (node p v n cs) w a)

-- and which sides have a pair
pub found-whole : {V E : Type 0} (t : List ℕ → Bool) (h : Bool) (u : Trie V) (r : Result Presence E) → IsCanonical u
    → ((k : List ℕ) → t k ≡ h) → IfOk r (λ f. f.inside ≡ h) → IfOk r (λ f. f.outside ≡ not h) → IfOk r (IsFound t u)
found-whole t h u (Ok f) w a i o =
    let x = whole-found t h u (whole-where t h u w a) in
    (i ∙ sym x.0, o ∙ sym x.1)
found-whole t h u (Err e) w a i o = tt
