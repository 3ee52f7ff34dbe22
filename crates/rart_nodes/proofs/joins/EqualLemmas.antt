-- Canonical tries are equal node by node exactly where their pairs are equal.
use Rattle.std.proofs.Common.{◌≡◌, ℕ, ◌<◌, ◌&&◌, ◌==◌, ⊎_elim, suc, not, Bool, true, false, List, [], ◌∷◌, ◌++◌, length}
use Rattle.std.proofs.Common.{Option, Some, None, MatchOption, refl, sym, ap, ◌∙◌, arith, length-append, is_some}
use Rattle.std.proofs.Common.{subst}
use Rattle.rart_keys.specs.SortedMap.{keys_of}
use Rattle.std.specs.Prelude.{nat_eq}
use Rattle.std.specs.Cmp.Lexicographic.{nat_list_eq_equiv, pointwise, same_text}
use Rattle.std.proofs.Math.Bool.{and_assoc}
use Rattle.std.proofs.lemmas.Bool.{and_parts, cases_Bool, false_from_ne_true}
use Rattle.std.proofs.lemmas.List.{append-nil}
use Rattle.rart_keys.specs.ByteStrings.{begins}
use Rattle.rart_keys.proofs.strings.ByteOrder.{eq-yes, eq-no, equal_or_not}
use Rattle.rart_trie.specs.tries.CanonicalTest.{is_canonical}
use Rattle.rart_nodes.specs.tries.Equal.{same_pairs, same_value, same_tries, same_children}
use Rattle.rart_trie.specs.tries.PrefixLaws.{prefix-append}
use Rattle.rart_trie.specs.tries.Tree.{tree_nodes, tree_pairs}
use Rattle.rart_trie.specs.tries.Trie.{Trie, node, Children, no_children, child, children_pairs, own_pair, pairs_of}
use Rattle.rart_trie.specs.tries.Trie.{children_in, prefix_of, value_of, with_prefix, StartsWith, IsCanonical}
use Rattle.rart_trie.specs.tries.Trie.{AreCanonical}
use Rattle.rart_trie.specs.tries.TrieCode.{node_count}
use Rattle.rart_trie.proofs.tree_stats.CountedStats.{node_count-nodes_of}
use Rattle.rart_trie.proofs.tries.CanonicalTests.{IsCanonical-test}
use Rattle.rart_trie.proofs.tries.FirstBytes.{AllFirst, AllFrom, IsFrom, children_pairs-from, pairs_of-first}
use Rattle.rart_trie.proofs.tries.NodeCounts.{some-pairs}

begins-own : (p k : List ℕ) → begins p (p ++ k) ≡ true
begins-own [] k = refl
begins-own (x ∷ p) k = rw (eq-yes x x refl) (begins-own p k)

begins-equal : (p q : List ℕ) → begins p q ≡ true → begins q p ≡ true → p ≡ q
begins-equal [] [] h k = refl
begins-equal [] (y ∷ q) h k = absurd (cc)
begins-equal (x ∷ p) [] h k = absurd (cc)
begins-equal (x ∷ p) (y ∷ q) h k = ⊎_elim
    (λ e. rw e (ap (λ z. y ∷ z) (begins-equal p q (rw (eq-yes x y e) at h) (rw (eq-yes y x (sym e)) at k))))
    (λ n. let f : false ≡ true = rw (eq-no x y n) at h in absurd (cc)) (equal_or_not x y)

-- what begins two strings that part after q begins q
begins-parted : (r q k l : List ℕ) (b c : ℕ) → (b ≡ c → ⊥) → begins r (q ++ b ∷ k) ≡ true
    → begins r (q ++ c ∷ l) ≡ true → begins r q ≡ true
begins-parted [] q k l b c n h g = refl
begins-parted (x ∷ r) [] k l b c n h g = ⊎_elim
    (λ e. ⊎_elim (λ f. absurd (n (sym e ∙ f)))
    (λ f. let z : false ≡ true = rw (eq-no x c f) at g in absurd (cc)) (equal_or_not x c))
    (λ e. let z : false ≡ true = rw (eq-no x b e) at h in absurd (cc)) (equal_or_not x b)
begins-parted (x ∷ r) (y ∷ q) k l b c n h g = ⊎_elim
    (λ e. rw (eq-yes x y e) (begins-parted r q k l b c n (rw (eq-yes x y e) at h) (rw (eq-yes x y e) at g)))
    (λ e. let z : false ≡ true = rw (eq-no x y e) at h in absurd (cc)) (equal_or_not x y)

-- a string begins each
abbrev AreBegun : List ℕ → List (List ℕ) → Type 0
AreBegun r [] = Unit {0}
AreBegun r (k ∷ ks) = (begins r k ≡ true) × AreBegun r ks

texts-after : (p k l : List ℕ) → pointwise nat_eq (p ++ k) (p ++ l) ≡ pointwise nat_eq k l
texts-after [] k l = refl
texts-after (x ∷ p) k l = rw (eq-yes x x refl) (texts-after p k l)

texts-apart : (b c : ℕ) (k l : List ℕ) → (b ≡ c → ⊥) → StartsWith b k → StartsWith c l → pointwise nat_eq k l ≡ false
texts-apart b c [] l n f g = absurd f
texts-apart b c (x ∷ k) [] n f g = absurd g
texts-apart b c (x ∷ k) (y ∷ l) n f g = rw (eq-no x y (λ e. n (sym f ∙ e ∙ g))) refl

texts-above : (b : ℕ) (k l : List ℕ) → StartsWith b k → IsFrom (suc b) l → pointwise nat_eq k l ≡ false
texts-above b [] l f g = absurd f
texts-above b (x ∷ k) [] f g = absurd g
texts-above b (x ∷ k) (y ∷ l) f g = rw (eq-no x y (λ e. omega (arith, e, f, g))) refl

texts-below : (b : ℕ) (k l : List ℕ) → IsFrom (suc b) k → StartsWith b l → pointwise nat_eq k l ≡ false
texts-below b [] l f g = absurd f
texts-below b (x ∷ k) [] f g = absurd g
texts-below b (x ∷ k) (y ∷ l) f g = rw (eq-no x y (λ e. omega (arith, e, f, g))) refl

module _ {V : Type 0} (eq : V → V → Bool) where
  abbrev same_pair : List ℕ × V → List ℕ × V → Bool
  same_pair x y = pointwise nat_eq x.0 y.0 && eq x.1 y.1

  -- a string begins each key
  abbrev AllBegin : List ℕ → List (List ℕ × V) → Type 0
  AllBegin r es = AreBegun r (keys_of es)

  begin-left : (r : List ℕ) (xs ys : List (List ℕ × V)) → AllBegin r (xs ++ ys) → AllBegin r xs
  begin-left r [] ys h = tt
  begin-left r (x ∷ xs) ys h = (h.0, begin-left r xs ys h.1)

  begin-right : (r : List ℕ) (xs ys : List (List ℕ × V)) → AllBegin r (xs ++ ys) → AllBegin r ys
  begin-right r [] ys h = h
  begin-right r (x ∷ xs) ys h = begin-right r xs ys h.1

  begin-own : (p : List ℕ) (es : List (List ℕ × V)) → AllBegin p (with_prefix p es)
  begin-own p [] = tt
  begin-own p (e ∷ es) = (begins-own p e.0, begin-own p es)

  begin-node : (t : Trie V) → AllBegin (prefix_of t) (pairs_of t)
  begin-node (node p v n cs) = begin-own p (own_pair v ++ children_pairs cs)

  -- the keys of equal pairs are equal
  same-keys : (xs ys : List (List ℕ × V)) → same_pairs eq xs ys ≡ true → keys_of xs ≡ keys_of ys
  same-keys [] [] s = refl
  same-keys [] (y ∷ ys) s = absurd (cc)
  same-keys (x ∷ xs) [] s = absurd (cc)
  same-keys (x ∷ xs) (y ∷ ys) s =
      let both = and_parts (same_pair x y) (same_pairs eq xs ys) s in
      let key : x.0 ≡ y.0 = same_text x.0 y.0 (sym (and_parts (pointwise nat_eq x.0 y.0) (eq x.1 y.1) both.0).0) in
      ap (λ z. z ∷ keys_of xs) key ∙ ap (λ z. y.0 ∷ z) (same-keys xs ys both.1)

  -- the first key of a child
  first-key : (r q : List ℕ) (b : ℕ) (t : Trie V) → IsCanonical t → StartsWith b (prefix_of t)
      → AllBegin r (with_prefix q (pairs_of t)) → (k : List ℕ) × (begins r (q ++ b ∷ k) ≡ true)
  first-key r q b t w f h = of-list (pairs_of t) (pairs_of-first b t f) (some-pairs t w) h
    where
      of-list : (es : List (List ℕ × V)) → AllFirst b es → 0 < length es → AllBegin r (with_prefix q es)
          → (k : List ℕ) × (begins r (q ++ b ∷ k) ≡ true)
      of-list [] a l g = absurd (omega arith)
      of-list (([], v) ∷ es) a l g = absurd a.0
      of-list ((x ∷ k, v) ∷ es) a l g = (k, ap (λ z. begins r (q ++ z ∷ k)) (sym a.0) ∙ g.0)

  -- a node's prefix is the longest string that begins its keys
  prefix-longest : (r : List ℕ) (t : Trie V) → IsCanonical t → AllBegin r (pairs_of t) → begins r (prefix_of t) ≡ true
  prefix-longest r (node q (Some v) n cs) w h = ap (begins r) (sym (append-nil q)) ∙ h.0
  prefix-longest r (node q None n no_children) w h = absurd (⊎_elim (λ i. cc) (λ i. i) w.0)
  prefix-longest r (node q None n (child b t no_children)) w h = absurd (⊎_elim (λ i. cc) (λ i. i) w.0)
  prefix-longest r (node q None n (child b t (child c u cs))) w h =
      let all = rw (prefix-append q (pairs_of t) (pairs_of u ++ children_pairs cs)) at h in
      let more = rw (prefix-append q (pairs_of u) (children_pairs cs)) at (begin-right r (with_prefix q (pairs_of t))
      (with_prefix q (pairs_of u ++ children_pairs cs)) all) in
      let one = first-key r q b t w.2.2 w.2.1
      (begin-left r (with_prefix q (pairs_of t)) (with_prefix q (pairs_of u ++ children_pairs cs)) all) in
      let two = first-key r q c u w.2.3.2 w.2.3.1
      (begin-left r (with_prefix q (pairs_of u)) (with_prefix q (children_pairs cs)) more) in
      begins-parted r q one.0 two.0 b c (λ e. omega (arith, e, w.2.3.0)) one.1 two.1

  -- pairs after the same prefix
  pairs-after : (p : List ℕ) (xs ys : List (List ℕ × V)) → same_pairs eq (with_prefix p xs) (with_prefix p ys)
      ≡ same_pairs eq xs ys
  pairs-after p [] [] = refl
  pairs-after p [] (y ∷ ys) = refl
  pairs-after p (x ∷ xs) [] = refl
  pairs-after p (x ∷ xs) (y ∷ ys) = rw (texts-after p x.0 y.0, pairs-after p xs ys) refl

  -- the pairs that begin with b, and those above
  above-apart : (b : ℕ) (x : List ℕ × V) (xs ys : List (List ℕ × V)) → StartsWith b x.0 → AllFrom (suc b) ys
      → same_pairs eq (x ∷ xs) ys ≡ false
  above-apart b x xs [] f g = refl
  above-apart b x xs (y ∷ ys) f g = rw (texts-above b x.0 y.0 f g.0) refl

  below-apart : (b : ℕ) (y : List ℕ × V) (xs ys : List (List ℕ × V)) → AllFrom (suc b) xs → StartsWith b y.0
      → same_pairs eq xs (y ∷ ys) ≡ false
  below-apart b y [] ys f g = refl
  below-apart b y (x ∷ xs) ys f g = rw (texts-below b x.0 y.0 f.0 g) refl

  pairs-split : (b : ℕ) (xs ys us vs : List (List ℕ × V)) → AllFirst b xs → AllFrom (suc b) ys → AllFirst b us
      → AllFrom (suc b) vs → same_pairs eq (xs ++ ys) (us ++ vs) ≡ (same_pairs eq xs us && same_pairs eq ys vs)
  pairs-split b [] ys [] vs f g h i = refl
  pairs-split b [] ys (u ∷ us) vs f g h i = below-apart b u ys (us ++ vs) g h.0
  pairs-split b (x ∷ xs) ys [] vs f g h i = above-apart b x (xs ++ ys) vs f.0 i
  pairs-split b (x ∷ xs) ys (u ∷ us) vs f g h i
      = ap (λ z. same_pair x u && z) (pairs-split b xs ys us vs f.1 g h.1 i)
      ∙ sym (and_assoc (same_pair x u) (same_pairs eq xs us) (same_pairs eq ys vs))

  first-apart : (b c : ℕ) (xs ys us vs : List (List ℕ × V)) → (b ≡ c → ⊥) → 0 < length xs → 0 < length us
      → AllFirst b xs → AllFirst c us → same_pairs eq (xs ++ ys) (us ++ vs) ≡ false
  first-apart b c [] ys us vs n l m f g = absurd (omega arith)
  first-apart b c (x ∷ xs) ys [] vs n l m f g = absurd (omega arith)
  first-apart b c (x ∷ xs) ys (u ∷ us) vs n l m f g = rw (texts-apart b c x.0 u.0 n f.0 g.0) refl

  some-apart : (xs : List (List ℕ × V)) → 0 < length xs → same_pairs eq xs [] ≡ false
  some-apart [] l = absurd (omega arith)
  some-apart (x ∷ xs) l = refl

  none-apart : (ys : List (List ℕ × V)) → 0 < length ys → same_pairs eq [] ys ≡ false
  none-apart [] l = absurd (omega arith)
  none-apart (y ∷ ys) l = refl

  -- a node's own value, and what is below it
  own-apart : (v : V) (es es' : List (List ℕ × V)) → AllFrom 0 es → same_pairs eq (([], v) ∷ es') es ≡ false
  own-apart v [] es' f = refl
  own-apart v (([], x) ∷ es) es' f = absurd f.0
  own-apart v ((b ∷ k, x) ∷ es) es' f = refl

  apart-own : (v : V) (es es' : List (List ℕ × V)) → AllFrom 0 es → same_pairs eq es (([], v) ∷ es') ≡ false
  apart-own v [] es' f = refl
  apart-own v (([], x) ∷ es) es' f = absurd f.0
  apart-own v ((b ∷ k, x) ∷ es) es' f = refl

  own-split : (v u : Option V) (xs ys : List (List ℕ × V)) → AllFrom 0 xs → AllFrom 0 ys
      → same_pairs eq (own_pair v ++ xs) (own_pair u ++ ys) ≡ (same_value eq v u && same_pairs eq xs ys)
  own-split None None xs ys f g = refl
  own-split None (Some u) xs ys f g = apart-own u xs ys f
  own-split (Some v) None xs ys f g = own-apart v ys xs g
  own-split (Some v) (Some u) xs ys f g = refl

  mutual
    same-pairs : (t u : Trie V) → IsCanonical t → IsCanonical u → same_pairs eq (pairs_of t) (pairs_of u)
        ≡ same_tries eq t u
    same-pairs (node p v n cs) (node q u m ds) w x = ⊎_elim
        (λ e. let s : p ≡ q = same_text p q (sym e) in
        rw (e, s) (pairs-after q (own_pair v ++ children_pairs cs) (own_pair u ++ children_pairs ds)
        ∙ own-split v u (children_pairs cs) (children_pairs ds) (children_pairs-from 0 cs w.2)
        (children_pairs-from 0 ds x.2) ∙ ap (λ z. same_value eq v u && z) (same-children 0 0 cs ds w.2 x.2)))
        (λ e. rw e (false_from_ne_true (same_pairs eq (pairs_of (node p v n cs)) (pairs_of (node q u m ds))) (λ s.
        let keys = same-keys (pairs_of (node p v n cs)) (pairs_of (node q u m ds)) s in
        let one = prefix-longest p (node q u m ds) x (subst (AreBegun p) keys (begin-node (node p v n cs))) in
        let two = prefix-longest q (node p v n cs) w (subst (AreBegun q) (sym keys) (begin-node (node q u m ds))) in
        let same : p ≡ q = begins-equal p q one two in
        let f : true ≡ false = sym (nat_list_eq_equiv.refl q) ∙ ap (λ z. pointwise nat_eq z q) (sym same) ∙ e in cc)))
        (cases_Bool (pointwise nat_eq p q))

    same-children : (low high : ℕ) (cs ds : Children V) → AreCanonical low cs → AreCanonical high ds
        → same_pairs eq (children_pairs cs) (children_pairs ds) ≡ same_children eq cs ds
    same-children low high no_children no_children w x = refl
    same-children low high no_children (child c u ds) w x
        = none-apart (pairs_of u ++ children_pairs ds)
        (omega (arith, some-pairs u x.2, length-append (pairs_of u) (children_pairs ds)))
    same-children low high (child b t cs) no_children w x
        = some-apart (pairs_of t ++ children_pairs cs)
        (omega (arith, some-pairs t w.2, length-append (pairs_of t) (children_pairs cs)))
    same-children low high (child b t cs) (child c u ds) w x = ⊎_elim
        (λ e. rw (eq-yes b c e) (pairs-split c (pairs_of t) (children_pairs cs) (pairs_of u) (children_pairs ds)
        (pairs_of-first c t (rw e at w.1)) (children_pairs-from (suc c) cs (rw e at w.3)) (pairs_of-first c u x.1)
        (children_pairs-from (suc c) ds x.3)
        ∙ rw (same-pairs t u w.2 x.2, same-children (suc b) (suc c) cs ds w.3 x.3) refl))
        (λ n. rw (eq-no b c n) (first-apart b c (pairs_of t) (children_pairs cs) (pairs_of u) (children_pairs ds) n
        (some-pairs t w.2) (some-pairs u x.2) (pairs_of-first b t w.1) (pairs_of-first c u x.1)))
        (equal_or_not b c)

  -- Two nodes of equal prefixes and values, one of which has no more children: they are equal if the other has none
  -- either.
  pub end-together : {A : Type 0} (t u : Trie V) (r : Bool) (o : Option A) (cs ds es : Children V) (f : A → Children V)
      → pointwise nat_eq (prefix_of t) (prefix_of u) ≡ true → same_value eq (value_of t) (value_of u) ≡ true
      → same_children eq (children_in t) (children_in u) ≡ same_children eq cs ds → cs ≡ no_children
      → is_some o ≡ not r → MatchOption o ((ds ≡ no_children) × (es ≡ no_children)) (λ e. ds ≡ f e)
      → ((e : A) → same_children eq no_children (f e) ≡ false) → r ≡ same_tries eq t u
  end-together (node p v n cs') (node q u m ds') true None cs ds es f h i s e k l g = rw (h, i, s, e, l.0) refl
  end-together (node p v n cs') (node q u m ds') false None cs ds es f h i s e k l g = absurd (cc)
  end-together (node p v n cs') (node q u m ds') true (Some a) cs ds es f h i s e k l g = absurd (cc)
  end-together (node p v n cs') (node q u m ds') false (Some a) cs ds es f h i s e k l g
      = rw (h, i, s, e, l) (sym (g a))

  -- the next two children differ
  pub next-differ : (t u x : Trie V) {y : Trie V} {b c : ℕ} {cs ds xs ys : Children V}
      → same_children eq (children_in t) (children_in u) ≡ same_children eq cs ds → cs ≡ child b x xs
      → ds ≡ child c y ys → false ≡ same_tries eq x y → false ≡ same_tries eq t u
  next-differ (node p v n es) (node q w m fs) x {b} {c} h e f k = rw (h, e, f, ← k)
      (elim (pointwise nat_eq p q) as (λ z. false ≡ (z && (same_value eq v w && (b == c && false)))) [
        | true ↦ elim (same_value eq v w) as (λ z. false ≡ (z && (b == c && false))) [
          | true ↦ elim (b == c) as (λ z. false ≡ (z && false)) [ true ↦ refl | false ↦ refl ]
          | false ↦ refl
        ]
        | false ↦ refl
      ])

  -- two trees
  pub same-trees : (o p : Option (Trie V)) (t u : Trie V) → is_canonical t ≡ true → is_canonical u ≡ true → Some t ≡ o
      → Some u ≡ p → same_tries eq t u ≡ same_pairs eq (tree_pairs o) (tree_pairs p)
  same-trees o p t u w x e f = rw (← e, ← f) (sym (same-pairs t u (IsCanonical-test t w) (IsCanonical-test u x)))

  pub some-beside-none : (o p : Option (Trie V)) (t : Trie V) → is_canonical t ≡ true → Some t ≡ o → None ≡ p
      → false ≡ same_pairs eq (tree_pairs o) (tree_pairs p)
  some-beside-none o p t w e f
      = rw (← e, ← f) (sym (some-apart (pairs_of t) (some-pairs t (IsCanonical-test t w))))

  pub none-beside-some : (o p : Option (Trie V)) (u : Trie V) → is_canonical u ≡ true → None ≡ o → Some u ≡ p
      → false ≡ same_pairs eq (tree_pairs o) (tree_pairs p)
  none-beside-some o p u w e f
      = rw (← e, ← f) (sym (none-apart (pairs_of u) (some-pairs u (IsCanonical-test u w))))

-- as many nodes
pub nodes-of-root : {V : Type 0} (o : Option (Trie V)) (t : Trie V) → Some t ≡ o → length (tree_nodes o) ≡ node_count t
nodes-of-root o t e = rw (← e) (node_count-nodes_of t)
