-- The nodes of a canonical tree are the shape of its keys.
use Rattle.std.proofs.Common.{◌≡◌, ℕ, ◌<◌, ◌≤◌, ◌==◌, ◌||◌, ◌⊎◌, inl, inr, ⊎_elim, suc, Bool, true, false, List, []}
use Rattle.std.proofs.Common.{◌∷◌, ◌++◌, length, refl, sym, ap, ◌∙◌, arith, Option, Some, None, is_some, if◌then◌else◌}
use Rattle.std.proofs.Common.{Less, Equal, Greater}
use Rattle.std.proofs.lemmas.List.{map-append}
use Rattle.std.proofs.lemmas.List.Elements.{filter_map-append}
use Rattle.std.specs.List.{filter_map}
use Rattle.std.specs.Prelude.{nat_le}
use Rattle.std.proofs.lemmas.Bool.Decides.{nat_tests}
use Rattle.rart_keys.specs.ByteStrings.{bytes_eq, strip_prefix, byte_after}
use Rattle.rart_keys.specs.SortedMap.{lookup, keys_of}
use Rattle.rart_trie.specs.shapes.Shape.{with_first, without_repeats, next_bytes, contains_key, capacity_of}
use Rattle.rart_trie.specs.shapes.Shape.{NodeRecord, record_from, record_at, HasShape}
use Rattle.rart_trie.specs.tries.Trie.{Trie, node, Children, no_children, child, trie_lookup, child_lookup, pairs_of}
use Rattle.rart_trie.specs.tries.Trie.{children_pairs, edges_of, own_pair, with_prefix, nodes_of, with_records}
use Rattle.rart_trie.specs.tries.Trie.{children_with_records, prefix_of, IsCanonical, AreCanonical, Descent, by_rest}
use Rattle.rart_trie.specs.tries.Trie.{child_of, descend, descend_child, looks_up, record_of}
use Rattle.rart_keys.proofs.strings.ByteOrder.{eq-yes, eq-no, equal_or_not}
use Rattle.rart_keys.proofs.maps.SortedMaps.{equal_by_lookups}
use Rattle.rart_trie.proofs.tries.FirstBytes.{AllFirst, pairs_of-first}
use Rattle.rart_trie.proofs.tries.PairLemmas.{pairs_of-ascend, lookup-pairs_of}
use Rattle.rart_trie.proofs.tries.NodeCounts.{few_nodes, two-edges}
use Rattle.std.specs.Ordering.{nat_cmp, match_ordering}
use Rattle.rart_trie.specs.tries.Tree.{tree_lookup, tree_pairs}
use Rattle.rart_trie.proofs.tries.Descents.{Keeps, by_byte, children-by, descend-child_of, descend-ended}
use Rattle.rart_trie.proofs.tries.Descents.{descend-followed, descend-left, descends}

-- the marked tree is canonical
edges_of-with_records : {V : Type 0} (cs : Children V) → edges_of (children_with_records cs) ≡ edges_of cs
edges_of-with_records no_children = refl
edges_of-with_records (child b t cs) = ap (λ bs. b ∷ bs) (edges_of-with_records cs)

pub prefix-with_records : {V : Type 0} (t : Trie V) → prefix_of (with_records t) ≡ prefix_of t
prefix-with_records (node p v n cs) = refl

mutual
  canonical-with_records : {V : Type 0} (t : Trie V) → IsCanonical t → IsCanonical (with_records t)
  canonical-with_records (node p v n cs) w
      = (
        inl refl,
        w.1 ∙ ap (λ bs. capacity_of (length bs)) (sym (edges_of-with_records cs)),
        canonical-children_with_records 0 cs w.2,
      )

  pub canonical-children_with_records : {V : Type 0} (low : ℕ) (cs : Children V) → AreCanonical low cs
      → AreCanonical low (children_with_records cs)
  canonical-children_with_records low no_children w = tt
  canonical-children_with_records low (child b t cs) w
      = (
        w.0,
        rw (prefix-with_records t) w.1,
        canonical-with_records t w.2,
        canonical-children_with_records (suc b) cs
            w.3,
      )

pub contains_key-keys_of : {V : Type 0} (p : List ℕ) (es : List (List ℕ × V))
    → contains_key (keys_of es) p ≡ is_some (lookup p es)
contains_key-keys_of p [] = refl
contains_key-keys_of p (e ∷ es) = elim (bytes_eq e.0 p) as (λ b. (b || contains_key (keys_of es) p)
    ≡ is_some (if b then Some e.1 else lookup p es)) [ true ↦ refl | false ↦ contains_key-keys_of p es ]

-- the next bytes of the keys after p, with repetitions
abbrev steps : {V : Type 0} → List ℕ → List (List ℕ × V) → List ℕ
steps p es = filter_map (byte_after p) (keys_of es)

steps-append : {V : Type 0} (p : List ℕ) (xs ys : List (List ℕ × V)) → steps p (xs ++ ys) ≡ steps p xs ++ steps p ys
steps-append p xs ys = ap (filter_map (byte_after p)) (map-append (λ e. e.0) xs ys)
    ∙ filter_map-append (byte_after p) (keys_of xs) (keys_of ys)

-- after a prefix that begins p
after-with_prefix : (q p r k : List ℕ) → strip_prefix q p ≡ Some r → byte_after p (q ++ k) ≡ byte_after r k
after-with_prefix [] p r k s = let e : p ≡ r = cc in ap (λ z. byte_after z k) e
after-with_prefix (x ∷ q) [] r k s = cc
after-with_prefix (x ∷ q) (y ∷ p) r k s = elim (x == y) as (λ b. (if b then strip_prefix q p else None) ≡ Some r
    → (if b then byte_after p (q ++ k) else None) ≡ byte_after r k) [
      | true ↦ λ h. after-with_prefix q p r k h
      | false ↦ λ h. cc
    ] s

steps-with_prefix : {V : Type 0} (q p r : List ℕ) (es : List (List ℕ × V)) → strip_prefix q p ≡ Some r
    → steps p (with_prefix q es) ≡ steps r es
steps-with_prefix q p r [] s = refl
steps-with_prefix q p r (e ∷ es) s = rw (after-with_prefix q p r e.0 s, steps-with_prefix q p r es s) refl

-- after a prefix that doesn't: all continue alike
after-apart : (q p k : List ℕ) → strip_prefix q p ≡ None → byte_after p (q ++ k) ≡ byte_after p q
after-apart [] p k s = cc
after-apart (x ∷ q) [] k s = refl
after-apart (x ∷ q) (y ∷ p) k s = elim (x == y) as (λ b. (if b then strip_prefix q p else None) ≡ None
    → (if b then byte_after p (q ++ k) else None) ≡ (if b then byte_after p q else None))
    [ true ↦ λ h. after-apart q p k h | false ↦ λ h. refl ] s

abbrev AreLone : Option ℕ → List ℕ → Type 0
AreLone o [] = Unit {0}
AreLone o (b ∷ []) = o ≡ Some b
AreLone o (b ∷ c ∷ bs) = ⊥

lone-with_first : (x : ℕ) (bs : List ℕ) → AreLone (Some x) bs → AreLone (Some x) (with_first x bs)
lone-with_first x [] h = refl
lone-with_first x (b ∷ []) h = let e : x ≡ b = cc in rw (eq-yes x b e) h
lone-with_first x (b ∷ c ∷ bs) h = absurd h

steps-apart : {V : Type 0} (q p : List ℕ) (es : List (List ℕ × V)) (o : Option ℕ) → strip_prefix q p ≡ None
    → byte_after p q ≡ o → AreLone o (without_repeats (steps p (with_prefix q es)))
steps-apart q p [] o s a = tt
steps-apart q p (e ∷ es) None s a = rw (after-apart q p e.0 s, a) (steps-apart q p es None s a)
steps-apart q p (e ∷ es) (Some x) s a = rw (after-apart q p e.0 s, a)
    (lone-with_first x (without_repeats (steps p (with_prefix q es))) (steps-apart q p es (Some x) s a))

record-lone : (o : Option ℕ) (bs : List ℕ) → AreLone o bs → record_from false bs ≡ None
record-lone o [] h = refl
record-lone o (b ∷ []) h = refl
record-lone o (b ∷ c ∷ bs) h = absurd h

-- those of the keys that begin with a byte
steps-by : {V : Type 0} (c : ℕ) (r : List ℕ) (es : List (List ℕ × V)) → steps (c ∷ r) es ≡ steps (c ∷ r) (by_byte c es)
steps-by c r [] = refl
steps-by c r (([], v) ∷ es) = steps-by c r es
steps-by c r ((x ∷ k, v) ∷ es) = ⊎_elim (λ e. rw (eq-yes x c e) (rw (eq-yes x c e, steps-by c r es) refl))
    (λ n. rw (eq-no x c n) (steps-by c r es)) (equal_or_not x c)

steps-own_pair : {V : Type 0} (p : List ℕ) (v : Option V) (es : List (List ℕ × V))
    → steps p (own_pair v ++ es) ≡ steps p es
steps-own_pair p None es = refl
steps-own_pair [] (Some v) es = refl
steps-own_pair (c ∷ r) (Some v) es = refl

-- from nothing: the bytes of the children
with_first-with_first : (x : ℕ) (bs : List ℕ) → with_first x (with_first x bs) ≡ with_first x bs
with_first-with_first x [] = rw (eq-yes x x refl) refl
with_first-with_first x (b ∷ bs) = ⊎_elim (λ e. rw (eq-yes x b e, eq-yes x b e) refl)
    (λ z. rw (eq-no x b z, eq-yes x x refl) refl) (equal_or_not x b)

without_repeats-run : {V : Type 0} (b : ℕ) (es : List (List ℕ × V)) (bs : List ℕ) → AllFirst b es → 0 < length es
    → without_repeats (steps [] es ++ bs) ≡ with_first b (without_repeats bs)
without_repeats-run b [] bs f l = absurd (omega arith)
without_repeats-run b (([], v) ∷ es) bs f l = absurd f.0
without_repeats-run b ((x ∷ k, v) ∷ []) bs f l = ap (λ z. with_first z (without_repeats bs)) f.0
without_repeats-run b ((x ∷ k, v) ∷ e ∷ es) bs f l
    = ap (λ z. with_first z (without_repeats (steps [] (e ∷ es) ++ bs))) f.0
    ∙ ap (with_first b) (without_repeats-run b (e ∷ es) bs f.1 (omega arith))
    ∙ with_first-with_first b (without_repeats bs)

with_first-children : {V : Type 0} (b : ℕ) (cs : Children V) → AreCanonical (suc b) cs
    → with_first b (edges_of cs) ≡ b ∷ edges_of cs
with_first-children b no_children w = refl
with_first-children b (child c t cs) w = rw (eq-no b c (λ e. omega (arith, w.0))) refl

without_repeats-children : {V : Type 0} (low : ℕ) (cs : Children V) → AreCanonical low cs
    → without_repeats (steps [] (children_pairs cs)) ≡ edges_of cs
without_repeats-children low no_children w = refl
without_repeats-children low (child b t cs) w = ap without_repeats (steps-append [] (pairs_of t) (children_pairs cs)) ∙
    without_repeats-run b (pairs_of t) (steps [] (children_pairs cs)) (pairs_of-first b t w.1)
    (omega (arith, few_nodes t w.2)) ∙ ap (with_first b) (without_repeats-children (suc b) cs w.3)
    ∙ with_first-children b cs w.3

pub two_is : (n : ℕ) → 2 ≤ n → nat_le 2 n ≡ true
two_is n h = grind (arith, nat_tests)

-- a node of a canonical tree is at a branch point
record-node : (h : Bool) (bs : List ℕ) (n : ℕ) → (h ≡ true) ⊎ (2 ≤ length bs) → n ≡ capacity_of (length bs)
    → Some (record { holds_value = h; edges = bs; capacity = n }) ≡ record_from h bs
record-node true bs n c e = ap (λ z. Some (record { holds_value = true; edges = bs; capacity = z })) e
record-node false bs n c e = ⊎_elim (λ h. cc)
    (λ h. rw (two_is (length bs) h) (ap (λ z. Some (record { holds_value = false; edges = bs; capacity = z })) e)) c

-- the record of the node at which a key ends
abbrev pub records : {V : Type 0} → Descent V (Option NodeRecord)
records = record { left = λ k t. None; ended = λ t. Some (record_of t); absent = None; on = λ t r. r }

-- it is what the marked tree holds
mutual
  pub lookup-records : {V : Type 0} (k : List ℕ) (t : Trie V) → trie_lookup k (with_records t) ≡ descend records k t
  lookup-records k (node p v n cs) = elim (strip_prefix p k)
      as (λ o. by_rest None (Some (record_of (node p v n cs))) (λ x. x) o
      (λ b r. child_lookup b r (children_with_records cs))
      ≡ by_rest None (Some (record_of (node p v n cs))) (λ x. x) o (λ b r. descend_child records b r cs)) [
        | None ↦ refl
        | Some r ↦ elim r as (λ r. by_rest None (Some (record_of (node p v n cs))) (λ x. x) (Some r)
            (λ b r. child_lookup b r (children_with_records cs))
            ≡ by_rest None (Some (record_of (node p v n cs))) (λ x. x) (Some r) (λ b r. descend_child records b r cs))
            [ [] ↦ refl | b ∷ r ↦ lookup-child_records b (b ∷ r) cs ]
      ]

  lookup-child_records : {V : Type 0} (b : ℕ) (k : List ℕ) (cs : Children V)
      → child_lookup b k (children_with_records cs) ≡ descend_child records b k cs
  lookup-child_records b k no_children = refl
  lookup-child_records b k (child c t cs) = elim (nat_cmp b c)
      as (λ o. match_ordering o None (trie_lookup k (with_records t)) (child_lookup b k (children_with_records cs))
      ≡ match_ordering o None (descend records k t) (descend_child records b k cs)) [
        | Less ↦ refl
        | Equal ↦ lookup-records k t
        | Greater ↦ lookup-child_records b k cs
      ]

module _ {V : Type 0} where
  -- and that of the keys
  abbrev record_in : List ℕ → Option (Trie V) → Option NodeRecord
  record_in p o = record_from (is_some (tree_lookup p o)) (without_repeats (steps p (tree_pairs o)))

  records-kept : Keeps {V = V} records (λ p o a. a ≡ record_in p o)
  records-kept = record {
    absent = λ p. refl;
    left = λ p q v n cs w s. sym (ap (λ o. record_from (is_some o)
        (without_repeats (steps p (with_prefix q (own_pair v ++ children_pairs cs)))))
        (descend-left looks_up (node q v n cs) p (sym s))
        ∙ record-lone (byte_after p q) (without_repeats (steps p (with_prefix q (own_pair v ++ children_pairs cs))))
        (steps-apart q p (own_pair v ++ children_pairs cs) (byte_after p q) s refl));
    ended = λ p q v n cs w s. record-node (is_some v) (edges_of cs) n
        (⊎_elim (λ h. inl h) (λ h. inr (two-edges cs h)) w.0) w.1
        ∙ sym (ap (λ o. record_from (is_some o) (without_repeats
        (steps p (with_prefix q (own_pair v ++ children_pairs cs)))))
        (descend-ended looks_up (node q v n cs) p [] (sym s) refl)
        ∙ ap (λ bs. record_from (is_some v) (without_repeats bs))
        (steps-with_prefix q p [] (own_pair v ++ children_pairs cs) s ∙ steps-own_pair [] v (children_pairs cs))
        ∙ ap (record_from (is_some v)) (without_repeats-children 0 cs w.2));
    on = λ p q v n cs b r a w s h. h
        ∙ sym (ap (λ o. record_from (is_some o) (without_repeats
        (steps p (with_prefix q (own_pair v ++ children_pairs cs)))))
        (descend-followed looks_up q p (b ∷ r) b v n cs (sym s) refl ∙ descend-child_of looks_up b 0 (b ∷ r) cs w.2)
        ∙ ap (λ bs. record_from (is_some (tree_lookup (b ∷ r) (child_of b cs))) (without_repeats bs))
        (steps-with_prefix q p (b ∷ r) (own_pair v ++ children_pairs cs) s
        ∙ steps-own_pair (b ∷ r) v (children_pairs cs) ∙ steps-by b r (children_pairs cs)
        ∙ ap (steps (b ∷ r)) (children-by b 0 cs w.2)));
  }

  pub records-at : (p : List ℕ) (t : Trie V) → IsCanonical t → descend records p t ≡ record_at (keys_of (pairs_of t)) p
  records-at p t w = descends records (λ p o a. a ≡ record_in p o) records-kept p (Some t) w
      ∙ ap (λ h. record_from h (next_bytes (keys_of (pairs_of t)) p))
      (sym (contains_key-keys_of p (pairs_of t) ∙ ap is_some (lookup-pairs_of p t w)))

  pub record_is : (p : List ℕ) (t : Trie V) → IsCanonical t
      → trie_lookup p (with_records t) ≡ record_at (keys_of (pairs_of t)) p
  record_is p t w = lookup-records p t ∙ records-at p t w

  pub nodes_of-shape : (t : Trie V) → IsCanonical t → HasShape (keys_of (pairs_of t)) (nodes_of t)
  nodes_of-shape t w = let z = canonical-with_records t w in record {
    ascending = pairs_of-ascend (with_records t) z;
    each = λ p. lookup-pairs_of p (with_records t) z ∙ record_is p t w;
  }

pub one_shape : (s : List (List ℕ)) (xs ys : List (List ℕ × NodeRecord)) → HasShape s xs → HasShape s ys → xs ≡ ys
one_shape s xs ys g h = equal_by_lookups xs ys g.ascending h.ascending (λ p. g.each p ∙ sym (h.each p))

-- trees with equal keys have equal nodes, whatever their values
pub equal_nodes : {V W : Type 0} (t : Trie V) (u : Trie W) → IsCanonical t → IsCanonical u
    → keys_of (pairs_of t) ≡ keys_of (pairs_of u) → nodes_of t ≡ nodes_of u
equal_nodes t u w z e = one_shape (keys_of (pairs_of u)) (nodes_of t) (nodes_of u) (rw (← e) (nodes_of-shape t w))
    (nodes_of-shape u z)

-- where there is no record there is no key
no_record-no_key : (h : Bool) (bs : List ℕ) → record_from h bs ≡ None → h ≡ false
no_record-no_key true bs e = absurd (cc)
no_record-no_key false bs e = refl

no_some : {V : Type 0} (o : Option V) → is_some o ≡ false → o ≡ None
no_some None e = refl
no_some (Some x) e = absurd (cc)

pub new-key : {V : Type 0} (p : List ℕ) (es : List (List ℕ × V)) → record_at (keys_of es) p ≡ None → lookup p es ≡ None
new-key p es e = no_some (lookup p es) (sym (contains_key-keys_of p es)
    ∙ no_record-no_key (contains_key (keys_of es) p) (next_bytes (keys_of es) p) e)
