-- Sets of strings, and the strings that begin a key.
use Rattle.std.proofs.Common.{◌≡◌, ℕ, ◌<◌, ◌==◌, ◌||◌, ◌&&◌, Bool, ⊎_elim, true, false, List, [], ◌∷◌, ◌++◌, length}
use Rattle.std.proofs.Common.{map, refl, sym, ap, ◌∙◌, arith, Option, Some, None, is_some, if◌then◌else◌}
use Rattle.std.specs.List.{filter}
use Rattle.std.proofs.Math.Bool.{or-false, or_assoc, or_self}
use Rattle.rart_keys.specs.ByteStrings.{bytes_eq, strip_prefix, begins}
use Rattle.rart_trie.specs.shapes.BranchPoints.{begins_any}
use Rattle.rart_keys.specs.SortedMap.{keys_of, IsAscending, lookup}
use Rattle.rart_trie.specs.shapes.Shape.{contains_key}
use Rattle.rart_nodes.specs.joins.SharedEdges.{starts, all_starts, set_map}
use Rattle.rart_trie.specs.tries.PrefixLaws.{length-with_prefix}
use Rattle.rart_trie.specs.tries.Tree.{tree_pairs}
use Rattle.rart_trie.specs.tries.Trie.{Trie, node, Children, pairs_of, children_pairs, own_pair, with_prefix}
use Rattle.rart_trie.specs.tries.Trie.{IsCanonical}
use Rattle.rart_keys.proofs.strings.ByteOrder.{eq-yes, eq-no, equal_or_not, bytes_eq-equal, bytes_eq-itself}
use Rattle.rart_keys.proofs.maps.SortedMaps.{ascending-put, lookup-put}
use Rattle.rart_trie.proofs.tries.Descents.{Keeps, by_byte, children-by, descends}
use Rattle.rart_trie.proofs.tries.NodeCounts.{few_nodes}
use Rattle.rart_trie.proofs.tries.PrefixedStrings.{begins-after, begins-apart}
use Rattle.rart_nodes.proofs.joins.Reach.{reaching, reaches}

-- sets
pub set-ascends : (xs : List (List ℕ)) → IsAscending (set_map xs)
set-ascends [] = tt
set-ascends (x ∷ xs) = ascending-put x tt (set_map xs) (set-ascends xs)

pub lookup-set : (x : List ℕ) (xs : List (List ℕ)) → is_some (lookup x (set_map xs)) ≡ contains_key xs x
lookup-set x [] = refl
lookup-set x (y ∷ ys) = ap is_some (lookup-put x y tt (set_map ys))
    ∙ rw (← lookup-set x ys) (elim (bytes_eq y x) as (λ b. is_some (if b then Some tt else lookup x (set_map ys))
    ≡ (b || is_some (lookup x (set_map ys)))) [ true ↦ refl | false ↦ refl ])

pub contains-filter : (f : List ℕ → Bool) (x : List ℕ) (xs : List (List ℕ))
    → contains_key (filter f xs) x ≡ (f x && contains_key xs x)
contains-filter f x [] = elim (f x) as (λ b. false ≡ (b && false)) [ true ↦ refl | false ↦ refl ]
contains-filter f x (y ∷ ys) = elim (bytes_eq y x) as (λ b. bytes_eq y x ≡ b
    → contains_key (if f y then y ∷ filter f ys else filter f ys) x ≡ (f x && (b || contains_key ys x))) [
      | true ↦ λ s. rw (bytes_eq-equal y x s) (elim (f x) as (λ b. f x ≡ b
          → contains_key (if b then x ∷ filter f ys else filter f ys) x ≡ (b && true)) [
            | true ↦ λ g. rw (bytes_eq-itself x) refl
            | false ↦ λ g. contains-filter f x ys ∙ rw g refl
          ] refl)
      | false ↦ λ s. rw (← contains-filter f x ys)
          (elim (f y) as (λ b. contains_key (if b then y ∷ filter f ys else filter f ys) x
          ≡ contains_key (filter f ys) x)
          [ true ↦ rw s refl | false ↦ refl ])
    ] refl

contains-append : (x : List ℕ) (xs ys : List (List ℕ))
    → contains_key (xs ++ ys) x ≡ (contains_key xs x || contains_key ys x)
contains-append x [] ys = refl
contains-append x (z ∷ xs) ys = rw (contains-append x xs ys)
    (sym (or_assoc (bytes_eq z x) (contains_key xs x) (contains_key ys x)))

contains-longer : (b y : ℕ) (x : List ℕ) (xs : List (List ℕ)) → contains_key (map (λ z. b ∷ z) xs) (y ∷ x)
    ≡ (if b == y then contains_key xs x else false)
contains-longer b y x [] = elim (b == y) as (λ o. false ≡ (if o then false else false)) [ true ↦ refl | false ↦ refl ]
contains-longer b y x (z ∷ xs) = rw (contains-longer b y x xs)
    (elim (b == y) as (λ o. ((if o then bytes_eq z x else false) || (if o then contains_key xs x else false))
    ≡ (if o then (bytes_eq z x || contains_key xs x) else false)) [ true ↦ refl | false ↦ refl ])

contains-starts : (y : ℕ) (x k : List ℕ) → contains_key (starts k) (y ∷ x) ≡ begins (y ∷ x) k
contains-starts y x [] = refl
contains-starts y [] (b ∷ k) = rw (contains-longer b y [] (starts k))
    (⊎_elim (λ e. rw (eq-yes b y e, eq-yes y b (sym e)) refl) (λ d. rw (eq-no b y d, eq-no y b (λ e. d (sym e))) refl)
    (equal_or_not b y))
contains-starts y (z ∷ x) (b ∷ k) = rw (contains-longer b y (z ∷ x) (starts k), contains-starts z x k)
    (⊎_elim (λ e. rw (eq-yes b y e, eq-yes y b (sym e)) refl) (λ d. rw (eq-no b y d, eq-no y b (λ e. d (sym e))) refl)
    (equal_or_not b y))

pub contains-all_starts : (y : ℕ) (x : List ℕ) (s : List (List ℕ)) → contains_key (all_starts s) (y ∷ x)
    ≡ begins_any (y ∷ x) s
contains-all_starts y x [] = refl
contains-all_starts y x (k ∷ s) = contains-append (y ∷ x) (starts k) (all_starts s)
    ∙ ap (λ z. z || contains_key (all_starts s) (y ∷ x)) (contains-starts y x k)
    ∙ ap (λ z. begins (y ∷ x) k || z) (contains-all_starts y x s)

-- beginnings of keys
module _ {V : Type 0} where
  any-some : (q p r : List ℕ) (es : List (List ℕ × V)) → strip_prefix q p ≡ Some r
      → begins_any p (keys_of (with_prefix q es)) ≡ begins_any r (keys_of es)
  any-some q p r [] s = refl
  any-some q p r (e ∷ es) s = ap (λ z. z || begins_any p (keys_of (with_prefix q es))) (begins-after q p r e.0 s)
      ∙ ap (λ z. begins r e.0 || z) (any-some q p r es s)

  any-apart : (q p : List ℕ) (es : List (List ℕ × V)) → strip_prefix q p ≡ None → 0 < length es
      → begins_any p (keys_of (with_prefix q es)) ≡ begins p q
  any-apart q p [] s h = absurd (omega arith)
  any-apart q p (e ∷ []) s h = ap (λ z. z || false) (begins-apart q p e.0 s) ∙ or-false (begins p q)
  any-apart q p (e ∷ f ∷ es) s h = ap (λ z. z || begins_any p (keys_of (with_prefix q (f ∷ es))))
      (begins-apart q p e.0 s) ∙ ap (λ z. begins p q || z) (any-apart q p (f ∷ es) s (omega arith))
      ∙ or_self (begins p q)

  any-nil : (es : List (List ℕ × V)) → 0 < length es → begins_any [] (keys_of es) ≡ true
  any-nil [] h = absurd (omega arith)
  any-nil (e ∷ es) h = refl

  any-here : (b : ℕ) (r : List ℕ) (v : Option V) (es : List (List ℕ × V))
      → begins_any (b ∷ r) (keys_of (own_pair v ++ es)) ≡ begins_any (b ∷ r) (keys_of es)
  any-here b r None es = refl
  any-here b r (Some v) es = refl

  any-by : (b : ℕ) (r : List ℕ) (es : List (List ℕ × V))
      → begins_any (b ∷ r) (keys_of es) ≡ begins_any (b ∷ r) (keys_of (by_byte b es))
  any-by b r [] = refl
  any-by b r (([], v) ∷ es) = any-by b r es
  any-by b r ((x ∷ k, v) ∷ es) = ⊎_elim (λ e. rw (eq-yes x b e) (ap (λ z. begins (b ∷ r) (x ∷ k) || z) (any-by b r es)))
      (λ n. rw (eq-no x b n, eq-no b x (λ e. n (sym e))) (any-by b r es)) (equal_or_not x b)

  some-keys : (q : List ℕ) (v : Option V) (n : ℕ) (cs : Children V) → IsCanonical (node q v n cs)
      → 0 < length (own_pair v ++ children_pairs cs)
  some-keys q v n cs w = omega (
    arith,
    few_nodes (node q v n cs) w,
    length-with_prefix q
        (own_pair v ++ children_pairs cs),
  )

  reach-kept : Keeps {V = V} reaching (λ p o a. begins_any p (keys_of (tree_pairs o)) ≡ a)
  reach-kept = record {
    absent = λ p. refl;
    left = λ p q v n cs w s. any-apart q p (own_pair v ++ children_pairs cs) s (some-keys q v n cs w);
    ended = λ p q v n cs w s. any-some q p [] (own_pair v ++ children_pairs cs) s
        ∙ any-nil (own_pair v ++ children_pairs cs) (some-keys q v n cs w);
    on = λ p q v n cs b r a w s h. any-some q p (b ∷ r) (own_pair v ++ children_pairs cs) s
        ∙ any-here b r v (children_pairs cs)
        ∙ any-by b r (children_pairs cs) ∙ ap (λ z. begins_any (b ∷ r) (keys_of z)) (children-by b 0 cs w.2) ∙ h;
  }

  pub reach-any : (p : List ℕ) (t : Trie V) → IsCanonical t → reaches p t ≡ begins_any p (keys_of (pairs_of t))
  reach-any p t w = sym (descends reaching (λ p o a. begins_any p (keys_of (tree_pairs o)) ≡ a) reach-kept p (Some t) w)
