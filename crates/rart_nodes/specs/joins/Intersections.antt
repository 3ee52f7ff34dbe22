-- An intersection of two tries, and the keys of both with both values.
use Rattle.std.specs.Prelude.{ℕ, ◌==◌, List, [], ◌∷◌, ◌++◌, Option, if◌then◌else◌}
use Rattle.std.specs.Ordering.{nat_cmp, match_ordering}
use Rattle.rart_keys.specs.Joins.{both}
use Rattle.rart_trie.specs.tries.Trie.{Trie, node, Children, no_children, child, own_pair, with_prefix}

-- What a walk returns: `apart` where the tries part, `shared` after a byte of both prefixes, `also` of a child and the
-- children after it, and `entered` where a child is entered by a byte.
pub record Pairing (A : Type 0) : Type 0 where
  pub apart : A
  pub shared : ℕ → A → A
  pub also : A → A → A
  pub entered : ℕ → A → A

-- two prefixes byte by byte: they end together, the second continues, the first continues, or they differ
abbrev pub pair_prefixes : {A : Type 0} → A → (ℕ → A → A) → List ℕ → List ℕ → A → (ℕ → List ℕ → A) → (ℕ → List ℕ → A)
    → A
pair_prefixes apart shared [] [] ended f g = ended
pair_prefixes apart shared [] (y ∷ q) ended f g = f y (y ∷ q)
pair_prefixes apart shared (x ∷ p) [] ended f g = g x (x ∷ p)
pair_prefixes apart shared (x ∷ p) (y ∷ q) ended f g
    = if x == y then shared x (pair_prefixes apart shared p q ended f g) else apart

-- f b u is made of the left node's child by b and u
abbrev pub pair_each : {W A : Type 0} → A → (A → A → A) → (ℕ → Trie W → A) → Children W → A
pair_each apart also f no_children = apart
pair_each apart also f (child c u ds) = also (f c u) (pair_each apart also f ds)

-- A left node with the rest p of its prefix; `own` adds the values of both nodes. What is followed here is itself a
-- trie and no key, so these recursions are not that of a descent.
abbrev mutual
  pub pair_in : {W A : Type 0} → Pairing A → List ℕ → (Option W → A → A) → (ℕ → Trie W → A) → Trie W → A
  pair_in d p own f (node q w m ds) = pair_prefixes d.apart d.shared p q (own w (pair_each d.apart d.also f ds))
      (λ b r. f b (node r w m ds)) (λ b l. pair_down d b l own f ds)

  pub pair_down : {W A : Type 0} → Pairing A → ℕ → List ℕ → (Option W → A → A) → (ℕ → Trie W → A) → Children W → A
  pair_down d b l own f no_children = d.apart
  pair_down d b l own f (child c u ds) = match_ordering (nat_cmp b c) d.apart (d.entered b (pair_in d l own f u))
      (pair_down d b l own f ds)

abbrev mutual
  pub pair_tries : {V W A : Type 0} → Pairing A → (Option V → Option W → A → A) → Trie V → Trie W → A
  pair_tries d own (node p v n cs) u = pair_in d p (own v) (λ b z. pair_child d own b z cs) u

  pub pair_child : {V W A : Type 0} → Pairing A → (Option V → Option W → A → A) → ℕ → Trie W → Children V → A
  pair_child d own b u no_children = d.apart
  pair_child d own b u (child c t cs) = match_ordering (nat_cmp b c) d.apart (d.entered b (pair_tries d own t u))
      (pair_child d own b u cs)

-- the keys of both
abbrev pub intersected_maps : {X : Type 0} → Pairing (List (List ℕ × X))
intersected_maps = record {
  apart = [];
  shared = λ x es. with_prefix (x ∷ []) es;
  also = λ xs ys. xs ++ ys;
  entered = λ b es.
      es;
}

abbrev pub with_own_pair : {V W : Type 0} → Option V → Option W → List (List ℕ × (V × W)) → List (List ℕ × (V × W))
with_own_pair v w es = own_pair (both v w) ++ es

abbrev pub intersect_nodes : {V W : Type 0} → Trie V → Trie W → List (List ℕ × (V × W))
intersect_nodes t u = pair_tries intersected_maps with_own_pair t u

-- `intersect_nodes`, step by step
abbrev pub intersect_prefixes : {X : Type 0} → List ℕ → List ℕ → List (List ℕ × X) → (ℕ → List ℕ → List (List ℕ × X))
    → (ℕ → List ℕ → List (List ℕ × X)) → List (List ℕ × X)
intersect_prefixes {X} p q ended f g = pair_prefixes (intersected_maps {X = X}).apart
    (intersected_maps {X = X}).shared p q ended
    f g

abbrev pub intersect_each : {W X : Type 0} → (ℕ → Trie W → List (List ℕ × X)) → Children W → List (List ℕ × X)
intersect_each {W} {X} f ds = pair_each (intersected_maps {X = X}).apart (intersected_maps {X = X}).also f ds

abbrev pub intersect_in : {V W : Type 0} → List ℕ → Option V → (ℕ → Trie W → List (List ℕ × (V × W))) → Trie W
    → List (List ℕ × (V × W))
intersect_in p v f u = pair_in intersected_maps p (with_own_pair v) f u

abbrev pub intersect_down : {V W : Type 0} → ℕ → List ℕ → Option V → (ℕ → Trie W → List (List ℕ × (V × W))) → Children W
    → List (List ℕ × (V × W))
intersect_down b l v f ds = pair_down intersected_maps b l (with_own_pair v) f ds

abbrev pub intersect_child : {V W : Type 0} → ℕ → Trie W → Children V → List (List ℕ × (V × W))
intersect_child b u cs = pair_child intersected_maps with_own_pair b u cs

-- a node of which the rest p of its prefix is left
abbrev pub with_rest : {V : Type 0} → List ℕ → Trie V → Trie V
with_rest p (node q v n cs) = node p v n cs
