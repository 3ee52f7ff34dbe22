-- A trie's children as a list of entries, its number of nodes, and its code, by which a proof distinguishes tries.
use Rattle.std.specs.Prelude.{◌≡◌, ℕ, ◌+◌, List, [], ◌∷◌, Option, Some, None, refl}
use Rattle.std.specs.Coded.{Coded, code_by, coded×, coded_list, coded_ℕ, coded_option}
use Rattle.std.proofs.Common.{ap, ◌∙◌}
use Rattle.rart_trie.specs.tries.Trie.{Trie, node, Children, no_children, child}

-- entries in their order, as a trie's children
abbrev pub as_children : {V : Type 0} → List (ℕ × Trie V) → Children V
as_children [] = no_children
as_children (e ∷ es) = child e.0 e.1 (as_children es)

-- how many nodes there are
abbrev mutual
  pub node_count : {V : Type 0} → Trie V → ℕ
  node_count (node p v n cs) = child_count cs + 1

  pub child_count : {V : Type 0} → Children V → ℕ
  child_count no_children = 0
  child_count (child b t cs) = node_count t + child_count cs

-- a mark begins a node, by its edge byte, prefix, value and capacity; `None` ends a row of children
abbrev pub Mark : Type 0 → Type 0
Mark V = Option (ℕ × (List ℕ × (Option V × ℕ)))

abbrev mutual
  pub trie_marks : {V : Type 0} → ℕ → Trie V → List (Mark V) → List (Mark V)
  trie_marks b (node p v n cs) more = Some (b, (p, (v, n))) ∷ child_marks cs more

  pub child_marks : {V : Type 0} → Children V → List (Mark V) → List (Mark V)
  child_marks no_children more = None ∷ more
  child_marks (child b t cs) more = trie_marks b t (child_marks cs more)

-- the node that a mark begins, made of the two rows after the mark
abbrev pub built_node : {V : Type 0} → ℕ × (List ℕ × (Option V × ℕ)) → List (Children V) → List (Children V)
built_node i (cs ∷ (rest ∷ more)) = child i.0 (node i.1.0 i.1.1.0 i.1.1.1 cs) rest ∷ more
built_node i _ = []

-- the rows that marks encode
abbrev pub built : {V : Type 0} → List (Mark V) → List (Children V)
built [] = []
built (None ∷ ms) = no_children ∷ built ms
built (Some i ∷ ms) = built_node i (built ms)

mutual
  built-trie_marks : {V : Type 0} (b : ℕ) (t : Trie V) (ms : List (Mark V)) (rest : Children V)
      (more : List (Children V)) → built ms ≡ rest ∷ more → built (trie_marks b t ms) ≡ child b t rest ∷ more
  built-trie_marks b (node p v n cs) ms rest more e
      = ap (built_node (b, (p, (v, n)))) (built-child_marks cs ms ∙ ap (λ rows. cs ∷ rows) e)

  built-child_marks : {V : Type 0} (cs : Children V) (ms : List (Mark V)) → built (child_marks cs ms) ≡ cs ∷ built ms
  built-child_marks no_children ms = refl
  built-child_marks (child b t cs) ms = built-trie_marks b t (child_marks cs ms) cs (built ms) (built-child_marks cs ms)

-- the first node of the first row, or an empty one
abbrev pub first_node : {V : Type 0} → List (Children V) → Trie V
first_node [] = node [] None 0 no_children
first_node (no_children ∷ more) = node [] None 0 no_children
first_node (child b t cs ∷ more) = t

pub first_node-marks : {V : Type 0} (t : Trie V) → first_node (built (trie_marks 0 t (None ∷ []))) ≡ t
first_node-marks t = ap first_node (built-trie_marks 0 t (None ∷ []) no_children [] refl)

abbrev pub trie_code : {V : Type 0} → Coded V → Coded (Trie V)
trie_code {V} c = code_by (List (Mark V))
    (coded_list (coded_option (coded× coded_ℕ (coded× (coded_list coded_ℕ) (coded× (coded_option c) coded_ℕ)))))
    (λ t. trie_marks 0 t (None ∷ [])) (λ ms. first_node (built ms)) first_node-marks
