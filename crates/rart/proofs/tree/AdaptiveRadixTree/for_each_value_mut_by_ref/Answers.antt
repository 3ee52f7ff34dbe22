use Rattle.std.proofs.Common.{◌≡◌, ◌∙◌, List, [], ◌∷◌, ℕ, ap, refl, subst, sym}
use Rattle.rart_keys.specs.Filters.{below}
use Rattle.rart_keys.specs.SortedMap.{values_of}
use Rattle.rart_trie.specs.edits.ValueChanges.{CanLend}
use Rattle.rart_trie.specs.tries.Tree.{tree_pairs}
use Rattle.rart.proofs.tree.AdaptiveRadixTree.for_each_value_mut_by_ref.Goals as goal

-- every key begins with no byte
below-all : {V : Type 0} (es : List (List ℕ × V)) → below [] es ≡ es
below-all [] = refl
below-all (e ∷ es) = ap (λ z. e ∷ z) (below-all es)

pub change_values-requires-clause-callable : goal.change_values-requires-clause-callable
change_values-requires-clause-callable g c = subst (λ (es : List (List ℕ × g.row.V.Denot)). CanLend g.F.FnMut
    c.args.f.now (values_of es)) (sym (below-all (tree_pairs c.self.inside.root) ∙ ap (λ m. m.pairs) c.self.view_is))
    c.requires.callable
