-- The route that an extension can't insert.
use Rattle.std.proofs.Common.{◌≡◌, ℕ, List, [], ◌∷◌, ◌++◌, sym, ap, ◌∙◌}
use Rattle.rart_keys.specs.BulkLists.{put_all}
use Rattle.rart_trie.specs.declared.refused.Refused.{Refused}
use Rattle.rart.specs.Steps.{pairs_in}
use Rattle.rart_cidr.specs.Edits.{MayRefuseRoute}
use Rattle.rart_cidr.specs.tables.ManyEdits.{PutsRoutesUntil}

pub until_refused : {N T : Type 0} (bits : N → List ℕ) (xs : List (N × T)) (x : N × T) (m old new : List (List ℕ × T))
    (refused : Refused (N × T)) → old ≡ put_all (pairs_in bits xs) m → new ≡ old → refused.value ≡ x
    → MayRefuseRoute old (bits x.0) refused.error → PutsRoutesUntil bits m (xs ++ x ∷ []) refused new
until_refused bits xs x m old new refused o n v r = (xs, ap (λ z. xs ++ z ∷ []) (sym v), n ∙ o, rw (n, v) r)
