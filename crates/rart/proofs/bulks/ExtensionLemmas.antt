-- Pairs that are put in, one after the other, and the one that is refused.
use Rattle.std.proofs.Common.{◌≡◌, ℕ, List, [], ◌∷◌, ◌++◌, refl, sym, ap, ◌∙◌}
use Rattle.std.proofs.lemmas.List.{map-append}
use Rattle.rart_keys.specs.BulkLists.{put_all}
use Rattle.rart_keys.specs.SortedMap.{put}
use Rattle.rart_trie.specs.declared.refused.Refused.{Refused}
use Rattle.rart.specs.Extensions.{PutsUntil}
use Rattle.rart.specs.Refusals.{MayRefuseInsert}
use Rattle.rart.specs.Steps.{pairs_in}

pub put_all-append : {V : Type 0} (es fs m : List (List ℕ × V)) → put_all (es ++ fs) m ≡ put_all fs (put_all es m)
put_all-append [] fs m = refl
put_all-append (e ∷ es) fs m = put_all-append es fs (put e.0 e.1 m)

module _ {K V : Type 0} (bytes : K → List ℕ) (xs : List (K × V)) (x : K × V) where
  -- the item x is put into what the items xs have left of m
  pub put-more : (m old new : List (List ℕ × V)) → old ≡ put_all (pairs_in bytes xs) m
      → new ≡ put (bytes x.0) x.1 old → new ≡ put_all (pairs_in bytes (xs ++ x ∷ [])) m
  put-more m old new o n =
      n ∙ ap (put (bytes x.0) x.1) o ∙ sym (put_all-append (pairs_in bytes xs) ((bytes x.0, x.1) ∷ []) m)
      ∙ ap (λ z. put_all z m) (sym (map-append (λ p. (bytes p.0, p.1)) xs (x ∷ [])))

  -- the item x is refused there
  pub until-refused : (m old new : List (List ℕ × V)) (refused : Refused (K × V)) → old ≡ put_all (pairs_in bytes xs) m
      → new ≡ old → refused.value ≡ x → MayRefuseInsert old (bytes x.0) refused.error
      → PutsUntil bytes m (xs ++ x ∷ []) refused new
  until-refused m old new refused o n v r = (xs, ap (λ z. xs ++ z ∷ []) (sym v), n ∙ o, rw (n, v) r)
