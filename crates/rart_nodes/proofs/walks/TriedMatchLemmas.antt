-- What calls with keys and values that can end a walk keep.
use Rattle.std.proofs.Common.{ℕ, ◌≡◌, List, ◌∷◌, Option, Result}
use Rattle.std.specs.Borrow.{Bor}
use Rattle.std.specs.Fn.{Mut, always_mut}
use Rattle.rart_trie.proofs.edits.CallbackLemmas.{always-on}
use Rattle.rart_nodes.specs.declared.node.control.VisitControl.{VisitControl}
use Rattle.rart_nodes.specs.walks.TriedMatches.{EndsAtKey, EndsMatches, EndsMatchesAt, MatchedAs}
use Rattle.rart_nodes.proofs.walks.TriedViewLemmas.{ends-keep}

pub always-after-tried-matches : {F V E : Type 0}
    (g : Mut F (Bor (List ℕ) × (Bor V × Unit {0})) (Result VisitControl E)) (f : F) (xs : List (List ℕ × V))
    (r : Result (Unit {0}) E) (f' : F) → EndsMatches g f xs r f' → always_mut g f → always_mut g f'
always-after-tried-matches g f xs r f' k h = ends-keep (λ p x a q. MatchedAs g p x a q) (always_mut g)
    (λ p x a q s i. always-on g p (s.key, (s.shown, tt)) a q s.called i) f xs r f' k h

pub matched-first : {F V E : Type 0} (g : Mut F (Bor (List ℕ) × (Bor V × Unit {0})) (Result VisitControl E)) (f : F)
    (xs ys : List (List ℕ × V)) (x : List ℕ × V) (answer : Result VisitControl E) (next : F)
    (r : Result (Unit {0}) E) (f' : F) (end : Option (List ℕ)) → xs ≡ x ∷ ys → MatchedAs g f x answer next
    → EndsAtKey answer next x.0 (λ h. EndsMatchesAt g h ys r f' end) r f' end → EndsMatchesAt g f xs r f' end
matched-first g f xs ys x answer next r f' end e k m = rw e (answer, (next, (k, m)))
