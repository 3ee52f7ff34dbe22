use Rattle.std.proofs.Common.{◌≡◌, ◌∙◌, ℕ, List, [], ◌∷◌, ap, arith, length, refl}
use Rattle.rart_keys.specs.SortedMap.{keys_of, values_of}
use Rattle.rart.proofs.tree.clones.AdaptiveRadixTreeClone.clone.Goals as goal

no-keys : {V : Type 0} (es : List (List ℕ × V)) → keys_of es ≡ [] → es ≡ []
no-keys [] h = refl
no-keys (e ∷ es) h = absurd (omega (arith, ap length h))

pub returns : goal.returns
returns g c =
    let keys = ap keys_of c.in-Ok.ensures.pairs ∙ c.in_ok-loader.ensures.keys in
    record {
      cases = record {
        keys = keys;
        values = rw (ap values_of c.in-Ok.ensures.pairs) c.in_ok-loader.ensures.values;
        nodes = c.one_shape.ensures _ _ _ (rw keys at c.in-Ok.ensures.shape) c.canonical.ensures.shape;
      };
    }

pub returns-in_default : goal.returns-in_default
returns-in_default g c = record {
  cases = λ none. c.in_default.ensures.refused.0 (no-keys _ (c.in_ok-loader.ensures.keys ∙ ap keys_of none));
}
