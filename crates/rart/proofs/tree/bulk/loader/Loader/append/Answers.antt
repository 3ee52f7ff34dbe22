use Rattle.std.proofs.Common.{◌∙◌, ◌∷◌, ◌++◌, [], arith, ap, length, refl}
use Rattle.rart.specs.Loaders.{loaded_pairs}
use Rattle.rart.proofs.bulks.LoaderLemmas.{appended-fields}
use Rattle.rart.proofs.tree.bulk.loader.Loader.append.Goals as goal

pub returns-in_default-clause-refused : goal.returns-in_default-clause-refused
returns-in_default-clause-refused g c = omega (
  arith,
  c.self.invariant.counted,
  c.self.invariant.few,
  c.if-self-eq-MAX_PAIRS.false,
  ap length c.self.view_is,
)

pub invariant_of-self-2 : goal.invariant_of-self-2
invariant_of-self-2 g c = appended-fields g.K.KeyTrait.bytes _ _ _ _ _ c.self.invariant _ _ _ _ _
    c.if-self-eq-MAX_PAIRS.false c.in-Ok.ensures.at
    (c.in-Ok.ensures.pairs ∙ ap (loaded_pairs g.K.KeyTrait.bytes c.self.inside.builder) c.take-last.ensures.value)
    (g.met.K.KeyTrait.within c.args.key) refl (rw c.as_ref.ensures at c.max-self-inside.ensures)

pub returns-clause-pairs : goal.returns-clause-pairs
returns-clause-pairs g c = ap (λ z. z ++ (g.K.KeyTrait.bytes c.args.key, c.args.value) ∷ [])
    (c.in-Ok.ensures.pairs ∙ ap (loaded_pairs g.K.KeyTrait.bytes c.self.inside.builder) c.take-last.ensures.value
    ∙ c.self.view_is)
