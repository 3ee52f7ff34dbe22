use Rattle.std.proofs.Common.{◌≡◌, ◌∙◌, ◌∷◌, [], List, ℕ, ap, refl, sym}
use Rattle.std.specs.declared.ops.Bound.TheVariants.{Unbounded}
use Rattle.rart_keys.specs.Ranges.{bound_in, from_bound, up_to}
use Rattle.rart_keys.proofs.maps.RangeLemmas.{up_to-from_bound}
use Rattle.rart_nodes.proofs.node.range.Range.for_iter.Goals as goal

-- without a start all pairs are within it
from_bound-all : {V : Type 0} (es : List (List ℕ × V)) → from_bound Unbounded es ≡ es
from_bound-all [] = refl
from_bound-all (e ∷ es) = ap (λ z. e ∷ z) (from_bound-all es)

pub returns-clause-pairs_between : goal.returns-clause-pairs_between
returns-clause-pairs_between g c = λ w.
    let to = bound_in g.K.KeyTrait.bytes c.args.end in
    ap (up_to to) (c.into_walk.ensures ∙ sym (from_bound-all c.args.iter)) ∙ up_to-from_bound Unbounded to c.args.iter w
