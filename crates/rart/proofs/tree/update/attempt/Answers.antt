use Rattle.std.proofs.Common.{rules, refl}
use Rattle.rart.proofs.tree.update.attempt.Goals as goal

pub returns-in-Err : goal.returns-in-Err
returns-in-Err g c = (
  refl,
  search rules,
  (
    c.into_option-left.result,
    record {
      shown = _;
      shows = refl;
      left = _;
      met = rw c.in-Err.is at c.f.ensures;
      leaves
          = search rules;
    },
  ),
)
