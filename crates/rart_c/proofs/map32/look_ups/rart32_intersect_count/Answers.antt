use Rattle.std.proofs.Common.{◌∙◌, ap, length, sym}
use Rattle.rart_keys.specs.Joins.{join}
use Rattle.rart_keys.proofs.maps.JoinsOfMaps.{join-nil}
use Rattle.rart_c.proofs.map32.look_ups.rart32_intersect_count.Goals as goal
use Rattle.rart_c.proofs.map32.look_ups.rart32_intersect_count.Goals.{in-Some-take, in-None}

pub returns-clause-value : goal.returns-clause-value
returns-clause-value c =
    let map = c.args.map.now.held in
    let other = c.args.other.now.held in
    elim c.match-take-2.branch [
      | in-Some-take w ↦
          let map_is = w.deref.ensures ∙ c.in-Some.ensures.takes in
          let other_is = w.deref-in-Some-take.ensures ∙ w.in-Some-take.ensures.takes in
          w.count-is ∙ w.intersect_count-count.ensures
          ∙ ap (λ m. length (join m.tree.pairs w.deref-in-Some-take.result.now.tree.pairs)) map_is
          ∙ ap (λ m. length (join map.tree.pairs m.tree.pairs)) other_is
      | in-None w ↦
          w.count-is ∙ sym (ap (λ m. length (join map.tree.pairs m.tree.pairs)) w.in-None.ensures.takes
          ∙ ap length (join-nil map.tree.pairs))
    ]
