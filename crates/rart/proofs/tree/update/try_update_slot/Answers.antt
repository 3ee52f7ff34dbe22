use Rattle.rart_keys.specs.SortedMap.{lookup}
use Rattle.rart.proofs.trees.UpdateLemmas.{attempt-stays}
use Rattle.rart.proofs.tree.update.try_update_slot.Goals as goal

pub update_returning-requires-clause-occupancy : goal.update_returning-requires-clause-occupancy
update_returning-requires-clause-occupancy g c
    = λ r x w h. attempt-stays _ g.F.FnOnce c.args.f (lookup (g.K.KeyTrait.bytes c.args.key.now) c.args.tree.now.pairs)
    r x w c.requires.occupancy (rw (h.shows, h.leaves) at h.met)

pub returns-clause-update : goal.returns-clause-update
returns-clause-update g c = let u = c.update_returning.ensures.update in
    record { request = u.0; left = u.1; attempt = rw (u.2.shows, u.2.leaves) at u.2.met; ends = u.3 }
