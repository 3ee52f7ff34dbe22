use Rattle.rart.proofs.tree.update.update_plainly.Goals as goal

pub update_returning-outcome-requires-clause-occupancy : goal.update_returning-outcome-requires-clause-occupancy
update_returning-outcome-requires-clause-occupancy g c = λ r x w h. c.requires.occupancy r w (rw
    (h.shows, h.leaves) at h.met)
