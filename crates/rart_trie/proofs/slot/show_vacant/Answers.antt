use Rattle.std.proofs.Common.{◌≡◌, Some, None}
use Rattle.rart_trie.proofs.slot.show_vacant.Goals as goal

pub unreachable-requires : goal.unreachable-requires
unreachable-requires g c =
    let none : Some c.in-Some.field-0 ≡ None
    = c.requires.occupancy _ _ (Some c.in-Some.field-0) (rw c.in-Some.is at c.show-left.ensures) in
    cc
