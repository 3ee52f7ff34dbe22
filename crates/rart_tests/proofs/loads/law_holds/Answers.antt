use Rattle.rart_tests.proofs.LoadLemmas.{backward, exchanged}
use Rattle.rart_tests.proofs.loads.law_holds.Goals as goal

pub law_holds_of-backward-requires : goal.law_holds_of-backward-requires
law_holds_of-backward-requires c = backward _ _ _ c.in_ok-sorted.ensures

pub law_holds_of-exchanged-requires : goal.law_holds_of-exchanged-requires
law_holds_of-exchanged-requires c = exchanged _ _ _ c.in_ok-sorted-2.ensures.0 c.in_ok-sorted-2.ensures.1
