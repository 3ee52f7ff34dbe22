-- The heap of the process.
use Rattle.std_heap.specs.declared.Global.{Global}

abbrev pub heap : Global
heap = record { memory = record { seal = tt } }
