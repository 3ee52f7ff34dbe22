-- A fact under `OnSome` gives a weaker one.
use Rattle.std.specs.Prelude.{Option, Some, None, OnSome}

pub on_some_weaker : {A : Type 0} {P Q : Type 0} (o : Option A) → (P → Q) → OnSome o P → OnSome o Q
on_some_weaker None f p = tt
on_some_weaker (Some a) f p = f p
