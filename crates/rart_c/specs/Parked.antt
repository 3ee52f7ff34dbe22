-- What comes out of a parked box.
use Rattle.std.specs.Prelude.{◌≡◌, Option, None, Some}
use Rattle.std.specs.Global.{Box}

abbrev pub IsTakenOut : {T : Type 0} → Option T → Option (Box T) → Type 0
IsTakenOut value None = value ≡ None
IsTakenOut value (Some taken) = value ≡ Some taken.value
