-- What answers and tests that are read say.
use Rattle.std.proofs.Common.{◌≡◌, ℕ, ◌<◌, Bool, true, false, not, Option, Some, None, refl}
use Rattle.std.proofs.lemmas.Bool.{false≢true}
use Rattle.std.proofs.lemmas.Option.{none-some}
use Rattle.std.specs.Prelude.{OnSome, IsSome}
use Rattle.std.specs.Option.{option_copied_mut}
use Rattle.std.specs.Borrow.{MutBor}
use Rattle.rart_parts.specs.Bits.{IsFirst}

pub some_first : (test : ℕ → Bool) (n : ℕ) (r : Option ℕ) → IsFirst test n r → (((q : ℕ) → q < n → test q ≡ false) → ⊥)
    → IsSome r
some_first test n None f some = absurd (some f)
some_first test n (Some p) f some = refl

pub not_true : (b : Bool) → not b ≡ true → b ≡ false
not_true true e = absurd (false≢true e)
not_true false e = refl

pub from_some : {X : Type 0} (r : Option (MutBor X)) (x : X) {P : Type 0} → option_copied_mut r ≡ Some x → OnSome r P
    → P
from_some None x e p = absurd (none-some _ e)
from_some (Some m) x e p = p
