-- The call that the words of a line name.
use Rattle.std.proofs.Common.{◌≡◌, ℕ, List, [], ◌∷◌, Option, Some}
use Rattle.std.specs.declared.ops.Bound.TheVariants.{Included, Excluded}
use Rattle.rart.specs.declared.script.call.Call.{Call}
use Rattle.rart.specs.declared.script.call.Call.TheVariants as call
use Rattle.rart_script.specs.Command.{complete_of, range_of}
use Rattle.rart_script.specs.Key.{key_of}

-- two words that are keys, and those after them
pub range-read : {ws ws1 rest : List (List ℕ)} {a b start end : List ℕ} {r : Option (Call (List ℕ) ℕ)} → ws ≡ a ∷ ws1
    → ws1 ≡ b ∷ rest → Some start ≡ key_of a → Some end ≡ key_of b
    → r ≡ complete_of (call.Range (Included start) (Excluded end)) rest → r ≡ range_of ws
range-read {rest = []} e f g h q = rw (e, f, ← g, ← h) q
range-read {rest = x ∷ rest} e f g h q = rw (e, f) q
