-- The call that the words of a line name. The keys of calls are bytes here.
use Rattle.std.specs.Prelude.{ℕ, List, [], ◌∷◌, Option, Some, None, codes, if◌then◌else◌}
use Rattle.std.specs.Option.{option_map, option_and_then}
use Rattle.std.specs.Str.{bytes_eq}
use Rattle.rart.specs.declared.script.call.Call.{Call}
use Rattle.rart.specs.declared.script.call.Call.TheVariants as call
use Rattle.std.specs.declared.ops.Bound.TheVariants.{Included, Excluded}
use Rattle.rart_keys.specs.Ranges.{bound_in}
use Rattle.rart_keys.specs.ArrayKeyBytes.{array_key_bytes}
use Rattle.rart_script.specs.Key.{key_of}
use Rattle.rart_script.specs.Value.{value_of}
use Rattle.rart_script.specs.declared.command.Command.{Command}
use Rattle.rart_script.specs.declared.command.Command.TheVariants as command

-- a call with the bytes of its keys
abbrev pub call_in : {K V : Type 0} → (K → List ℕ) → Call K V → Call (List ℕ) V
call_in bytes (call.Get key) = call.Get (bytes key)
call_in bytes (call.Insert key value) = call.Insert (bytes key) value
call_in bytes (call.TryInsert key value) = call.TryInsert (bytes key) value
call_in bytes (call.Remove key) = call.Remove (bytes key)
call_in bytes (call.Delete key) = call.Delete (bytes key)
call_in bytes (call.Update key written answer) = call.Update (bytes key) written answer
call_in bytes (call.TryUpdate key written answer) = call.TryUpdate (bytes key) written answer
call_in bytes (call.Longest key) = call.Longest (bytes key)
call_in bytes (call.Matches key) = call.Matches (bytes key)
call_in bytes (call.Prefix key) = call.Prefix (bytes key)
call_in bytes (call.Range start end) = call.Range (bound_in bytes start) (bound_in bytes end)
call_in bytes call.Iter = call.Iter
call_in bytes call.Values = call.Values
call_in bytes call.Len = call.Len
call_in bytes call.IsEmpty = call.IsEmpty
call_in bytes call.Stats = call.Stats

-- the call of a command, if it has one
abbrev pub requested_call : Command → Option (Call (List ℕ) ℕ)
requested_call command.Nothing = None
requested_call (command.Call c) = Some (call_in array_key_bytes c)

-- the call of two operands, a key and a value
abbrev pub insert_of : List (List ℕ) → Option (Call (List ℕ) ℕ)
insert_of (key ∷ value ∷ []) = option_and_then (λ k. option_map (λ v. call.Insert k v) (value_of value)) (key_of key)
insert_of _ = None

-- the call of two operands, a key that is within and one before which the pairs are
abbrev pub range_of : List (List ℕ) → Option (Call (List ℕ) ℕ)
range_of (start ∷ end ∷ []) = option_and_then (λ a. option_map (λ b. call.Range (Included a) (Excluded b)) (key_of end))
    (key_of start)
range_of _ = None

-- the key that is the one operand
abbrev pub only_key_of : List (List ℕ) → Option (List ℕ)
only_key_of (key ∷ []) = key_of key
only_key_of _ = None

-- the call, if no word follows it
abbrev pub complete_of : Call (List ℕ) ℕ → List (List ℕ) → Option (Call (List ℕ) ℕ)
complete_of c [] = Some c
complete_of c _ = None

-- the call of this name with these operands
abbrev pub call_of : List ℕ → List (List ℕ) → Option (Call (List ℕ) ℕ)
call_of name operands =
    if bytes_eq name (codes "insert") then insert_of operands
    else if bytes_eq name (codes "get") then option_map (λ k. call.Get k) (only_key_of operands)
    else if bytes_eq name (codes "remove") then option_map (λ k. call.Remove k) (only_key_of operands)
    else if bytes_eq name (codes "prefix") then option_map (λ k. call.Prefix k) (only_key_of operands)
    else if bytes_eq name (codes "longest") then option_map (λ k. call.Longest k) (only_key_of operands)
    else if bytes_eq name (codes "range") then range_of operands
    else if bytes_eq name (codes "len") then complete_of call.Len operands
    else if bytes_eq name (codes "iter") then complete_of call.Iter operands
    else if bytes_eq name (codes "stats") then complete_of call.Stats operands
    else None

-- the call that the words of a line name: none where there is no word
abbrev pub command_of : List (List ℕ) → Option (Option (Call (List ℕ) ℕ))
command_of [] = Some None
command_of (name ∷ operands) = option_map (λ c. Some c) (call_of name operands)
