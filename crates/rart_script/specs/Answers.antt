-- What a command prints.
use Rattle.std.specs.Prelude.{◌≡◌, ℕ, [], ◌∷◌, ◌++◌, List, map, codes, decimal, Option, Some, None, ⊤}
use Rattle.std.specs.List.{join_with_byte}
use Rattle.std.specs.Option.{option_map}
use Rattle.rart_keys.specs.ArrayKeyBytes.{array_key_bytes}
use Rattle.rart_keys.specs.declared.keys.array_key.ArrayKey.{ArrayKey}
use Rattle.rart_trie.specs.stats.Stats.{stats_in}
use Rattle.rart_parts.specs.declared.error.TreeError.{TreeError}
use Rattle.rart_parts.specs.declared.error.TreeError.TheVariants.{Memory, Full}
use Rattle.rart.specs.Steps.{IsStep, pairs_in}
use Rattle.rart.specs.declared.script.reply.Reply.{Reply}
use Rattle.rart.specs.declared.script.reply.Reply.TheVariants as reply
use Rattle.rart_script.specs.Stats.{stats_line}
use Rattle.rart_script.specs.declared.command.Command.{Command}
use Rattle.rart_script.specs.declared.command.Command.TheVariants as command
use Rattle.rart_script.specs.declared.key.TheConstants.{KEY_SIZE}

-- the line for a number
abbrev pub number_line : ℕ → List ℕ
number_line n = decimal n ++ 10 ∷ []

-- the line for a value, where there is one
abbrev pub value_line : Option ℕ → List ℕ
value_line None = codes "none" ++ 10 ∷ []
value_line (Some v) = codes "some " ++ decimal v ++ 10 ∷ []

-- the line for a refusal
abbrev pub refusal_line : TreeError → List ℕ
refusal_line Memory = codes "Memory" ++ 10 ∷ []
refusal_line Full = codes "Full" ++ 10 ∷ []

-- a key as a word: its bytes as they are, and `-` for none
abbrev pub key_word : List ℕ → List ℕ
key_word [] = codes "-"
key_word (b ∷ bs) = b ∷ bs

-- a pair as a word
abbrev pub pair_word : List ℕ × ℕ → List ℕ
pair_word (key, value) = key_word key ++ codes "=" ++ decimal value

-- the line for pairs, with one space between each two
abbrev pub pairs_line : List (List ℕ × ℕ) → List ℕ
pairs_line [] = codes "empty" ++ 10 ∷ []
pairs_line (pair ∷ pairs) = join_with_byte 32 (map pair_word (pair ∷ pairs)) ++ 10 ∷ []

-- the line for a pair, where there is one
abbrev pub found_line : Option (List ℕ × ℕ) → List ℕ
found_line None = codes "none" ++ 10 ∷ []
found_line (Some pair) = codes "some " ++ pair_word pair ++ 10 ∷ []

-- the line for a reply. No command of a script gets one of the replies without a line
abbrev pub reply_line : Reply (ArrayKey KEY_SIZE) ℕ → List ℕ
reply_line (reply.Value found) = value_line found
reply_line (reply.Len count) = number_line count
reply_line (reply.Pair found) = found_line (option_map (λ p. (array_key_bytes p.0, p.1)) found)
reply_line (reply.Pairs pairs) = pairs_line (pairs_in array_key_bytes pairs.items)
reply_line (reply.Stats stats) = stats_line (stats_in stats)
reply_line (reply.Refused error) = refusal_line error
reply_line (reply.Returned error back) = refusal_line error
reply_line (reply.Done answer) = []
reply_line reply.Inserted = []
reply_line (reply.Occupied proposed present) = []
reply_line (reply.Values values) = []
reply_line reply.Failed = []
reply_line reply.NoClone = []
reply_line reply.NoRemove = []

-- the command prints this line on the map old, and leaves the map new: the line of a reply that the call may get, where
-- no clone of a value fails
abbrev pub PrintsReply : Command → List (List ℕ × ℕ) → List ℕ → List (List ℕ × ℕ) → Type 0
PrintsReply command.Nothing old line new = (line ≡ []) × (new ≡ old)
PrintsReply (command.Call call) old line new = (r : Reply (ArrayKey KEY_SIZE) ℕ)
    × (IsStep (λ value. ⊤) array_key_bytes old call r new × (line ≡ reply_line r))
