-- What a command prints.
use Rattle.std.specs.Prelude.{◌≡◌, ◌+◌, ◌⊎◌, ℕ, [], ◌∷◌, ◌++◌, List, length, map, flat_map, option_map, codes, decimal}
use Rattle.std.specs.Prelude.{Option, Some, None, Result, Ok, Err}
use Rattle.std.specs.Io.KnownBytes.{Appends}
use Rattle.rart_keys.specs.ArrayKeyBytes.{array_key_bytes}
use Rattle.rart_keys.specs.declared.keys.array_key.ArrayKey.{ArrayKey}
use Rattle.rart_trie.specs.declared.refused.Refused.{Refused}
use Rattle.rart_trie.specs.walks.Calls.{MayLackMemory}
use Rattle.rart_parts.specs.declared.error.TreeError.{TreeError}
use Rattle.rart_parts.specs.declared.error.TreeError.TheVariants.{Memory, Full}
use Rattle.rart_routes.specs.Net.{net_bits, net_text}
use Rattle.rart_routes.specs.Tables.{AggregatesBoth, Inserts, MayLackMemoryAt, Removes, all_matches, all_routes}
use Rattle.rart_routes.specs.Tables.{all_within, longest_route, target_at}
use Rattle.rart_routes.specs.declared.command.Command.{Command}
use Rattle.rart_routes.specs.declared.command.Command.TheVariants as command
use Rattle.rart_routes.specs.declared.net.Net.{Net}
use Rattle.rart_routes.specs.declared.tables.Tables.{Tables}
use Rattle.rart_routes.specs.declared.target.TheConstants.{TARGET_SIZE}

-- the line for nothing
abbrev pub none_line : List ℕ
none_line = codes "none" ++ 10 ∷ []

-- the line for a target, and where there may be none
abbrev pub target_line : List ℕ → List ℕ
target_line target = codes "some " ++ target ++ 10 ∷ []

abbrev pub old_line : Option (ArrayKey TARGET_SIZE) → List ℕ
old_line None = none_line
old_line (Some target) = target_line (array_key_bytes target)

-- the line for a refusal
abbrev pub refusal_line : TreeError → List ℕ
refusal_line Memory = codes "Memory" ++ 10 ∷ []
refusal_line Full = codes "Full" ++ 10 ∷ []

-- the line for an insertion, and for a removal
abbrev pub inserted_line : Result (Option (ArrayKey TARGET_SIZE)) (Refused (ArrayKey TARGET_SIZE)) → List ℕ
inserted_line (Ok old) = old_line old
inserted_line (Err refused) = refusal_line refused.error

abbrev pub removed_line : Result (Option (ArrayKey TARGET_SIZE)) TreeError → List ℕ
removed_line (Ok old) = old_line old
removed_line (Err error) = refusal_line error

-- the line for a route that is loaded: none, unless the table refused it
abbrev pub loaded_line : Result (Option (ArrayKey TARGET_SIZE)) (Refused (ArrayKey TARGET_SIZE)) → List ℕ
loaded_line (Ok old) = []
loaded_line (Err refused) = refusal_line refused.error

-- the line for a number of routes that left, or for a refusal
abbrev pub count_line : Result ℕ TreeError → List ℕ
count_line (Ok count) = decimal count ++ 10 ∷ []
count_line (Err error) = refusal_line error

-- a route as a word
abbrev pub route_word : Net × ArrayKey TARGET_SIZE → List ℕ
route_word (net, target) = net_text net ++ codes "=" ++ array_key_bytes target

-- the line for a route, where there is one
abbrev pub found_line : Option (Net × ArrayKey TARGET_SIZE) → List ℕ
found_line None = none_line
found_line (Some route) = codes "some " ++ route_word route ++ 10 ∷ []

-- the line for routes, with one space before each but the first
abbrev pub routes_line : List (Net × ArrayKey TARGET_SIZE) → List ℕ
routes_line [] = codes "empty" ++ 10 ∷ []
routes_line (route ∷ others) = route_word route ++ flat_map (λ r. codes " " ++ route_word r) others ++ 10 ∷ []

-- routes with their networks' versions and bits
abbrev pub routes_in : List (Net × ArrayKey TARGET_SIZE) → List ((ℕ × List ℕ) × ArrayKey TARGET_SIZE)
routes_in routes = map (λ r. (net_bits r.0, r.1)) routes

-- the line for these routes
abbrev pub IsLineOf : List ((ℕ × List ℕ) × ArrayKey TARGET_SIZE) → List ℕ → Type 0
IsLineOf all line = (routes : List (Net × ArrayKey TARGET_SIZE)) × (routes_in routes ≡ all)
    × (line ≡ routes_line routes)

-- a route as a line that loads it
abbrev pub dumped_line : Net × ArrayKey TARGET_SIZE → List ℕ
dumped_line (net, target) = net_text net ++ codes " " ++ array_key_bytes target ++ 10 ∷ []

-- the lines that load these routes
abbrev pub IsDumpOf : List ((ℕ × List ℕ) × ArrayKey TARGET_SIZE) → List ℕ → Type 0
IsDumpOf all lines = (routes : List (Net × ArrayKey TARGET_SIZE)) × (routes_in routes ≡ all)
    × (lines ≡ flat_map dumped_line routes)

-- what is printed of a walk's routes, or the line for a refusal
abbrev pub IsOfWalk : (List ℕ → Type 0) → (TreeError → Type 0) → List ℕ → Type 0
IsOfWalk IsOfRoutes MayFail lines = IsOfRoutes lines
    ⊎ ((error : TreeError) × MayFail error × (lines ≡ refusal_line error))

-- the command prints this on the tables old, and leaves the tables new
abbrev pub PrintsAnswer : Command → Tables → List ℕ → Tables → Type 0
PrintsAnswer command.Nothing old line new = (line ≡ []) × (new ≡ old)
PrintsAnswer (command.Add net target) old line new = (r : Result (Option (ArrayKey TARGET_SIZE))
    (Refused (ArrayKey TARGET_SIZE))) × Inserts net target old new r × (line ≡ inserted_line r)
PrintsAnswer (command.Load net target) old line new = (r : Result (Option (ArrayKey TARGET_SIZE))
    (Refused (ArrayKey TARGET_SIZE))) × Inserts net target old new r × (line ≡ loaded_line r)
PrintsAnswer (command.Del net) old line new = (r : Result (Option (ArrayKey TARGET_SIZE)) TreeError)
    × Removes net old new r × (line ≡ removed_line r)
PrintsAnswer (command.Get net) old line new = (line ≡ old_line (target_at net old)) × (new ≡ old)
PrintsAnswer (command.Route addr) old line new = (route : Option (Net × ArrayKey TARGET_SIZE))
    × (option_map (λ r. (net_bits r.0, r.1)) route ≡ longest_route addr old) × (line ≡ found_line route) × (new ≡ old)
PrintsAnswer (command.Covering addr) old line new = IsLineOf (all_matches addr old) line × (new ≡ old)
PrintsAnswer (command.Within net) old line new = IsOfWalk (IsLineOf (all_within net old)) (MayLackMemoryAt net old) line
    × (new ≡ old)
PrintsAnswer command.List old line new = IsOfWalk (IsLineOf (all_routes old)) (MayLackMemory (all_routes old)) line
    × (new ≡ old)
PrintsAnswer command.Dump old lines new = IsOfWalk (IsDumpOf (all_routes old)) (MayLackMemory (all_routes old)) lines
    × (new ≡ old)
PrintsAnswer command.Aggregate old line new = (r : Result ℕ TreeError) × AggregatesBoth old new r
    × (line ≡ count_line r)
PrintsAnswer command.Len old line new = (line ≡ decimal (length old.v4 + length old.v6) ++ 10 ∷ []) × (new ≡ old)

-- an output grew by the line for these routes
abbrev pub PrintsRoutes : List ((ℕ × List ℕ) × ArrayKey TARGET_SIZE) → Option (List ℕ) → Option (List ℕ) → Type 0
PrintsRoutes all old new = (line : List ℕ) × (IsLineOf all line × Appends old new line)

-- an output grew by the lines that load these routes
abbrev pub PrintsDump : List ((ℕ × List ℕ) × ArrayKey TARGET_SIZE) → Option (List ℕ) → Option (List ℕ) → Type 0
PrintsDump all old new = (lines : List ℕ) × (IsDumpOf all lines × Appends old new lines)
