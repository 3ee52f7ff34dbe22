-- The command that the words of a line name.
use Rattle.std.specs.Prelude.{◌≡◌, ◌≢◌, ◌<◌, ◌⊎◌, ℕ, List, [], ◌∷◌, length, Option, Some, None, Result, Ok, Err, codes}
use Rattle.std.specs.Prelude.{Bool, MatchBool, if◌then◌else◌, nat_eq}
use Rattle.std.specs.List.{starts_with}
use Rattle.std.specs.Net.Grammar.{IsIpText}
use Rattle.std.specs.Str.{bytes_eq}
use Rattle.std.specs.declared.net.ip_addr.IpAddr.{IpAddr}
use Rattle.rart_keys.specs.ArrayKeyBytes.{array_key_bytes}
use Rattle.rart_keys.specs.declared.keys.array_key.ArrayKey.{ArrayKey}
use Rattle.rart_cidr.specs.declared.cidr.parse.ParseCidrError.TheVariants.{Address}
use Rattle.rart_routes.specs.Net.{IsNet}
use Rattle.rart_routes.specs.declared.command.Command.{Command}
use Rattle.rart_routes.specs.declared.command.Command.TheVariants as command
use Rattle.rart_routes.specs.declared.command.Verb.{Verb}
use Rattle.rart_routes.specs.declared.command.Verb.TheVariants as verb
use Rattle.rart_routes.specs.declared.net.Net.{Net}
use Rattle.rart_routes.specs.declared.stop.LineError.{LineError}
use Rattle.rart_routes.specs.declared.stop.LineError.TheVariants as error
use Rattle.rart_routes.specs.declared.target.TheConstants.{TARGET_SIZE}

-- whether a line with this first word is a comment
abbrev pub is_comment : List ℕ → Bool
is_comment word = starts_with nat_eq word (codes "#")

abbrev pub verb_of : List ℕ → Option Verb
verb_of name =
    if bytes_eq name (codes "add") then Some verb.Add
    else if bytes_eq name (codes "del") then Some verb.Del
    else if bytes_eq name (codes "get") then Some verb.Get
    else if bytes_eq name (codes "route") then Some verb.Route
    else if bytes_eq name (codes "covering") then Some verb.Covering
    else if bytes_eq name (codes "within") then Some verb.Within
    else if bytes_eq name (codes "list") then Some verb.List
    else if bytes_eq name (codes "dump") then Some verb.Dump
    else if bytes_eq name (codes "aggregate") then Some verb.Aggregate
    else if bytes_eq name (codes "len") then Some verb.Len
    else None

-- the words aren't one, and aren't two
abbrev pub IsNotOne : List (List ℕ) → Type 0
IsNotOne words = (w : List ℕ) → words ≢ w ∷ []

abbrev pub IsNotTwo : List (List ℕ) → Type 0
IsNotTwo words = (w v : List ℕ) → words ≢ w ∷ v ∷ []

-- one word, which writes a network
abbrev pub IsOnlyNet : List (List ℕ) → Result Net LineError → Type 0
IsOnlyNet words (Ok net) = (w : List ℕ) × (words ≡ w ∷ []) × IsNet w (Ok net)
IsOnlyNet words (Err (error.Network e)) = (w : List ℕ) × (words ≡ w ∷ []) × IsNet w (Err e)
IsOnlyNet words (Err error.Command) = IsNotOne words
IsOnlyNet words (Err error.Target) = ⊥

-- one word, which writes an address
abbrev pub IsOnlyAddr : List (List ℕ) → Result IpAddr LineError → Type 0
IsOnlyAddr words (Ok addr) = (w : List ℕ) × (words ≡ w ∷ []) × IsIpText w addr
IsOnlyAddr words (Err (error.Network e)) = (w : List ℕ) × (words ≡ w ∷ []) × (e ≡ Address)
    × ((a : IpAddr) → ¬ (IsIpText w a))
IsOnlyAddr words (Err error.Command) = IsNotOne words
IsOnlyAddr words (Err error.Target) = ⊥

-- two words, a network and a target
abbrev pub IsNetAndTarget : List (List ℕ) → Result (Net × ArrayKey TARGET_SIZE) LineError → Type 0
IsNetAndTarget words (Ok p) = (w : List ℕ) × (words ≡ w ∷ array_key_bytes p.1 ∷ []) × IsNet w (Ok p.0)
IsNetAndTarget words (Err (error.Network e)) = (w v : List ℕ) × (words ≡ w ∷ v ∷ []) × IsNet w (Err e)
IsNetAndTarget words (Err error.Target) = (w v : List ℕ) × (words ≡ w ∷ v ∷ []) × ((net : Net) × IsNet w (Ok net))
    × (TARGET_SIZE < length v)
IsNetAndTarget words (Err error.Command) = IsNotTwo words

-- the route that a line without a command's name writes. A first word that is no address is a wrong name
abbrev pub IsRoute : List (List ℕ) → Result Command LineError → Type 0
IsRoute words (Ok (command.Load net target)) = IsNetAndTarget words (Ok (net, target))
IsRoute words (Err error.Command) = IsNotTwo words ⊎ IsNetAndTarget words (Err (error.Network Address))
IsRoute words (Err (error.Network Address)) = ⊥
IsRoute words (Err e) = IsNetAndTarget words (Err e)
-- no other command
IsRoute words result = ⊥

-- the command that a name has with these operands
abbrev pub IsCommandOf : Verb → List (List ℕ) → Result Command LineError → Type 0
IsCommandOf verb.Add operands (Ok (command.Add net target)) = IsNetAndTarget operands (Ok (net, target))
IsCommandOf verb.Add operands (Err e) = IsNetAndTarget operands (Err e)
IsCommandOf verb.Del operands (Ok (command.Del net)) = IsOnlyNet operands (Ok net)
IsCommandOf verb.Del operands (Err e) = IsOnlyNet operands (Err e)
IsCommandOf verb.Get operands (Ok (command.Get net)) = IsOnlyNet operands (Ok net)
IsCommandOf verb.Get operands (Err e) = IsOnlyNet operands (Err e)
IsCommandOf verb.Route operands (Ok (command.Route addr)) = IsOnlyAddr operands (Ok addr)
IsCommandOf verb.Route operands (Err e) = IsOnlyAddr operands (Err e)
IsCommandOf verb.Covering operands (Ok (command.Covering addr)) = IsOnlyAddr operands (Ok addr)
IsCommandOf verb.Covering operands (Err e) = IsOnlyAddr operands (Err e)
IsCommandOf verb.Within operands (Ok (command.Within net)) = IsOnlyNet operands (Ok net)
IsCommandOf verb.Within operands (Err e) = IsOnlyNet operands (Err e)
IsCommandOf verb.List operands (Ok command.List) = operands ≡ []
IsCommandOf verb.List operands (Err e) = (operands ≢ []) × (e ≡ error.Command)
IsCommandOf verb.Dump operands (Ok command.Dump) = operands ≡ []
IsCommandOf verb.Dump operands (Err e) = (operands ≢ []) × (e ≡ error.Command)
IsCommandOf verb.Aggregate operands (Ok command.Aggregate) = operands ≡ []
IsCommandOf verb.Aggregate operands (Err e) = (operands ≢ []) × (e ≡ error.Command)
IsCommandOf verb.Len operands (Ok command.Len) = operands ≡ []
IsCommandOf verb.Len operands (Err e) = (operands ≢ []) × (e ≡ error.Command)
-- no other command
IsCommandOf verb operands result = ⊥

-- a first word and the words after it: a command's name with its operands, or a route
abbrev pub IsNamedOrRoute : Option Verb → List ℕ → List (List ℕ) → Result Command LineError → Type 0
IsNamedOrRoute (Some verb) first operands result = IsCommandOf verb operands result
IsNamedOrRoute None first operands result = IsRoute (first ∷ operands) result

-- the command that the words of a line name, or what is wrong with them
abbrev pub IsCommand : List (List ℕ) → Result Command LineError → Type 0
IsCommand [] result = result ≡ Ok command.Nothing
IsCommand (first ∷ operands) result = MatchBool (is_comment first) (result ≡ Ok command.Nothing)
    (IsNamedOrRoute (verb_of first) first operands result)
