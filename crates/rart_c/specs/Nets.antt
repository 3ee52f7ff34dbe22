-- What the calls on a table of networks return and write, and the routes afterwards. A network is the first `len` of
-- the bits of an address, if it has that many and the others are zeros.
use Rattle.std.specs.Prelude.{◌≡◌, ◌≢◌, ◌<◌, ◌≤◌, ℕ, Bool, List, length, take, option_map, None, Some}
use Rattle.rart_keys.specs.Filters.{longest_match}
use Rattle.rart_keys.specs.SortedMap.{lookup, put, without}
use Rattle.rart.specs.declared.tree.TheConstants.{MAX_PAIRS}
use Rattle.rart_cidr.specs.Bits.{AreClearAfter}
use Rattle.rart_c.specs.Answers.{Status, Done, Otherwise, NoMemory, Full, BadLength, HostBits, IsUnchanged, Finds}

-- the address and the length make a network
abbrev pub IsNet : List ℕ → ℕ → Type 0
IsNet bits len = (len ≤ length bits) × AreClearAfter bits len

-- bits of the address are set after the network's
abbrev pub HasHostBits : List ℕ → ℕ → Type 0
HasHostBits bits len = (len ≤ length bits) × ¬ (AreClearAfter bits len)

-- `insert`. Done: the network was new. Otherwise: it was stored, and its old target was written
abbrev pub InsertsNet : List ℕ → ℕ → ℕ → List (List ℕ × ℕ) → List (List ℕ × ℕ) → ℕ → ℕ → Status → Type 0
InsertsNet bits len target old new was is Done = IsNet bits len × (lookup (take len bits) old ≡ None)
    × (length old ≢ MAX_PAIRS) × (new ≡ put (take len bits) target old) × (is ≡ was)
InsertsNet bits len target old new was is Otherwise = IsNet bits len × (lookup (take len bits) old ≡ Some is)
    × (new ≡ put (take len bits) target old)
InsertsNet bits len target old new was is NoMemory = IsNet bits len × (lookup (take len bits) old ≡ None)
    × (length old < MAX_PAIRS) × IsUnchanged old new was is
InsertsNet bits len target old new was is Full = IsNet bits len × (lookup (take len bits) old ≡ None)
    × (length old ≡ MAX_PAIRS) × IsUnchanged old new was is
InsertsNet bits len target old new was is BadLength = (length bits < len) × IsUnchanged old new was is
InsertsNet bits len target old new was is HostBits = HasHostBits bits len × IsUnchanged old new was is
InsertsNet bits len target old new was is _ = ⊥

-- `remove`. Done: the network was stored, and its target was written. Otherwise: it was not stored
abbrev pub RemovesNet : List ℕ → ℕ → List (List ℕ × ℕ) → List (List ℕ × ℕ) → ℕ → ℕ → Status → Type 0
RemovesNet bits len old new was is Done = IsNet bits len × (lookup (take len bits) old ≡ Some is)
    × (new ≡ without (take len bits) old)
RemovesNet bits len old new was is Otherwise = IsNet bits len × (lookup (take len bits) old ≡ None)
    × IsUnchanged old new was is
RemovesNet bits len old new was is NoMemory = IsNet bits len × (lookup (take len bits) old ≢ None) × (5 ≤ length old)
    × IsUnchanged old new was is
RemovesNet bits len old new was is BadLength = (length bits < len) × IsUnchanged old new was is
RemovesNet bits len old new was is HostBits = HasHostBits bits len × IsUnchanged old new was is
RemovesNet bits len old new was is _ = ⊥

-- `get`. Done: the network is stored, and its target was written. Otherwise: it is not stored
abbrev pub FindsNet : List ℕ → ℕ → List (List ℕ × ℕ) → ℕ → ℕ → Status → Type 0
FindsNet bits len routes was is Done = IsNet bits len × (lookup (take len bits) routes ≡ Some is)
FindsNet bits len routes was is Otherwise = IsNet bits len × (lookup (take len bits) routes ≡ None) × (is ≡ was)
FindsNet bits len routes was is BadLength = (length bits < len) × (is ≡ was)
FindsNet bits len routes was is HostBits = HasHostBits bits len × (is ≡ was)
FindsNet bits len routes was is _ = ⊥

-- `longest_match`. The longest network that contains the address has `len` bits
abbrev pub FindsLongestNet : List ℕ → List (List ℕ × ℕ) → ℕ × ℕ → ℕ × ℕ → Bool → Type 0
FindsLongestNet bits routes = Finds (λ w. w) (option_map (λ p. (length p.0, p.1)) (longest_match bits routes))
