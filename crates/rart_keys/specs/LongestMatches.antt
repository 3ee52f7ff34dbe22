-- Which stored key is the longest that begins a probe, and what becomes of it.
use Rattle.std.specs.Prelude.{◌≡◌, ◌≢◌, ◌≤◌, ◌<◌, ℕ, List, [], ◌∷◌, length, true, false, None, Some}
use Rattle.rart_keys.specs.ByteStrings.{begins}
use Rattle.rart_keys.specs.Filters.{longest_match}
use Rattle.rart_keys.specs.SortedMap.{lookup}

-- no stored key that begins q is longer than p
abbrev pub HasNoLonger : {V : Type 0} → List ℕ → List ℕ → List (List ℕ × V) → Type 0
HasNoLonger p q es = (k : List ℕ) → lookup k es ≢ None → begins k q ≡ true → length k ≤ length p

-- a stored key that begins q is longer than p
abbrev pub HasLonger : {V : Type 0} → List ℕ → List ℕ → List (List ℕ × V) → Type 0
HasLonger p q es = (k : List ℕ) × (lookup k es ≢ None) × (begins k q ≡ true) × (length p < length k)

-- the probe keeps its longest match
abbrev pub KeepsLongest : {V : Type 0} → List ℕ → List (List ℕ × V) → List (List ℕ × V) → Type 0
KeepsLongest q old new = longest_match q new ≡ longest_match q old

-- v at p is the probe's longest match, if p begins the probe and no longer key that was stored does
abbrev pub TakesLongest : {V : Type 0} → List ℕ → V → List ℕ → List (List ℕ × V) → List (List ℕ × V) → Type 0
TakesLongest p v q old new = begins p q ≡ true → HasNoLonger p q old → longest_match q new ≡ Some (p, v)

-- the probe keeps its longest match, if p doesn't begin it
abbrev pub KeepsOthers : {V : Type 0} → List ℕ → List ℕ → List (List ℕ × V) → List (List ℕ × V) → Type 0
KeepsOthers p q old new = begins p q ≡ false → KeepsLongest q old new

-- the pair p, v is stored, p begins q, and no longer stored key does
abbrev pub IsLongest : {V : Type 0} → List ℕ → V → List ℕ → List (List ℕ × V) → Type 0
IsLongest p v q es = (lookup p es ≡ Some v) × (begins p q ≡ true) × HasNoLonger p q es

-- no stored key begins q
abbrev pub HasNoMatch : {V : Type 0} → List ℕ → List (List ℕ × V) → Type 0
HasNoMatch q es = (k : List ℕ) → begins k q ≡ true → lookup k es ≡ None

-- the longest match of q, if it has one, is the longest stored key that begins q
abbrev pub MatchIsLongest : {V : Type 0} → List ℕ → V → List ℕ → List (List ℕ × V) → Type 0
MatchIsLongest p v q es = longest_match q es ≡ Some (p, v) → IsLongest p v q es

-- the longest stored key that begins q is the longest match of q
abbrev pub LongestIsMatch : {V : Type 0} → List ℕ → V → List ℕ → List (List ℕ × V) → Type 0
LongestIsMatch p v q es = IsLongest p v q es → longest_match q es ≡ Some (p, v)

-- each key of the list is longer than k
abbrev pub AreLonger : {V : Type 0} → List ℕ → List (List ℕ × V) → Type 0
AreLonger k [] = Unit {0}
AreLonger k (e ∷ es) = (length k < length e.0) × AreLonger k es

-- the lengths of the keys ascend strictly
abbrev pub AscendByLength : {V : Type 0} → List (List ℕ × V) → Type 0
AscendByLength [] = Unit {0}
AscendByLength (e ∷ es) = AreLonger e.0 es × AscendByLength es
