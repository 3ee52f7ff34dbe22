-- Byte strings.
use Rattle.std.specs.Prelude.{ℕ, ◌≡◌, ◌==◌, Bool, true, false, List, [], ◌∷◌, Option, Some, None, is_some}
use Rattle.std.specs.Prelude.{if◌then◌else◌}
use Rattle.std.proofs.Common.{Less}
use Rattle.std.specs.Ordering.{nat_cmp}
use Rattle.std.specs.Cmp.Lexicographic.{slice_cmp}

-- equal strings, as a test
abbrev pub bytes_eq : List ℕ → List ℕ → Bool
bytes_eq [] [] = true
bytes_eq [] (y ∷ ys) = false
bytes_eq (x ∷ xs) [] = false
bytes_eq (x ∷ xs) (y ∷ ys) = if x == y then bytes_eq xs ys else false

-- decided by the first place that differs; a proper beginning is below its extension
abbrev pub IsLess : List ℕ → List ℕ → Type 0
IsLess k l = slice_cmp nat_cmp k l ≡ Less

-- the rest of k after p, or None where p doesn't begin k
abbrev pub strip_prefix : List ℕ → List ℕ → Option (List ℕ)
strip_prefix [] k = Some k
strip_prefix (x ∷ p) [] = None
strip_prefix (x ∷ p) (y ∷ k) = if x == y then strip_prefix p k else None

-- the byte of k after p, where p properly begins k
abbrev pub byte_after : List ℕ → List ℕ → Option ℕ
byte_after [] [] = None
byte_after [] (y ∷ k) = Some y
byte_after (x ∷ p) [] = None
byte_after (x ∷ p) (y ∷ k) = if y == x then byte_after p k else None

-- k is p, followed by something or by nothing
abbrev pub begins : List ℕ → List ℕ → Bool
begins p k = is_some (strip_prefix p k)
