use Rattle.std.specs.Prelude.{◌≡◌, ◌≤◌, ℕ, List, length, take}

-- m is the greatest number of elements with which both lists begin
pub record IsCommonPrefixLength (xs ys : List ℕ) (m : ℕ) : Type 0 where
  pub within_left : m ≤ length xs
  pub within_right : m ≤ length ys
  pub same : take m xs ≡ take m ys
  pub greatest : (n : ℕ) → n ≤ length xs → n ≤ length ys → take n xs ≡ take n ys → n ≤ m
