-- The first key above another, found by a count of those that are not above it.
use Rattle.std.proofs.Common.{ℕ, ◌<◌, ◌≤◌, List, get_or}

-- of the first i keys p are not above, and these are the first ones, so far as the keys ascend
pub record CountsBelow (keys : List ℕ) (n key i p : ℕ) : Type 0 where
  pub within : p ≤ i
  pub passed : (k : ℕ) → k < p → k < n → get_or keys k 0 ≤ key
  pub next : p < i → p < n → key < get_or keys p 0
