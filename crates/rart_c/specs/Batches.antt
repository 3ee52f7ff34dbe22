-- Batches: pairs that a call writes to a buffer of the caller.
use Rattle.std.specs.Prelude.{◌≡◌, ◌≢◌, ◌<◌, ◌≤◌, ℕ, nat_lt, min, Bool, List, [], length, map, take, drop, Option, None}
use Rattle.std.specs.Prelude.{Some}
use Rattle.rart_c.specs.Answers.{Status, Done, NoMemory, KeyTooLong, BadBound}
use Rattle.rart_c.specs.declared.bounds.BoundFault.{BoundFault}
use Rattle.rart_c.specs.declared.bounds.BoundFault.TheVariants as fault

-- the first of these pairs, as many as fit, were written to the front of a buffer. The rest of the buffer is unchanged;
-- `written` is their number, and `more` says whether pairs are left
pub record IsBatch {P A : Type 0} (read : P → A) (all : List A) (old new : List P) (written : ℕ) (more : Bool) : Type 0
  where
    pub number : written ≡ min (length old) (length all)
    pub pairs : map read (take written new) ≡ take (length old) all
    pub rest : drop written new ≡ drop written old
    pub left : more ≡ nat_lt (length old) (length all)

-- the variables of the caller to which a batch is written
pub record Buffer (P : Type 0) : Type 0 where
  pub pairs : List P
  pub written : ℕ
  pub more : Bool

-- `range`, `range_descending`: of a map with the pairs `held`, of which `all` are within the bounds. Not done: nothing
-- was written
abbrev pub RangesTo : {P : Type 0} → (P → List ℕ × ℕ) → Option BoundFault → List (List ℕ × ℕ) → List (List ℕ × ℕ)
    → Buffer P → Buffer P → Status → Type 0
RangesTo read faulty held all old new Done = (faulty ≡ None) × IsBatch read all old.pairs new.pairs new.written new.more
RangesTo read faulty held all old new NoMemory = (faulty ≡ None) × (held ≢ []) × (new ≡ old)
RangesTo read faulty held all old new KeyTooLong = (faulty ≡ Some fault.KeyTooLong) × (new ≡ old)
RangesTo read faulty held all old new BadBound = (faulty ≡ Some fault.BadKind) × (new ≡ old)
RangesTo read faulty held all old new _ = ⊥

-- `matches`: of a probe of `len` bytes, where keys have at most `width`
abbrev pub MatchesTo : {P : Type 0} → (P → List ℕ × ℕ) → ℕ → ℕ → List (List ℕ × ℕ) → Buffer P → Buffer P → Status → Type
    0
MatchesTo read width len all old new Done = (len ≤ width) × IsBatch read all old.pairs new.pairs new.written new.more
MatchesTo read width len all old new KeyTooLong = (width < len) × (new ≡ old)
MatchesTo read width len all old new _ = ⊥
