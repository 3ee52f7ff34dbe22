-- What a request for memory says of how many keys a map has.
use Rattle.std.proofs.Common.{◌≡◌, ℕ, zero, suc, ◌+◌, ◌≤◌, Bool, true, false, length, arith, List, [], ◌∷◌, ap}
use Rattle.std.proofs.Common.{Option, Some, None, ◌||◌, ◌&&◌}
use Rattle.std.proofs.lemmas.Map.Entries.{length-keys_of}
use Rattle.std.specs.Prelude.{◌≢◌, ◌==◌, is_some, if◌then◌else◌, nat_le}
use Rattle.std.specs.List.{cons_option, filter_map}
use Rattle.rart_keys.specs.ByteStrings.{byte_after}
use Rattle.rart_keys.specs.SortedMap.{keys_of}
use Rattle.rart_trie.specs.edits.InsertAllocations.{insert_allocates}
use Rattle.rart_trie.specs.edits.RemoveAllocations.{is_leaf_record, last_before, remove_allocates, shrinks}
use Rattle.rart_trie.specs.shapes.Shape.{NodeRecord, capacity_of, contains_key, next_bytes, record_at}
use Rattle.rart_trie.specs.shapes.Shape.{record_from, with_first, without_repeats}

with_first-length : (x : ℕ) (xs : List ℕ) → length (with_first x xs) ≤ length xs + 1
with_first-length x [] = omega arith
with_first-length x (y ∷ ys) = elim (x == y) as (λ b. length (if b then y ∷ ys else x ∷ y ∷ ys) ≤ length (y ∷ ys) + 1) [
  | true ↦ omega arith
  | false ↦ omega arith
]

without_repeats-length : (xs : List ℕ) → length (without_repeats xs) ≤ length xs
without_repeats-length [] = omega arith
without_repeats-length (x ∷ xs) = omega
    (arith, with_first-length x (without_repeats xs), without_repeats-length xs)

filter_map-length : {A B : Type 0} (f : A → Option B) (xs : List A) → length (filter_map f xs) ≤ length xs
filter_map-length f [] = omega arith
filter_map-length f (x ∷ xs) = let rest = filter_map-length f xs in
    elim (f x) as (λ o. length (cons_option o (filter_map f xs)) ≤ length (x ∷ xs)) [
      | None ↦ omega (arith, rest)
      | Some y ↦ omega (arith, rest)
    ]

next_bytes-length : (s : List (List ℕ)) (p : List ℕ) → length (next_bytes s p) ≤ length s
next_bytes-length s p = omega
    (arith, without_repeats-length (filter_map (byte_after p) s), filter_map-length (byte_after p) s)

five-or-more : (n : ℕ) → (n == 5 || n == 17 || n == 49) ≡ true → 5 ≤ n
five-or-more zero e = cc
five-or-more (suc zero) e = cc
five-or-more (suc (suc zero)) e = cc
five-or-more (suc (suc (suc zero))) e = cc
five-or-more (suc (suc (suc (suc zero)))) e = cc
five-or-more (suc (suc (suc (suc (suc n))))) e = omega arith

-- a node that moves its children to smaller storage has five or more
shrinks-five : (h : Bool) (bs : List ℕ) → shrinks (record_from h bs) ≡ true → 5 ≤ length bs
shrinks-five h bs = elim (h || nat_le 2 (length bs)) as (λ z. shrinks (if z then Some (record {
  holds_value = h;
  edges = bs;
  capacity = capacity_of (length bs);
}) else None) ≡ true → 5 ≤ length bs) [
  | true ↦ five-or-more (length bs)
  | false ↦ λ e. cc
]

shrinks-keys : (s : List (List ℕ)) (p : List ℕ) → shrinks (record_at s p) ≡ true → 5 ≤ length s
shrinks-keys s p e = omega
    (arith, shrinks-five (contains_key s p) (next_bytes s p) e, next_bytes-length s p)

last_before-five : (f : List ℕ → Option NodeRecord) (l : Option NodeRecord) (q : List ℕ) (n : ℕ)
    → ((p : List ℕ) → shrinks (f p) ≡ true → 5 ≤ n) → (shrinks l ≡ true → 5 ≤ n)
    → shrinks (last_before f l q) ≡ true → 5 ≤ n
last_before-five f l [] n each low e = low e
last_before-five f l (b ∷ q) n each low e = last_before-five (λ p. f (b ∷ p))
    (if is_some (f []) then f [] else l) q n (λ p. each (b ∷ p))
    (elim (is_some (f [])) as (λ z. shrinks (if z then f [] else l) ≡ true → 5 ≤ n) [
      | true ↦ each []
      | false ↦ low
    ]) e

and-second : (a b : Bool) → (a && b) ≡ true → b ≡ true
and-second true b e = e
and-second false b e = cc

-- a removal that requests memory is of one of five keys or more
pub remove_allocates-five : {V : Type 0} (es : List (List ℕ × V)) (k : List ℕ) → remove_allocates (keys_of es) k ≡ true
    → 5 ≤ length es
remove_allocates-five es k e = omega (
  arith,
  length-keys_of es,
  last_before-five (record_at (keys_of es)) None k (length (keys_of es)) (shrinks-keys (keys_of es)) (λ m. cc)
      (and-second (is_leaf_record (record_at (keys_of es) k)) _ e),
)

-- an insertion that requests memory is into a map that isn't empty
pub insert_allocates-some : {V : Type 0} (es : List (List ℕ × V)) (k : List ℕ) → insert_allocates (keys_of es) k ≡ true
    → es ≢ []
insert_allocates-some es k e n = let none = ap (λ z. insert_allocates (keys_of z) k) n in cc
