-- The keys of packed targets: where the insertion of a new one may allocate.
use Rattle.std.proofs.Common.{◌≡◌, ℕ, zero, suc, ◌+◌, ◌<◌, ◌==◌, ◌||◌, ◌&&◌, ⊎_elim, not, Bool, true, false, List, []}
use Rattle.std.proofs.Common.{◌∷◌, length, map, refl, sym, ap, ◌∙◌, arith, Option, Some, None, is_some, filter_map}
use Rattle.std.proofs.Common.{if◌then◌else◌}
use Rattle.std.specs.List.{cons_option}
use Rattle.std.specs.Prelude.{nat_le}
use Rattle.rart_keys.specs.ByteStrings.{byte_after}
use Rattle.rart_keys.specs.SortedMap.{keys_of}
use Rattle.rart_keys.proofs.strings.ByteOrder.{eq-no}
use Rattle.rart_parts.specs.Bits.{members_from}
use Rattle.rart_trie.specs.edits.InsertAllocations.{has_free_slot, insert_allocates, takes_child}
use Rattle.rart_trie.specs.shapes.Shape.{NodeRecord, capacity_of, contains_key, record_at, record_from, with_first}
use Rattle.rart_trie.specs.shapes.Shape.{without_repeats}
use Rattle.rart_cidr.specs.CodeSets.{pairs_from}
use Rattle.rart_cidr.proofs.routes.PackedLemmas.{either, first-target, not_both, with-code, without-code}

-- keys of one byte
abbrev pub singles : List ℕ → List (List ℕ)
singles cs = map (λ c. c ∷ []) cs

members-with : (has : ℕ → Bool) (from count : ℕ) → has from ≡ true
    → members_from has from (suc count) ≡ from ∷ members_from has (suc from) count
members-with has from count e = ap (λ b. if b then from ∷ members_from has (suc from) count
    else members_from has (suc from) count) e

members-without : (has : ℕ → Bool) (from count : ℕ) → has from ≡ false
    → members_from has from (suc count) ≡ members_from has (suc from) count
members-without has from count e = ap (λ b. if b then from ∷ members_from has (suc from) count
    else members_from has (suc from) count) e

pub keys-pairs : {T : Type 0} → (has : ℕ → Bool) (from count : ℕ) (ts : List T)
    → length ts ≡ length (members_from has from count)
    → keys_of (pairs_from has from count ts) ≡ singles (members_from has from count)
keys-pairs has from zero ts l = refl
keys-pairs has from (suc count) ts l = ⊎_elim
    (λ y.
    let f = first-target has from count ts y l in
    ap (λ z. keys_of (pairs_from has from (suc count) z)) f.2
    ∙ ap keys_of (with-code has from count f.0 f.1 y)
    ∙ ap (λ z. (from ∷ []) ∷ z) (keys-pairs has (suc from) count f.1 f.3)
    ∙ ap singles (sym (members-with has from count y)))
    (λ n. ap keys_of (without-code has from count ts n)
    ∙ keys-pairs has (suc from) count ts (l ∙ ap length (members-without has from count n))
    ∙ ap singles (sym (members-without has from count n)))
    (either (has from))

-- the first bytes, and what follows a key
first-bytes : (cs : List ℕ) → filter_map (byte_after []) (singles cs) ≡ cs
first-bytes [] = refl
first-bytes (c ∷ cs) = ap (λ l. c ∷ l) (first-bytes cs)

none-after : (q : ℕ) (cs : List ℕ) → filter_map (byte_after (q ∷ [])) (singles cs) ≡ []
none-after q [] = refl
none-after q (c ∷ cs) = elim (c == q) as (λ b. cons_option (if b then byte_after [] [] else None)
    (filter_map (byte_after (q ∷ [])) (singles cs)) ≡ []) [ true ↦ none-after q cs | false ↦ none-after q cs ]

none-empty : (cs : List ℕ) → contains_key (singles cs) [] ≡ false
none-empty [] = refl
none-empty (c ∷ cs) = none-empty cs

pub not-a-key : (has : ℕ → Bool) (q from count : ℕ) → has q ≡ false
    → contains_key (singles (members_from has from count)) (q ∷ []) ≡ false
not-a-key has q from zero h = refl
not-a-key has q from (suc count) h = elim (has from) as (λ b. has from ≡ b → contains_key
    (singles (if b then from ∷ members_from has (suc from) count else members_from has (suc from) count)) (q ∷ [])
    ≡ false) [
      | true ↦ λ y. rw (eq-no from q (λ e. not_both (has from) y (ap has e ∙ h)))
          (not-a-key has q (suc from) count h)
      | false ↦ λ n. not-a-key has q (suc from) count h
    ] refl

-- ascending numbers have no repeats
first-once : (k : ℕ) (has : ℕ → Bool) (from count : ℕ) → k < from
    → with_first k (members_from has from count) ≡ k ∷ members_from has from count
first-once k has from zero h = refl
first-once k has from (suc count) h = elim (has from) as (λ b.
    with_first k (if b then from ∷ members_from has (suc from) count else members_from has (suc from) count)
    ≡ k ∷ (if b then from ∷ members_from has (suc from) count else members_from has (suc from) count)) [
      | true ↦ rw (eq-no k from (λ e. omega (arith, e, h))) refl
      | false ↦ first-once k has (suc from) count (omega (arith, h))
    ]

pub once : (has : ℕ → Bool) (from count : ℕ) → without_repeats (members_from has from count)
    ≡ members_from has from count
once has from zero = refl
once has from (suc count) = elim (has from) as (λ b. without_repeats
    (if b then from ∷ members_from has (suc from) count else members_from has (suc from) count)
    ≡ (if b then from ∷ members_from has (suc from) count else members_from has (suc from) count)) [
      | true ↦ ap (with_first from) (once has (suc from) count) ∙ first-once from has (suc from) count (omega arith)
      | false ↦ once has (suc from) count
    ]

-- a node of n children, if it is one, takes none without memory
full-root : (n q : ℕ) (cs : List ℕ) → length cs ≡ n → has_free_slot n ≡ false
    → takes_child (record_from false cs) q ≡ false
full-root n q cs l h = elim (nat_le 2 (length cs)) as (λ b. takes_child (if b
    then Some (record { holds_value = false; edges = cs; capacity = capacity_of (length cs) }) else None) q ≡ false) [
      | true ↦ rw (l, h) refl
      | false ↦ refl
    ]

-- the insertion of another key may allocate where there are 1, 4, 16, 48 or 256
pub allocates : (cs : List ℕ) (q : ℕ) → without_repeats cs ≡ cs → contains_key (singles cs) (q ∷ []) ≡ false
    → 0 < length cs → has_free_slot (length cs) ≡ false → insert_allocates (singles cs) (q ∷ []) ≡ true
allocates [] q o k p h = absurd (omega (arith, p))
allocates (c ∷ cs) q o k p h =
    let s : List (List ℕ) = singles (c ∷ cs) in
    let none : record_at s (q ∷ []) ≡ None
    = λ i. record_from (k i) (without_repeats (none-after q (c ∷ cs) i)) in
    let root : record_at s [] ≡ record_from false (c ∷ cs)
    = (λ i. record_from (none-empty (c ∷ cs) i) (without_repeats (first-bytes (c ∷ cs) i)))
    ∙ ap (record_from false) o in
    let taken : takes_child (record_at s []) q ≡ false = ap (λ r. takes_child r q) root
    ∙ full-root (length (c ∷ cs)) q (c ∷ cs) refl h in
    λ i. not (is_some (none i) || (if is_some (none i) then false else taken i))
