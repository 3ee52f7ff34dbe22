-- A tree that is loaded pair by pair, in the order of the keys.
use Rattle.std.specs.Prelude.{ℕ, ◌≡◌, ◌<◌, ◌≤◌, ◌-◌, ◌^◌, min, List, [], ◌∷◌, ◌++◌, length, Option, Some, None}
use Rattle.std.specs.Prelude.{Result, IfErr, OnOk}
use Rattle.rart_keys.specs.KeyBytes.{IsWithin}
use Rattle.rart_keys.specs.SortedMap.{longest_key}
use Rattle.rart_trie.specs.build.Spine.{IsBuilderAt, builder_pairs}
use Rattle.rart_trie.specs.declared.node.edits.builder.Builder.{Builder}
use Rattle.rart.specs.BulkLoads.{FailsSorted, LoadsSorted}
use Rattle.rart.specs.declared.bulk.BulkError.{BulkError}
use Rattle.rart.specs.declared.bulk.BulkError.TheVariants.{Memory, Full, Unsorted}
use Rattle.rart.specs.declared.tree.TheConstants.{MAX_PAIRS}

module _ {K P V : Type 0} (bytes : K → List ℕ) where
  -- the pairs: those of the builder and the last, which is not in it
  abbrev pub loaded_pairs : Builder P V → Option (K × V) → List (List ℕ × V)
  loaded_pairs b None = []
  loaded_pairs b (Some p) = builder_pairs (bytes p.0) b ++ (bytes p.0, p.1) ∷ []

  -- the builder is at the last key; before the first it may be at any
  abbrev pub IsAtLast : Builder P V → Option (K × V) → Type 0
  IsAtLast b None = (k : List ℕ) → IsBuilderAt k b × (builder_pairs k b ≡ [])
  IsAtLast b (Some p) = IsBuilderAt (bytes p.0) b

  -- `len` counts the pairs, and no key is longer than `longest`, which is within the keys' maximum
  pub record AreLoaderFields (maximum : Option ℕ) (b : Builder P V) (last : Option (K × V)) (len longest : ℕ)
      : Type 0 where
    pub at_last : IsAtLast b last
    pub counted : len ≡ length (loaded_pairs b last)
    pub few : len ≤ MAX_PAIRS
    pub short : longest_key (loaded_pairs b last) ≤ longest
    pub within : IsWithin maximum longest
    pub unused : len ≡ 0 → longest ≡ 0

-- how a pair after n others is refused
abbrev pub FailsAppend : ℕ → BulkError → Type 0
FailsAppend n Memory = n < MAX_PAIRS
FailsAppend n Full = n ≡ MAX_PAIRS
FailsAppend n (Unsorted at) = ⊥

module _ {V : Type 0} where
  -- the value of the last pair is v now
  pub record ReplacesLast (v : V) (old new : List (List ℕ × V)) : Type 0 where
    pub before : List (List ℕ × V)
    pub key : List ℕ
    pub replaced : V
    pub were : old ≡ before ++ (key, replaced) ∷ []
    pub are : new ≡ before ++ (key, v) ∷ []

  -- one item more is read: with Ok, `new` is then what is loaded
  abbrev pub KeepsItem : {A E : Type 0} → List (List ℕ × V) → List ℕ → V → Result A E → List (List ℕ × V) → Type 0
  KeepsItem {A} {E} old k v r new = (es : List (List ℕ × V)) → LoadsSorted es old
      → OnOk r (LoadsSorted (es ++ (k, v) ∷ []) new)

  -- and with Err the load stops there; the item's place is `at`
  abbrev pub FailsAtItem : {A : Type 0} → List (List ℕ × V) → List ℕ → V → ℕ → Result A BulkError → Type 0
  FailsAtItem {A} old k v at r = (es : List (List ℕ × V)) → LoadsSorted es old
      → at ≡ min (length es) (2 ^ 64 - 1) → IfErr r (FailsSorted (es ++ (k, v) ∷ []))
