-- Where the reading of a bulk load stops, and what it has read by then.
use Rattle.std.proofs.Common.{◌≡◌, ℕ, ◌+◌, List, [], ◌∷◌, ◌++◌, length, length-append, refl, sym, ap, ◌∙◌, arith}
use Rattle.std.proofs.Common.{Option, Some, Less, Equal}
use Rattle.std.specs.Cmp.Lexicographic.{slice_cmp}
use Rattle.std.specs.Iterator.{Yields}
use Rattle.std.specs.Ordering.{nat_cmp}
use Rattle.std.proofs.iter.Next.{Yields-more}
use Rattle.std.proofs.lemmas.List.{map-append}
use Rattle.rart_keys.specs.BulkLists.{WasRead, last_wins, order_of_last}
use Rattle.rart_keys.specs.SortedMap.{IsAscending, keys_of, values_of}
use Rattle.rart_trie.specs.shapes.KeyLists.{unit_pairs}
use Rattle.rart.specs.BulkLoads.{LoadsSorted, Reads, FailsSorted, FailsUnique}
use Rattle.rart.specs.Loaders.{FailsAppend, ReplacesLast}
use Rattle.rart.specs.Steps.{pairs_in}
use Rattle.rart.specs.declared.bulk.BulkError.{BulkError}
use Rattle.rart.specs.declared.bulk.BulkError.TheVariants.{Memory, Full, Unsorted}
use Rattle.rart.proofs.bulks.BulkTreeLemmas.{same-pairs}

-- what one more item does to the keys and values that stay of a list without fault
abbrev Later : Type 0 → Type 0
Later V = (es : List (List ℕ × V)) (ks : List (List ℕ)) (vs : List V) (k : List ℕ) (v : V) → WasRead es ks vs
    → order_of_last ks k ≡ Less → WasRead (es ++ (k, v) ∷ []) (ks ++ k ∷ []) (vs ++ v ∷ [])

abbrev Same : Type 0 → Type 0
Same V = (es : List (List ℕ × V)) (ks : List (List ℕ)) (vs ws : List V) (w : V) (k : List ℕ) (v : V) → WasRead es ks vs
    → order_of_last ks k ≡ Equal → vs ≡ ws ++ w ∷ [] → WasRead (es ++ (k, v) ∷ []) ks (ws ++ v ∷ [])

not-empty : {A : Type 0} (xs : List A) (x : A) → xs ++ x ∷ [] ≡ [] → ⊥
not-empty xs x e = omega (arith, ap length e, length-append xs (x ∷ []))

-- the last of some keys
pub order-at-end : (ks : List (List ℕ)) (l k : List ℕ) → order_of_last (ks ++ l ∷ []) k ≡ slice_cmp nat_cmp l k
order-at-end [] l k = refl
order-at-end (j ∷ []) l k = refl
order-at-end (j ∷ i ∷ ks) l k = order-at-end (i ∷ ks) l k

-- a key of an ascending list is above the last before it
pub last-below : (ks : List (List ℕ)) (k : List ℕ) (rest : List (List ℕ)) → IsAscending (unit_pairs (ks ++ k ∷ rest))
    → order_of_last ks k ≡ Less
last-below [] k rest a = refl
last-below (j ∷ []) k rest a = a.0.0
last-below (j ∷ i ∷ ks) k rest a = last-below (i ∷ ks) k rest a.1

module _ {V : Type 0} where
  pub keys-at-end : (es : List (List ℕ × V)) (k : List ℕ) (v : V) → keys_of (es ++ (k, v) ∷ []) ≡ keys_of es ++ k ∷ []
  keys-at-end es k v = map-append (λ e. e.0) es ((k, v) ∷ [])

  pub values-at-end : (es : List (List ℕ × V)) (k : List ℕ) (v : V)
      → values_of (es ++ (k, v) ∷ []) ≡ values_of es ++ v ∷ []
  values-at-end es k v = map-append (λ e. e.1) es ((k, v) ∷ [])

  as-read : (es m : List (List ℕ × V)) → LoadsSorted es m → WasRead es (keys_of m) (values_of m)
  as-read es m l = record { faultless = l.0; keys = ap keys_of l.1; values = ap values_of l.1 }

  as-loaded : (es m : List (List ℕ × V)) (ks : List (List ℕ)) (vs : List V) → WasRead es ks vs → keys_of m ≡ ks
      → values_of m ≡ vs → LoadsSorted es m
  as-loaded es m ks vs r k v = (r.faultless, same-pairs m (last_wins es) (k ∙ r.keys) (v ∙ r.values))

-- an item (k, v) after the items es, which left the pairs m
module _ {V : Type 0} (es m : List (List ℕ × V)) (k : List ℕ) (v : V) (l : LoadsSorted es m) where
  pub appended : Later V → Less ≡ order_of_last (keys_of m) k → LoadsSorted (es ++ (k, v) ∷ []) (m ++ (k, v) ∷ [])
  appended law o = as-loaded (es ++ (k, v) ∷ []) (m ++ (k, v) ∷ []) (keys_of m ++ k ∷ []) (values_of m ++ v ∷ [])
      (law es (keys_of m) (values_of m) k v (as-read es m l) (sym o)) (keys-at-end m k v) (values-at-end m k v)

  pub append-fails : Later V → Less ≡ order_of_last (keys_of m) k → (e : BulkError) → FailsAppend (length m) e
      → FailsSorted (es ++ (k, v) ∷ []) e
  append-fails law o Memory f = let more = appended law o in (
    not-empty es (k, v),
    more.0,
    omega (arith, f, ap length more.1, length-append m ((k, v) ∷ [])),
  )
  append-fails law o Full f = let more = appended law o in (
    more.0,
    omega (arith, f, ap length more.1, length-append m ((k, v) ∷ [])),
    (es, (k, v), refl, omega (arith, f, ap length l.1)),
  )
  append-fails law o (Unsorted at) f = absurd f

  pub replaced : Same V → Equal ≡ order_of_last (keys_of m) k → (n : List (List ℕ × V)) → ReplacesLast v m n
      → LoadsSorted (es ++ (k, v) ∷ []) n
  replaced law o n r = as-loaded (es ++ (k, v) ∷ []) n (keys_of m) (values_of r.before ++ v ∷ [])
      (law es (keys_of m) (values_of m) (values_of r.before) r.replaced k v (as-read es m l) (sym o)
      (ap values_of r.were ∙ values-at-end r.before r.key r.replaced))
      (ap keys_of r.are ∙ keys-at-end r.before r.key v ∙ sym (keys-at-end r.before r.key r.replaced)
      ∙ ap keys_of (sym r.were))
      (ap values_of r.are ∙ values-at-end r.before r.key v)

pub pairs-more : {K V : Type 0} (bytes : K → List ℕ) (xs : List (K × V)) (x : K × V)
    → pairs_in bytes (xs ++ x ∷ []) ≡ pairs_in bytes xs ++ (bytes x.0, x.1) ∷ []
pairs-more bytes xs x = map-append (λ p. (bytes p.0, p.1)) xs (x ∷ [])

-- one item more was read
pub reads-more : {U S A : Type 0} (becomes : U → S → Type 0) (steps : S → Option A → S → Type 0) (items : U) (P : List A
    → Type 0) (s t u : S) (xs : List A) (x : A) (o : Option A) → becomes items s → Yields steps s xs t → o ≡ Some x
    → steps t o u → P (xs ++ x ∷ []) → Reads becomes steps items P
reads-more becomes steps items P s t u xs x o b y e h p
    = (s, xs ++ x ∷ [], u, b, Yields-more steps s xs t x u y (rw e at h), p)

-- items that ascend strictly: an item after others, all of which were kept
unique-length : {K V : Type 0} (bytes : K → List ℕ) (xs : List (K × V)) (x : K × V) (m : List (List ℕ × V))
    → m ≡ pairs_in bytes xs → length (pairs_in bytes (xs ++ x ∷ [])) ≡ length m + 1
unique-length bytes xs x m is = ap length (pairs-more bytes xs x)
    ∙ length-append (pairs_in bytes xs) ((bytes x.0, x.1) ∷ []) ∙ ap (λ z. length z + 1) (sym is)

pub unique-fails : {K V : Type 0} (bytes : K → List ℕ) (xs : List (K × V)) (x : K × V) (m : List (List ℕ × V))
    → m ≡ pairs_in bytes xs → (e : BulkError) → FailsAppend (length m) e → FailsUnique (pairs_in bytes (xs ++ x ∷ [])) e
unique-fails bytes xs x m is Memory f = (
  λ none. omega (arith, ap length none, unique-length bytes xs x m is),
  omega (arith, f, unique-length bytes xs x m is),
)
unique-fails bytes xs x m is Full f = omega (arith, f, unique-length bytes xs x m is)
unique-fails bytes xs x m is (Unsorted at) f = absurd f
