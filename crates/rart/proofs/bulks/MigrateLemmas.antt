-- Keys that lose their closing zeros.
use Rattle.std.proofs.Common.{◌≡◌, ℕ, ◌+◌, ◌≤◌, List, [], ◌∷◌, ◌++◌, length, length-append, map, sym, ap, ◌∙◌}
use Rattle.std.proofs.Common.{arith, subst, Less}
use Rattle.std.specs.Cmp.Lexicographic.{slice_cmp}
use Rattle.std.specs.Ordering.{nat_cmp}
use Rattle.std.proofs.lemmas.List.{append-nil, length-map, map-append}
use Rattle.rart_keys.specs.BulkLists.{order_of_last}
use Rattle.rart_keys.specs.SortedMap.{IsAscending, keys_of}
use Rattle.rart_trie.specs.shapes.KeyLists.{unit_pairs}
use Rattle.rart.specs.Migrations.{AreTerminated, terminated_key, with_zeros}
use Rattle.rart.proofs.bulks.BulkEndLemmas.{ascending-by-keys}
use Rattle.rart.proofs.bulks.BulkLoadLemmas.{last-below}
use Rattle.rart.proofs.bulks.CopyLemmas.{copied-more}

-- a closing zero after both keys changes nothing of their order
abbrev ClosingZeros : Type 0
ClosingZeros = (xs ys : List ℕ) → slice_cmp nat_cmp (xs ++ 0 ∷ []) (ys ++ 0 ∷ []) ≡ slice_cmp nat_cmp xs ys

module _ {V : Type 0} where
  order-of-texts : ClosingZeros → (es : List (List ℕ × V)) (t : List ℕ)
      → order_of_last (keys_of (with_zeros es)) (terminated_key t) ≡ order_of_last (keys_of es) t
  order-of-texts law [] t = cc
  order-of-texts law (e ∷ []) t = law e.0 t
  order-of-texts law (e ∷ f ∷ es) t = order-of-texts law (f ∷ es) t

  -- a text is above those before it, as its terminated key is
  pub text-below : ClosingZeros → (all es rest next : List (List ℕ × V)) (k t : List ℕ) (v : V) → IsAscending all
      → all ≡ with_zeros es ++ rest → rest ≡ (k, v) ∷ next → k ≡ terminated_key t
      → order_of_last (keys_of es) t ≡ Less
  text-below law all es rest next k t v up read steps closes =
      let keys : keys_of all ≡ keys_of (with_zeros es) ++ terminated_key t ∷ keys_of next
      = ap keys_of (read ∙ ap (λ z. with_zeros es ++ z) steps) ∙ map-append (λ e. e.0) (with_zeros es) ((k, v) ∷ next)
      ∙ ap (λ z. keys_of (with_zeros es) ++ z ∷ keys_of next) closes in
      sym (order-of-texts law es t) ∙ last-below (keys_of (with_zeros es)) (terminated_key t) (keys_of next)
      (subst (λ z. IsAscending (unit_pairs z)) keys (ascending-by-keys all up))

  -- one text more is read
  pub texts-more : (all es more rest next : List (List ℕ × V)) {k : List ℕ} (t : List ℕ) {v : V}
      → all ≡ with_zeros es ++ rest
      → rest ≡ (k, v) ∷ next → k ≡ terminated_key t → more ≡ es ++ (t, v) ∷ [] → all ≡ with_zeros more ++ next
  texts-more all es more rest next {k} t {v} read steps closes pushed
      = sym (copied-more (with_zeros es) (with_zeros more) rest next all (k, v) (ap with_zeros pushed
      ∙ map-append (λ e. (terminated_key e.0, e.1)) es ((t, v) ∷ [])
      ∙ ap (λ z. with_zeros es ++ (z, v) ∷ []) (sym closes)) steps (sym read))

one-text : (xs : List (List ℕ)) (k : List ℕ) (ys ts : List (List ℕ)) → xs ++ k ∷ ys ≡ map terminated_key ts
    → (t : List ℕ) × (k ≡ terminated_key t)
one-text [] k ys [] e = absurd (cc)
one-text [] k ys (t ∷ ts) e = (t, cc)
one-text (x ∷ xs) k ys [] e = absurd (cc)
one-text (x ∷ xs) k ys (t ∷ ts) e = one-text xs k ys ts (cc)

-- a key of a tree of terminated ones ends in a zero byte
pub terminated : {V : Type 0} (all es rest next : List (List ℕ × V)) (k : List ℕ) (v : V) → AreTerminated (keys_of all)
    → all ≡ with_zeros es ++ rest → rest ≡ (k, v) ∷ next → (t : List ℕ) × (k ≡ terminated_key t)
terminated all es rest next k v texts read steps = one-text (keys_of (with_zeros es)) k (keys_of next) texts.0
    (sym (ap keys_of (read ∙ ap (λ z. with_zeros es ++ z) steps)
    ∙ map-append (λ e. e.0) (with_zeros es) ((k, v) ∷ next)) ∙ texts.1)

-- the texts of the keys that were tested, of which there are n
abbrev pub TestedTexts : {V : Type 0} → ℕ → List (List ℕ × V) → List (List ℕ × V) → Type 0
TestedTexts n all rest = (texts : List (List ℕ)) × (keys_of all ≡ map terminated_key texts ++ keys_of rest)
    × (length texts ≡ n)

pub tested-more : {V : Type 0} (n : ℕ) (all rest next : List (List ℕ × V)) (k t : List ℕ) (v : V)
    → TestedTexts n all rest → rest ≡ (k, v) ∷ next → k ≡ terminated_key t → TestedTexts (n + 1) all next
tested-more n all rest next k t v tested steps closes = (
  tested.0 ++ t ∷ [],
  sym (copied-more (map terminated_key tested.0) (map terminated_key (tested.0 ++ t ∷ [])) (keys_of rest) (keys_of next)
      (keys_of all) k (map-append terminated_key tested.0 (t ∷ [])
      ∙ ap (λ z. map terminated_key tested.0 ++ z ∷ []) (sym closes)) (ap keys_of steps) (sym tested.1)),
  omega (arith, tested.2, length-append tested.0 (t ∷ [])),
)

-- all keys were tested
pub all-tested : {V : Type 0} (n : ℕ) (all rest : List (List ℕ × V)) → TestedTexts n all rest → length all ≤ n
    → AreTerminated (keys_of all)
all-tested n all [] tested end = (tested.0, tested.1 ∙ append-nil (map terminated_key tested.0))
all-tested n all (e ∷ rest) tested end = absurd (omega (
  arith,
  end,
  tested.2,
  ap length tested.1,
  length-map all (λ d. d.0),
  length-map tested.0 terminated_key,
  length-append (map terminated_key tested.0) (e.0 ∷ keys_of rest),
))
