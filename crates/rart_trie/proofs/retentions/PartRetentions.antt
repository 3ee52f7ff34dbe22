-- A walk over the pairs of whose keys a test holds, as a walk over these pairs alone.
use Rattle.std.proofs.Common.{◌≡◌, ℕ, ◌+◌, Bool, true, false, not, List, [], ◌∷◌, ◌++◌, length, refl, sym, ap, ◌∙◌}
use Rattle.std.proofs.Common.{arith, subst, if◌then◌else◌, MutBor, Result, Ok, Err}
use Rattle.std.specs.Borrow.{Bor}
use Rattle.std.specs.Fn.{Mut}
use Rattle.std.specs.List.{filter}
use Rattle.std.proofs.lemmas.List.Filters.{length-filter_both}
use Rattle.rart_trie.specs.edits.Retentions.{AllBegin, CallsFor, CanRetain, EndsBelowRefused, Fate, Retains, RetainsAll}
use Rattle.rart_trie.specs.edits.Retentions.{RetainsFirst, RetainsWhere, is_left, key_refused, refusal, refusals}
use Rattle.rart_trie.specs.edits.Retentions.{refused_key, remaining_pairs}
use Rattle.rart_trie.specs.edits.RetainSteps.{CallsIf, CallsWhere, RetainsAllWhere, RetainsFirstWhere}
use Rattle.rart_trie.proofs.changes.ValueChangeLemmas.{pairs_where}
use Rattle.rart_trie.proofs.retentions.RetentionLemmas.{refused_key-none, remaining-none}

module _ {V : Type 0} (t : List ℕ → Bool) where
  -- the pairs of whose keys it doesn't hold
  abbrev pub other_pairs : List (List ℕ × V) → List (List ℕ × V)
  other_pairs es = filter (λ e. not (t e.0)) es

  -- the fates of the pairs of whose keys it holds
  abbrev pub fates_where : List (List ℕ × V) → List (V × Fate) → List (V × Fate)
  fates_where [] xs = []
  fates_where (e ∷ es) [] = []
  fates_where (e ∷ es) (x ∷ xs) = if t e.0 then x ∷ fates_where es xs else fates_where es xs

  length-fates : (es : List (List ℕ × V)) (xs : List (V × Fate)) → length xs ≡ length es
      → length (fates_where es xs) ≡ length (pairs_where t es)
  length-fates [] xs h = refl
  length-fates (e ∷ es) [] h = absurd (omega (arith, h))
  length-fates (e ∷ es) (x ∷ xs) h = let more = length-fates es xs (omega (arith, h)) in
      elim (t e.0) as (λ z. length (if z then x ∷ fates_where es xs else fates_where es xs)
      ≡ length (if z then e ∷ pairs_where t es else pairs_where t es)) [ true ↦ omega (arith, more) | false ↦ more ]

  all_begin-where : (k : List ℕ) (es : List (List ℕ × V)) (xs : List (V × Fate)) → AllBegin k es xs
      → AllBegin k (pairs_where t es) (fates_where es xs)
  all_begin-where k [] xs h = tt
  all_begin-where k (e ∷ es) [] h = tt
  all_begin-where k (e ∷ es) (x ∷ xs) h = let more = all_begin-where k es xs h.1 in
      elim (t e.0) as (λ z. AllBegin k (if z then e ∷ pairs_where t es else pairs_where t es)
      (if z then x ∷ fates_where es xs else fates_where es xs)) [ true ↦ (h.0, more) | false ↦ more ]

  ends-where : (es : List (List ℕ × V)) (xs : List (V × Fate)) → EndsBelowRefused es xs
      → EndsBelowRefused (pairs_where t es) (fates_where es xs)
  ends-where [] xs h = tt
  ends-where (e ∷ es) [] h = tt
  ends-where (e ∷ es) (x ∷ xs) h = let more = ends-where es xs h.1 in
      elim (t e.0) as (λ z. EndsBelowRefused (if z then e ∷ pairs_where t es else pairs_where t es)
      (if z then x ∷ fates_where es xs else fates_where es xs)) [
        | true ↦ (λ r. all_begin-where e.0 es xs (h.0 r), more)
        | false ↦ more
      ]

  -- pairs are left of those alone
  pub same-others : (es ds : List (List ℕ × V)) → other_pairs ds ≡ other_pairs es
      → length ds + length (pairs_where t es) ≡ length es + length (pairs_where t ds)
  same-others es ds h = omega (
    arith,
    length-filter_both (λ e. t e.0) (λ e. not (t e.0)) (λ e. refl) es,
    length-filter_both (λ e. t e.0) (λ e. not (t e.0)) (λ e. refl) ds,
    ap length h,
  )

module _ {F V : Type 0} (call : Mut F (Bor (List ℕ) × (MutBor V × Unit {0})) (Bool × (MutBor V × Unit {0})))
    (t : List ℕ → Bool) where
  calls-fates : (q : List ℕ) (es : List (List ℕ × V)) (xs : List (V × Fate)) (f g : F)
      → CallsWhere call t q f es xs g → CallsFor call q f (pairs_where t es) (fates_where t es xs) g
  calls-fates q [] [] f g i = i
  calls-fates q [] (x ∷ xs) f g i = absurd i
  calls-fates q (e ∷ es) [] f g i = i
  calls-fates q (e ∷ es) (x ∷ xs) f g i = let more = calls-fates q es xs i.0 g i.1.1 in
      elim (t e.0) as (λ z. CallsIf call z f (q ++ e.0, e.1) x i.0
      → CallsFor call q f (if z then e ∷ pairs_where t es else pairs_where t es)
      (if z then x ∷ fates_where t es xs else fates_where t es xs) g) [
        | true ↦ λ c. (i.0, (c, more))
        | false ↦ λ c. subst (λ p. CallsFor call q p (pairs_where t es) (fates_where t es xs) g) (sym c.1) more
      ] i.1.0

  refusals-fates : (q : List ℕ) (es : List (List ℕ × V)) (xs : List (V × Fate)) (f g : F)
      → CallsWhere call t q f es xs g → refusals (fates_where t es xs) ≡ refusals xs
  refusals-fates q [] [] f g i = refl
  refusals-fates q [] (x ∷ xs) f g i = absurd i
  refusals-fates q (e ∷ es) [] f g i = refl
  refusals-fates q (e ∷ es) (x ∷ xs) f g i = let more = refusals-fates q es xs i.0 g i.1.1 in
      elim (t e.0) as (λ z. CallsIf call z f (q ++ e.0, e.1) x i.0
      → refusals (if z then x ∷ fates_where t es xs else fates_where t es xs) ≡ refusals (x ∷ xs)) [
        | true ↦ λ c. omega (arith, more)
        | false ↦ λ c. omega (arith, more, ap (λ z. refusal z.1) c.0)
      ] i.1.0

  refused_key-fates : (q : List ℕ) (es : List (List ℕ × V)) (xs : List (V × Fate)) (f g : F)
      → CallsWhere call t q f es xs g → refused_key (pairs_where t es) (fates_where t es xs) ≡ refused_key es xs
  refused_key-fates q [] [] f g i = refl
  refused_key-fates q [] (x ∷ xs) f g i = absurd i
  refused_key-fates q (e ∷ es) [] f g i = refused_key-none (pairs_where t (e ∷ es))
  refused_key-fates q (e ∷ es) (x ∷ xs) f g i = let more = refused_key-fates q es xs i.0 g i.1.1 in
      elim (t e.0) as (λ z. CallsIf call z f (q ++ e.0, e.1) x i.0
      → refused_key (if z then e ∷ pairs_where t es else pairs_where t es)
      (if z then x ∷ fates_where t es xs else fates_where t es xs) ≡ refused_key (e ∷ es) (x ∷ xs)) [
        | true ↦ λ c. ap (key_refused e.0 x.1) more
        | false ↦ λ c. rw c.0 more
      ] i.1.0

  remaining-fates : (q : List ℕ) (es : List (List ℕ × V)) (xs : List (V × Fate)) (f g : F)
      → CallsWhere call t q f es xs g
      → pairs_where t (remaining_pairs es xs) ≡ remaining_pairs (pairs_where t es) (fates_where t es xs)
  remaining-fates q [] [] f g i = refl
  remaining-fates q [] (x ∷ xs) f g i = absurd i
  remaining-fates q (e ∷ es) [] f g i = sym (remaining-none (pairs_where t (e ∷ es)))
  remaining-fates q (e ∷ es) (x ∷ xs) f g i = let more = remaining-fates q es xs i.0 g i.1.1 in
      elim (t e.0) as (λ z. t e.0 ≡ z → CallsIf call z f (q ++ e.0, e.1) x i.0
      → pairs_where t (remaining_pairs (e ∷ es) (x ∷ xs))
      ≡ remaining_pairs (if z then e ∷ pairs_where t es else pairs_where t es)
      (if z then x ∷ fates_where t es xs else fates_where t es xs)) [
        | true ↦ λ s c. elim (is_left x.1) as (λ y.
            pairs_where t (if y then (e.0, x.0) ∷ remaining_pairs es xs else remaining_pairs es xs)
            ≡ (if y then (e.0, x.0) ∷ remaining_pairs (pairs_where t es) (fates_where t es xs)
            else remaining_pairs (pairs_where t es) (fates_where t es xs))) [
              | true ↦ rw s (ap (λ z. (e.0, x.0) ∷ z) more)
              | false ↦ more
            ]
        | false ↦ λ s c. rw (c.0, s) more
      ] refl i.1.0

  others-stay : (q : List ℕ) (es : List (List ℕ × V)) (xs : List (V × Fate)) (f g : F)
      → CallsWhere call t q f es xs g → other_pairs t (remaining_pairs es xs) ≡ other_pairs t es
  others-stay q [] [] f g i = refl
  others-stay q [] (x ∷ xs) f g i = absurd i
  others-stay q (e ∷ es) [] f g i = refl
  others-stay q (e ∷ es) (x ∷ xs) f g i = let more = others-stay q es xs i.0 g i.1.1 in
      elim (t e.0) as (λ z. t e.0 ≡ z → CallsIf call z f (q ++ e.0, e.1) x i.0
      → other_pairs t (remaining_pairs (e ∷ es) (x ∷ xs))
      ≡ (if not z then e ∷ other_pairs t es else other_pairs t es)) [
        | true ↦ λ s c. elim (is_left x.1) as (λ y.
            other_pairs t (if y then (e.0, x.0) ∷ remaining_pairs es xs else remaining_pairs es xs)
            ≡ other_pairs t es) [ true ↦ rw s more | false ↦ more ]
        | false ↦ λ s c. rw (c.0, s) (ap (λ z. e ∷ z) more)
      ] refl i.1.0

  -- all pairs were visited or passed
  pub visits-all : (f : F) (es ds : List (List ℕ × V)) (n : ℕ) (g : F) → RetainsAllWhere call t [] f es ds n g
      → RetainsAll call [] f (pairs_where t es) (pairs_where t ds) n g
  visits-all f es ds n g h = record {
    fates = fates_where t es h.fates;
    calls = calls-fates [] es h.fates f g h.calls;
    all = length-fates t es h.fates h.all;
    refused = refusals-fates [] es h.fates f g h.calls ∙ h.refused;
    ends = ends-where t es h.fates h.ends;
    left = ap (pairs_where t) h.left ∙ remaining-fates [] es h.fates f g h.calls;
  }

  -- or the first ones
  pub visits-first : (f : F) (es ds : List (List ℕ × V)) (k : List ℕ) (g : F)
      → RetainsFirstWhere call t [] f es ds k g → RetainsFirst call [] f (pairs_where t es) (pairs_where t ds) k g
  visits-first f es ds k g h = record {
    fates = fates_where t es h.fates;
    calls = calls-fates [] es h.fates f g h.calls;
    refused = refusals-fates [] es h.fates f g h.calls ∙ h.refused;
    key = refused_key-fates [] es h.fates f g h.calls ∙ h.key;
    ends = ends-where t es h.fates h.ends;
    left = ap (pairs_where t) h.left ∙ remaining-fates [] es h.fates f g h.calls;
  }

  -- the others stay
  pub stay-all : (f : F) (es ds : List (List ℕ × V)) (n : ℕ) (g : F) → RetainsAllWhere call t [] f es ds n g
      → other_pairs t ds ≡ other_pairs t es
  stay-all f es ds n g h = ap (other_pairs t) h.left ∙ others-stay [] es h.fates f g h.calls

  pub stay-first : (f : F) (es ds : List (List ℕ × V)) (k : List ℕ) (g : F)
      → RetainsFirstWhere call t [] f es ds k g → other_pairs t ds ≡ other_pairs t es
  stay-first f es ds k g h = ap (other_pairs t) h.left ∙ others-stay [] es h.fates f g h.calls

module _ {V : Type 0} where
  -- by a test that holds of every key
  every-pair : (es : List (List ℕ × V)) → pairs_where (λ k. true) es ≡ es
  every-pair [] = refl
  every-pair (e ∷ es) = ap (λ z. e ∷ z) (every-pair es)

module _ {F V : Type 0} (call : Mut F (Bor (List ℕ) × (MutBor V × Unit {0})) (Bool × (MutBor V × Unit {0}))) where
  pub retains-every : {E : Type 0} (f : F) (es : List (List ℕ × V)) (r : Result (Unit {0}) E) (ds : List (List ℕ × V))
      (g : F) → RetainsWhere call (λ k. true) f es r ds g → Retains call f es r ds g
  retains-every f es (Ok u) ds g h = subst (λ z. RetainsAll call [] f z ds 0 g) (every-pair es)
      (subst (λ z. RetainsAll call [] f (pairs_where (λ k. true) es) z 0 g) (every-pair ds) h.0)
  retains-every f es (Err e) ds g h = (
    h.0,
    (
      subst (λ z. RetainsFirst call [] f z ds h.0 g) (every-pair es)
          (subst (λ z. RetainsFirst call [] f (pairs_where (λ k. true) es) z h.0 g) (every-pair ds) h.1.0),
      h.1.1,
    ),
  )

  pub callable-every : (f : F) (es : List (List ℕ × V)) → CanRetain call f es
      → CanRetain call f (pairs_where (λ k. true) es)
  callable-every f es h = rw (every-pair es) h
