-- A walk that retains pairs: its calls along lists of pairs, one after another, and what they leave.
use Rattle.std.proofs.Common.{◌≡◌, ℕ, ◌+◌, ◌≤◌, true, false, List, [], ◌∷◌, ◌++◌, length, map, refl, sym, ap, ◌∙◌}
use Rattle.std.proofs.Common.{arith, subst, Bool, MutBor, if◌then◌else◌, Option, Some, None, option_map}
use Rattle.std.specs.Borrow.{Bor}
use Rattle.std.specs.Fn.{Mut, always_mut}
use Rattle.std.specs.List.{FoldsTo}
use Rattle.std.proofs.lemmas.List.{append_assoc}
use Rattle.rart_keys.specs.SortedMap.{longest_key}
use Rattle.rart_trie.specs.edits.Retentions.{CalledForPair, CallsFor, Fate, kept, removed, refused, is_wanted, is_left}
use Rattle.rart_trie.specs.edits.Retentions.{refusal, key_refused, refusals, refused_key, remaining_pairs}
use Rattle.rart_trie.specs.edits.RetainSteps.{CallsIf, CallsWhere}
use Rattle.rart_trie.specs.tries.Trie.{with_prefix}
use Rattle.rart_trie.proofs.changes.ValueChangeLemmas.{Agree, pairs_where}
use Rattle.rart_trie.proofs.edits.CallbackLemmas.{always-on}

-- the removals that were put off are made
abbrev fulfilled : Fate → Fate
fulfilled kept = kept
fulfilled removed = removed
fulfilled refused = removed

wanted-fulfilled : (x : Fate) → is_wanted (fulfilled x) ≡ is_wanted x
wanted-fulfilled kept = refl
wanted-fulfilled removed = refl
wanted-fulfilled refused = refl

refusal-fulfilled : (x : Fate) → refusal (fulfilled x) ≡ 0
refusal-fulfilled kept = refl
refusal-fulfilled removed = refl
refusal-fulfilled refused = refl

key-later : (x : Fate) (k : List ℕ) (n : ℕ) (o : Option (List ℕ)) → refusal x + n ≡ 0 → key_refused k x o ≡ o
key-later kept k n o h = refl
key-later removed k n o h = refl
key-later refused k n o h = absurd (omega (arith, h))

pub no-more : (x : Fate) (n : ℕ) → refusal x + n ≡ 0 → n ≡ 0
no-more kept n h = omega (arith, h)
no-more removed n h = omega (arith, h)
no-more refused n h = absurd (omega (arith, h))

key-front : (x : Fate) (k : List ℕ) (o p : Option (List ℕ)) → o ≡ p → key_refused k x o ≡ key_refused k x p
key-front x k o p h = ap (key_refused k x) h

key-after : (p : List ℕ) (x : Fate) (k : List ℕ) (o : Option (List ℕ))
    → key_refused (p ++ k) x (option_map (λ z. p ++ z) o) ≡ option_map (λ z. p ++ z) (key_refused k x o)
key-after p kept k o = refl
key-after p removed k o = refl
key-after p refused k o = refl

module _ {V : Type 0} where
  -- the remaining pairs, one list after another
  pub remaining-append : (es ds : List (List ℕ × V)) (xs ys : List (V × Fate)) → length xs ≡ length es
      → remaining_pairs (es ++ ds) (xs ++ ys) ≡ remaining_pairs es xs ++ remaining_pairs ds ys
  remaining-append [] ds [] ys h = refl
  remaining-append [] ds (x ∷ xs) ys h = absurd (omega (arith, h))
  remaining-append (e ∷ es) ds [] ys h = absurd (omega (arith, h))
  remaining-append (e ∷ es) ds (x ∷ xs) ys h = let more = remaining-append es ds xs ys (omega (arith, h)) in
      elim (is_left x.1) as (λ z. (if z then (e.0, x.0) ∷ remaining_pairs (es ++ ds) (xs ++ ys)
      else remaining_pairs (es ++ ds) (xs ++ ys))
      ≡ (if z then (e.0, x.0) ∷ remaining_pairs es xs else remaining_pairs es xs) ++ remaining_pairs ds ys) [
        | true ↦ ap (λ z. (e.0, x.0) ∷ z) more
        | false ↦ more
      ]

  pub remaining-none : (es : List (List ℕ × V)) → remaining_pairs es [] ≡ es
  remaining-none [] = refl
  remaining-none (e ∷ es) = refl

  -- those after the first are unchanged
  pub remaining-front : (es ds : List (List ℕ × V)) (xs : List (V × Fate)) → length xs ≤ length es
      → remaining_pairs (es ++ ds) xs ≡ remaining_pairs es xs ++ ds
  remaining-front [] ds [] h = remaining-none ds
  remaining-front [] ds (x ∷ xs) h = absurd (omega (arith, h))
  remaining-front (e ∷ es) ds [] h = refl
  remaining-front (e ∷ es) ds (x ∷ xs) h = let more = remaining-front es ds xs (omega (arith, h)) in
      elim (is_left x.1) as (λ z. (if z then (e.0, x.0) ∷ remaining_pairs (es ++ ds) xs else remaining_pairs
      (es ++ ds) xs)
      ≡ (if z then (e.0, x.0) ∷ remaining_pairs es xs else remaining_pairs es xs) ++ ds) [
        | true ↦ ap (λ z. (e.0, x.0) ∷ z) more
        | false ↦ more
      ]

  pub remaining-after : (p : List ℕ) (es : List (List ℕ × V)) (xs : List (V × Fate))
      → remaining_pairs (with_prefix p es) xs ≡ with_prefix p (remaining_pairs es xs)
  remaining-after p [] xs = refl
  remaining-after p (e ∷ es) [] = refl
  remaining-after p (e ∷ es) (x ∷ xs) = let more = remaining-after p es xs in
      elim (is_left x.1) as (λ z. (if z then (p ++ e.0, x.0) ∷ remaining_pairs (with_prefix p es) xs
      else remaining_pairs (with_prefix p es) xs)
      ≡ with_prefix p (if z then (e.0, x.0) ∷ remaining_pairs es xs else remaining_pairs es xs)) [
        | true ↦ ap (λ z. (p ++ e.0, x.0) ∷ z) more
        | false ↦ more
      ]

  pub remaining-length : (es : List (List ℕ × V)) (xs : List (V × Fate)) → length (remaining_pairs es xs) ≤ length es
  remaining-length [] xs = omega arith
  remaining-length (e ∷ es) [] = omega arith
  remaining-length (e ∷ es) (x ∷ xs) = let more = remaining-length es xs in
      elim (is_left x.1) as (λ z. length (if z then (e.0, x.0) ∷ remaining_pairs es xs else remaining_pairs es xs)
      ≤ length (e ∷ es)) [ true ↦ omega (arith, more) | false ↦ omega (arith, more) ]

  pub remaining-longest : (es : List (List ℕ × V)) (xs : List (V × Fate))
      → longest_key (remaining_pairs es xs) ≤ longest_key es
  remaining-longest [] xs = omega arith
  remaining-longest (e ∷ es) [] = omega arith
  remaining-longest (e ∷ es) (x ∷ xs) = let more = remaining-longest es xs in
      elim (is_left x.1) as (λ z. longest_key (if z then (e.0, x.0) ∷ remaining_pairs es xs else remaining_pairs es xs)
      ≤ longest_key (e ∷ es)) [ true ↦ omega (arith, more) | false ↦ omega (arith, more) ]

  pub refusals-append : (xs ys : List (V × Fate)) → refusals (xs ++ ys) ≡ refusals xs + refusals ys
  refusals-append [] ys = omega arith
  refusals-append (x ∷ xs) ys = omega (arith, refusals-append xs ys)

  abbrev pub all_fulfilled : List (V × Fate) → List (V × Fate)
  all_fulfilled xs = map (λ x. (x.0, fulfilled x.1)) xs

  pub length-fulfilled : (xs : List (V × Fate)) → length (all_fulfilled xs) ≡ length xs
  length-fulfilled [] = refl
  length-fulfilled (x ∷ xs) = omega (arith, length-fulfilled xs)

  pub refusals-fulfilled : (xs : List (V × Fate)) → refusals (all_fulfilled xs) ≡ 0
  refusals-fulfilled [] = refl
  refusals-fulfilled (x ∷ xs) = omega (arith, refusals-fulfilled xs, refusal-fulfilled x.1)

  length-stays : (x : Fate) (k : List ℕ) (v : V) (es ds : List (List ℕ × V)) (n : ℕ) → length es ≡ length ds + n
      → length (if is_left x then (k, v) ∷ es else es)
      ≡ length (if is_left (fulfilled x) then (k, v) ∷ ds else ds) + (refusal x + n)
  length-stays kept k v es ds n h = omega (arith, h)
  length-stays removed k v es ds n h = omega (arith, h)
  length-stays refused k v es ds n h = omega (arith, h)

  -- each leaves a pair less
  pub remaining-fulfilled : (es : List (List ℕ × V)) (xs : List (V × Fate)) → length xs ≡ length es
      → length (remaining_pairs es xs) ≡ length (remaining_pairs es (all_fulfilled xs)) + refusals xs
  remaining-fulfilled [] [] h = omega arith
  remaining-fulfilled [] (x ∷ xs) h = absurd (omega (arith, h))
  remaining-fulfilled (e ∷ es) [] h = absurd (omega (arith, h))
  remaining-fulfilled (e ∷ es) (x ∷ xs) h = length-stays x.1 e.0 x.0 (remaining_pairs es xs)
      (remaining_pairs es (all_fulfilled xs)) (refusals xs) (remaining-fulfilled es xs (omega (arith, h)))

  -- the key whose removal was refused
  pub refused_key-append : (es ds : List (List ℕ × V)) (xs ys : List (V × Fate)) → length xs ≡ length es
      → refusals xs ≡ 0 → refused_key (es ++ ds) (xs ++ ys) ≡ refused_key ds ys
  refused_key-append [] ds [] ys h r = refl
  refused_key-append [] ds (x ∷ xs) ys h r = absurd (omega (arith, h))
  refused_key-append (e ∷ es) ds [] ys h r = absurd (omega (arith, h))
  refused_key-append (e ∷ es) ds (x ∷ xs) ys h r
      = key-later x.1 e.0 (refusals xs) (refused_key (es ++ ds) (xs ++ ys)) r
      ∙ refused_key-append es ds xs ys (omega (arith, h)) (no-more x.1 (refusals xs) r)

  pub refused_key-none : (es : List (List ℕ × V)) → refused_key es [] ≡ None
  refused_key-none [] = refl
  refused_key-none (e ∷ es) = refl

  pub refused_key-front : (es ds : List (List ℕ × V)) (xs : List (V × Fate)) → length xs ≤ length es
      → refused_key (es ++ ds) xs ≡ refused_key es xs
  refused_key-front [] ds [] h = refused_key-none ds
  refused_key-front [] ds (x ∷ xs) h = absurd (omega (arith, h))
  refused_key-front (e ∷ es) ds [] h = refl
  refused_key-front (e ∷ es) ds (x ∷ xs) h = key-front x.1 e.0 (refused_key (es ++ ds) xs) (refused_key es xs)
      (refused_key-front es ds xs (omega (arith, h)))

  pub refused_key-after : (p : List ℕ) (es : List (List ℕ × V)) (xs : List (V × Fate))
      → refused_key (with_prefix p es) xs ≡ option_map (λ z. p ++ z) (refused_key es xs)
  refused_key-after p [] xs = refl
  refused_key-after p (e ∷ es) [] = refl
  refused_key-after p (e ∷ es) (x ∷ xs) = ap (key_refused (p ++ e.0) x.1) (refused_key-after p es xs)
      ∙ key-after p x.1 e.0 (refused_key es xs)

  -- it is that of the pair that is left, if only one is
  key-only : (x : Fate) (e k : List ℕ) (w v : V) (es : List (List ℕ × V)) (n : ℕ) (o : Option (List ℕ))
      → (es ≡ (k, v) ∷ [] → n ≡ 1 → o ≡ Some k) → n ≤ length es → refusal x + n ≡ 1
      → (if is_left x then (e, w) ∷ es else es) ≡ (k, v) ∷ [] → key_refused e x o ≡ Some k
  key-only kept e k w v es n o f l r h = absurd (omega (arith, r, l, ap length h))
  key-only removed e k w v es n o f l r h = f h (omega (arith, r))
  key-only refused e k w v es n o f l r h = let same : ◌≡◌ {A = List ℕ × V} (e, w) (k, v) = cc in
      ap Some (ap (λ z. z.0) same)

  pub refused_key-only : (es : List (List ℕ × V)) (xs : List (V × Fate)) (k : List ℕ) (v : V) → length xs ≡ length es
      → refusals xs ≡ 1 → remaining_pairs es xs ≡ (k, v) ∷ [] → refused_key es xs ≡ Some k
  refused_key-only [] xs k v l r h = absurd (cc)
  refused_key-only (e ∷ es) [] k v l r h = absurd (omega (arith, l))
  refused_key-only (e ∷ es) (x ∷ xs) k v l r h = key-only x.1 e.0 k x.0 v (remaining_pairs es xs) (refusals xs)
      (refused_key es xs) (λ a b. refused_key-only es xs k v (omega (arith, l)) b a)
      (omega (arith, remaining-fulfilled es xs (omega (arith, l)))) r h

  -- the fates of pairs that were passed
  abbrev pub passed : List (List ℕ × V) → List (V × Fate)
  passed es = map (λ e. (e.1, kept)) es

  pub length-passed : (es : List (List ℕ × V)) → length (passed es) ≡ length es
  length-passed [] = refl
  length-passed (e ∷ es) = omega (arith, length-passed es)

  pub refusals-passed : (es : List (List ℕ × V)) → refusals (passed es) ≡ 0
  refusals-passed [] = refl
  refusals-passed (e ∷ es) = omega (arith, refusals-passed es)

  pub remaining-passed : (es : List (List ℕ × V)) → remaining_pairs es (passed es) ≡ es
  remaining-passed [] = refl
  remaining-passed (e ∷ es) = ap (λ z. e ∷ z) (remaining-passed es)

module _ {F V : Type 0} (call : Mut F (Bor (List ℕ) × (MutBor V × Unit {0})) (Bool × (MutBor V × Unit {0}))) where
  -- a call whose removal is made
  if-fulfilled : (h : Bool) (f : F) (e : List ℕ × V) (x : V × Fate) (g : F) → CallsIf call h f e x g
      → CallsIf call h f e (x.0, fulfilled x.1) g
  if-fulfilled true f e x g i = rw (wanted-fulfilled x.1) i
  if-fulfilled false f e x g i = (rw i.0 refl, i.1)

  -- by a test that agrees
  pub calls-agree : (t r : List ℕ → Bool) (q : List ℕ) (es : List (List ℕ × V)) (xs : List (V × Fate)) (f g : F)
      → Agree t r es → CallsWhere call r q f es xs g → CallsWhere call t q f es xs g
  calls-agree t r q [] [] f g a i = i
  calls-agree t r q [] (x ∷ xs) f g a i = absurd i
  calls-agree t r q (e ∷ es) [] f g a i = i
  calls-agree t r q (e ∷ es) (x ∷ xs) f g a i
      = (i.0, (rw a.0 i.1.0, calls-agree t r q es xs i.0 g a.1 i.1.1))

  -- after a longer path, where t holds of just the keys of which r holds after it
  pub calls-after : (t r : List ℕ → Bool) (q p : List ℕ) (es : List (List ℕ × V)) (xs : List (V × Fate)) (f g : F)
      → ((k : List ℕ) → t (p ++ k) ≡ r k) → CallsWhere call r (q ++ p) f es xs g
      → CallsWhere call t q f (with_prefix p es) xs g
  calls-after t r q p [] [] f g a i = i
  calls-after t r q p [] (x ∷ xs) f g a i = absurd i
  calls-after t r q p (e ∷ es) [] f g a i = i
  calls-after t r q p (e ∷ es) (x ∷ xs) f g a i
      = (i.0, (rw (a e.0, ← append_assoc q p e.0) i.1.0, calls-after t r q p es xs i.0 g a i.1.1))

  module _ (t : List ℕ → Bool) where
    -- one list after another
    pub calls-append : (q : List ℕ) (es ds : List (List ℕ × V)) (xs ys : List (V × Fate)) (f g h : F)
        → length xs ≡ length es → CallsWhere call t q f es xs g → CallsWhere call t q g ds ys h
        → CallsWhere call t q f (es ++ ds) (xs ++ ys) h
    calls-append q [] ds [] ys f g h l i j = subst (λ z. CallsWhere call t q z ds ys h) (sym i) j
    calls-append q [] ds (x ∷ xs) ys f g h l i j = absurd i
    calls-append q (e ∷ es) ds [] ys f g h l i j = absurd (omega (arith, l))
    calls-append q (e ∷ es) ds (x ∷ xs) ys f g h l i j
        = (i.0, (i.1.0, calls-append q es ds xs ys i.0 g h (omega (arith, l)) i.1.1 j))

    pub calls-front : (q : List ℕ) (es ds : List (List ℕ × V)) (xs : List (V × Fate)) (f g : F)
        → CallsWhere call t q f es xs g → CallsWhere call t q f (es ++ ds) xs g
    calls-front q [] ds [] f g i = i
    calls-front q [] ds (x ∷ xs) f g i = absurd i
    calls-front q (e ∷ es) ds [] f g i = i
    calls-front q (e ∷ es) ds (x ∷ xs) f g i = (i.0, (i.1.0, calls-front q es ds xs i.0 g i.1.1))

    -- there is a pair for each fate
    pub calls-length : (q : List ℕ) (es : List (List ℕ × V)) (xs : List (V × Fate)) (f g : F)
        → CallsWhere call t q f es xs g → length xs ≤ length es
    calls-length q es [] f g i = omega arith
    calls-length q [] (x ∷ xs) f g i = absurd i
    calls-length q (e ∷ es) (x ∷ xs) f g i = omega (arith, calls-length q es xs i.0 g i.1.1)

    pub calls-fulfilled : (q : List ℕ) (es : List (List ℕ × V)) (xs : List (V × Fate)) (f g : F)
        → CallsWhere call t q f es xs g → CallsWhere call t q f es (all_fulfilled xs) g
    calls-fulfilled q [] [] f g i = i
    calls-fulfilled q [] (x ∷ xs) f g i = absurd i
    calls-fulfilled q (e ∷ es) [] f g i = i
    calls-fulfilled q (e ∷ es) (x ∷ xs) f g i
        = (i.0, (if-fulfilled (t e.0) f (q ++ e.0, e.1) x i.0 i.1.0, calls-fulfilled q es xs i.0 g i.1.1))

    -- pairs of none of whose keys t holds are passed
    pub calls-passed : (q : List ℕ) (es : List (List ℕ × V)) (f : F) → pairs_where t es ≡ []
        → CallsWhere call t q f es (passed es) f
    calls-passed q [] f n = refl
    calls-passed q (e ∷ es) f n = (
      f,
      elim (t e.0) as (λ z. (if z then e ∷ pairs_where t es else pairs_where t es) ≡ []
          → CallsIf call z f (q ++ e.0, e.1) (e.1, kept) f × CallsWhere call t q f es (passed es) f) [
            | true ↦ λ n. absurd (cc)
            | false ↦ λ n. ((refl, refl), calls-passed q es f n)
          ] n,
    )

    -- the calls are those at each pair of whose key t holds, in turn
    pub calls-folds : (q : List ℕ) (es : List (List ℕ × V)) (xs : List (V × Fate)) (f g : F) → length xs ≡ length es
        → CallsWhere call t q f es xs g
        → FoldsTo (λ p e r. CalledForPair call p e r) f (with_prefix q (pairs_where t es)) g
    calls-folds q [] [] f g l i = i
    calls-folds q [] (x ∷ xs) f g l i = absurd i
    calls-folds q (e ∷ es) [] f g l i = absurd (omega (arith, l))
    calls-folds q (e ∷ es) (x ∷ xs) f g l i = elim (t e.0) as (λ z. CallsIf call z f (q ++ e.0, e.1) x i.0
        → FoldsTo (λ p e r. CalledForPair call p e r) f
        (with_prefix q (if z then e ∷ pairs_where t es else pairs_where t es)) g) [
          | true ↦ λ c. (i.0, (is_wanted x.1, (x.0, c)), calls-folds q es xs i.0 g (omega (arith, l)) i.1.1)
          | false ↦ λ c. subst (λ z. FoldsTo (λ p e r. CalledForPair call p e r) z (with_prefix q (pairs_where t es)) g)
              (sym c.1) (calls-folds q es xs i.0 g (omega (arith, l)) i.1.1)
        ] i.1.0

  -- after calls f may always be called
  pub always-after-calls : (q : List ℕ) (es : List (List ℕ × V)) (xs : List (V × Fate)) (f g : F)
      → CallsFor call q f es xs g → always_mut call f → always_mut call g
  always-after-calls q es [] f g i a = subst (always_mut call) i a
  always-after-calls q [] (x ∷ xs) f g i a = absurd i
  always-after-calls q (e ∷ es) (x ∷ xs) f g i a = always-after-calls q es xs i.0 g i.1.1
      (always-on call f (i.1.0.key, (i.1.0.shown, tt)) (is_wanted x.1, (i.1.0.left, tt)) i.0 i.1.0.called a)
