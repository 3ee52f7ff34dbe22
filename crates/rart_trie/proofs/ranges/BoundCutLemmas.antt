-- A bound for keys that begin with some bytes: which keys are within it, by the bytes that follow.
use Rattle.std.proofs.Common.{◌≡◌, ℕ, zero, suc, ◌≤◌, ⊎_elim, Bool, true, false, List, [], ◌∷◌, ◌++◌, Option, Some}
use Rattle.std.proofs.Common.{None, refl, sym, ap, ◌∙◌, arith, Less, Equal, Greater, ◌||◌}
use Rattle.std.specs.Ordering.{nat_cmp, match_ordering}
use Rattle.std.specs.Cmp.Lexicographic.{slice_cmp}
use Rattle.std.specs.declared.cmp.Ordering.{Ordering}
use Rattle.std.specs.declared.ops.Bound.{Bound}
use Rattle.std.specs.declared.ops.Bound.TheVariants.{Included, Excluded, Unbounded}
use Rattle.rart_keys.specs.ByteStrings.{strip_prefix}
use Rattle.rart_keys.specs.Ranges.{bound_bytes}
use Rattle.rart_keys.proofs.strings.ByteOrder.{order, is_less, is_equal, is_greater}
use Rattle.rart_keys.proofs.maps.RangeLemmas.{cmp-apart, cmp-past, not-same}
use Rattle.rart_trie.specs.declared.node.ends.End.{End}
use Rattle.rart_trie.specs.declared.node.ends.End.TheVariants.{First, Last}
use Rattle.rart_trie.specs.ranges.BoundCuts.{bound_at, bound_by, bound_past, bound_with, byte_below, first_cmp}
use Rattle.rart_trie.specs.ranges.BoundCuts.{is_bounded, is_in, is_inside, rest_past, unbounded_if}
use Rattle.rart_trie.specs.tries.Trie.{StartsWith}

-- whether a key is within a bound, if there is one
abbrev pub is_in_some : End → Option (Bound (List ℕ)) → List ℕ → Bool
is_in_some e None k = false
is_in_some e (Some a) k = is_in e a k

-- by how it compares with the bound's bytes
abbrev is_by : End → Bool → Ordering → Bool
is_by First h o = match_ordering o false h true
is_by Last h o = match_ordering o true h false

in-with : (e : End) (h : Bool) (s k : List ℕ) → is_in e (bound_with h s) k ≡ is_by e h (slice_cmp nat_cmp k s)
in-with First true s k = refl
in-with First false s k = refl
in-with Last true s k = refl
in-with Last false s k = refl

in-all : (e : End) (k : List ℕ) → is_in e Unbounded k ≡ true
in-all First k = refl
in-all Last k = refl

-- a key that isn't the bound itself
in-other : (e : End) (h : Bool) (o : Ordering) (k : List ℕ) → (o ≡ Equal → ⊥)
    → is_by e h o ≡ is_in_some e (unbounded_if (is_inside e o)) k
in-other First h Less k n = refl
in-other First h Equal k n = absurd (n refl)
in-other First h Greater k n = refl
in-other Last h Less k n = refl
in-other Last h Equal k n = absurd (n refl)
in-other Last h Greater k n = refl

less-unequal : Less ≡ Equal → ⊥
less-unequal q = cc

greater-unequal : Greater ≡ Equal → ⊥
greater-unequal q = cc

past-with : (e : End) (h : Bool) (p s k : List ℕ) → is_in e (bound_with h s) (p ++ k)
    ≡ is_in_some e (rest_past e (slice_cmp nat_cmp p s) h (strip_prefix p s)) k
past-with e h p s k = elim (strip_prefix p s) as (λ z. strip_prefix p s ≡ z → is_in e (bound_with h s) (p ++ k)
    ≡ is_in_some e (rest_past e (slice_cmp nat_cmp p s) h z) k) [
      | None ↦ λ q. in-with e h s (p ++ k) ∙ ap (is_by e h) (cmp-apart p s k q)
          ∙ in-other e h (slice_cmp nat_cmp p s) k (not-same p s q)
      | Some r ↦ λ q. in-with e h s (p ++ k) ∙ ap (is_by e h) (cmp-past p s r k q) ∙ sym (in-with e h r k)
    ] refl

-- after a prefix
pub in-past : (e : End) (p : List ℕ) (a : Bound (List ℕ)) (k : List ℕ)
    → is_in e a (p ++ k) ≡ is_in_some e (bound_past e p a) k
in-past e p Unbounded k = in-all e (p ++ k) ∙ sym (in-all e k)
in-past e p (Included s) k = past-with e true p s k
in-past e p (Excluded s) k = past-with e false p s k

at-with : (e : End) (h : Bool) (c : ℕ) (s k : List ℕ) → StartsWith c k
    → is_in e (bound_with h s) k ≡ is_in_some e (bound_by e (bound_with h s) (first_cmp c s)) k
at-with e h c s [] f = absurd f
at-with e h c [] (x ∷ k) f = in-with e h [] (x ∷ k) ∙ in-other e h Greater (x ∷ k) greater-unequal
at-with e h c (b ∷ s) (x ∷ k) f = ⊎_elim
    (λ l. let t : slice_cmp nat_cmp (x ∷ k) (b ∷ s) ≡ Less = rw (is_less x b (omega (arith, f, l))) refl in
    rw (is_less c b l) (in-with e h (b ∷ s) (x ∷ k) ∙ ap (is_by e h) t
    ∙ in-other e h Less (x ∷ k) less-unequal))
    (⊎_elim (λ q. rw (is_equal c b q) refl)
    (λ l. let t : slice_cmp nat_cmp (x ∷ k) (b ∷ s) ≡ Greater = rw (is_greater x b (omega (arith, f, l))) refl in
    rw (is_greater c b l) (in-with e h (b ∷ s) (x ∷ k) ∙ ap (is_by e h) t
    ∙ in-other e h Greater (x ∷ k) greater-unequal))) (order c b)

-- after a byte
pub in-at : (e : End) (c : ℕ) (a : Bound (List ℕ)) (k : List ℕ) → StartsWith c k
    → is_in e a k ≡ is_in_some e (bound_at e c a) k
in-at e c Unbounded k f = refl
in-at e c (Included s) k f = at-with e true c s k f
in-at e c (Excluded s) k f = at-with e false c s k f

-- the children after one whose keys are past an end are past it too
pub later-none : (b : Bound (List ℕ)) (c d : ℕ) → c ≤ d → bound_at Last c b ≡ None → bound_at Last d b ≡ None
later-none Unbounded c d l h = absurd (cc)
later-none (Included []) c d l h = refl
later-none (Included (x ∷ s)) c d l h = ⊎_elim (λ i. let g = rw (is_less c x i) at h in absurd (cc))
    (⊎_elim (λ i. let g = rw (is_equal c x i) at h in absurd (cc))
    (λ i. rw (is_greater d x (omega (arith, i, l))) refl)) (order c x)
later-none (Excluded []) c d l h = refl
later-none (Excluded (x ∷ s)) c d l h = ⊎_elim (λ i. let g = rw (is_less c x i) at h in absurd (cc))
    (⊎_elim (λ i. let g = rw (is_equal c x i) at h in absurd (cc))
    (λ i. rw (is_greater d x (omega (arith, i, l))) refl)) (order c x)

-- nor is a child before the first byte of a start
pub none-before : (a : Bound (List ℕ)) (b c : ℕ) → byte_below (bound_bytes a) ≡ Some b → c ≤ b
    → bound_at First c a ≡ None
none-before Unbounded b c h l = absurd (cc)
none-before (Included []) b c h l = absurd (cc)
none-before (Included (zero ∷ s)) b c h l = absurd (cc)
none-before (Included (suc x ∷ s)) b c h l = let i : x ≡ b = cc in rw (is_less c (suc x) (omega (arith, i, l))) refl
none-before (Excluded []) b c h l = absurd (cc)
none-before (Excluded (zero ∷ s)) b c h l = absurd (cc)
none-before (Excluded (suc x ∷ s)) b c h l = let i : x ≡ b = cc in rw (is_less c (suc x) (omega (arith, i, l))) refl

pub no-bytes : (a : Bound (List ℕ)) → is_bounded a ≡ false → a ≡ Unbounded
no-bytes Unbounded h = refl
no-bytes (Included s) h = absurd (cc)
no-bytes (Excluded s) h = absurd (cc)

pub none-of : (x y : Bool) → x || y ≡ false → (x ≡ false) × (y ≡ false)
none-of true y h = absurd (cc)
none-of false y h = (refl, h)
