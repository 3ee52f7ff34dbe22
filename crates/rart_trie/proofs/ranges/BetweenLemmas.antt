-- Which keys are within two bounds, by the bounds for the keys after a prefix and for those that begin with a byte.
use Rattle.std.proofs.Common.{◌≡◌, ℕ, ◌&&◌, ◌||◌, Bool, true, false, List, ◌++◌, refl, sym, ap, ap₂, ◌∙◌, Some, None}
use Rattle.std.specs.declared.ops.Bound.{Bound}
use Rattle.std.proofs.lemmas.Bool.{and_right}
use Rattle.rart_keys.specs.Ranges.{is_from, is_to}
use Rattle.rart_trie.specs.declared.node.ends.End.TheVariants.{First, Last}
use Rattle.rart_trie.specs.ranges.BoundCuts.{bound_at, bound_past, is_bounded}
use Rattle.rart_trie.specs.tries.Trie.{StartsWith}
use Rattle.rart_trie.proofs.ranges.BoundCutLemmas.{in-at, in-past, is_in_some, no-bytes, none-of}

-- whether a key is within both bounds
abbrev pub is_between : Bound (List ℕ) → Bound (List ℕ) → List ℕ → Bool
is_between a b k = is_from a k && is_to b k

-- without a bound each is
pub unbounded : (a b : Bound (List ℕ)) (k : List ℕ) → is_bounded a || is_bounded b ≡ false → is_between a b k ≡ true
unbounded a b k h = let n = none-of (is_bounded a) (is_bounded b) h in rw (no-bytes a n.0, no-bytes b n.1) refl

-- after a prefix
pub past-between : (a b o u : Bound (List ℕ)) (p k : List ℕ) → bound_past First p a ≡ Some o
    → bound_past Last p b ≡ Some u
    → is_between a b (p ++ k) ≡ is_between o u k
past-between a b o u p k x y = ap₂ (λ i j. i && j) (in-past First p a k ∙ ap (λ z. is_in_some First z k) x)
    (in-past Last p b k ∙ ap (λ z. is_in_some Last z k) y)

pub past-start : (a b : Bound (List ℕ)) (p k : List ℕ) → bound_past First p a ≡ None → is_between a b (p ++ k) ≡ false
past-start a b p k x = ap (λ z. z && is_to b (p ++ k)) (in-past First p a k ∙ ap (λ z. is_in_some First z k) x)

pub past-end : (a b : Bound (List ℕ)) (p k : List ℕ) → bound_past Last p b ≡ None → is_between a b (p ++ k) ≡ false
past-end a b p k x = and_right (is_from a (p ++ k)) (is_to b (p ++ k))
    (in-past Last p b k ∙ ap (λ z. is_in_some Last z k) x)

-- after a byte
pub at-between : (a b o u : Bound (List ℕ)) (c : ℕ) (k : List ℕ) → StartsWith c k → Some o ≡ bound_at First c a
    → Some u ≡ bound_at Last c b → is_between a b k ≡ is_between o u k
at-between a b o u c k f x y = ap₂ (λ i j. i && j) (in-at First c a k f ∙ ap (λ z. is_in_some First z k) (sym x))
    (in-at Last c b k f ∙ ap (λ z. is_in_some Last z k) (sym y))

pub at-start : (a b : Bound (List ℕ)) (c : ℕ) (k : List ℕ) → StartsWith c k → bound_at First c a ≡ None
    → is_between a b k ≡ false
at-start a b c k f x = ap (λ z. z && is_to b k) (in-at First c a k f ∙ ap (λ z. is_in_some First z k) x)

pub at-end : (a b : Bound (List ℕ)) (c : ℕ) (k : List ℕ) → StartsWith c k → bound_at Last c b ≡ None
    → is_between a b k ≡ false
at-end a b c k f x = and_right (is_from a k) (is_to b k) (in-at Last c b k f ∙ ap (λ z. is_in_some Last z k) x)
