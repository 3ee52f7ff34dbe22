-- Calls that can end a walk over views: the first call, their number, and what they keep.
use Rattle.std.proofs.Common.{◌≡◌, ℕ, ◌+◌, ◌≤◌, List, [], ◌∷◌, length, Result, Ok, Err, ap, arith, refl, subst}
use Rattle.std.specs.Borrow.{Bor}
use Rattle.std.specs.Fn.{Mut, always_mut}
use Rattle.std.specs.declared.ops.Bound.TheVariants.{Unbounded}
use Rattle.rart_trie.specs.ranges.Starts.{entries_to}
use Rattle.rart_trie.specs.walks.Walk.{SegmentList}
use Rattle.rart_trie.proofs.edits.CallbackLemmas.{always-on}
use Rattle.rart_nodes.specs.declared.node.view.LendingKeyView.{LendingKeyView}
use Rattle.rart_nodes.specs.declared.node.control.VisitControl.{VisitControl}
use Rattle.rart_nodes.specs.declared.node.control.VisitControl.TheVariants.{Continue, Stop}
use Rattle.rart_nodes.specs.walks.Tried.{ContinuesAs, CountsCall}
use Rattle.rart_nodes.specs.walks.TriedViews.{EndsAfterBy, EndsBy, EndsViews, ViewedAs}

-- a walk without an end
pub to-unbounded : {V : Type 0} (es : List (SegmentList × V)) → entries_to Unbounded es ≡ es
to-unbounded [] = refl
to-unbounded (e ∷ es) = ap (λ z. e ∷ z) (to-unbounded es)

-- calls that can end a walk, of which R speaks
module _ {F X E : Type 0} (R : F → X → Result VisitControl E → F → Type 0) where
  pub equal-counts : (f : F) (xs : List X) (n m : ℕ) (r : Result (Unit {0}) E) (f' : F) → n ≡ m
      → EndsAfterBy R f xs n r f' → EndsAfterBy R f xs m r f'
  equal-counts f xs n m r f' e h = subst (λ (x : ℕ). EndsAfterBy R f xs x r f') e h

  -- the first call, and how the walk continues or ends after it
  pub ends-first : (f : F) (xs ys : List X) (x : X) (answer : Result VisitControl E) (next : F)
      (r : Result (Unit {0}) E) (f' : F) → xs ≡ x ∷ ys → R f x answer next
      → ContinuesAs answer next (λ h. EndsBy R h ys r f') r f' → EndsBy R f xs r f'
  ends-first f xs ys x answer next r f' e k m = rw e (answer, (next, (k, m)))

  pub counts-first : (f : F) (xs ys : List X) (x : X) (answer : Result VisitControl E) (next : F) (n : ℕ)
      (r : Result (Unit {0}) E) (f' : F) → xs ≡ x ∷ ys → R f x answer next
      → CountsCall answer next n (λ h m. EndsAfterBy R h ys m r f') r f' → EndsAfterBy R f xs n r f'
  counts-first f xs ys x answer next n r f' e k m = rw e (answer, (next, (k, m)))

  -- no item is shown twice
  few-after : (answer : Result VisitControl E) (f : F) (n l : ℕ) (M : F → ℕ → Type 0) (r : Result (Unit {0}) E)
      (f' : F) → ((m : ℕ) → M f m → m ≤ l) → CountsCall answer f n M r f' → n ≤ 1 + l
  few-after (Ok Continue) f n l M r f' more k = omega (arith, k.1.0, more k.0 k.1.1)
  few-after (Ok Stop) f n l M r f' more k = omega (arith, k.0)
  few-after (Err e) f n l M r f' more k = omega (arith, k.0)

  pub few-calls : (f : F) (xs : List X) (n : ℕ) (r : Result (Unit {0}) E) (f' : F) → EndsAfterBy R f xs n r f'
      → n ≤ length xs
  few-calls f [] n r f' k = omega (arith, k.0)
  few-calls f (x ∷ xs) n r f' k = omega (
    arith,
    few-after k.0 k.1.0 n (length xs) (λ h m. EndsAfterBy R h xs m r f') r f' (λ m. few-calls k.1.0 xs m r f')
        k.1.1.1,
  )

  -- what each call keeps
  module _ (P : F → Type 0) (keeps : (f : F) (x : X) (answer : Result VisitControl E) (f' : F) → R f x answer f' → P f
      → P f') where
    keeps-on : (f : F) (answer : Result VisitControl E) (M : F → Type 0) (r : Result (Unit {0}) E) (f' : F)
        → (M f → P f → P f') → ContinuesAs answer f M r f' → P f → P f'
    keeps-on f (Ok Continue) M r f' more k h = more k h
    keeps-on f (Ok Stop) M r f' more k h = subst P k.1 h
    keeps-on f (Err e) M r f' more k h = subst P k.1 h

    pub ends-keep : (f : F) (xs : List X) (r : Result (Unit {0}) E) (f' : F) → EndsBy R f xs r f' → P f → P f'
    ends-keep f [] r f' k h = subst P k.1 h
    ends-keep f (x ∷ xs) r f' k h = keeps-on k.1.0 k.0 (λ j. EndsBy R j xs r f') r f'
        (λ m i. ends-keep k.1.0 xs r f' m i) k.1.1.1 (keeps f x k.0 k.1.0 k.1.1.0 h)

module _ {F V E : Type 0} (g : Mut F (LendingKeyView × (Bor V × Unit {0})) (Result VisitControl E)) where
  pub always-after-tried-views : (f : F) (xs : List (SegmentList × V)) (r : Result (Unit {0}) E) (f' : F)
      → EndsViews g f xs r f' → always_mut g f → always_mut g f'
  always-after-tried-views f xs r f' k h = ends-keep (λ p x a q. ViewedAs g p x a q) (always_mut g)
      (λ p x a q s i. always-on g p (s.key, (s.shown, tt)) a q s.called i) f xs r f' k h
