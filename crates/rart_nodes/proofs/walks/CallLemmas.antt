-- A callback may be called again after each kind of walk.
use Rattle.std.proofs.Common.{◌≡◌, ℕ, List, Option, Some, None, Result, Ok, Err, [], ◌∷◌, subst, ◌∙◌}
use Rattle.std.specs.Borrow.{Bor}
use Rattle.std.specs.Fn.{Mut, Once, always_mut}
use Rattle.rart_nodes.specs.declared.node.control.VisitControl.{VisitControl}
use Rattle.rart_nodes.specs.declared.node.control.VisitControl.TheVariants.{Continue, Stop}
use Rattle.rart_nodes.specs.declared.node.path_walk.path.SegmentPath.{SegmentPath}
use Rattle.rart_nodes.specs.declared.node.view.LendingKeyView.{LendingKeyView}
use Rattle.rart_nodes.specs.walks.Matched.{MatchesEach}
use Rattle.rart_trie.specs.walks.Walk.{SegmentList}
use Rattle.rart_nodes.specs.walks.PathParts.{lent_segments}
use Rattle.rart_nodes.specs.walks.Tried.{EndsAfter, EndsAs, ContinuesAs}
use Rattle.rart_nodes.specs.walks.Viewed.{ViewsEach, CanShowFound, CanSeeFound, IsCutOf}
use Rattle.rart_nodes.specs.walks.Shown.{ShowsEach, FoldsEach}
use Rattle.rart_trie.proofs.edits.CallbackLemmas.{always-on, folds-keep}

module _ {F V : Type 0} (g : Mut F (Bor V × Unit {0}) (Unit {0})) where
  pub always-after-shows : (f : F) (xs : List V) (f' : F) → ShowsEach g f xs f' → always_mut g f → always_mut g f'
  always-after-shows f xs f' k h = folds-keep _ (always_mut g)
      (λ p x q s i. always-on g p (s.shown, tt) tt q s.called i) xs f f' k h

module _ {F S V : Type 0} (g : Mut F (S × (Bor V × Unit {0})) S) where
  pub always-after-folds : (f : F) (s : S) (xs : List V) (f' : F) (r : S) → FoldsEach g f s xs f' r → always_mut g f
      → always_mut g f'
  always-after-folds f s xs f' r k h = folds-keep _ (λ p. always_mut g p.0)
      (λ p x q c i. always-on g p.0 (p.1, (c.shown, tt)) q.1 q.0 c.called i) xs (f, s) (f', r) k h

module _ {F V : Type 0} (g : Mut F (Bor (List ℕ) × (Bor V × Unit {0})) (Unit {0})) where
  pub always-after-matches : (f : F) (xs : List (List ℕ × V)) (f' : F) → MatchesEach g f xs f' → always_mut g f
      → always_mut g f'
  always-after-matches f xs f' k h = folds-keep _ (always_mut g)
      (λ p x q s i. always-on g p (s.key, (s.shown, tt)) tt q s.called i) xs f f' k h

module _ {F V : Type 0} (g : Mut F (LendingKeyView × (Bor V × Unit {0})) (Unit {0})) where
  pub always-after-views : (f : F) (xs : List (SegmentList × V)) (f' : F) → ViewsEach g f xs f' → always_mut g f
      → always_mut g f'
  always-after-views f xs f' k h = folds-keep _ (always_mut g)
      (λ p x q s i. always-on g p (s.key, (s.shown, tt)) tt q s.called i) xs f f' k h

  -- at the pair that was found
  pub can-show : (f : F) (s : List (List ℕ)) (found : Option (List ℕ × V)) (t : SegmentPath) (x : Bor V)
      (key : LendingKeyView) → CanShowFound g f s found → IsCutOf s found (Some (t, x))
      → lent_segments key.segments.now ≡ lent_segments t.segments.items → g.pre f (key, (x, tt))
  can-show f s None t x key h e k = absurd (cc)
  can-show f s (Some o) t x key h e k = h key x (k ∙ e.0) e.1

module _ {F V : Type 0} (g : Once F (LendingKeyView × (Bor V × Unit {0})) (Unit {0})) where
  pub can-see : (f : F) (s : List (List ℕ)) (found : Option (List ℕ × V)) (t : SegmentPath) (x : Bor V)
      (key : LendingKeyView) → CanSeeFound g f s found → IsCutOf s found (Some (t, x))
      → lent_segments key.segments.now ≡ lent_segments t.segments.items → g.pre f (key, (x, tt))
  can-see f s None t x key h e k = absurd (cc)
  can-see f s (Some o) t x key h e k = h key x (k ∙ e.0) e.1

module _ {F V E : Type 0} (g : Mut F (Bor V × Unit {0}) (Result VisitControl E)) where
  pub equal-counts : (f : F) (xs : List V) (n m : ℕ) (r : Result (Unit {0}) E) (f' : F) → n ≡ m
      → EndsAfter g f xs n r f' → EndsAfter g f xs m r f'
  equal-counts f xs n m r f' e h = subst (λ (x : ℕ). EndsAfter g f xs x r f') e h

  always-went-on : (f : F) (answer : Result VisitControl E) (M : F → Type 0) (r : Result (Unit {0}) E) (f' : F)
      → (M f → always_mut g f → always_mut g f') → ContinuesAs answer f M r f' → always_mut g f → always_mut g f'
  always-went-on f (Ok Continue) M r f' more k h = more k h
  always-went-on f (Ok Stop) M r f' more k h = subst (always_mut g) k.1 h
  always-went-on f (Err e) M r f' more k h = subst (always_mut g) k.1 h

  pub always-after-tries : (f : F) (xs : List V) (r : Result (Unit {0}) E) (f' : F) → EndsAs g f xs r f'
      → always_mut g f → always_mut g f'
  always-after-tries f [] r f' k h = subst (always_mut g) k.1 h
  always-after-tries f (v ∷ vs) r f' k h = always-went-on k.1.1.0 k.1.0 (λ j. EndsAs g j vs r f') r f'
      (λ m i. always-after-tries k.1.1.0 vs r f' m i) k.1.1.1.1.1 (always-on g f (k.0, tt) k.1.0 k.1.1.0 k.1.1.1.1.0 h)
