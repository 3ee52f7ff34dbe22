-- A callback that may be called at each pair of an intersection may be given each of them.
use Rattle.std.proofs.Common.{◌≡◌, ℕ, List, [], ◌∷◌, ◌++◌, Result, Ok, Err, ap, sym, subst, ◌∙◌}
use Rattle.std.specs.Borrow.{Bor}
use Rattle.std.specs.Fn.{Mut, always_mut}
use Rattle.std.specs.List.{FoldsTo}
use Rattle.std.specs.Global.{Vec}
use Rattle.rart_keys.specs.SortedMap.{values_of}
use Rattle.rart_nodes.specs.declared.node.intersect.join_path.JoinPath.TheVariants.{Nothing, Bytes, Segments}
use Rattle.rart_nodes.specs.declared.node.view.LendingKeyView.{LendingKeyView}
use Rattle.rart_nodes.specs.joins.Visitors.{CanGive, CanGiveKeys, CanGiveValues, CanGiveViews, GivenKeys, GivenTried}
use Rattle.rart_nodes.specs.joins.Visitors.{GivenValues, GivenViews, Throughout}
use Rattle.rart_nodes.specs.declared.node.control.VisitControl.{VisitControl}
use Rattle.rart_nodes.specs.declared.node.control.VisitControl.TheVariants.{Continue, Stop}
use Rattle.rart_nodes.specs.joins.TriedPairs.{AnsweredAt, TriedOn, TriesEach}
use Rattle.rart_nodes.specs.walks.Tried.{ContinuesAs}
use Rattle.rart_nodes.specs.walks.TriedViews.{EndsBy}
use Rattle.rart_trie.specs.tries.PrefixLaws.{prefix-none, values-append}
use Rattle.rart_trie.specs.tries.Trie.{with_prefix}
use Rattle.rart_nodes.specs.joins.PairCalls.{CallsAtEach, CallsWithEach}
use Rattle.rart_nodes.specs.joins.ViewCalls.{ViewsAtEach}
use Rattle.rart_trie.specs.walks.Calls.{CallableAtEach}
use Rattle.rart_trie.specs.walks.Walk.{joined_bytes}
use Rattle.rart_nodes.specs.walks.PathParts.{lent_segments}
use Rattle.rart_nodes.proofs.joins.VisitorLemmas.{given-whole}
use Rattle.rart_nodes.proofs.walks.TriedViewLemmas.{ends-keep}
use Rattle.rart_trie.proofs.edits.CallbackLemmas.{always-on, folds-keep}

pub can-values : {F X B : Type 0} (r : F → X → F → Type 0) (q : F → X → Type 0) (f : F) (es : List (List ℕ × X))
    → CallableAtEach r q f (values_of es)
    → CanGive {B = B} (CanGiveValues q) (Throughout (GivenValues r)) Nothing f es
can-values r q f es h = record {
  at = λ before x after g e k. h.at (values_of before) x.1 (values_of after) g
      (ap (λ z. values_of z) e ∙ values-append before (x ∷ after)) k.1;
}

module _ {F X B : Type 0} (r : F → List ℕ × X → F → Type 0) (q : F → List ℕ × X → Type 0) (f : F)
    (es : List (List ℕ × X)) where
  pub can-keys : (k : Vec ℕ) → k.items ≡ [] → CallableAtEach r q f es
      → CanGive {B = B} (CanGiveKeys q) (Throughout (GivenKeys r)) (Bytes k) f es
  can-keys k n h = record {
    at = λ before x after g e i. subst (λ (z : List ℕ). q g (z ++ x.0, x.1)) (sym n)
        (h.at before x after g e (given-whole r k.items f g before n i.1));
  }

  pub can-views : (k : Vec (Bor (List ℕ))) → joined_bytes (lent_segments k.items) ≡ [] → CallableAtEach r q f es
      → CanGive {B = B} (CanGiveViews q) (Throughout (GivenViews r)) (Segments k) f es
  can-views k n h = record {
    at = λ before x after g e i. subst (λ (z : List ℕ). q g (z ++ x.0, x.1)) (sym n)
        (h.at before x after g e (given-whole r (joined_bytes (lent_segments k.items)) f g before n i.1));
  }

-- a callback that may end the walk
module _ {F X E : Type 0} (R : F → X → Result VisitControl E → F → Type 0) where
  tried-folds : (answer : Result VisitControl E) (f : F) (x : X) (xs : List X) (f0 g : F)
      (M : F → Type 0) → (M f → FoldsTo (λ p y q. R p y (Ok Continue) q) f xs g) → R f0 x answer f
      → TriedOn answer f M (Ok tt) g → FoldsTo (λ p y q. R p y (Ok Continue) q) f0 (x ∷ xs) g
  tried-folds (Ok Continue) f x xs f0 g M more k a = (f, k, more a)
  tried-folds (Ok Stop) f x xs f0 g M more k a = let q = a.0 in absurd (cc)
  tried-folds (Err e) f x xs f0 g M more k a = let q = a.0 in absurd (cc)

  -- each call up to here said that it continues
  tries-folds : (f g : F) (xs : List X) → TriesEach R f xs (Ok tt) g → FoldsTo (λ p y q. R p y (Ok Continue) q) f xs g
  tries-folds f g [] a = a.1
  tries-folds f g (x ∷ xs) a = tried-folds a.0 a.1.0 x xs f g (λ h. TriesEach R h xs (Ok tt) g)
      (λ m. tries-folds a.1.0 g xs m) a.1.1.0 a.1.1.1

  -- what the call of an intersection returns
  abbrev pub outcome : Result (Unit {0}) (Result (Unit {0}) E) → Result (Unit {0}) E
  outcome (Ok u) = Ok tt
  outcome (Err r) = r

  tried-ends : (answer : Result VisitControl E) (f : F) (M N : F → Type 0)
      (r : Result (Unit {0}) (Result (Unit {0}) E)) (g : F) → (M f → N f) → TriedOn answer f M r g
      → ContinuesAs answer f N (outcome r) g
  tried-ends (Ok Continue) f M N r g more a = more a
  tried-ends (Ok Stop) f M N r g more a = (ap outcome a.0, a.1)
  tried-ends (Err e) f M N r g more a = (ap outcome a.0, a.1)

  pub tries-ends : (f g : F) (xs : List X) (r : Result (Unit {0}) (Result (Unit {0}) E)) → TriesEach R f xs r g
      → EndsBy R f xs (outcome r) g
  tries-ends f g [] r a = (ap outcome a.0, a.1)
  tries-ends f g (x ∷ xs) r a = (
    a.0,
    (
      a.1.0,
      (
        a.1.1.0,
        tried-ends a.0 a.1.0 (λ h. TriesEach R h xs r g) (λ h. EndsBy R h xs (outcome r) g) r g
            (λ m. tries-ends a.1.0 g xs r m) a.1.1.1,
      ),
    ),
  )

module _ {F X E : Type 0} (R : F → List ℕ × X → Result VisitControl E → F → Type 0) where
  pub tried-whole : (k : List ℕ) (f g : F) (es : List (List ℕ × X)) (r : Result (Unit {0}) (Result (Unit {0}) E))
      → k ≡ [] → TriesEach R f (with_prefix k es) r g → TriesEach R f es r g
  tried-whole k f g es r e h = subst (λ (z : List (List ℕ × X)). TriesEach R f z r g) (ap (λ z. with_prefix z es) e
      ∙ prefix-none es) h

  pub can-tried : (q : F → List ℕ × X → Type 0) (f : F) (es : List (List ℕ × X)) (k : Vec ℕ) → k.items ≡ []
      → CallableAtEach (λ p x g. R p x (Ok Continue) g) q f es → CanGive (CanGiveKeys q) (GivenTried R) (Bytes k) f es
  can-tried q f es k n h = record {
    at = λ before x after g e i. subst (λ (z : List ℕ). q g (z ++ x.0, x.1)) (sym n)
        (h.at before x after g e (tries-folds R f g before (tried-whole k.items f g before (Ok tt) n i)));
  }

-- a callback that may always be called
module _ {F V W : Type 0} (g : Mut F (Bor V × (Bor W × Unit {0})) (Unit {0})) where
  pub always-after-with : (f : F) (xs : List (V × W)) (f' : F) → CallsWithEach g f xs f' → always_mut g f
      → always_mut g f'
  always-after-with f xs f' k h = folds-keep _ (always_mut g)
      (λ p x q s i. always-on g p (s.left, (s.right, tt)) tt q s.called i) xs f f' k h

module _ {F K V W : Type 0} (g : Mut F (K × (Bor V × (Bor W × Unit {0}))) (Unit {0})) (bytes : K → List ℕ) where
  pub always-after-at : (f : F) (xs : List (List ℕ × (V × W))) (f' : F) → CallsAtEach g bytes f xs f' → always_mut g f
      → always_mut g f'
  always-after-at f xs f' k h = folds-keep _ (always_mut g)
      (λ p x q s i. always-on g p (s.key, (s.left, (s.right, tt))) tt q s.called i) xs f f' k h

module _ {F V W : Type 0} (g : Mut F (LendingKeyView × (Bor V × (Bor W × Unit {0}))) (Unit {0})) where
  pub always-after-view-at : (f : F) (xs : List (List ℕ × (V × W))) (f' : F) → ViewsAtEach g f xs f' → always_mut g f
      → always_mut g f'
  always-after-view-at f xs f' k h = folds-keep _ (always_mut g)
      (λ p x q s i. always-on g p (s.key, (s.left, (s.right, tt))) tt q s.called i) xs f f' k h

module _ {F K V W E : Type 0} (g : Mut F (K × (Bor V × (Bor W × Unit {0}))) (Result VisitControl E))
    (bytes : K → List ℕ) where
  pub always-after-tried-at : (f : F) (xs : List (List ℕ × (V × W))) (r : Result (Unit {0}) E) (f' : F)
      → EndsBy (λ p x a q. AnsweredAt g bytes p x a q) f xs r f' → always_mut g f → always_mut g f'
  always-after-tried-at f xs r f' k h = ends-keep (λ p x a q. AnsweredAt g bytes p x a q) (always_mut g)
      (λ p x a q s i. always-on g p (s.key, (s.left, (s.right, tt))) a q s.called i) f xs r f' k h
