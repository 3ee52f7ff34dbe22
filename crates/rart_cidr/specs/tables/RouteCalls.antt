-- Calls of a callback with each route in turn, and what they leave of the routes.
use Rattle.std.specs.Prelude.{ℕ, ◌≡◌, ◌≤◌, Bool, true, false, List, [], ◌∷◌, ◌++◌, length, Result, Ok, Err}
use Rattle.std.specs.Borrow.{Bor, MutBor}
use Rattle.std.specs.Fn.{Called, Mut, Takes}
use Rattle.rart_parts.specs.declared.error.TreeError.{TreeError}
use Rattle.rart_parts.specs.declared.error.TreeError.TheVariants.{Memory}
use Rattle.rart_trie.specs.walks.Calls.{CallableAtEach}

-- f was called with the network and a loan of the target of e: it returned r and left w, and is then f'
pub record CalledForRoute {F N T R : Type 0}
    (call : Mut F (Bor N × (MutBor T × Unit {0})) (R × (MutBor T × Unit {0}))) (bits : N → List ℕ) (f : F)
    (e : List ℕ × T) (r : R) (w : T) (f' : F) : Type 0 where
  pub net : Bor N
  pub net_is : bits net.now ≡ e.0
  pub shown : MutBor T
  pub shows : shown.now ≡ e.1
  pub left : MutBor T
  pub called : Called call f (net, (shown, tt)) (r, (left, tt)) f'
  pub leaves : left.now ≡ w

-- a route before others, if it stays
abbrev pub before_if : {T : Type 0} → Bool → List ℕ × T → List (List ℕ × T) → List (List ℕ × T)
before_if true e es = e ∷ es
before_if false e es = es

module _ {F N T R : Type 0} (call : Mut F (Bor N × (MutBor T × Unit {0})) (R × (MutBor T × Unit {0})))
    (bits : N → List ℕ) where
  -- f may be called with the network and a loan of the target of e
  abbrev pub TakesRoute : F → List ℕ × T → Type 0
  TakesRoute f e = (net : Bor N) (lent : MutBor T) → bits net.now ≡ e.0 → lent.now ≡ e.1
      → Takes call f (net, (lent, tt))

  -- f was called with them, and is then f'
  abbrev pub CalledForAny : F → List ℕ × T → F → Type 0
  CalledForAny f e f' = (r : R) × ((w : T) × CalledForRoute call bits f e r w f')

  -- f may be called with each route in turn
  abbrev pub CanCallForEach : F → List (List ℕ × T) → Type 0
  CanCallForEach f es = CallableAtEach (λ f e f'. CalledForAny f e f') (λ f e. TakesRoute f e) f es

  -- f was called with each route of es in turn, and is then f'. Those for which `stays` holds of what the call returned
  -- are ds, each with the target that its call left
  abbrev pub CallsForEach : (R → Bool) → F → List (List ℕ × T) → List (List ℕ × T) → F → Type 0
  CallsForEach stays f [] ds f' = (ds ≡ []) × (f ≡ f')
  CallsForEach stays f (e ∷ es) ds f' = (r : R) × (w : T) × (g : F) × (rest : List (List ℕ × T))
      × CalledForRoute call bits f e r w g × (ds ≡ before_if (stays r) (e.0, w) rest)
      × CallsForEach stays g es rest f'

  -- f was called with each route, and each stays
  abbrev pub ChangesEach : F → List (List ℕ × T) → List (List ℕ × T) → F → Type 0
  ChangesEach f old new f' = CallsForEach (λ r. true) f old new f'

  -- `ChangesEach` for an f taken by value
  abbrev pub ChangesEachByValue : F → List (List ℕ × T) → List (List ℕ × T) → Type 0
  ChangesEachByValue f old new = (last : F) × ChangesEach f old new last

module _ {F N T : Type 0} (call : Mut F (Bor N × (MutBor T × Unit {0})) (Bool × (MutBor T × Unit {0})))
    (bits : N → List ℕ) where
  -- the calls end with a route that f rejected and that stays, with the target that its call left. Those after it are
  -- unchanged
  pub record EndsAtRefused (f : F) (old new : List (List ℕ × T)) (f' : F) : Type 0 where
    pub before : List (List ℕ × T)
    pub rejected : List ℕ × T
    pub after : List (List ℕ × T)
    pub kept : List (List ℕ × T)
    pub left : T
    pub last : F
    pub old_is : old ≡ before ++ rejected ∷ after
    pub new_is : new ≡ kept ++ (rejected.0, left) ∷ after
    pub calls : CallsForEach call bits (λ r. r) f before kept last
    pub called : CalledForRoute call bits last rejected false left f'

  -- Ok: f was called with each route, and those for which it returned true stay. Err: a removal was refused, in a table
  -- that has five routes yet
  abbrev pub RetainsRoutes : F → List (List ℕ × T) → Result (Unit {0}) TreeError → List (List ℕ × T) → F → Type 0
  RetainsRoutes f old (Ok u) new f' = CallsForEach call bits (λ r. r) f old new f'
  RetainsRoutes f old (Err error) new f' = (error ≡ Memory) × (5 ≤ length new) × EndsAtRefused f old new f'

  -- `RetainsRoutes` for an f taken by value
  abbrev pub RetainsRoutesByValue : F → List (List ℕ × T) → Result (Unit {0}) TreeError → List (List ℕ × T) → Type 0
  RetainsRoutesByValue f old result new = (last : F) × RetainsRoutes f old result new last
