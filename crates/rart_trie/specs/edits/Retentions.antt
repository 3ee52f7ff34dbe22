-- Calls of a callback that says which pairs stay, and what they leave of a list of pairs.
use Rattle.std.specs.Prelude.{ℕ, ◌≡◌, ◌+◌, ◌&&◌, Bool, true, false, not, List, [], ◌∷◌, ◌++◌, length, Result, Ok, Err}
use Rattle.std.specs.Prelude.{if◌then◌else◌, Option, Some, None}
use Rattle.std.specs.Borrow.{Bor, MutBor}
use Rattle.std.specs.Fn.{Called, Mut, Takes}
use Rattle.std.specs.List.{filter}
use Rattle.std.specs.declared.ops.Bound.{Bound}
use Rattle.rart_keys.specs.ByteStrings.{begins}
use Rattle.rart_keys.specs.Ranges.{is_from, is_to}
use Rattle.rart_keys.specs.SortedMap.{keys_of}
use Rattle.rart_trie.specs.edits.RemoveAllocations.{remove_allocates}
use Rattle.rart_trie.specs.walks.Calls.{CallableAtEach}

-- What became of a pair: it is kept; or removed; or its removal was refused, and it stays.
pub data Fate : Type 0 where
  kept : Fate
  removed : Fate
  refused : Fate

-- what the callback returned of it
abbrev pub is_wanted : Fate → Bool
is_wanted kept = true
is_wanted removed = false
is_wanted refused = false

-- whether it stays
abbrev pub is_left : Fate → Bool
is_left kept = true
is_left removed = false
is_left refused = true

abbrev pub refusal : Fate → ℕ
refusal kept = 0
refusal removed = 0
refusal refused = 1

-- f was called with the key and a loan of the value of e: it returned r and left w, and is then f'
pub record CalledFor {F V : Type 0} (call : Mut F (Bor (List ℕ) × (MutBor V × Unit {0})) (Bool × (MutBor V × Unit {0})))
    (f : F) (e : List ℕ × V) (r : Bool) (w : V) (f' : F) : Type 0 where
  pub key : Bor (List ℕ)
  pub key_is : key.now ≡ e.0
  pub shown : MutBor V
  pub shows : shown.now ≡ e.1
  pub left : MutBor V
  pub called : Called call f (key, (shown, tt)) (r, (left, tt)) f'
  pub leaves : left.now ≡ w

-- the remaining pairs of a list, of whose first pairs each has a fate, and a value that its call left
abbrev pub remaining_pairs : {V : Type 0} → List (List ℕ × V) → List (V × Fate) → List (List ℕ × V)
remaining_pairs [] xs = []
remaining_pairs (e ∷ es) [] = e ∷ es
remaining_pairs (e ∷ es) (x ∷ xs) = if is_left x.1 then (e.0, x.0) ∷ remaining_pairs es xs else remaining_pairs es xs

-- the first key whose removal was refused
abbrev pub key_refused : List ℕ → Fate → Option (List ℕ) → Option (List ℕ)
key_refused k kept o = o
key_refused k removed o = o
key_refused k refused o = Some k

abbrev pub refused_key : {V : Type 0} → List (List ℕ × V) → List (V × Fate) → Option (List ℕ)
refused_key [] xs = None
refused_key (e ∷ es) [] = None
refused_key (e ∷ es) (x ∷ xs) = key_refused e.0 x.1 (refused_key es xs)

-- how many removals were refused
abbrev pub refusals : {V : Type 0} → List (V × Fate) → ℕ
refusals [] = 0
refusals (x ∷ xs) = refusal x.1 + refusals xs

-- each key that was called begins with k
abbrev pub AllBegin : {V : Type 0} → List ℕ → List (List ℕ × V) → List (V × Fate) → Type 0
AllBegin k es [] = Unit {0}
AllBegin k [] (x ∷ xs) = Unit {0}
AllBegin k (e ∷ es) (x ∷ xs) = (begins k e.0 ≡ true) × AllBegin k es xs

-- each key that was called after a refused one begins with it
abbrev pub EndsBelowRefused : {V : Type 0} → List (List ℕ × V) → List (V × Fate) → Type 0
EndsBelowRefused es [] = Unit {0}
EndsBelowRefused [] (x ∷ xs) = Unit {0}
EndsBelowRefused (e ∷ es) (x ∷ xs) = (x.1 ≡ refused → AllBegin e.0 es xs) × EndsBelowRefused es xs

module _ {F V : Type 0} (call : Mut F (Bor (List ℕ) × (MutBor V × Unit {0})) (Bool × (MutBor V × Unit {0}))) where
  -- f may be called with the key and a loan of the value of e
  abbrev pub TakesPair : F → List ℕ × V → Type 0
  TakesPair f e = (key : Bor (List ℕ)) (lent : MutBor V) → key.now ≡ e.0 → lent.now ≡ e.1
      → Takes call f (key, (lent, tt))

  -- f was called with them, and is then f'
  abbrev pub CalledForPair : F → List ℕ × V → F → Type 0
  CalledForPair f e f' = (r : Bool) × ((w : V) × CalledFor call f e r w f')

  -- f may be called with each pair in turn
  abbrev pub CanRetain : F → List (List ℕ × V) → Type 0
  CanRetain f es = CallableAtEach (λ f e f'. CalledForPair f e f') (λ f e. TakesPair f e) f es

  -- f was called with the first pairs in turn, each key after q, one call for each fate, and is then f'
  abbrev pub CallsFor : List ℕ → F → List (List ℕ × V) → List (V × Fate) → F → Type 0
  CallsFor q f es [] f' = f ≡ f'
  CallsFor q f [] (x ∷ xs) f' = ⊥
  CallsFor q f (e ∷ es) (x ∷ xs) f' = (g : F) × (CalledFor call f (q ++ e.0, e.1) (is_wanted x.1) x.0 g
      × CallsFor q g es xs f')

  -- f was called with all pairs, and ds is left of them; n removals were refused
  pub record RetainsAll (q : List ℕ) (f : F) (es ds : List (List ℕ × V)) (n : ℕ) (f' : F) : Type 0 where
    pub fates : List (V × Fate)
    pub calls : CallsFor q f es fates f'
    pub all : length fates ≡ length es
    pub refused : refusals fates ≡ n
    pub ends : EndsBelowRefused es fates
    pub left : ds ≡ remaining_pairs es fates

  -- f was called with the first pairs, and ds is left of all; one removal was refused, that of k
  pub record RetainsFirst (q : List ℕ) (f : F) (es ds : List (List ℕ × V)) (k : List ℕ) (f' : F) : Type 0 where
    pub fates : List (V × Fate)
    pub calls : CallsFor q f es fates f'
    pub refused : refusals fates ≡ 1
    pub key : refused_key es fates ≡ Some k
    pub ends : EndsBelowRefused es fates
    pub left : ds ≡ remaining_pairs es fates

  -- all pairs were visited; or the walk ended after a refused removal, and that removal requests memory
  abbrev pub Retains : {E : Type 0} → F → List (List ℕ × V) → Result (Unit {0}) E → List (List ℕ × V) → F → Type 0
  Retains f es (Ok u) ds f' = RetainsAll [] f es ds 0 f'
  Retains f es (Err e) ds f' = (k : List ℕ) × (RetainsFirst [] f es ds k f' × (remove_allocates (keys_of ds) k ≡ true))

  -- `Retains` of the pairs of whose key t holds; the others are unchanged, and f was not called with them
  abbrev pub RetainsWhere : {E : Type 0} → (List ℕ → Bool) → F → List (List ℕ × V) → Result (Unit {0}) E
      → List (List ℕ × V) → F → Type 0
  RetainsWhere t f es (Ok u) ds f' = RetainsAll [] f (filter (λ e. t e.0) es) (filter (λ e. t e.0) ds) 0 f'
      × (filter (λ e. not (t e.0)) ds ≡ filter (λ e. not (t e.0)) es)
  RetainsWhere t f es (Err e) ds f' = (k : List ℕ)
      × (RetainsFirst [] f (filter (λ e. t e.0) es) (filter (λ e. t e.0) ds) k f'
      × (remove_allocates (keys_of ds) k ≡ true)
      × (filter (λ e. not (t e.0)) ds ≡ filter (λ e. not (t e.0)) es))

  -- of the pairs whose key p begins
  abbrev pub RetainsBelow : {E : Type 0} → List ℕ → F → List (List ℕ × V) → Result (Unit {0}) E → List (List ℕ × V) → F
      → Type 0
  RetainsBelow p f es r ds f' = RetainsWhere (λ k. begins p k) f es r ds f'

  -- of the pairs whose key is within two bounds
  abbrev pub RetainsBetween : {E : Type 0} → Bound (List ℕ) → Bound (List ℕ) → F → List (List ℕ × V)
      → Result (Unit {0}) E → List (List ℕ × V) → F → Type 0
  RetainsBetween a b f es r ds f' = RetainsWhere (λ k. is_from a k && is_to b k) f es r ds f'

  -- `Retains` for an f taken by value
  abbrev pub RetainsByValue : {E : Type 0} → F → List (List ℕ × V) → Result (Unit {0}) E → List (List ℕ × V) → Type 0
  RetainsByValue f es r ds = (last : F) × Retains f es r ds last

  -- `RetainsBelow` for an f taken by value
  abbrev pub RetainsBelowByValue : {E : Type 0} → List ℕ → F → List (List ℕ × V) → Result (Unit {0}) E
      → List (List ℕ × V) → Type 0
  RetainsBelowByValue p f es r ds = (last : F) × RetainsBelow p f es r ds last

  -- `RetainsBetween` for an f taken by value
  abbrev pub RetainsBetweenByValue : {E : Type 0} → Bound (List ℕ) → Bound (List ℕ) → F → List (List ℕ × V)
      → Result (Unit {0}) E → List (List ℕ × V) → Type 0
  RetainsBetweenByValue a b f es r ds = (last : F) × RetainsBetween a b f es r ds last
