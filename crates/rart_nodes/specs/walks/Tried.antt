-- Calls of a callback that can end a walk.
use Rattle.std.specs.Prelude.{ℕ, ◌≡◌, ◌≢◌, ◌+◌, List, [], ◌∷◌, Result, Ok, Err}
use Rattle.std.specs.Borrow.{Bor}
use Rattle.std.specs.Fn.{Mut, Called, CalledAt, TakesAt}
use Rattle.rart_trie.specs.walks.Calls.{CallableAtEach}
use Rattle.rart_nodes.specs.declared.node.control.VisitControl.{VisitControl}
use Rattle.rart_nodes.specs.declared.node.control.VisitControl.TheVariants.{Continue, Stop}
use Rattle.rart_nodes.specs.declared.node.control.VisitError.{VisitError}
use Rattle.rart_nodes.specs.declared.node.control.VisitError.TheVariants.{Callback, Memory}

-- f may be called with each value in turn, for as long as each call has said that the walk continues
abbrev pub CanTry : {F V E : Type 0} → Mut F (Bor V × Unit {0}) (Result VisitControl E) → F → List V → Type 0
CanTry g f xs = CallableAtEach (λ p x q. CalledAt g p x (Ok Continue) q) (λ p x. TakesAt g p x) f xs

-- how a walk continues or ends after an answer, as `more` continues it
abbrev pub ContinuesAs : {F E : Type 0} → Result VisitControl E → F → (F → Type 0) → Result (Unit {0}) E → F → Type 0
ContinuesAs (Ok Continue) f more r f' = more f
ContinuesAs (Ok Stop) f more r f' = (r ≡ Ok tt) × (f ≡ f')
ContinuesAs (Err e) f more r f' = (r ≡ Err e) × (f ≡ f')

-- f is called at each value in order until it says stop or fails, and the walk ends with r and f'
abbrev pub EndsAs : {F V E : Type 0} → Mut F (Bor V × Unit {0}) (Result VisitControl E) → F → List V
    → Result (Unit {0}) E → F → Type 0
EndsAs {F} {V} {E} g f [] r f' = (r ≡ Ok tt) × (f ≡ f')
EndsAs {F} {V} {E} g f (v ∷ vs) r f' = (shown : Bor V)
    × ((answer : Result VisitControl E) × ((next : F)
    × ((shown.now ≡ v) × (Called g f (shown, tt) answer next
    × ContinuesAs answer next (λ h. EndsAs g h vs r f') r f'))))

-- how a walk continues or ends after the first of n calls, as `more` continues it
abbrev pub CountsCall : {F E : Type 0} → Result VisitControl E → F → ℕ → (F → ℕ → Type 0) → Result (Unit {0}) E → F
    → Type 0
CountsCall (Ok Continue) f n more r f' = (m : ℕ) × ((n ≡ 1 + m) × more f m)
CountsCall (Ok Stop) f n more r f' = (n ≡ 1) × ((r ≡ Ok tt) × (f ≡ f'))
CountsCall (Err e) f n more r f' = (n ≡ 1) × ((r ≡ Err e) × (f ≡ f'))

-- f is called n times, at the first n values in order, until it says stop or fails, and the walk ends with r and f'
abbrev pub EndsAfter : {F V E : Type 0} → Mut F (Bor V × Unit {0}) (Result VisitControl E) → F → List V → ℕ
    → Result (Unit {0}) E → F → Type 0
EndsAfter {F} {V} {E} g f [] n r f' = (n ≡ 0) × ((r ≡ Ok tt) × (f ≡ f'))
EndsAfter {F} {V} {E} g f (v ∷ vs) n r f' = (shown : Bor V)
    × ((answer : Result VisitControl E) × ((next : F)
    × ((shown.now ≡ v) × (Called g f (shown, tt) answer next
    × CountsCall answer next n (λ h m. EndsAfter g h vs m r f') r f'))))

-- `EndsAfter` for a walk whose allocation can also be refused, and that then calls nothing
abbrev pub EndsVisit : {F V E : Type 0} → Mut F (Bor V × Unit {0}) (Result VisitControl E) → F → List V
    → Result (Unit {0}) (VisitError E) → F → Type 0
EndsVisit g f vs (Ok u) f' = EndsAs g f vs (Ok tt) f'
EndsVisit g f vs (Err (Callback e)) f' = EndsAs g f vs (Err e) f'
EndsVisit g f vs (Err Memory) f' = f ≡ f'

abbrev pub EndsVisitAfter : {F V E : Type 0} → Mut F (Bor V × Unit {0}) (Result VisitControl E) → F → List V → ℕ
    → Result (Unit {0}) (VisitError E) → F → Type 0
EndsVisitAfter g f vs n (Ok u) f' = EndsAfter g f vs n (Ok tt) f'
EndsVisitAfter g f vs n (Err (Callback e)) f' = EndsAfter g f vs n (Err e) f'
EndsVisitAfter g f vs n (Err Memory) f' = (n ≡ 0) × (f ≡ f')

-- P holds of the number of calls
abbrev pub CallsSo : {F V E : Type 0} → Mut F (Bor V × Unit {0}) (Result VisitControl E) → F → List V
    → Result (Unit {0}) (VisitError E) → F → (ℕ → Type 0) → Type 0
CallsSo g f vs r f' P = (n : ℕ) × (EndsVisitAfter g f vs n r f' × P n)

-- `CallsSo` for an f taken by value
abbrev pub CallsSoByValue : {F V E : Type 0} → Mut F (Bor V × Unit {0}) (Result VisitControl E) → F → List V
    → Result (Unit {0}) (VisitError E) → (ℕ → Type 0) → Type 0
CallsSoByValue {F} g f vs r P = (last : F) × CallsSo g f vs r last P

abbrev pub EndsVisitByValue : {F V E : Type 0} → Mut F (Bor V × Unit {0}) (Result VisitControl E) → F → List V
    → Result (Unit {0}) (VisitError E) → Type 0
EndsVisitByValue {F} g f vs r = (last : F) × EndsVisit g f vs r last

-- P holds, unless the allocation was refused
abbrev pub IfAllocated : {E : Type 0} → Result (Unit {0}) (VisitError E) → Type 0 → Type 0
IfAllocated (Ok u) P = P
IfAllocated (Err (Callback e)) P = P
IfAllocated (Err Memory) P = Unit {0}

-- P holds, if the allocation was refused
abbrev pub OnRefused : {E : Type 0} → Result (Unit {0}) (VisitError E) → Type 0 → Type 0
OnRefused (Ok u) P = Unit {0}
OnRefused (Err (Callback e)) P = Unit {0}
OnRefused (Err Memory) P = P

-- the allocation failed, and the list is not empty
abbrev pub MayStopForMemory : {A E : Type 0} → List A → VisitError E → Type 0
MayStopForMemory xs e = e ≡ Memory → xs ≢ []
