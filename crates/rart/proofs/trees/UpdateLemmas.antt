-- What an update of a tree comes to.
use Rattle.std.proofs.Common.{◌≡◌, ◌≢◌, ℕ, ◌<◌, ◌≤◌, Bool, true, false, List, length, nat_eq, Option, Some, None}
use Rattle.std.proofs.Common.{Result, Ok, Err, is_some, refl, arith, sym, ap, ◌∙◌}
use Rattle.std.proofs.lemmas.Bool.Decides.{nat_tests}
use Rattle.std.specs.Borrow.{MutBor}
use Rattle.std.specs.Fn.{Once}
use Rattle.rart_keys.specs.SortedMap.{IsAscending, lookup, put}
use Rattle.rart_trie.specs.declared.refused.Refused.{Refused}
use Rattle.rart_trie.specs.declared.slot.Outcome.{Outcome}
use Rattle.rart_trie.specs.declared.slot.Slot.{Slot}
use Rattle.rart_trie.specs.declared.slot.SlotUpdate.{SlotUpdate}
use Rattle.rart_trie.specs.declared.slot.SlotUpdate.TheVariants.{Keep, Remove, Insert}
use Rattle.rart_trie.specs.declared.slot.UpdateError.{UpdateError}
use Rattle.rart_trie.specs.declared.slot.UpdateError.TheVariants.{Insert as Not_inserted, Remove as Not_removed}
use Rattle.rart_trie.specs.edits.Slots.{HasCapacity, outcome_of, slot_of}
use Rattle.rart_trie.specs.edits.Updates.{EndsMap, RefusesNew, map_left}
use Rattle.rart_parts.specs.declared.error.TreeError.{TreeError}
use Rattle.rart_parts.specs.declared.error.TreeError.TheVariants.{Memory, Full}
use Rattle.rart.specs.MapAndShape.{MapAndShape}
use Rattle.rart.specs.Refusals.{MayRefuseInsert}
use Rattle.rart.specs.declared.tree.update.CallbackOutcome.{CallbackOutcome}
use Rattle.rart.specs.declared.tree.update.CallbackOutcome.TheVariants.{NotCloned, Failed, Answered}
use Rattle.rart.specs.declared.tree.update.TryUpdateError.TheVariants.{Callback, Insert as Try_not_inserted}
use Rattle.rart.specs.declared.tree.update.TryUpdateError.TheVariants.{Remove as Try_not_removed}
use Rattle.rart.specs.Updates.{Attempts, EndsIn, IsAttempt, KeepsSlotIfOk, TakesNew, TriesUpdate, is_touched}
use Rattle.rart.specs.Updates.{touched_in}
use Rattle.rart.specs.declared.tree.TheConstants.{MAX_PAIRS}

full-is : (l n : ℕ) → nat_eq l n ≡ true → l ≡ n
full-is l n h = grind (arith, nat_tests)

count-is-less : (l n : ℕ) → nat_eq l n ≡ false → l ≢ n
count-is-less l n h = λ e. grind (arith, nat_tests)

count-below : (l n : ℕ) → l ≤ n → nat_eq l n ≡ false → l < n
count-below l n b h = grind (arith, nat_tests)

pub same-map : {V : Type 0} (a b : MapAndShape V) → a.pairs ≡ b.pairs → a.nodes ≡ b.nodes → a ≡ b
same-map {V} a b p n =
    let q : a ≡ record { pairs = b.pairs; nodes = a.nodes }
    = ap (λ (z : List (List ℕ × V)). record { pairs = z; nodes = a.nodes }) p in
    q ∙ ap (λ z. record { pairs = b.pairs; nodes = z }) n

module _ {V : Type 0} where
  slot-same : (u v : Option V) → slot_of u ≡ slot_of v → u ≡ v
  slot-same None None h = refl
  slot-same None (Some x) h = absurd (cc)
  slot-same (Some x) None h = absurd (cc)
  slot-same (Some x) (Some y) h = let q : x ≡ y = cc in ap Some q

  none-stored : (w o : Option V) → w ≡ None → is_some w ≡ is_some o → o ≡ None
  none-stored w None h s = refl
  none-stored None (Some x) h s = absurd (cc)
  none-stored (Some y) (Some x) h s = absurd (cc)

  some-stored : (w o : Option V) → w ≢ None → is_some w ≡ is_some o → o ≢ None
  some-stored None o h s = absurd (h refl)
  some-stored (Some y) None h s = absurd (cc)
  some-stored (Some y) (Some x) h s = λ z. cc

  takes-new : (full : Bool) (r : SlotUpdate V) (w : Option V) (o : Outcome V) (m : List (List ℕ × V))
      → full ≡ nat_eq (length m) MAX_PAIRS → o ≡ outcome_of r w → HasCapacity full o → TakesNew r w m
  takes-new full Keep w o m f e h = tt
  takes-new full Remove w o m f e h = tt
  takes-new full (Insert x) (Some w) o m f e h = tt
  takes-new full (Insert x) None o m f e h = let fewer : full ≡ false = rw e at h in
      count-is-less (length m) MAX_PAIRS (sym f ∙ fewer)

  may-refuse : (full : Bool) (k : List ℕ) (m : List (List ℕ × V)) (e : TreeError) → full ≡ nat_eq (length m) MAX_PAIRS
      → length m ≤ MAX_PAIRS → lookup k m ≡ None → RefusesNew full k m e → MayRefuseInsert m k e
  may-refuse full k m Full f most none h = (none, full-is (length m) MAX_PAIRS (sym f ∙ h))
  may-refuse full k m Memory f most none h = (none, count-below (length m) MAX_PAIRS most (sym f ∙ h.0), h.1)

  -- the update of a root is one of the map
  pub ends-in : (full : Bool) (k : List ℕ) (r : SlotUpdate V) (w : Option V) (m : List (List ℕ × V))
      (res : Result (Outcome V) (UpdateError V)) (n : List (List ℕ × V)) → full ≡ nat_eq (length m) MAX_PAIRS
      → length m ≤ MAX_PAIRS
      → is_some w ≡ is_some (lookup k m) → EndsMap full k r w m res n → EndsIn k r w m res n
  ends-in full k r w m (Ok o) n f most s h = (h.1, takes-new full r w o m f h.1 h.2, h.0)
  ends-in full k r w m (Err (Not_inserted e)) n f most s h
      = (h.1, h.2, may-refuse full k m e.error f most (none-stored w (lookup k m) h.2 s) h.3, h.0)
  ends-in full k r w m (Err Not_removed) n f most s h = (h.1, h.2, (refl, some-stored w (lookup k m) h.2 s, h.3), h.0)

  touched-is : (r : SlotUpdate V) (w : Option V) → touched_in (outcome_of r w) ≡ is_touched r w
  touched-is Keep None = refl
  touched-is Remove None = refl
  touched-is (Insert x) None = refl
  touched-is Keep (Some w) = refl
  touched-is Remove (Some w) = refl
  touched-is (Insert x) (Some w) = refl

  -- an update that keeps the value as shown changes nothing
  kept : (k : List ℕ) (r : SlotUpdate V) (w : Option V) (m : List (List ℕ × V))
      (res : Result (Outcome V) (UpdateError V)) (n : List (List ℕ × V))
      → ((v : V) → lookup k m ≡ Some v → put k v m ≡ m)
      → r ≡ Keep → slot_of w ≡ slot_of (lookup k m) → EndsIn k r w m res n → n ≡ m
  kept k Remove w m res n law e s h = absurd (cc)
  kept k (Insert x) w m res n law e s h = absurd (cc)
  kept k Keep None m (Ok o) n law e s h = h.2
  kept k Keep (Some w) m (Ok o) n law e s h = h.2 ∙ law w (sym (slot-same (Some w) (lookup k m) s))
  kept k Keep w m (Err (Not_inserted d)) n law e s h = absurd (let z = h.0 in cc)
  kept k Keep w m (Err Not_removed) n law e s h = absurd (let z = h.0 in cc)

  -- a refused removal: what was left is at the key, and the old value is put back
  value-left : (k : List ℕ) (w : Option V) (m n : List (List ℕ × V)) → ((v : V) → lookup k (put k v m) ≡ Some v)
      → w ≢ None → n ≡ map_left k w m → lookup k n ≢ None
  value-left k None m n law s e = absurd (s refl)
  value-left k (Some w) m n law s e = λ z. let at = law w in let same = ap (lookup k) e in cc

  back-left : (k : List ℕ) (w : Option V) (v : V) (m n u : List (List ℕ × V))
      → ((x y : V) → lookup k m ≡ Some x → put k x (put k y m) ≡ m) → w ≢ None → lookup k m ≡ Some v
      → n ≡ map_left k w m → u ≡ put k v n → u ≡ m
  back-left k None v m n u law s at e p = absurd (s refl)
  back-left k (Some w) v m n u law s at e p = p ∙ ap (put k v) e ∙ law v w at

  slot-is : (u v : Option V) → slot_of u ≡ slot_of v → u ≡ v
  slot-is = slot-same

  slot-some : (u v : Option V) → slot_of u ≡ slot_of v → is_some u ≡ is_some v
  slot-some u v h = ap is_some (slot-same u v h)

-- an attempt keeps a slot occupied, or vacant, where the callback does
pub attempt-stays : {F E V : Type 0} (sure : V
    → Type 0) (g : Once F (MutBor (Slot V) × Unit {0}) (Result (SlotUpdate V) E × (MutBor (Slot V) × Unit {0}))) (f : F)
    (o : Option V) (r : SlotUpdate V) (x : CallbackOutcome V E) (w : Option V)
    → KeepsSlotIfOk g f o → IsAttempt sure g f (slot_of o) r x (slot_of w) → is_some w ≡ is_some o
attempt-stays sure g f o r NotCloned w law h = slot-some w o h.1
attempt-stays sure g f o r (Failed e) w law h = slot-some w o h.1
attempt-stays sure g f o r (Answered c) w law h = law r w h.0

-- what an attempt comes to, by what it returns
module _ {F E V : Type 0} {sure : V → Type 0}
    {g : Once F (MutBor (Slot V) × Unit {0}) (Result (SlotUpdate V) E × (MutBor (Slot V) × Unit {0}))} {f : F}
    {k : List ℕ} {m n : List (List ℕ × V)} {res : Result (Outcome V) (UpdateError V)} where
  module _ (law : (q : List ℕ) (v : V) (l : List (List ℕ × V)) → IsAscending l → lookup q l ≡ Some v → put q v l ≡ l)
      (up : IsAscending m) where
    -- f wasn't called
    pub not-called : Attempts sure g f k m NotCloned res n → (n ≡ m) × ((v : V) × (lookup k m ≡ Some v) × (sure v → ⊥))
    not-called h =
        let v = h.attempt.2.0 in
        let same = kept k h.request h.left m res n (λ x s. law k x m up s) h.attempt.0 h.attempt.1 h.ends in
        (same, (v, sym (slot-is (Some v) (lookup k m) (sym h.attempt.2.1)), h.attempt.2.2))

    -- it failed
    pub failed : (e : E) → Attempts sure g f k m (Failed e) res n → TriesUpdate g f k m (Err (Callback e)) n × (n ≡ m)
    failed e h =
        let same = kept k h.request h.left m res n (λ x s. law k x m up s) h.attempt.0 h.attempt.1 h.ends in
        ((Err e, h.attempt.2.0, h.attempt.2.1, (refl, same)), same)

  -- the requested edit is made
  pub done : (x : Option V) (o : Outcome V) (b : Bool) → b ≡ touched_in o → res ≡ Ok o
      → Attempts sure g f k m (Answered x) res n → TriesUpdate g f k m (Ok b) n
  done x o b is r h = let e = rw r at h.ends in
      (Ok h.request, h.left, h.attempt.0, (is ∙ ap touched_in e.0 ∙ touched-is h.request h.left, e.1, e.2))

  -- its insertion is refused
  pub not-inserted : (x : Option V) (d : Refused V) → res ≡ Err (Not_inserted d)
      → Attempts sure g f k m (Answered x) res n → TriesUpdate g f k m (Err (Try_not_inserted d)) n × (n ≡ m)
  not-inserted x d r h = let e = rw r at h.ends in ((Ok h.request, h.left, h.attempt.0, e), e.3)

  -- its removal is refused: what it left is at the key, and the old value is put back
  module _ (x : Option V) (r : res ≡ Err Not_removed) (h : Attempts sure g f k m (Answered x) res n) where
    pub some-left : ((q : List ℕ) (v : V) (l : List (List ℕ × V)) → lookup q (put q v l) ≡ Some v) → lookup k n ≢ None
    some-left law = let e = rw r at h.ends in value-left k h.left m n (λ v. law k v m) e.1 e.3

    pub was-stored : x ≢ None
    was-stored = λ z. let e = rw r at h.ends in e.2.1 (sym (slot-is x (lookup k m) h.attempt.1) ∙ z)

    pub put-back : ((q : List ℕ) (v w : V) (l : List (List ℕ × V)) → IsAscending l → lookup q l ≡ Some v
        → put q v (put q w l) ≡ l) → IsAscending m
        → (v : V) (u : List (List ℕ × V)) → x ≡ Some v → u ≡ put k v n → TriesUpdate g f k m (Err Try_not_removed) u
        × (u ≡ m)
    put-back law up v u s p = let e = rw r at h.ends in
        let stored : lookup k m ≡ Some v = sym (slot-is x (lookup k m) h.attempt.1) ∙ s in
        let same : u ≡ m = back-left k h.left v m n u (λ y z t. law k y z m up t) e.1 stored e.3 p in
        ((Ok h.request, h.left, h.attempt.0, (e.0, e.1, e.2, same)), same)
