-- The slots of a keyed mapping through its calls.
use Rattle.std.proofs.Common.{◌≡◌, ◌≢◌, ℕ, zero, suc, ◌<◌, ◌≤◌, ◌+◌, ◌-◌, Bool, true, false, cond, eqb, not, ◌||◌, ◌&&◌}
use Rattle.std.proofs.Common.{List, [], ◌∷◌, Option, Some, None, length, get_or, set, replicate, sym, ap, ◌∙◌, refl}
use Rattle.std.proofs.Common.{arith, ⊎_elim}
use Rattle.std.proofs.lemmas.Bool.{eq-eqb, ne_eqb, false≢true}
use Rattle.std.proofs.lemmas.Bool.Decides.{eqb_tells}
use Rattle.std.proofs.lemmas.List.{length-set, length-replicate, get_or-set_same, get_or-set_other}
use Rattle.rart_parts.specs.Entries.{child_at, with_entry, without_byte, replaced_at, sorted_entries, BytesAscend}
use Rattle.rart_parts.specs.Keys.{is_held}
use Rattle.rart_maps.specs.Keyed.{with_keys, IsSlots, IsKeyed}
use Rattle.rart_parts.specs.Places.{is_filled, is_used, numbered_values, values_in}
use Rattle.rart_parts.proofs.entries.EntryLemmas.{at_same, at_other, same_lookups, child_at-ascending, AreEachOnce}
use Rattle.rart_parts.proofs.entries.EntryLemmas.{ascending-ascends, child_at-with_entry, child_at-without_byte}
use Rattle.rart_parts.proofs.entries.EntryLemmas.{child_at-replaced, with_entry-ascends, without_byte-ascends}
use Rattle.rart_parts.proofs.entries.EntryLemmas.{replaced-ascends}
use Rattle.rart_parts.proofs.entries.EntryLemmas.{length-with_entry, length-without_byte, length-replaced}
use Rattle.rart_parts.proofs.PlaceLemmas.{used_place, used_with, used_without, used_read, free_read, none_used}
use Rattle.rart_parts.proofs.PlaceLemmas.{all_free}
use Rattle.rart_maps.proofs.DirectLemmas.{numbered-put, numbered-taken, numbered-written, numbered_child}
use Rattle.rart_maps.proofs.DirectLemmas.{numbered-free, length-numbered, numbered_valueless}
use Rattle.rart_maps.proofs.SortedLemmas.{no_items}

none_some : {X : Type 0} {x : X} → None ≡ Some x → ⊥
none_some h = cc

-- ---- the child at a byte
module _ {X : Type 0} (k : ℕ) where
  keys_none : (ks : List ℕ) (os : List (Option X)) → ((r : ℕ) → is_used os r ≡ true → get_or ks r 0 ≡ k → ⊥)
      → child_at k (with_keys ks os) ≡ None
  keys_none [] os h = refl
  keys_none (c ∷ ks) [] h = refl
  keys_none (c ∷ ks) (None ∷ os) h = keys_none ks os (λ r. h (suc r))
  keys_none (c ∷ ks) (Some x ∷ os) h = at_other k (c, x) (with_keys ks os) (h 0 refl) ∙ keys_none ks os (λ r. h (suc r))

  keys_child : (ks : List ℕ) (os : List (Option X)) (p : ℕ) (x : X) → p < length ks → get_or ks p 0 ≡ k
      → get_or os p None ≡ Some x
      → ((r : ℕ) → is_used os r ≡ true → get_or ks r 0 ≡ k → r ≡ p) → child_at k (with_keys ks os) ≡ Some x
  keys_child [] os p x h e f one = absurd (omega arith)
  keys_child (c ∷ ks) [] p x h e f one = absurd (none_some f)
  keys_child (c ∷ ks) (None ∷ os) zero x h e f one = absurd (none_some f)
  keys_child (c ∷ ks) (Some y ∷ os) zero x h e f one = at_same k (c, y) (with_keys ks os) e ∙ f
  keys_child (c ∷ ks) (None ∷ os) (suc p) x h e f one
      = keys_child ks os p x (omega arith) e f (λ r u g. let s : suc r ≡ suc p = one (suc r) u g in omega (arith, s))
  keys_child (c ∷ ks) (Some y ∷ os) (suc p) x h e f one =
      at_other k (c, y) (with_keys ks os) (λ g. let s : 0 ≡ suc p = one 0 refl g in omega (arith, s))
      ∙ keys_child ks os p x (omega arith) e f (λ r u g. let s : suc r ≡ suc p = one (suc r) u g in omega (arith, s))

  -- one slot is changed, and no other used one has the key
  module _ (o : Option X) (key' : ℕ) (holds : is_filled o ≡ true → key' ≡ k) (b : ℕ) where
    one_slot : (c : ℕ) (a : Option X) (ks : List ℕ) (os : List (Option X)) → (is_filled a ≡ true → c ≡ k)
        → (k ≡ b → child_at b (with_keys ks os) ≡ None)
        → child_at b (with_keys (c ∷ ks) (a ∷ os)) ≡ cond (eqb k b) a (child_at b (with_keys ks os))
    one_slot c None ks os was none = ⊎_elim
        (λ t. none t.1 ∙ sym (ap (λ z. cond z None (child_at b (with_keys ks os))) t.0))
        (λ t. sym (ap (λ z. cond z None (child_at b (with_keys ks os))) t.0))
        (eqb_tells k b)
    one_slot c (Some y) ks os was none = ap (λ n. cond (eqb n b) (Some y) (child_at b (with_keys ks os))) (was refl)

    twice : (z : Bool) (a r : Option X) → cond z o r ≡ cond z o (cond z a r)
    twice true a r = refl
    twice false a r = refl

    slot_changed : (ks : List ℕ) (os : List (Option X)) (q : ℕ) → q < length ks → q < length os
        → ((r : ℕ) → r ≢ q → is_used os r ≡ true → get_or ks r 0 ≡ k → ⊥) → (is_used os q ≡ true → get_or ks q 0 ≡ k)
        → child_at b (with_keys (set ks q key') (set os q o)) ≡ cond (eqb k b) o (child_at b (with_keys ks os))
    slot_changed [] os q h h' alone was = absurd (omega arith)
    slot_changed (c ∷ ks) [] q h h' alone was = absurd (omega arith)
    slot_changed (c ∷ ks) (a ∷ os) zero h h' alone was =
        let none : k ≡ b → child_at b (with_keys ks os) ≡ None
        = λ e. ap (λ n. child_at n (with_keys ks os)) (sym e)
        ∙ keys_none ks os (λ r. alone (suc r) (λ z. omega (arith, z))) in
        one_slot key' o ks os holds none ∙ twice (eqb k b) a (child_at b (with_keys ks os))
        ∙ ap (cond (eqb k b) o) (sym (one_slot c a ks os was none))
    slot_changed (c ∷ ks) (None ∷ os) (suc q) h h' alone was
        = slot_changed ks os q (omega arith) (omega arith) (λ r n. alone (suc r) (λ z. n (omega (arith, z)))) was
    slot_changed (c ∷ ks) (Some y ∷ os) (suc q) h h' alone was =
        let other : c ≢ k = alone 0 (λ z. omega (arith, z)) refl in
        let rest = child_at b (with_keys ks os) in
        ap (cond (eqb c b) (Some y)) (slot_changed ks os q (omega arith) (omega arith)
        (λ r n. alone (suc r) (λ z. n (omega (arith, z)))) was) ∙ ⊎_elim
        (λ t. ap (λ z. cond (eqb c b) (Some y) (cond z o rest)) t.0
        ∙ ap (λ z. cond z (Some y) o) (ne_eqb c b (λ e. other (e ∙ sym t.1)))
        ∙ sym (ap (λ z. cond z o (cond (eqb c b) (Some y) rest)) t.0))
        (λ t. ap (λ z. cond (eqb c b) (Some y) (cond z o rest)) t.0
        ∙ sym (ap (λ z. cond z o (cond (eqb c b) (Some y) rest)) t.0))
        (eqb_tells k b)

-- ---- no two children have one byte
keys_once : {X : Type 0} (ks : List ℕ) (os : List (Option X))
    → ((i j : ℕ) → is_used os i ≡ true → is_used os j ≡ true → get_or ks i 0 ≡ get_or ks j 0 → i ≡ j)
    → AreEachOnce (with_keys ks os)
keys_once [] os apart = tt
keys_once (c ∷ ks) [] apart = tt
keys_once (c ∷ ks) (None ∷ os) apart = keys_once ks os (λ i j u v e. let s : suc i ≡ suc j
    = apart (suc i) (suc j) u v e in omega (arith, s))
keys_once (c ∷ ks) (Some x ∷ os) apart = (
  keys_none c ks os (λ r u e. let s : suc r ≡ 0 = apart (suc r) 0 u refl e in omega (arith, s)),
  keys_once ks os (λ i j u v e. let s : suc i ≡ suc j = apart (suc i) (suc j) u v e in omega (arith, s)),
)

pub slots_ascend : {X : Type 0} {ks : List ℕ} {os : List (Option X)} → IsSlots ks os
    → BytesAscend (sorted_entries (with_keys ks os))
slots_ascend {ks = ks} {os = os} s = ascending-ascends (with_keys ks os) (keys_once ks os s.apart)

set_here : (xs : List ℕ) (i x : ℕ) → i < length xs → get_or xs i 0 ≡ x → set xs i x ≡ xs
set_here [] i x h e = refl
set_here (y ∷ xs) zero x h e = ap (λ z. z ∷ xs) (sym e)
set_here (y ∷ xs) (suc i) x h e = ap (λ l. y ∷ l) (set_here xs i x (omega arith) e)

both : (a b : Bool) → (a && b) ≡ true → (a ≡ true) × (b ≡ true)
both true b e = (refl, e)
both false b e = absurd (false≢true e)

or_true : (a b : Bool) → b ≡ true → (a || b) ≡ true
or_true true b e = refl
or_true false b e = e

used_or_free : (b : Bool) (P : Type 0) → (b ≡ true → P) → (b ≡ false → P) → P
used_or_free true P f g = f refl
used_or_free false P f g = g refl

module _ {X : Type 0} {ks : List ℕ} {os : List (Option X)} (s : IsSlots ks os) where
  held_used : (key p : ℕ) → p < length os → is_held ks key (is_used os) p ≡ true → (get_or ks p 0 ≡ key)
      × (is_used os p ≡ true)
  held_used key p h e =
      let t = both (eqb (get_or ks p 0) key) (not (eqb key 255) || is_used os p) e in
      let same : get_or ks p 0 ≡ key = ⊎_elim (λ y. y.1) (λ n. absurd (false≢true (sym n.0 ∙ t.0)))
      (eqb_tells (get_or ks p 0) key) in (
        same,
        used_or_free (is_used os p) _ (λ u. u) (λ f.
            let last : key ≡ 255 = sym same ∙ s.free p h f in
            ap (λ c. not c || is_used os p) (sym (eq-eqb key 255 last)) ∙ t.1),
      )

  -- the key of a used slot
  pub keyed_at : (key p : ℕ) (x : X) → get_or ks p 0 ≡ key → get_or os p None ≡ Some x → is_used os p ≡ true
      → child_at key (sorted_entries (with_keys ks os)) ≡ Some x
  keyed_at key p x e f u =
      child_at-ascending (with_keys ks os) key
      ∙ keys_child key ks os p x (omega (arith, used_place os p u, s.whole)) e f (λ r v g. s.apart r p v u (g ∙ sym e))

  pub keyed_some : (key p : ℕ) → p < length os → is_held ks key (is_used os) p ≡ true
      → (x : X) × ((get_or ks p 0 ≡ key) × (is_used os p ≡ true) × (get_or os p None ≡ Some x)
      × (child_at key (sorted_entries (with_keys ks os)) ≡ Some x))
  keyed_some key p h e =
      let t = held_used key p h e in
      let x = used_read os p t.1 in
      (x.0, (t.0, t.1, x.1, keyed_at key p x.0 t.0 x.1 t.1))

  pub keyed_absent : (key : ℕ) → ((k : ℕ) → get_or ks k 0 ≡ key → ⊥) → child_at key
      (sorted_entries (with_keys ks os)) ≡ None
  keyed_absent key none = child_at-ascending (with_keys ks os) key ∙ keys_none key ks os (λ r u e. none r e)

  pub keyed_none : (key : ℕ) → ((k : ℕ) → k < length os → is_held ks key (is_used os) k ≡ false)
      → child_at key (sorted_entries (with_keys ks os)) ≡ None
  keyed_none key none =
      child_at-ascending (with_keys ks os) key
      ∙ keys_none key ks os (λ r u e. false≢true (sym (none r (used_place os r u))
      ∙ ap (λ c. c && (not (eqb key 255) || is_used os r)) (eq-eqb (get_or ks r 0) key e)
      ∙ or_true (not (eqb key 255)) (is_used os r) u))

  -- a byte with no child is the key of no used slot
  absent_key : (key : ℕ) → child_at key (sorted_entries (with_keys ks os)) ≡ None → (r : ℕ) → is_used os r ≡ true
      → get_or ks r 0 ≡ key → ⊥
  absent_key key absent r u e = let x = used_read os r u in none_some (sym absent ∙ keyed_at key r x.0 e x.1 u)

  -- a child was put into a free slot
  module _ (key p : ℕ) (x : X) (h : p < length os) (free : is_used os p ≡ false)
      (absent : child_at key (sorted_entries (with_keys ks os)) ≡ None) where
    within : p < length ks
    within = omega (arith, h, s.whole)

    new_key : get_or (set ks p key) p 0 ≡ key
    new_key = get_or-set_same ks p key 0 within

    old_key : (r : ℕ) → r ≢ p → get_or (set ks p key) r 0 ≡ get_or ks r 0
    old_key r n = get_or-set_other ks p r key 0 n

    still_used : (r : ℕ) → r ≢ p → is_used (set os p (Some x)) r ≡ true → is_used os r ≡ true
    still_used r n u = sym (ap (λ c. c || is_used os r) (ne_eqb r p n)) ∙ sym (used_with os p x r h) ∙ u

    slots_put : IsSlots (set ks p key) (set os p (Some x))
    slots_put = record {
      whole = length-set ks p key ∙ s.whole ∙ sym (length-set os p (Some x));
      apart = λ i j u v e. ⊎_elim
          (λ a. ⊎_elim
          (λ b. a.1 ∙ sym b.1)
          (λ b. absurd (absent_key key absent j (still_used j b.1 v) (sym (old_key j b.1) ∙ sym e
          ∙ ap (λ m. get_or (set ks p key) m 0) a.1 ∙ new_key)))
          (eqb_tells j p))
          (λ a. ⊎_elim
          (λ b. absurd (absent_key key absent i (still_used i a.1 u) (sym (old_key i a.1) ∙ e
          ∙ ap (λ m. get_or (set ks p key) m 0) b.1 ∙ new_key)))
          (λ b. s.apart i j (still_used i a.1 u) (still_used j b.1 v) (sym (old_key i a.1) ∙ e ∙ old_key j b.1))
          (eqb_tells j p))
          (eqb_tells i p);
      free = λ i l f. ⊎_elim
          (λ a. absurd (false≢true (sym f ∙ used_with os p x i h ∙ ap (λ c. c || is_used os i) a.0)))
          (λ a. old_key i a.1 ∙ s.free i (omega (arith, l, length-set os p (Some x)))
          (sym (ap (λ c. c || is_used os i) a.0) ∙ sym (used_with os p x i h) ∙ f))
          (eqb_tells i p);
    }

    pub keyed_put : sorted_entries (with_keys (set ks p key) (set os p (Some x)))
        ≡ with_entry key x (sorted_entries (with_keys ks os))
    keyed_put = same_lookups _ _ (slots_ascend slots_put) (with_entry-ascends key x _ (slots_ascend s)) (λ b.
        child_at-ascending (with_keys (set ks p key) (set os p (Some x))) b
        ∙ slot_changed key (Some x) key (λ _. refl) b ks os p within h (λ r n. absent_key key absent r)
        (λ u. absurd (false≢true (sym free ∙ u)))
        ∙ ap (cond (eqb key b) (Some x)) (sym (child_at-ascending (with_keys ks os) b))
        ∙ sym (child_at-with_entry key x (sorted_entries (with_keys ks os)) b))

  -- at a used slot and its key
  module _ (key p : ℕ) (x : X) (e : get_or ks p 0 ≡ key) (u : is_used os p ≡ true) (f : get_or os p None ≡ Some x) where
    here : p < length os
    here = used_place os p u

    alone : (r : ℕ) → r ≢ p → is_used os r ≡ true → get_or ks r 0 ≡ key → ⊥
    alone r n v g = n (s.apart r p v u (g ∙ sym e))

    left : (r : ℕ) → is_used (set os p None) r ≡ true → (is_used os r ≡ true) × (r ≢ p)
    left r v = ⊎_elim
        (λ t. absurd (false≢true (sym (ap (λ c. not c && is_used os r) t.0) ∙ sym (used_without os p r) ∙ v)))
        (λ t. (sym (ap (λ c. not c && is_used os r) t.0) ∙ sym (used_without os p r) ∙ v, t.1))
        (eqb_tells r p)

    slots_taken : IsSlots (set ks p 255) (set os p None)
    slots_taken = record {
      whole = length-set ks p 255 ∙ s.whole ∙ sym (length-set os p None);
      apart = λ i j v w g. let a = left i v in let b = left j w in
          s.apart i j a.0 b.0 (sym (get_or-set_other ks p i 255 0 a.1) ∙ g ∙ get_or-set_other ks p j 255 0 b.1);
      free = λ i l g. ⊎_elim
          (λ t. ap (λ m. get_or (set ks p 255) m 0) t.1 ∙ get_or-set_same ks p 255 0 (omega (arith, here, s.whole)))
          (λ t. get_or-set_other ks p i 255 0 t.1 ∙ s.free i (omega (arith, l, length-set os p None))
          (sym (ap (λ c. not c && is_used os i) t.0) ∙ sym (used_without os p i) ∙ g))
          (eqb_tells i p);
    }

    pub keyed_taken : sorted_entries (with_keys (set ks p 255) (set os p None))
        ≡ without_byte key (sorted_entries (with_keys ks os))
    keyed_taken = same_lookups _ _ (slots_ascend slots_taken) (without_byte-ascends key _ (slots_ascend s)) (λ b.
        child_at-ascending (with_keys (set ks p 255) (set os p None)) b
        ∙ slot_changed key None 255 (λ z. absurd (false≢true z)) b ks os p (omega (arith, here, s.whole)) here alone
        (λ _. e)
        ∙ ap (cond (eqb key b) None) (sym (child_at-ascending (with_keys ks os) b))
        ∙ sym (child_at-without_byte key (sorted_entries (with_keys ks os)) (slots_ascend s) b))

    -- another child in the slot
    module _ (w : X) where
      same_used : (r : ℕ) → is_used (set os p (Some w)) r ≡ is_used os r
      same_used r = used_with os p w r here ∙ ⊎_elim
          (λ t. ap (λ c. c || is_used os r) t.0 ∙ sym (ap (is_used os) t.1 ∙ u))
          (λ t. ap (λ c. c || is_used os r) t.0)
          (eqb_tells r p)

      slots_written : IsSlots ks (set os p (Some w))
      slots_written = record {
        whole = s.whole ∙ sym (length-set os p (Some w));
        apart = λ i j v t g. s.apart i j (sym (same_used i) ∙ v) (sym (same_used j) ∙ t) g;
        free = λ i l g. s.free i (omega (arith, l, length-set os p (Some w))) (sym (same_used i) ∙ g);
      }

      pub keyed_written : sorted_entries (with_keys ks (set os p (Some w))) ≡ replaced_at key w
          (sorted_entries (with_keys ks os))
      keyed_written =
          let same : set ks p key ≡ ks = set_here ks p key (omega (arith, here, s.whole)) e in
          same_lookups _ _ (slots_ascend slots_written) (replaced-ascends key w _ (slots_ascend s)) (λ b.
          child_at-ascending (with_keys ks (set os p (Some w))) b
          ∙ ap (λ l. child_at b (with_keys l (set os p (Some w)))) (sym same)
          ∙ slot_changed key (Some w) key (λ _. refl) b ks os p (omega (arith, here, s.whole)) here alone (λ _. e)
          ∙ ap (cond (eqb key b) (Some w)) (sym (child_at-ascending (with_keys ks os) b))
          ∙ sym (child_at-replaced key w x (sorted_entries (with_keys ks os)) (keyed_at key p x e f u) b))

-- ---- with the count
-- as many children as slots, where no slot is free
all_used : {X : Type 0} (n : ℕ) (os : List (Option X)) → ((q : ℕ) → q < length os → not (is_used os q) ≡ false)
    → length (numbered_values n os) ≡ length os
all_used n [] h = refl
all_used n (None ∷ os) h = absurd (false≢true (sym (h 0 (omega arith))))
all_used n (Some x ∷ os) h = omega (arith, all_used (suc n) os (λ q l. h (suc q) (omega arith)))

module _ {X : Type 0} {width : ℕ} {ks : List ℕ} {os : List (Option X)} {count : ℕ} (m : IsKeyed width ks os count) where
  pub mapping_put : (key p : ℕ) (x : X) → p < width → is_used os p ≡ false → child_at key
      (sorted_entries (with_keys ks os))
      ≡ None → IsKeyed width (set ks p key) (set os p (Some x)) (count + 1)
  mapping_put key p x h free absent =
      let h' : p < length os = omega (arith, h, m.full) in
      record {
        full = length-set os p (Some x) ∙ m.full;
        narrow = m.narrow;
        slots = slots_put m.slots key p x h' free absent;
        counted = ap (λ n. n + 1) m.counted ∙ sym (ap length (numbered-put os p h' x)
            ∙ length-with_entry p x (numbered_values 0 os) (numbered_child os p ∙ free_read os p free));
        entries = ap (λ n. n + 1) m.entries ∙ sym (ap length (keyed_put m.slots key p x h' free absent)
            ∙ length-with_entry key x _ absent);
      }

  module _ (key p : ℕ) (x : X) (e : get_or ks p 0 ≡ key) (u : is_used os p ≡ true) (f : get_or os p None ≡ Some x) where
    pub some_left : count ≡ length (sorted_entries (with_keys (set ks p 255) (set os p None))) + 1
    some_left = m.entries ∙ length-without_byte key x _ (keyed_at m.slots key p x e f u)
        ∙ ap (λ es. length es + 1) (sym (keyed_taken m.slots key p x e u f))

    pub mapping_taken : IsKeyed width (set ks p 255) (set os p None) (count - 1)
    mapping_taken = record {
      full = length-set os p None ∙ m.full;
      narrow = m.narrow;
      slots = slots_taken m.slots key p x e u f;
      counted = omega (
        arith,
        m.counted,
        length-without_byte p x (numbered_values 0 os) (numbered_child os p ∙ f),
        ap length
            (numbered-taken os p (used_place os p u)),
      );
      entries = omega (arith, some_left);
    }

    pub mapping_written : (w : X) → IsKeyed width ks (set os p (Some w)) count
    mapping_written w = record {
      full = length-set os p (Some w) ∙ m.full;
      narrow = m.narrow;
      slots = slots_written m.slots key p x e u f w;
      counted = m.counted ∙ sym (ap length (numbered-written os p (used_place os p u) x w f)
          ∙ length-replaced p w (numbered_values 0 os));
      entries = m.entries ∙ sym (ap length (keyed_written m.slots key p x e u f w) ∙ length-replaced key w _);
    }

  pub place_left : count < width → ((q : ℕ) → q < width → not (is_used os q) ≡ false) → ⊥
  place_left h none = omega (arith, h, m.counted, m.full, all_used 0 os (λ q l. none q (omega (arith, l, m.full))))

pub keyed_few : {X : Type 0} {width : ℕ} {ks : List ℕ} {os : List (Option X)} {count : ℕ} → IsKeyed width ks os count
    → length (sorted_entries (with_keys ks os)) ≤ width
keyed_few {X = X} {width = width} {ks = ks} {os = os} m
    = omega (arith, m.entries, m.counted, m.full, length-numbered 0 os)

-- ---- the empty mapping
no_keys : {X : Type 0} (ks : List ℕ) (n : ℕ) → with_keys {X = X} ks (replicate n None) ≡ []
no_keys [] n = refl
no_keys (k ∷ ks) zero = refl
no_keys (k ∷ ks) (suc n) = no_keys ks n

pub keyed_empty : (X : Type 0) (ks : List ℕ) (n : ℕ) → sorted_entries (with_keys {X = X} ks (replicate n None)) ≡ []
keyed_empty X ks n = ap sorted_entries (no_keys {X = X} ks n)

repeated : (n i k : ℕ) → i < n → get_or (replicate n k) i 0 ≡ k
repeated zero i k h = absurd (omega arith)
repeated (suc n) zero k h = refl
repeated (suc n) (suc i) k h = repeated n i k (omega arith)

pub keyed_start : (X : Type 0) (width : ℕ) → width ≤ 255
    → IsKeyed {X = X} width (replicate width 255) (replicate width None) 0
keyed_start X width narrow = record {
  full = length-replicate {A = Option X} width None;
  narrow = narrow;
  slots = record {
    whole = length-replicate {A = ℕ} width 255 ∙ sym (length-replicate {A = Option X} width None);
    apart = λ i j u v e. absurd (false≢true (sym (none_used X width i) ∙ u));
    free = λ i l f. repeated width i 255 (omega (arith, l, length-replicate {A = Option X} width None));
  };
  counted = sym (ap length (numbered-free X 0 width));
  entries = sym (ap length (keyed_empty X (replicate width 255) width));
}

-- ---- a mapping with no used slot
pub keyed_unused : {X : Type 0} {width : ℕ} {ks : List ℕ} {os : List (Option X)} {count : ℕ} → IsKeyed width ks os count
    → ((q : ℕ) → q < width → is_used os q ≡ false) → sorted_entries (with_keys ks os) ≡ []
keyed_unused {X = X} {width = width} {ks = ks} {os = os} m none
    = ap (λ l. sorted_entries (with_keys ks l)) (all_free os width m.full none) ∙ keyed_empty X ks width

pub keyed_valueless : {X : Type 0} {width : ℕ} {ks : List ℕ} {os : List (Option X)} {count : ℕ}
    → IsKeyed width ks os count → sorted_entries (with_keys ks os) ≡ [] → values_in os ≡ []
keyed_valueless {os} w h = numbered_valueless 0 os
    (no_items (numbered_values 0 os) (omega (arith, sym w.counted ∙ w.entries, ap length h)))
