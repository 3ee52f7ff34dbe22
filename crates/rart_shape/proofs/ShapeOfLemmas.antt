-- A list of records that has those of more and more strings, until it is the shape.
use Rattle.std.proofs.Common.{◌≡◌, ℕ, ◌+◌, ◌<◌, ◌≤◌, ◌==◌, ◌||◌, ⊎_elim, zero, suc, Bool, true, false, List, [], ◌∷◌}
use Rattle.std.proofs.Common.{◌++◌, length, take, get_or, refl, sym, ap, ◌∙◌, arith, Option, Some, None, if◌then◌else◌}
use Rattle.std.specs.Borrow.{Bor}
use Rattle.std.proofs.Math.Numerals.{add-one}
use Rattle.std.specs.List.{filter_map}
use Rattle.std.proofs.Math.Seq.{take-suc, take-length}
use Rattle.std.proofs.lemmas.List.{map-append}
use Rattle.std.proofs.lemmas.List.Folds.{list_any-append}
use Rattle.std.proofs.Math.Bool.{or-false, or_assoc}
use Rattle.rart_keys.specs.ByteStrings.{bytes_eq, begins, byte_after}
use Rattle.rart_keys.specs.SortedMap.{IsAscending, lookup, put}
use Rattle.rart_keys.proofs.strings.ByteOrder.{eq-yes, eq-no, equal_or_not, bytes_eq-equal}
use Rattle.rart_keys.proofs.maps.SortedMaps.{ascending-put, lookup-put}
use Rattle.rart_trie.specs.shapes.BranchPoints.{begins_any}
use Rattle.rart_trie.specs.shapes.Shape.{contains_key, NodeRecord, record_at, HasShape}
use Rattle.rart_shape.specs.ShapeRecords.{put_some}
use Rattle.rart_trie.specs.shapes.KeyLists.{keys_in}

-- rs has the records of the strings that were seen, and no other
pub record Covers (s : List (List ℕ)) (seen : List ℕ → Bool) (rs : List (List ℕ × NodeRecord)) : Type 0 where
  pub ascending : IsAscending rs
  pub each : (p : List ℕ) → lookup p rs ≡ (if seen p then record_at s p else None)

-- p is one of the beginnings of k that are shorter than n
abbrev pub is_short : ℕ → List ℕ → List ℕ → Bool
is_short zero p k = false
is_short (suc n) [] k = true
is_short (suc n) (x ∷ p) [] = false
is_short (suc n) (x ∷ p) (y ∷ k) = if x == y then is_short n p k else false

short-more : (n : ℕ) (p k : List ℕ) → n ≤ length k → is_short (suc n) p k ≡ (is_short n p k || bytes_eq (take n k) p)
short-more zero [] k h = refl
short-more zero (x ∷ p) [] h = refl
short-more zero (x ∷ p) (y ∷ k) h = ⊎_elim (λ e. rw (eq-yes x y e) refl) (λ n. rw (eq-no x y n) refl) (equal_or_not x y)
short-more (suc n) [] [] h = absurd (omega arith)
short-more (suc n) [] (y ∷ k) h = refl
short-more (suc n) (x ∷ p) [] h = absurd (omega arith)
short-more (suc n) (x ∷ p) (y ∷ k) h = ⊎_elim
    (λ e. rw (eq-yes x y e, eq-yes y x (sym e)) (short-more n p k (omega arith)))
    (λ m. rw (eq-no x y m, eq-no y x (λ e. m (sym e))) refl) (equal_or_not x y)

short-whole : (p k : List ℕ) → is_short (suc (length k)) p k ≡ begins p k
short-whole [] k = refl
short-whole (x ∷ p) [] = refl
short-whole (x ∷ p) (y ∷ k) = ⊎_elim (λ e. rw (eq-yes x y e) (short-whole p k)) (λ n. rw (eq-no x y n) refl)
    (equal_or_not x y)

-- a string that begins no key has no record
not-equal : (p k : List ℕ) → begins p k ≡ false → bytes_eq k p ≡ false
not-equal [] k h = cc
not-equal (x ∷ p) [] h = refl
not-equal (x ∷ p) (y ∷ k) h = ⊎_elim
    (λ e. rw (eq-yes y x (sym e)) (not-equal p k (rw (eq-yes x y e) at h)))
    (λ n. rw (eq-no y x (λ e. n (sym e))) refl) (equal_or_not x y)

not-after : (p k : List ℕ) → begins p k ≡ false → byte_after p k ≡ None
not-after [] k h = cc
not-after (x ∷ p) [] h = refl
not-after (x ∷ p) (y ∷ k) h = ⊎_elim
    (λ e. rw (eq-yes y x (sym e)) (not-after p k (rw (eq-yes x y e) at h)))
    (λ n. rw (eq-no y x (λ e. n (sym e))) refl) (equal_or_not x y)

or-left : (a b : Bool) → (a || b) ≡ false → a ≡ false
or-left true b h = h
or-left false b h = refl

or-right : (a b : Bool) → (a || b) ≡ false → b ≡ false
or-right true b h = cc
or-right false b h = h

none-equal : (p : List ℕ) (s : List (List ℕ)) → begins_any p s ≡ false → contains_key s p ≡ false
none-equal p [] h = refl
none-equal p (k ∷ s) h = rw (not-equal p k (or-left (begins p k) (begins_any p s) h))
    (none-equal p s (or-right (begins p k) (begins_any p s) h))

none-after : (p : List ℕ) (s : List (List ℕ)) → begins_any p s ≡ false → filter_map (byte_after p) s ≡ []
none-after p [] h = refl
none-after p (k ∷ s) h = rw (not-after p k (or-left (begins p k) (begins_any p s) h))
    (none-after p s (or-right (begins p k) (begins_any p s) h))

record-begins : (p : List ℕ) (s : List (List ℕ)) → begins_any p s ≡ false → record_at s p ≡ None
record-begins p s h = rw (none-equal p s h, none-after p s h) refl

covers-as : (s : List (List ℕ)) (f g : List ℕ → Bool) (rs : List (List ℕ × NodeRecord)) → ((p : List ℕ) → f p ≡ g p)
    → Covers s f rs → Covers s g rs
covers-as s f g rs e c = record {
  ascending = c.ascending;
  each = λ p. c.each p
      ∙ ap (λ b. if b then record_at s p else None) (e p);
}

skip-each : (b t : Bool) (o l : Option NodeRecord) → (t ≡ true → o ≡ None) → l ≡ (if b then o else None)
    → l ≡ (if b || t then o else None)
skip-each true t o l n e = e
skip-each false true o l n e = e ∙ sym (n refl)
skip-each false false o l n e = e

covers-skip : (s : List (List ℕ)) (seen : List ℕ → Bool) (q : List ℕ) (rs : List (List ℕ × NodeRecord))
    → record_at s q ≡ None → Covers s seen rs → Covers s (λ p. seen p || bytes_eq q p) rs
covers-skip s seen q rs n c = record {
  ascending = c.ascending;
  each = λ p. skip-each (seen p) (bytes_eq q p) (record_at s p) (lookup p rs)
      (λ t. ap (record_at s) (sym (bytes_eq-equal q p t)) ∙ n) (c.each p);
}

put-each : (b t : Bool) (o l : Option NodeRecord) (r : NodeRecord) → (t ≡ true → o ≡ Some r)
    → l ≡ (if b then o else None) → (if t then Some r else l) ≡ (if b || t then o else None)
put-each true true o l r n e = sym (n refl)
put-each true false o l r n e = e
put-each false true o l r n e = sym (n refl)
put-each false false o l r n e = e

covers-put : (s : List (List ℕ)) (seen : List ℕ → Bool) (q : List ℕ) (r : NodeRecord) (rs : List (List ℕ × NodeRecord))
    → record_at s q ≡ Some r → Covers s seen rs → Covers s (λ p. seen p || bytes_eq q p) (put q r rs)
covers-put s seen q r rs n c = record {
  ascending = ascending-put q r rs c.ascending;
  each = λ p. lookup-put p q r rs ∙ put-each (seen p) (bytes_eq q p) (record_at s p) (lookup p rs) r
      (λ t. ap (record_at s) (sym (bytes_eq-equal q p t)) ∙ n) (c.each p);
}

one-length : (d : List (List ℕ)) (k : List ℕ) (n : ℕ) → n ≤ length k → (p : List ℕ)
    → ((begins_any p d || is_short n p k) || bytes_eq (take n k) p) ≡ (begins_any p d || is_short (suc n) p k)
one-length d k n h p = or_assoc (begins_any p d) (is_short n p k) (bytes_eq (take n k) p)
    ∙ ap (λ b. begins_any p d || b) (sym (short-more n p k h))

covers-found : (s : List (List ℕ)) (seen : List ℕ → Bool) (q : List ℕ) (rs : List (List ℕ × NodeRecord))
    (o : Option NodeRecord) → record_at s q ≡ o → Covers s seen rs
    → Covers s (λ p. seen p || bytes_eq q p) (put_some q o rs)
covers-found s seen q rs None e c = covers-skip s seen q rs e c
covers-found s seen q rs (Some r) e c = covers-put s seen q r rs e c

lengths-step : (s d : List (List ℕ)) (k : List ℕ) (n : ℕ) (rs : List (List ℕ × NodeRecord)) → n ≤ length k →
    Covers s (λ p. begins_any p d || is_short n p k) rs
    → Covers s (λ p. begins_any p d || is_short (n + 1) p k) (put_some (take n k) (record_at s (take n k)) rs)
lengths-step s d k n rs h c = covers-as s (λ p. (begins_any p d || is_short n p k) || bytes_eq (take n k) p)
    (λ p. begins_any p d || is_short (n + 1) p k) (put_some (take n k) (record_at s (take n k)) rs)
    (λ p. one-length d k n h p ∙ ap (λ m. begins_any p d || is_short m p k) (sym (add-one n)))
    (covers-found s (λ p. begins_any p d || is_short n p k) (take n k) rs (record_at s (take n k)) refl c)

pub lengths-done : (s d : List (List ℕ)) (k : List ℕ) (n : ℕ) (q : List ℕ) (rs new : List (List ℕ × NodeRecord))
    → n ≤ length k → q ≡ take n k → new ≡ put_some q (record_at s q) rs →
    Covers s (λ p. begins_any p d || is_short n p k) rs → Covers s (λ p. begins_any p d || is_short (n + 1) p k) new
lengths-done s d k n q rs new h e f c = rw (f, e) (lengths-step s d k n rs h c)

begins_any-last : (p : List ℕ) (d : List (List ℕ)) (k : List ℕ)
    → begins_any p (d ++ k ∷ []) ≡ (begins_any p d || begins p k)
begins_any-last p d k = list_any-append (λ k. begins p k) d (k ∷ [])
    ∙ ap (λ b. begins_any p d || b) (or-false (begins p k))

keys-more : (ks : List (Bor (List ℕ))) (i : ℕ) (d : Bor (List ℕ)) → i < length ks
    → keys_in (take (i + 1) ks) ≡ keys_in (take i ks) ++ (get_or ks i d).now ∷ []
keys-more ks i d h = ap (λ j. keys_in (take j ks)) (add-one i) ∙ ap keys_in (take-suc ks i d h)
    ∙ map-append (λ z. z.now) (take i ks) (get_or ks i d ∷ [])

pub keys-step : (s : List (List ℕ)) (ks : List (Bor (List ℕ))) (i n : ℕ) (d : Bor (List ℕ)) (k : List ℕ)
    (rs : List (List ℕ × NodeRecord)) → i < length ks → k ≡ (get_or ks i d).now → n ≡ suc (length k) →
    Covers s (λ p. begins_any p (keys_in (take i ks)) || is_short n p k) rs
    → Covers s (λ p. begins_any p (keys_in (take (i + 1) ks))) rs
keys-step s ks i n d k rs h e l c = covers-as s (λ p. begins_any p (keys_in (take i ks)) || is_short n p k)
    (λ p. begins_any p (keys_in (take (i + 1) ks))) rs
    (λ p. ap (λ b. begins_any p (keys_in (take i ks)) || b) (ap (λ n. is_short n p k) l ∙ short-whole p k
    ∙ ap (begins p) e) ∙ sym (ap (begins_any p) (keys-more ks i d h)
    ∙ begins_any-last p (keys_in (take i ks)) (get_or ks i d).now)) c

whole-each : (b : Bool) (o : Option NodeRecord) → (b ≡ false → o ≡ None) → (if b then o else None) ≡ o
whole-each true o n = refl
whole-each false o n = sym (n refl)

pub covers-whole : (ks : List (Bor (List ℕ))) (i : ℕ) (rs : List (List ℕ × NodeRecord)) → i ≡ length ks
    → Covers (keys_in ks) (λ p. begins_any p (keys_in (take i ks))) rs → HasShape (keys_in ks) rs
covers-whole ks i rs e c = let w = covers-as (keys_in ks) (λ p. begins_any p (keys_in (take i ks)))
    (λ p. begins_any p (keys_in ks)) rs (λ p. ap (λ z. begins_any p (keys_in z)) (ap (λ j. take j ks) e
    ∙ take-length ks)) c in record {
      ascending = w.ascending;
      each = λ p. w.each p ∙ whole-each (begins_any p (keys_in ks)) (record_at (keys_in ks) p)
          (record-begins p (keys_in ks));
    }
