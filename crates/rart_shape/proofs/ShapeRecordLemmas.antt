-- The shape as a plain program computes it.
use Rattle.std.proofs.Common.{◌≡◌, ℕ, ◌+◌, ◌-◌, ◌<◌, ◌==◌, ⊎_elim, zero, suc, true, false, not, List, [], ◌∷◌, ◌++◌}
use Rattle.std.proofs.Common.{length, take, drop, get_or, nat_eq, refl, sym, ap, ◌∙◌, arith, Option, Some, None, Less}
use Rattle.std.proofs.Common.{Equal, Greater, if◌then◌else◌, set}
use Rattle.std.specs.Prelude.{slice_get, insert}
use Rattle.std.specs.Option.{option_eq}
use Rattle.std.proofs.Math.Numerals.{add-one}
use Rattle.std.specs.Borrow.{Bor}
use Rattle.std.specs.List.{filter_map, cons_option}
use Rattle.std.specs.Ordering.{nat_cmp}
use Rattle.std.specs.Cmp.Lexicographic.{slice_cmp, pointwise}
use Rattle.std.proofs.Math.Seq.{take-suc, drop-cons}
use Rattle.std.proofs.lemmas.List.{map-append, append-nil}
use Rattle.std.proofs.lemmas.List.Elements.{filter_map-append}
use Rattle.rart_keys.specs.ByteStrings.{bytes_eq, byte_after}
use Rattle.rart_keys.specs.SortedMap.{put}
use Rattle.rart_keys.proofs.strings.ByteOrder.{eq-yes, eq-no, equal_or_not}
use Rattle.rart_shape.specs.declared.ShapeRecord.{ShapeRecord}
use Rattle.rart_trie.specs.shapes.Shape.{with_first, without_repeats, next_bytes, contains_key}
use Rattle.rart_shape.specs.ShapeRecords.{node_record, records_of}
use Rattle.rart_trie.specs.shapes.KeyLists.{keys_in}

-- the byte after a path
pub after-none : (p k : List ℕ) → pointwise nat_eq (take (length p) k) p ≡ false → byte_after p k ≡ None
after-none [] k h = cc
after-none (x ∷ p) [] h = refl
after-none (x ∷ p) (y ∷ k) h = ⊎_elim (λ e. rw (eq-yes y x e) (after-none p k (rw (eq-yes y x e) at h)))
    (λ n. rw (eq-no y x n) refl) (equal_or_not y x)

pub after-some : (p k : List ℕ) → pointwise nat_eq (take (length p) k) p ≡ true
    → byte_after p k ≡ slice_get (drop (length p) k) 0
after-some [] [] h = refl
after-some [] (y ∷ k) h = refl
after-some (x ∷ p) [] h = cc
after-some (x ∷ p) (y ∷ k) h = ⊎_elim (λ e. rw (eq-yes y x e) (after-some p k (rw (eq-yes y x e) at h))) (λ n. let f
    = rw (eq-no y x n) at h in cc) (equal_or_not y x)

-- whether a path is one of the keys
same_test : (k p : List ℕ) → bytes_eq k p ≡ pointwise nat_eq k p
same_test [] [] = refl
same_test [] (x ∷ p) = refl
same_test (y ∷ k) [] = refl
same_test (y ∷ k) (x ∷ p) = ⊎_elim (λ e. rw (eq-yes y x e) (same_test k p)) (λ n. rw (eq-no y x n) refl)
    (equal_or_not y x)

pub contains-here : (ks : List (Bor (List ℕ))) (i : ℕ) (d : Bor (List ℕ)) (p : List ℕ) → i < length ks
    → true ≡ pointwise nat_eq (get_or ks i d).now p → contains_key (keys_in (drop i ks)) p ≡ true
contains-here ks i d p h e = rw (drop-cons ks i d h, same_test (get_or ks i d).now p, ← e) refl

pub contains-after : (ks : List (Bor (List ℕ))) (i : ℕ) (d : Bor (List ℕ)) (p : List ℕ) → i < length ks
    → false ≡ pointwise nat_eq (get_or ks i d).now p → contains_key (keys_in (drop (i + 1) ks)) p
    ≡ contains_key (keys_in (drop i ks)) p
contains-after ks i d p h e = rw (drop-cons ks i d h, same_test (get_or ks i d).now p, ← e, add-one) refl

-- the next bytes of the keys, with one key more
abbrev with_last : ℕ → List ℕ → List ℕ
with_last b [] = b ∷ []
with_last b (x ∷ []) = if x == b then x ∷ [] else x ∷ b ∷ []
with_last b (x ∷ y ∷ bs) = x ∷ with_last b (y ∷ bs)

first-last : (x b : ℕ) (bs : List ℕ) → with_first x (with_last b bs) ≡ with_last b (with_first x bs)
first-last x b [] = ⊎_elim (λ e. rw (eq-yes x b e, e) refl) (λ n. rw (eq-no x b n) refl) (equal_or_not x b)
first-last x b (y ∷ []) = ⊎_elim
    (λ e. rw (eq-yes x y e) (⊎_elim (λ d. rw (eq-yes y b d, eq-yes x y e) refl)
    (λ n. rw (eq-no y b n, eq-yes x y e) refl) (equal_or_not y b)))
    (λ m. rw (eq-no x y m) (⊎_elim (λ d. rw (eq-yes y b d, eq-no x y m) refl) (λ n. rw (eq-no y b n, eq-no x y m) refl)
    (equal_or_not y b))) (equal_or_not x y)
first-last x b (y ∷ z ∷ bs) = ⊎_elim (λ e. rw (eq-yes x y e) refl) (λ n. rw (eq-no x y n) refl) (equal_or_not x y)

repeats-last : (xs : List ℕ) (b : ℕ) → without_repeats (xs ++ b ∷ []) ≡ with_last b (without_repeats xs)
repeats-last [] b = refl
repeats-last (x ∷ xs) b = ap (with_first x) (repeats-last xs b) ∙ first-last x b (without_repeats xs)

abbrev with_next : Option ℕ → List ℕ → List ℕ
with_next None bs = bs
with_next (Some b) bs = with_last b bs

next-snoc : (s : List (List ℕ)) (k p : List ℕ)
    → next_bytes (s ++ k ∷ []) p ≡ with_next (byte_after p k) (next_bytes s p)
next-snoc s k p = ap without_repeats (filter_map-append (byte_after p) s (k ∷ [])) ∙
    (elim (byte_after p k) as (λ o. without_repeats (filter_map (byte_after p) s ++ cons_option o [])
    ≡ with_next o (next_bytes s p)) [
      | None ↦ ap without_repeats (append-nil (filter_map (byte_after p) s))
      | Some b ↦ repeats-last (filter_map (byte_after p) s) b
    ])

next-key : (ks : List (Bor (List ℕ))) (i : ℕ) (d : Bor (List ℕ)) (p : List ℕ) → i < length ks →
    next_bytes (keys_in (take (i + 1) ks)) p
    ≡ with_next (byte_after p (get_or ks i d).now) (next_bytes (keys_in (take i ks)) p)
next-key ks i d p h = ap (λ j. next_bytes (keys_in (take j ks)) p) (add-one i)
    ∙ ap (λ z. next_bytes (keys_in z) p) (take-suc ks i d h) ∙
    ap (λ z. next_bytes z p) (map-append (λ z. z.now) (take i ks) (get_or ks i d ∷ []))
    ∙ next-snoc (keys_in (take i ks)) (get_or ks i d).now p

last-at : (b m : ℕ) (bs : List ℕ) → suc m ≡ length bs → slice_get bs m ≡ Some b → with_last b bs ≡ bs
last-at b m [] l h = absurd (omega arith)
last-at b zero (x ∷ []) l h = let e : x ≡ b = cc in rw (eq-yes x b e) refl
last-at b (suc m) (x ∷ []) l h = absurd (omega arith)
last-at b zero (x ∷ y ∷ bs) l h = absurd (omega arith)
last-at b (suc m) (x ∷ y ∷ bs) l h = ap (λ z. x ∷ z) (last-at b m (y ∷ bs) (omega arith) h)

not-last-at : (b m : ℕ) (bs : List ℕ) → suc m ≡ length bs → (slice_get bs m ≡ Some b → ⊥)
    → with_last b bs ≡ bs ++ b ∷ []
not-last-at b m [] l h = absurd (omega arith)
not-last-at b zero (x ∷ []) l h = rw (eq-no x b (λ e. h (ap (λ z. Some z) e))) refl
not-last-at b (suc m) (x ∷ []) l h = absurd (omega arith)
not-last-at b zero (x ∷ y ∷ bs) l h = absurd (omega arith)
not-last-at b (suc m) (x ∷ y ∷ bs) l h = ap (λ z. x ∷ z) (not-last-at b m (y ∷ bs) (omega arith) h)

last-same : (b : ℕ) (bs : List ℕ) → slice_get bs (length bs - 1) ≡ Some b → with_last b bs ≡ bs
last-same b [] h = cc
last-same b (x ∷ bs) h = last-at b (length (x ∷ bs) - 1) (x ∷ bs) (omega arith) h

last-other : (b : ℕ) (bs : List ℕ) → (slice_get bs (length bs - 1) ≡ Some b → ⊥) → with_last b bs ≡ bs ++ b ∷ []
last-other b [] h = refl
last-other b (x ∷ bs) h = not-last-at b (length (x ∷ bs) - 1) (x ∷ bs) (omega arith) h

is-option : (o : Option ℕ) (b : ℕ) → false ≡ not (option_eq nat_eq o (Some b)) → o ≡ Some b
is-option None b h = cc
is-option (Some x) b h = ⊎_elim (λ e. ap (λ z. Some z) e) (λ n. let f = rw (eq-no x b n) at h in cc) (equal_or_not x b)

is-not_option : (o : Option ℕ) (b : ℕ) → true ≡ not (option_eq nat_eq o (Some b)) → o ≡ Some b → ⊥
is-not_option None b h e = cc
is-not_option (Some x) b h e = let d : x ≡ b = cc in let f = rw (eq-yes x b d) at h in cc

pub next-none : (ks : List (Bor (List ℕ))) (i : ℕ) (d : Bor (List ℕ)) (p bs : List ℕ) → i < length ks
    → None ≡ byte_after p (get_or ks i d).now →
    bs ≡ next_bytes (keys_in (take i ks)) p → bs ≡ next_bytes (keys_in (take (i + 1) ks)) p
next-none ks i d p bs h a e = e ∙ ap (λ o. with_next o (next_bytes (keys_in (take i ks)) p)) a
    ∙ sym (next-key ks i d p h)

pub next-same : (ks : List (Bor (List ℕ))) (i : ℕ) (d : Bor (List ℕ)) (p bs : List ℕ) (b : ℕ) (o : Option ℕ)
    → i < length ks → Some b ≡ byte_after p (get_or ks i d).now →
    o ≡ slice_get bs (length bs - 1) → false ≡ not (option_eq nat_eq o (Some b))
    → bs ≡ next_bytes (keys_in (take i ks)) p → bs ≡ next_bytes (keys_in (take (i + 1) ks)) p
next-same ks i d p bs b o h a l n e = sym (last-same b bs (sym l ∙ is-option o b n)) ∙ ap (with_last b) e
    ∙ ap (λ o. with_next o (next_bytes (keys_in (take i ks)) p)) a ∙ sym (next-key ks i d p h)

pub next-other : (ks : List (Bor (List ℕ))) (i : ℕ) (d : Bor (List ℕ)) (p bs : List ℕ) (b : ℕ) (o : Option ℕ)
    → i < length ks → Some b ≡ byte_after p (get_or ks i d).now →
    o ≡ slice_get bs (length bs - 1) → true ≡ not (option_eq nat_eq o (Some b))
    → bs ≡ next_bytes (keys_in (take i ks)) p → bs ++ b ∷ [] ≡ next_bytes (keys_in (take (i + 1) ks)) p
next-other ks i d p bs b o h a l n e = sym (last-other b bs (λ f. is-not_option o b n (l ∙ f))) ∙ ap (with_last b) e
    ∙ ap (λ o. with_next o (next_bytes (keys_in (take i ks)) p)) a ∙ sym (next-key ks i d p h)

-- a record inserted at its place
abbrev pub GoesAfter : ℕ → List ℕ → List ShapeRecord → Type 0
GoesAfter zero p rs = Unit {0}
GoesAfter (suc n) p [] = ⊥
GoesAfter (suc n) p (r ∷ rs) = (slice_cmp nat_cmp p r.path.items ≡ Greater) × GoesAfter n p rs

after-next : (i : ℕ) (p : List ℕ) (rs : List ShapeRecord) (r : ShapeRecord) → i < length rs → r ≡ get_or rs i r
    → slice_cmp nat_cmp p r.path.items ≡ Greater → GoesAfter i p rs → GoesAfter (suc i) p rs
after-next i p [] r h is c b = absurd (omega arith)
after-next zero p (q ∷ rs) r h is c b = (rw (← is) c, tt)
after-next (suc i) p (q ∷ rs) r h is c b = (b.0, after-next i p rs r (omega arith) is c b.1)

pub after-more : (i : ℕ) (p : List ℕ) (rs : List ShapeRecord) (r : ShapeRecord) → i < length rs → r ≡ get_or rs i r
    → slice_cmp nat_cmp p r.path.items ≡ Greater → GoesAfter i p rs → GoesAfter (i + 1) p rs
after-more i p rs r h is c b = rw add-one (after-next i p rs r h is c b)

pub put-before : (i : ℕ) (a : ShapeRecord) (rs : List ShapeRecord) (r : ShapeRecord) → i < length rs → r ≡ get_or rs i r
    → slice_cmp nat_cmp a.path.items r.path.items ≡ Less → GoesAfter i a.path.items rs →
    records_of (insert rs i a) ≡ put a.path.items (node_record a) (records_of rs)
put-before i a [] r h is c b = absurd (omega arith)
put-before zero a (q ∷ rs) r h is c b = rw (rw (is) at c) refl
put-before (suc i) a (q ∷ rs) r h is c b
    = rw b.0 (ap (λ z. (q.path.items, node_record q) ∷ z) (put-before i a rs r (omega arith) is c b.1))

pub put-at : (i : ℕ) (a : ShapeRecord) (rs : List ShapeRecord) (r : ShapeRecord) → i < length rs → r ≡ get_or rs i r
    → slice_cmp nat_cmp a.path.items r.path.items ≡ Equal → GoesAfter i a.path.items rs →
    records_of (set rs i a) ≡ put a.path.items (node_record a) (records_of rs)
put-at i a [] r h is c b = absurd (omega arith)
put-at zero a (q ∷ rs) r h is c b = rw (rw (is) at c) refl
put-at (suc i) a (q ∷ rs) r h is c b = rw b.0
    (ap (λ z. (q.path.items, node_record q) ∷ z) (put-at i a rs r (omega arith) is c b.1))

put-last : (a : ShapeRecord) (rs : List ShapeRecord) → GoesAfter (length rs) a.path.items rs
    → records_of (rs ++ a ∷ []) ≡ put a.path.items (node_record a) (records_of rs)
put-last a [] b = refl
put-last a (q ∷ rs) b = rw b.0 (ap (λ z. (q.path.items, node_record q) ∷ z) (put-last a rs b.1))

pub put-end : (i : ℕ) (a : ShapeRecord) (rs : List ShapeRecord) → i ≡ length rs → GoesAfter i a.path.items rs
    → records_of (rs ++ a ∷ []) ≡ put a.path.items (node_record a) (records_of rs)
put-end i a rs e b = put-last a rs (rw e at b)
