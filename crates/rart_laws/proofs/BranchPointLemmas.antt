-- `record_at` has a record just at the branch points, and `next_bytes` the next bytes of the keys, ascending.
use Rattle.std.proofs.Common.{◌≡◌, ℕ, ◌≤◌, ◌==◌, ◌||◌, ◌⊎◌, inl, inr, ⊎_elim, suc, Bool, true, false, List, [], ◌∷◌}
use Rattle.std.proofs.Common.{◌++◌, length, refl, sym, ap, ◌∙◌, arith, Option, Some, None, is_some}
use Rattle.std.specs.List.{list_any, filter_map, cons_option}
use Rattle.rart_keys.specs.ByteStrings.{begins, byte_after, IsLess}
use Rattle.rart_keys.specs.SortedMap.{keys_of, AreAbove, IsAscending}
use Rattle.rart_trie.specs.shapes.Shape.{with_first, without_repeats, next_bytes, contains_key, record_from, record_at}
use Rattle.rart_trie.specs.shapes.BranchPoints.{begins_any, GoTwoWays, IsBranchPoint}
use Rattle.rart_trie.proofs.shapes.ShapeLemmas.{two_is}
use Rattle.rart_keys.proofs.strings.ByteOrder.{order, is_equal, is_greater, eq-yes, eq-no, equal_or_not}

abbrev is_byte : ℕ → Option ℕ → Bool
is_byte b None = false
is_byte b (Some c) = c == b

after-begins : (p k : List ℕ) (b : ℕ) → begins (p ++ b ∷ []) k ≡ is_byte b (byte_after p k)
after-begins [] [] b = refl
after-begins [] (y ∷ k) b = ⊎_elim (λ e. rw (eq-yes b y e, eq-yes y b (sym e)) refl)
    (λ n. rw (eq-no b y n, eq-no y b (λ e. n (sym e))) refl) (equal_or_not b y)
after-begins (x ∷ p) [] b = refl
after-begins (x ∷ p) (y ∷ k) b = ⊎_elim (λ e. rw (eq-yes x y e, eq-yes y x (sym e)) (after-begins p k b))
    (λ n. rw (eq-no x y n, eq-no y x (λ e. n (sym e))) refl) (equal_or_not x y)

or_twice : (a b : Bool) → (a || b) ≡ (a || (a || b))
or_twice true b = refl
or_twice false b = refl

any-with_first : (b x : ℕ) (bs : List ℕ) → list_any (λ c. c == b) (with_first x bs)
    ≡ ((x == b) || list_any (λ c. c == b) bs)
any-with_first b x [] = refl
any-with_first b x (y ∷ bs) = ⊎_elim (λ e. rw (eq-yes x y e, e) (or_twice (y == b) (list_any (λ c. c == b) bs)))
    (λ n. rw (eq-no x y n) refl) (equal_or_not x y)

next-begun : (s : List (List ℕ)) (p : List ℕ) (b : ℕ) → list_any (λ c. c == b) (next_bytes s p)
    ≡ begins_any (p ++ b ∷ []) s
next-begun [] p b = refl
next-begun (k ∷ s) p b = rw (after-begins p k b)
    (elim (byte_after p k) as (λ o. list_any (λ c. c == b)
    (without_repeats (cons_option o (filter_map (byte_after p) s))) ≡ (is_byte b o || begins_any (p ++ b ∷ []) s)) [
      | None ↦ next-begun s p b
      | Some x ↦ any-with_first b x (next_bytes s p) ∙ ap (λ z. x == b || z) (next-begun s p b)
    ])

-- ascending, from low on
abbrev AreUp : ℕ → List ℕ → Type 0
AreUp low [] = Unit {0}
AreUp low (b ∷ bs) = (low ≤ b) × AreUp (suc b) bs

up-with_first : (c : ℕ) (bs : List ℕ) → AreUp c bs → AreUp c (with_first c bs)
up-with_first c [] h = (omega arith, tt)
up-with_first c (y ∷ bs) h = ⊎_elim (λ e. rw (eq-yes c y e) h)
    (λ n. rw (eq-no c y n) (omega arith, (omega (arith, h.0), h.1))) (equal_or_not c y)

up-lower : (b c : ℕ) (bs : List ℕ) → b ≤ c → AreUp c bs → AreUp b bs
up-lower b c [] l h = tt
up-lower b c (y ∷ bs) l h = (omega (arith, h.0), h.1)

after-up : (p k l : List ℕ) (b c : ℕ) → IsLess k l → byte_after p k ≡ Some b → byte_after p l ≡ Some c → b ≤ c
after-up [] [] l b c h f g = cc
after-up [] (x ∷ k) [] b c h f g = cc
after-up [] (x ∷ k) (y ∷ l) b c h f g = let e : x ≡ b = cc in let d : y ≡ c = cc in
    ⊎_elim (λ z. omega arith) (⊎_elim (λ z. omega arith) (λ z. let a = rw (is_greater x y z) at h in cc)) (order x y)
after-up (z ∷ p) [] l b c h f g = cc
after-up (z ∷ p) (x ∷ k) [] b c h f g = cc
after-up (z ∷ p) (x ∷ k) (y ∷ l) b c h f g = ⊎_elim
    (λ d. ⊎_elim (λ e. let q : x ≡ y = d ∙ sym e in
    after-up p k l b c (rw (is_equal x y q) at h) (rw (eq-yes x z d) at f) (rw (eq-yes y z e) at g)) (λ n. let a
    = rw (eq-no y z n) at g in cc) (equal_or_not y z))
    (λ n. let a = rw (eq-no x z n) at f in cc) (equal_or_not x z)

record-yes : (h : Bool) (bs : List ℕ) → (h ≡ true) ⊎ (2 ≤ length bs) → is_some (record_from h bs) ≡ true
record-yes true bs c = refl
record-yes false bs c = ⊎_elim (λ z. cc) (λ z. rw (two_is (length bs) z) refl) c

record-no : (h : Bool) (bs : List ℕ) → is_some (record_from h bs) ≡ true → (h ≡ true) ⊎ (2 ≤ length bs)
record-no true bs c = inl refl
record-no false [] c = cc
record-no false (x ∷ []) c = cc
record-no false (x ∷ y ∷ bs) c = inr (omega arith)

any-byte : (b : ℕ) (bs : List ℕ) → list_any (λ c. c == b) (b ∷ bs) ≡ true
any-byte b bs = rw (eq-yes b b refl) refl

or_right : (a : Bool) → (a || true) ≡ true
or_right true = refl
or_right false = refl

no_two : (b c x : ℕ) → (b ≡ c → ⊥) → ((x == b) || false) ≡ true → ((x == c) || false) ≡ true → ⊥
no_two b c x n f g = ⊎_elim (λ e. ⊎_elim (λ d. n (sym e ∙ d)) (λ d. let a = rw (eq-no x c d) at g in
    cc) (equal_or_not x c)) (λ e. let a = rw (eq-no x b e) at f in cc) (equal_or_not x b)

-- two bytes or more: two that differ
two-some : (low : ℕ) (bs : List ℕ) (b c : ℕ) → AreUp low bs → (b ≡ c → ⊥) → list_any (λ x. x == b) bs ≡ true
    → list_any (λ x. x == c) bs ≡ true → 2 ≤ length bs
two-some low [] b c h n f g = cc
two-some low (x ∷ []) b c h n f g = absurd (no_two b c x n f g)
two-some low (x ∷ y ∷ bs) b c h n f g = omega arith

some-two : (low : ℕ) (s : List (List ℕ)) (p : List ℕ) (bs : List ℕ) → AreUp low bs
    → ((b : ℕ) → list_any (λ c. c == b) bs ≡ begins_any (p ++ b ∷ []) s) → 2 ≤ length bs → GoTwoWays s p
some-two low s p [] h f l = absurd (omega arith)
some-two low s p (x ∷ []) h f l = absurd (omega arith)
some-two low s p (x ∷ y ∷ bs) h f l = record {
  one = x;
  other = y;
  differ = λ e. omega (arith, h.1.0);
  one_on = sym (f x) ∙ any-byte x (y ∷ bs);
  other_on = sym (f y) ∙ ap (λ z. x == y || z) (any-byte y bs) ∙ or_right (x == y);
}

module _ {V : Type 0} where
  next-up_from : (p k : List ℕ) (b : ℕ) (es : List (List ℕ × V)) → byte_after p k ≡ Some b → AreAbove k es
      → IsAscending es → AreUp b (next_bytes (keys_of es) p)
  next-up_from p k b [] f a w = tt
  next-up_from p k b (e ∷ es) f a w = elim (byte_after p e.0) as (λ o. byte_after p e.0 ≡ o
      → AreUp b (without_repeats (cons_option o (filter_map (byte_after p) (keys_of es))))) [
        | None ↦ λ g. next-up_from p k b es f a.1 w.1
        | Some c ↦ λ g. up-lower b c (with_first c (next_bytes (keys_of es) p)) (after-up p k e.0 b c a.0 f g)
            (up-with_first c (next_bytes (keys_of es) p) (next-up_from p e.0 c es g w.0 w.1))
      ] refl

  next-up : (p : List ℕ) (es : List (List ℕ × V)) → IsAscending es → AreUp 0 (next_bytes (keys_of es) p)
  next-up p [] w = tt
  next-up p (e ∷ es) w = elim (byte_after p e.0) as (λ o. byte_after p e.0 ≡ o
      → AreUp 0 (without_repeats (cons_option o (filter_map (byte_after p) (keys_of es))))) [
        | None ↦ λ g. next-up p es w.1
        | Some c ↦ λ g. up-lower 0 c (with_first c (next_bytes (keys_of es) p)) (omega arith)
            (up-with_first c (next_bytes (keys_of es) p) (next-up_from p e.0 c es g w.0 w.1))
      ] refl

  -- there is a record just at the branch points
  pub branch-record : (p : List ℕ) (es : List (List ℕ × V)) → IsAscending es → IsBranchPoint (keys_of es) p
      → is_some (record_at (keys_of es) p) ≡ true
  branch-record p es w h = record-yes (contains_key (keys_of es) p) (next_bytes (keys_of es) p)
      (⊎_elim (λ c. inl c) (λ g. inr
      (two-some 0 (next_bytes (keys_of es) p) g.one g.other (next-up p es w) g.differ (next-begun (keys_of es) p g.one
      ∙ g.one_on) (next-begun (keys_of es) p g.other ∙ g.other_on))) h)

  pub record-branch : (p : List ℕ) (es : List (List ℕ × V)) → IsAscending es → is_some (record_at (keys_of es) p) ≡ true
      → IsBranchPoint (keys_of es) p
  record-branch p es w h = ⊎_elim (λ c. inl c)
      (λ l. inr (some-two 0 (keys_of es) p (next_bytes (keys_of es) p) (next-up p es w)
      (λ b. next-begun (keys_of es) p b) l)) (record-no (contains_key (keys_of es) p) (next_bytes (keys_of es) p) h)
