-- The child at a byte, found through an index from bytes to slots.
use Rattle.std.proofs.Common.{◌≡◌, ℕ, zero, suc, ◌+◌, true, List, [], ◌∷◌, Option, Some, None, get_or, sym, ap, ◌∙◌}
use Rattle.std.proofs.Common.{refl, arith}
use Rattle.rart_parts.specs.Entries.{child_at, sorted_entries, BytesAscend}
use Rattle.rart_parts.specs.Places.{is_used}
use Rattle.rart_maps.specs.Indexed.{byte_of, with_bytes, IsIndex}
use Rattle.rart_parts.proofs.entries.EntryLemmas.{at_same, at_other, child_at-ascending, AreEachOnce, ascending-ascends}

module _ {X : Type 0} (at : List (Option ℕ)) (k : ℕ) where
  bytes_none : (p : ℕ) (os : List (Option X)) → ((r : ℕ) → is_used os r ≡ true → byte_of at (p + r) ≡ k → ⊥)
      → child_at k (with_bytes at p os) ≡ None
  bytes_none p [] h = refl
  bytes_none p (None ∷ os) h = bytes_none (suc p) os (λ r u e. h (suc r) u (shifted p r ∙ e))
    where
      shifted : (p r : ℕ) → byte_of at (p + suc r) ≡ byte_of at (suc p + r)
      shifted p r = let e : p + suc r ≡ suc p + r = omega arith in ap (byte_of at) e
  bytes_none p (Some x ∷ os) h =
      at_other k (byte_of at p, x) (with_bytes at (suc p) os)
      (λ e. h 0 refl ((let z : p + 0 ≡ p = omega arith in ap (byte_of at) z) ∙ e))
      ∙ bytes_none (suc p) os (λ r u e. h (suc r) u ((let n : p + suc r ≡ suc p + r = omega arith in ap (byte_of at) n)
      ∙ e))

  bytes_child : (p q : ℕ) (os : List (Option X)) → ((r : ℕ) → is_used os r ≡ true → byte_of at (p + r) ≡ k → r ≡ q)
      → byte_of at (p + q) ≡ k
      → child_at k (with_bytes at p os) ≡ get_or os q None
  bytes_child p q [] one e = refl
  bytes_child p zero (None ∷ os) one e = bytes_none (suc p) os (λ r u f. let g : suc r ≡ 0
      = one (suc r) u ((let n : p + suc r ≡ suc p + r = omega arith in ap (byte_of at) n) ∙ f) in omega (arith, g))
  bytes_child p zero (Some x ∷ os) one e = at_same k (byte_of at p, x) (with_bytes at (suc p) os)
      ((let z : p ≡ p + 0 = omega arith in ap (byte_of at) z) ∙ e)
  bytes_child p (suc q) (None ∷ os) one e =
      bytes_child (suc p) q os (λ r u f. let g : suc r ≡ suc q
      = one (suc r) u ((let n : p + suc r ≡ suc p + r = omega arith in ap (byte_of at) n) ∙ f) in omega (arith, g))
      ((let n : suc p + q ≡ p + suc q = omega arith in ap (byte_of at) n) ∙ e)
  bytes_child p (suc q) (Some x ∷ os) one e =
      at_other k (byte_of at p, x) (with_bytes at (suc p) os) (λ f. let g : 0 ≡ suc q
      = one 0 refl ((let z : p + 0 ≡ p = omega arith in ap (byte_of at) z) ∙ f) in omega (arith, g))
      ∙ bytes_child (suc p) q os (λ r u f. let g : suc r ≡ suc q
      = one (suc r) u ((let n : p + suc r ≡ suc p + r = omega arith in ap (byte_of at) n) ∙ f) in omega (arith, g))
      ((let n : suc p + q ≡ p + suc q = omega arith in ap (byte_of at) n) ∙ e)

none_some : {X : Type 0} {x : X} → None ≡ Some x → ⊥
none_some h = cc

some_same : {X : Type 0} {x y : X} → Some x ≡ Some y → x ≡ y
some_same h = cc

module _ {X : Type 0} {at : List (Option ℕ)} {os : List (Option X)} (i : IsIndex at os) where
  pub indexed_none : (k : ℕ) → get_or at k None ≡ None → child_at k (sorted_entries (with_bytes at 0 os)) ≡ None
  indexed_none k e = child_at-ascending (with_bytes at 0 os) k ∙ bytes_none at k 0 os (λ r u f.
      let g : byte_of at r ≡ k = (let z : r ≡ 0 + r = omega arith in ap (byte_of at) z) ∙ f in
      none_some (sym e ∙ ap (λ j. get_or at j None) (sym g) ∙ i.is_named r u))

  pub indexed_some : (k p : ℕ) → get_or at k None ≡ Some p → child_at k (sorted_entries (with_bytes at 0 os))
      ≡ get_or os p None
  indexed_some k p e = child_at-ascending (with_bytes at 0 os) k ∙ bytes_child at k 0 p os (λ r u f.
      let g : byte_of at r ≡ k = (let z : r ≡ 0 + r = omega arith in ap (byte_of at) z) ∙ f in
      some_same (sym (i.is_named r u) ∙ ap (λ j. get_or at j None) g ∙ e))
      ((let z : 0 + p ≡ p = omega arith in ap (byte_of at) z) ∙ i.one_byte k p e)

-- ---- the map
each_once : {X : Type 0} (at : List (Option ℕ)) (p : ℕ) (os : List (Option X))
    → ((q r : ℕ) → q ≡ p + r → is_used os r ≡ true → get_or at (byte_of at q) None ≡ Some q)
    → AreEachOnce (with_bytes at p os)
each_once at p [] n = tt
each_once at p (None ∷ os) n = each_once at (suc p) os (λ q r e u. n q (suc r) (omega arith) u)
each_once at p (Some x ∷ os) n = (
  bytes_none at (byte_of at p) (suc p) os (λ r u f.
      let same : p ≡ suc p + r = some_same (sym (n p 0 (omega arith) refl) ∙ ap (λ j. get_or at j None) (sym f)
      ∙ n (suc p + r) (suc r) (omega arith) u) in
      omega (arith, same)),
  each_once at (suc p) os (λ q r e u. n q (suc r) (omega arith) u),
)

pub map_of_ascends : {X : Type 0} {at : List (Option ℕ)} {os : List (Option X)} → IsIndex at os
    → BytesAscend (sorted_entries (with_bytes at 0 os))
map_of_ascends {at = at} {os = os} i = ascending-ascends (with_bytes at 0 os) (each_once at 0 os (λ q r e u.
    let same : q ≡ r = omega arith in
    i.is_named q (ap (is_used os) same ∙ u)))

pub by_index : {A : Type 0} (P : Type 0) (o : Option A) (e : o ≡ o) → ((a : A) → o ≡ Some a → P) → (o ≡ None → P) → P
by_index P None e f n = n refl
by_index P (Some a) e f n = f a refl
