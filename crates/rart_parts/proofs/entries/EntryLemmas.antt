-- Maps from bytes as ascending lists of entries.
use Rattle.std.proofs.Common.{◌≡◌, ◌≢◌, ℕ, suc, ◌<◌, ◌≤◌, ◌+◌, true, false, cond, eqb, ◌-◌, List, [], ◌∷◌, Option, Some}
use Rattle.std.proofs.Common.{None, length, take, drop, sym, ap, ◌∙◌, refl, arith, ⊎_elim, subst}
use Rattle.std.proofs.lemmas.Bool.{eq-eqb, ne_eqb, lt-ltb, le-ltb, cases_lt}
use Rattle.std.proofs.lemmas.List.{length-drop, take_all}
use Rattle.std.proofs.lemmas.Bool.Decides.{eqb_tells}
use Rattle.rart_parts.specs.Entries.{child_at, entries_above, with_entry, with_another, without_byte, replaced_at}
use Rattle.rart_parts.specs.Entries.{sorted_entries, StartsAbove, BytesAscend}

some_none : {X : Type 0} {x : X} → Some x ≡ None → ⊥
some_none h = cc

three : (P : Type 0) (a b : ℕ) → (a < b → P) → (a ≡ b → P) → (b < a → P) → P
three P a b lt eq gt = ⊎_elim lt (λ le. ⊎_elim (λ t. eq t.1) (λ t. gt (omega (arith, le, t.1))) (eqb_tells a b))
    (cases_lt a b)

-- the three ways in which a byte meets the first entry
module _ {X : Type 0} (k : ℕ) (x : X) (e : ℕ × X) (es : List (ℕ × X)) where
  pub with_before : k < e.0 → with_entry k x (e ∷ es) ≡ (k, x) ∷ e ∷ es
  with_before h = ap (λ b. cond b ((k, x) ∷ e ∷ es) (cond (eqb e.0 k) ((k, x) ∷ es) (e ∷ with_entry k x es)))
      (lt-ltb k e.0 h)

  with_same : e.0 ≡ k → with_entry k x (e ∷ es) ≡ (k, x) ∷ es
  with_same h =
      ap (λ b. cond b ((k, x) ∷ e ∷ es) (cond (eqb e.0 k) ((k, x) ∷ es) (e ∷ with_entry k x es)))
      (le-ltb k e.0 (omega (arith, h)))
      ∙ ap (λ b. cond b ((k, x) ∷ es) (e ∷ with_entry k x es)) (eq-eqb e.0 k h)

  pub with_after : e.0 < k → with_entry k x (e ∷ es) ≡ e ∷ with_entry k x es
  with_after h =
      ap (λ b. cond b ((k, x) ∷ e ∷ es) (cond (eqb e.0 k) ((k, x) ∷ es) (e ∷ with_entry k x es)))
      (le-ltb k e.0 (omega (arith, h)))
      ∙ ap (λ b. cond b ((k, x) ∷ es) (e ∷ with_entry k x es)) (ne_eqb e.0 k (λ q. omega (arith, h, q)))

module _ {X : Type 0} (k : ℕ) (e : ℕ × X) (es : List (ℕ × X)) where
  pub at_same : e.0 ≡ k → child_at k (e ∷ es) ≡ Some e.1
  at_same h = ap (λ b. cond b (Some e.1) (child_at k es)) (eq-eqb e.0 k h)

  pub at_other : e.0 ≢ k → child_at k (e ∷ es) ≡ child_at k es
  at_other h = ap (λ b. cond b (Some e.1) (child_at k es)) (ne_eqb e.0 k h)

  pub without_same : e.0 ≡ k → without_byte k (e ∷ es) ≡ es
  without_same h = ap (λ b. cond b es (e ∷ without_byte k es)) (eq-eqb e.0 k h)

  pub without_other : e.0 ≢ k → without_byte k (e ∷ es) ≡ e ∷ without_byte k es
  without_other h = ap (λ b. cond b es (e ∷ without_byte k es)) (ne_eqb e.0 k h)

  pub replaced_same : (w : X) → e.0 ≡ k → replaced_at k w (e ∷ es) ≡ (k, w) ∷ es
  replaced_same w h = ap (λ b. cond b ((k, w) ∷ es) (e ∷ replaced_at k w es)) (eq-eqb e.0 k h)

  pub replaced_other : (w : X) → e.0 ≢ k → replaced_at k w (e ∷ es) ≡ e ∷ replaced_at k w es
  replaced_other w h = ap (λ b. cond b ((k, w) ∷ es) (e ∷ replaced_at k w es)) (ne_eqb e.0 k h)

  pub first_absent : child_at k (e ∷ es) ≡ None → e.0 ≢ k
  first_absent h q = some_none (sym (at_same q) ∙ h)

-- ---- look-ups
module _ {X : Type 0} where
  pub child_at-with_entry : (k : ℕ) (x : X) (es : List (ℕ × X)) (b : ℕ)
      → child_at b (with_entry k x es) ≡ cond (eqb k b) (Some x) (child_at b es)
  child_at-with_entry k x [] b = refl
  child_at-with_entry k x (e ∷ es) b = three _ k e.0
      (λ h. ap (child_at b) (with_before k x e es h))
      (λ h. ap (child_at b) (with_same k x e es (sym h)) ∙ ⊎_elim
      (λ t. ap (λ c. cond c (Some x) (child_at b es)) t.0 ∙ sym (ap (λ c. cond c (Some x) (child_at b (e ∷ es))) t.0))
      (λ t. ap (λ c. cond c (Some x) (child_at b es)) t.0 ∙ sym (at_other b e es (λ q. t.1 (h ∙ q)))
      ∙ sym (ap (λ c. cond c (Some x) (child_at b (e ∷ es))) t.0))
      (eqb_tells k b))
      (λ h. ap (child_at b) (with_after k x e es h)
      ∙ ap (λ c. cond (eqb e.0 b) (Some e.1) c) (child_at-with_entry k x es b) ∙ ⊎_elim
      (λ t. ap (λ c. cond (eqb e.0 b) (Some e.1) (cond c (Some x) (child_at b es))) t.0
      ∙ ap (λ c. cond c (Some e.1) (Some x)) (ne_eqb e.0 b (λ q. omega (arith, h, q, t.1)))
      ∙ sym (ap (λ c. cond c (Some x) (child_at b (e ∷ es))) t.0))
      (λ t. ap (λ c. cond (eqb e.0 b) (Some e.1) (cond c (Some x) (child_at b es))) t.0
      ∙ sym (ap (λ c. cond c (Some x) (child_at b (e ∷ es))) t.0))
      (eqb_tells k b))

  child_at-with_another : (k : ℕ) (x : X) (es : List (ℕ × X)) (b : ℕ)
      → child_at b (with_another k x es) ≡ cond (eqb k b) (Some x) (child_at b es)
  child_at-with_another k x [] b = refl
  child_at-with_another k x (e ∷ es) b = grind (arith, child_at-with_another k x es b)

  pub child_at-ascending : (es : List (ℕ × X)) (b : ℕ) → child_at b (sorted_entries es) ≡ child_at b es
  child_at-ascending [] b = refl
  child_at-ascending (e ∷ es) b = child_at-with_another e.0 e.1 (sorted_entries es) b
      ∙ ap (λ r. cond (eqb e.0 b) (Some e.1) r) (child_at-ascending es b)

  -- no entry is at or below a byte that the map starts above
  pub below_start : (k b : ℕ) (es : List (ℕ × X)) → StartsAbove k es → BytesAscend es → b ≤ k → child_at b es ≡ None
  below_start k b [] s a h = refl
  below_start k b (e ∷ es) s a h = at_other b e es (λ q. omega (arith, q, s, h))
      ∙ below_start e.0 b es a.0 a.1 (omega arith)

  pub without_absent : (k : ℕ) (es : List (ℕ × X)) → child_at k es ≡ None → without_byte k es ≡ es
  without_absent k [] h = refl
  without_absent k (e ∷ es) h =
      let n = first_absent k e es h in without_other k e es n
      ∙ ap (λ l. e ∷ l) (without_absent k es (sym (at_other k e es n) ∙ h))

  pub child_at-without_byte : (k : ℕ) (es : List (ℕ × X)) → BytesAscend es → (b : ℕ)
      → child_at b (without_byte k es) ≡ cond (eqb k b) None (child_at b es)
  child_at-without_byte k [] a b = elim (eqb k b) as (λ c. ◌≡◌ {A = Option X} None (cond c None None)) [
    | true ↦ refl
    | false ↦ refl
  ]
  child_at-without_byte k (e ∷ es) a b = ⊎_elim
      (λ t. ap (child_at b) (without_same k e es t.1) ∙ ⊎_elim
      (λ u. below_start e.0 b es a.0 a.1 (omega (arith, t.1, u.1))
      ∙ sym (ap (λ c. cond c None (child_at b (e ∷ es))) u.0))
      (λ u. sym (at_other b e es (λ q. u.1 (sym t.1 ∙ q))) ∙ sym (ap (λ c. cond c None (child_at b (e ∷ es))) u.0))
      (eqb_tells k b))
      (λ t. ap (child_at b) (without_other k e es t.1)
      ∙ ap (λ c. cond (eqb e.0 b) (Some e.1) c) (child_at-without_byte k es a.1 b) ∙ ⊎_elim
      (λ u. ap (λ c. cond (eqb e.0 b) (Some e.1) (cond c None (child_at b es))) u.0
      ∙ ap (λ c. cond c (Some e.1) None) (ne_eqb e.0 b (λ q. t.1 (q ∙ sym u.1)))
      ∙ sym (ap (λ c. cond c None (child_at b (e ∷ es))) u.0))
      (λ u. ap (λ c. cond (eqb e.0 b) (Some e.1) (cond c None (child_at b es))) u.0
      ∙ sym (ap (λ c. cond c None (child_at b (e ∷ es))) u.0))
      (eqb_tells k b))
      (eqb_tells e.0 k)

  pub child_at-replaced : (k : ℕ) (w x : X) (es : List (ℕ × X)) → child_at k es ≡ Some x → (b : ℕ)
      → child_at b (replaced_at k w es) ≡ cond (eqb k b) (Some w) (child_at b es)
  child_at-replaced k w x [] h b = cc
  child_at-replaced k w x (e ∷ es) h b = ⊎_elim
      (λ t. ap (child_at b) (replaced_same k e es w t.1) ∙ ⊎_elim
      (λ u. ap (λ c. cond c (Some w) (child_at b es)) u.0 ∙ sym (ap (λ c. cond c (Some w) (child_at b (e ∷ es))) u.0))
      (λ u. ap (λ c. cond c (Some w) (child_at b es)) u.0 ∙ sym (at_other b e es (λ q. u.1 (sym t.1 ∙ q)))
      ∙ sym (ap (λ c. cond c (Some w) (child_at b (e ∷ es))) u.0))
      (eqb_tells k b))
      (λ t. ap (child_at b) (replaced_other k e es w t.1)
      ∙ ap (λ c. cond (eqb e.0 b) (Some e.1) c) (child_at-replaced k w x es (sym (at_other k e es t.1) ∙ h) b)
      ∙ ⊎_elim
      (λ u. ap (λ c. cond (eqb e.0 b) (Some e.1) (cond c (Some w) (child_at b es))) u.0
      ∙ ap (λ c. cond c (Some e.1) (Some w)) (ne_eqb e.0 b (λ q. t.1 (q ∙ sym u.1)))
      ∙ sym (ap (λ c. cond c (Some w) (child_at b (e ∷ es))) u.0))
      (λ u. ap (λ c. cond (eqb e.0 b) (Some e.1) (cond c (Some w) (child_at b es))) u.0
      ∙ sym (ap (λ c. cond c (Some w) (child_at b (e ∷ es))) u.0))
      (eqb_tells k b))
      (eqb_tells e.0 k)

-- ---- order
module _ {X : Type 0} where
  starts_lower : (a b : ℕ) (es : List (ℕ × X)) → a ≤ b → StartsAbove b es → StartsAbove a es
  starts_lower a b [] h s = tt
  starts_lower a b (e ∷ es) h s = omega (arith, h, s)

  -- all are above a byte that the map starts above
  pub all_above : (k : ℕ) (es : List (ℕ × X)) → StartsAbove k es → BytesAscend es → entries_above k es ≡ es
  all_above k [] s a = refl
  all_above k (e ∷ es) s a = ap (λ b. cond b (e ∷ entries_above k es) (entries_above k es)) (lt-ltb k e.0 s)
      ∙ ap (λ l. e ∷ l) (all_above k es (starts_lower k e.0 es (omega (arith, s)) a.0) a.1)

  pub not_above : (k : ℕ) (e : ℕ × X) (es : List (ℕ × X)) → e.0 ≤ k → entries_above k (e ∷ es) ≡ entries_above k es
  not_above k e es h = ap (λ b. cond b (e ∷ entries_above k es) (entries_above k es)) (le-ltb k e.0 h)

  pub above-ascends : (k : ℕ) (es : List (ℕ × X)) → BytesAscend es → BytesAscend (entries_above k es)
  above-ascends k [] a = tt
  above-ascends k (e ∷ es) a =
      let passed : e.0 ≤ k → BytesAscend (entries_above k (e ∷ es))
      = λ h. subst BytesAscend (sym (not_above k e es h)) (above-ascends k es a.1) in
      three (BytesAscend (entries_above k (e ∷ es))) k e.0
      (λ q. subst BytesAscend (sym (all_above k (e ∷ es) q a)) a)
      (λ q. passed (omega (arith, q)))
      (λ q. passed (omega (arith, q)))

  starts_with : (b k : ℕ) (x : X) (es : List (ℕ × X)) → b < k → StartsAbove b es → StartsAbove b (with_entry k x es)
  starts_with b k x [] h s = h
  starts_with b k x (e ∷ es) h s = three (StartsAbove b (with_entry k x (e ∷ es))) k e.0
      (λ q. subst (StartsAbove b) (sym (with_before k x e es q)) h)
      (λ q. subst (StartsAbove b) (sym (with_same k x e es (sym q))) h)
      (λ q. subst (StartsAbove b) (sym (with_after k x e es q)) s)

  pub with_entry-ascends : (k : ℕ) (x : X) (es : List (ℕ × X)) → BytesAscend es → BytesAscend (with_entry k x es)
  with_entry-ascends k x [] a = (tt, tt)
  with_entry-ascends k x (e ∷ es) a = three (BytesAscend (with_entry k x (e ∷ es))) k e.0
      (λ q. subst BytesAscend (sym (with_before k x e es q)) (q, a))
      (λ q. subst BytesAscend (sym (with_same k x e es (sym q))) (starts_lower k e.0 es (omega (arith, q)) a.0, a.1))
      (λ q. subst BytesAscend (sym (with_after k x e es q))
      (starts_with e.0 k x es q a.0, with_entry-ascends k x es a.1))

  with_another-absent : (k : ℕ) (x : X) (es : List (ℕ × X)) → child_at k es ≡ None
      → with_another k x es ≡ with_entry k x es
  with_another-absent k x [] h = refl
  with_another-absent k x (e ∷ es) h = three (with_another k x (e ∷ es) ≡ with_entry k x (e ∷ es)) k e.0
      (λ q. ap (λ c. cond c (e ∷ with_another k x es) ((k, x) ∷ e ∷ es)) (le-ltb e.0 k (omega (arith, q)))
      ∙ sym (with_before k x e es q))
      (λ q. absurd (first_absent k e es h (sym q)))
      (λ q. ap (λ c. cond c (e ∷ with_another k x es) ((k, x) ∷ e ∷ es)) (lt-ltb e.0 k q)
      ∙ ap (λ l. e ∷ l) (with_another-absent k x es (sym (at_other k e es (λ z. omega (arith, z, q))) ∙ h))
      ∙ sym (with_after k x e es q))

  -- no two entries have one byte
  abbrev pub AreEachOnce : List (ℕ × X) → Type 0
  AreEachOnce [] = Unit {0}
  AreEachOnce (e ∷ es) = (child_at e.0 es ≡ None) × AreEachOnce es

  pub ascending-ascends : (es : List (ℕ × X)) → AreEachOnce es → BytesAscend (sorted_entries es)
  ascending-ascends [] o = tt
  ascending-ascends (e ∷ es) o = subst BytesAscend
      (sym (with_another-absent e.0 e.1 (sorted_entries es) (child_at-ascending es e.0 ∙ o.0)))
      (with_entry-ascends e.0 e.1 (sorted_entries es) (ascending-ascends es o.1))

  starts_without : (b k : ℕ) (es : List (ℕ × X)) → StartsAbove b es → BytesAscend es → StartsAbove b (without_byte k es)
  starts_without b k [] s a = tt
  starts_without b k (e ∷ es) s a = ⊎_elim
      (λ t. subst (StartsAbove b) (sym (without_same k e es t.1)) (starts_lower b e.0 es (omega (arith, s)) a.0))
      (λ t. subst (StartsAbove b) (sym (without_other k e es t.1)) s)
      (eqb_tells e.0 k)

  pub without_byte-ascends : (k : ℕ) (es : List (ℕ × X)) → BytesAscend es → BytesAscend (without_byte k es)
  without_byte-ascends k [] a = tt
  without_byte-ascends k (e ∷ es) a = ⊎_elim
      (λ t. subst BytesAscend (sym (without_same k e es t.1)) a.1)
      (λ t. subst BytesAscend (sym (without_other k e es t.1))
      (starts_without e.0 k es a.0 a.1, without_byte-ascends k es a.1))
      (eqb_tells e.0 k)

  starts_replaced : (b k : ℕ) (w : X) (es : List (ℕ × X)) → StartsAbove b es → StartsAbove b (replaced_at k w es)
  starts_replaced b k w [] s = tt
  starts_replaced b k w (e ∷ es) s = ⊎_elim
      (λ t. subst (StartsAbove b) (sym (replaced_same k e es w t.1)) (omega (arith, t.1, s)))
      (λ t. subst (StartsAbove b) (sym (replaced_other k e es w t.1)) s)
      (eqb_tells e.0 k)

  pub replaced-ascends : (k : ℕ) (w : X) (es : List (ℕ × X)) → BytesAscend es → BytesAscend (replaced_at k w es)
  replaced-ascends k w [] a = tt
  replaced-ascends k w (e ∷ es) a = ⊎_elim
      (λ t. subst BytesAscend (sym (replaced_same k e es w t.1)) (subst (λ n. StartsAbove n es) t.1 a.0, a.1))
      (λ t. subst BytesAscend (sym (replaced_other k e es w t.1))
      (starts_replaced e.0 k w es a.0, replaced-ascends k w es a.1))
      (eqb_tells e.0 k)

  -- two ascending maps that answer alike at every byte are the same list
  pub same_lookups : (xs ys : List (ℕ × X)) → BytesAscend xs → BytesAscend ys
      → ((b : ℕ) → child_at b xs ≡ child_at b ys) → xs ≡ ys
  same_lookups [] [] a c h = refl
  same_lookups [] (y ∷ ys) a c h = absurd (some_none (sym (at_same y.0 y ys refl) ∙ sym (h y.0)))
  same_lookups (x ∷ xs) [] a c h = absurd (some_none (sym (at_same x.0 x xs refl) ∙ h x.0))
  same_lookups (x ∷ xs) (y ∷ ys) a c h = three _ x.0 y.0
      (λ q. absurd (some_none (sym (at_same x.0 x xs refl) ∙ h x.0 ∙ at_other x.0 y ys (λ e. omega (arith, e, q))
      ∙ below_start y.0 x.0 ys c.0 c.1 (omega (arith, q)))))
      (λ q.
      let one : Some x.1 ≡ Some y.1 = sym (at_same x.0 x xs refl) ∙ h x.0 ∙ at_same x.0 y ys (sym q) in
      let value : x.1 ≡ y.1 = cc in
      let rest : xs ≡ ys = same_lookups xs ys a.1 c.1 (λ b. ⊎_elim
      (λ t. below_start x.0 b xs a.0 a.1 (omega (arith, t.1))
      ∙ sym (below_start y.0 b ys c.0 c.1 (omega (arith, q, t.1))))
      (λ t. sym (at_other b x xs t.1) ∙ h b ∙ at_other b y ys (λ e. t.1 (q ∙ e)))
      (eqb_tells x.0 b)) in
      λ i. (q i, value i) ∷ rest i)
      (λ q. absurd (some_none (sym (at_same y.0 y ys refl) ∙ sym (h y.0) ∙ at_other y.0 x xs (λ e. omega (arith, e, q))
      ∙ below_start x.0 y.0 xs a.0 a.1 (omega (arith, q)))))

-- ---- how many
module _ {X : Type 0} where
  pub length-with_entry : (k : ℕ) (x : X) (es : List (ℕ × X)) → child_at k es ≡ None
      → length (with_entry k x es) ≡ length es + 1
  length-with_entry k x [] h = refl
  length-with_entry k x (e ∷ es) h = three _ k e.0
      (λ q. ap length (with_before k x e es q) ∙ omega arith)
      (λ q. absurd (first_absent k e es h (sym q)))
      (λ q. ap length (with_after k x e es q) ∙ omega
      (arith, length-with_entry k x es (sym (at_other k e es (first_absent k e es h)) ∙ h)))

  pub length-without_byte : (k : ℕ) (x : X) (es : List (ℕ × X)) → child_at k es ≡ Some x
      → length es ≡ length (without_byte k es) + 1
  length-without_byte k x [] h = cc
  length-without_byte k x (e ∷ es) h = ⊎_elim
      (λ t. omega (arith, ap length (without_same k e es t.1)))
      (λ t. omega (
        arith,
        ap length (without_other k e es t.1),
        length-without_byte k x es (sym (at_other k e es t.1)
            ∙ h),
      ))
      (eqb_tells e.0 k)

  first_between : (n m : ℕ) (e : ℕ × X) (es : List (ℕ × X)) → ((b : ℕ) → b < n → child_at b (e ∷ es) ≡ None)
      → ((b : ℕ) → m ≤ b → child_at b (e ∷ es) ≡ None) → (n ≤ e.0) × (e.0 < m)
  first_between n m e es below above = (
    ⊎_elim (λ l. absurd (some_none (sym (at_same e.0 e es refl) ∙ below e.0 l))) (λ l. l) (cases_lt e.0 n),
    ⊎_elim (λ l. l) (λ l. absurd (some_none (sym (at_same e.0 e es refl) ∙ above e.0 l))) (cases_lt e.0 m),
  )

  above_rest : (m : ℕ) (e : ℕ × X) (es : List (ℕ × X)) → e.0 < m → ((b : ℕ) → m ≤ b → child_at b (e ∷ es) ≡ None)
      → (b : ℕ) → m ≤ b → child_at b es ≡ None
  above_rest m e es h above b l = sym (at_other b e es (λ q. omega (arith, q, h, l))) ∙ above b l

  -- at most one entry for each byte from n on and below m, where all the bytes are
  pub length-between : (n m : ℕ) (es : List (ℕ × X)) → n ≤ m → BytesAscend es → ((b : ℕ) → b < n → child_at b es ≡ None)
      → ((b : ℕ) → m ≤ b → child_at b es ≡ None) → length es + n ≤ m
  length-between n m [] h a below above = omega (arith, h)
  length-between n m (e ∷ es) h a below above =
      let i = first_between n m e es below above in
      let rest = length-between (suc e.0) m es (omega (arith, i.1)) a.1
      (λ b l. below_start e.0 b es a.0 a.1 (omega (arith, l))) (above_rest m e es i.1 above) in
      omega (arith, i.0, rest)

  -- and fewer where one of these has none
  pub length-between_absent : (n m k : ℕ) (es : List (ℕ × X)) → n ≤ k → k < m → child_at k es ≡ None → BytesAscend es
      → ((b : ℕ) → b < n → child_at b es ≡ None) → ((b : ℕ) → m ≤ b → child_at b es ≡ None) → length es + n < m
  length-between_absent n m k [] l h free a below above = omega (arith, l, h)
  length-between_absent n m k (e ∷ es) l h free a below above =
      let i = first_between n m e es below above in
      three (length (e ∷ es) + n < m) k e.0
      (λ q. omega (
        arith,
        l,
        q,
        length-between e.0 m (e ∷ es) (omega (arith, i.1)) a
            (λ b p. at_other b e es (λ s. omega (arith, s, p)) ∙ below_start e.0 b es a.0 a.1 (omega (arith, p))) above,
      ))
      (λ q. absurd (first_absent k e es free (sym q)))
      (λ q. omega (
        arith,
        i.0,
        length-between_absent (suc e.0) m k es (omega (arith, q)) h
            (sym (at_other k e es (λ s. omega (arith, s, q))) ∙ free) a.1
            (λ b p. below_start e.0 b es a.0 a.1 (omega (arith, p))) (above_rest m e es i.1 above),
      ))

  pub length-replaced : (k : ℕ) (w : X) (es : List (ℕ × X)) → length (replaced_at k w es) ≡ length es
  length-replaced k w [] = refl
  length-replaced k w (e ∷ es) = ⊎_elim
      (λ t. omega (arith, ap length (replaced_same k e es w t.1)))
      (λ t. omega (arith, ap length (replaced_other k e es w t.1), length-replaced k w es))
      (eqb_tells e.0 k)

-- what a slice from n on has
pub from_place : {A : Type 0} (n : ℕ) (xs : List A) → take (length xs - n) (drop n xs) ≡ drop n xs
from_place n xs = take_all (length xs - n) (drop n xs) (omega (arith, length-drop n xs))
