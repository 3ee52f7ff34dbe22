-- One more item of a list that a bulk load reads.
use Rattle.std.proofs.Common.{◌≡◌, ℕ, ◌+◌, ◌<◌, ⊎_elim, suc, true, false, List, [], ◌∷◌, ◌++◌, length, length-append}
use Rattle.std.proofs.Common.{refl, sym, ap, ◌∙◌, arith, Some, None, if◌then◌else◌, Less, Equal, Greater}
use Rattle.std.specs.Ordering.{nat_cmp}
use Rattle.std.specs.Cmp.Lexicographic.{slice_cmp}
use Rattle.rart_keys.specs.ByteStrings.{bytes_eq, IsLess}
use Rattle.rart_keys.specs.SortedMap.{keys_of, values_of}
use Rattle.rart_keys.specs.BulkLists.{first_fault_after, first_fault, last_wins_from, order_of_last, WasRead}
use Rattle.rart_keys.proofs.strings.ByteOrder.{bytes_eq-differ, compare, below-greater}
use Rattle.rart_keys.proofs.maps.BulkListLemmas.{below-not_below, bytes_eq-of, cmp-equal, faultless-after}

-- the key of the last item, k where there is none
abbrev last_key : {V : Type 0} → List ℕ → List (List ℕ × V) → List ℕ
last_key k [] = k
last_key k (e ∷ es) = last_key e.0 es

order-tail : (l k : List ℕ) (ks : List (List ℕ)) → 0 < length ks → order_of_last (l ∷ ks) k ≡ order_of_last ks k
order-tail l k [] h = absurd (omega arith)
order-tail l k (m ∷ ks) h = refl

not-greater : (k l : List ℕ) → slice_cmp nat_cmp l k ≡ Less → IsLess k l → ⊥
not-greater k l h b = below-not_below k l b h

not-equal : (k l : List ℕ) → slice_cmp nat_cmp l k ≡ Equal → IsLess k l → ⊥
not-equal k l h b = let g = below-greater k l b in cc

is-below : (k l : List ℕ) → slice_cmp nat_cmp l k ≡ Greater → IsLess k l
is-below k l h = ⊎_elim (λ s. s) (⊎_elim (λ q. absurd (let g = cmp-equal k l q in cc)) (λ s. absurd (cc))) (compare k l)

are-equal : (k l : List ℕ) → slice_cmp nat_cmp l k ≡ Equal → l ≡ k
are-equal k l h = ⊎_elim (λ s. absurd (let g = below-greater k l s in cc)) (⊎_elim (λ q. sym q) (λ s. absurd (cc)))
    (compare k l)

differ : (k l : List ℕ) → slice_cmp nat_cmp l k ≡ Less → l ≡ k → ⊥
differ k l h q = let g = cmp-equal l l refl in let s : slice_cmp nat_cmp l l ≡ Less = ap (slice_cmp nat_cmp l) q ∙ h in
    cc

module _ {V : Type 0} where
  some-stay : (e : List ℕ × V) (es : List (List ℕ × V)) → 0 < length (last_wins_from e es)
  some-stay e [] = omega arith
  some-stay e (f ∷ es) = elim (bytes_eq e.0 f.0) as (λ b. 0
      < length (if b then last_wins_from f es else e ∷ last_wins_from f es)) [
        | true ↦ some-stay f es
        | false ↦ omega arith
      ]

  keys-length : (es : List (List ℕ × V)) → length (keys_of es) ≡ length es
  keys-length [] = refl
  keys-length (e ∷ es) = ap suc (keys-length es)

  values-length : (es : List (List ℕ × V)) → length (values_of es) ≡ length es
  values-length [] = refl
  values-length (e ∷ es) = ap suc (values-length es)

  order-last : (k : List ℕ) (e : List ℕ × V) (es : List (List ℕ × V)) → order_of_last (keys_of (last_wins_from e es)) k
      ≡ slice_cmp nat_cmp (last_key e.0 es) k
  order-last k e [] = refl
  order-last k e (f ∷ es) = elim (bytes_eq e.0 f.0)
      as (λ b. order_of_last (keys_of (if b then last_wins_from f es else e ∷ last_wins_from f es)) k
      ≡ slice_cmp nat_cmp (last_key f.0 es) k) [
        | true ↦ order-last k f es
        | false ↦ order-tail e.0 k (keys_of (last_wins_from f es))
            (omega (arith, keys-length (last_wins_from f es), some-stay f es)) ∙ order-last k f es
      ]

  pass-on : (n : ℕ) (k : List ℕ) (e : List ℕ × V) (es : List (List ℕ × V)) → (IsLess e.0 k → ⊥)
      → first_fault_after n k (e ∷ es) ≡ first_fault_after (suc n) e.0 es
  pass-on n k e es h = ⊎_elim (λ s. rw (below-greater k e.0 s) refl)
      (⊎_elim (λ q. rw (cmp-equal k e.0 q) refl) (λ s. absurd (h s))) (compare k e.0)

  still-faultless : (n : ℕ) (k : List ℕ) (es : List (List ℕ × V)) (f : List ℕ × V) → first_fault_after n k es ≡ None
      → (IsLess f.0 (last_key k es) → ⊥) → first_fault_after n k (es ++ f ∷ []) ≡ None
  still-faultless n k [] f h b = pass-on n k f [] b
  still-faultless n k (e ∷ es) f h b = let r = faultless-after n k e es h in pass-on n k e (es ++ f ∷ []) r.0
      ∙ still-faultless (suc n) e.0 es f r.1 b

  fault-at-end : (n : ℕ) (k : List ℕ) (es : List (List ℕ × V)) (f : List ℕ × V) → first_fault_after n k es ≡ None
      → IsLess f.0 (last_key k es) → first_fault_after n k (es ++ f ∷ []) ≡ Some (n + length es)
  fault-at-end n k [] f h b = rw b (ap Some (omega arith))
  fault-at-end n k (e ∷ es) f h b = let r = faultless-after n k e es h in pass-on n k e (es ++ f ∷ []) r.0
      ∙ fault-at-end (suc n) e.0 es f r.1 b ∙ ap Some (omega arith)

  stays-after : (e : List ℕ × V) (es : List (List ℕ × V)) (f : List ℕ × V) → (last_key e.0 es ≡ f.0 → ⊥)
      → last_wins_from e (es ++ f ∷ []) ≡ last_wins_from e es ++ f ∷ []
  stays-after e [] f h = rw (bytes_eq-differ e.0 f.0 h) refl
  stays-after e (g ∷ es) f h = elim (bytes_eq e.0 g.0)
      as (λ b. (if b then last_wins_from g (es ++ f ∷ []) else e ∷ last_wins_from g (es ++ f ∷ []))
      ≡ (if b then last_wins_from g es else e ∷ last_wins_from g es) ++ f ∷ []) [
        | true ↦ stays-after g es f h
        | false ↦ ap (λ z. e ∷ z) (stays-after g es f h)
      ]

  same-keys : (e : List ℕ × V) (es : List (List ℕ × V)) (f : List ℕ × V) → last_key e.0 es ≡ f.0
      → keys_of (last_wins_from e (es ++ f ∷ [])) ≡ keys_of (last_wins_from e es)
  same-keys e [] f h = rw (bytes_eq-of e.0 f.0 h) (ap (λ z. z ∷ []) (sym h))
  same-keys e (g ∷ es) f h = elim (bytes_eq e.0 g.0)
      as (λ b. keys_of (if b then last_wins_from g (es ++ f ∷ []) else e ∷ last_wins_from g (es ++ f ∷ []))
      ≡ keys_of (if b then last_wins_from g es else e ∷ last_wins_from g es)) [
        | true ↦ same-keys g es f h
        | false ↦ ap (λ z. e.0 ∷ z) (same-keys g es f h)
      ]

  -- after a first value there are more
  after-first : (v w : V) (vs ws us : List V) → 0 < length vs → v ∷ vs ≡ ws ++ w ∷ [] → (u : V)
      → ((xs : List V) → vs ≡ xs ++ w ∷ [] → us ≡ xs ++ u ∷ []) → v ∷ us ≡ ws ++ u ∷ []
  after-first v w vs [] us some e u r = absurd (omega (arith, some, ap length e))
  after-first v w vs (x ∷ ws) us some e u r = let head : v ≡ x = cc in let tail : vs ≡ ws ++ w ∷ [] = cc in
      rw head (ap (λ z. x ∷ z) (r ws tail))

  last-replaced : (e : List ℕ × V) (es : List (List ℕ × V)) (f : List ℕ × V) (ws : List V) (w : V)
      → last_key e.0 es ≡ f.0 → values_of (last_wins_from e es) ≡ ws ++ w ∷ []
      → values_of (last_wins_from e (es ++ f ∷ [])) ≡ ws ++ f.1 ∷ []
  last-replaced e [] f [] w h s = rw (bytes_eq-of e.0 f.0 h) refl
  last-replaced e [] f (x ∷ ws) w h s = absurd (omega (arith, ap length s, length-append ws (w ∷ [])))
  last-replaced e (g ∷ es) f ws w h s = elim (bytes_eq e.0 g.0)
      as (λ b. values_of (if b then last_wins_from g es else e ∷ last_wins_from g es) ≡ ws ++ w ∷ []
      → values_of (if b then last_wins_from g (es ++ f ∷ []) else e ∷ last_wins_from g (es ++ f ∷ []))
      ≡ ws ++ f.1 ∷ []) [
        | true ↦ λ s. last-replaced g es f ws w h s
        | false ↦ λ s. after-first e.1 w (values_of (last_wins_from g es)) ws
            (values_of (last_wins_from g (es ++ f ∷ [])))
            (omega (arith, values-length (last_wins_from g es), some-stay g es)) s f.1
            (λ xs t. last-replaced g es f xs w h t)
      ] s

  append-keys : (xs : List (List ℕ × V)) (f : List ℕ × V) → keys_of (xs ++ f ∷ []) ≡ keys_of xs ++ f.0 ∷ []
  append-keys [] f = refl
  append-keys (x ∷ xs) f = ap (λ z. x.0 ∷ z) (append-keys xs f)

  append-values : (xs : List (List ℕ × V)) (f : List ℕ × V) → values_of (xs ++ f ∷ []) ≡ values_of xs ++ f.1 ∷ []
  append-values [] f = refl
  append-values (x ∷ xs) f = ap (λ z. x.1 ∷ z) (append-values xs f)

  pub read-more : (es : List (List ℕ × V)) (ks : List (List ℕ)) (vs : List V) (k : List ℕ) (v : V) → WasRead es ks vs
      → order_of_last ks k ≡ Less → WasRead (es ++ (k, v) ∷ []) (ks ++ k ∷ []) (vs ++ v ∷ [])
  read-more [] ks vs k v r o = record {
    faultless = refl;
    keys = ap (λ z. z ++ k ∷ []) r.keys;
    values
        = ap (λ z. z ++ v ∷ []) r.values;
  }
  read-more (e ∷ es) ks vs k v r o =
      let o' : slice_cmp nat_cmp (last_key e.0 es) k ≡ Less = sym (order-last k e es)
      ∙ ap (λ z. order_of_last z k) (sym r.keys) ∙ o in
      let more : last_wins_from e (es ++ (k, v) ∷ []) ≡ last_wins_from e es ++ (k, v) ∷ []
      = stays-after e es (k, v) (differ k (last_key e.0 es) o') in
      record {
        faultless = still-faultless 1 e.0 es (k, v) r.faultless (not-greater k (last_key e.0 es) o');
        keys = ap (λ z. z ++ k ∷ []) r.keys ∙ sym (append-keys (last_wins_from e es) (k, v)) ∙ ap keys_of (sym more);
        values = ap (λ z. z ++ v ∷ []) r.values ∙ sym (append-values (last_wins_from e es) (k, v))
            ∙ ap values_of (sym more);
      }

  pub read-again : (es : List (List ℕ × V)) (ks : List (List ℕ)) (vs ws : List V) (w : V) (k : List ℕ) (v : V)
      → WasRead es ks vs → order_of_last ks k ≡ Equal → vs ≡ ws ++ w ∷ [] → WasRead (es ++ (k, v) ∷ []) ks
      (ws ++ v ∷ [])
  read-again [] ks vs ws w k v r o s = let e : order_of_last [] k ≡ Equal = ap (λ z. order_of_last z k) (sym r.keys)
      ∙ o in absurd (cc)
  read-again (e ∷ es) ks vs ws w k v r o s =
      let o' : slice_cmp nat_cmp (last_key e.0 es) k ≡ Equal = sym (order-last k e es)
      ∙ ap (λ z. order_of_last z k) (sym r.keys) ∙ o in
      let same = are-equal k (last_key e.0 es) o' in
      record {
        faultless = still-faultless 1 e.0 es (k, v) r.faultless (not-equal k (last_key e.0 es) o');
        keys = r.keys ∙ sym (same-keys e es (k, v) same);
        values = sym (last-replaced e es (k, v) ws w same (sym r.values ∙ s));
      }

  pub read-fault : (es : List (List ℕ × V)) (ks : List (List ℕ)) (vs : List V) (k : List ℕ) (v : V) → WasRead es ks vs
      → order_of_last ks k ≡ Greater → first_fault (es ++ (k, v) ∷ []) ≡ Some (length es)
  read-fault [] ks vs k v r o = let e : order_of_last [] k ≡ Greater = ap (λ z. order_of_last z k) (sym r.keys) ∙ o in
      absurd (cc)
  read-fault (e ∷ es) ks vs k v r o =
      let o' : slice_cmp nat_cmp (last_key e.0 es) k ≡ Greater = sym (order-last k e es)
      ∙ ap (λ z. order_of_last z k) (sym r.keys) ∙ o in
      fault-at-end 1 e.0 es (k, v) r.faultless (is-below k (last_key e.0 es) o') ∙ ap Some (omega arith)
