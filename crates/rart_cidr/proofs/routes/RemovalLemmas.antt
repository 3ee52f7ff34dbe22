-- The first route inside a network, and the table without it.
use Rattle.std.proofs.Common.{◌≡◌, ℕ, ◌+◌, ◌<◌, ◌⊎◌, inl, inr, arith, length, Bool, List, [], ◌∷◌, ◌++◌, true, false}
use Rattle.std.proofs.Common.{not}
use Rattle.std.proofs.Common.{refl, sym, ap, ◌∙◌, Option, Some, None, if◌then◌else◌}
use Rattle.std.specs.Prelude.{◌≢◌, ◌↔◌, is_some, option_map, slice_get, IsTrue}
use Rattle.std.proofs.lemmas.List.{append_assoc}
use Rattle.rart_keys.specs.ByteStrings.{begins, bytes_eq}
use Rattle.rart_keys.specs.Filters.{below, last_or, longest_match, matches, without_prefix}
use Rattle.rart_keys.specs.Ranges.{pairs_from}
use Rattle.rart_keys.specs.SortedMap.{IsAscending, without}
use Rattle.rart_keys.proofs.strings.ByteOrder.{bytes_eq-equal}
use Rattle.rart_cidr.specs.tables.ManyEdits.{LeavesRest}
use Rattle.rart_cidr.specs.Walks.{up_to_outside}
use Rattle.rart_cidr.proofs.routes.SplitLemmas.{split-without}
use Rattle.rart_cidr.proofs.walks.FilterLemmas.{ascending_filter, up_to_outside_is}

module _ {T : Type 0} where
  -- the network of the first route
  abbrev pub first_key : List (List ℕ × T) → Option (List ℕ)
  first_key es = option_map (λ e. e.0) (slice_get es 0)

  head-inside : (q n : List ℕ) (es : List (List ℕ × T)) → Some n ≡ first_key es → begins q n ≡ true
      → Some n ≡ first_key (up_to_outside q es)
  head-inside q n [] h b = absurd (let x = h in cc)
  head-inside q n (e ∷ es) h b = let same : n ≡ e.0 = (let x = h in cc) in
      let begun : begins q e.0 ≡ true = ap (begins q) (sym same) ∙ b in rw begun (ap Some same)

  head-outside : (q n : List ℕ) (es : List (List ℕ × T)) → Some n ≡ first_key es → begins q n ≡ false
      → up_to_outside q es ≡ []
  head-outside q n [] h b = refl
  head-outside q n (e ∷ es) h b = let same : n ≡ e.0 = (let x = h in cc) in
      let begun : begins q e.0 ≡ false = ap (begins q) (sym same) ∙ b in rw begun refl

  pub no-first : (es : List (List ℕ × T)) → None ≡ first_key es → es ≡ []
  no-first [] h = refl
  no-first (e ∷ es) h = absurd (let x = h in cc)

  module _ (q : List ℕ) (v : List (List ℕ × T)) (a : IsAscending v) where
    -- the first route from q on is inside q, or none is
    pub within-found : (n : List ℕ) → Some n ≡ first_key (pairs_from true q v) → begins q n ≡ true
        → Some n ≡ first_key (below q v)
    within-found n h b = head-inside q n (pairs_from true q v) h b ∙ ap first_key (up_to_outside_is q v a)

    pub within-outside : (n : List ℕ) → Some n ≡ first_key (pairs_from true q v) → begins q n ≡ false
        → None ≡ first_key (below q v)
    within-outside n h b
        = ap first_key (sym (head-outside q n (pairs_from true q v) h b) ∙ up_to_outside_is q v a)

    pub within-none : None ≡ first_key (pairs_from true q v) → None ≡ first_key (below q v)
    within-none h = ap first_key (ap (up_to_outside q) (sym (no-first (pairs_from true q v) h))
        ∙ up_to_outside_is q v a)

  some-first : (n : List ℕ) (es : List (List ℕ × T)) → Some n ≡ first_key es → es ≢ []
  some-first n [] h = absurd (let x = h in cc)
  some-first n (e ∷ es) h = λ z. let x = z in cc

  last-some : (e : List ℕ × T) (es : List (List ℕ × T)) → last_or (Some e) es ≢ None
  last-some e [] = λ h. let x = h in cc
  last-some e (f ∷ es) = last-some f es

  no-last : (es : List (List ℕ × T)) → None ≡ last_or None es → es ≡ []
  no-last [] h = refl
  no-last (e ∷ es) h = absurd (last-some e es (sym h))

  pub overlap-covered : (q : List ℕ) (v : List (List ℕ × T)) (e : List ℕ × T) → Some e ≡ longest_match q v
      → IsTrue true ↔ ((matches q v ≢ []) ⊎ (below q v ≢ []))
  overlap-covered q v e h = (
    λ t. inl (λ m. let x = h ∙ ap (last_or None) m in cc),
    λ t. refl,
  )

  pub overlap-inside : {N : Type 0} (bits : N → List ℕ) (q : List ℕ) (v : List (List ℕ × T)) (o : Option N)
      (found : Bool) → found ≡ is_some o → None ≡ longest_match q v → option_map bits o ≡ first_key (below q v)
      → IsTrue found ↔ ((matches q v ≢ []) ⊎ (below q v ≢ []))
  overlap-inside bits q v None found s m h = (
    λ t. absurd (let x = sym s ∙ t in cc),
    λ t. absurd (either t),
  )
    where
      either : ((matches q v ≢ []) ⊎ (below q v ≢ [])) → ⊥
      either (inl n) = n (no-last (matches q v) m)
      either (inr n) = n (no-first (below q v) h)
  overlap-inside bits q v (Some n) found s m h = (λ t. inr (some-first (bits n) (below q v) h), λ t. s)

  below-commutes : (q n : List ℕ) (es : List (List ℕ × T)) → below q (without n es) ≡ without n (below q es)
  below-commutes q n [] = refl
  below-commutes q n (e ∷ es) = elim (bytes_eq e.0 n) as (λ b. bytes_eq e.0 n ≡ b
      → below q (if not b then e ∷ without n es else without n es)
      ≡ without n (if begins q e.0 then e ∷ below q es else below q es)) [
        | true ↦ λ s. elim (begins q e.0)
            as (λ b. below q (without n es) ≡ without n (if b then e ∷ below q es else below q es)) [
              | true ↦ rw s (below-commutes q n es)
              | false ↦ below-commutes q n es
            ]
        | false ↦ λ s. elim (begins q e.0) as (λ b. (if b then e ∷ below q (without n es) else below q (without n es))
            ≡ without n (if b then e ∷ below q es else below q es)) [
              | true ↦ rw s (ap (λ z. e ∷ z) (below-commutes q n es))
              | false ↦ below-commutes q n es
            ]
      ] refl

  others-same : (q n : List ℕ) (es : List (List ℕ × T)) → begins q n ≡ true
      → without_prefix q (without n es) ≡ without_prefix q es
  others-same q n [] h = refl
  others-same q n (e ∷ es) h = elim (bytes_eq e.0 n) as (λ b. bytes_eq e.0 n ≡ b
      → without_prefix q (if not b then e ∷ without n es else without n es)
      ≡ (if not (begins q e.0) then e ∷ without_prefix q es else without_prefix q es)) [
        | true ↦ λ s. let begun : begins q e.0 ≡ true = ap (begins q) (bytes_eq-equal e.0 n s) ∙ h in
            rw begun (others-same q n es h)
        | false ↦ λ s. elim (begins q e.0)
            as (λ b. (if not b then e ∷ without_prefix q (without n es) else without_prefix q (without n es))
            ≡ (if not b then e ∷ without_prefix q es else without_prefix q es)) [
              | true ↦ others-same q n es h
              | false ↦ ap (λ z. e ∷ z) (others-same q n es h)
            ]
      ] refl

  first-begun : (q n : List ℕ) (es : List (List ℕ × T)) → Some n ≡ first_key (below q es) → begins q n ≡ true
  first-begun q n [] h = absurd (let x = h in cc)
  first-begun q n (e ∷ es) h = elim (begins q e.0) as (λ b. begins q e.0 ≡ b
      → Some n ≡ first_key (if b then e ∷ below q es else below q es) → begins q n ≡ true) [
        | true ↦ λ s g. let same : n ≡ e.0 = (let x = g in cc) in ap (begins q) same ∙ s
        | false ↦ λ s g. first-begun q n es g
      ] refl h

  -- the first of the routes inside q is removed
  removed-first : (n : List ℕ) (es : List (List ℕ × T)) → IsAscending es → Some n ≡ first_key es
      → (t : T) × (es ≡ (n, t) ∷ without n es)
  removed-first n [] a h = absurd (let x = h in cc)
  removed-first n (e ∷ es) a h = let same : n ≡ e.0 = (let x = h in cc) in (
    e.1,
    ap (λ z. e ∷ z) (sym (split-without e.0 e.1 [] es a))
        ∙ ap (λ z. (z, e.1) ∷ without z (e ∷ es)) (sym same),
  )

  module _ (q n : List ℕ) (old cur : List (List ℕ × T)) (a : IsAscending cur)
      (h : Some n ≡ first_key (below q cur)) where
    first-of : (t : T) × (below q cur ≡ (n, t) ∷ below q (without n cur))
    first-of = let r = removed-first n (below q cur) (ascending_filter (begins q) cur a) h in
        (r.0, r.1 ∙ ap (λ z. (n, r.0) ∷ z) (sym (below-commutes q n cur)))

    pub leaves-more : LeavesRest q old cur → LeavesRest q old (without n cur)
    leaves-more l = let f = first-of in (
      l.0 ++ (n, f.0) ∷ [],
      l.1 ∙ ap (λ z. l.0 ++ z) f.1 ∙ sym (append_assoc l.0 ((n, f.0) ∷ []) (below q (without n cur))),
      others-same q n cur (first-begun q n cur h) ∙ l.2,
    )

    pub fewer-inside : length (below q (without n cur)) < length (below q cur)
    fewer-inside = let f = first-of in let e = ap length f.1 in omega (arith, e)

    pub some-inside : below q cur ≢ []
    some-inside = some-first n (below q cur) h

  none-inside : (q : List ℕ) (es : List (List ℕ × T)) → below q es ≡ [] → without_prefix q es ≡ es
  none-inside q [] h = refl
  none-inside q (e ∷ es) h = elim (begins q e.0) as (λ b. (if b then e ∷ below q es else below q es) ≡ []
      → (if not b then e ∷ without_prefix q es else without_prefix q es) ≡ e ∷ es) [
        | true ↦ λ g. absurd (let x = g in cc)
        | false ↦ λ g. ap (λ z. e ∷ z) (none-inside q es g)
      ] h

  -- the routes inside q and the others are all
  inside-and-others : (q : List ℕ) (es : List (List ℕ × T))
      → length (below q es) + length (without_prefix q es) ≡ length es
  inside-and-others q [] = refl
  inside-and-others q (e ∷ es) = let more = inside-and-others q es in elim (begins q e.0)
      as (λ b. length (if b then e ∷ below q es else below q es)
      + length (if not b then e ∷ without_prefix q es else without_prefix q es) ≡ length (e ∷ es)) [
        | true ↦ omega (arith, more)
        | false ↦ omega (arith, more)
      ]

  -- none is left inside q
  pub left-none : (q : List ℕ) (old cur : List (List ℕ × T)) → None ≡ first_key (below q cur) → LeavesRest q old cur
      → (cur ≡ without_prefix q old) × (length (below q old) + length cur ≡ length old)
  left-none q old cur h l =
      let same = sym (none-inside q cur (no-first (below q cur) h)) ∙ l.2 in
      (same, ap (λ z. length (below q old) + length z) same ∙ inside-and-others q old)

  pub leaves-all : (q : List ℕ) (old : List (List ℕ × T)) → LeavesRest q old old
  leaves-all q old = ([], refl, refl)
