-- A key sought among the keys of a sorted map, read from its block.
use Rattle.std.proofs.Common.{◌≡◌, ℕ, ◌<◌, ◌≤◌, ◌*◌, ◌^◌, List, Some, None, length, get_or, sym, ap, ◌∙◌, refl, arith}
use Rattle.std.proofs.Common.{set, subst, ◌-◌, ⊎_elim}
use Rattle.std.proofs.lemmas.Bool.{cases_lt}
use Rattle.std.proofs.lemmas.Bool.Decides.{eqb_tells}
use Rattle.rart_maps.specs.Bounds.{IsFirstNotBelow}
use Rattle.std.specs.List.{zip}
use Rattle.rart_parts.specs.Entries.{child_at, replaced_at}
use Rattle.rart_parts.specs.Keys.{IsAscendingBelow, IsPlaceOf}
use Rattle.rart_maps.specs.SortedKeyed.{IsSortedKeyed, IsPadded}
use Rattle.rart_maps.proofs.Zipped.{child_found, child_none, replaced_found, set_zip}
use Rattle.rart_maps.proofs.SortedLemmas.{fits, ordered}

-- the keys read are those of the map
sorted_at : {X : Type 0} {width : ℕ} {ks ks' : List ℕ} {vs : List X} → ks' ≡ ks → IsSortedKeyed width ks vs width
    → IsSortedKeyed width ks' vs width
sorted_at {width = width} {vs = vs} e s = subst (λ k. IsSortedKeyed width k vs width) (sym e) s

module _ {X : Type 0} {width : ℕ} {ks ks' : List ℕ} {vs : List X} (read : ks' ≡ ks)
    (s : IsSortedKeyed width ks vs width) (n : ℕ) (count : n ≡ length vs) where
  s' : IsSortedKeyed width ks' vs width
  s' = sorted_at read s

  -- what a search among them requires
  pub searched : (width * 1 < 2 ^ 63) × ((n ≤ width) × (IsAscendingBelow ks' n × IsPadded ks' n width))
  searched = (
    omega (arith, s.narrow),
    (
      omega (arith, count, s.few),
      (ordered s' n count, λ k l. s'.padded k (omega (arith, l, count))),
    ),
  )

  module _ (key : ℕ) where
    pub found : (p : ℕ) (x : X) → IsPlaceOf ks' n key (Some p) → x ≡ get_or vs p x → Some x ≡ child_at key (zip ks vs)
    found p x f is = sym (child_found key ks' vs p x (fits s') (omega (arith, f.0, count)) f.1 f.2 is)
        ∙ ap (λ k. child_at key (zip k vs)) read

    pub not_found : IsPlaceOf ks' n key None → None ≡ child_at key (zip ks vs)
    not_found f = sym (child_none key ks' vs (λ j l. f j (omega (arith, l, count))))
        ∙ ap (λ k. child_at key (zip k vs)) read

    -- another child was left at that place
    pub left_at : (p : ℕ) (w : X) → IsPlaceOf ks' n key (Some p) → zip ks (set vs p w) ≡ replaced_at key w (zip ks vs)
    left_at p w f = ap (λ k. zip k (set vs p w)) (sym read) ∙ set_zip ks' vs p w
        ∙ replaced_found key ks' vs p w (fits s') (omega (arith, f.0, count)) f.1 f.2
        ∙ ap (λ k. replaced_at key w (zip k vs)) read

  -- the last key below a bound
  module _ (bound p : ℕ) (place : IsFirstNotBelow ks' n bound p) where
    not_below : (j : ℕ) → p ≤ j → j < n → bound ≤ get_or ks' j 0
    not_below j l m = ⊎_elim
        (λ t. omega (arith, place.2 (omega (arith, t.1, m)), ap (λ i. get_or ks' i 0) t.1))
        (λ t. omega (arith, place.2 (omega (arith, l, m)), ordered s' n count p j (omega (arith, l, t.1)) m))
        (eqb_tells j p)

    pub none_below : p ≡ 0 → (b : ℕ) → b < bound → child_at b (zip ks vs) ≡ None
    none_below e b l = sym (ap (λ k. child_at b (zip k vs)) read)
        ∙ child_none b ks' vs (λ j m q. omega (arith, q, l, not_below j (omega (arith, e)) (omega (arith, m, count))))

    pub last_below : (x : X) → 0 < p → x ≡ get_or vs (p - 1) x
        → (get_or ks' (p - 1) 0 < bound) × (child_at (get_or ks' (p - 1) 0) (zip ks vs) ≡ Some x)
        × ((b : ℕ) → get_or ks' (p - 1) 0 < b → b < bound → child_at b (zip ks vs) ≡ None)
    last_below x some is = (
      place.1 (p - 1) (omega (arith, some)),
      sym (ap (λ k. child_at (get_or ks' (p - 1) 0) (zip k vs)) read)
          ∙ child_found (get_or ks' (p - 1) 0) ks' vs (p - 1) x (fits s') (omega (arith, some, place.0, count)) refl
          (λ j l q. omega (arith, q, ordered s' n count j (p - 1) l (omega (arith, some, place.0)))) is,
      λ b above l. sym (ap (λ k. child_at b (zip k vs)) read) ∙ child_none b ks' vs (λ j m q. ⊎_elim
          (λ t. omega (arith, q, above, ap (λ i. get_or ks' i 0) t.1))
          (λ t. ⊎_elim
          (λ u. omega (
            arith,
            q,
            above,
            ordered s' n count j (p - 1) (omega (arith, u, t.1))
                (omega (arith, some, place.0)),
          ))
          (λ u. omega (arith, q, l, not_below j (omega (arith, u, t.1)) (omega (arith, m, count))))
          (cases_lt j p))
          (eqb_tells j (p - 1))),
    )
