-- A bulk load of keys at indices, key by key.
use Rattle.std.proofs.Common.{◌≡◌, ℕ, ◌+◌, ◌-◌, ◌<◌, ◌≤◌, max, zero, suc, List, [], ◌∷◌, ◌++◌, length, length-append}
use Rattle.std.proofs.Common.{refl, arith, ap, ◌∙◌, Option, subst}
use Rattle.std.proofs.lemmas.List.{length-map}
use Rattle.rart_keys.specs.KeyBytes.{IsWithin}
use Rattle.rart_keys.specs.SortedMap.{keys_of, longest_key, values_of}
use Rattle.rart.specs.BulkLoads.{AreKeysAt, CanTake, Takes}
use Rattle.rart.proofs.bulks.BulkLoadLemmas.{keys-at-end, values-at-end}
use Rattle.rart.proofs.bulks.BulkTreeLemmas.{one-key-more}
use Rattle.rart.proofs.bulks.LoaderLemmas.{longer-within, longest-at-end}
use Rattle.rart.proofs.bulks.TakeLemmas.{can_take-rest, takes-append}

-- k is the key at the index `at`; es has the pairs before it
pub record IsLoading {F V : Type 0} (pre : F → ℕ → Type 0) (step : F → ℕ → V → F → Type 0) (At : ℕ → List ℕ → Type 0)
    (m : Option ℕ) (len at : ℕ) (k : List ℕ) (es : List (List ℕ × V)) (longest : ℕ) (f g : F) : Type 0 where
  pub inside : at < len
  pub this : At at k
  pub count : length es ≡ at
  pub keys : AreKeysAt At (keys_of es)
  pub values : Takes step 0 f (values_of es) g
  pub callable : CanTake pre step at (len - at) g
  pub short : longest_key es ≤ longest
  pub reach : length k ≤ longest
  pub within : IsWithin m longest

module _ {F V : Type 0} {pre : F → ℕ → Type 0} {step : F → ℕ → V → F → Type 0} {At : ℕ → List ℕ → Type 0} {m : Option ℕ}
    {len : ℕ} where
  pub load-starts : {k : List ℕ} {es : List (List ℕ × V)} {f : F} → 0 < len → At 0 k → es ≡ []
      → CanTake pre step 0 len f → IsWithin m (length k) → IsLoading pre step At m len 0 k es (length k) f f
  load-starts {f = f} some this none can within = rw none (record {
    inside = some;
    this = this;
    count = refl;
    keys = λ i h. absurd (omega (arith, h));
    values = refl;
    callable = subst (λ (n : ℕ). CanTake pre step 0 n f) (omega arith) can;
    short = omega arith;
    reach = omega arith;
    within = within;
  })

  module _ {at : ℕ} {k : List ℕ} {es : List (List ℕ × V)} {longest : ℕ} {f g : F}
      (l : IsLoading pre step At m len at k es longest f g) where
    pub may-take : pre g at
    may-take = can-first at (len - at) g (omega (arith, l.inside)) l.callable
      where
        can-first : (i n : ℕ) (h : F) → 0 < n → CanTake pre step i n h → pre h i
        can-first i zero h s c = absurd (omega (arith, s))
        can-first i (suc n) h s c = c.0

    values-count : at ≡ 0 + length (values_of es)
    values-count = omega (arith, length-map es (λ e. e.1), l.count)

    module _ {v : V} {h : F} (call : step g at v h) where
      -- the values of a beginning were taken
      pub load-refused : (vs : List V) × (length vs ≤ len) × Takes step 0 f vs h
      load-refused = (
        values_of es ++ v ∷ [],
        omega (arith, values-count, length-append (values_of es) (v ∷ []), l.inside),
        takes-append pre step 0 at f g h (values_of es) (v ∷ []) values-count l.values (h, call, refl),
      )

      module _ {fs : List (List ℕ × V)} (e : fs ≡ es ++ (k, v) ∷ []) where
        more-count : length fs ≡ at + 1
        more-count = omega (arith, ap length e, length-append es ((k, v) ∷ []), l.count)

        pub more-keys : AreKeysAt At (keys_of fs)
        more-keys = one-key-more At at (keys_of es) (keys_of fs) k l.keys (length-map es (λ d. d.0) ∙ l.count) l.this
            (ap keys_of e ∙ keys-at-end es k v)

        pub more-values : Takes step 0 f (values_of fs) h
        more-values = rw (ap values_of e ∙ values-at-end es k v)
            (takes-append pre step 0 at f g h (values_of es) (v ∷ []) values-count l.values (h, call, refl))

        pub more-short : longest_key fs ≤ longest
        more-short = omega (arith, ap longest_key e, longest-at-end es (k, v), l.short, l.reach)

        -- one key more
        pub load-more : {next : List ℕ} {most : ℕ} → at + 1 < len → At (at + 1) next → most ≡ max longest (length next)
            → IsWithin m (length next) → IsLoading pre step At m len (at + 1) next fs most f h
        load-more {next} {most} inside this longer reach = record {
          inside = inside;
          this = this;
          count = more-count;
          keys = more-keys;
          values = more-values;
          callable = can_take-rest pre step at (at + 1) (len - at) (len - (at + 1)) g h (v ∷ []) (omega arith)
              (omega (arith, inside)) l.callable (h, call, refl);
          short = omega (arith, more-short, longer);
          reach = omega (arith, longer);
          within = rw longer (longer-within m longest (length next) l.within reach);
        }
