-- A table to which the clones of another one's targets are added, in order.
use Rattle.std.proofs.Common.{◌≡◌, ℕ, List, [], ◌∷◌, ◌++◌, refl, sym, ap, subst, ◌∙◌}
use Rattle.std.proofs.lemmas.List.{append_assoc, map-append}
use Rattle.std.specs.List.{AllZip}
use Rattle.rart_keys.specs.ByteStrings.{IsLess}
use Rattle.rart_keys.specs.SortedMap.{IsAscending, keys_of, put, values_of}
use Rattle.rart_keys.proofs.strings.ByteOrder.{below-greater}
use Rattle.rart_cidr.specs.tables.TableClones.{IsTableClone}
use Rattle.rart_cidr.proofs.routes.SplitLemmas.{above-last}

module _ {T : Type 0} (Clones : T → T → Type 0) where
  -- a route after all of the table
  put-last : (n : List ℕ) (t c : T) (done rest new : List (List ℕ × T)) → keys_of new ≡ keys_of done
      → IsAscending (done ++ (n, t) ∷ rest) → put n c new ≡ new ++ (n, c) ∷ []
  put-last n t c [] rest [] h a = refl
  put-last n t c [] rest (e ∷ new) h a = absurd (let x = h in cc)
  put-last n t c (d ∷ done) rest [] h a = absurd (let x = h in cc)
  put-last n t c (d ∷ done) rest (e ∷ new) h a = let same : e.0 ≡ d.0 = (let x = h in cc) in
      let more : keys_of new ≡ keys_of done = (let x = h in cc) in
      let below : IsLess e.0 n = subst (λ z. IsLess z n) (sym same) (above-last d.0 n t done rest a.0) in
      rw (below-greater e.0 n below) (ap (λ z. e ∷ z) (put-last n t c done rest new more a.1))

  zip-more : (ts us : List T) (t u : T) → AllZip Clones ts us → Clones t u → AllZip Clones (ts ++ t ∷ []) (us ++ u ∷ [])
  zip-more [] [] t u z c = (c, tt)
  zip-more [] (v ∷ us) t u z c = absurd z
  zip-more (s ∷ ts) [] t u z c = absurd z
  zip-more (s ∷ ts) (v ∷ us) t u z c = (z.0, zip-more ts us t u z.1 c)

  -- the first routes are cloned
  pub record Cloning (old rest new : List (List ℕ × T)) : Type 0 where
    pub done : List (List ℕ × T)
    pub old_is : old ≡ done ++ rest
    pub clone : IsTableClone Clones done new

module _ {T : Type 0} {Clones : T → T → Type 0} {old rest new : List (List ℕ × T)} (c : Cloning Clones old rest new)
  where
    pub cloned-more : {n : List ℕ} {t u : T} {later then : List (List ℕ × T)} → IsAscending old
        → rest ≡ (n, t) ∷ later → Clones t u → then ≡ put n u new → Cloning Clones old later then
    cloned-more {n} {t} {u} {later} {then} a h k p =
        let all : old ≡ c.done ++ (n, t) ∷ later = c.old_is ∙ ap (λ z. c.done ++ z) h in
        let is : then ≡ new ++ (n, u) ∷ []
        = p ∙ put-last Clones n t u c.done later new c.clone.networks (subst IsAscending all a) in record {
          done = c.done ++ (n, t) ∷ [];
          old_is = all ∙ sym (append_assoc c.done ((n, t) ∷ []) later);
          clone = record {
            networks = ap keys_of is ∙ map-append (λ e. e.0) new ((n, u) ∷ [])
                ∙ ap (λ z. z ++ n ∷ []) c.clone.networks ∙ sym (map-append (λ e. e.0) c.done ((n, t) ∷ []));
            targets = subst (λ z. AllZip Clones (values_of (c.done ++ (n, t) ∷ [])) (values_of z)) (sym is)
                (subst (λ z. AllZip Clones z (values_of (new ++ (n, u) ∷ []))) (sym (map-append (λ e. e.1) c.done
                ((n, t) ∷ []))) (subst (λ z. AllZip Clones (values_of c.done ++ t ∷ []) z)
                (sym (map-append (λ e. e.1) new ((n, u) ∷ [])))
                (zip-more Clones (values_of c.done) (values_of new) t u c.clone.targets k)));
          };
        }
