-- Routes as their strides hold them: look-ups, edits and lengths.
use Rattle.std.proofs.Common.{◌≡◌, ℕ, ◌⊎◌, ⊎_elim, inl, inr, List, [], ◌∷◌, true, false, refl, sym, ap, subst, ◌∙◌}
use Rattle.std.proofs.Common.{Some, None}
use Rattle.std.specs.Prelude.{◌≢◌}
use Rattle.rart_keys.specs.ByteStrings.{bytes_eq}
use Rattle.rart_keys.specs.KeyBytes.{AreBytes}
use Rattle.rart_keys.specs.SortedMap.{AreAbove, IsAscending, lookup, put, without}
use Rattle.rart_keys.proofs.strings.ByteOrder.{bytes_eq-differ, bytes_eq-equal, bytes_eq-itself}
use Rattle.rart_keys.proofs.maps.SortedMaps.{ascending-put, ascending-without, equal_by_lookups, lookup-above}
use Rattle.rart_keys.proofs.maps.SortedMaps.{lookup-put}
use Rattle.rart_keys.proofs.maps.SortedMaps.{lookup-put_at, lookup-put_elsewhere, lookup-without, lookup-without_at}
use Rattle.rart_keys.proofs.maps.SortedMaps.{lookup-without_elsewhere}
use Rattle.rart_cidr.specs.Routes.{AreCodes, AreStrides, IsCode, coded_network, routes_of, stride_at, stride_or_empty}
use Rattle.rart_cidr.specs.Routes.{with_stride}
use Rattle.rart_cidr.proofs.networks.BitLemmas.{codes-alike}

pub same_or_not : (k l : List ℕ) → (k ≡ l) ⊎ (k ≡ l → ⊥)
same_or_not k l = elim (bytes_eq k l) as (λ b. bytes_eq k l ≡ b → (k ≡ l) ⊎ (k ≡ l → ⊥)) [
  | true ↦ λ e. inl (bytes_eq-equal k l e)
  | false ↦ λ e. inr (λ m. let t = bytes_eq-itself l in let u = ap (λ z. bytes_eq z l) m in cc)
] refl

-- a network that bytes and a code make
unfoldable pub IsFormed : List ℕ → Type 0
IsFormed q = (o : List ℕ) × (k : List ℕ) × (q ≡ coded_network o k) × AreBytes o × IsCode k

module _ {T : Type 0} where
  pub with-ascends : (o : List ℕ) (s r : List (List ℕ × T)) → IsAscending r → IsAscending (with_stride o s r)
  with-ascends o [] r a = a
  with-ascends o (e ∷ s) r a = ascending-put (coded_network o e.0) e.1 (with_stride o s r) (with-ascends o s r a)

  pub routes-ascend : (S : List (List ℕ × List (List ℕ × T))) → IsAscending (routes_of S)
  routes-ascend [] = tt
  routes-ascend (e ∷ S) = with-ascends e.0 e.1 (routes_of S) (routes-ascend S)

  -- the routes of a stride at its own bytes, and at others
  pub with-here : (o k : List ℕ) (s r : List (List ℕ × T)) → AreBytes o → AreCodes s → IsCode k
      → lookup (coded_network o k) r ≡ None → lookup (coded_network o k) (with_stride o s r) ≡ lookup k s
  with-here o k [] r f a c n = n
  with-here o k (e ∷ s) r f a c n = lookup-put (coded_network o k) (coded_network o e.0) e.1 (with_stride o s r)
      ∙ ⊎_elim
      (λ m. let one : bytes_eq (coded_network o e.0) (coded_network o k) ≡ true
      = ap (λ z. bytes_eq (coded_network o z) (coded_network o k)) m ∙ bytes_eq-itself (coded_network o k) in
      let two : bytes_eq e.0 k ≡ true = ap (λ z. bytes_eq z k) m ∙ bytes_eq-itself k in rw (one, two) refl)
      (λ m. let one : bytes_eq (coded_network o e.0) (coded_network o k) ≡ false
      = bytes_eq-differ _ _ (λ h. m (codes-alike o o e.0 k f f a.0 c h).1) in
      rw (one, bytes_eq-differ e.0 k m) (with-here o k s r f a.1 c n))
      (same_or_not e.0 k)

  with-elsewhere : (o p k : List ℕ) (s r : List (List ℕ × T)) → AreBytes o → AreBytes p → AreCodes s → IsCode k
      → (o ≡ p → ⊥) → lookup (coded_network p k) (with_stride o s r) ≡ lookup (coded_network p k) r
  with-elsewhere o p k [] r f g a c n = refl
  with-elsewhere o p k (e ∷ s) r f g a c n
      = lookup-put (coded_network p k) (coded_network o e.0) e.1 (with_stride o s r) ∙
      (let one : bytes_eq (coded_network o e.0) (coded_network p k) ≡ false
      = bytes_eq-differ _ _ (λ h. n (codes-alike o p e.0 k f g a.0 c h).0) in
      rw one (with-elsewhere o p k s r f g a.1 c n))

  -- a look-up in the routes is a look-up in a stride
  pub lookup-routes : (S : List (List ℕ × List (List ℕ × T))) (o k : List ℕ) → IsAscending S → AreStrides S → AreBytes o
      → IsCode k → lookup (coded_network o k) (routes_of S) ≡ lookup k (stride_at o S)
  lookup-routes [] o k a b f c = refl
  lookup-routes (e ∷ S) o k a b f c = ⊎_elim
      (λ m. let one : bytes_eq e.0 o ≡ true = ap (λ z. bytes_eq z o) m ∙ bytes_eq-itself o in
      let above : AreAbove o S = subst (λ z. AreAbove z S) m a.0 in
      let none : lookup (coded_network o k) (routes_of S) ≡ None = lookup-routes S o k a.1 b.4 f c
      ∙ ap (λ z. lookup k (stride_or_empty z)) (lookup-above o S above) in
      ap (λ z. lookup (coded_network o k) (with_stride z e.1 (routes_of S))) m
      ∙ with-here o k e.1 (routes_of S) f b.2 c none ∙ sym (rw one refl))
      (λ m. with-elsewhere e.0 o k e.1 (routes_of S) b.0 f b.2 c m ∙ lookup-routes S o k a.1 b.4 f c
      ∙ sym (rw (bytes_eq-differ e.0 o m) refl))
      (same_or_not e.0 o)

  with-formed : (o q : List ℕ) (v : T) (s r : List (List ℕ × T)) → AreBytes o → AreCodes s
      → (lookup q r ≡ Some v → IsFormed q) → lookup q (with_stride o s r) ≡ Some v → IsFormed q
  unfolding IsFormed
  with-formed o q v [] r f a n h = n h
  with-formed o q v (e ∷ s) r f a n h = ⊎_elim
      (λ m. (o, e.0, sym m, f, a.0))
      (λ m. with-formed o q v s r f a.1 n (sym
      (lookup-put_elsewhere q (coded_network o e.0) e.1 (with_stride o s r) (λ z. m (sym z))) ∙ h))
      (same_or_not (coded_network o e.0) q)

  pub routes-formed : (S : List (List ℕ × List (List ℕ × T))) (q : List ℕ) (v : T) → AreStrides S
      → lookup q (routes_of S) ≡ Some v → IsFormed q
  routes-formed [] q v b h = absurd (cc)
  routes-formed (e ∷ S) q v b h = with-formed e.0 q v e.1 (routes_of S) b.0 b.2 (routes-formed S q v b.4) h

  -- ascending lists of such networks are equal, if the look-ups of these are
  by-codes : (xs ys : List (List ℕ × T)) → IsAscending xs → IsAscending ys
      → ((q : List ℕ) (v : T) → lookup q xs ≡ Some v → IsFormed q)
      → ((q : List ℕ) (v : T) → lookup q ys ≡ Some v → IsFormed q) →
      ((o k : List ℕ) → AreBytes o → IsCode k → lookup (coded_network o k) xs ≡ lookup (coded_network o k) ys) → xs ≡ ys
  unfolding IsFormed
  by-codes xs ys a b f g h = equal_by_lookups xs ys a b
      (λ q. elim (lookup q xs) as (λ x. lookup q xs ≡ x → x ≡ lookup q ys) [
        | None ↦ λ m. elim (lookup q ys) as (λ y. lookup q ys ≡ y → None ≡ y) [
          | None ↦ λ n. refl
          | Some v ↦ λ n. let w = g q v n in sym (sym n ∙ ap (λ z. lookup z ys) w.2 ∙ sym (h w.0 w.1 w.3 w.4)
              ∙ ap (λ z. lookup z xs) (sym w.2) ∙ m)
        ] refl
        | Some v ↦ λ m. let w = f q v m in sym m ∙ ap (λ z. lookup z xs) w.2 ∙ h w.0 w.1 w.3 w.4
            ∙ ap (λ z. lookup z ys) (sym w.2)
      ] refl)

  formed-put : (xs : List (List ℕ × T)) (o k q : List ℕ) (t v : T) → AreBytes o → IsCode k
      → (lookup q xs ≡ Some v → IsFormed q) → lookup q (put (coded_network o k) t xs) ≡ Some v → IsFormed q
  unfolding IsFormed
  formed-put xs o k q t v f c n h = ⊎_elim
      (λ m. (o, k, sym m, f, c))
      (λ m. n (sym (lookup-put_elsewhere q (coded_network o k) t xs (λ z. m (sym z))) ∙ h))
      (same_or_not (coded_network o k) q)

  formed-without : (xs : List (List ℕ × T)) (p q : List ℕ) (v : T) → (lookup q xs ≡ Some v → IsFormed q)
      → lookup q (without p xs) ≡ Some v → IsFormed q
  formed-without xs p q v n h = ⊎_elim
      (λ m. absurd (let t = sym (lookup-without_at p xs) ∙ ap (λ z. lookup z (without p xs)) m ∙ h in cc))
      (λ m. n (sym (lookup-without_elsewhere q p xs (λ z. m (sym z))) ∙ h))
      (same_or_not p q)

  -- the strides differ at the bytes o alone, where t is put at k: so do the routes
  pub routes-put : (S R : List (List ℕ × List (List ℕ × T))) (o k : List ℕ) (t : T) → IsAscending S → IsAscending R
      → AreStrides S → AreStrides R → AreBytes o → IsCode k →
      ((p : List ℕ) → (p ≡ o → ⊥) → stride_at p R ≡ stride_at p S) → stride_at o R ≡ put k t (stride_at o S)
      → routes_of R ≡ put (coded_network o k) t (routes_of S)
  routes-put S R o k t a b f g c d e h = by-codes (routes_of R) (put (coded_network o k) t (routes_of S))
      (routes-ascend R) (ascending-put _ t (routes_of S) (routes-ascend S))
      (λ q v. routes-formed R q v g) (λ q v. formed-put (routes_of S) o k q t v c d (routes-formed S q v f))
      (λ p l i j. lookup-routes R p l b g i j ∙ ⊎_elim
      (λ m. ap (λ z. lookup l (stride_at z R)) m ∙ ap (lookup l) h ∙ lookup-put l k t (stride_at o S)
      ∙ sym (lookup-put (coded_network p l) (coded_network o k) t (routes_of S) ∙
      ⊎_elim
      (λ n. let one : bytes_eq (coded_network o k) (coded_network p l) ≡ true
      = ap (λ z. bytes_eq (coded_network o k) (coded_network z l)) m
      ∙ ap (λ z. bytes_eq (coded_network o z) (coded_network o l)) n ∙ bytes_eq-itself (coded_network o l) in
      let two : bytes_eq k l ≡ true = ap (λ z. bytes_eq z l) n ∙ bytes_eq-itself l in rw (one, two) refl)
      (λ n. let one : bytes_eq (coded_network o k) (coded_network p l) ≡ false
      = bytes_eq-differ _ _ (λ z. n (codes-alike o p k l c i d j z).1) in
      rw (one, bytes_eq-differ k l n) (lookup-routes S p l a f i j ∙ ap (λ z. lookup l (stride_at z S)) m))
      (same_or_not k l)))
      (λ m. ap (lookup l) (e p m) ∙ sym (lookup-put_elsewhere (coded_network p l) (coded_network o k) t (routes_of S)
      (λ z. m (codes-alike p o l k i c j d z).0) ∙ lookup-routes S p l a f i j))
      (same_or_not p o))

  pub routes-without : (S R : List (List ℕ × List (List ℕ × T))) (o k : List ℕ) → IsAscending S → IsAscending R
      → AreStrides S → AreStrides R → AreBytes o → IsCode k →
      ((p : List ℕ) → (p ≡ o → ⊥) → stride_at p R ≡ stride_at p S) → stride_at o R ≡ without k (stride_at o S)
      → routes_of R ≡ without (coded_network o k) (routes_of S)
  routes-without S R o k a b f g c d e h = by-codes (routes_of R) (without (coded_network o k) (routes_of S))
      (routes-ascend R) (ascending-without _ (routes_of S) (routes-ascend S))
      (λ q v. routes-formed R q v g) (λ q v. formed-without (routes_of S) (coded_network o k) q v
      (routes-formed S q v f))
      (λ p l i j. lookup-routes R p l b g i j ∙ ⊎_elim
      (λ m. ap (λ z. lookup l (stride_at z R)) m ∙ ap (lookup l) h ∙ lookup-without l k (stride_at o S)
      ∙ sym (lookup-without (coded_network p l) (coded_network o k) (routes_of S) ∙
      ⊎_elim
      (λ n. let one : bytes_eq (coded_network o k) (coded_network p l) ≡ true
      = ap (λ z. bytes_eq (coded_network o k) (coded_network z l)) m
      ∙ ap (λ z. bytes_eq (coded_network o z) (coded_network o l)) n ∙ bytes_eq-itself (coded_network o l) in
      let two : bytes_eq k l ≡ true = ap (λ z. bytes_eq z l) n ∙ bytes_eq-itself l in rw (one, two) refl)
      (λ n. let one : bytes_eq (coded_network o k) (coded_network p l) ≡ false
      = bytes_eq-differ _ _ (λ z. n (codes-alike o p k l c i d j z).1) in
      rw (one, bytes_eq-differ k l n) (lookup-routes S p l a f i j ∙ ap (λ z. lookup l (stride_at z S)) m))
      (same_or_not k l)))
      (λ m. ap (lookup l) (e p m) ∙ sym (lookup-without_elsewhere (coded_network p l) (coded_network o k) (routes_of S)
      (λ z. m (codes-alike p o l k i c j d z).0) ∙ lookup-routes S p l a f i j))
      (same_or_not p o))

  pub put-some : (k : List ℕ) (t : T) (s : List (List ℕ × T)) → put k t s ≢ []
  put-some k t s e = let n = sym (lookup-put_at k t s) ∙ ap (lookup k) e in cc
