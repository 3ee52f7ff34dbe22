-- What the edits of strides and of routes owe, by the facts that the code has.
use Rattle.std.proofs.Common.{◌≡◌, ℕ, zero, suc, ◌+◌, ◌*◌, ◌/◌, ◌%◌, ◌<◌, ◌≤◌, ◌⊎◌, ⊎_elim, inl, inr, length, take}
use Rattle.std.proofs.Common.{arith, List, [], ◌∷◌, true, refl, sym, ap, subst, ◌∙◌, Option, Some, None}
use Rattle.std.specs.Prelude.{◌≢◌, slice_index, Result, Ok, Err}
use Rattle.rart_keys.specs.ByteStrings.{bytes_eq}
use Rattle.rart_keys.specs.KeyBytes.{AreBytes, AreBytes-take}
use Rattle.rart_keys.specs.SortedMap.{IsAscending, count_of, lookup, put, without}
use Rattle.rart_keys.proofs.strings.ByteOrder.{bytes_eq-differ, bytes_eq-itself}
use Rattle.rart_keys.proofs.maps.SortedMaps.{ascending-put, equal_by_lookups, length-put, lookup-above, lookup-put_at}
use Rattle.rart_keys.proofs.maps.SortedMaps.{lookup-put_elsewhere}
use Rattle.rart_trie.specs.declared.refused.Refused.{Refused}
use Rattle.rart_parts.specs.declared.error.TreeError.{TreeError}
use Rattle.rart_parts.specs.declared.error.TreeError.TheVariants.{Memory, Full}
use Rattle.rart.specs.Refusals.{MayRefuseInsert, MayRefuseRemove}
use Rattle.rart.specs.declared.tree.TheConstants.{MAX_PAIRS}
use Rattle.rart_cidr.specs.Bits.{code, network}
use Rattle.rart_cidr.specs.Edits.{MayRefuseRoute, MayRefuseTarget, PutsIn, PutsTarget, TakesFrom, TakesTarget}
use Rattle.rart_cidr.specs.Fields.{AreTableFields}
use Rattle.rart_cidr.specs.Routes.{AreStrides, routes_of, set_stride, stride_at, stride_or_empty}
use Rattle.rart_cidr.proofs.networks.BitLemmas.{code-in_range, network-coded}
use Rattle.rart_cidr.proofs.routes.RefusalLemmas.{insert_allocates-some, remove_allocates-five}
use Rattle.rart_cidr.proofs.routes.RouteLemmas.{routes-ascend, same_or_not}
use Rattle.rart_cidr.proofs.routes.StrideLemmas.{few-strides, few-targets, lookup-network, put-target, set-put}
use Rattle.rart_cidr.proofs.routes.StrideLemmas.{take-target}
use Rattle.rart_cidr.proofs.routes.StrideLemmas.{without-absent}

less_or_equal : (m n : ℕ) → m ≤ n → (m < n) ⊎ (m ≡ n)
less_or_equal zero zero l = inr refl
less_or_equal zero (suc n) l = inl (omega arith)
less_or_equal (suc m) zero l = absurd (omega arith)
less_or_equal (suc m) (suc n) l = ⊎_elim (λ h. inl (omega arith)) (λ h. inr (ap suc h))
    (less_or_equal m n (omega arith))

module _ {T : Type 0} where
  -- look-ups of a network
  pub get-some : (S : List (List ℕ × List (List ℕ × T))) (o : List ℕ) (n : ℕ) → IsAscending S → AreStrides S
      → AreBytes o → n ≤ 8 * length o → (s : List (List ℕ × T)) (q : List ℕ) (x c : ℕ) (r : Option T) →
      q ≡ take (n / 8) o → Some s ≡ lookup q S → x ≡ slice_index o (n / 8) → c ≡ code x (n % 8) → r ≡ lookup (c ∷ []) s
      → r ≡ lookup (network o n) (routes_of S)
  get-some S o n a b f h s q x c r e t ex ec er = er ∙ ap (λ z. lookup (z ∷ []) s) (ec ∙ ap (λ z. code z (n % 8)) ex) ∙
      ap (λ z. lookup (code (slice_index o (n / 8)) (n % 8) ∷ []) (stride_or_empty z)) (t ∙ ap (λ z. lookup z S) e)
      ∙ sym (lookup-network S o n a b f h)

  pub get-none : (S : List (List ℕ × List (List ℕ × T))) (o : List ℕ) (n : ℕ) → IsAscending S → AreStrides S
      → AreBytes o → n ≤ 8 * length o → (q : List ℕ) → q ≡ take (n / 8) o → None ≡ lookup q S
      → None ≡ lookup (network o n) (routes_of S)
  get-none S o n a b f h q e t =
      ap (λ z. lookup (code (slice_index o (n / 8)) (n % 8) ∷ []) (stride_or_empty z)) (t ∙ ap (λ z. lookup z S) e)
      ∙ sym (lookup-network S o n a b f h)

  pub put-same : (S : List (List ℕ × List (List ℕ × T))) (o : List ℕ) (s : List (List ℕ × T)) → IsAscending S
      → lookup o S ≡ Some s → put o s S ≡ S
  put-same S o s a e = equal_by_lookups (put o s S) S (ascending-put o s S a) a (λ q. ⊎_elim
      (λ m. ap (λ z. lookup z (put o s S)) m ∙ lookup-put_at o s S ∙ sym e ∙ ap (λ z. lookup z S) (sym m))
      (λ m. lookup-put_elsewhere q o s S m)
      (same_or_not q o))

  may-refuse : (S : List (List ℕ × List (List ℕ × T))) (o k : List ℕ) (s : List (List ℕ × T)) (error : TreeError)
      → lookup o S ≡ Some s → MayRefuseInsert s k error → MayRefuseTarget S o k error
  may-refuse S o k s Memory e m = (
    ap (λ z. lookup k (stride_or_empty z)) e ∙ m.0,
    λ n. let none
        = ap (lookup o) n in cc,
  )
  may-refuse S o k s Full e m = let at : stride_at o S ≡ s = ap stride_or_empty e in
      (ap (lookup k) at ∙ m.0, λ l. absurd (omega (arith, l, ap length at, m.1)))

  -- a stride that isn't removed
  pub keeps-stride : (S R : List (List ℕ × List (List ℕ × T))) (o k : List ℕ) (error : TreeError)
      → lookup k (stride_at o S) ≢ None → MayRefuseRemove S o error → R ≡ S → TakesTarget o k S R (Err error)
  keeps-stride S R o k error n m e = (m.0, n, inl (remove_allocates-five S o m.2), e)

  -- an edit in its place is the edit of the strides
  pub puts-in : (S R : List (List ℕ × List (List ℕ × T))) (o k : List ℕ) (t : T) (s : List (List ℕ × T))
      (r : Result (Option T) (Refused T)) → IsAscending S → Some s ≡ lookup o S → PutsIn o k t S R r
      → PutsTarget o k t S R r
  puts-in S R o k t s (Ok was) a e p = let w = p s (sym e) in let at : stride_at o S ≡ s
      = ap stride_or_empty (sym e) in (
        w.2.0 ∙ ap (lookup k) (sym at),
        w.1 ∙ ap (λ z. put o z S) (w.2.2 ∙ ap (put k t) (sym at))
            ∙ sym (set-put S o k t (stride_at o S)),
      )
  puts-in S R o k t s (Err refused) a e p = let w = p s (sym e) in let at : stride_at o S ≡ s
      = ap stride_or_empty (sym e) in (
        w.2.0,
        may-refuse S o k s refused.error (sym e) w.2.1,
        w.1 ∙ ap (λ z. put o z S) w.2.2 ∙ put-same S o s a (sym e),
      )

  only-empty : (k : List ℕ) (s : List (List ℕ × T)) → lookup k s ≢ None → length s ≡ 1 → without k s ≡ []
  only-empty k [] n l = refl
  only-empty k (e ∷ f ∷ s) n l = absurd (omega (arith, l))
  only-empty k (e ∷ []) n l = ⊎_elim
      (λ m. let one : bytes_eq e.0 k ≡ true = ap (λ z. bytes_eq z k) m ∙ bytes_eq-itself k in rw one refl)
      (λ m. absurd (n (rw (bytes_eq-differ e.0 k m) refl)))
      (same_or_not e.0 k)

  length-without : (k : List ℕ) (s : List (List ℕ × T)) → IsAscending s → length s ≤ length (without k s) + 1
  length-without k [] a = omega arith
  length-without k (e ∷ s) a = ⊎_elim
      (λ m. let one : bytes_eq e.0 k ≡ true = ap (λ z. bytes_eq z k) m ∙ bytes_eq-itself k in
      let same : without e.0 s ≡ s = without-absent e.0 s a.1 (lookup-above e.0 s a.0) in
      let rest : without k s ≡ s = ap (λ z. without z s) (sym m) ∙ same in rw one (omega (arith, ap length rest)))
      (λ m. let rest = length-without k s a.1 in rw (bytes_eq-differ e.0 k m) (omega (arith, rest)))
      (same_or_not e.0 k)

  set-some : (S : List (List ℕ × List (List ℕ × T))) (o : List ℕ) (s : List (List ℕ × T)) → 0 < length s
      → set_stride o s S ≡ put o s S
  set-some S o [] l = absurd (omega arith)
  set-some S o (e ∷ s) l = refl

  not-one : (s : List (List ℕ × T)) (m : ℕ) → length s ≤ m + 1 → (s ≡ [] → ⊥) → (length s ≡ 1 → ⊥) → 0 < m
  not-one [] m l e n = absurd (e refl)
  not-one (x ∷ []) m l e n = absurd (n refl)
  not-one (x ∷ y ∷ s) m l e n = omega (arith, l)

  pub takes-stride : (S R : List (List ℕ × List (List ℕ × T))) (o k : List ℕ) (s : List (List ℕ × T)) (r : Option T)
      → Some s ≡ lookup o S → R ≡ without o S → r ≡ lookup k s → lookup k (stride_at o S) ≢ None
      → length (stride_at o S) ≡ 1 → TakesTarget o k S R (Ok r)
  takes-stride S R o k s None e f h n l = absurd (n (ap (λ z. lookup k (stride_or_empty z)) (sym e) ∙ sym h))
  takes-stride S R o k s (Some t) e f h n l
      = (
        ap (λ z. lookup k (stride_or_empty z)) (sym e) ∙ sym h,
        f
            ∙ ap (λ z. set_stride o z S) (sym (only-empty k (stride_at o S) n l)),
      )

  pub takes-from : (S R : List (List ℕ × List (List ℕ × T))) (o k : List ℕ) (s : List (List ℕ × T)) (t : T)
      (r : Result (Option T) TreeError) → IsAscending S → IsAscending s → Some s ≡ lookup o S → Some t ≡ lookup k s
      → (length s ≡ 1 → ⊥) → TakesFrom o k S R r → TakesTarget o k S R r
  takes-from S R o k s t (Ok None) a b e f n p = let w = p s (sym e) in absurd (let m = w.2.0 ∙ sym f in cc)
  takes-from S R o k s t (Ok (Some u)) a b e f n p = let w = p s (sym e) in let at : s ≡ stride_at o S
      = ap stride_or_empty e in
      let many : 0 < length (without k s) = not-one s (length (without k s)) (length-without k s b) (λ m. let x
      = f ∙ ap (lookup k) m in cc) n in (
        ap (lookup k) (sym at) ∙ sym w.2.0,
        w.1 ∙ ap (λ z. put o z S) w.2.1 ∙ sym (set-some S o (without k s) many)
            ∙ ap (λ z. set_stride o (without k z) S) at,
      )
  takes-from S R o k s t (Err error) a b e f n p = let w = p s (sym e) in (
    w.2.0.0,
    λ m. w.2.0.1 (ap (λ z. lookup k (stride_or_empty z)) e ∙ m),
    inr (omega (arith, remove_allocates-five s k w.2.0.2, ap length (ap stride_or_empty e))),
    w.1 ∙ ap (λ z. put o z S) w.2.1
        ∙ put-same S o s a (sym e),
  )

  -- the look-up of a network by what its key and its code are
  pub at-key : (S : List (List ℕ × List (List ℕ × T))) (o : List ℕ) (n : ℕ) (q : List ℕ) (x c : ℕ) → IsAscending S
      → AreStrides S → AreBytes o → n ≤ 8 * length o →
      q ≡ take (n / 8) o → x ≡ slice_index o (n / 8) → c ≡ code x (n % 8) → lookup (network o n) (routes_of S)
      ≡ lookup (c ∷ []) (stride_at q S)
  at-key S o n q x c a b f h e ex ec = lookup-network S o n a b f h
      ∙ ap (λ z. lookup (z ∷ []) (stride_at (take (n / 8) o) S)) (sym (ec ∙ ap (λ z. code z (n % 8)) ex))
      ∙ ap (λ z. lookup (c ∷ []) (stride_at z S)) (sym e)

  absent : (S : List (List ℕ × List (List ℕ × T))) (o : List ℕ) (n : ℕ) (q : List ℕ) (x c : ℕ) → IsAscending S
      → AreStrides S → AreBytes o → n ≤ 8 * length o →
      q ≡ take (n / 8) o → x ≡ slice_index o (n / 8) → c ≡ code x (n % 8) → lookup (c ∷ []) (stride_at q S) ≡ None
      → lookup (network o n) (routes_of S) ≡ None
  absent S o n q x c a b f h e ex ec m = at-key S o n q x c a b f h e ex ec ∙ m

  one-less : (k : List ℕ) (s : List (List ℕ × T)) → IsAscending s → lookup k s ≢ None
      → length (without k s) + 1 ≡ length s
  one-less k [] a n = absurd (n refl)
  one-less k (e ∷ s) a n = ⊎_elim
      (λ m. let one : bytes_eq e.0 k ≡ true = ap (λ z. bytes_eq z k) m ∙ bytes_eq-itself k in
      let same : without e.0 s ≡ s = without-absent e.0 s a.1 (lookup-above e.0 s a.0) in
      let rest : without k s ≡ s = ap (λ z. without z s) (sym m) ∙ same in rw one (omega (arith, ap length rest)))
      (λ m. let stored : lookup k s ≢ None = (λ z. n (rw (bytes_eq-differ e.0 k m) z)) in let rest
      = one-less k s a.1 stored in rw (bytes_eq-differ e.0 k m) (omega (arith, rest)))
      (same_or_not e.0 k)

  -- what an edit of the strides is of the routes
  pub inserted : (S R : List (List ℕ × List (List ℕ × T))) (o : List ℕ) (n : ℕ) (q : List ℕ) (x c : ℕ) (t : T)
      (was : Option T) → IsAscending S → AreStrides S → AreBytes o → n ≤ 8 * length o →
      q ≡ take (n / 8) o → x ≡ slice_index o (n / 8) → c ≡ code x (n % 8) → PutsTarget q (c ∷ []) t S R (Ok was) →
      AreStrides R × (was ≡ lookup (network o n) (routes_of S)) × (routes_of R ≡ put (network o n) t (routes_of S))
      × (length (routes_of R) + count_of was ≡ length (routes_of S) + 1)
  inserted S R o n q x c t was a b f h e ex ec p =
      let d : ℕ = code (slice_index o (n / 8)) (n % 8) in
      let same : c ≡ d = ec ∙ ap (λ z. code z (n % 8)) ex in
      let edit = put-target S (take (n / 8) o) (d ∷ []) t a b (AreBytes-take (n / 8) o f)
      (code-in_range (slice_index o (n / 8)) (n % 8) (f (n / 8)) (omega arith)) in
      let after : R ≡ set_stride (take (n / 8) o) (put (d ∷ []) t (stride_at (take (n / 8) o) S)) S
      = p.1 ∙ ap (λ z. set_stride z (put (c ∷ []) t (stride_at z S)) S) e
      ∙ ap (λ z. set_stride (take (n / 8) o) (put (z ∷ []) t (stride_at (take (n / 8) o) S)) S) same in
      let old : was ≡ lookup (network o n) (routes_of S) = p.0 ∙ ap (λ z. lookup (c ∷ []) (stride_at z S)) e
      ∙ ap (λ z. lookup (z ∷ []) (stride_at (take (n / 8) o) S)) same ∙ sym (lookup-network S o n a b f h) in
      let routes : routes_of R ≡ put (network o n) t (routes_of S) = ap routes_of after ∙ edit.1
      ∙ ap (λ z. put z t (routes_of S)) (sym (network-coded o n f h)) in (
        subst AreStrides (sym after) edit.0,
        old,
        routes,
        omega
            (arith, ap length routes, ap count_of old, length-put (network o n) t (routes_of S) (routes-ascend S)),
      )

  no-strides : (S : List (List ℕ × List (List ℕ × T))) → IsAscending S → AreStrides S → routes_of S ≡ [] → S ≡ []
  no-strides [] a b g = refl
  no-strides (e ∷ S) a b g = absurd (omega (arith, few-strides (e ∷ S) a b, ap length g))

  pub five-routes : (S : List (List ℕ × List (List ℕ × T))) (o : List ℕ) → IsAscending S → AreStrides S
      → (5 ≤ length S) ⊎ (5 ≤ length (stride_at o S)) → 5 ≤ length (routes_of S)
  five-routes S o a b m = ⊎_elim (λ l. omega (arith, l, few-strides S a b)) (λ l. omega (arith, l, few-targets S o a b))
      m

  -- and of a refusal: the table was not full, so neither the strides nor a stride were
  refused-route : (S : List (List ℕ × List (List ℕ × T))) (o : List ℕ) (n : ℕ) (q : List ℕ) (x c : ℕ)
      (error : TreeError) → IsAscending S → AreStrides S → AreBytes o → n ≤ 8 * length o →
      q ≡ take (n / 8) o → x ≡ slice_index o (n / 8) → c ≡ code x (n % 8) → length (routes_of S) ≤ MAX_PAIRS
      → ((length (routes_of S) ≡ MAX_PAIRS) × (lookup (network o n) (routes_of S) ≡ None) → ⊥)
      → MayRefuseTarget S q (c ∷ []) error → MayRefuseRoute (routes_of S) (network o n) error
  refused-route S o n q x c Memory a b f h e ex ec l enough m = let none = absent S o n q x c a b f h e ex ec m.0 in (
    none,
    ⊎_elim (λ g. g) (λ g. absurd (enough (g, none))) (less_or_equal (length (routes_of S)) MAX_PAIRS l),
    λ g. m.1 (no-strides S a b g),
  )
  refused-route S o n q x c Full a b f h e ex ec l enough m = let none = absent S o n q x c a b f h e ex ec m.0 in
      absurd (⊎_elim
      (λ g. let full = m.1 (omega (arith, few-targets S q a b)) in omega (arith, full, few-strides S a b))
      (λ g. enough (g, none))
      (less_or_equal (length (routes_of S)) MAX_PAIRS l))

  pub removed : (S R : List (List ℕ × List (List ℕ × T))) (o : List ℕ) (n : ℕ) (q : List ℕ) (x c : ℕ) (t : T)
      → IsAscending S → AreStrides S → AreBytes o → n ≤ 8 * length o →
      q ≡ take (n / 8) o → x ≡ slice_index o (n / 8) → c ≡ code x (n % 8) → TakesTarget q (c ∷ []) S R (Ok (Some t)) →
      AreStrides R × (Some t ≡ lookup (network o n) (routes_of S)) × (routes_of R ≡ without (network o n) (routes_of S))
      × (length (routes_of R) + 1 ≡ length (routes_of S))
  removed S R o n q x c t a b f h e ex ec p =
      let d : ℕ = code (slice_index o (n / 8)) (n % 8) in
      let same : c ≡ d = ec ∙ ap (λ z. code z (n % 8)) ex in
      let edit = take-target S (take (n / 8) o) (d ∷ []) a b (AreBytes-take (n / 8) o f)
      (code-in_range (slice_index o (n / 8)) (n % 8) (f (n / 8)) (omega arith)) in
      let after : R ≡ set_stride (take (n / 8) o) (without (d ∷ []) (stride_at (take (n / 8) o) S)) S
      = p.1 ∙ ap (λ z. set_stride z (without (c ∷ []) (stride_at z S)) S) e
      ∙ ap (λ z. set_stride (take (n / 8) o) (without (z ∷ []) (stride_at (take (n / 8) o) S)) S) same in
      let old : Some t ≡ lookup (network o n) (routes_of S) = sym p.0 ∙ ap (λ z. lookup (c ∷ []) (stride_at z S)) e
      ∙ ap (λ z. lookup (z ∷ []) (stride_at (take (n / 8) o) S)) same ∙ sym (lookup-network S o n a b f h) in
      let routes : routes_of R ≡ without (network o n) (routes_of S) = ap routes_of after ∙ edit.1
      ∙ ap (λ z. without z (routes_of S)) (sym (network-coded o n f h)) in (
        subst AreStrides (sym after) edit.0,
        old,
        routes,
        omega (
          arith,
          ap length routes,
          one-less (network o n) (routes_of S) (routes-ascend S) (λ m. let z = old ∙ m in
              cc),
        ),
      )

  pub absent-without : (S : List (List ℕ × List (List ℕ × T))) (o : List ℕ) (n : ℕ) (q : List ℕ) (x c : ℕ)
      → IsAscending S → AreStrides S → AreBytes o → n ≤ 8 * length o →
      q ≡ take (n / 8) o → x ≡ slice_index o (n / 8) → c ≡ code x (n % 8) → lookup (c ∷ []) (stride_at q S) ≡ None
      → (None ≡ lookup (network o n) (routes_of S)) × (routes_of S ≡ without (network o n) (routes_of S))
  absent-without S o n q x c a b f h e ex ec m = let none = absent S o n q x c a b f h e ex ec m in
      (sym none, sym (without-absent (network o n) (routes_of S) (routes-ascend S) none))

  -- a new route, one more; and one in place of another
  pub new-route : (S R : List (List ℕ × List (List ℕ × T))) (o : List ℕ) (n : ℕ) (q : List ℕ) (x c : ℕ) (t : T)
      (was : Option T) (v : List (List ℕ × T)) (len : ℕ) → IsAscending S → AreStrides S → AreBytes o → n ≤ 8 * length o
      → q ≡ take (n / 8) o → x ≡ slice_index o (n / 8) → c ≡ code x (n % 8) → PutsTarget q (c ∷ []) t S R (Ok was)
      → was ≡ None →
      routes_of S ≡ v → len ≡ length (routes_of S) → len ≤ MAX_PAIRS
      → ((length v ≡ MAX_PAIRS) × (lookup (network o n) v ≡ None) → ⊥) → AreTableFields R (len + 1)
  new-route S R o n q x c t was v len a b f h e ex ec p w vs l m enough = let i
      = inserted S R o n q x c t was a b f h e ex ec p in record {
        formed = i.0;
        counted = omega (arith, l, i.3, ap count_of w);
        few = ⊎_elim
            (λ g. omega (arith, g))
            (λ g. absurd (enough (ap length (sym vs) ∙ sym l ∙ g, ap (lookup (network o n)) (sym vs) ∙ sym i.1 ∙ w)))
            (less_or_equal len MAX_PAIRS m);
      }

  pub old-route : (S R : List (List ℕ × List (List ℕ × T))) (o : List ℕ) (n : ℕ) (q : List ℕ) (x c : ℕ) (t u : T)
      (was : Option T) (len : ℕ) → IsAscending S → AreStrides S → AreBytes o → n ≤ 8 * length o → q ≡ take (n / 8) o
      → x ≡ slice_index o (n / 8) → c ≡ code x (n % 8) → PutsTarget q (c ∷ []) t S R (Ok was) → was ≡ Some u →
      len ≡ length (routes_of S) → len ≤ MAX_PAIRS → AreTableFields R len
  old-route S R o n q x c t u was len a b f h e ex ec p w l m = let i
      = inserted S R o n q x c t was a b f h e ex ec p in
      record { formed = i.0; counted = omega (arith, l, i.3, ap count_of w); few = m }

  pub inserted-answer : (S R : List (List ℕ × List (List ℕ × T))) (o : List ℕ) (n : ℕ) (q : List ℕ) (x c : ℕ) (t : T)
      (was : Option T) (v : List (List ℕ × T)) → IsAscending S → AreStrides S → AreBytes o → n ≤ 8 * length o
      → q ≡ take (n / 8) o → x ≡ slice_index o (n / 8) → c ≡ code x (n % 8) → PutsTarget q (c ∷ []) t S R (Ok was) →
      routes_of S ≡ v → ((length v ≡ MAX_PAIRS) × (lookup (network o n) v ≡ None) → ⊥) → (was ≡ lookup (network o n) v)
      × (length v ≡ MAX_PAIRS → lookup (network o n) v ≢ None) × (routes_of R ≡ put (network o n) t v)
  inserted-answer S R o n q x c t was v a b f h e ex ec p vs enough = let i
      = inserted S R o n q x c t was a b f h e ex ec p in
      (i.1 ∙ ap (lookup (network o n)) vs, λ g k. enough (g, k), i.2 ∙ ap (put (network o n) t) vs)

  pub refused-answer : (S : List (List ℕ × List (List ℕ × T))) (o : List ℕ) (n : ℕ) (q : List ℕ) (x c : ℕ)
      (error : TreeError) (v : List (List ℕ × T)) → IsAscending S → AreStrides S → AreBytes o → n ≤ 8 * length o
      → q ≡ take (n / 8) o → x ≡ slice_index o (n / 8) → c ≡ code x (n % 8) → length (routes_of S) ≤ MAX_PAIRS →
      routes_of S ≡ v → ((length v ≡ MAX_PAIRS) × (lookup (network o n) v ≡ None) → ⊥)
      → MayRefuseTarget S q (c ∷ []) error → MayRefuseRoute v (network o n) error
  refused-answer S o n q x c error v a b f h e ex ec l vs enough m = subst (λ z. MayRefuseRoute z
      (network o n) error) vs
      (refused-route S o n q x c error a b f h e ex ec l
      (λ g. enough (ap length (sym vs) ∙ g.0, ap (lookup (network o n)) (sym vs) ∙ g.1)) m)
