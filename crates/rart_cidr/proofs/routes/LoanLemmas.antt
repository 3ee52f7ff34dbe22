-- What a table ends as once the loan of a target is over.
use Rattle.std.proofs.Common.{◌≡◌, ℕ, ◌*◌, ◌/◌, ◌%◌, ◌≤◌, length, take, arith, List, [], ◌∷◌, Option, Some, None}
use Rattle.std.proofs.Common.{refl, sym, ap, ◌∙◌, ◌<◌, ◌↔◌, IfSome, IsSome, get_or, slice_get}
use Rattle.std.proofs.lemmas.Option.{slice_get_read}
use Rattle.std.specs.Borrow.{MutBor}
use Rattle.std.specs.Option.{option_copied_mut}
use Rattle.std.specs.Prelude.{◌≢◌, OnSome, Ok, slice_index}
use Rattle.rart_keys.specs.KeyBytes.{AreBytes}
use Rattle.rart_keys.specs.SortedMap.{IsAscending, count_of, lookup, put}
use Rattle.rart_cidr.specs.Bits.{code, network}
use Rattle.rart_cidr.specs.Edits.{PutsTarget}
use Rattle.rart_cidr.specs.Routes.{AreStrides, routes_of, stride_at, stride_or_empty}
use Rattle.rart_cidr.proofs.routes.EditLemmas.{at-key, inserted, put-same}
use Rattle.rart_cidr.proofs.routes.StrideLemmas.{set-put}

pub on_some : {X : Type 0} {P Q : Type 0} (o : Option X) → (P → Q) → OnSome o P → OnSome o Q
on_some None f h = tt
on_some (Some x) f h = f h

pub on_any : {X : Type 0} {P : Type 0} (o : Option X) → P → OnSome o P
on_any None p = tt
on_any (Some x) p = p

-- an element was lent
pub lent-item : {X : Type 0} (o : Option (MutBor X)) (xs : List X) (i n : ℕ) → n ≡ length xs → i < n
    → (IsSome o ↔ (i < n)) → IfSome o (λ x. x.now ≡ get_or xs i x.now) → option_copied_mut o ≡ slice_get xs i
lent-item None xs i n e h v f = let some = v.1 h in absurd (cc)
lent-item (Some x) xs i n e h v f = sym (slice_get_read xs n i x.now e h f)

-- what is stored was lent
pub lent_some : {X : Type 0} {P : Type 0} (o : Option (MutBor X)) (l : Option X) → option_copied_mut o ≡ l → l ≢ None
    → OnSome o P → P
lent_some None l e n h = absurd (n (sym e))
lent_some (Some x) l e n h = h

module _ {T : Type 0} where
  count-some : (o : Option T) → o ≢ None → count_of o ≡ 1
  count-some None n = absurd (n refl)
  count-some (Some t) n = refl

  -- the strides with t at a stored network
  pub lent_route : (S R : List (List ℕ × List (List ℕ × T))) (o : List ℕ) (n : ℕ) (q : List ℕ) (x c : ℕ) (t : T)
      (s l : List (List ℕ × T)) (v : List (List ℕ × T)) (len : ℕ) → IsAscending S → AreStrides S → AreBytes o
      → n ≤ 8 * length o → q ≡ take (n / 8) o → x ≡ slice_index o (n / 8) → c ≡ code x (n % 8) → Some s ≡ lookup q S
      → R ≡ put q l S → l ≡ put (c ∷ []) t s → routes_of S ≡ v → lookup (network o n) v ≢ None
      → len ≡ length (routes_of S) → AreStrides R × (len ≡ length (routes_of R)) × (routes_of R ≡ put (network o n) t v)
  lent_route S R o n q x c t s l v len a b f h e ex ec found edit left seen stored count =
      let at : stride_at q S ≡ s = ap stride_or_empty (sym found) in
      let p : PutsTarget q (c ∷ []) t S R (Ok (lookup (c ∷ []) (stride_at q S))) = (
        refl,
        edit ∙ ap (λ z. put q z S) (left ∙ ap (put (c ∷ []) t) (sym at)) ∙ sym (set-put S q (c ∷ []) t (stride_at q S)),
      ) in
      let i = inserted S R o n q x c t _ a b f h e ex ec p in
      let one : count_of (lookup (c ∷ []) (stride_at q S)) ≡ 1
      = count-some _ (λ m. stored (ap (lookup (network o n)) (sym seen) ∙ sym i.1 ∙ m)) in
      (i.0, omega (arith, count, i.3, one), i.2 ∙ ap (put (network o n) t) seen)

  -- the stride at a stored network has its code
  pub code_stored : (S : List (List ℕ × List (List ℕ × T))) (o : List ℕ) (n : ℕ) (q : List ℕ) (x c : ℕ)
      (s v : List (List ℕ × T)) → IsAscending S → AreStrides S → AreBytes o → n ≤ 8 * length o → q ≡ take (n / 8) o
      → x ≡ slice_index o (n / 8) → c ≡ code x (n % 8) → Some s ≡ lookup q S → routes_of S ≡ v
      → lookup (network o n) v ≢ None → lookup (c ∷ []) s ≢ None
  code_stored S o n q x c s v a b f h e ex ec found seen stored = λ m. stored (ap (lookup (network o n)) (sym seen)
      ∙ at-key S o n q x c a b f h e ex ec ∙ ap (λ z. lookup (c ∷ []) (stride_or_empty z)) (sym found) ∙ m)

  -- the strides as they were
  pub lent_back : (S R : List (List ℕ × List (List ℕ × T))) (q : List ℕ) (s l : List (List ℕ × T)) → IsAscending S
      → Some s ≡ lookup q S → R ≡ put q l S → l ≡ s → R ≡ S
  lent_back S R q s l a found edit left = edit ∙ ap (λ z. put q z S) left ∙ put-same S q s a (sym found)
