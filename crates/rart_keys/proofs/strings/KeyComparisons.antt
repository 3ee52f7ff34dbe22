-- How keys with given bytes compare.
use Rattle.std.proofs.Common.{◌≡◌, ℕ, ◌+◌, ◌^◌, ◌<◌, List, [], ◌∷◌, ◌++◌, Bool, IsTrue, ap, ap₂, ◌∙◌, refl, ℤ, Less}
use Rattle.std.proofs.Common.{Equal, Greater}
use Rattle.std.specs.Cmp.Lexicographic.{slice_cmp, pointwise, texts_ties}
use Rattle.std.specs.Int.{bytes_high_first, Width}
use Rattle.std.specs.Ordering.{nat_cmp, int_cmp, is_eq}
use Rattle.std.specs.Prelude.{nat_eq}
use Rattle.std.specs.declared.cmp.Ordering.{Ordering}
use Rattle.std.proofs.lemmas.Int.{to_z-of_z}
use Rattle.rart_keys.specs.declared.keys.array_key.ArrayKey.{ArrayKey}
use Rattle.rart_keys.specs.ComparedKeys.{AreComparedAs}
use Rattle.rart_keys.specs.NumberBytes.{sign_flipped}
use Rattle.rart_keys.proofs.strings.ByteOrder.{slice_cmp-closed}
use Rattle.rart_keys.proofs.strings.NumberOrder.{slice_cmp-unsigned, slice_cmp-signed}
use mir.Val.{SFits, hbits, of_z, to_z}

module _ {N : ℕ} (keys : ArrayKey N × ArrayKey N × Ordering) (xs ys : List ℕ)
    (given : AreComparedAs keys xs ys (slice_cmp nat_cmp xs ys)) where
  -- with the bytes and their order in other words
  compared_as : (us vs : List ℕ) (o : Ordering) → xs ≡ us → ys ≡ vs → slice_cmp nat_cmp us vs ≡ o
      → AreComparedAs keys us vs o
  compared_as us vs o e f g = record {
    first_bytes = given.first_bytes ∙ e;
    second_bytes = given.second_bytes ∙ f;
    order_of_keys = given.order_of_keys;
    compared = given.compared ∙ ap₂ (slice_cmp nat_cmp) e f ∙ g;
  }

  pub text_keys : (s t : List ℕ) → xs ≡ s → ys ≡ t → AreComparedAs keys s t (slice_cmp nat_cmp s t)
  text_keys s t e f = compared_as s t _ e f refl

  pub terminated_keys : (s t : List ℕ) → xs ≡ s ++ 0 ∷ [] → ys ≡ t ++ 0 ∷ []
      → AreComparedAs keys (s ++ 0 ∷ []) (t ++ 0 ∷ []) (slice_cmp nat_cmp s t)
  terminated_keys s t e f = compared_as _ _ _ e f (slice_cmp-closed s t)

  pub unsigned_keys : (k m n : ℕ) → m < 256 ^ k → n < 256 ^ k → xs ≡ bytes_high_first k m → ys ≡ bytes_high_first k n
      → AreComparedAs keys (bytes_high_first k m) (bytes_high_first k n) (nat_cmp m n)
  unsigned_keys k m n p q e f = compared_as _ _ _ e f (slice_cmp-unsigned k m n p q)

  pub signed_keys : (w : Width) (k : ℕ) (x y : ℤ) → SFits w x → SFits w y → 2 ^ hbits w + 2 ^ hbits w ≡ 256 ^ k
      → xs ≡ bytes_high_first k (sign_flipped w (to_z w (of_z w x)))
      → ys ≡ bytes_high_first k (sign_flipped w (to_z w (of_z w y)))
      → AreComparedAs keys (bytes_high_first k (sign_flipped w x)) (bytes_high_first k (sign_flipped w y)) (int_cmp x y)
  signed_keys w k x y p q d e f =
      let key = λ (z : ℤ). bytes_high_first k (sign_flipped w z) in
      compared_as _ _ _ (e ∙ ap key (to_z-of_z w x p)) (f ∙ ap key (to_z-of_z w y q)) (slice_cmp-signed w k x y p q d)

tied : (b : Bool) (o : Ordering) → b ≡ is_eq o → (IsTrue b → o ≡ Equal) × (o ≡ Equal → IsTrue b)
tied b Less e = (λ h. cc, λ h. cc)
tied b Equal e = (λ h. refl, λ h. e)
tied b Greater e = (λ h. cc, λ h. cc)

-- strings are equal exactly where they tie
pub tied_where_equal : (xs ys : List ℕ) (b : Bool) (o : Ordering) → b ≡ pointwise nat_eq xs ys
    → o ≡ slice_cmp nat_cmp xs ys → (IsTrue b → o ≡ Equal) × (o ≡ Equal → IsTrue b)
tied_where_equal xs ys b o e f = tied b o (e ∙ texts_ties xs ys ∙ rw f refl)
