-- A stride of one target, as a list of one pair.
use Rattle.std.proofs.Common.{◌≡◌, ℕ, zero, suc, ◌<◌, ◌≤◌, length, [], ◌∷◌, refl, sym, ap, ◌∙◌, Some, None, arith}
use Rattle.rart_keys.specs.SortedMap.{lookup}
use Rattle.rart_keys.proofs.strings.ByteOrder.{eq-no, eq-yes}
use Rattle.rart_cidr.specs.Bits.{code}
use Rattle.rart_cidr.specs.Codes.{code_place, length_of_code}
use Rattle.rart_cidr.specs.Routes.{IsCode, IsLongestIn, IsShortestIn}
use Rattle.rart_cidr.specs.Walks.{IsCodeLess, IsNextIn}
use Rattle.rart_cidr.proofs.networks.BitLemmas.{code-is, holds_below}
use Rattle.rart_cidr.proofs.networks.CodeLemmas.{less_place, not_after, place_less}

-- how many bits the code of r bits encodes
pub code-length : (x r : ℕ) → x < 256 → r < 8 → length_of_code (code x r) ≡ r
unfolding holds_below
code-length x zero h l = ap length (sym (code-is x 0 h refl))
code-length x (suc zero) h l = ap length (sym (code-is x 1 h refl))
code-length x (suc (suc zero)) h l = ap length (sym (code-is x 2 h refl))
code-length x (suc (suc (suc zero))) h l = ap length (sym (code-is x 3 h refl))
code-length x (suc (suc (suc (suc zero)))) h l = ap length (sym (code-is x 4 h refl))
code-length x (suc (suc (suc (suc (suc zero))))) h l = ap length (sym (code-is x 5 h refl))
code-length x (suc (suc (suc (suc (suc (suc zero)))))) h l = ap length (sym (code-is x 6 h refl))
code-length x (suc (suc (suc (suc (suc (suc (suc zero))))))) h l = ap length (sym (code-is x 7 h refl))
code-length x (suc (suc (suc (suc (suc (suc (suc (suc r)))))))) h l = absurd (omega arith)

module _ {T : Type 0} where
  one-found : (c d : ℕ) (t : T) → c ≡ d → lookup (d ∷ []) ((c ∷ [], t) ∷ []) ≡ Some t
  one-found c d t e = rw (eq-yes c d e) refl

  one-absent : (c d : ℕ) (t : T) → (c ≡ d → ⊥) → lookup (d ∷ []) ((c ∷ [], t) ∷ []) ≡ None
  one-absent c d t n = rw (eq-no c d n) refl

  -- the longest beginning of a byte that has a target: a code encodes one number of bits
  pub one-longest : (c x most bits : ℕ) (t : T) → x < 256 → most < 8 → bits ≡ length_of_code c → bits ≤ most
      → code x bits ≡ c → IsLongestIn ((c ∷ [], t) ∷ []) x most (Some (bits, t))
  one-longest c x most bits t h l e m s = (
    m,
    one-found c (code x bits) t (sym s),
    λ r above within. one-absent c (code x r) t
        (λ same. let len = code-length x r h (omega arith) in
        let equal : length_of_code (code x r) ≡ length_of_code c = ap length_of_code (sym same) in
        omega (arith, len, equal, e)),
  )

  pub one-no_longest : (c x most bits : ℕ) (t : T) → x < 256 → most < 8 → bits ≡ length_of_code c
      → (bits ≤ most → code x bits ≡ c → ⊥) → IsLongestIn ((c ∷ [], t) ∷ []) x most None
  one-no_longest c x most bits t h l e n = λ r within. one-absent c (code x r) t
      (λ same. let len = code-length x r h (omega arith) in
      let equal : bits ≡ r = e ∙ ap length_of_code same ∙ len in
      n (rw equal within) (rw equal (sym same)))

  -- and the shortest
  pub one-shortest : (c x least most bits : ℕ) (t : T) → x < 256 → most < 8 → bits ≡ length_of_code c → least ≤ bits
      → bits ≤ most → code x bits ≡ c → IsShortestIn ((c ∷ [], t) ∷ []) x least most (Some (bits, t))
  one-shortest c x least most bits t h l e m n s = (
    m,
    n,
    one-found c (code x bits) t (sym s),
    λ r from under. one-absent c (code x r) t
        (λ same. let len = code-length x r h (omega (arith, under, n, l)) in
        let equal : length_of_code (code x r) ≡ length_of_code c = ap length_of_code (sym same) in
        omega (arith, len, equal, e, under)),
  )

  pub one-no_shortest : (c x least most bits : ℕ) (t : T) → x < 256 → most < 8 → bits ≡ length_of_code c
      → (least ≤ bits → bits ≤ most → code x bits ≡ c → ⊥) → IsShortestIn ((c ∷ [], t) ∷ []) x least most None
  one-no_shortest c x least most bits t h l e n = λ r from within. one-absent c (code x r) t
      (λ same. let len = code-length x r h (omega (arith, within, l)) in
      let equal : bits ≡ r = e ∙ ap length_of_code same ∙ len in
      n (rw equal from) (rw equal within) (rw equal (sym same)))

  -- the next target after a code, up to a last one
  pub one-next : (d c last : ℕ) (t : T) → IsCode (c ∷ []) → IsCode (last ∷ []) → IsCode (d ∷ [])
      → code_place c < code_place d → code_place d ≤ code_place last
      → IsNextIn ((d ∷ [], t) ∷ []) c last (Some (d, t))
  one-next d c last t f g h l m = (
    h,
    less_place c d f h l,
    λ after. let more = place_less last d g h after in omega (arith, more, m),
    one-found d d t refl,
    λ b i k j. one-absent d b t (λ e. let more = place_less b d i h j in omega (arith, more, ap code_place e)),
  )

  pub one-no_next : (d c last : ℕ) (t : T) → IsCode (c ∷ []) → IsCode (last ∷ [])
      → (IsCode (d ∷ []) → code_place c < code_place d → code_place d ≤ code_place last → ⊥)
      → IsNextIn ((d ∷ [], t) ∷ []) c last None
  one-no_next d c last t f g n = λ b i k j. one-absent d b t (λ e.
      let same = ap code_place e in
      let after = place_less c b f i k in
      let within = not_after last b g i j in
      n (rw e i) (omega (arith, after, same)) (omega (arith, within, same)))
