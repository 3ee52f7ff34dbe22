-- What a map holds: its entries, and a value that is stored with them.
use Rattle.std.specs.Prelude.{ℕ, List, refl}
use Rattle.std.specs.Coded.{Coded, code_by, coded×, coded_list, coded_ℕ}

-- an entry is a byte and the child stored at it
pub record Contents (N E : Type 0) : Type 0 where
  pub extra : E
  pub entries : List (ℕ × N)

abbrev pub contents_code : {N E : Type 0} → Coded N → Coded E → Coded (Contents N E)
contents_code {N} {E} n e = code_by (E × List (ℕ × N)) (coded× e (coded_list (coded× coded_ℕ n)))
    (λ c. (c.extra, c.entries)) (λ p. record { extra = p.0; entries = p.1 }) (λ _. refl)

-- contents with another extra value
abbrev pub with_extra : {N E : Type 0} → Contents N E → E → Contents N E
with_extra c e = record { extra = e; entries = c.entries }
