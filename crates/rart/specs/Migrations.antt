-- Text keys without their closing zeros.
use Rattle.std.specs.Prelude.{◌≡◌, ◌≢◌, ℕ, List, [], ◌∷◌, ◌++◌, length, map}
use Rattle.rart_keys.specs.SortedMap.{keys_of}
use Rattle.rart.specs.declared.migrate.MigrateError.{MigrateError}
use Rattle.rart.specs.declared.migrate.MigrateError.TheVariants.{Memory, NotText}

-- a key with a zero byte after it
abbrev pub terminated_key : List ℕ → List ℕ
terminated_key k = k ++ 0 ∷ []

-- pairs with a zero byte after each key
abbrev pub with_zeros : {V : Type 0} → List (List ℕ × V) → List (List ℕ × V)
with_zeros es = map (λ e. (terminated_key e.0, e.1)) es

-- each key ends in a zero byte
abbrev pub AreTerminated : List (List ℕ) → Type 0
AreTerminated keys = (texts : List (List ℕ)) × (keys ≡ map terminated_key texts)

-- the key at this place is the first that doesn't end in a zero byte
pub record IsFirstUnterminated (keys : List (List ℕ)) (place : ℕ) : Type 0 where
  pub texts : List (List ℕ)
  pub key : List ℕ
  pub rest : List (List ℕ)
  pub split : keys ≡ map terminated_key texts ++ key ∷ rest
  pub many : place ≡ length texts
  pub no_text : (text : List ℕ) → key ≢ terminated_key text

-- why closing zeros couldn't be dropped
abbrev pub FailsMigration : {V : Type 0} → List (List ℕ × V) → MigrateError → Type 0
FailsMigration es Memory = es ≢ []
FailsMigration es (NotText at) = IsFirstUnterminated (keys_of es) at
