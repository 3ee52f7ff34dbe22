-- What a walk does next.
use Rattle.std.specs.Prelude.{◌≡◌, ◌<◌, ℕ, List, [], ◌∷◌}
use Rattle.rart_cidr.specs.declared.table.walk.Advance.{Advance}
use Rattle.rart_cidr.specs.declared.table.walk.Advance.TheVariants.{Route, Moved, End}
use Rattle.rart_cidr.specs.Routes.{IsCode, coded_network}

module _ {K T : Type 0} where
  -- it returns the first route to come; or it moves, and the same routes come; or none come
  abbrev pub Advances : (K → List ℕ) → List (List ℕ × T) × ℕ → List (List ℕ × T) × ℕ → Advance K T → Type 0
  Advances bytes old new (Route key code target) = IsCode (code ∷ [])
      × (old.0 ≡ (coded_network (bytes key) (code ∷ []), target.now) ∷ new.0)
  Advances bytes old new Moved = (new.0 ≡ old.0) × (new.1 < old.1)
  Advances bytes old new End = (old.0 ≡ []) × (new.0 ≡ [])
