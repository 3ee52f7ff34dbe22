-- The loan of a part of a part is a loan of the whole.
use mathlib.Core.List.{[], ◌∷◌}
use mathlib.Core.Option.{Option, none, some}
use seplogic.Ra.Ura.{Ura}
use base.Logic.{ent, sep}
use base.Fml.{GName}
use types.Logic.{Logic, sem}
use types.Kit.{‵, ◌$◌, ◌∵◌, !, qed, move, use2, fpick, fpack, done}
use denote.Follow.{follows, follows_if, follows_so, follows_by, such_by, followed, follows_then}
use denote.RattleType.{RattleType}

-- the whole is an R, and ends as F of its part, a T, of which at most one part, a U, was lent in turn
module _ {M : Type 1} {𝓤 : Ura M} (𝓛 : Logic 𝓤) (R T U : RattleType) (F : T.Denot → R.Denot) (γ γ' : GName) where
  if_lent : (m : Option GName) (G : U.Denot → T.Denot) (v : T.Denot)
      → ent 𝓤 (sep 𝓤 (sem 𝓛 (follows R T γ γ' F)) (sem 𝓛 (follows_if T U γ' m G v)))
      (sem 𝓛 (follows_if R U γ m (λ w. F (G w)) (F v)))
  unfolding follows_by
  if_lent none G v = followed 𝓛 R T F γ γ' v
  if_lent (some δ) G v = follows_then 𝓛 R T U F G γ γ' δ

  pub lent_through : (m : Option GName) (A : U.Denot → T.Denot → Type 0) (A₀ : T.Denot → Type 0)
      (B : U.Denot → R.Denot → Type 0) (B₀ : R.Denot → Type 0) → ((w : U.Denot) (t : T.Denot) → A w t → B w (F t))
      → ((t : T.Denot) → A₀ t → B₀ (F t))
      → ent 𝓤 (sep 𝓤 (sem 𝓛 (follows R T γ γ' F)) (sem 𝓛 (follows_so T U γ' m A A₀)))
      (sem 𝓛 (follows_so R U γ m B B₀))
  unfolding such_by
  lent_through m A A₀ B B₀ f f₀ =
      qed 𝓛 (‵ (follows R T γ γ' F) ∷ ‵ (follows_so T U γ' m A A₀) ∷ []) ∵ move ! (1 ∷ []) $ fpick ! (λ s.
      move ! (1 ∷ 0 ∷ []) $ use2 𝓛 (‵ (follows_if R U γ m (λ w. F (s.0.0 w)) (F s.0.1))) (if_lent m s.0.0 s.0.1) $
      fpack ! ((r : (U.Denot → R.Denot) × R.Denot) × ((w : U.Denot) → B w (r.0 w)) × B₀ r.1)
      (λ r. follows_if R U γ m r.0.0 r.0.1)
      ((λ w. F (s.0.0 w), F s.0.1), λ w. f w (s.0.0 w) (s.1 w), f₀ s.0.1 s.2) $ done !)
