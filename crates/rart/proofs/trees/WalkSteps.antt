-- Steps of walks by hand that lend a `&mut` to a call, and then share it for good.
use mathlib.Core.Path.{◌≡◌, refl}
use Prim.Native.Nat.{ℕ}
use mathlib.Core.List.{List, [], ◌∷◌, ◌++◌}
use mathlib.Core.Option.{none}
use seplogic.Ra.Ura.{Ura}
use mir.Syntax.{named}
use mir.Val.{Val, vptr}
use base.Fml.{GName, Lft, Share, flft, fdead, fobs, fres, fbor}
use base.Fraction.{full_share}
use base.Logic.{SProp, ent, sep, emp, ex_i, via, mono_l, emp∗, wand, apply∗, id⊢}
use base.Share
use ghost.Rules.{Toks}
use types.Kit.{Goal, Item, Seq, Soaks, Step, step, ‵, raw, ◌⊛◌, ◌$◌, some, later, move, split, join, use1, use2, use3}
use types.Kit.{pick, await, fsplit3, fjoin, feq_l, feq_i}
use types.Logic.{Logic, sem, lfts}
use types.Tokens.{lft_new, lft_end}
use contract.BorrowLft.{◌⊑◌, meet_⊑_left}
use contract.Monad.{fact, fact_i}
use denote.Bor.{Bor}
use denote.Follow.{such_by, follows_by, follows_so}
use denote.Lend.{LentAgain, lends_again, comes_back}
use denote.Memory.{mem, part_at, hidden_shr}
use denote.Param.Laws.{Laws}
use denote.RattleType.{RattleType}
use denote.Ref.{MutBor, MutRef, ShrRef, mut_vals, shr_vals}
use denote.Shares.{settles}
use denote.Steps.{only}
use denote.Struct.Members.{Lone}
use Rattle.std.specs.Prelude.{⊤}

-- a list of one machine value
pub Lone-is : (vs : List Val) → Lone vs → vs ≡ only vs ∷ []
Lone-is [] l = absurd l
Lone-is (v ∷ []) l = refl
Lone-is (v ∷ u ∷ us) l = absurd l

module _ {M : Type 1} (𝓤 : Ura M) where
  -- a fact is put beside what is had
  pub beside : (φ : Type 0) {R Q : SProp 𝓤} → φ → ent 𝓤 R Q → ent 𝓤 R (sep 𝓤 (fact 𝓤 φ) Q)
  beside φ {R} {Q} x h = via 𝓤 Q h (via 𝓤 (sep 𝓤 (emp 𝓤) Q) (emp∗ 𝓤 Q) (mono_l 𝓤 Q (fact_i 𝓤 φ (emp 𝓤) x)))

-- the last value is said of a name that nothing follows
pub rests : {M : Type 1} {𝓤 : Ura M} (𝓛 : Logic 𝓤) (R : RattleType) (γ : GName) (E : R.Denot → Type 0) (n : R.Denot)
    → E n
    → ent 𝓤 (𝓛.A.res γ (R.coded.code n)) (sem 𝓛 (follows_so R R γ none (λ _ _. ⊤) E))
unfolding such_by follows_by
rests {𝓤 = 𝓤} 𝓛 R γ E n e =
    ex_i 𝓤 (λ (s : (p : (R.Denot → R.Denot) × R.Denot) × ((w : R.Denot) → ⊤) × E p.1). sem 𝓛
    (follows_by R.Denot R.Denot R.coded.code R.coded.code γ none s.0.0 s.0.1)) (((λ w. w), n), (λ _. tt), e)

-- the `&` that a `&mut` becomes once it is shared for good
abbrev pub shown : {X : Type 0} → MutBor X → Bor X
shown r = record { ref_ptr = r.ref_ptr; now = r.now }

module _ {M : Type 1} {𝓤 : Ura M} (𝓛 : Logic 𝓤) (R : RattleType) where
  -- a `&mut` of the function's first lifetime, or lent for κ
  abbrev pub Held : Lft → MutBor R.Denot → Item 𝓤
  Held κ r = ‵ ((MutRef (named 0) κ R).own_val r (mut_vals r))

  -- the token of a lifetime that was made for a loan, for a share of it
  abbrev Whole : Share → ℕ → SProp 𝓤
  Whole q α = wand 𝓤 (𝓛.A.lft (α ∷ []) (Share.right q)) (𝓛.A.lft (α ∷ []) full_share)

  -- what the holder of a `&mut` keeps while it is lent for a lifetime of its own
  abbrev Lent : Lft → Share → MutBor R.Denot → ℕ → GName → Item 𝓤
  Lent κ q r α δ = raw (Whole q α) ⊛ ‵
      (LentAgain R κ (α ∷ κ) (Share.left q) r.ghost_name r.ref_ptr.0 r.ref_ptr.1 δ r.now)

module _ {M : Type 1} {𝓤 : Ura M} {𝓛 : Logic 𝓤} {K : Type 0} {Γ : List (Item 𝓤)} {G : Goal 𝓤 𝓛.H} where
  -- a `&mut` is lent for a lifetime of its own
  pub lends : K → Soaks G → (R : RattleType) (κ : Lft) (q : Share) (r : MutBor R.Denot)
      → ((α : ℕ) (δ : GName) → Seq K 𝓛 (‵ (flft (α ∷ κ) (Share.right q)) ∷
      Held 𝓛 R (α ∷ κ) (record r { ghost_name = δ }) ∷ Lent 𝓛 R κ q r α δ ∷ Γ) G)
      → Seq K 𝓛 (‵ (flft κ q) ∷ Held 𝓛 R κ r ∷ Γ) G
  lends t soaks R κ q r k =
      let ql = Share.left q in let qr = Share.right q in let b = r.ref_ptr.0 in let o = r.ref_ptr.1 in
      let γ = r.ghost_name in
      lft_new t soaks (λ α.
      move t (1 ∷ []) $ use1 𝓛 (‵ (flft κ ql) ⊛ ‵ (flft κ qr)) (𝓛.lfts.lft_split κ q) $ split t $
      move t (2 ∷ []) $ use1 𝓛 (‵ (flft (α ∷ []) qr) ⊛ raw (Whole 𝓛 R q α)) (𝓛.lfts.lft_carve α qr) $ split t $
      move t (0 ∷ 3 ∷ []) $ use2 𝓛 (‵ (flft (α ∷ κ) qr)) (𝓛.lfts.lft_meet (α ∷ []) κ qr) $
      -- [the token of both; the way back; the holder's token; the `&mut`]
      move t (3 ∷ 2 ∷ []) $ use2 𝓛 (later (some (λ (δ : GName).
      Held 𝓛 R (α ∷ κ) (record r { ghost_name = δ }) ⊛ ‵ (LentAgain R κ (α ∷ κ) ql γ b o δ r.now))))
      (lends_again 𝓛 R (named 0) κ (α ∷ κ) ql γ b o (named 0) r.now) $ await t soaks $ pick t (λ δ. split t $
      -- [the loan; what the holder keeps; the token of both; the way back]
      move t (3 ∷ 1 ∷ []) $ join t $ move t (2 ∷ 1 ∷ []) $ k α δ))

  -- the loan is over: its last value is the holder's
  pub takes_back : K → Soaks G → (R : RattleType) (κ : Lft) (q : Share) (r : MutBor R.Denot) (α : ℕ) (δ : GName)
      (n : R.Denot)
      → Step K 𝓛 (‵ (flft κ q) ∷ Held 𝓛 R κ (record r { now = n }) ∷ Γ) G
      (‵ (fres δ (R.coded.code n)) ∷ ‵ (flft (α ∷ κ) (Share.right q)) ∷ Lent 𝓛 R κ q r α δ ∷ Γ) G
  takes_back t soaks R κ q r α δ n = step (λ s.
      let ql = Share.left q in let qr = Share.right q in let b = r.ref_ptr.0 in let o = r.ref_ptr.1 in
      move t (2 ∷ []) $ split t $
      -- [the way back; what the holder keeps; the last value; the token of both]
      move t (3 ∷ []) $ use1 𝓛 (‵ (flft (α ∷ []) qr) ⊛ ‵ (flft κ qr)) (𝓛.lfts.lft_unmeet (α ∷ []) κ qr) $ split t $
      move t (0 ∷ 2 ∷ []) $ use2 𝓛 (‵ (flft (α ∷ []) full_share))
      (apply∗ 𝓤 (𝓛.A.lft (α ∷ []) qr) (𝓛.A.lft (α ∷ []) full_share)) $ lft_end t soaks $
      use1 𝓛 (‵ (fdead (α ∷ κ))) (𝓛.lfts.dead-incl (α ∷ κ) (α ∷ []) (meet_⊑_left (α ∷ []) κ)) $
      -- [the loan is over; a token of the holder's; what it keeps; the last value]
      move t (0 ∷ 2 ∷ 3 ∷ []) $ use3 𝓛 (later (Held 𝓛 R κ (record r { now = n }) ⊛ ‵ (flft κ ql)))
      (comes_back 𝓛 R (named 0) κ (α ∷ κ) ql r.ghost_name b o δ r.now n) $ await t soaks $ split t $
      move t (1 ∷ 2 ∷ []) $ use2 𝓛 (‵ (flft κ q)) (𝓛.lfts.lft_join κ q) $ s)

  -- a `&mut` is shared for good, by a token of its own lifetime and one of a lifetime that its value has
  pub shares_for_good : K → Soaks G → (R : RattleType) → Laws R → (κ : Lft) (q : Share) (κ' : Lft) (q' : Share)
      (r : MutBor R.Denot)
      → (κ ++ κ') ⊑ R.lives
      → Step K 𝓛 (‵ ((ShrRef (named 0) κ R).own_val (shown r) (shr_vals (shown r))) ∷ ‵ (flft κ q) ∷ ‵ (flft κ' q') ∷ ‵
      (fres r.ghost_name (R.coded.code r.now)) ∷ Γ) G (‵ (flft κ q) ∷ ‵ (flft κ' q') ∷ Held 𝓛 R κ r ∷ Γ) G
  shares_for_good t soaks R is_lawful κ q κ' q' r lives = step (λ s.
      let b = r.ref_ptr.0 in let o = r.ref_ptr.1 in let γ = r.ghost_name in let n = r.now in
      let tokens : Toks = (κ, q) ∷ (κ', q') ∷ [] in let inside = meet_⊑_left κ κ' in
      join t $ use1 𝓛 (raw (lfts 𝓛 tokens)) (id⊢ 𝓤 _) $ move t (1 ∷ []) $ fsplit3 t $ feq_l t (λ _.
      use3 𝓛 (later (‵ (fobs γ (R.coded.code n)) ⊛ (‵ (fbor κ (part_at R full_share n b o)) ⊛ raw (lfts 𝓛 tokens))))
      (settles 𝓛 (mem R) κ tokens inside γ n b o) $ await t soaks $ split t $
      use1 𝓛 (‵ (fres γ (R.coded.code n))) (𝓛.names.obs-res γ (R.coded.code n)) $ move t (1 ∷ []) $
      use1 𝓛 (later (‵ (hidden_shr R κ n b o) ⊛ raw (lfts 𝓛 tokens)))
      (is_lawful.shares 𝓛 n κ tokens b o lives inside) $ await t soaks $ split t $
      feq_i t (List Val) (vptr b o ∷ []) (vptr b o ∷ []) refl $ fjoin t $ move t (1 ∷ []) $
      use1 𝓛 (‵ (flft κ q) ⊛ ‵ (flft κ' q')) (id⊢ 𝓤 _) $ split t $ move t (2 ∷ []) $ s))
