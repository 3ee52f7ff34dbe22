-- What `LentAndShared` and `LentAndSharedKeepingKey` have in common: the types, the MIR statements and the facts of a
-- function that lends its `&mut` to a call that inserts, and then shares it for good with a call that returns the
-- stored value.
use mathlib.Core.Path.{◌≡◌, refl, ap}
use mathlib.Core.List.{List, [], ◌∷◌, ◌++◌}
use mathlib.Core.Option.{none}
use Prim.Native.Nat.{ℕ}
use seplogic.Ra.Ura.{Ura}
use mir.Syntax.{Local, Lifetime, Mutability, Ty, Opd, Body, Callee, local, value_local, ty_ref, named}
use mir.Syntax.{place, deref, copy, rv_opd, addr_of, assign, seq}
use base.Fml.{Lft}
use base.Logic.{SProp, ent, sep, emp, ex, via}
use types.Kit.{raw, ◌$◌, ◌∵◌, !, qed, move, use0, done}
use types.Logic.{Logic, sem}
use contract.BorrowLft.{◌⊑◌, ⊑_trans, meet_⊑_left, meet_⊑_right}
use contract.Lifetimes.{Lfts, Outlives, Within}
use contract.Monad.{fact, fact_i}
use denote.Follow.{follows_so}
use denote.Memory.{pointee}
use denote.Param.{param, layout}
use denote.Param.Laws.{Laws, param_laws, of_field}
use denote.Param.Shared.{copy_shared}
use denote.RattleType.{RattleType}
use denote.Ref.{MutBor}
use denote.Struct.Field.{unit-field}
use denote.Struct.Laws.{unit-laws, unit-copy}
use denote.Triple.Clauses.{Ended, Lasts, lasts}
use denote.Triple.Entry.{Args, Res}
use denote.Triple.Spec.{triple_of}
use denote.Triple.Statement.{Contract}
use Rattle.std.specs.Prelude.{Result, Ok, Err, IfErr, OnErr, ⊤}
use Rattle.rart.specs.Edits.{InsertsNew, TriesInsert}
use Rattle.rart.specs.MapAndShape.{MapAndShape}
use Rattle.rart.specs.Refusals.{AddsPresent, IsStoredAt}
use Rattle.rart.proofs.trees.PresentLemmas as lemmas
use Rattle.rart.proofs.trees.WalkSteps.{beside, rests}
use Rattle.rart_trie.specs.contracts.refused.NotInserted as not_inserted
use Rattle.rart_trie.specs.declared.refused.NotInserted.{NotInserted}
use Rattle.std.specs.contracts.result.Result as result
use Rattle.std.proofs.result.Result.TheLaws as result_laws
use Rattle.rart.specs.contracts.tree.try_insert.TryInsertError as try_insert_error
use Rattle.rart.proofs.tree.try_insert.TryInsertError.TheLaws as try_insert_error_laws

abbrev pub unit_is : Laws unit-field.row
unit_is = of_field unit-field unit-laws refl (copy_shared unit-field unit-copy)

abbrev pub bounded_by : {n : ℕ} (long short : ℕ) → Within n long → Within n short → Outlives n
bounded_by long short long_ok short_ok
    = record { long = long; long_ok = long_ok; short = named short; short_ok = short_ok }

-- the types of the key, of the value, of the key's partials and of the lender, and the two calls
pub record Lending : Type 2 where
  pub K : RattleType
  pub V : RattleType
  pub P : RattleType
  pub Lender : RattleType
  pub key_is : Laws K
  pub value_is : Laws V
  pub lender_is : Laws Lender
  pub in_lender : (κ : Lft) → κ ⊑ K.lives → κ ⊑ V.lives → κ ⊑ P.lives → κ ⊑ Lender.lives
  -- what a lender's value shows: the value itself, for a tree and for a route table
  pub view : Lender.Denot → MapAndShape V.Denot
  pub bytes : K.Denot → List ℕ
  pub inserting : Callee
  pub presenting : Callee

-- statements of MIR
abbrev pub slot : Ty → Local
slot τ = local τ value_local

abbrev pub from : ℕ → Opd
from i = copy (place i [])

abbrev pub copies : ℕ → ℕ → Body → Body
copies i j = seq (assign (place i []) (rv_opd (from j)))

module _ (L : Lending) where
  open L use {K, V, P, Lender, value_is, in_lender, view, bytes}

  abbrev pub key : RattleType
  key = param 0 K

  abbrev pub value : RattleType
  value = param 1 V

  abbrev pub Outcome : RattleType
  Outcome = result.the_row unit-field.row (not_inserted.the_row value)

  -- the result, which refers to the stored value
  abbrev pub Answer : Lft → RattleType
  Answer κ = result.the_row unit-field.row (try_insert_error.the_row (record { mir = named 0; lft = κ }) value)

  abbrev pub answer_is : (κ : Lft) → Laws (Answer κ)
  answer_is κ = result_laws.the_row_laws unit-field.row
      (try_insert_error.the_row (record { mir = named 0; lft = κ }) value) unit_is
      (try_insert_error_laws.the_row_laws (record { mir = named 0; lft = κ }) value (param_laws 1 V value_is))

  abbrev pub lender : Mutability → Lifetime → Local
  lender mutability ℓ = slot (ty_ref ℓ mutability (pointee Lender.written))

  abbrev pub refers : ℕ → Body → Body
  refers i = seq (assign (place i []) (addr_of (place 1 (deref (layout Lender) ∷ []))))

  -- the lender lives within κ and a lifetime of P
  pub lives_in : (κ κ₁ κ₂ κ' : Lft) → κ ⊑ κ₁ → κ ⊑ κ₂ → κ₁ ⊑ K.lives → κ₂ ⊑ V.lives → κ' ⊑ P.lives
      → (κ ++ κ') ⊑ Lender.lives
  lives_in κ κ₁ κ₂ κ' to_key to_value in_key in_value in_partial = in_lender (κ ++ κ')
      (⊑_trans (κ ++ κ') κ K.lives (meet_⊑_left κ κ') (⊑_trans κ κ₁ K.lives to_key in_key))
      (⊑_trans (κ ++ κ') κ V.lives (meet_⊑_left κ κ') (⊑_trans κ κ₂ V.lives to_value in_value))
      (⊑_trans (κ ++ κ') κ' P.lives (meet_⊑_right κ κ') in_partial)

  module _ (old : Lender.Denot) (k : K.Denot) where
    -- what the first call says of its outcome
    abbrev pub Inserted : V.Denot → Outcome.Denot → Lender.Denot → Type 0
    Inserted x s n = InsertsNew (bytes k) x (view old).pairs (view n).pairs s

    abbrev pub Unchanged : Outcome.Denot → Lender.Denot → Type 0
    Unchanged s n = OnErr s (n ≡ old)

    -- what the second call requires, and what it says of the answer
    abbrev pub Stored : Outcome.Denot → Type 0
    Stored s = IfErr s (IsStoredAt (view old).pairs (bytes k))

    abbrev pub Presented : (κ : Lft) → Outcome.Denot → (Answer κ).Denot → Type 0
    Presented κ s t = AddsPresent (view old).pairs (bytes k) s t

    -- what the function says of it, and what the lender ends as
    abbrev Answered : (κ : Lft) → V.Denot → (Answer κ).Denot → Type 0
    Answered κ x t = TriesInsert (bytes k) x (view old).pairs t

    abbrev Ends : (κ : Lft) → V.Denot → (Answer κ).Denot → Lender.Denot → Type 0
    Ends κ x t n = lemmas.EndsAs (view old) (view n) (bytes k) x t (view n)

  view_unchanged : (old new : Lender.Denot) (s : Result (Unit {0}) (NotInserted V.Denot)) → OnErr s (new ≡ old)
      → OnErr s (view new ≡ view old)
  view_unchanged old new (Ok _) unchanged = tt
  view_unchanged old new (Err _) unchanged = ap view unchanged

module _ {M : Type 1} {𝓤 : Ura M} (𝓛 : Logic 𝓤) where
  -- the contracts, from what is required and what is ensured of the result and the last values
  abbrev pub at_exit : (T : Ended) (κs : Lfts T.signature.lifetimes) (a : Args T.signature κs)
      → (Lasts T κs a → SProp 𝓤)
      → Lasts T κs a → SProp 𝓤
  at_exit T κs a Q ws = sep 𝓤 (sem 𝓛 (lasts T κs a ws)) (Q ws)

  abbrev pub contract_of : (T : Ended) → ((κs : Lfts T.signature.lifetimes) → Args T.signature κs → SProp 𝓤)
      → ((κs : Lfts T.signature.lifetimes) (a : Args T.signature κs) → Res T.signature κs → Lasts T κs a → SProp 𝓤)
      → Contract 𝓤
  contract_of T needs says = triple_of 𝓛 T.signature (λ κs a. record {
    ghost = Unit {0};
    requires = λ _. needs κs a;
    ensures = λ _ t. ex 𝓤 (at_exit T κs a (says κs a t));
  })

  module _ (L : Lending) where
    open L use {K, V, P, Lender, view, bytes}

    -- what each contract requires, beside Q
    abbrev pub within : (κ κ' κ'' : Lft) → SProp 𝓤 → SProp 𝓤
    within κ κ' κ'' Q = sep 𝓤 (fact 𝓤 (κ ⊑ K.lives)) (sep 𝓤 (fact 𝓤 (κ' ⊑ V.lives)) (sep 𝓤 (fact 𝓤 (κ'' ⊑ P.lives)) Q))

    pub are_within : (κ κ' κ'' : Lft) {Q : SProp 𝓤} → κ ⊑ K.lives → κ' ⊑ V.lives → κ'' ⊑ P.lives → ent 𝓤 (emp 𝓤) Q
        → ent 𝓤 (emp 𝓤) (within κ κ' κ'' Q)
    are_within κ κ' κ'' in_key in_value in_partial q = beside 𝓤 (κ ⊑ K.lives) in_key
        (beside 𝓤 (κ' ⊑ V.lives) in_value (beside 𝓤 (κ'' ⊑ P.lives) in_partial q))

    abbrev pub Said : (r : MutBor Lender.Denot) → K.Denot → V.Denot → (κ : Lft) → (Answer L κ).Denot → SProp 𝓤
    Said r k x κ t = sep 𝓤 (sem 𝓛 (follows_so Lender Lender r.ghost_name none (λ _ _. ⊤) (Ends L r.now k κ x t)))
        (fact 𝓤 (Answered L r.now k κ x t))

    pub said : (r : MutBor Lender.Denot) (k : K.Denot) (x : V.Denot) (κ : Lft) (s : (Outcome L).Denot)
        (n : Lender.Denot) (t : (Answer L κ).Denot)
        → Inserted L r.now k x s n → Unchanged L r.now k s n → Presented L n k κ s t
        → ent 𝓤 (𝓛.A.res r.ghost_name (Lender.coded.code n)) (Said r k x κ t)
    said r k x κ s n t inserted unchanged presented =
        let Follows = sem 𝓛 (follows_so Lender Lender r.ghost_name none (λ _ _. ⊤) (Ends L r.now k κ x t)) in
        via 𝓤 Follows (rests 𝓛 Lender r.ghost_name (Ends L r.now k κ x t) n
        (lemmas.ends_as_said (view r.now) (view n) (bytes k) x s t presented inserted
        (view_unchanged L r.now n s unchanged)))
        (qed 𝓛 (raw Follows ∷ []) ∵ use0 𝓛 (raw (fact 𝓤 (Answered L r.now k κ x t))) (fact_i 𝓤 _ (emp 𝓤)
        (lemmas.tries_insert (view r.now) (view n) (bytes k) x s t presented inserted)) $ move ! (1 ∷ 0 ∷ []) $ done !)
