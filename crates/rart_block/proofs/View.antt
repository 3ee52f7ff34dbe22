-- A `Slots` as a value: a pointer, and what it shows. Assumes `Logic`.
use Rattle.rart_block.proofs.Walk.{◌≡◌, refl, List, [], ◌∷◌, ℕ, ◌+◌, Ura, Fml, Lft, ent, never, Logic, sem, Goal, Item}
use Rattle.rart_block.proofs.Walk.{Seq, ‵, ◌$◌, ◌∵◌, !, qed, move, drop, use0, rewrite, done, fsplit, RattleType}
use Rattle.rart_block.proofs.Walk.{hidden_shr, hide, unhide, Ptr, RawPtr, block_ptr, null_ptr, ptr_val, in_a_block}
use mir.Val.{vstruct, vnil}
use denote.Ref.{NamedLft}
use denote.Shadow.{makes_shadow}
use denote.Struct.Struct.{Struct}
use denote.Struct.Owning.{shape}
use Rattle.core.proofs.sync.Guard.{guard_of}
use Rattle.std.specs.Prelude.{Option}
use Rattle.rart_block.specs.SlotMemory.{slots_seen}
use Rattle.rart_block.specs.contracts.raw_sparse.Slots as C

module _ (a : NamedLft) (T : RattleType) where
  abbrev pub View : RattleType
  View = C.the_row a T

  abbrev Words : RattleType
  Words = Struct (shape (C.the_type a T))

  pub view_made : {M : Type 1} {𝓤 : Ura M} (𝓛 : Logic 𝓤) (p : Ptr) (os : List (Option T.Denot))
      → ent 𝓤 (sem 𝓛 (slots_seen T p os a.lft))
      (sem 𝓛 (View.own_val (record { ptr = p; borrow = record {}; items = os }) (guard_of p ∷ [])))
  view_made 𝓛 p os = let Fields : Fml = Words.own_val (p, (tt, tt)) (guard_of p ∷ []) in
      qed 𝓛 (‵ (slots_seen T p os a.lft) ∷ []) ∵
      use0 𝓛 (‵ Fields) (makes_shadow 𝓛 Fields (λ vss. (tt, (tt, ((λ uss. (tt, tt)), tt))))
      ((ptr_val p ∷ [], (vstruct vnil ∷ [], tt)), (refl, (refl, ((tt, (refl, tt)), tt))))) $ done !

module _ (a : NamedLft) (T : RattleType) {M : Type 1} {𝓤 : Ura M} {𝓛 : Logic 𝓤} {K : Type 0} {Γ : List (Item 𝓤)}
    {G : Goal 𝓤 𝓛.H} where
  -- behind a `&`: [what it shows; the pointer, shared]
  pub view_seen : K → {κ : Lft} (d : (View a T).Denot) (rb ro : ℕ)
      → ent 𝓤 (sem 𝓛 (slots_seen T null_ptr d.items a.lft)) (never 𝓤)
      → ((k o : ℕ) → d.ptr ≡ block_ptr k o
      → Seq K 𝓛 (‵ (slots_seen T (block_ptr k o) d.items a.lft) ∷ ‵ (hidden_shr RawPtr κ (block_ptr k o) rb (ro + 0))
      ∷ Γ) G)
      → Seq K 𝓛 (‵ (hidden_shr (View a T) κ d rb ro) ∷ Γ) G
  view_seen t {κ} d rb ro nowhere next =
      unhide t $ fsplit t $ fsplit t $ fsplit t $ hide t $ move t (1 ∷ 2 ∷ []) $ drop t $ drop t $ move t (1 ∷ []) $
      in_a_block t d.ptr (λ p. slots_seen T p d.items a.lft) nowhere (λ k o at.
      rewrite t 1 (λ (p : Ptr). ‵ (hidden_shr RawPtr κ p rb (ro + 0))) at refl $ next k o at)
