-- A sparse block by value, behind a `&mut` and behind a `&`, as steps of a walk. Assumes `Logic`.
use Rattle.rart_block.proofs.Walk.{◌≡◌, refl, sym, ap, ◌∙◌, List, [], ◌∷◌, ℕ, ◌+◌, Ura, Val, full_share, Fml, GName}
use Rattle.rart_block.proofs.Walk.{Lft, Share, fauth, fbor, flft, fobor, fobs, fsep, ent, never, Logic, sem}
use Rattle.rart_block.proofs.Walk.{Borrowed, Goal, Item, Seq, Soaks, Step, step, ‵, ◌$◌, ◌∵◌, !, qed, move, keep, drop}
use Rattle.rart_block.proofs.Walk.{rewrite, done, fsplit, fjoin, fpack, RattleType, cell_at, hidden_shr, mem, part_at}
use Rattle.rart_block.proofs.Walk.{part_of, hide, unhide, Ptr, RawPtr, block_ptr, null_ptr, in_a_block, opens, word}
use Rattle.rart_block.proofs.Walk.{word_had, word_made}
use Rattle.rart_block.specs.Memory.{global_token}
use Rattle.rart_block.specs.SlotMemory.{sparse_owned, sparse_shared}
use Rattle.rart_block.specs.contracts.raw_sparse.RawSparseBlock as C
use Rattle.rart_block.proofs.Parts.{Parts, H, X, W, w}

module _ (P : Parts) where
  abbrev pub Sparse : RattleType
  Sparse = C.the_row (H P) (X P) (W P)

  abbrev pub Held : Type 0
  Held = Sparse.Denot

  abbrev pub Owned : Ptr → Held → Fml
  Owned p b = sparse_owned (H P) (X P) (w P) global_token p b.head b.slots

  abbrev Seen : Ptr → Held → Lft → Fml
  Seen p b = sparse_shared (H P) (X P) (w P) p b.head b.slots

  module _ {M : Type 1} {𝓤 : Ura M} (𝓛 : Logic 𝓤) where
    owned_nowhere : (b : Held) → ent 𝓤 (sem 𝓛 (Owned null_ptr b)) (never 𝓤)
    owned_nowhere b = qed 𝓛 (‵ (Owned null_ptr b) ∷ []) ∵ fsplit ! $ keep ! (0 ∷ []) $ done !

    seen_nowhere : (b : Held) (κ : Lft) → ent 𝓤 (sem 𝓛 (Seen null_ptr b κ)) (never 𝓤)
    seen_nowhere b κ = qed 𝓛 (‵ (Seen null_ptr b κ) ∷ []) ∵ fsplit ! $ fsplit ! $ keep ! (0 ∷ []) $ done !

module _ (P : Parts) {M : Type 1} {𝓤 : Ura M} {𝓛 : Logic 𝓤} {K : Type 0} {Γ : List (Item 𝓤)} {G : Goal 𝓤 𝓛.H} where
  -- a block by value is a pointer and what lies there
  pub sparse_had : K → (b : Held P) (vs : List Val)
      → ((k o : ℕ) → b.ptr ≡ block_ptr k o → vs ≡ word (block_ptr k o) ∷ []
      → Seq K 𝓛 (‵ (Owned P (block_ptr k o) b) ∷ Γ) G)
      → Seq K 𝓛 (‵ ((Sparse P).own_val b vs) ∷ Γ) G
  sparse_had t b vs next = fsplit t $ word_had t b.ptr vs (λ is.
      in_a_block t b.ptr (λ p. Owned P p b) (owned_nowhere P 𝓛 b) (λ k o at.
      next k o at (is ∙ ap (λ (p : Ptr). word p ∷ []) at)))

  pub sparse_made : K → (b : Held P) (p : Ptr) → b.ptr ≡ p
      → Step K 𝓛 (‵ ((Sparse P).own_val b (word p ∷ [])) ∷ Γ) G (‵ (Owned P p b) ∷ Γ) G
  sparse_made t b p at = step (λ rest.
      rewrite t 0 (λ (q : Ptr). ‵ (Owned P q b)) (sym at) refl $ word_made t b.ptr $ fjoin t $
      rewrite t 0 (λ (q : Ptr). ‵ ((Sparse P).own_val b (word q ∷ []))) at refl $ rest)

module _ (P : Parts) {M : Type 1} {𝓤 : Ura M} {𝓛 : Logic 𝓤} {K : Type 0} {Γ : List (Item 𝓤)} {G : Goal 𝓤 𝓛.H} where
  -- behind a `&mut`: [the block; the pointer's cell; the open borrow; what is seen of it; what it ends as]
  pub sparse_opens : K → Soaks G → {κ : Lft} {q : Share} {γ : GName} (b : Held P) (rb ro : ℕ)
      → ((k o : ℕ) → b.ptr ≡ block_ptr k o
      → Seq K 𝓛 (‵ (Owned P (block_ptr k o) b)
      ∷ ‵ (cell_at full_share (Sparse P).mir (word (block_ptr k o) ∷ []) rb ro)
      ∷ ‵ (fobor κ q (Borrowed (mem (Sparse P)) rb ro γ)) ∷ ‵ (fobs γ ((Sparse P).coded.code b))
      ∷ ‵ (fauth γ ((Sparse P).coded.code b)) ∷ Γ) G)
      → Seq K 𝓛 (‵ (fobs γ ((Sparse P).coded.code b)) ∷ ‵ (fbor κ (Borrowed (mem (Sparse P)) rb ro γ))
      ∷ ‵ (flft κ q) ∷ Γ) G
  sparse_opens t z b rb ro next = opens t z (Sparse P) {h = b} rb ro (λ vs. move t (1 ∷ []) $
      sparse_had P t b vs (λ k o at is.
      rewrite t 1 (λ (us : List Val). ‵ (cell_at full_share (Sparse P).mir us rb ro)) is refl $ next k o at))

  -- the cell and what is owned there are the block in its place
  pub sparse_lies : K → (b : Held P) (vs : List Val) (rb ro : ℕ)
      → Step K 𝓛 (‵ (part_at (Sparse P) full_share b rb ro) ∷ Γ) G
      (‵ (cell_at full_share (Sparse P).mir vs rb ro) ∷ ‵ ((Sparse P).own_val b vs) ∷ Γ) G
  unfolding part_of
  sparse_lies t b vs rb ro = step (λ rest. fjoin t $ fpack t (List Val)
      (λ us. fsep (cell_at full_share (Sparse P).mir us rb ro) ((Sparse P).own_val b us)) vs $ rest)

  -- behind a `&`: [what is seen of the block; the pointer, shared]
  pub sparse_seen : K → {κ : Lft} (b : Held P) (rb ro : ℕ)
      → ((k o : ℕ) → b.ptr ≡ block_ptr k o
      → Seq K 𝓛 (‵ (Seen P (block_ptr k o) b κ) ∷ ‵ (hidden_shr RawPtr κ (block_ptr k o) rb (ro + 0)) ∷ Γ) G)
      → Seq K 𝓛 (‵ (hidden_shr (Sparse P) κ b rb ro) ∷ Γ) G
  sparse_seen t {κ} b rb ro next =
      unhide t $ fsplit t $ fsplit t $ fsplit t $ hide t $ move t (1 ∷ 2 ∷ []) $ drop t $ drop t $ move t (1 ∷ []) $
      in_a_block t b.ptr (λ p. Seen P p b κ) (seen_nowhere P 𝓛 b κ) (λ k o at.
      rewrite t 1 (λ (p : Ptr). ‵ (hidden_shr RawPtr κ p rb (ro + 0))) at refl $ next k o at)
