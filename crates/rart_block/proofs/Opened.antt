-- A block by value, behind a `&mut` and behind a `&`, as steps of a walk. Assumes `Logic`.
use Rattle.rart_block.proofs.Walk.{◌≡◌, refl, sym, ap, ◌∙◌, List, [], ◌∷◌, ℕ, ◌+◌, Ura, Val, full_share, Fml, GName}
use Rattle.rart_block.proofs.Walk.{Lft, Share, fauth, fbor, flft, fobor, fobs, fsep, SProp, ent, sep, never, via, fst∗}
use Rattle.rart_block.proofs.Walk.{snd∗, id⊢, fact, fact_use, Logic, sem, Borrowed, Goal, Item, Seq, Soaks, Step, step}
use Rattle.rart_block.proofs.Walk.{‵}
use Rattle.rart_block.proofs.Walk.{◌$◌, ◌∵◌, !, qed, move, keep, drop, rewrite, done, fsplit, fjoin, fpack, cell_at}
use Rattle.rart_block.proofs.Walk.{hidden_shr, mem, part_at, part_of, hide, unhide, Ptr, RawPtr, block_ptr, null_ptr}
use Rattle.rart_block.proofs.Walk.{coded_ptr, ptr_own, ptr_val, rawptr_pure, in_a_block, opens, looks, shuts, word}
use Rattle.rart_block.proofs.Walk.{word_had, word_made, plain_Copied, RawPtr-laws, Shut, fat, ty_ptr, vptr, feq_i}
use Rattle.rart_block.proofs.Walk.{feq_l}
use Rattle.rart_block.specs.Memory.{global_token, block_owned, block_shared}
use Rattle.rart_block.proofs.Parts.{Parts, H, X, w, Block, Value}

module _ {M : Type 1} (𝓤 : Ura M) where
  abbrev after_facts : List (SProp 𝓤) → SProp 𝓤 → SProp 𝓤
  after_facts [] Q = Q
  after_facts (P ∷ Ps) Q = sep 𝓤 P (after_facts Ps Q)

  last : (Ps : List (SProp 𝓤)) (Q : SProp 𝓤) → ent 𝓤 (after_facts Ps Q) Q
  last [] Q = id⊢ 𝓤 Q
  last (P ∷ Ps) Q = via 𝓤 (after_facts Ps Q) (snd∗ 𝓤 P (after_facts Ps Q)) (last Ps Q)

  -- what a function requires: the last of the facts at its entry
  pub required : (Ps : List (SProp 𝓤)) (φ : Type 0) (On : SProp 𝓤) {G : SProp 𝓤} → (φ → ent 𝓤 On G)
      → ent 𝓤 (sep 𝓤 On (after_facts Ps (fact 𝓤 φ))) G
  required Ps φ On k = let All = after_facts Ps (fact 𝓤 φ) in
      fact_use 𝓤 φ (via 𝓤 All (snd∗ 𝓤 On All) (last Ps (fact 𝓤 φ))) (λ x. via 𝓤 On (fst∗ 𝓤 On All) (k x))

module _ (P : Parts) where
  abbrev pub Owned : Ptr → Value P → Fml
  Owned p b = block_owned (H P) (X P) (w P) global_token p b.head b.items b.apart

  abbrev Seen : Ptr → Value P → Lft → Fml
  Seen p b = block_shared (H P) (X P) (w P) p b.head b.items b.apart

  module _ {M : Type 1} {𝓤 : Ura M} (𝓛 : Logic 𝓤) where
    owned_nowhere : (b : Value P) → ent 𝓤 (sem 𝓛 (Owned null_ptr b)) (never 𝓤)
    owned_nowhere b = qed 𝓛 (‵ (Owned null_ptr b) ∷ []) ∵ fsplit ! $ keep ! (0 ∷ []) $ done !

    seen_nowhere : (b : Value P) (κ : Lft) → ent 𝓤 (sem 𝓛 (Seen null_ptr b κ)) (never 𝓤)
    seen_nowhere b κ = qed 𝓛 (‵ (Seen null_ptr b κ) ∷ []) ∵ fsplit ! $ fsplit ! $ keep ! (0 ∷ []) $ done !

module _ {M : Type 1} {𝓤 : Ura M} {𝓛 : Logic 𝓤} {K : Type 0} {Γ : List (Item 𝓤)} {G : Goal 𝓤 𝓛.H} where
  -- the machine's pointer behind a `&`: [its cell; the way back]
  pub shows_pointer : K → Soaks G → {κ : Lft} {q : Share} (k o rb ro : ℕ)
      → ((r : Share) → Seq K 𝓛 (‵ (fat r ty_ptr rb ro (vptr k o))
      ∷ Shut 𝓛 κ q (part_at RawPtr r (block_ptr k o) rb ro) ∷ Γ) G)
      → Seq K 𝓛 (‵ (hidden_shr RawPtr κ (block_ptr k o) rb ro) ∷ ‵ (flft κ q) ∷ Γ) G
  shows_pointer t z k o rb ro next =
      let copied = plain_Copied 𝓛 Ptr coded_ptr (ty_ptr ∷ []) ptr_own rawptr_pure ptr_val RawPtr-laws.tells in
      looks t z RawPtr copied.opens (block_ptr k o) rb ro (λ r us. move t (1 ∷ []) $ feq_l t (λ is.
      rewrite t 0 (λ (vs : List Val). ‵ (cell_at r RawPtr.mir vs rb ro)) is refl $ move t (2 ∷ []) $ drop t $ next r))

  pub hides_pointer : K → Soaks G → {κ : Lft} {q r : Share} (k o rb ro : ℕ)
      → Step K 𝓛 (‵ (flft κ q) ∷ Γ) G (‵ (fat r ty_ptr rb ro (vptr k o))
      ∷ Shut 𝓛 κ q (part_at RawPtr r (block_ptr k o) rb ro) ∷ Γ) G
  hides_pointer t z {r = r} k o rb ro = step (λ rest.
      feq_i t (List Val) (vptr k o ∷ []) (vptr k o ∷ []) refl $ move t (1 ∷ 0 ∷ []) $
      shuts t z RawPtr r (block_ptr k o) (vptr k o ∷ []) rb ro $ rest)

module _ (P : Parts) {M : Type 1} {𝓤 : Ura M} {𝓛 : Logic 𝓤} {K : Type 0} {Γ : List (Item 𝓤)} {G : Goal 𝓤 𝓛.H} where
  -- a block by value is a pointer and what lies there
  pub block_had : K → (b : Value P) (vs : List Val)
      → ((k o : ℕ) → b.ptr ≡ block_ptr k o → vs ≡ word (block_ptr k o) ∷ []
      → Seq K 𝓛 (‵ (Owned P (block_ptr k o) b) ∷ Γ) G)
      → Seq K 𝓛 (‵ ((Block P).own_val b vs) ∷ Γ) G
  block_had t b vs next = fsplit t $ word_had t b.ptr vs (λ is.
      in_a_block t b.ptr (λ p. Owned P p b) (owned_nowhere P 𝓛 b) (λ k o at.
      next k o at (is ∙ ap (λ (p : Ptr). word p ∷ []) at)))

  pub block_made : K → (b : Value P) (p : Ptr) → b.ptr ≡ p
      → Step K 𝓛 (‵ ((Block P).own_val b (word p ∷ [])) ∷ Γ) G (‵ (Owned P p b) ∷ Γ) G
  block_made t b p at = step (λ rest.
      rewrite t 0 (λ (q : Ptr). ‵ (Owned P q b)) (sym at) refl $ word_made t b.ptr $ fjoin t $
      rewrite t 0 (λ (q : Ptr). ‵ ((Block P).own_val b (word q ∷ []))) at refl $ rest)

module _ (P : Parts) {M : Type 1} {𝓤 : Ura M} {𝓛 : Logic 𝓤} {K : Type 0} {Γ : List (Item 𝓤)} {G : Goal 𝓤 𝓛.H} where
  -- behind a `&mut`: [the block; the pointer's cell; the open borrow; what is seen of it; what it ends as]
  pub block_opens : K → Soaks G → {κ : Lft} {q : Share} {γ : GName} (b : Value P) (rb ro : ℕ)
      → ((k o : ℕ) → b.ptr ≡ block_ptr k o
      → Seq K 𝓛 (‵ (Owned P (block_ptr k o) b)
      ∷ ‵ (cell_at full_share (Block P).mir (word (block_ptr k o) ∷ []) rb ro)
      ∷ ‵ (fobor κ q (Borrowed (mem (Block P)) rb ro γ)) ∷ ‵ (fobs γ ((Block P).coded.code b))
      ∷ ‵ (fauth γ ((Block P).coded.code b)) ∷ Γ) G)
      → Seq K 𝓛 (‵ (fobs γ ((Block P).coded.code b)) ∷ ‵ (fbor κ (Borrowed (mem (Block P)) rb ro γ))
      ∷ ‵ (flft κ q) ∷ Γ) G
  block_opens t z b rb ro next = opens t z (Block P) {h = b} rb ro (λ vs. move t (1 ∷ []) $
      block_had P t b vs (λ k o at is.
      rewrite t 1 (λ (us : List Val). ‵ (cell_at full_share (Block P).mir us rb ro)) is refl $ next k o at))

  -- the cell and what is owned there are the block in its place
  pub block_lies : K → (b : Value P) (vs : List Val) (rb ro : ℕ)
      → Step K 𝓛 (‵ (part_at (Block P) full_share b rb ro) ∷ Γ) G
      (‵ (cell_at full_share (Block P).mir vs rb ro) ∷ ‵ ((Block P).own_val b vs) ∷ Γ) G
  unfolding part_of
  block_lies t b vs rb ro = step (λ rest. fjoin t $ fpack t (List Val)
      (λ us. fsep (cell_at full_share (Block P).mir us rb ro) ((Block P).own_val b us)) vs $ rest)

  -- behind a `&`: [what is seen of the block; the pointer, shared]
  pub block_seen : K → {κ : Lft} (b : Value P) (rb ro : ℕ)
      → ((k o : ℕ) → b.ptr ≡ block_ptr k o
      → Seq K 𝓛 (‵ (Seen P (block_ptr k o) b κ) ∷ ‵ (hidden_shr RawPtr κ (block_ptr k o) rb (ro + 0)) ∷ Γ) G)
      → Seq K 𝓛 (‵ (hidden_shr (Block P) κ b rb ro) ∷ Γ) G
  block_seen t {κ} b rb ro next =
      unhide t $ fsplit t $ fsplit t $ fsplit t $ hide t $ move t (1 ∷ 2 ∷ []) $ drop t $ drop t $ move t (1 ∷ []) $
      in_a_block t b.ptr (λ p. Seen P p b κ) (seen_nowhere P 𝓛 b κ) (λ k o at.
      rewrite t 1 (λ (p : Ptr). ‵ (hidden_shr RawPtr κ p rb (ro + 0))) at refl $ next k o at)
