-- The places of a block are handed to `lodge`. Assumes `Logic`.
use Rattle.rart_block.proofs.Walk.{◌≡◌, refl, List, [], ◌∷◌, ℕ, ◌<◌, ◌≤◌, ◌^◌, arith, length, Ura, Val, vint, vptr, w64}
use Rattle.rart_block.proofs.Walk.{full_share, flft, SProp, ent, emp, Memory, Routine, Fun, fact, fact_i, ◌⊑◌, Logic}
use Rattle.rart_block.proofs.Walk.{sem}
use Rattle.rart_block.proofs.Walk.{‵, raw, ◌$◌, ◌∵◌, !, qed, use0, join, done, fjoin, feq_i, flt_i, RattleType, param}
use Rattle.rart_block.proofs.Walk.{block_ptr, nothing, lodged, Lodges, at_lodge}
use contract.BorrowLft.{⊑_refl}

module _ (Y : RattleType) {M : Type 1} {𝓤 : Ura M} (𝓛 : Logic 𝓤) (at_mem : Memory → SProp 𝓤) (run : Routine → Fun 𝓤)
    (k o n c : ℕ) (xs : List Y.Denot) where
  -- `lodge_goes` of the kit, for any capacity
  pub places_go : n ≡ length xs → n ≤ c → c < 2 ^ 63
      → ent 𝓤 (sem 𝓛 (lodged (param 0 Y) (block_ptr k o) n c xs))
      ((Lodges Y 𝓛 at_mem run).pre (at_lodge Y 𝓛 at_mem run k o n c xs))
  places_go len few narrow =
      let Asked = (n ≡ length xs) × (n ≤ c) × (c < 2 ^ 63) in
      qed 𝓛 (‵ (lodged (param 0 Y) (block_ptr k o) n c xs) ∷ []) ∵
      -- what `lodge` requires
      use0 𝓛 (raw (fact 𝓤 Asked)) (fact_i 𝓤 Asked (emp 𝓤) (len, few, narrow)) $ join ! $
      use0 𝓛 (raw (fact 𝓤 ([] ⊑ []))) (fact_i 𝓤 ([] ⊑ []) (emp 𝓤) (⊑_refl [])) $ join ! $
      -- its arguments, the last first
      nothing ! $ flt_i ! c (2 ^ 64) (omega arith) $ feq_i ! (List Val) (vint w64 c ∷ []) (vint w64 c ∷ []) refl $
      fjoin ! $ fjoin ! $
      flt_i ! n (2 ^ 64) (omega arith) $ feq_i ! (List Val) (vint w64 n ∷ []) (vint w64 n ∷ []) refl $
      fjoin ! $ fjoin ! $
      feq_i ! (List Val) (vptr k o ∷ []) (vptr k o ∷ []) refl $ fjoin ! $
      -- the token of no lifetime
      nothing ! $ use0 𝓛 (‵ (flft [] full_share)) (𝓛.lfts.lft-nil full_share) $ join ! $ join ! $ done !
