use mathlib.Core.List.{[], ◌++◌}
use base.Fml.{Incl, Incl-trans}
use contract.BorrowLft.{meet_⊑_left, meet_⊑_right}
use denote.RattleType.{RattleType}
use denote.Param.{value_of}
use denote.Param.Laws.{Laws, IsNumber}
use denote.Param.Shared.{copy_shared}
use denote.Struct.Field.{RawPtr-field}
use denote.Struct.Laws.{RawPtr-copy}
use denote.Struct.Lending.{of_Lends}
use Rattle.rart_block.specs.Memory.{global_token}
use Rattle.rart_block.specs.contracts.raw_sparse.RawSparseBlock as C
use Rattle.rart_block.proofs.raw_sparse.RawSparseBlock.TheLaw.Statement.{statement}
use Rattle.rart_block.proofs.SparseShares.{shared_laws, sparse_lent}

pub shares : (H T W : RattleType) (LH : Laws H) (LT : Laws T) (LW : IsNumber W) → statement H T W LH LT LW
shares H T W LH LT LW =
    let w = value_of W in
    let types = T.lives ++ (W.lives ++ []) in
    let both : Incl (C.the_row H T W).lives (H.lives ++ types) = meet_⊑_left (H.lives ++ types) _ in
    let head : Incl (C.the_row H T W).lives H.lives = Incl-trans both (meet_⊑_left H.lives types) in
    let item : Incl (C.the_row H T W).lives T.lives
    = Incl-trans (Incl-trans both (meet_⊑_right H.lives types)) (meet_⊑_left T.lives (W.lives ++ [])) in
    of_Lends (C.struct H T W) (C.the_codes H.Denot T.Denot w H.coded T.coded) (C.the_heap H T W) (C.the_lent H T W)
    (λ b _. shared_laws H T w LH LT b.ptr b.head b.slots) (copy_shared RawPtr-field RawPtr-copy, tt)
    (λ M 𝓤 𝓛 b _. sparse_lent H T w LH LT 𝓛 (C.the_row H T W).lives head item global_token b.ptr b.head b.slots)
