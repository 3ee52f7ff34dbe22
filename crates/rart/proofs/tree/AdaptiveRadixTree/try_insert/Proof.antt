-- `try_insert` lends the tree to `insert_new_keeping_key`, and then shares it for good: it ends as that call left it.
use denote.Param.{param}
use denote.Param.Laws.{param_laws}
use Rattle.rart.proofs.trees.LentAndSharedKeepingKey.{lent_and_shared_keeping_key}
use Rattle.rart.proofs.tree.AdaptiveRadixTree.TheLaws as tree_laws
use Rattle.rart.proofs.tree.AdaptiveRadixTree.insert_new_keeping_key.Met as inserts
use Rattle.rart.proofs.tree.AdaptiveRadixTree.tried_with_present.Met as presents
use Rattle.rart.proofs.tree.AdaptiveRadixTree.try_insert.Statement.{statement}
use Rattle.rart.proofs.tree.AdaptiveRadixTree.try_insert.Code as code

pub try_insert_spec : {M : Type 1} → statement M
unfolding code.code
try_insert_spec 𝓤 𝓛 𝓜 𝓡 wired K V P LK LV LP gk dk ge de gpe dpe go d-o gpo dpo gp dp dd dr mk me mpe mo mpo mp md mr =
    lent_and_shared_keeping_key 𝓤 𝓛 𝓜 𝓡 (record {
      K = K;
      V = V;
      P = P;
      Lender = _;
      key_is = LK;
      value_is = LV;
      lender_is = tree_laws.the_row_laws (param 0 K) (param 1 V) (param 2 P) gk gpe go gpo gp (param_laws 0 K LK)
          (param_laws 1 V LV) (param_laws 2 P LP);
      in_lender = tree_laws.the_within (param 0 K) (param 1 V) (param 2 P) gk gpe go gpo gp;
      view = λ now. now;
      bytes = gk.bytes;
      inserting = _;
      presenting = _;
    })
    (inserts.met 𝓤 𝓛 𝓜 𝓡 (code.calls-rart::tree::AdaptiveRadixTree::insert_new_keeping_key 𝓡.env wired) K V P LK LV LP
    gk dk ge de gpe dpe go d-o gpo dpo gp dp dd mk me mpe mo mpo mp md)
    (presents.met 𝓤 𝓛 𝓜 𝓡 (code.calls-rart::tree::AdaptiveRadixTree::tried_with_present 𝓡.env wired) K V P LK LV LP gk
    dk ge de gpe dpe go d-o gpo dpo gp dp dd dr mk me mpe mo mpo mp md mr)
    _ (code.unfolded 𝓤 𝓛.H 𝓜 𝓡 wired (K, (V, (P, tt))) dk de dpe d-o dpo dp dd dr)
