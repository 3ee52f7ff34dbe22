-- `try_insert_k` lends the tree to `insert_new_k`, and then shares it for good: it ends as that call left it.
use denote.Param.{param}
use denote.Param.Laws.{param_laws}
use Rattle.rart.proofs.trees.LentAndShared.{lent_and_shared}
use Rattle.rart.proofs.tree.AdaptiveRadixTree.TheLaws as tree_laws
use Rattle.rart.proofs.tree.AdaptiveRadixTree.insert_new_k.Met as inserts
use Rattle.rart.proofs.tree.AdaptiveRadixTree.with_present.Met as presents
use Rattle.rart.proofs.tree.AdaptiveRadixTree.try_insert_k.Statement.{statement}
use Rattle.rart.proofs.tree.AdaptiveRadixTree.try_insert_k.Code as code

pub try_insert_k_spec : {M : Type 1} → statement M
unfolding code.code
try_insert_k_spec 𝓤 𝓛 𝓜 𝓡 wired K V P LK LV LP gk dk ge de gpe dpe go d-o gpo dpo gp dp dd mk me mpe mo mpo mp md =
    lent_and_shared 𝓤 𝓛 𝓜 𝓡 (record {
      K = K;
      V = V;
      P = P;
      Lender = _;
      key_is = LK;
      value_is = LV;
      lender_is = tree_laws.the_row_laws (param 0 K) (param 1 V) (param 2 P) gk gpe go gpo gp (param_laws 0 K LK)
          (param_laws 1 V LV) (param_laws 2 P LP);
      in_lender = tree_laws.the_within (param 0 K) (param 1 V) (param 2 P) gk gpe go gpo gp;
      view = λ now. now;
      bytes = gk.bytes;
      inserting = _;
      presenting = _;
    })
    (inserts.met 𝓤 𝓛 𝓜 𝓡 (code.calls-rart::tree::AdaptiveRadixTree::insert_new_k 𝓡.env wired) K V P LK LV LP gk dk ge
    de gpe dpe go d-o gpo dpo gp dp dd mk me mpe mo mpo mp md)
    (presents.met 𝓤 𝓛 𝓜 𝓡 (code.calls-rart::tree::AdaptiveRadixTree::with_present 𝓡.env wired) K V P LK LV LP gk dk ge
    de gpe dpe go d-o gpo dpo gp dp dd mk me mpe mo mpo mp md)
    _ (code.unfolded 𝓤 𝓛.H 𝓜 𝓡 wired (K, (V, (P, tt))) dk de dpe d-o dpo dp dd)
