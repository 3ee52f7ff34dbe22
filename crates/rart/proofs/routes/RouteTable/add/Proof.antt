-- `add` lends the table to `add_new`, and then shares it for good: it ends as that call left it.
use denote.Param.{param}
use denote.Param.Laws.{param_laws}
use Rattle.rart.proofs.trees.LentAndShared.{lent_and_shared}
use Rattle.rart.proofs.routes.RouteTable.TheLaws as table_laws
use Rattle.rart.proofs.routes.RouteTable.add_new.Met as adds
use Rattle.rart.proofs.routes.RouteTable.with_present.Met as presents
use Rattle.rart.proofs.routes.RouteTable.add.Statement.{statement}
use Rattle.rart.proofs.routes.RouteTable.add.Code as code

pub add_spec : {M : Type 1} → statement M
unfolding code.code
add_spec 𝓤 𝓛 𝓜 𝓡 wired K V P LK LV LP gk dk ge de gpe dpe go d-o gpo dpo gp dp dd mk me mpe mo mpo mp md =
    lent_and_shared 𝓤 𝓛 𝓜 𝓡 (record {
      K = K;
      V = V;
      P = P;
      Lender = _;
      key_is = LK;
      value_is = LV;
      lender_is = table_laws.the_row_laws (param 0 K) (param 1 V) (param 2 P) gk gpe go gpo gp (param_laws 0 K LK)
          (param_laws 1 V LV) (param_laws 2 P LP);
      in_lender = table_laws.the_within (param 0 K) (param 1 V) (param 2 P) gk gpe go gpo gp;
      view = λ now. now;
      bytes = gk.bytes;
      inserting = _;
      presenting = _;
    })
    (adds.met 𝓤 𝓛 𝓜 𝓡 (code.calls-rart::routes::RouteTable::add_new 𝓡.env wired) K V P LK LV LP gk dk ge de gpe dpe go
    d-o gpo dpo gp dp dd mk me mpe mo mpo mp md)
    (presents.met 𝓤 𝓛 𝓜 𝓡 (code.calls-rart::routes::RouteTable::with_present 𝓡.env wired) K V P LK LV LP gk dk ge de gpe
    dpe go d-o gpo dpo gp dp dd mk me mpe mo mpo mp md)
    _ (code.unfolded 𝓤 𝓛.H 𝓜 𝓡 wired (K, (V, (P, tt))) dk de dpe d-o dpo dp dd)
