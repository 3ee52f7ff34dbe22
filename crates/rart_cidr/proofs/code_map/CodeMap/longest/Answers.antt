use Rattle.std.proofs.Common.{◌≡◌, ◌<◌, true, None, Some, slice_get, vec_len, ap, arith, subst, sym, ◌∙◌}
use Rattle.std.proofs.lemmas.Option.{slice_get_read}
use Rattle.rart_cidr.specs.CodeSets.{has_code, rank_of}
use Rattle.rart_cidr.specs.Routes.{IsLongestIn}
use Rattle.rart_cidr.proofs.routes.CodeMapLemmas.{longest-target, no-longest, rank-below}
use Rattle.rart_cidr.proofs.code_map.CodeMap.longest.Goals as goal

pub index-requires : goal.index-requires
index-requires g c =
    let words = c.self.inside.codes.words in let targets = c.self.inside.targets.items in
    let count = c.self.invariant.count in let code = c.code_of.result in
    let small : code < 256 = omega (arith, c.code_of.type_inv) in
    let bit : has_code words code ≡ true = ap (has_code words) c.code_of.ensures.value ∙ c.in-Some.ensures.1 in
    let below = rank-below words targets code small count bit in
    let within : c.rank-at.result < vec_len c.self.inside.targets
    = omega (arith, below, c.rank-at.ensures, c.self.inside.targets.ok.0) in
    within

pub returns-in-Some : goal.returns-in-Some
returns-in-Some g c =
    let words = c.self.inside.codes.words in let targets = c.self.inside.targets.items in
    let count = c.self.invariant.count in let code = c.code_of.result in
    let small : code < 256 = omega (arith, c.code_of.type_inv) in
    let bit : has_code words code ≡ true = ap (has_code words) c.code_of.ensures.value ∙ c.in-Some.ensures.1 in
    let below = rank-below words targets code small count bit in
    let within : c.rank-at.result < vec_len c.self.inside.targets
    = omega (arith, below, c.rank-at.ensures, c.self.inside.targets.ok.0) in
    let found : slice_get targets (rank_of words code) ≡ Some c.index.result.now
    = ap (slice_get targets) (sym c.rank-at.ensures) ∙ slice_get_read targets (vec_len c.self.inside.targets)
    c.rank-at.result c.index.result.now c.self.inside.targets.ok.0 within c.index.ensures in
    subst (λ m. IsLongestIn m c.args.byte c.args.most (Some (c.in-Some.bits, c.index.result.now))) c.self.view_is
    (longest-target words targets count c.args.byte c.args.most c.in-Some.bits c.index.result.now
    (subst (λ k. k < 256) c.code_of.ensures.value small) c.in-Some.ensures
    (ap (λ k. slice_get targets (rank_of words k)) (sym c.code_of.ensures.value) ∙ found))

pub returns-in-None : goal.returns-in-None
returns-in-None g c = subst (λ m. IsLongestIn m c.args.byte c.args.most None) c.self.view_is
    (no-longest c.self.inside.codes.words c.self.inside.targets.items c.args.byte c.args.most c.in-None.ensures)
