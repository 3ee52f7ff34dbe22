use Rattle.std.proofs.Common.{◌≡◌, ◌<◌, ◌==◌, ◌&&◌, not, true, false, None, [], ◌∷◌, slice_get, remove, vec_len}
use Rattle.std.proofs.Common.{vec_capacity, ap, arith, subst, sym, ◌∙◌}
use Rattle.std.proofs.lemmas.Option.{slice_get_read}
use Rattle.rart_keys.specs.SortedMap.{IsAscending, lookup, without}
use Rattle.rart_cidr.specs.CodeSets.{IsPacked, has_code, rank_of, targets_by_code}
use Rattle.rart_cidr.proofs.routes.CodeMapLemmas.{absent-code, all-ascend, found-code, rank-below, remove-packed}
use Rattle.rart_cidr.proofs.routes.CodeMapLemmas.{without-stored}
use Rattle.rart_cidr.proofs.routes.StrideLemmas.{without-absent}
use Rattle.rart_cidr.proofs.code_map.CodeMap.remove.Goals as goal

pub remove-requires : goal.remove-requires
remove-requires g c =
    let words = c.self.inside.codes.words in let targets = c.self.inside.targets.items in
    let code = c.args.code in let count = c.self.invariant.count in
    let small : code < 256 = omega (arith, c.ranges.code.fits) in
    let bit : has_code words code ≡ true = ap (has_code words) (sym c.from-position.ensures) ∙ sym c.check.ensures
    ∙ c.if-check.true in
    let below = rank-below words targets code small count bit in
    let within : c.rank-at.result < vec_len c.self.inside.targets
    = omega (arith, below, c.rank-at.ensures, c.self.inside.targets.ok.0) in
    within

pub invariant_of-self : goal.invariant_of-self
invariant_of-self g c =
    let words = c.self.inside.codes.words in let targets = c.self.inside.targets.items in
    let code = c.args.code in let count = c.self.invariant.count in
    let small : code < 256 = omega (arith, c.ranges.code.fits) in
    let bit : has_code words code ≡ true = ap (has_code words) (sym c.from-position.ensures) ∙ sym c.check.ensures
    ∙ c.if-check.true in
    let below = rank-below words targets code small count bit in
    let within : c.rank-at.result < vec_len c.self.inside.targets
    = omega (arith, below, c.rank-at.ensures, c.self.inside.targets.ok.0) in
    let new = c.unset.new.self.words in
    let items : c.remove.new.self.items ≡ remove targets (rank_of words code)
    = c.remove.ensures.items ∙ ap (remove targets) c.rank-at.ensures in
    subst (λ s. IsPacked new s (vec_capacity c.remove.new.self)) (sym items)
    (subst (λ k. IsPacked new (remove targets (rank_of words code)) k) (sym c.remove.ensures.capacity)
    (remove-packed words targets code small count new
    (λ k s. c.unset.ensures k s ∙ ap (λ z. not (k == z) && has_code words k) c.from-position.ensures) bit
    (vec_capacity c.self.inside.targets) c.self.invariant))

pub returns-then-check-clause-value : goal.returns-then-check-clause-value
returns-then-check-clause-value g c =
    let words = c.self.inside.codes.words in let targets = c.self.inside.targets.items in
    let code = c.args.code in let count = c.self.invariant.count in
    let small : code < 256 = omega (arith, c.ranges.code.fits) in
    let bit : has_code words code ≡ true = ap (has_code words) (sym c.from-position.ensures) ∙ sym c.check.ensures
    ∙ c.if-check.true in
    let below = rank-below words targets code small count bit in
    let within : c.rank-at.result < vec_len c.self.inside.targets
    = omega (arith, below, c.rank-at.ensures, c.self.inside.targets.ok.0) in
    sym (ap (lookup (code ∷ [])) (sym c.self.view_is) ∙ found-code words targets code small count bit
    ∙ ap (slice_get targets) (sym c.rank-at.ensures)
    ∙ slice_get_read targets (vec_len c.self.inside.targets) c.rank-at.result c.remove.result
    c.self.inside.targets.ok.0 within c.remove.ensures.value)

pub returns-then-check-clause-removed : goal.returns-then-check-clause-removed
returns-then-check-clause-removed g c =
    let words = c.self.inside.codes.words in let targets = c.self.inside.targets.items in
    let code = c.args.code in let count = c.self.invariant.count in
    let small : code < 256 = omega (arith, c.ranges.code.fits) in
    let bit : has_code words code ≡ true = ap (has_code words) (sym c.from-position.ensures) ∙ sym c.check.ensures
    ∙ c.if-check.true in
    let below = rank-below words targets code small count bit in
    let within : c.rank-at.result < vec_len c.self.inside.targets
    = omega (arith, below, c.rank-at.ensures, c.self.inside.targets.ok.0) in
    let new = c.unset.new.self.words in
    ap (targets_by_code new) (c.remove.ensures.items ∙ ap (remove targets) c.rank-at.ensures)
    ∙ without-stored words targets code small count new
    (λ k s. c.unset.ensures k s ∙ ap (λ z. not (k == z) && has_code words k) c.from-position.ensures) bit
    ∙ ap (without (code ∷ [])) c.self.view_is

pub returns-else-check-clause-value : goal.returns-else-check-clause-value
returns-else-check-clause-value g c =
    let words = c.self.inside.codes.words in let targets = c.self.inside.targets.items in
    let code = c.args.code in let count = c.self.invariant.count in
    let small : code < 256 = omega (arith, c.ranges.code.fits) in
    let bit : has_code words code ≡ false = ap (has_code words) (sym c.from-position.ensures) ∙ sym c.check.ensures
    ∙ c.if-check.false in
    sym (ap (lookup (code ∷ [])) (sym c.self.view_is) ∙ absent-code words targets code small count bit)

pub returns-else-check-clause-removed : goal.returns-else-check-clause-removed
returns-else-check-clause-removed g c =
    let words = c.self.inside.codes.words in let targets = c.self.inside.targets.items in
    let code = c.args.code in let count = c.self.invariant.count in
    let small : code < 256 = omega (arith, c.ranges.code.fits) in
    let bit : has_code words code ≡ false = ap (has_code words) (sym c.from-position.ensures) ∙ sym c.check.ensures
    ∙ c.if-check.false in
    sym (without-absent (code ∷ []) c.args.self.now (subst IsAscending c.self.view_is (all-ascend words targets))
    (ap (lookup (code ∷ [])) (sym c.self.view_is) ∙ absent-code words targets code small count bit))
