use Rattle.std.proofs.Common.{◌≡◌, ◌<◌, true, false, [], ◌∷◌, slice_get, vec_len, ap, arith, sym, ◌∙◌}
use Rattle.std.proofs.lemmas.Option.{slice_get_read}
use Rattle.rart_keys.specs.SortedMap.{lookup}
use Rattle.rart_cidr.specs.CodeSets.{has_code}
use Rattle.rart_cidr.proofs.routes.CodeMapLemmas.{absent-code, found-code, rank-below}
use Rattle.rart_cidr.proofs.code_map.CodeMap.get.Goals as goal

pub index-requires : goal.index-requires
index-requires g c =
    let words = c.self.inside.codes.words in let targets = c.self.inside.targets.items in
    let code = c.args.code in let count = c.self.invariant.count in
    let small : code < 256 = omega (arith, c.ranges.code.fits) in
    let bit : has_code words code ≡ true = ap (has_code words) (sym c.from.ensures) ∙ sym c.check.ensures
    ∙ c.if-check.true in
    let below = rank-below words targets code small count bit in
    omega (arith, below, c.rank.ensures, c.self.inside.targets.ok.0)

pub returns-then-check : goal.returns-then-check
returns-then-check g c =
    let words = c.self.inside.codes.words in let targets = c.self.inside.targets.items in
    let code = c.args.code in let count = c.self.invariant.count in
    let small : code < 256 = omega (arith, c.ranges.code.fits) in
    let bit : has_code words code ≡ true = ap (has_code words) (sym c.from.ensures) ∙ sym c.check.ensures
    ∙ c.if-check.true in
    let below = rank-below words targets code small count bit in
    let within : c.rank.result < vec_len c.self.inside.targets
    = omega (arith, below, c.rank.ensures, c.self.inside.targets.ok.0) in
    sym (ap (lookup (code ∷ [])) (sym c.self.view_is) ∙ found-code words targets code small count bit
    ∙ ap (slice_get targets) (sym c.rank.ensures)
    ∙ slice_get_read targets (vec_len c.self.inside.targets) c.rank.result c.index.result.now
    c.self.inside.targets.ok.0 within c.index.ensures)

pub returns-else-check : goal.returns-else-check
returns-else-check g c =
    let words = c.self.inside.codes.words in let targets = c.self.inside.targets.items in
    let code = c.args.code in let count = c.self.invariant.count in
    let small : code < 256 = omega (arith, c.ranges.code.fits) in
    let bit : has_code words code ≡ false = ap (has_code words) (sym c.from.ensures) ∙ sym c.check.ensures
    ∙ c.if-check.false in
    sym (ap (lookup (code ∷ [])) (sym c.self.view_is) ∙ absent-code words targets code small count bit)
