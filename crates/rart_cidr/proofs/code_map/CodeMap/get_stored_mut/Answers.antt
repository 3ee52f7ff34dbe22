use Rattle.std.proofs.Common.{◌≡◌, ◌≢◌, ◌<◌, true, None, Some, [], ◌∷◌, slice_get, set, vec_len, refl, ap, arith, sym}
use Rattle.std.proofs.Common.{◌∙◌}
use Rattle.rart_keys.specs.SortedMap.{lookup, put}
use Rattle.rart_cidr.specs.CodeSets.{has_code, targets_by_code}
use Rattle.rart_cidr.proofs.routes.CodeMapLemmas.{found-code, put-stored, rank-below, stored-code}
use Rattle.rart_cidr.proofs.routes.LoanLemmas.{lent-item, on_any}
use Rattle.rart_cidr.proofs.code_map.CodeMap.get_stored_mut.Goals as goal

pub returns : goal.returns
returns g c =
    let words = c.self.inside.codes.words in let targets = c.self.inside.targets.items in
    let code = c.args.code in let count = c.self.invariant.count in
    let small : code < 256 = omega (arith, c.ranges.code.fits) in
    let bit : has_code words code ≡ true = stored-code words targets code small count
    (λ e. c.requires.stored (sym (ap (lookup (code ∷ [])) c.self.view_is) ∙ e)) in
    let below = rank-below words targets code small count bit in
    let within : c.rank-at.result < vec_len c.self.inside.targets
    = omega (arith, below, c.rank-at.ensures, c.self.inside.targets.ok.0) in (
      (
        refl,
        λ w. on_any c.get_mut.result (ap (λ r. targets_by_code words (set targets r w)) c.rank-at.ensures
            ∙ put-stored words targets code small count w bit ∙ ap (put (code ∷ []) w) c.self.view_is),
        c.self.view_is,
      ),
      record {
        writes_back = tt;
        value = lent-item c.get_mut.result targets c.rank-at.result (vec_len c.self.inside.targets)
            c.self.inside.targets.ok.0 within c.get_mut.ensures.variant c.get_mut.ensures.value
            ∙ ap (slice_get targets) c.rank-at.ensures
            ∙ sym (found-code words targets code small count bit) ∙ ap (lookup (code ∷ [])) c.self.view_is;
      },
    )
