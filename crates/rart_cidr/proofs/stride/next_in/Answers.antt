use Rattle.std.proofs.Common.{[], ◌∷◌, Some, arith, ap, subst, sym, ◌∙◌}
use Rattle.rart_keys.specs.SortedMap.{lookup}
use Rattle.rart_cidr.specs.Routes.{IsCode}
use Rattle.rart_cidr.specs.Walks.{IsNextIn}
use Rattle.rart_cidr.specs.Codes.{code_place}
use Rattle.rart_cidr.proofs.networks.CodeLemmas.{HasNoneUpTo, follows, next_found, next_none, none_at_first}
use Rattle.rart_cidr.proofs.networks.CodeLemmas.{none_at_next, not_after}
use Rattle.rart_cidr.proofs.stride.next_in.Goals as goal

pub loop-at-init : goal.loop-at-init
loop-at-init g c = (
  c.requires.code,
  omega arith,
  not_after c.args.last c.args.code c.requires.last c.requires.code c.requires.order,
  none_at_first c.args.map.now c.args.code,
)

pub returns-in-Some : goal.returns-in-Some
returns-in-Some g c =
    let e = c.code_after-at.ensures in let i = c.loop-at.invariant in
    let k = follows c.loop-at.at c.args.last i.0 c.requires.last c.loop-at-test.true i.2 in
    subst (λ z. IsNextIn c.args.map.now c.args.code c.args.last (Some (z, c.in-Some.target.now))) (sym e)
    (next_found c.args.map.now c.args.code c.loop-at.at c.args.last c.in-Some.target.now c.requires.code i.0
    c.requires.last i.1 i.3 k (ap (λ z. lookup (z ∷ []) c.args.map.now) (sym e) ∙ sym c.in-Some.ensures))

pub loop-at-smaller : goal.loop-at-smaller
loop-at-smaller g c =
    let e = ap code_place c.code_after-at.ensures in let i = c.loop-at.invariant in
    let k = follows c.loop-at.at c.args.last i.0 c.requires.last c.loop-at-test.true i.2 in
    let step = k.place in let most = k.within in omega (arith, e, step, most)

pub loop-at-preserved : goal.loop-at-preserved
loop-at-preserved g c =
    let e = c.code_after-at.ensures in let i = c.loop-at.invariant in let least = i.1 in
    let k = follows c.loop-at.at c.args.last i.0 c.requires.last c.loop-at-test.true i.2 in
    let step = k.place in let most = k.within in
    let same = ap code_place e in (
      subst (λ z. IsCode (z ∷ [])) (sym e) k.is_code,
      omega (arith, least, same, step),
      omega (arith, same, most),
      subst (λ z. HasNoneUpTo c.args.map.now c.args.code z) (sym e)
          (none_at_next c.args.map.now c.args.code c.loop-at.at i.0 i.3 k.is_code step
          (ap (λ z. lookup (z ∷ []) c.args.map.now) (sym e) ∙ sym c.in_default.ensures)),
    )

pub returns : goal.returns
returns g c = next_none c.args.map.now c.args.code c.args.last c.requires.code c.requires.last
    (subst (λ z. HasNoneUpTo c.args.map.now c.args.code z) c.loop-at-test.false c.loop-at.invariant.3)
