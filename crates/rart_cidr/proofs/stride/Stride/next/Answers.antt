use Rattle.std.proofs.Common.{◌≡◌, ◌<◌, ◌≤◌, [], ◌∷◌, None, Some, ap, arith, subst, sym, ◌∙◌}
use Rattle.rart_cidr.specs.Codes.{code_place}
use Rattle.rart_cidr.specs.Routes.{IsCode}
use Rattle.rart_cidr.specs.Targets.{pairs_of}
use Rattle.rart_cidr.specs.Walks.{IsNextIn}
use Rattle.rart_cidr.proofs.routes.OneLemmas.{one-next, one-no_next}
use Rattle.rart_cidr.proofs.stride.Stride.next.Goals as goal
use Rattle.rart_cidr.proofs.stride.Stride.next.Goals.{
  else-stored-gt0-via-then-stored-gt0+then-place_of+else-place_of-2,
}
use Rattle.rart_cidr.proofs.stride.Stride.next.Goals.{else-stored-gt0-via-then-stored-gt0+else-place_of}
use Rattle.rart_cidr.proofs.stride.Stride.next.Goals.{else-stored-gt0-via-else-stored-gt0}

pub returns-then-place_of-2 : goal.returns-then-place_of-2
returns-then-place_of-2 g c =
    let seen = sym (ap pairs_of c.in-One.is) ∙ c.self.view_is in
    let from = c.place_of.ensures.value in let to = c.place_of-then-place_of-2.ensures.value in
    let here = c.place_of-then-stored-gt0.ensures.value in let same = c.place_of-then-place_of.ensures.value in
    let after = c.if-place_of.true in let within = c.if-place_of-2.true in
    subst (λ s. IsNextIn s c.args.code c.args.last (Some (c.in-One.stored, c.in-One.target))) seen
    (one-next c.in-One.stored c.args.code c.args.last c.in-One.target c.requires.code c.requires.last
    (omega (arith, c.if-stored-gt0.true), c.place_of-then-stored-gt0.ensures.byte) (omega (arith, from, here, after))
    (omega (arith, same, to, within)))

pub returns-else-stored-gt0 : goal.returns-else-stored-gt0
returns-else-stored-gt0 g c =
    let seen = sym (ap pairs_of c.in-One.is) ∙ c.self.view_is in
    subst (λ s. IsNextIn s c.args.code c.args.last None) seen
    (one-no_next c.in-One.stored c.args.code c.args.last c.in-One.target c.requires.code c.requires.last
    (elim c.else-stored-gt0.branch as (λ _. IsCode (c.in-One.stored ∷ [])
    → code_place c.args.code < code_place c.in-One.stored → code_place c.in-One.stored ≤ code_place c.args.last → ⊥) [
      | else-stored-gt0-via-then-stored-gt0+then-place_of+else-place_of-2 w ↦ λ i after within.
          let to = w.place_of-then-place_of-2.ensures.value in let same = w.place_of-then-place_of.ensures.value in
          let past = w.if-place_of-2.false in omega (arith, within, to, same, past)
      | else-stored-gt0-via-then-stored-gt0+else-place_of w ↦ λ i after within.
          let from = w.place_of.ensures.value in let here = w.place_of-then-stored-gt0.ensures.value in
          let before = w.if-place_of.false in omega (arith, after, from, here, before)
      | else-stored-gt0-via-else-stored-gt0 w ↦ λ i after within.
          let none = w.if-stored-gt0.false in let some = i.0 in omega (arith, none, some)
    ]))
