use Rattle.std.proofs.Common.{◌≡◌, ◌*◌, ◌∷◌, sym, ◌∙◌, subst, rules}
use Rattle.std.specs.Iterator.{YieldsFirst}
use Rattle.rart_parts.specs.Bits.{words_have, members}
use Rattle.rart_parts.proofs.sets.Members.{members-none, members-first}
use Rattle.rart_parts.proofs.utils.bitset.ones.BitsetOnesIterIterator.next.Goals as goal

pub returns-in_err-position-clause-steps : goal.returns-in_err-position-clause-steps
returns-in_err-position-clause-steps g c =
    let none = sym c.self.view_is ∙ members-none _ _ c.in_err-position.ensures in
    subst (λ r. YieldsFirst (λ rest. rest) c.args.self.now r c.args.self.now) (sym c.from_residual.ensures) (none, none)

pub returns-clause-steps : goal.returns-clause-steps
returns-clause-steps g c = sym c.self.view_is ∙ members-first _ _ _ _ c.in_ok-position.ensures c.unset.ensures

pub returns-clause-goes : goal.returns-clause-goes
returns-clause-goes g c =
    let has = words_have g.W.BitsetWord.WIDTH g.W.BitsetWord.number in
    let capacity = g.row.S * g.W.BitsetWord.WIDTH in
    let steps : c.args.self.now ≡ c.in_ok-position.position ∷ members (has c.unset.new.self.words) capacity
    = sym c.self.view_is ∙ members-first _ _ _ _ c.in_ok-position.ensures c.unset.ensures in
    search rules
