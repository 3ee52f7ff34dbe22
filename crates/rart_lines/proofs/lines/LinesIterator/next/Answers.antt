use Rattle.std.proofs.Common.{rules, ◌≡◌, Some, sym}
use Rattle.rart_lines.proofs.LineLemmas.{first_line, only_line}
use Rattle.rart_lines.proofs.lines.LinesIterator.next.Goals as goal

pub returns-in-Some-clause-steps : goal.returns-in-Some-clause-steps
returns-in-Some-clause-steps c =
    let h = first_line c.in_ok-text.text.now c.in-Some.end (sym c.in-Some.ensures) in
    let w : c.args.self.now.rest ≡ Some c.in_ok-text.text = c.in_ok-text.was in
    simp w h

pub returns-in-None-clause-steps : goal.returns-in-None-clause-steps
returns-in-None-clause-steps c =
    let h = only_line c.in_ok-text.text.now (sym c.in-None.ensures) in
    let w : c.args.self.now.rest ≡ Some c.in_ok-text.text = c.in_ok-text.was in
    simp w h

pub returns-in-Some-clause-goes : goal.returns-in-Some-clause-goes
returns-in-Some-clause-goes c =
    let h = first_line c.in_ok-text.text.now c.in-Some.end (sym c.in-Some.ensures) in
    let w : c.args.self.now.rest ≡ Some c.in_ok-text.text = c.in_ok-text.was in
    search (rules, h, w)

pub returns-in-None-clause-goes : goal.returns-in-None-clause-goes
returns-in-None-clause-goes c =
    let h = only_line c.in_ok-text.text.now (sym c.in-None.ensures) in
    let w : c.args.self.now.rest ≡ Some c.in_ok-text.text = c.in_ok-text.was in
    search (rules, h, w)
