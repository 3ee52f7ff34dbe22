use Rattle.std.proofs.Common.{rules, ◌≡◌, ◌∷◌, [], ◌++◌, Some, subst}
use Rattle.std.specs.Prelude.{codes}
use Rattle.std.specs.Io.KnownBytes.{Appends}
use Rattle.std.proofs.lemmas.Result.{on_ok_weaker}
use Rattle.rart_script.specs.Answers.{pair_word}
use Rattle.rart_lines.proofs.RunLemmas.{Appends-both}
use Rattle.rart_script.proofs.answers.write_found.Goals as goal

pub returns : goal.returns
returns g c =
    let found : c.args.found ≡ Some (c.in-Some.key, c.in-Some.value) = search rules in
    on_ok_weaker c.writeln-2.result
    (λ h. rw found (subst (λ k. Appends (g.W.Write.contents c.args.output.now) (g.W.Write.contents c.writeln-2.new.self)
    (codes "some " ++ pair_word (k, c.in-Some.value) ++ 10 ∷ [])) c.as_ref.ensures
    (Appends-both _ _ _ _ _ c.in_ok-write.ensures.bytes (Appends-both _ _ _ _ _ c.in_ok-write_pair.ensures h))))
    c.writeln-2.ensures.bytes
