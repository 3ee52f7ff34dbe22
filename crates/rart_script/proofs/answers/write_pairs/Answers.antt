use Rattle.std.proofs.Common.{◌≡◌, ◌∷◌, ap, arith}
use Rattle.std.proofs.lemmas.List.{nil_from_length}
use Rattle.std.proofs.lemmas.Result.{on_ok_weaker}
use Rattle.std.specs.Vec.Iter.{into_iter_items}
use Rattle.rart.specs.Steps.{pairs_in}
use Rattle.rart_keys.specs.ArrayKeyBytes.{array_key_bytes}
use Rattle.rart_script.proofs.PrintLemmas.{pairs-begin, pairs-next, pairs-end}
use Rattle.rart_script.proofs.answers.write_pairs.Goals as goal

pub loop-key-init : goal.loop-key-init
loop-key-init g c =
    let whole : c.args.pairs.items ≡ (c.in-Some.key, c.in-Some.value) ∷ into_iter_items c.next.new.self
    = cc (c.in-Some.ensures.items) in
    let left = ap into_iter_items c.into_iter-key-iterator.ensures.into_iter_gives in
    pairs-begin (ap (pairs_in array_key_bytes) whole) (ap (pairs_in array_key_bytes) left)
    c.as_ref.ensures c.in_ok-write_pair.ensures

pub loop-key-preserved : goal.loop-key-preserved
loop-key-preserved g c = pairs-next _ (ap (pairs_in array_key_bytes) c.in-Some-2.ensures.steps.0)
    c.as_ref-in-loop-key.ensures c.loop-key.invariant c.in_ok-write.ensures.bytes c.in_ok-write_pair-2.ensures

pub returns : goal.returns
returns g c =
    let none = nil_from_length (into_iter_items c.loop-key.key-iterator)
    (omega (arith, c.in-None.ensures.steps.0, c.loop-key.key-iterator.rest.ok.0)) in
    on_ok_weaker c.writeln-2.result (pairs-end _ _ _ _ _ (ap (pairs_in array_key_bytes) none) c.loop-key.invariant)
    c.writeln-2.ensures.bytes
