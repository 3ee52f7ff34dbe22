use Rattle.std.proofs.Common.{rules, of_calls, ◌≡◌, refl, sym, ap, ◌∙◌, ◌++◌, []}
use Rattle.std.proofs.lemmas.List.{append-nil}
use Rattle.rart_nodes.specs.joins.ViewCalls.{ViewedAt}
use Rattle.rart_trie.specs.walks.Walk.{joined_bytes}
use Rattle.rart_nodes.specs.walks.PathParts.{lent_segments}
use Rattle.rart_nodes.proofs.node.intersect.visitor.ByViewsVisitor.give.Goals as goal

pub f-requires : goal.f-requires
f-requires g c =
    let key = joined_bytes (lent_segments c.in-Segments.segments.items) in
    let same : joined_bytes (lent_segments c.of.result.segments.now) ≡ key ++ []
    = ap joined_bytes (c.of.ensures ∙ ap lent_segments c.as_slice.ensures.value) ∙ sym (append-nil key) in
    (rw c.in-Segments.is at c.requires.callable) _ _ _ same refl refl

pub returns : goal.returns
returns g c =
    let key = joined_bytes (lent_segments c.in-Segments.segments.items) in
    let same : joined_bytes (lent_segments c.of.result.segments.now) ≡ key ++ []
    = ap joined_bytes (c.of.ensures ∙ ap lent_segments c.as_slice.ensures.value) ∙ sym (append-nil key) in
    let called : ViewedAt g.F.FnMut c.args.f.now (key ++ [], (c.args.left.now, c.args.right.now)) c.f.new.self
    = record {
      key = c.of.result;
      left = c.args.left;
      right = c.args.right;
      key_is = same;
      left_is = refl;
      right_is
          = refl;
      called = search (rules, of_calls);
    } in
    record { calls = rw c.in-Segments.is (refl, (c.f.new.self, called, refl)) }
