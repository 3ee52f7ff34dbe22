use Rattle.std.proofs.Common.{rules, ◌≡◌, [], ◌∙◌, ap, sym}
use Rattle.std.proofs.lemmas.List.Sorted.{IsPermutation-refl}
use Rattle.rart_keys.specs.BulkLists.{put_all}
use Rattle.rart.specs.Appends.{MovesUntil}
use Rattle.rart.proofs.trees.AppendLemmas.{all-moved, moved-on, moved-until}
use Rattle.rart.proofs.trees.EditLemmas.{same-error}
use Rattle.rart.proofs.tree.AdaptiveRadixTree.append.Goals as goal

pub returns-then-is_empty-clause-pairs : goal.returns-then-is_empty-clause-pairs
returns-then-is_empty-clause-pairs g c =
    let other = c.args.other.now.pairs in let empty : c.args.self.now.pairs ≡ [] = search rules in
    ap (λ t. t.pairs) c.swap.ensures.x_after
    ∙ sym (c.put_in_any_order.ensures other other c.canonical.ensures.ascending (IsPermutation-refl other))
    ∙ ap (λ z. put_all other z) (sym empty)

pub returns-in_err-move_first-clause-refused : goal.returns-in_err-move_first-clause-refused
returns-in_err-move_first-clause-refused g c =
    same-error (λ e. MovesUntil g.K.KeyTrait.bytes c.args.self.now.pairs c.args.other.now.pairs e
    c.move_first.new.self.pairs c.move_first.new.other.pairs) c.from_residual.result c.in_err-move_first.field-0.0
    c.from_residual.ensures.1
    (moved-until g.K.KeyTrait.bytes c.args.self.now.pairs c.args.other.now.pairs c.pairs.self.pairs c.pairs.other.pairs
    c.move_first.new.self.pairs c.move_first.new.other.pairs c.in_err-move_first.field-0.0 c.pairs.invariant
    c.in_err-move_first.ensures.refused)

pub pairs-preserved : goal.pairs-preserved
pairs-preserved g c = moved-on c.args.self.now.pairs c.args.other.now.pairs c.pairs.self.pairs c.pairs.other.pairs
    c.move_first.new.self.pairs c.move_first.new.other.pairs c.pairs.invariant c.in_ok-move_first.ensures.moves

pub returns-clause-pairs : goal.returns-clause-pairs
returns-clause-pairs g c =
    let none : c.move_first.new.other.pairs ≡ [] = search rules in
    all-moved c.args.self.now.pairs c.args.other.now.pairs c.move_first.new.self.pairs c.move_first.new.other.pairs
    (moved-on c.args.self.now.pairs c.args.other.now.pairs c.pairs.self.pairs c.pairs.other.pairs
    c.move_first.new.self.pairs c.move_first.new.other.pairs c.pairs.invariant c.in_ok-move_first.ensures.moves) none
