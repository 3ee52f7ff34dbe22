use Rattle.std.proofs.Common.{refl, Ok, Err}
use Rattle.std.specs.Option.{option_copied}
use Rattle.rart_keys.specs.Joins.{join}
use Rattle.rart_nodes.specs.joins.TriedPairs.{AnsweredAt, TakesPairAt}
use Rattle.rart_trie.specs.tries.Tree.{tree_pairs}
use Rattle.rart_nodes.proofs.joins.CallLemmas.{always-after-tried-at, can-tried, tried-whole, tries-ends}
use Rattle.rart_nodes.proofs.walks.WalkLemmas.{has-pairs}
use Rattle.rart_nodes.proofs.node.seen.Seen.try_intersect_with_by_ref_counted.Goals as goal

pub returns-in_default-clause-calls : goal.returns-in_default-clause-calls
returns-in_default-clause-calls g c = rw c.in_default.ensures.0 (refl, refl)

pub returns-in_default-with_capacity-clause-memory : goal.returns-in_default-with_capacity-clause-memory
returns-in_default-with_capacity-clause-memory g c = λ m. (
  has-pairs c.in-Some.tops.0.node.now (option_copied c.args.self.root) c.in-Some.tops.0.canonical c.in-Some.ensures.0,
  has-pairs c.in-Some.tops.1.node.now (option_copied c.args.other.root) c.in-Some.tops.1.canonical c.in-Some.ensures.1,
)

pub intersect_trees-requires-clause-callable : goal.intersect_trees-requires-clause-callable
intersect_trees-requires-clause-callable g c =
    can-tried (λ p x a q. AnsweredAt g.F.FnMut g.K.KeyTrait.bytes p x a q)
    (λ p x. TakesPairAt g.F.FnMut g.K.KeyTrait.bytes p x) _
    (join (tree_pairs (option_copied c.args.self.root)) (tree_pairs (option_copied c.args.other.root)))
    c.in-Ok.bytes c.in-Ok.ensures.items c.requires.callable

-- the walk came to its end
pub returns-in-Ok-intersect_trees-clause-calls : goal.returns-in-Ok-intersect_trees-clause-calls
returns-in-Ok-intersect_trees-clause-calls g c =
    let m = join (tree_pairs (option_copied c.args.self.root)) (tree_pairs (option_copied c.args.other.root)) in
    tries-ends (λ p x a q. AnsweredAt g.F.FnMut g.K.KeyTrait.bytes p x a q)
    c.args.f.now c.intersect_trees.new.f m (Ok tt)
    (tried-whole (λ p x a q. AnsweredAt g.F.FnMut g.K.KeyTrait.bytes p x a q) c.in-Ok.bytes.items c.args.f.now
    c.intersect_trees.new.f m (Ok tt) c.in-Ok.ensures.items c.in-Ok-intersect_trees.ensures.calls)

pub returns-in-Ok-intersect_trees-clause-stays_callable : goal.returns-in-Ok-intersect_trees-clause-stays_callable
returns-in-Ok-intersect_trees-clause-stays_callable g c = always-after-tried-at g.F.FnMut g.K.KeyTrait.bytes _ _ _ _
    (returns-in-Ok-intersect_trees-clause-calls g c)

-- a call said that it stops
pub returns-in-Err-Ok-clause-calls : goal.returns-in-Err-Ok-clause-calls
returns-in-Err-Ok-clause-calls g c =
    let m = join (tree_pairs (option_copied c.args.self.root)) (tree_pairs (option_copied c.args.other.root)) in
    tries-ends (λ p x a q. AnsweredAt g.F.FnMut g.K.KeyTrait.bytes p x a q)
    c.args.f.now c.intersect_trees.new.f m (Err (Ok tt))
    (tried-whole (λ p x a q. AnsweredAt g.F.FnMut g.K.KeyTrait.bytes p x a q) c.in-Ok.bytes.items c.args.f.now
    c.intersect_trees.new.f m (Err (Ok tt))
    c.in-Ok.ensures.items (rw c.in-Err-Ok.field-0-is at c.in-Err-Ok.ensures.calls))

pub returns-in-Err-Ok-clause-stays_callable : goal.returns-in-Err-Ok-clause-stays_callable
returns-in-Err-Ok-clause-stays_callable g c = always-after-tried-at g.F.FnMut g.K.KeyTrait.bytes _ _ _ _
    (returns-in-Err-Ok-clause-calls g c)

-- or failed
pub returns-clause-calls : goal.returns-clause-calls
returns-clause-calls g c =
    let m = join (tree_pairs (option_copied c.args.self.root)) (tree_pairs (option_copied c.args.other.root)) in
    tries-ends (λ p x a q. AnsweredAt g.F.FnMut g.K.KeyTrait.bytes p x a q)
    c.args.f.now c.intersect_trees.new.f m (Err (Err c.in-Err-Err.error))
    (tried-whole (λ p x a q. AnsweredAt g.F.FnMut g.K.KeyTrait.bytes p x a q)
    c.in-Ok.bytes.items c.args.f.now c.intersect_trees.new.f m (Err (Err c.in-Err-Err.error)) c.in-Ok.ensures.items
    (rw c.in-Err-Err.field-0-is at c.in-Err-Err.ensures.calls))

pub returns-clause-stays_callable : goal.returns-clause-stays_callable
returns-clause-stays_callable g c = always-after-tried-at g.F.FnMut g.K.KeyTrait.bytes _ _ _ _
    (returns-clause-calls g c)
