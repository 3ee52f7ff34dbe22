use Rattle.std.proofs.Common.{ap, arith, refl, ◌∙◌, ◌++◌}
use Rattle.rart_trie.specs.storages.Stored.{child_entries, storage_capacity, stored_prefix, stored_value}
use Rattle.rart_trie.specs.tries.Trie.{prefix_of}
use Rattle.rart_trie.proofs.splits.SideSteps.{below-splits, last-canonical, last-fewer, last-there, last-within}
use Rattle.rart_trie.proofs.splits.SideSteps.{moved-all, moving-start, same-last, shorter, some-items, some-step}
use Rattle.rart_trie.proofs.splits.SideSteps.{split-inside_makes, split-inside_slot, split-moved, split-outside_makes}
use Rattle.rart_trie.proofs.splits.SideSteps.{split-outside_slot, split-rest, split-stored, splits-empty}
use Rattle.rart_trie.proofs.build.SpineLemmas.{reversed-last}
use Rattle.rart_trie.proofs.splits.SideSteps.{whole-inside_slot, whole-moved, whole-outside_slot}
use Rattle.rart_trie.proofs.node.DefaultNode.+move_to_sides.Goals as goal

pub with_own-sides-requires-clause-inside : goal.with_own-sides-requires-clause-inside
with_own-sides-requires-clause-inside g t c
    = (splits-empty _ c.args.self.now c.args.sides _ _ c.requires.planned.1.1).0

pub with_own-sides-requires-clause-outside : goal.with_own-sides-requires-clause-outside
with_own-sides-requires-clause-outside g t c
    = (splits-empty _ c.args.self.now c.args.sides _ _ c.requires.planned.1.1).1

pub loop-byte-init : goal.loop-byte-init
loop-byte-init g t c = record {
  prefix = ap g.P.Partial.bytes c.with_own-sides.ensures.rest.3 ∙ ap prefix_of c.self.view_is;
  moving = λ t rest h. rw (← c.self.view_is, c.with_own-sides.ensures.rest.1)
      (moving-start t (g.P.Partial.bytes (stored_prefix c.self.inside.storage)) (stored_value c.self.inside.storage)
      (storage_capacity c.self.inside.storage) (child_entries c.self.inside.storage) _ rest c.args.sides
      c.with_own-sides.result (rw (← c.self.view_is) at h) c.with_own-sides.ensures.inside
      c.with_own-sides.ensures.outside);
}

pub take_last-requires : goal.take_last-requires
take_last-requires g t c =
    let m = c.loop-byte.invariant.moving c.requires.planned.0 c.requires.planned.1.0 c.requires.planned.1.1 in
    omega (
      arith,
      c.loop-byte.steps.ok.0,
      some-items c.loop-byte.steps.items (λ e. some-step m c.requires.canonical c.in-Some.ensures e),
    )

pub move_child-requires-clause-inside : goal.move_child-requires-clause-inside
move_child-requires-clause-inside g t c =
    let m = c.loop-byte.invariant.moving c.requires.planned.0 c.requires.planned.1.0 c.requires.planned.1.1 in
    whole-inside_slot m c.requires.canonical c.in-Some.ensures (reversed-last _ _ _ c.in-Whole.ensures.items)

pub move_child-requires-clause-outside : goal.move_child-requires-clause-outside
move_child-requires-clause-outside g t c =
    let m = c.loop-byte.invariant.moving c.requires.planned.0 c.requires.planned.1.0 c.requires.planned.1.1 in
    whole-outside_slot m c.requires.canonical c.in-Some.ensures (reversed-last _ _ _ c.in-Whole.ensures.items)

pub loop-byte-smaller-in-Whole : goal.loop-byte-smaller-in-Whole
loop-byte-smaller-in-Whole g t c =
    let m = c.loop-byte.invariant.moving c.requires.planned.0 c.requires.planned.1.0 c.requires.planned.1.1 in
    shorter m c.requires.canonical c.in-Some.ensures _ c.move_child.ensures.rest.1

pub loop-byte-preserved-in-Whole : goal.loop-byte-preserved-in-Whole
loop-byte-preserved-in-Whole g t c = record {
  prefix = ap g.P.Partial.bytes c.move_child.ensures.rest.3 ∙ c.loop-byte.invariant.prefix;
  moving = λ t rest h. whole-moved (c.loop-byte.invariant.moving t rest h) c.requires.canonical c.in-Some.ensures
      (reversed-last _ _ _ c.in-Whole.ensures.items) _ _ c.move_child.ensures.rest.1 c.move_child.ensures.inside
      c.move_child.ensures.outside;
}

pub part_some-self : goal.part_some-self
part_some-self g t c = (c.in-Some-seek_child_mut.is, refl)

pub move_to_sides-below-requires : goal.move_to_sides-below-requires
move_to_sides-below-requires g t c κs within =
    let m = c.loop-byte.invariant.moving c.requires.planned.0 c.requires.planned.1.0 c.requires.planned.1.1 in
    let l = same-last m c.requires.canonical c.in-Some.ensures c.in-Some-seek_child_mut.ensures.value in
    let s = below-splits m c.requires.canonical l (reversed-last _ _ _ c.in-Split.ensures.items) in (
      omega (arith, c.decreases, last-fewer m c.requires.canonical l),
      (
        within.0,
        (
          within.1,
          (
            last-canonical m c.requires.canonical l,
            (
              last-within m c.requires.canonical l _ c.requires.within,
              (λ k. c.requires.planned.0 (prefix_of c.args.self.now ++ k), (s.0, s.1.0)),
            ),
          ),
        ),
      ),
    )

pub part_none-self : goal.part_none-self
part_none-self g t c = (c.in-None.is, refl)

pub unreachable-requires : goal.unreachable-requires
unreachable-requires g t c =
    let m = c.loop-byte.invariant.moving c.requires.planned.0 c.requires.planned.1.0 c.requires.planned.1.1 in
    let z = c.in-None.ensures.value ∙ last-there m c.requires.canonical c.in-Some.ensures in absurd (cc)

pub unreachable-unreachable : goal.unreachable-unreachable
unreachable-unreachable g t c =
    let m = c.loop-byte.invariant.moving c.requires.planned.0 c.requires.planned.1.0 c.requires.planned.1.1 in
    let z = c.in-None.ensures.value ∙ last-there m c.requires.canonical c.in-Some.ensures in absurd (cc)

pub add_sides-requires-clause-stored : goal.add_sides-requires-clause-stored
add_sides-requires-clause-stored g t c =
    let left = rw c.in-Some-seek_child_mut.is at c.seek_child_mut.follows.holds c.move_to_sides-below.new.self in
    let m = c.loop-byte.invariant.moving c.requires.planned.0 c.requires.planned.1.0 c.requires.planned.1.1 in
    let l = same-last m c.requires.canonical c.in-Some.ensures c.in-Some-seek_child_mut.ensures.value in
    split-stored m c.requires.canonical l (reversed-last _ _ _ c.in-Split.ensures.items)
    c.move_to_sides-below.new.self c.move_to_sides-below.result left.1 c.move_to_sides-below.ensures.prefix
    c.move_to_sides-below.ensures.sides

pub add_sides-requires-clause-makes_inside : goal.add_sides-requires-clause-makes_inside
add_sides-requires-clause-makes_inside g t c =
    let left = rw c.in-Some-seek_child_mut.is at c.seek_child_mut.follows.holds c.move_to_sides-below.new.self in
    let m = c.loop-byte.invariant.moving c.requires.planned.0 c.requires.planned.1.0 c.requires.planned.1.1 in
    let l = same-last m c.requires.canonical c.in-Some.ensures c.in-Some-seek_child_mut.ensures.value in
    split-inside_makes m c.requires.canonical l (reversed-last _ _ _ c.in-Split.ensures.items)
    c.move_to_sides-below.new.self c.move_to_sides-below.result left.1 c.move_to_sides-below.ensures.prefix
    c.move_to_sides-below.ensures.sides _ c.requires.within

pub add_sides-requires-clause-makes_outside : goal.add_sides-requires-clause-makes_outside
add_sides-requires-clause-makes_outside g t c =
    let left = rw c.in-Some-seek_child_mut.is at c.seek_child_mut.follows.holds c.move_to_sides-below.new.self in
    let m = c.loop-byte.invariant.moving c.requires.planned.0 c.requires.planned.1.0 c.requires.planned.1.1 in
    let l = same-last m c.requires.canonical c.in-Some.ensures c.in-Some-seek_child_mut.ensures.value in
    split-outside_makes m c.requires.canonical l (reversed-last _ _ _ c.in-Split.ensures.items)
    c.move_to_sides-below.new.self c.move_to_sides-below.result left.1 c.move_to_sides-below.ensures.prefix
    c.move_to_sides-below.ensures.sides _ c.requires.within

pub add_sides-requires-clause-inside : goal.add_sides-requires-clause-inside
add_sides-requires-clause-inside g t c =
    let left = rw c.in-Some-seek_child_mut.is at c.seek_child_mut.follows.holds c.move_to_sides-below.new.self in
    let m = c.loop-byte.invariant.moving c.requires.planned.0 c.requires.planned.1.0 c.requires.planned.1.1 in
    let l = same-last m c.requires.canonical c.in-Some.ensures c.in-Some-seek_child_mut.ensures.value in
    split-inside_slot m c.requires.canonical l (reversed-last _ _ _ c.in-Split.ensures.items)
    c.move_to_sides-below.new.self c.move_to_sides-below.result left.1 c.move_to_sides-below.ensures.prefix
    c.move_to_sides-below.ensures.sides

pub add_sides-requires-clause-outside : goal.add_sides-requires-clause-outside
add_sides-requires-clause-outside g t c =
    let left = rw c.in-Some-seek_child_mut.is at c.seek_child_mut.follows.holds c.move_to_sides-below.new.self in
    let m = c.loop-byte.invariant.moving c.requires.planned.0 c.requires.planned.1.0 c.requires.planned.1.1 in
    let l = same-last m c.requires.canonical c.in-Some.ensures c.in-Some-seek_child_mut.ensures.value in
    split-outside_slot m c.requires.canonical l (reversed-last _ _ _ c.in-Split.ensures.items)
    c.move_to_sides-below.new.self c.move_to_sides-below.result left.1 c.move_to_sides-below.ensures.prefix
    c.move_to_sides-below.ensures.sides

pub loop-byte-smaller : goal.loop-byte-smaller
loop-byte-smaller g t c =
    let left = rw c.in-Some-seek_child_mut.is at c.seek_child_mut.follows.holds c.move_to_sides-below.new.self in
    let m = c.loop-byte.invariant.moving c.requires.planned.0 c.requires.planned.1.0 c.requires.planned.1.1 in
    let l = same-last m c.requires.canonical c.in-Some.ensures c.in-Some-seek_child_mut.ensures.value in
    shorter m c.requires.canonical l _ (c.add_sides.ensures.rest.1 ∙ split-rest m c.requires.canonical l
    (reversed-last _ _ _ c.in-Split.ensures.items) c.move_to_sides-below.new.self c.move_to_sides-below.result left.1
    c.move_to_sides-below.ensures.prefix c.move_to_sides-below.ensures.sides)

pub loop-byte-preserved : goal.loop-byte-preserved
loop-byte-preserved g t c =
    let left = rw c.in-Some-seek_child_mut.is at c.seek_child_mut.follows.holds c.move_to_sides-below.new.self in
    record {
      prefix = ap g.P.Partial.bytes (c.add_sides.ensures.rest.3 ∙ left.3) ∙ c.loop-byte.invariant.prefix;
      moving = λ t rest h.
          let m = c.loop-byte.invariant.moving t rest h in
          let l = same-last m c.requires.canonical c.in-Some.ensures c.in-Some-seek_child_mut.ensures.value in
          split-moved m c.requires.canonical l (reversed-last _ _ _ c.in-Split.ensures.items)
          c.move_to_sides-below.new.self c.move_to_sides-below.result left.1 c.move_to_sides-below.ensures.prefix
          c.move_to_sides-below.ensures.sides _ _ c.add_sides.ensures.rest.1 c.add_sides.ensures.inside
          c.add_sides.ensures.outside;
    }

pub returns-clause-sides : goal.returns-clause-sides
returns-clause-sides g t c = λ t rest h. moved-all (c.loop-byte.invariant.moving t rest h) c.in_default.ensures
