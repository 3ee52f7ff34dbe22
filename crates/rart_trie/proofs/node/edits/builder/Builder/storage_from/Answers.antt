use Rattle.std.proofs.Common.{arith, ap, ◌∙◌, ◌≡◌, ◌-◌, drop, length, refl, sym}
use Rattle.std.proofs.lemmas.List.{length-drop}
use Rattle.std.specs.Prelude.{slice_index}
use Rattle.rart_parts.specs.Entries.{with_entry}
use Rattle.rart_trie.specs.shapes.Shape.{capacity_of}
use Rattle.rart_trie.specs.storages.Stored.{child_entries}
use Rattle.rart_trie.proofs.build.WaitingLemmas.{AreAdded, all-added, next-added, none-added, turned}
use Rattle.rart_trie.proofs.node.edits.builder.Builder.storage_from.Goals as goal
use Rattle.rart_trie.proofs.node.edits.builder.Builder.storage_from.Goals.{After-loop-self, in-Some, in-None}

pub loop-self-init : goal.loop-self-init
loop-self-init g c =
    let items = c.args.self.now.waiting.items in
    let count : c.len.result - c.args.start ≡ length (drop c.args.start items)
    = omega (arith, c.len.ensures, c.args.self.now.waiting.ok.0, length-drop c.args.start items) in
    let waits = turned c.args.self.now.waiting.len c.args.start items c.deref_mut.result.now c.reverse.new.self
    c.args.self.now.waiting.ok.0 c.deref_mut.ensures.value c.requires.starts c.reverse.ensures.after in
    elim c.match-value-2.branch [
      | in-Some w ↦ record {
        adding = none-added c.args.start items _ _ waits (rw w.storage-is (w.with_value-storage.ensures.1
            ∙ c.in_ok-storage.ensures.entries));
        capacity = rw w.storage-is (w.with_value-storage.ensures.0 ∙ c.in_ok-storage.ensures.capacity
            ∙ ap capacity_of count);
        value = rw w.storage-is (w.with_value-storage.ensures.2 ∙ sym w.in-Some.is);
        spine = refl;
      }
      | in-None w ↦ record {
        adding = none-added c.args.start items _ _ waits (rw w.storage-is c.in_ok-storage.ensures.entries);
        capacity = rw w.storage-is (c.in_ok-storage.ensures.capacity ∙ ap capacity_of count);
        value = rw w.storage-is (c.in_ok-storage.ensures.value ∙ sym w.in-None.is);
        spine = refl;
      }
    ]

pub at-requires : goal.at-requires
at-requires g c =
    let next = next-added _ _ c.requires.canonical c.requires.few c.requires.starts _ _ _ _
    c.loop-self.invariant.adding
    (omega (arith, c.loop-self-test.true, c.len-in-loop-self.ensures, c.loop-self.self.waiting.ok.0))
    c.take_last-child.ensures.items in
    rw c.prefix.ensures next.prefix

pub add_within-requires-clause-absent : goal.add_within-requires-clause-absent
add_within-requires-clause-absent g c =
    let next = next-added _ _ c.requires.canonical c.requires.few c.requires.starts _ _ _ _
    c.loop-self.invariant.adding
    (omega (arith, c.loop-self-test.true, c.len-in-loop-self.ensures, c.loop-self.self.waiting.ok.0))
    c.take_last-child.ensures.items in
    rw (c.at.ensures ∙ ap (λ p. slice_index p 0) c.prefix.ensures) next.absent

pub add_within-requires-clause-not_full : goal.add_within-requires-clause-not_full
add_within-requires-clause-not_full g c =
    let next = next-added _ _ c.requires.canonical c.requires.few c.requires.starts _ _ _ _
    c.loop-self.invariant.adding
    (omega (arith, c.loop-self-test.true, c.len-in-loop-self.ensures, c.loop-self.self.waiting.ok.0))
    c.take_last-child.ensures.items in
    rw c.loop-self.invariant.capacity next.free

pub loop-self-preserved : goal.loop-self-preserved
loop-self-preserved g c =
    let next = next-added _ _ c.requires.canonical c.requires.few c.requires.starts _ _ _ _
    c.loop-self.invariant.adding
    (omega (arith, c.loop-self-test.true, c.len-in-loop-self.ensures, c.loop-self.self.waiting.ok.0))
    c.take_last-child.ensures.items in
    record {
      adding = next.adds _ (c.add_within.ensures.entries
          ∙ ap (λ b. with_entry b c.take_last-child.result (child_entries c.loop-self.storage))
          (c.at.ensures ∙ ap (λ p. slice_index p 0) c.prefix.ensures));
      capacity = c.add_within.ensures.capacity ∙ c.loop-self.invariant.capacity;
      value = c.add_within.ensures.value_kept ∙ c.loop-self.invariant.value;
      spine = c.loop-self.invariant.spine;
    }

added : (g : _) (c : After-loop-self g) → AreAdded c.args.start c.args.self.now.waiting.items
    c.loop-self.self.waiting.items (child_entries c.loop-self.storage)
added g c = all-added _ _ c.requires.starts _ _ c.loop-self.invariant.adding
    (omega (arith, c.loop-self-test.false, c.len-in-loop-self.ensures, c.loop-self.self.waiting.ok.0))

pub returns-clause-entries : goal.returns-clause-entries
returns-clause-entries g c = (added g c).made

pub returns-clause-waiting : goal.returns-clause-waiting
returns-clause-waiting g c = (added g c).rest
