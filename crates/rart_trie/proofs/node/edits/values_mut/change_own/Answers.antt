use Rattle.std.proofs.Common.{rules, of_calls, ◌≡◌, ◌∙◌, ap, refl, sym, Some, None}
use Rattle.std.specs.Option.{option_copied_mut}
use Rattle.rart_trie.specs.ranges.LentBounds.{lent_bound}
use Rattle.rart_trie.specs.storages.Stored.{stored_value}
use Rattle.rart_trie.proofs.changes.RangeChangeLemmas.{own-called, own-lent, own-outside}
use Rattle.rart_trie.proofs.node.edits.values_mut.change_own.Goals as goal

pub returns-then-not-both_hold_empty-clause-changes : goal.returns-then-not-both_hold_empty-clause-changes
returns-then-not-both_hold_empty-clause-changes g c = own-outside _ (lent_bound c.args.start) (lent_bound c.args.end)
    (stored_value c.args.storage.now) c.args.f.now (sym c.both_hold_empty.ensures ∙ c.if-not-both_hold_empty.true)

pub f-requires : goal.f-requires
f-requires g c = own-lent _ (lent_bound c.args.start) (lent_bound c.args.end) (stored_value c.args.storage.now)
    c.in-Some.value.now c.args.f.now (sym c.value_mut.ensures.value ∙ ap option_copied_mut c.in-Some.is)
    (sym c.both_hold_empty.ensures ∙ c.if-not-both_hold_empty.false) c.requires.callable _ refl

pub returns-in-Some : goal.returns-in-Some
returns-in-Some g c =
    let was : stored_value c.args.storage.now ≡ Some c.in-Some.value.now = sym c.value_mut.ensures.value
    ∙ ap option_copied_mut c.in-Some.is in
    let left = (rw c.in-Some.is at c.value_mut.follows.holds c.f.new.arg2).0 in
    record {
      changes = rw (was, left.2) (own-called _ (lent_bound c.args.start) (lent_bound c.args.end) _ _ _ _
          (sym c.both_hold_empty.ensures ∙ c.if-not-both_hold_empty.false) (search (rules, of_calls)));
      same = (left.0, left.1, refl, left.3);
    }

pub returns-in-None : goal.returns-in-None
returns-in-None g c =
    let was : stored_value c.args.storage.now ≡ None = sym c.value_mut.ensures.value
    ∙ ap option_copied_mut c.in-None.is in
    let left = c.value_mut.follows.holds-at-none in
    record { changes = rw (left.2, was) refl; same = (left.0, left.1, refl, left.3) }
