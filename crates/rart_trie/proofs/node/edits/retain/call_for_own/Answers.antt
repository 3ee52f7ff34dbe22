use Rattle.std.proofs.Common.{rules, of_calls, ◌≡◌, ◌∙◌, ap, refl, sym, Some, None}
use Rattle.std.specs.Option.{option_copied_mut}
use Rattle.rart_trie.specs.storages.Stored.{stored_value}
use Rattle.rart_trie.proofs.node.edits.retain.call_for_own.Goals as goal

pub returns-then-not-holds_empty-clause-calls : goal.returns-then-not-holds_empty-clause-calls
returns-then-not-holds_empty-clause-calls g c
    = rw (sym c.holds_empty.ensures ∙ c.if-not-holds_empty.true) (refl, refl, refl)

pub f-requires : goal.f-requires
f-requires g c = c.requires.callable _ (sym c.value_mut.ensures.value ∙ ap option_copied_mut c.in-Some.is)
    (sym c.holds_empty.ensures ∙ c.if-not-holds_empty.false) _ _ refl refl

pub returns-in-Some : goal.returns-in-Some
returns-in-Some g c =
    let was : stored_value c.args.storage.now ≡ Some c.in-Some.value.now = sym c.value_mut.ensures.value
    ∙ ap option_copied_mut c.in-Some.is in
    let left = (rw c.in-Some.is at c.value_mut.follows.holds c.f.new.arg3).0 in
    record {
      calls = rw (sym c.holds_empty.ensures ∙ c.if-not-holds_empty.false, was, left.2) (search (rules, of_calls));
      same = (left.0, left.1, refl, left.3);
    }

pub returns-in-None : goal.returns-in-None
returns-in-None g c =
    let was : stored_value c.args.storage.now ≡ None = sym c.value_mut.ensures.value
    ∙ ap option_copied_mut c.in-None.is in
    let left = c.value_mut.follows.holds-at-none in
    record {
      calls = rw (sym c.holds_empty.ensures ∙ c.if-not-holds_empty.false, left.2, was) (refl, refl);
      same = (left.0, left.1, refl, left.3);
    }
