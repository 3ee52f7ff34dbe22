use Rattle.std.proofs.Common.{◌≡◌, ◌+◌, ◌++◌, arith, ap, ◌∙◌, sym, refl, length, option_map, Some}
use Rattle.std.proofs.lemmas.Result.{on_ok_weaker, on_err_weaker}
use Rattle.rart_keys.specs.SortedMap.{longest_key}
use Rattle.rart_parts.specs.Entries.{child_at}
use Rattle.rart_trie.specs.edits.Deletion.{without_child}
use Rattle.rart_trie.specs.edits.PrefixRemovals.{prefixed_trie}
use Rattle.rart_trie.specs.storages.Stored.{child_entries, storage_capacity, stored_prefix, stored_value}
use Rattle.rart_trie.specs.tries.Trie.{pairs_of, prefix_of}
use Rattle.rart_trie.specs.tries.TrieCode.{as_children, node_count}
use Rattle.rart_trie.proofs.edits.InsertLemmas.{fewer-within, child-put_back, replaced-same}
use Rattle.rart_trie.proofs.edits.JoinLemmas.{some-there}
use Rattle.rart_trie.proofs.edits.JoinedLengths.{joins-canonical}
use Rattle.rart_trie.proofs.removals.PopLemmas.{below-within, prefix-within}
use Rattle.rart_trie.proofs.removals.PrefixAllocations.{allocates_take-below, allocates_take-whole}
use Rattle.rart_trie.proofs.removals.PrefixSteps.{below-absent, below-child_part, below-taken, continues, prefix-fits}
use Rattle.rart_trie.proofs.removals.PrefixSteps.{visits-below, without_prefix-absent, without_prefix-below}
use Rattle.rart_trie.proofs.removals.PrefixSteps.{without_prefix-taken}
use Rattle.rart_trie.proofs.storages.ChildLemmas.{canonical-found, count-found}
use Rattle.rart_trie.proofs.tries.Descents.{child_of-entries}
use Rattle.rart_trie.proofs.node.DefaultNode.+take_prefix_below.Goals as goal

pub unreachable-requires : goal.unreachable-requires
unreachable-requires g t c = continues (g.P.Partial.bytes (stored_prefix c.self.inside.storage)) c.args.prefix.now
    c.in-Some.rest.now
    c.in-Some.ensures (rw (← c.self.view_is) at c.requires.not_below) c.in_default-first.ensures.value

pub extend-requires : goal.extend-requires
extend-requires g t c = prefix-within _ (length (g.P.Partial.bytes c.args.path.now))
    (g.P.Partial.bytes (stored_prefix c.self.inside.storage)) (stored_value c.self.inside.storage) (storage_capacity
    c.self.inside.storage)
    (as_children (child_entries c.self.inside.storage)) (rw (← c.self.view_is) at c.requires.canonical)
    (rw (← c.self.view_is) at c.requires.within)

-- it continues in a child that remains
pub take_prefix_below-requires : goal.take_prefix_below-requires
take_prefix_below-requires g t c κs within =
    let canonical = rw (← c.self.view_is) at c.requires.canonical in
    let fits = rw (← c.self.view_is) at c.requires.within in
    let low = below-within _ _ _ _ _ _ (storage_capacity c.self.inside.storage) c.in-Some-seek_child_mut.child.now
    (child_entries c.self.inside.storage) canonical c.in-Some-seek_child_mut.ensures.value c.extend.ensures fits in (
      omega (
        arith,
        c.decreases,
        ap node_count c.self.view_is,
        count-found _ 0 c.in-Some-seek_child_mut.child.now (child_entries c.self.inside.storage) canonical.2
            c.in-Some-seek_child_mut.ensures.value,
      ),
      (
        within.0,
        (
          within.1.0,
          (
            within.1.1,
            (
              canonical-found _ 0 c.in-Some-seek_child_mut.child.now (child_entries c.self.inside.storage) canonical.2
                  c.in-Some-seek_child_mut.ensures.value,
              (low, (sym c.is_below.ensures.value ∙ c.if-not-is_below.true, c.requires.empty)),
            ),
          ),
        ),
      ),
    )

pub returns-then-not-is_below-clause-ok : goal.returns-then-not-is_below-clause-ok
returns-then-not-is_below-clause-ok g t c =
    let left = rw c.in-Some-seek_child_mut.is at c.seek_child_mut.follows.holds c.take_prefix_below.new.self in
    on_ok_weaker c.take_prefix_below.result (λ r. rw (← c.self.view_is, left.2, left.3)
    (without_prefix-below _ c.args.prefix.now _ _ _ _ _ c.in-Some-seek_child_mut.child.now
    c.take_prefix_below.new.self (child_entries c.self.inside.storage) _
    (rw (← c.self.view_is) at c.requires.canonical) c.in-Some.ensures c.in-Some-first.ensures.value
    c.in-Some-seek_child_mut.ensures.value r left.0 left.1)) c.take_prefix_below.ensures.ok

pub returns-then-not-is_below-clause-taken : goal.returns-then-not-is_below-clause-taken
returns-then-not-is_below-clause-taken g t c =
    let grown : (g.P.Partial.bytes c.extend.new.path) ≡ (g.P.Partial.bytes c.args.path.now)
    ++ (g.P.Partial.bytes (stored_prefix c.self.inside.storage)) = c.extend.ensures in
    on_ok_weaker c.take_prefix_below.result (λ r. r ∙ rw (← c.self.view_is)
    (below-child_part (g.P.Partial.bytes c.args.path.now) (g.P.Partial.bytes c.extend.new.path)
    (g.P.Partial.bytes (stored_prefix c.self.inside.storage)) c.args.prefix.now _ (stored_value c.self.inside.storage)
    (storage_capacity c.self.inside.storage) _
    c.in-Some-seek_child_mut.child.now (child_entries c.self.inside.storage)
    (rw (← c.self.view_is) at c.requires.canonical) c.in-Some.ensures c.in-Some-first.ensures.value
    c.in-Some-seek_child_mut.ensures.value grown)) c.take_prefix_below.ensures.taken

pub returns-then-not-is_below-clause-unchanged : goal.returns-then-not-is_below-clause-unchanged
returns-then-not-is_below-clause-unchanged g t c =
    let left = rw c.in-Some-seek_child_mut.is at c.seek_child_mut.follows.holds c.take_prefix_below.new.self in
    on_err_weaker c.take_prefix_below.result (λ e. rw (← c.self.view_is)
    (child-put_back _ _ _ _ _ c.in-Some-seek_child_mut.child.now c.take_prefix_below.new.self
    (child_entries c.self.inside.storage) _ c.in-Some-seek_child_mut.ensures.value e left.0 left.1 left.2
    (ap g.P.Partial.bytes left.3)))
    c.take_prefix_below.ensures.unchanged

pub returns-then-not-is_below-clause-allocates : goal.returns-then-not-is_below-clause-allocates
returns-then-not-is_below-clause-allocates g t c = on_err_weaker c.take_prefix_below.result (λ a. rw (← c.self.view_is)
    (allocates_take-below _ c.args.prefix.now _ _ (storage_capacity c.self.inside.storage) _
    c.in-Some-seek_child_mut.child.now
    (child_entries c.self.inside.storage) (rw (← c.self.view_is) at c.requires.canonical) c.in-Some.ensures
    c.in-Some-first.ensures.value c.in-Some-seek_child_mut.ensures.value a)) c.take_prefix_below.ensures.allocates

-- there is no child
pub returns-in-None-clause-ok : goal.returns-in-None-clause-ok
returns-in-None-clause-ok g t c =
    let left = c.seek_child_mut.follows.holds-at-none in
    rw (← c.self.view_is, left.2, left.3) (without_prefix-absent _ c.args.prefix.now _ _ _ _ _
    (child_entries c.self.inside.storage) _
    (rw (← c.self.view_is) at c.requires.canonical) c.in-Some.ensures c.in-Some-first.ensures.value
    c.in-None.ensures.value left.0 left.1)

pub returns-in-None-clause-taken : goal.returns-in-None-clause-taken
returns-in-None-clause-taken g t c = rw (← c.self.view_is) (c.requires.empty
    ∙ ap (option_map (prefixed_trie (g.P.Partial.bytes c.args.path.now)))
    (below-absent _ c.args.prefix.now _ _ (storage_capacity c.self.inside.storage) _
    (child_entries c.self.inside.storage)
    c.in-Some.ensures c.in-Some-first.ensures.value c.in-None.ensures.value))

-- the child is taken whole
pub take_whole-requires-clause-within : goal.take_whole-requires-clause-within
take_whole-requires-clause-within g t c =
    let canonical = rw (← c.self.view_is) at c.requires.canonical in
    let left = rw c.in-Some-seek_child_mut.is at c.seek_child_mut.follows.holds c.in-Some-seek_child_mut.child.now in
    let same = left.1 ∙ replaced-same _ c.in-Some-seek_child_mut.child.now (child_entries c.self.inside.storage)
    c.in-Some-seek_child_mut.ensures.value in
    let fits = fewer-within _ (length (g.P.Partial.bytes c.args.path.now) + longest_key (pairs_of c.args.self.now))
    (longest_key (pairs_of c.args.self.now)) (omega arith) c.requires.within in
    rw (same, left.3) (joins-canonical _ _ _ (storage_capacity c.self.inside.storage) _ canonical
    (rw (← c.self.view_is) at fits))

pub take_whole-requires-clause-stored : goal.take_whole-requires-clause-stored
take_whole-requires-clause-stored g t c =
    let left = rw c.in-Some-seek_child_mut.is at c.seek_child_mut.follows.holds c.in-Some-seek_child_mut.child.now in
    let same = left.1 ∙ replaced-same _ c.in-Some-seek_child_mut.child.now (child_entries c.self.inside.storage)
    c.in-Some-seek_child_mut.ensures.value in
    let found = child_of-entries _ (child_entries (c.seek_child_mut.follows.lender c.in-Some-seek_child_mut.child.now))
    ∙ ap (child_at _) same ∙ sym c.in-Some-seek_child_mut.ensures.value in
    λ none. some-there c.in-Some-seek_child_mut.child.now _ found none

pub take_whole-requires-clause-child_within : goal.take_whole-requires-clause-child_within
take_whole-requires-clause-child_within g t c =
    let canonical = rw (← c.self.view_is) at c.requires.canonical in
    let left = rw c.in-Some-seek_child_mut.is at c.seek_child_mut.follows.holds c.in-Some-seek_child_mut.child.now in
    let same = left.1 ∙ replaced-same _ c.in-Some-seek_child_mut.child.now (child_entries c.self.inside.storage)
    c.in-Some-seek_child_mut.ensures.value in
    let found = child_of-entries _ (child_entries (c.seek_child_mut.follows.lender c.in-Some-seek_child_mut.child.now))
    ∙ ap (child_at _) same ∙ sym c.in-Some-seek_child_mut.ensures.value in
    let fits = rw (← c.self.view_is) at c.requires.within in
    let low = below-within _ _ _ _ _ _ (storage_capacity c.self.inside.storage) c.in-Some-seek_child_mut.child.now
    (child_entries c.self.inside.storage) canonical c.in-Some-seek_child_mut.ensures.value c.extend.ensures fits in
    rw found (prefix-fits _ (length (g.P.Partial.bytes c.extend.new.path)) c.in-Some-seek_child_mut.child.now
    (canonical-found _ 0 c.in-Some-seek_child_mut.child.now (child_entries c.self.inside.storage) canonical.2
    c.in-Some-seek_child_mut.ensures.value) low)

pub returns-clause-ok : goal.returns-clause-ok
returns-clause-ok g t c =
    let left = rw c.in-Some-seek_child_mut.is at c.seek_child_mut.follows.holds c.in-Some-seek_child_mut.child.now in
    on_ok_weaker c.take_whole.result (λ e. ap Some (e ∙ ap (without_child _)
    (child-put_back _ _ _ _ _ c.in-Some-seek_child_mut.child.now c.in-Some-seek_child_mut.child.now
    (child_entries c.self.inside.storage) _ c.in-Some-seek_child_mut.ensures.value refl left.0 left.1 left.2
    (ap g.P.Partial.bytes left.3)))
    ∙ rw (← c.self.view_is) (without_prefix-taken _ c.args.prefix.now _ _ _ _ c.in-Some-seek_child_mut.child.now
    (child_entries c.self.inside.storage)
    (rw (← c.self.view_is) at c.requires.canonical) c.in-Some.ensures c.in-Some-first.ensures.value
    c.in-Some-seek_child_mut.ensures.value (sym c.is_below.ensures.value ∙ c.if-not-is_below.false)))
    c.take_whole.ensures.rest

pub returns-clause-taken : goal.returns-clause-taken
returns-clause-taken g t c =
    let left = rw c.in-Some-seek_child_mut.is at c.seek_child_mut.follows.holds c.in-Some-seek_child_mut.child.now in
    let same = left.1 ∙ replaced-same _ c.in-Some-seek_child_mut.child.now (child_entries c.self.inside.storage)
    c.in-Some-seek_child_mut.ensures.value in
    let found = child_of-entries _ (child_entries (c.seek_child_mut.follows.lender c.in-Some-seek_child_mut.child.now))
    ∙ ap (child_at _) same ∙ sym c.in-Some-seek_child_mut.ensures.value in
    let grown : (g.P.Partial.bytes c.extend.new.path) ≡ (g.P.Partial.bytes c.args.path.now)
    ++ (g.P.Partial.bytes (stored_prefix c.self.inside.storage)) = c.extend.ensures in
    on_ok_weaker c.take_whole.result
    (λ e. e ∙ ap (option_map (prefixed_trie (g.P.Partial.bytes c.extend.new.path))) found
    ∙ rw (← c.self.view_is) (below-taken (g.P.Partial.bytes c.args.path.now) (g.P.Partial.bytes c.extend.new.path)
    (g.P.Partial.bytes (stored_prefix c.self.inside.storage)) c.args.prefix.now _ (stored_value c.self.inside.storage)
    (storage_capacity c.self.inside.storage) _
    c.in-Some-seek_child_mut.child.now (child_entries c.self.inside.storage)
    (rw (← c.self.view_is) at c.requires.canonical) c.in-Some.ensures c.in-Some-first.ensures.value
    c.in-Some-seek_child_mut.ensures.value (sym c.is_below.ensures.value ∙ c.if-not-is_below.false) grown))
    c.take_whole.ensures.taken

pub returns-clause-unchanged : goal.returns-clause-unchanged
returns-clause-unchanged g t c =
    let left = rw c.in-Some-seek_child_mut.is at c.seek_child_mut.follows.holds c.in-Some-seek_child_mut.child.now in
    on_err_weaker c.take_whole.result (λ e. e
    ∙ child-put_back _ _ _ _ _ c.in-Some-seek_child_mut.child.now c.in-Some-seek_child_mut.child.now
    (child_entries c.self.inside.storage) _ c.in-Some-seek_child_mut.ensures.value refl left.0 left.1 left.2
    (ap g.P.Partial.bytes left.3)
    ∙ c.self.view_is)
    c.take_whole.ensures.unchanged

pub returns-clause-allocates : goal.returns-clause-allocates
returns-clause-allocates g t c =
    let left = rw c.in-Some-seek_child_mut.is at c.seek_child_mut.follows.holds c.in-Some-seek_child_mut.child.now in
    let same = left.1 ∙ replaced-same _ c.in-Some-seek_child_mut.child.now (child_entries c.self.inside.storage)
    c.in-Some-seek_child_mut.ensures.value in
    on_err_weaker c.take_whole.result (λ a. rw (← c.self.view_is) (allocates_take-whole _ c.args.prefix.now _ _
    (storage_capacity c.self.inside.storage) _ _ c.in-Some-seek_child_mut.child.now
    (child_entries c.self.inside.storage) _
    (rw (← c.self.view_is) at c.requires.canonical) c.in-Some.ensures c.in-Some-first.ensures.value
    c.in-Some-seek_child_mut.ensures.value (sym c.is_below.ensures.value ∙ c.if-not-is_below.false) left.0 same a.1
    a.2))
    c.take_whole.ensures.allocates

-- the visits
pub returns-then-not-is_below-clause-bound : goal.returns-then-not-is_below-clause-bound
returns-then-not-is_below-clause-bound g t c =
    let canonical = rw (← c.self.view_is) at c.requires.canonical in
    omega (
      arith,
      c.is_below.ensures.counted,
      c.take_prefix_below.ensures.bound,
      ap (λ t. length (prefix_of t)) c.self.view_is,
      visits-below (g.P.Partial.bytes (stored_prefix c.self.inside.storage)) c.args.prefix.now c.in-Some.rest.now _
          c.in-Some-seek_child_mut.child.now (child_entries c.self.inside.storage) canonical.2 c.in-Some.ensures
          c.in-Some-first.ensures.value c.in-Some-seek_child_mut.ensures.value,
    )

pub returns-clause-bound : goal.returns-clause-bound
returns-clause-bound g t c =
    let canonical = rw (← c.self.view_is) at c.requires.canonical in
    omega (
      arith,
      c.is_below.ensures.counted,
      ap (λ t. length (prefix_of t)) c.self.view_is,
      visits-below (g.P.Partial.bytes (stored_prefix c.self.inside.storage)) c.args.prefix.now c.in-Some.rest.now _
          c.in-Some-seek_child_mut.child.now (child_entries c.self.inside.storage) canonical.2 c.in-Some.ensures
          c.in-Some-first.ensures.value c.in-Some-seek_child_mut.ensures.value,
    )
