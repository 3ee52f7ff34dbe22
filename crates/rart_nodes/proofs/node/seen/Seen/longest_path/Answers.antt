use Rattle.std.proofs.Common.{arith, rules, ◌≤◌, length, ◌≡◌, ◌<◌, ◌^◌, ◌∙◌, Some, sym, ap, subst}
use Rattle.std.specs.Option.{option_copied}
use Rattle.rart_keys.specs.Filters.{longest_match}
use Rattle.rart_keys.specs.SortedMap.{keys_of}
use Rattle.rart_keys.specs.KeyBytes.{length-take-within}
use Rattle.rart_trie.specs.tries.Tree.{tree_pairs}
use Rattle.rart_trie.specs.walks.Cut.{cut}
use Rattle.rart_nodes.specs.walks.PathParts.{lent_segments}
use Rattle.rart_nodes.specs.walks.ViewSegments.{AreViews}
use Rattle.rart_trie.proofs.tries.CanonicalTests.{IsCanonicalTree-test}
use Rattle.rart_nodes.proofs.walks.CutCounts.{cut-few, keeps_each-one}
use Rattle.rart_nodes.proofs.walks.FirstBelow.{first-cut, first-contained}
use Rattle.rart_nodes.proofs.walks.PartCuts.{part-views}
use Rattle.rart_nodes.proofs.node.seen.Seen.longest_path.Given.{Over}
use Rattle.rart_nodes.proofs.node.seen.Seen.longest_path.Goals.{In_ok-walk, In-Some-advance}
use Rattle.rart_nodes.proofs.node.seen.Seen.longest_path.Goals as goal

-- the longest match is the key of that depth, with its value
found : (g : Over) (c : In_ok-walk g) → longest_match c.args.probe.now (tree_pairs (option_copied c.args.self.root))
    ≡ Some (c.probe_start-key.result.now, c.in-Some.field-0-1.now)
found g c = sym c.in-Some.ensures.pair ∙ ap (λ k. Some (k, c.in-Some.field-0-1.now)) (sym c.probe_start-key.ensures)

pub unreachable-requires : goal.unreachable-requires
unreachable-requires g c =
    let w = IsCanonicalTree-test _ c.args.self.canonical in
    absurd (first-contained c.args.probe.now c.probe_start-key.result.now c.in-Some.field-0-1.now
    (option_copied c.args.self.root) w (found g (goal.at.unreachable-requires g c).In_ok-walk)
    (sym c.in_ok-walk.ensures.entries ∙ c.in_default-advance.ensures.entries.0))

-- the segments are that key's cut, and the value is its own
first : (g : Over) (c : In-Some-advance g)
    → longest_match c.args.probe.now (tree_pairs (option_copied c.args.self.root))
    ≡ Some (c.probe_start-key.result.now, c.in-Some.field-0-1.now)
    → (lent_segments c.advance.new.path.segments.items
    ≡ cut (keys_of (tree_pairs (option_copied c.args.self.root))) c.probe_start-key.result.now)
    × (c.in-Some-advance.value.now ≡ c.in-Some.field-0-1.now)
first g c h = first-cut c.args.probe.now c.probe_start-key.result.now c.in-Some.field-0-1.now
    (option_copied c.args.self.root) (IsCanonicalTree-test _ c.args.self.canonical) h _ _ _
    (sym c.in-Some-advance.ensures.entries ∙ c.in_ok-walk.ensures.entries)

pub returns-clause-found : goal.returns-clause-found
returns-clause-found g c =
    let at = goal.at.returns-clause-found g c in
    let h = found g at.In_ok-walk in
    rw h (first g at.In-Some-advance h)

pub returns-clause-views : goal.returns-clause-views
returns-clause-views g c =
    let n : c.args.self.longest < 2 ^ 64 = search rules in
    let views = subst AreViews (sym c.in_ok-walk.ensures.entries ∙ c.in-Some-advance.ensures.entries)
    (part-views c.args.self.longest c.probe_start-key.result.now (option_copied c.args.self.root)
    (IsCanonicalTree-test _ c.args.self.canonical) c.args.self.short n) in
    (views.0, views.1, tt)

pub returns-clause-bound : goal.returns-clause-bound
returns-clause-bound g c =
    let at = goal.at.returns-clause-bound g c in
    let both = first g at.In-Some-advance (found g at.In_ok-walk) in
    let short : length c.probe_start-key.result.now ≤ length c.args.probe.now
    = rw c.probe_start-key.ensures (length-take-within _ _ c.args.probe.now c.in-Some.ensures.at_most) in
    let segments : length (lent_segments c.advance.new.path.segments.items) ≤ length c.probe_start-key.result.now
    = rw both.0 (cut-few (keys_of (tree_pairs (option_copied c.args.self.root))) c.probe_start-key.result.now) in
    omega (
      arith,
      short,
      segments,
      c.in-Some-advance.ensures.bound keeps_each-one,
      c.in_ok-walk.ensures.bound,
      c.in-Some.ensures.bound,
    )

pub returns-clause-visits : goal.returns-clause-visits
returns-clause-visits g c =
    let at = goal.at.returns-clause-visits g c in
    let h = found g at.In_ok-walk in
    let both = first g at.In-Some-advance h in
    rw h (omega (
      arith,
      ap length both.0,
      c.in-Some-advance.ensures.bound keeps_each-one,
      c.in_ok-walk.ensures.visits,
      c.in-Some.ensures.visits,
    ))
