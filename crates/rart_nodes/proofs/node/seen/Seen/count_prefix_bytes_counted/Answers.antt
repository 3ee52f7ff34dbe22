use Rattle.std.proofs.Common.{◌≡◌, ◌∙◌, arith, ap, length, sym, Some, []}
use Rattle.std.proofs.lemmas.List.Sums.{count_by-le-length, length-filter}
use Rattle.std.specs.Option.{option_copied}
use Rattle.rart_keys.specs.ByteStrings.{begins}
use Rattle.rart_nodes.specs.walks.Part.{tree_part}
use Rattle.rart_nodes.specs.walks.PathParts.{no_segment}
use Rattle.rart_trie.specs.tries.Tree.{tree_pairs}
use Rattle.rart_trie.proofs.tries.CanonicalTests.{IsCanonical-test, IsCanonicalTree-test}
use Rattle.rart_trie.proofs.tries.StepLemmas.{root-entered}
use Rattle.rart_nodes.proofs.walks.PartLemmas.{few-count, part-length, part-none}
use Rattle.rart_nodes.proofs.node.seen.Seen.count_prefix_bytes_counted.Goals as goal

pub count_below-requires : goal.count_below-requires
count_below-requires g c =
    let p = c.args.prefix.now in
    let o = option_copied c.args.self.root in
    let u = c.in-Some-seek_prefix.at.node.now in
    let found : tree_part no_segment [] p o ≡ Some ([], u)
    = ap (tree_part no_segment [] p) (sym c.in-Some.ensures) ∙ c.in-Some-seek_prefix.ensures.found in
    omega (
      arith,
      c.requires,
      part-length no_segment [] [] p o u (IsCanonicalTree-test _ c.args.self.canonical) found,
      length-filter (λ e. begins p e.0) (tree_pairs o),
      count_by-le-length (λ e. begins p e.0) (tree_pairs o),
    )

pub returns-in-Some-seek_prefix-clause-value : goal.returns-in-Some-seek_prefix-clause-value
returns-in-Some-seek_prefix-clause-value g c =
    let p = c.args.prefix.now in
    let o = option_copied c.args.self.root in
    let u = c.in-Some-seek_prefix.at.node.now in
    let found : tree_part no_segment [] p o ≡ Some ([], u)
    = ap (tree_part no_segment [] p) (sym c.in-Some.ensures) ∙ c.in-Some-seek_prefix.ensures.found in
    c.count_below.ensures.value
    ∙ sym (part-length no_segment [] [] p o u (IsCanonicalTree-test _ c.args.self.canonical) found)

pub returns-in-Some-seek_prefix-clause-visits : goal.returns-in-Some-seek_prefix-clause-visits
returns-in-Some-seek_prefix-clause-visits g c =
    let p = c.args.prefix.now in
    let o = option_copied c.args.self.root in
    let u = c.in-Some-seek_prefix.at.node.now in
    let found : tree_part no_segment [] p o ≡ Some ([], u)
    = ap (tree_part no_segment [] p) (sym c.in-Some.ensures) ∙ c.in-Some-seek_prefix.ensures.found in
    let root = root-entered p c.in-Some.top.node.now _ c.in-Some.top.canonical c.in-Some.ensures in
    omega (
      arith,
      c.count_below.ensures.visits,
      c.in-Some-seek_prefix.ensures.visits,
      root.0,
      few-count u (IsCanonical-test u c.in-Some-seek_prefix.at.canonical),
      part-length no_segment [] [] p o u (IsCanonicalTree-test _ c.args.self.canonical) found,
    )

pub returns-in-Some-seek_prefix-clause-bound : goal.returns-in-Some-seek_prefix-clause-bound
returns-in-Some-seek_prefix-clause-bound g c =
    let p = c.args.prefix.now in
    let o = option_copied c.args.self.root in
    let u = c.in-Some-seek_prefix.at.node.now in
    let found : tree_part no_segment [] p o ≡ Some ([], u)
    = ap (tree_part no_segment [] p) (sym c.in-Some.ensures) ∙ c.in-Some-seek_prefix.ensures.found in
    let root = root-entered p c.in-Some.top.node.now _ c.in-Some.top.canonical c.in-Some.ensures in
    omega (
      arith,
      c.count_below.ensures.visits,
      c.in-Some-seek_prefix.ensures.visits,
      root.1,
      few-count u (IsCanonical-test u c.in-Some-seek_prefix.at.canonical),
      part-length no_segment [] [] p o u (IsCanonicalTree-test _ c.args.self.canonical) found,
    )

pub returns-in-None-clause-value : goal.returns-in-None-clause-value
returns-in-None-clause-value g c =
    let p = c.args.prefix.now in
    let o = option_copied c.args.self.root in
    ap length (sym (part-none no_segment [] p o (IsCanonicalTree-test _ c.args.self.canonical)
    (ap (tree_part no_segment [] p) (sym c.in-Some.ensures) ∙ c.in-None.ensures.found)))

pub returns-in-None-clause-visits : goal.returns-in-None-clause-visits
returns-in-None-clause-visits g c =
    let root = root-entered c.args.prefix.now c.in-Some.top.node.now _ c.in-Some.top.canonical c.in-Some.ensures in
    omega (arith, c.in-None.ensures.visits, root.0)

pub returns-in-None-clause-bound : goal.returns-in-None-clause-bound
returns-in-None-clause-bound g c =
    let root = root-entered c.args.prefix.now c.in-Some.top.node.now _ c.in-Some.top.canonical c.in-Some.ensures in
    omega (arith, c.in-None.ensures.visits, root.1)
