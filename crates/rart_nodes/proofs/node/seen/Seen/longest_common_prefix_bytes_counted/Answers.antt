use Rattle.std.proofs.Common.{◌≡◌, ◌++◌, ◌∙◌, arith, ap, length, sym, take, Some, []}
use Rattle.std.specs.Option.{option_copied}
use Rattle.rart_keys.specs.Filters.{below}
use Rattle.rart_nodes.specs.walks.Part.{tree_part}
use Rattle.rart_nodes.specs.walks.PathParts.{byte_segments, no_segment}
use Rattle.rart_trie.specs.tries.Tree.{tree_pairs}
use Rattle.rart_trie.specs.tries.Trie.{pairs_of, prefix_of, with_prefix}
use Rattle.rart_trie.proofs.edits.InsertLemmas.{fewer-within}
use Rattle.rart_trie.proofs.tries.CanonicalTests.{IsCanonical-test, IsCanonicalTree-test}
use Rattle.rart_trie.proofs.tries.StepLemmas.{root-entered}
use Rattle.rart_nodes.proofs.walks.CommonPrefixLemmas.{common-part, part-fits}
use Rattle.rart_nodes.proofs.walks.PartLemmas.{part-after, part-none}
use Rattle.rart_nodes.proofs.node.seen.Seen.longest_common_prefix_bytes_counted.Goals as goal

pub returns-in_default-seek_prefix-clause-value : goal.returns-in_default-seek_prefix-clause-value
returns-in_default-seek_prefix-clause-value g c =
    let p = c.args.prefix.now in
    part-none no_segment [] p (option_copied c.args.self.root) (IsCanonicalTree-test _ c.args.self.canonical)
    (ap (tree_part no_segment [] p) (sym c.in-Some.ensures) ∙ c.in_default-seek_prefix.ensures.found)

pub returns-in_default-seek_prefix-clause-visits : goal.returns-in_default-seek_prefix-clause-visits
returns-in_default-seek_prefix-clause-visits g c =
    let root = root-entered c.args.prefix.now c.in-Some.top.node.now _ c.in-Some.top.canonical c.in-Some.ensures in
    omega (arith, c.in_default-seek_prefix.ensures.visits, root.0)

pub returns-in_default-seek_prefix-clause-bound : goal.returns-in_default-seek_prefix-clause-bound
returns-in_default-seek_prefix-clause-bound g c =
    let root = root-entered c.args.prefix.now c.in-Some.top.node.now _ c.in-Some.top.canonical c.in-Some.ensures in
    omega (arith, c.in_default-seek_prefix.ensures.visits, root.1)

pub joined-requires : goal.joined-requires
joined-requires g c =
    let p = c.args.prefix.now in
    let o = option_copied c.args.self.root in
    let u = c.in-Some-seek_prefix.at.node.now in
    let q = take c.in-Some-seek_prefix.depth p in
    let found : tree_part byte_segments [] p o ≡ Some (byte_segments q, u)
    = ap (tree_part byte_segments [] p) (sym c.in-Some.ensures) ∙ c.in-Some-seek_prefix.ensures.depth.1 in
    fewer-within _ _ _ (omega (
      arith,
      part-fits p q (tree_pairs o) u c.in-Some-seek_prefix.at.canonical
          (part-after p q o u (IsCanonicalTree-test _ c.args.self.canonical) found),
      ap length (c.to_slice.ensures ∙ c.prefix.ensures),
      c.longest.ensures.bounds_keys,
    )) c.longest.ensures.within

pub returns-clause-value : goal.returns-clause-value
returns-clause-value g c =
    let p = c.args.prefix.now in
    let o = option_copied c.args.self.root in
    let u = c.in-Some-seek_prefix.at.node.now in
    let q = take c.in-Some-seek_prefix.depth p in
    let found : tree_part byte_segments [] p o ≡ Some (byte_segments q, u)
    = ap (tree_part byte_segments [] p) (sym c.in-Some.ensures) ∙ c.in-Some-seek_prefix.ensures.depth.1 in
    let pairs : below p (tree_pairs o) ≡ with_prefix q (pairs_of u)
    = part-after p q o u (IsCanonicalTree-test _ c.args.self.canonical) found in
    let bytes : g.K.KeyTrait.bytes c.joined.result ≡ q ++ prefix_of u
    = c.joined.ensures ∙ ap (λ z. q ++ z) (c.to_slice.ensures ∙ c.prefix.ensures) in
    rw (bytes, pairs) (common-part q u (IsCanonical-test u c.in-Some-seek_prefix.at.canonical))

pub returns-clause-visits : goal.returns-clause-visits
returns-clause-visits g c =
    let root = root-entered c.args.prefix.now c.in-Some.top.node.now _ c.in-Some.top.canonical c.in-Some.ensures in
    omega (arith, c.in-Some-seek_prefix.ensures.visits, root.0)

pub returns-clause-bound : goal.returns-clause-bound
returns-clause-bound g c =
    let root = root-entered c.args.prefix.now c.in-Some.top.node.now _ c.in-Some.top.canonical c.in-Some.ensures in
    omega (arith, c.in-Some-seek_prefix.ensures.visits, root.1)
