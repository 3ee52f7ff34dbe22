use Rattle.std.proofs.Common.{◌≡◌, ◌++◌, ◌+◌, ◌-◌, arith, length, length-append, take, nat_eq, refl, sym, ◌∙◌, ap, true}
use Rattle.std.proofs.Common.{false}
use Rattle.std.proofs.Common.{Some, None, option_map}
use Rattle.std.proofs.lemmas.List.{append_assoc, map-append}
use Rattle.std.proofs.Math.Seq.{take-append_seam}
use Rattle.std.specs.List.{starts_with}
use Rattle.rart_keys.specs.ByteStrings.{strip_prefix, begins}
use Rattle.rart_trie.specs.tries.Trie.{prefix_of}
use Rattle.rart_nodes.specs.walks.Part.{tree_part}
use Rattle.rart_nodes.specs.walks.PathParts.{byte_segments}
use Rattle.rart_trie.specs.walks.ProbeCount.{tree_entered}
use Rattle.rart_nodes.proofs.ranges.PotentialLemmas.{tree-lower}
use Rattle.rart_nodes.proofs.walks.PartLemmas.{child-deep, part-on, part-out, part-within}
use Rattle.rart_trie.proofs.tries.BelowLemmas.{starts_with-begins}
use Rattle.rart_trie.proofs.tries.StepLemmas.{next-falls, step-on}
use Rattle.rart_trie.proofs.tries.PrefixedStrings.{strip_prefix-is}
use Rattle.rart_nodes.proofs.walks.PathLemmas.{prefix-short}
use Rattle.rart_nodes.proofs.node.path_walk.below.seek_prefix.Goals as goal

pub returns-then-starts_with-clause-found : goal.returns-then-starts_with-clause-found
returns-then-starts_with-clause-found g c =
    let t = c.enter-at.result.node.now in
    let e : None ≡ strip_prefix (prefix_of t) c.loop-next.rest.now
    = rw c.prefix.ensures at c.in_default-strip_prefix.ensures in
    let h : begins c.loop-next.rest.now (prefix_of t) ≡ true
    = sym (starts_with-begins c.loop-next.rest.now (prefix_of t))
    ∙ ap (λ p. starts_with nat_eq p c.loop-next.rest.now) (sym c.prefix-in_default-strip_prefix.ensures)
    ∙ sym c.starts_with.ensures ∙ c.if-starts_with.true in
    sym (rw (c.in-Some.is, ← c.enter-at.ensures.shown) at c.loop-next.invariant.still)
    ∙ sym (part-within g.T.Keeps.grown (g.T.Path.kept c.loop-next.path) t c.loop-next.rest.now e h)

pub returns-then-starts_with-clause-depth : goal.returns-then-starts_with-clause-depth
returns-then-starts_with-clause-depth g c =
    let p = c.args.prefix.now in
    let r = c.loop-next.rest.now in
    let t = c.enter-at.result.node.now in
    let q = c.loop-next.invariant.depth in
    let e : None ≡ strip_prefix (prefix_of t) r = rw c.prefix.ensures at c.in_default-strip_prefix.ensures in
    let h : begins r (prefix_of t) ≡ true
    = sym (starts_with-begins r (prefix_of t))
    ∙ ap (λ z. starts_with nat_eq z r) (sym c.prefix-in_default-strip_prefix.ensures) ∙ sym c.starts_with.ensures
    ∙ c.if-starts_with.true in
    let whole : length p ≡ length q.0 + length r = ap length q.1 ∙ length-append q.0 r in
    let passed : length p - length r ≡ length q.0 = omega (arith, whole) in
    let led : take (length p - length r) p ≡ q.0
    = ap (λ n. take n p) passed ∙ ap (take (length q.0)) q.1 ∙ take-append_seam q.0 r in (
      omega arith,
      sym (rw (c.in-Some.is, ← c.enter-at.ensures.shown) at q.2)
          ∙ sym (part-within byte_segments (byte_segments q.0) t r e h)
          ∙ ap (λ z. Some (byte_segments z, t)) (sym led),
    )

pub returns-in_default-strip_prefix-clause-found : goal.returns-in_default-strip_prefix-clause-found
returns-in_default-strip_prefix-clause-found g c =
    let t = c.enter-at.result.node.now in
    let e : None ≡ strip_prefix (prefix_of t) c.loop-next.rest.now
    = rw c.prefix.ensures at c.in_default-strip_prefix.ensures in
    let h : begins c.loop-next.rest.now (prefix_of t) ≡ false
    = sym (starts_with-begins c.loop-next.rest.now (prefix_of t))
    ∙ ap (λ p. starts_with nat_eq p c.loop-next.rest.now) (sym c.prefix-in_default-strip_prefix.ensures)
    ∙ sym c.starts_with.ensures ∙ c.if-starts_with.false in
    sym (rw (c.in-Some.is, ← c.enter-at.ensures.shown) at c.loop-next.invariant.still)
    ∙ sym (part-out g.T.Keeps.grown (g.T.Path.kept c.loop-next.path) t c.loop-next.rest.now e h)

pub grow-requires : goal.grow-requires
grow-requires g c κs = (
  (refl, tt),
  omega (
    arith,
    rw (c.in-Some.is, ← c.enter-at.ensures.shown) at c.loop-next.invariant.deep,
    c.loop-next.invariant.reserved,
    c.requires.reserved,
    prefix-short c.enter-at.result.node.now
        c.enter-at.result.canonical,
    ap length c.prefix-in-Some.ensures,
  ),
)

pub loop-next-smaller : goal.loop-next-smaller
loop-next-smaller g c = next-falls _ _ _ _ _ _ c.in-Some.is c.enter-at.ensures.shown c.child-next.ensures

pub loop-next-preserved : goal.loop-next-preserved
loop-next-preserved g c =
    let t = c.enter-at.result.node.now in
    let k = g.T.Path.kept c.loop-next.path in
    let e : Some c.in-Some-strip_prefix.after.now ≡ strip_prefix (prefix_of t) c.loop-next.rest.now
    = rw c.prefix.ensures at c.in-Some-strip_prefix.ensures in
    let h = step-on t c.loop-next.rest.now c.in-Some-strip_prefix.after.now c.in-Some-first.byte.now
    c.enter-at.result.canonical e c.in-Some-first.ensures.value in
    let q = c.loop-next.invariant.depth in
    record {
      depth = (
        q.0 ++ prefix_of t,
        q.1 ∙ ap (λ z. q.0 ++ z) (sym (strip_prefix-is (prefix_of t) _ _ (sym e)))
            ∙ sym (append_assoc q.0 (prefix_of t) _),
        ap (λ z. tree_part byte_segments z c.in-Some-strip_prefix.after.now
            (option_map (λ s. s.node.now) c.child-next.result)) (map-append _ q.0 (prefix_of t))
            ∙ ap (tree_part byte_segments (byte_segments q.0 ++ byte_segments (prefix_of t))
            c.in-Some-strip_prefix.after.now) c.child-next.ensures
            ∙ part-on byte_segments (byte_segments q.0) t c.loop-next.rest.now c.in-Some-strip_prefix.after.now
            c.in-Some-first.byte.now c.enter-at.result.canonical e c.in-Some-first.ensures.value
            ∙ rw (c.in-Some.is, ← c.enter-at.ensures.shown) at q.2,
      );
      deep = omega (
        arith,
        rw (c.in-Some.is, ← c.enter-at.ensures.shown) at c.loop-next.invariant.deep,
        child-deep t c.in-Some-first.byte.now _ c.enter-at.result.canonical (sym c.child-next.ensures),
        ap length c.grow.ensures.kept,
        length-append k (g.T.Keeps.grown (g.P.Partial.bytes c.prefix-in-Some.result.now)),
        g.T.Keeps.short (g.P.Partial.bytes c.prefix-in-Some.result.now),
        ap length c.prefix-in-Some.ensures,
      );
      low = omega (
        arith,
        rw (c.in-Some.is, ← c.enter-at.ensures.shown) at c.loop-next.invariant.low,
        tree-lower c.in-Some-first.byte.now t _ (sym c.child-next.ensures),
      );
      reserved = omega (arith, c.loop-next.invariant.reserved, c.grow.ensures.capacity);
      requested = c.grow.ensures.requested ∙ c.loop-next.invariant.requested;
      still = ap (λ z. tree_part g.T.Keeps.grown z c.in-Some-strip_prefix.after.now
          (option_map (λ s. s.node.now) c.child-next.result)) (c.grow.ensures.kept
          ∙ ap (λ p. k ++ g.T.Keeps.grown p) c.prefix-in-Some.ensures)
          ∙ ap (tree_part g.T.Keeps.grown (k ++ g.T.Keeps.grown (prefix_of t)) c.in-Some-strip_prefix.after.now)
          c.child-next.ensures
          ∙ part-on g.T.Keeps.grown k t c.loop-next.rest.now c.in-Some-strip_prefix.after.now c.in-Some-first.byte.now
          c.enter-at.result.canonical e c.in-Some-first.ensures.value
          ∙ rw (c.in-Some.is, ← c.enter-at.ensures.shown) at c.loop-next.invariant.still;
      visits = omega (
        arith,
        h.1,
        ap (tree_entered c.in-Some-strip_prefix.after.now) c.child-next.ensures,
        c.enter-at.ensures.counted,
        rw (c.in-Some.is, ← c.enter-at.ensures.shown) at c.loop-next.invariant.visits,
      );
    }
