use Rattle.std.proofs.Common.{drop, false, refl, ap, subst, sym, ◌∙◌}
use Rattle.std.specs.Prelude.{slice_get}
use Rattle.std.specs.declared.ops.Bound.TheVariants.{Unbounded}
use Rattle.rart_keys.specs.Ranges.{between, from_bound, is_from, pairs_from}
use Rattle.rart_keys.specs.SortedMap.{keys_of}
use Rattle.rart_cidr.specs.Bits.{network}
use Rattle.rart_cidr.specs.Routes.{routes_of}
use Rattle.rart_cidr.specs.Walks.{AreAhead, keys_ahead}
use Rattle.rart_cidr.proofs.walks.AheadLemmas.{walk_started}
use Rattle.rart_cidr.proofs.walks.NextRouteLemmas.{ahead-first, first-stored}
use Rattle.rart_cidr.proofs.table.BitTable.next_route.Goals as goal

pub next_from-requires : goal.next_from-requires
next_from-requires g c =
    let S = c.self.inside.strides.pairs in
    let f = c.key_ahead-ahead.ensures in
    let s = walk_started S c.args.octets.now (g.K.KeyTrait.bytes c.new_from_slice-key.result) c.args.bits _
    c.code_of-code.result f.0 (between f.0 Unbounded S) (keys_of (between f.0 Unbounded S))
    c.canonical.ensures.ascending c.self.invariant.formed (λ k. (c.type_inv.octets k).fits) c.requires.bits
    (c.new_from_slice-key.ensures ∙ c.first_octets.ensures) c.octet_at.ensures c.code_of-code.ensures.value f.1 refl
    refl in (
      drop 1 (from_bound f.0 S),
      record {
        formed = c.self.invariant.formed;
        is_code = s.0;
        ahead = subst (λ z. AreAhead z S (keys_ahead g.K.KeyTrait.bytes c.key_ahead-ahead.result
            (drop 1 (from_bound f.0 S)))) (sym s.1) (ahead-first g.K.KeyTrait.bytes S c.canonical.ensures.ascending
            c.self.invariant.formed (network c.args.octets.now c.args.bits) f.0 c.key_ahead-ahead.result f.1 f.2);
      },
      λ k e. first-stored g.K.KeyTrait.bytes c.key_ahead-ahead.result k (is_from f.0) S e f.2,
    )

pub returns-clause-value : goal.returns-clause-value
returns-clause-value g c =
    let S = c.self.inside.strides.pairs in
    let f = c.key_ahead-ahead.ensures in
    let s = walk_started S c.args.octets.now (g.K.KeyTrait.bytes c.new_from_slice-key.result) c.args.bits _
    c.code_of-code.result f.0 (between f.0 Unbounded S) (keys_of (between f.0 Unbounded S))
    c.canonical.ensures.ascending c.self.invariant.formed (λ k. (c.type_inv.octets k).fits) c.requires.bits
    (c.new_from_slice-key.ensures ∙ c.first_octets.ensures) c.octet_at.ensures c.code_of-code.ensures.value f.1 refl
    refl in
    c.next_from.ensures.value ∙ ap (λ z. slice_get (pairs_from false z (routes_of S)) 0) s.1
    ∙ ap (λ z. slice_get (pairs_from false (network c.args.octets.now c.args.bits) z) 0) c.self.view_is
