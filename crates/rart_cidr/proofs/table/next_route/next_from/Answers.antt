use Rattle.std.proofs.Common.{◌∷◌, [], refl, arith, ap, sym, ◌∙◌, drop, false}
use Rattle.std.specs.Prelude.{option_map, slice_get}
use Rattle.rart_keys.specs.Ranges.{is_from_bound, pairs_from}
use Rattle.rart_keys.specs.SortedMap.{keys_of, lookup}
use Rattle.rart_cidr.specs.Routes.{stride_at}
use Rattle.rart_cidr.proofs.walks.AheadLemmas.{itself, not_itself, walk_ended, walk_entered, walk_next}
use Rattle.rart_cidr.proofs.walks.NextRouteLemmas.{ahead-after, ahead-greater, before-ahead, fewer-after, first-stored}
use Rattle.rart_cidr.proofs.table.next_route.next_from.Goals as goal

pub loop-at-init : goal.loop-at-init
loop-at-init g c = (c.requires, refl)

pub next_before-requires-clause-code : goal.next_before-requires-clause-code
next_before-requires-clause-code g c = c.loop-at.invariant.0.1.is_code

pub next_before-requires-clause-ahead : goal.next_before-requires-clause-ahead
next_before-requires-clause-ahead g c = let w = c.loop-at in let i = w.invariant.0 in
    before-ahead g.K.KeyTrait.bytes c.args.strides.now.pairs c.canonical.ensures.ascending i.1.formed
    w.ahead i.0 (g.K.KeyTrait.bytes w.key) c.as_ref.result.now
    w.code i.1.ahead c.as_ref.ensures

pub returns-in-Some-clause-value : goal.returns-in-Some-clause-value
returns-in-Some-clause-value g c =
    let w = c.loop-at in let i = w.invariant.0 in
    let n = walk_next g.K.KeyTrait.bytes c.args.strides.now.pairs c.canonical.ensures.ascending i.1.formed w.ahead i.0
    (g.K.KeyTrait.bytes w.key) c.as_ref.result.now (g.K.KeyTrait.bytes c.truncate.result) w.code c.in-Some.at
    c.in-Some.found c.in-Some.target.now (g.met.K.KeyTrait.are_bytes w.key) i.1.is_code i.1.ahead c.as_ref.ensures
    c.truncate.ensures c.in-Some.ensures in
    ap (λ z. slice_get z 0) (sym n.1 ∙ w.invariant.1)

pub returns-in_default-ahead-clause-value : goal.returns-in_default-ahead-clause-value
returns-in_default-ahead-clause-value g c =
    let w = c.loop-at in let i = w.invariant.0 in
    ap (λ z. slice_get z 0) (sym (walk_ended g.K.KeyTrait.bytes c.args.strides.now.pairs c.canonical.ensures.ascending
    i.1.formed w.ahead i.0 (g.K.KeyTrait.bytes w.key) c.as_ref.result.now w.code (g.met.K.KeyTrait.are_bytes w.key)
    i.1.is_code i.1.ahead c.as_ref.ensures c.in_default-ahead.is c.in_default.ensures) ∙ w.invariant.1)

pub returns-in-Some-target_of-clause-value : goal.returns-in-Some-target_of-clause-value
returns-in-Some-target_of-clause-value g c =
    let w = c.loop-at in let i = w.invariant.0 in let S = c.args.strides.now.pairs in
    let next = c.in-Some-ahead.next in
    let t = walk_entered g.K.KeyTrait.bytes S c.canonical.ensures.ascending i.1.formed w.ahead next i.0 (keys_of i.0)
    (g.K.KeyTrait.bytes w.key) c.as_ref.result.now w.code (g.met.K.KeyTrait.are_bytes w.key) i.1.is_code i.1.ahead
    c.as_ref.ensures c.in-Some-ahead.is refl c.in_default.ensures in
    ap (λ z. slice_get z 0) (sym (itself S (g.K.KeyTrait.bytes next) 1 c.in-Some-target_of.target.now
    c.canonical.ensures.ascending i.1.formed (g.met.K.KeyTrait.are_bytes next) (omega arith, omega arith)
    (ap (λ z. lookup (1 ∷ []) (stride_at z S)) (sym c.as_ref-octets.ensures) ∙ sym c.in-Some-target_of.ensures))
    ∙ t.0 ∙ w.invariant.1)

pub loop-at-smaller : goal.loop-at-smaller
loop-at-smaller g c =
    let w = c.loop-at in let i = w.invariant.0 in let S = c.args.strides.now.pairs in
    let next = c.in-Some-ahead.next in
    fewer-after (g.K.KeyTrait.bytes w.key) (g.K.KeyTrait.bytes next) S
    (ahead-greater g.K.KeyTrait.bytes S c.canonical.ensures.ascending i.1.formed (g.K.KeyTrait.bytes w.key) w.code
    w.ahead next i.0 (g.met.K.KeyTrait.are_bytes w.key) (g.met.K.KeyTrait.are_bytes next) i.1.ahead c.in-Some-ahead.is)
    (i.2 next c.in-Some-ahead.is)

pub loop-at-preserved : goal.loop-at-preserved
loop-at-preserved g c =
    let w = c.loop-at in let i = w.invariant.0 in let S = c.args.strides.now.pairs in
    let next = c.in-Some-ahead.next in let m = g.K.KeyTrait.bytes next in
    let t = walk_entered g.K.KeyTrait.bytes S c.canonical.ensures.ascending i.1.formed w.ahead next i.0 (keys_of i.0)
    (g.K.KeyTrait.bytes w.key) c.as_ref.result.now w.code (g.met.K.KeyTrait.are_bytes w.key) i.1.is_code i.1.ahead
    c.as_ref.ensures c.in-Some-ahead.is refl c.in_default.ensures in
    let first = c.key_after-ahead.ensures
    ∙ ap (λ z. option_map (λ e. e.0) (slice_get (pairs_from false z S) 0)) c.as_ref-octets.ensures in (
      (
        drop 1 (pairs_from false m S),
        record {
          formed = i.1.formed;
          is_code = (omega arith, omega arith);
          ahead = ahead-after g.K.KeyTrait.bytes S c.canonical.ensures.ascending i.1.formed m c.key_after-ahead.result
              (g.met.K.KeyTrait.are_bytes next) first;
        },
        λ k e. first-stored g.K.KeyTrait.bytes c.key_after-ahead.result k (is_from_bound false m) S e first,
      ),
      sym (not_itself S m 1 c.canonical.ensures.ascending i.1.formed (g.met.K.KeyTrait.are_bytes next)
          (omega arith, omega arith) (ap (λ z. lookup (1 ∷ []) (stride_at z S)) (sym c.as_ref-octets.ensures)
          ∙ sym c.in_default-target_of.ensures)) ∙ t.0 ∙ w.invariant.1,
    )
