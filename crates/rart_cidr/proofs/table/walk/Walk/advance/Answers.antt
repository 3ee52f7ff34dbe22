use Rattle.std.proofs.Common.{◌≡◌, [], ◌∷◌, true, false, not, arith, ap}
use Rattle.std.proofs.Common.{sym}
use Rattle.std.proofs.Common.{◌∙◌}
use Rattle.rart_keys.specs.Ranges.{pairs_from, up_to}
use Rattle.rart_keys.specs.SortedMap.{lookup}
use Rattle.rart_cidr.specs.Routes.{routes_of, stride_at}
use Rattle.rart_cidr.specs.Walks.{keys_ahead, net_at, steps_left}
use Rattle.rart_cidr.proofs.walks.AheadLemmas.{itself, not_itself, walk_ended, walk_entered, walk_next}
use Rattle.rart_cidr.proofs.table.walk.Walk.advance.Goals as goal

pub returns-in_default : goal.returns-in_default
returns-in_default g c =
    let w = c.self.inside in let i = c.self.invariant in
    let S = w.strides.now.pairs in let k = g.K.KeyTrait.bytes w.key in
    let left = ap (λ z. z.1) c.self.view_is in
    let new : w.given ≡ false = c.if-not-self.true in
    let more = ap (λ z. steps_left z (keys_ahead g.K.KeyTrait.bytes w.ahead (up_to w.rest.0 w.rest.1))) new in (
      sym (not_itself S k w.code c.canonical.ensures.ascending i.formed (g.met.K.KeyTrait.are_bytes w.key) i.is_code
          (ap (λ z. lookup (w.code ∷ []) (stride_at z S)) (sym c.as_ref.ensures) ∙ sym c.in_default.ensures))
          ∙ ap (λ z. pairs_from (not z) (net_at k w.code) (routes_of S)) (sym new) ∙ ap (λ z. z.0) c.self.view_is,
      omega (arith, left, more),
    )

pub invariant_of-self-in-Some-next_before : goal.invariant_of-self-in-Some-next_before
invariant_of-self-in-Some-next_before g c =
    let w = c.self.inside in let i = c.self.invariant in
    let n = walk_next g.K.KeyTrait.bytes w.strides.now.pairs c.canonical.ensures.ascending i.formed w.ahead
    (up_to w.rest.0 w.rest.1) (g.K.KeyTrait.bytes w.key) c.as_ref-2.result.now
    (g.K.KeyTrait.bytes c.truncate.result) w.code c.in-Some-next_before.at c.in-Some-next_before.code
    c.in-Some-next_before.target.now (g.met.K.KeyTrait.are_bytes w.key) i.is_code i.ahead c.as_ref-2.ensures
    c.truncate.ensures c.in-Some-next_before.ensures in
    record { formed = i.formed; is_code = n.0; ahead = n.2 }

pub returns-in-Some-next_before : goal.returns-in-Some-next_before
returns-in-Some-next_before g c =
    let w = c.self.inside in let i = c.self.invariant in
    let S = w.strides.now.pairs in let k = g.K.KeyTrait.bytes w.key in
    let given : w.given ≡ true = c.if-not-self.false in
    let n = walk_next g.K.KeyTrait.bytes S c.canonical.ensures.ascending i.formed w.ahead
    (up_to w.rest.0 w.rest.1) k c.as_ref-2.result.now
    (g.K.KeyTrait.bytes c.truncate.result) w.code c.in-Some-next_before.at c.in-Some-next_before.code
    c.in-Some-next_before.target.now (g.met.K.KeyTrait.are_bytes w.key) i.is_code i.ahead c.as_ref-2.ensures
    c.truncate.ensures c.in-Some-next_before.ensures in
    let same = c.truncate.ensures ∙ sym c.truncate-key.ensures in
    let d = c.in-Some-next_before.code in (
      n.0,
      sym (ap (λ z. z.0) c.self.view_is) ∙ ap (λ z. pairs_from (not z) (net_at k w.code) (routes_of S)) given ∙ n.1
          ∙ ap (λ z. (net_at z d, c.in-Some-next_before.target.now)
          ∷ pairs_from false (net_at (g.K.KeyTrait.bytes c.truncate.result) d) (routes_of S)) same
          ∙ ap (λ b. (net_at (g.K.KeyTrait.bytes c.truncate-key.result) d, c.in-Some-next_before.target.now)
          ∷ pairs_from (not b) (net_at (g.K.KeyTrait.bytes c.truncate.result) d) (routes_of S))
          (sym given),
    )

pub returns-in-Some-take : goal.returns-in-Some-take
returns-in-Some-take g c =
    let w = c.self.inside in let i = c.self.invariant in
    let S = w.strides.now.pairs in let k = g.K.KeyTrait.bytes w.key in
    let given : w.given ≡ true = c.if-not-self.false in
    let t = walk_entered g.K.KeyTrait.bytes S c.canonical.ensures.ascending i.formed w.ahead c.in-Some-take.key
    (up_to w.rest.0 w.rest.1) _ k c.as_ref-2.result.now w.code (g.met.K.KeyTrait.are_bytes w.key) i.is_code i.ahead
    c.as_ref-2.ensures (sym c.in-Some-take.ensures.value) c.next_key.ensures c.in_default-next_before.ensures in
    let left = ap (λ z. z.1) c.self.view_is in
    let fewer = t.2 in
    let more = ap (λ z. steps_left z (keys_ahead g.K.KeyTrait.bytes w.ahead (up_to w.rest.0 w.rest.1))) given in (
      t.0 ∙ ap (λ z. pairs_from (not z) (net_at k w.code) (routes_of S)) (sym given) ∙ ap (λ z. z.0) c.self.view_is,
      omega (arith, left, more, fewer),
    )

pub returns-then-not-self : goal.returns-then-not-self
returns-then-not-self g c =
    let w = c.self.inside in let i = c.self.invariant in
    let S = w.strides.now.pairs in let k = g.K.KeyTrait.bytes w.key in
    let new : w.given ≡ false = c.if-not-self.true in
    let key : g.K.KeyTrait.bytes c.new_from_slice.result ≡ k
    = c.new_from_slice.ensures ∙ c.as_ref-then-not-self.ensures in (
      i.is_code,
      sym (ap (λ z. z.0) c.self.view_is) ∙ ap (λ z. pairs_from (not z) (net_at k w.code) (routes_of S)) new
          ∙ itself S k w.code c.in-Some.target.now c.canonical.ensures.ascending i.formed
          (g.met.K.KeyTrait.are_bytes w.key) i.is_code
          (ap (λ z. lookup (w.code ∷ []) (stride_at z S)) (sym c.as_ref.ensures) ∙ sym c.in-Some.ensures)
          ∙ ap (λ z. (net_at z w.code, c.in-Some.target.now) ∷ pairs_from false (net_at k w.code) (routes_of S))
          (sym key),
    )

pub returns-in-None : goal.returns-in-None
returns-in-None g c =
    let w = c.self.inside in let i = c.self.invariant in
    let S = w.strides.now.pairs in let k = g.K.KeyTrait.bytes w.key in
    let given : w.given ≡ true = c.if-not-self.false in
    let none = ap (λ z. pairs_from (not z) (net_at k w.code) (routes_of S)) given
    ∙ walk_ended g.K.KeyTrait.bytes S c.canonical.ensures.ascending i.formed w.ahead (up_to w.rest.0 w.rest.1) k
    c.as_ref-2.result.now w.code (g.met.K.KeyTrait.are_bytes w.key) i.is_code i.ahead c.as_ref-2.ensures
    (sym c.in-None.ensures.value) c.in_default-next_before.ensures in
    (sym (ap (λ z. z.0) c.self.view_is) ∙ none, none)
