use Rattle.std.proofs.Common.{rules, ◌∙◌, ℕ, Bool, List, Bor, arith, refl, subst, sym}
use Rattle.std.proofs.lemmas.Iterator.Consumers.{YieldsList-end, YieldsList-so_far, YieldsList-turn}
use Rattle.rart_keys.specs.declared.keys.array_key.ArrayKey.{ArrayKey}
use Rattle.rart_keys.specs.ArrayKeyBytes.{array_key_bytes}
use Rattle.rart_c.specs.Batches.{IsBatch}
use Rattle.rart_c.specs.Pairs128.{pair_in}
use Rattle.rart_c.proofs.Batches.{batch-full, batch-whole, filled-more, filled-none}
use Rattle.rart_c.proofs.map128.pairs.write_batch.Goals as goal
use Rattle.rart_c.proofs.map128.pairs.write_batch.Goals.{in-None, in-Some+then-number-out}

pub loop-key-init : goal.loop-key-init
loop-key-init g c = record {
  can = search rules;
  finite = search rules;
  filled = filled-none pair_in (λ p. (array_key_bytes p.0, p.1.now)) c.args.out.now;
  not_full = refl;
}

-- the buffer has room where it isn't full
below : goal.bounds-out-number
below g c = omega (arith, c.loop-key.invariant.filled.fits, c.if-number-out.false)

pub bounds-out-number : goal.bounds-out-number
bounds-out-number g c = below g c

pub loop-key-preserved : goal.loop-key-preserved
loop-key-preserved g c = record {
  can = search rules;
  finite = search rules;
  filled = filled-more pair_in (λ p. (array_key_bytes p.0, p.1.now)) c.args.out.now c.loop-key.out c.loop-key.number
      c.loop-key.yielded c.pair_of.result (c.in-Some.key, c.in-Some.value) c.pair_of.ensures (below g c)
      c.loop-key.invariant.filled;
  not_full = c.loop-key.invariant.not_full;
}

pub returns : goal.returns
returns g c all yields =
    let show : ArrayKey 128 × Bor ℕ → List ℕ × ℕ = λ p. (array_key_bytes p.0, p.1.now) in
    let start = c.into_iter-key-iterator.ensures.into_iter_gives in
    let filled = c.loop-key.invariant.filled in
    let is_batch : Bool → Type 0 = λ more. IsBatch pair_in all c.args.out.now c.loop-key.out c.loop-key.number more in
    elim c.match-next.branch [
      | in-None w ↦
          let end = YieldsList-end {steps = g.I.Iterator.next_gives} {v = show} {s = c.into_iter-key-iterator.result}
          {all = all}
          (record { runs = rw (← start) at yields }) c.loop-key.yielded _ c.loop-key.yielded_by _ c.next.new.self
          w.in-None.is c.next.ensures.steps in
          subst is_batch (sym (w.is_full-is ∙ c.loop-key.invariant.not_full))
          (batch-whole pair_in show c.args.out.now c.loop-key.out c.loop-key.number c.loop-key.yielded all filled end.0)
      | in-Some+then-number-out w ↦
          let so_far = YieldsList-so_far {steps = g.I.Iterator.next_gives} {v = show}
          {s = c.into_iter-key-iterator.result} {all = all}
          (record { runs = rw (← start) at yields }) c.loop-key.yielded _ c.loop-key.yielded_by in
          let turn = YieldsList-turn {steps = g.I.Iterator.next_gives} {v = show} {s = c.into_iter-key-iterator.result}
          {all = all}
          (record { runs = rw (← start) at yields }) c.loop-key.yielded _ c.loop-key.yielded_by _ c.next.new.self
          (w.in-Some.key, w.in-Some.value) w.in-Some.is c.next.ensures.steps in
          subst is_batch (sym w.is_full-is)
          (batch-full pair_in show c.args.out.now c.loop-key.out c.loop-key.number c.loop-key.yielded all filled
          w.if-number-out.true so_far turn.0)
    ]
