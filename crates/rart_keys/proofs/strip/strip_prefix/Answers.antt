use Rattle.std.proofs.Common.{arith, ap, Some, ◌∙◌, length}
use Rattle.std.proofs.lemmas.List.{take_rest}
use Rattle.rart_keys.proofs.strings.SharedBeginnings.{begun-no-longer, strip-begun, strip-not-begun}
use Rattle.rart_keys.proofs.strip.strip_prefix.Goals as goal
use Rattle.rart_keys.proofs.strip.strip_prefix.Goals.{then-prefix-key-via-then-prefix-key}
use Rattle.rart_keys.proofs.strip.strip_prefix.Goals.{then-prefix-key-via-else-prefix-key+then-not-begins}

pub returns-then-prefix-key : goal.returns-then-prefix-key
returns-then-prefix-key c = strip-not-begun c.args.prefix.now c.args.key.now (λ h. elim c.then-prefix-key.branch [
  | then-prefix-key-via-then-prefix-key w ↦ (let l = begun-no-longer _ _ h in
      absurd (let k = w.if-prefix-key.true in omega (arith, l, k)))
  | then-prefix-key-via-else-prefix-key+then-not-begins w ↦ absurd (let t = w.begins.ensures.1 h in let f
      = w.if-not-begins.true in cc)
])

pub returns : goal.returns
returns c = ap Some (take_rest c.args.key.now (length c.args.prefix.now))
    ∙ strip-begun c.args.prefix.now c.args.key.now (c.begins.ensures.0 c.if-not-begins.false)
