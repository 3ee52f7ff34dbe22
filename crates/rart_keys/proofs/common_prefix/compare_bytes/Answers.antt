use Rattle.std.proofs.Common.{◌∙◌, arith}
use Rattle.rart_keys.proofs.strings.ByteComparisons.{compared-at, compared-ended}
use Rattle.rart_keys.proofs.common_prefix.compare_bytes.Goals as goal
use Rattle.rart_keys.proofs.common_prefix.compare_bytes.Goals.{else-shared-left-via-then-shared-left+else-shared-right}
use Rattle.rart_keys.proofs.common_prefix.compare_bytes.Goals.{else-shared-left-via-else-shared-left}

pub returns-then-shared-right : goal.returns-then-shared-right
returns-then-shared-right c = c.cmp.ensures
    ∙ compared-at _ _ _ c.common_prefix_length-shared.ensures.value c.if-shared-left.true c.if-shared-right.true

pub returns : goal.returns
returns c = c.cmp-2.ensures ∙ compared-ended c.args.left.now c.args.right.now c.common_prefix_length-shared.result
    c.common_prefix_length-shared.ensures.value (elim c.else-shared-left.branch [
      | else-shared-left-via-then-shared-left+else-shared-right w ↦ λ h k. omega (arith, k, w.if-shared-right.false)
      | else-shared-left-via-else-shared-left w ↦ λ h k. omega (arith, h, w.if-shared-left.false)
    ])
