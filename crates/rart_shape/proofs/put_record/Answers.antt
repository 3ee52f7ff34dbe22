use Rattle.std.proofs.Common.{sym, ◌∙◌, ap, arith, length}
use Rattle.rart_shape.specs.ShapeRecords.{records_of, node_record}
use Rattle.rart_keys.specs.SortedMap.{put}
use Rattle.rart_shape.proofs.ShapeRecordLemmas.{after-more, put-before, put-at, put-end}
use Rattle.rart_shape.proofs.put_record.Goals as goal

pub returns-in-Less-clause-put : goal.returns-in-Less-clause-put
returns-in-Less-clause-put c =
    let o = rw (c.as_slice.ensures.value, c.as_slice-in-loop-i.ensures.value) at c.in-Less.ensures in
    ap records_of c.in-Ok.ensures.items ∙ put-before c.loop-i.i c.args.added c.loop-i.records.items c.index.result.now
    (let s = ap length c.loop-i.invariant.same in omega (arith, s)) c.index.ensures (sym o)
    c.loop-i.invariant.after
    ∙ ap (λ rs. put c.args.added.path.items (node_record c.args.added) (records_of rs)) c.loop-i.invariant.same

pub returns-in-Equal-clause-put : goal.returns-in-Equal-clause-put
returns-in-Equal-clause-put c =
    let o = rw (c.as_slice.ensures.value, c.as_slice-in-loop-i.ensures.value) at c.in-Equal.ensures in
    put-at c.loop-i.i c.args.added c.loop-i.records.items c.index.result.now (let s
    = ap length c.loop-i.invariant.same in omega (arith, s)) c.index.ensures (sym o) c.loop-i.invariant.after
    ∙ ap (λ rs. put c.args.added.path.items (node_record c.args.added) (records_of rs)) c.loop-i.invariant.same

pub loop-i-preserved : goal.loop-i-preserved
loop-i-preserved c =
    let o = rw (c.as_slice.ensures.value, c.as_slice-in-loop-i.ensures.value) at c.in-Greater.ensures in
    record {
      same = c.loop-i.invariant.same;
      after
          = after-more c.loop-i.i c.args.added.path.items c.loop-i.records.items c.index.result.now (let s
          = ap length c.loop-i.invariant.same in omega (arith, s)) c.index.ensures (sym o) c.loop-i.invariant.after;
    }

pub returns-clause-put : goal.returns-clause-put
returns-clause-put c =
    ap records_of c.in-Ok-push.ensures.items
    ∙ put-end c.loop-i.i c.args.added c.loop-i.records.items (let s = ap length c.loop-i.invariant.same in
    omega (arith, s)) c.loop-i.invariant.after
    ∙ ap (λ rs. put c.args.added.path.items (node_record c.args.added) (records_of rs)) c.loop-i.invariant.same
