use Rattle.std.proofs.Common.{◌∙◌, Some, codes}
use Rattle.rart_keys.specs.ByteTexts.{key_text}
use Rattle.rart_nodes.specs.walks.Outlines.{indent, kind_text, value_text}
use Rattle.rart_nodes.proofs.walks.OutlineLemmas.{ends-front, shows-ok, Ends}
use Rattle.std.specs.Option.{option_copied}
use Rattle.rart_nodes.proofs.node.outline.write_line.Goals as goal

pub returns : goal.returns
returns g c =
    let took = g.W.Write.write_str_gives in
    let value = value_text g.V.Display.output (option_copied c.value.result) in
    let f1 = c.write_indent.new.f in
    let f2 = c.write_kind.new.f in
    let f3 = c.write_str.new.self in
    let f4 = c.write_bytes.new.f in
    let f5 = c.write_str-2.new.self in
    let f6 = c.write_value.new.f in
    let line = Some (codes "\n") in
    let last : Ends took f6 c.write_str-3.result line c.write_str-3.new.self
    = record { ended = c.write_str-3.ensures.writes } in
    rw (← c.capacity.ensures, ← (c.to_slice.ensures ∙ c.prefix.ensures), ← c.value.ensures)
    (ends-front took _ _ _ _ _ _
    (shows-ok took c.args.f.now f1 c.in_ok-write_indent.field-0
    (Some (indent c.args.level)) c.in_ok-write_indent.ensures)
    (ends-front took _ _ _ _ _ _
    (shows-ok took f1 f2 c.in_ok-write_kind.field-0 (Some (kind_text c.capacity.result)) c.in_ok-write_kind.ensures)
    (ends-front took _ _ _ _ _ _
    (shows-ok took f2 f3 c.in_ok-write_str.field-0 (Some (codes " \"")) c.in_ok-write_str.ensures.writes)
    (ends-front took _ _ _ _ _ _
    (shows-ok took f3 f4 c.in_ok-write_bytes.field-0
    (Some (key_text c.to_slice.result.now)) c.in_ok-write_bytes.ensures)
    (ends-front took _ _ _ _ _ _
    (shows-ok took f4 f5 c.in_ok-write_str-2.field-0 (Some (codes "\"")) c.in_ok-write_str-2.ensures.writes)
    (ends-front took _ _ _ _ _ _
    (shows-ok took f5 f6 c.in_ok-write_value.field-0 value c.in_ok-write_value.ensures) last)))))).ended
