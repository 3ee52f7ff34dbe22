use Rattle.std.proofs.Common.{◌≡◌, ◌<◌, ◌-◌, ◌^◌, ap, ◌∙◌, subst, Some, option_map, false, [], ◌∷◌, rules}
use Rattle.std.proofs.lemmas.Fmt.{hex_byte}
use Rattle.std.specs.Fmt.{DisplaysOnOk, ◌++?◌, format_spec, padded_integral, styled_digits_output}
use Rattle.rart_keys.specs.ByteTexts.{is_plain}
use Rattle.rart_keys.proofs.texts.write_byte.Goals as goal

pub returns-else-is_plain : goal.returns-else-is_plain
returns-else-is_plain g c =
    let byte = c.args.byte in
    let small : byte < 256 = search rules in
    let escaped : is_plain byte ≡ false = search rules in
    let spec = format_spec 32 0 4 2 (2 ^ 64 - 1) in
    let hex = ap (styled_digits_output c.in_radix.result) {y = spec} c.laid_out.ensures
    ∙ ap (option_map (padded_integral spec false [])) c.in_radix.ensures ∙ ap Some (hex_byte false byte small) in
    rw escaped (subst (λ o. DisplaysOnOk g.W.Write.write_str_gives c.args.f.now c.write.result
    (Some (92 ∷ 120 ∷ []) ++? o) c.write.new.self) hex c.write.ensures.writes)
