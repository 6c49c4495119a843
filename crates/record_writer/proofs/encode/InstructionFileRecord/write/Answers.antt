use Rattle.std.proofs.Common.{rules, ◌≡◌, ◌≤◌, not, ◌==◌, [], ◌∷◌, ◌++◌, length, ap, ◌∙◌, append_assoc, append-nil, of_z}
use Rattle.std.specs.Int.{w32}
use Rattle.script.specs.declared.parts.Fields.{Fields}
use Rattle.format.specs.Encoding.{field_of, field_values, instruction_widths, map_of, record_of}
use Rattle.record_writer.specs.Written.{written}
use Rattle.record_writer.proofs.Puts.{sofar_more, sofar_none, sofar_field, written_more}
use Rattle.record_writer.proofs.encode.InstructionFileRecord.write.Goals as goal

pub returns-clause-holds : goal.returns-clause-holds
returns-clause-holds c =
    let f = c.fields-f.result in
    let old = c.args.room.now in
    let front : 0 ≤ length old = search rules in
    let map = map_of (field_values f) ∷ [] in
    let low = field_of 1 f.kind ++ field_of 1 f.target in
    let high = field_of 1 f.first ++ field_of 1 f.second in
    let registers = low ++ high in
    let number = field_of 4 (of_z w32 f.number) in
    let place = field_of 2 f.place in
    let channel = field_of 1 f.channel in
    let zero = sofar_more 0 [] old 0 old map c.put-at.result c.put-at.new.room front (sofar_none 0 old) (search rules) (search rules) in
    let within : c.put-at.result ≤ length c.put-at.new.room = search rules in
    let one = sofar_more 0 map old _ _ registers c.put_registers-at.result c.put_registers-at.new.room front zero (search rules) (c.put_registers-at.ensures.holds ∙ written_more c.put-at.result low high c.put-at.new.room within) in
    let two = sofar_field 0 (map ++ registers) old _ _ 4 (of_z w32 f.number) (not (of_z w32 f.number == 0)) c.to_le_bytes.result _ _ front one c.put_field-at.ensures.end c.put_field-at.ensures.holds (search rules) (search rules) in
    let three = sofar_field 0 ((map ++ registers) ++ number) old _ _ 2 f.place (not (f.place == 0)) c.to_le_bytes-2.result _ _ front two c.put_field-at-2.ensures.end c.put_field-at-2.ensures.holds (search rules) (search rules) in
    let four = sofar_field 0 (((map ++ registers) ++ number) ++ place) old _ _ 1 f.channel (not (f.channel == 0)) (f.channel ∷ []) _ _ front three c.put_field.ensures.end c.put_field.ensures.holds (search rules) (search rules) in
    let whole : (((map ++ registers) ++ number) ++ place) ++ channel ≡ record_of instruction_widths (field_values f) = simp (append_assoc, append-nil) in
    λ _. four.1 ∙ ap (λ l. written 0 l old) whole ∙ ap (λ (h : Fields). written 0 (record_of instruction_widths (field_values h)) old) c.fields-f.ensures
