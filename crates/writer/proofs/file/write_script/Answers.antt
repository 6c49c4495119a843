use Rattle.std.proofs.Common.{◌≡◌, ◌≤◌, [], ◌∷◌, ◌++◌, length, ◌∙◌, subst, arith, rules}
use Rattle.std.specs.List.{flat_map}
use Rattle.format.specs.Numbers.{bytes_of}
use Rattle.format.specs.Encoding.{encode, encode_channel, encode_instruction}
use Rattle.record_writer.proofs.Puts.{Sofar, sofar_more}
use Rattle.writer.proofs.Stages.{pieces, from_front}
use Rattle.writer.proofs.file.write_script.Goals as goal

pub returns : goal.returns
returns c =
    let s = c.args.script.now in
    let old = c.args.out.now in
    let cs = c.channels.result.now in
    let is = c.instructions.result.now in
    let channels = flat_map encode_channel cs in
    let instructions = flat_map encode_instruction is in
    let head = s.levels ∷ s.channel_count ∷ [] in
    let count : c.to_le_bytes.result ≡ bytes_of 2 s.instruction_count = search rules in
    let none : 0 ≤ length old = omega arith in
    let one : Sofar 0 head old c.put-at.result c.put-at.new.out = (c.put-at.ensures.end, c.put-at.ensures.holds) in
    let two = sofar_more 0 head old _ _ channels _ _ none one c.put_records-at.ensures.end c.put_records-at.ensures.holds in
    let three = sofar_more 0 (head ++ channels) old _ _ c.to_le_bytes.result _ _ none two c.put-at-2.ensures.end c.put-at-2.ensures.holds in
    let four = sofar_more 0 ((head ++ channels) ++ c.to_le_bytes.result) old _ _ instructions _ _ none three c.put_records.ensures.end c.put_records.ensures.holds in
    let whole = pieces s cs is c.channels.ensures c.instructions.ensures c.to_le_bytes.result count in
    let all : Sofar 0 (encode s) old c.put_records.result c.put_records.new.out = subst (λ l. Sofar 0 l old c.put_records.result c.put_records.new.out) whole four in
    (omega (arith, all.0), omega (arith, c.encoded_length.ensures, c.if-out-encoded_length.false), all.1 ∙ from_front (encode s) old)
