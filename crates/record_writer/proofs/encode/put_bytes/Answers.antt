use Rattle.std.proofs.Common.{rules, ◌≤◌, ◌<◌, length}
use Rattle.record_writer.proofs.Puts.{bytes_written}
use Rattle.record_writer.proofs.encode.put_bytes.Goals as goal

pub returns-clause-holds : goal.returns-clause-holds
returns-clause-holds c =
    let front : c.args.at ≤ length c.args.room.now = search rules in
    let low : c.args.first < 256 = search rules in
    let high : c.args.second < 256 = search rules in
    bytes_written c.args.at c.args.first c.args.second c.args.room.now c.put_field-at.result c.put_field-at.new.room c.put_field.new.room c.put_field.ensures.holds c.put_field-at.ensures.end c.put_field-at.ensures.holds front low high
