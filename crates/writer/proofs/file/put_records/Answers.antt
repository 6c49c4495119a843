use Rattle.std.proofs.Common.{ℕ, ◌+◌, ◌≤◌, length, arith}
use Rattle.writer.proofs.Puts.{one_more}
use Rattle.writer.proofs.file.put_records.Goals as goal

pub loop-record-preserved : goal.loop-record-preserved
loop-record-preserved g c =
    let enc = g.R.FileRecord.encoded in
    let front : c.args.at ≤ length c.args.out.now = omega (arith, c.requires) in
    one_more enc c.args.records.now c.args.at c.args.out.now c.loop-record.end c.loop-record.out c.put_record-end.result c.put_record-end.new.out c.loop-record.record-index c.record-item.result front c.loop-record-test.true c.record-item.is c.loop-record.invariant
    c.put_record-end.ensures.end c.put_record-end.ensures.holds
