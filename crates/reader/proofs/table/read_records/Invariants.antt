use Rattle.std.proofs.Common.{length}
use Rattle.reader.proofs.Many.{Sofar}
use Rattle.reader.proofs.table.read_records.Given as goal

abbrev pub invariant-loop-i : goal.invariant-loop-i
invariant-loop-i g l = Sofar (g.R.ReadRecord.one l.reader) (length l.initial.table) l.unread.end l.unread.bytes.now l.i l.table l.rest
