use Rattle.std.proofs.Common.{take}
use Rattle.std.specs.List.{flat_map}
use Rattle.record_writer.proofs.Puts.{Sofar}
use Rattle.writer.proofs.file.put_records.Given as goal

abbrev pub invariant-loop-record : goal.invariant-loop-record
invariant-loop-record g l = Sofar l.initial.end (flat_map g.R.FileRecord.encoded (take l.record-index l.records)) l.initial.out l.end l.out
