-- What a record's bytes are. Assumes nothing.
use Rattle.std.specs.Prelude.{ℕ, List, take}
use Rattle.record_writer.specs.declared.buffer.RecordBytes.{RecordBytes}

-- the bytes of the record that is held: the front of the array, up to the record's length
abbrev pub held : RecordBytes → List ℕ
held r = take r.len r.bytes
