-- Reading the next field of a record. Assumes nothing.
use Rattle.std.specs.Prelude.{◌≡◌, ℕ, List, Ok, Err, Result, MatchResult}
use Rattle.refusal.specs.declared.Fault.{Fault}
use Rattle.format.specs.declared.layout.Field.{Field}
use Rattle.record_reader.specs.declared.cursor.Cursor.{Cursor}

-- r is the field and the rest that are wanted, or the fault that is
abbrev pub Steps : Result (Field × List ℕ) Fault → Result (Field × Cursor) Fault → Type 0
Steps want r = MatchResult r (λ x. want ≡ Ok (x.0, x.1.bytes.now)) (λ f. want ≡ Err f)
