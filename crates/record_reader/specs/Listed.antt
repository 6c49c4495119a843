-- The fields of an instruction record as a list, lowest map bit first. Assumes nothing.
use Rattle.std.specs.Prelude.{◌≡◌, ℕ, List, [], ◌∷◌, Ok, Err, Result, MatchResult}
use Rattle.std.specs.Borrow.{Bor}
use Rattle.refusal.specs.declared.Fault.{Fault}
use Rattle.format.specs.declared.layout.Field.{Field}
use Rattle.record_reader.specs.declared.record.RecordFields.{RecordFields}

-- the seven fields in the order of the map's bits
abbrev pub listed : RecordFields → List Field
listed f = f.kind ∷ f.target ∷ f.first ∷ f.second ∷ f.number ∷ f.place ∷ f.channel ∷ []

-- r is the fields and the rest that are wanted, or the fault that is
abbrev pub Lists : Result (List Field × List ℕ) Fault → Result (RecordFields × Bor (List ℕ)) Fault → Type 0
Lists want r = MatchResult r (λ x. want ≡ Ok (listed x.0, x.1.now)) (λ f. want ≡ Err f)
