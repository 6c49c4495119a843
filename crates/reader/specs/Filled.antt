-- Tables that records are read into. Assumes nothing.
use Rattle.std.specs.Prelude.{◌≡◌, ℕ, List, Ok, Err, Result, MatchResult}
use Rattle.refusal.specs.declared.Fault.{Fault}
use Rattle.reader.specs.declared.unread.Unread.{Unread}

-- the table holds the records that are wanted, and r is what is left of the file of length end; or r is the fault that
-- is wanted
abbrev pub Fills : {X : Type 0} → ℕ → Result (List X × List ℕ) Fault → List X → Result Unread Fault → Type 0
Fills end want table r = MatchResult r (λ rest. (rest.end ≡ end) × (want ≡ Ok (table, rest.bytes.now))) (λ f. want ≡ Err f)
