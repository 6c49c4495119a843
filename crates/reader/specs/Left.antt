-- What is left of a file once a part is read. Assumes nothing.
use Rattle.std.specs.Prelude.{◌≡◌, ℕ, List, Ok, Err, Result, MatchResult}
use Rattle.refusal.specs.declared.Fault.{Fault}
use Rattle.reader.specs.declared.unread.Unread.{Unread}

-- r is the value that is wanted, and what is left of the file of that length; or the fault that is wanted
abbrev pub Gives : {X : Type 0} → ℕ → Result (X × List ℕ) Fault → Result (X × Unread) Fault → Type 0
Gives end want r = MatchResult r (λ x. (x.1.end ≡ end) × (want ≡ Ok (x.0, x.1.bytes.now))) (λ f. want ≡ Err f)
