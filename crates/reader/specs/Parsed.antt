-- Whole files. Assumes nothing.
use Rattle.std.specs.Prelude.{◌≡◌, Ok, Err, Result, MatchResult}
use Rattle.refusal.specs.declared.Fault.{Fault}
use Rattle.script.specs.declared.accepted.Script.{Script}
use Rattle.script.specs.Model.{Model, model_of}

-- r is a script that holds the model that is wanted, or the fault that is
abbrev pub Parses : Result Model Fault → Result Script Fault → Type 0
Parses want r = MatchResult r (λ s. want ≡ Ok (model_of s)) (λ f. want ≡ Err f)
