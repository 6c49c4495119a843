-- What a writer answers and leaves. Assumes nothing.
use Rattle.std.specs.Prelude.{◌≡◌, ℕ, ◌<◌, ◌≤◌, List, ◌++◌, length, drop, Result, MatchResult}
use Rattle.refusal.specs.declared.Refusal.{Refusal}
use Rattle.refusal.specs.declared.Refusal.TheVariants as why
use Rattle.script.specs.declared.accepted.Script.{Script}
use Rattle.format.specs.Encoding.{encode}

-- the file fits, its length is answered, it stands at the front, and what follows it is as it was; or it does not fit,
-- and all is as it was
abbrev pub Writes : Script → List ℕ → List ℕ → Result ℕ Refusal → Type 0
Writes s old new r =
    let size = length (encode s) in
    MatchResult r
    (λ n. (n ≡ size) × (size ≤ length old) × (new ≡ encode s ++ drop size old))
    (λ f. (f ≡ why.Buffer) × (length old < size) × (new ≡ old))
