-- How an answer of the code fits what it should be. Assumes nothing.
use Rattle.std.specs.Prelude.{◌≡◌, ◌⊎◌, Ok, Err, Result}
use Rattle.text.specs.declared.error.LineError.{LineError}
use Rattle.text.specs.declared.error.LineError.TheVariants.{Memory}

-- r is the answer s, seen through view, unless memory failed
abbrev pub Gives : {X Y : Type 0} → (X → Y) → Result Y LineError → Result X LineError → Type 0
Gives view s (Ok x) = s ≡ Ok (view x)
Gives view s (Err e) = (e ≡ Memory) ⊎ (s ≡ Err e)

-- what f makes of an answer, where it is no error
abbrev pub then : {X Y : Type 0} → Result X LineError → (X → Result Y LineError) → Result Y LineError
then (Ok x) f = f x
then (Err e) f = Err e
