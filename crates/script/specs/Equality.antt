-- Equality that is equality of values. Assumes nothing.
use Rattle.std.specs.Prelude.{◌≡◌, Bool, Decides}

-- eq holds exactly where two are one value
abbrev pub TellsApart : {X : Type 0} → (X → X → Bool) → Type 0
TellsApart {X} eq = (a b : X) → Decides (eq a b) (a ≡ b)
