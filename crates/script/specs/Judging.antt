-- What is answered about a channel by which values are to go one way. Assumes nothing.
use Rattle.std.specs.Prelude.{ℕ, Bool, cond, not, List, get_or, Ok, Err, Result, nat_lt}
use Rattle.refusal.specs.declared.Refusal.{Refusal}
use Rattle.refusal.specs.declared.Refusal.TheVariants as why
use Rattle.script.specs.declared.parts.Direction.{Direction}
use Rattle.script.specs.declared.parts.Direction.TheVariants.{In, Out}
use Rattle.script.specs.declared.parts.Channel.{Channel}
use Rattle.script.specs.Laws.{blank, same}

-- is a channel of that direction, where it is known whether it is out
abbrev pub goes : Direction → Bool → Bool
goes In out = not out
goes Out out = out

-- CHANNEL where k is not one of the first c channels, else DIRECTION where channel k is of the other direction, else
-- nothing to say
abbrev pub judging : Direction → List Channel → ℕ → ℕ → Result (Unit {0}) Refusal
judging d cs c k =
    cond (nat_lt k c) (cond (goes d (same Out (get_or cs k blank).direction)) (Ok tt) (Err why.Direction)) (Err why.Channel)
