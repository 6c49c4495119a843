-- What an in gives, by where its value comes from. Assumes nothing.
use Rattle.std.specs.Prelude.{ℤ, Some, None, Option}
use Rattle.meaning.specs.Visits.{Got, default, again, fresh, waits}
use Rattle.copies.specs.declared.rules.Source.{Source}
use Rattle.copies.specs.declared.rules.Source.TheVariants.{Default, Tape, Host, Owner}

-- what an in gives by the source of its value, where that is the oldest value that the host has on the channel
abbrev pub given : Source → Option ℤ → Got
given Default oldest = default
given (Tape v) oldest = again v
given Host (Some v) = fresh v
given Host None = waits
given Owner oldest = waits
