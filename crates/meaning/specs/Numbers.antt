-- The numbers of acts and statuses, and what they carry. Assumes nothing.
use Rattle.std.specs.Prelude.{ℕ, List, [], ◌∷◌, ℤ, pos, Some, None, Option}
use Rattle.meaning.specs.declared.answers.Act.{Act}
use Rattle.meaning.specs.declared.answers.Act.TheVariants.{Inner, Took, Reused, Defaulted, Wrote, Withheld}
use Rattle.meaning.specs.declared.answers.Status.{Status}
use Rattle.meaning.specs.declared.answers.Status.TheVariants.{Ready, LacksValue, LacksSpace, Ended}

-- the number of each act, as the table of docs/visits.md has it
abbrev pub act_number : Act → ℕ
act_number Inner = 0
act_number (Took k v) = 1
act_number (Reused k v) = 2
act_number (Defaulted k v) = 3
act_number (Wrote k v) = 4
act_number (Withheld k v) = 5

-- the channel and the value that an act carries: all but inner have both
abbrev pub carried : Act → Option (ℕ × ℤ)
carried Inner = None
carried (Took k v) = Some (k, v)
carried (Reused k v) = Some (k, v)
carried (Defaulted k v) = Some (k, v)
carried (Wrote k v) = Some (k, v)
carried (Withheld k v) = Some (k, v)

-- a channel and a value, if there are, as a list
abbrev pub both_of : Option (ℕ × ℤ) → List ℤ
both_of None = []
both_of (Some p) = pos p.0 ∷ p.1 ∷ []

-- the values that an act puts into an answer: channel and value, or none
abbrev pub act_values : Act → List ℤ
act_values a = both_of (carried a)

-- the number of each status, as the table of docs/visits.md has it
abbrev pub status_number : Status → ℕ
status_number Ready = 0
status_number (LacksValue k) = 1
status_number (LacksSpace k) = 2
status_number Ended = 3

-- the channel that lacks a value or space, or 0 where none does
abbrev pub channel_lacked : Status → ℕ
channel_lacked Ready = 0
channel_lacked (LacksValue k) = k
channel_lacked (LacksSpace k) = k
channel_lacked Ended = 0
