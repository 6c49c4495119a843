-- What the entries hold that a maker lent to the strip of a visit. Assumes nothing.
use Rattle.std.specs.Prelude.{ℕ, ◌+◌, ◌-◌, List, [], ◌∷◌, ◌++◌, length, take, drop, Some, None, Ok, Err, Option, Result}
use Rattle.engine.specs.declared.visit.Visit.{Visit}
use Rattle.meaning.specs.declared.answers.Act.{Act}
use Rattle.meaning.specs.declared.answers.Act.TheVariants.{Inner, Took, Reused, Defaulted, Wrote, Withheld}
use Rattle.meaning.specs.declared.answers.Moved.{Moved}
use Rattle.refusal.specs.declared.Refusal.{Refusal}
use Rattle.strip.specs.Entries.{entries_put, entries_taken}
use Rattle.strip.specs.Stripped.{lent}
use Rattle.strip.specs.declared.entry.Entry.{Entry}
use Rattle.strip.specs.declared.strips.StripHost.{StripHost}

-- all that was lent, and how many of the first of them are in use
abbrev pub entries_of : {R : Type 0} → Visit R StripHost → List Entry
entries_of v = lent v.host

-- how many of the entries are in use, the first of them
abbrev pub used_by : {R : Type 0} → Visit R StripHost → ℕ
used_by v = v.host.len

-- behind the first n stand these, in order, in place of as many others; all else is as before
abbrev pub with_row : ℕ → List Entry → List Entry → List Entry
with_row n es before = take n before ++ es ++ drop (n + length es) before

-- An act, where the first n are in use. One that took: the oldest entry of the channel is gone, those in use after it stand
-- one further in front, and the last that was in use stands behind them as it was. One that wrote: its value stands
-- behind those in use. Any other: all as before.
abbrev pub after_act : ℕ → List Entry → Act → List Entry
after_act n before Inner = before
after_act n before (Took c v) = entries_taken n c before
after_act n before (Reused c v) = before
after_act n before (Defaulted c v) = before
after_act n before (Wrote c v) = entries_put n c v before
after_act n before (Withheld c v) = before

-- the same by what a turn answered
abbrev pub after_turn : ℕ → List Entry → Result (Option Moved) Refusal → List Entry
after_turn n before (Ok None) = before
after_turn n before (Ok (Some m)) = after_act n before m.act
after_turn n before (Err e) = before

-- how many are then in use
abbrev pub used_after_act : ℕ → Act → ℕ
used_after_act n Inner = n
used_after_act n (Took c v) = n - 1
used_after_act n (Reused c v) = n
used_after_act n (Defaulted c v) = n
used_after_act n (Wrote c v) = n + 1
used_after_act n (Withheld c v) = n

-- how many entries are in use after what a turn answered, where n were
abbrev pub used_after_turn : ℕ → Result (Option Moved) Refusal → ℕ
used_after_turn n (Ok None) = n
used_after_turn n (Ok (Some m)) = used_after_act n m.act
used_after_turn n (Err e) = n

-- as much of a list as there is room for, in front of what is left of another
abbrev pub copied : List Entry → List Entry → List Entry
copied from to = take (length to) from ++ drop (length from) to
