-- What a plain run holds, and what its calls answer. Assumes nothing.
use Rattle.std.specs.Prelude.{ℕ, Bool, false, List, [], map, ℤ, Some, None, Option, Result, is_some, nat_lt, slice_index_or}
use Rattle.std.specs.Result.{result_and}
use Rattle.refusal.specs.declared.Refusal.{Refusal}
use Rattle.script.specs.Judging.{judging}
use Rattle.script.specs.declared.parts.Direction.TheVariants.{In}
use Rattle.copies.specs.Held.{copy_of, tape_of}
use Rattle.copies.specs.declared.replica.Replica.{Replica}
use Rattle.copies.specs.declared.tapes.Tape.{Tape}
use Rattle.host.specs.Channels.{push_answer}
use Rattle.meaning.specs.Copies.{InputValue, Plain, default, missing, nth, plain_input, value}
use Rattle.meaning.specs.Programs.{Program}
use Rattle.preview.specs.declared.plain_run.PlainRun.{PlainRun}

-- the values that a channel is given, by its list if it has one
abbrev pub list_in : Option Tape → List ℤ
list_in (Some t) = tape_of t
list_in None = []

-- is channel k given a list, in the table of all channels; past the table it is not
abbrev pub given_in : List (Option Tape) → ℕ → Bool
given_in ls k = slice_index_or (map is_some ls) k false

-- the values that channel k is given, in that table
abbrev pub lists_in : List (Option Tape) → ℕ → List ℤ
lists_in ls k = slice_index_or (map list_in ls) k []

-- whether channel k is given a list
abbrev pub given_of : PlainRun → ℕ → Bool
given_of p = given_in p.lists

-- the list of each channel
abbrev pub lists_of : PlainRun → ℕ → List ℤ
lists_of p = lists_in p.lists

-- a copy that runs, with these values written before
abbrev pub plain_of : Replica → (ℕ → List ℤ) → Plain
plain_of r w = record { copy = copy_of r; written = w }

-- what an in from a channel with that list gives a copy at position n of it
abbrev pub input_at : Option Tape → ℕ → InputValue
input_at l n = plain_input (is_some l) (nat_lt n 64) (nth (list_in l) n)

-- what an in gives, by what it is offered: 0 where it is offered nothing, else the next value, or nothing yet
abbrev pub input_of : Option (Option ℤ) → InputValue
input_of None = default
input_of (Some (Some v)) = value v
input_of (Some None) = missing

-- what a give answers: CHANNEL, then DIRECTION, or that channel k is an in channel of the script
abbrev pub give_answer : Program → ℕ → Result (Unit {0}) Refusal
give_answer sc k = judging In sc.channels sc.channel_count k

-- what an add answers: the same, and then FULL where the channel's list has 64 values
abbrev pub add_answer : Program → (ℕ → List ℤ) → ℕ → Result (Unit {0}) Refusal
add_answer sc list k = result_and (give_answer sc k) (push_answer 64 (list k))
