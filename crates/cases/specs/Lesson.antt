-- The file F, what it holds, and the run that the rules show with it, each written out. Assumes nothing.
use Rattle.std.specs.Prelude.{ℕ, List, [], ◌∷◌, ◌++◌, map, take, replicate, ℤ, pos, None, Option}
use Rattle.script.specs.declared.parts.Channel.{Channel}
use Rattle.script.specs.declared.parts.Direction.{Direction}
use Rattle.script.specs.declared.parts.Direction.TheVariants.{In, Out}
use Rattle.script.specs.declared.parts.Instruction.TheVariants.{Input, Output}
use Rattle.script.specs.Model.{Model}
use Rattle.meaning.specs.Answers.{Call, feed, turn, Answer, fed, turned, moved_at}
use Rattle.meaning.specs.Logs.{Log}
use Rattle.meaning.specs.declared.answers.Act.TheVariants.{Took, Reused, Defaulted, Wrote, Withheld}
use Rattle.meaning.specs.declared.answers.Moved.{Moved}

-- the file F: head, four channel records, count, four instruction records
-- 02 04 | 00 | 02 01 | 01 01 | 03 01 01 | 04 00 | 43 0A 01 01 | 45 0B 01 02 | 03 0A 02 | 45 0B 02 03
abbrev pub file_f : List ℕ
file_f =
    2 ∷ 4
    ∷ 0
    ∷ 2 ∷ 1
    ∷ 1 ∷ 1
    ∷ 3 ∷ 1 ∷ 1
    ∷ 4 ∷ 0
    ∷ 67 ∷ 10 ∷ 1 ∷ 1
    ∷ 69 ∷ 11 ∷ 1 ∷ 2
    ∷ 3 ∷ 10 ∷ 2
    ∷ 69 ∷ 11 ∷ 2 ∷ 3
    ∷ []

-- a channel of that direction and level
abbrev pub channel : Direction → ℕ → Channel
channel d l = record { direction = d; level = l }

-- what F holds: channels 0 and 1 are in and 2 and 3 are out, each pair of levels 0 and 1; in from 1 to register 1, out of
-- register 1 to 2, in from 0 to register 2, out of register 2 to 3
abbrev pub lesson : Model
lesson = record {
  levels = 2;
  channels = channel In 0 ∷ channel In 1 ∷ channel Out 0 ∷ channel Out 1 ∷ [];
  instructions = Input 1 1 ∷ Output 1 2 ∷ Input 2 0 ∷ Output 2 3 ∷ [];
}

-- nine turns
abbrev pub nine_turns : List Call
nine_turns = turn ∷ turn ∷ turn ∷ turn ∷ turn ∷ turn ∷ turn ∷ turn ∷ turn ∷ []

-- v is fed to channel 1 and 5 to channel 0, and there are nine turns
abbrev pub calls_with : ℤ → List Call
calls_with v = feed 1 v ∷ feed 0 (pos 5) ∷ nine_turns

-- the calls of the lesson: the value is 7
abbrev pub lesson_calls : List Call
lesson_calls = calls_with (pos 7)

-- what the nine turns answer: copy 0 hears nothing of channel 1 and ends first, then copy 1 goes
abbrev pub lesson_turns : List (Option Moved)
lesson_turns =
    moved_at 0 (Defaulted 1 (pos 0))
    ∷ moved_at 0 (Wrote 2 (pos 0))
    ∷ moved_at 0 (Took 0 (pos 5))
    ∷ moved_at 0 (Withheld 3 (pos 5))
    ∷ moved_at 1 (Took 1 (pos 7))
    ∷ moved_at 1 (Withheld 2 (pos 7))
    ∷ moved_at 1 (Reused 0 (pos 5))
    ∷ moved_at 1 (Wrote 3 (pos 5))
    ∷ None
    ∷ []

-- the whole log with turns like these: both values are taken in, and then the turns
abbrev pub log_with : List (Option Moved) → Log
log_with ts = (feed 1 (pos 7), fed) ∷ (feed 0 (pos 5), fed) ∷ map (λ t. (turn, turned t)) ts

-- where each level moves at its own place only, the copies move in turn, with the same acts
abbrev pub turns_about : List (Option Moved)
turns_about =
    moved_at 0 (Defaulted 1 (pos 0))
    ∷ moved_at 1 (Took 1 (pos 7))
    ∷ moved_at 0 (Wrote 2 (pos 0))
    ∷ moved_at 1 (Withheld 2 (pos 7))
    ∷ moved_at 0 (Took 0 (pos 5))
    ∷ moved_at 1 (Reused 0 (pos 5))
    ∷ moved_at 0 (Withheld 3 (pos 5))
    ∷ moved_at 1 (Wrote 3 (pos 5))
    ∷ None
    ∷ []

-- what level 0 sees of it: the feed to its own channel, the moves of its own copy, and five times nobody
abbrev pub low_sees : List Answer
low_sees = fed ∷ (map turned (take 4 lesson_turns) ++ replicate 5 (turned None))

-- the answers of the lesson in numbers: 3 for fed, 1 for a move with its level, the act's number, channel and value, 0
-- for nobody
abbrev pub lesson_numbers : List (List ℤ)
lesson_numbers =
    (pos 3 ∷ [])
    ∷ (pos 3 ∷ [])
    ∷ (pos 1 ∷ pos 0 ∷ pos 3 ∷ pos 1 ∷ pos 0 ∷ [])
    ∷ (pos 1 ∷ pos 0 ∷ pos 4 ∷ pos 2 ∷ pos 0 ∷ [])
    ∷ (pos 1 ∷ pos 0 ∷ pos 1 ∷ pos 0 ∷ pos 5 ∷ [])
    ∷ (pos 1 ∷ pos 0 ∷ pos 5 ∷ pos 3 ∷ pos 5 ∷ [])
    ∷ (pos 1 ∷ pos 1 ∷ pos 1 ∷ pos 1 ∷ pos 7 ∷ [])
    ∷ (pos 1 ∷ pos 1 ∷ pos 5 ∷ pos 2 ∷ pos 7 ∷ [])
    ∷ (pos 1 ∷ pos 1 ∷ pos 2 ∷ pos 0 ∷ pos 5 ∷ [])
    ∷ (pos 1 ∷ pos 1 ∷ pos 4 ∷ pos 3 ∷ pos 5 ∷ [])
    ∷ (pos 0 ∷ [])
    ∷ []
