-- The calls of a visit and their answers, as a log holds them. Assumes nothing.
use Rattle.std.specs.Prelude.{ℕ, List, [], ◌∷◌, ℤ, pos, Some, None, Option, Ok, Err, Result}
use Rattle.refusal.specs.declared.Refusal.{Refusal}
use Rattle.refusal.specs.Numbers.{number_of}
use Rattle.meaning.specs.Numbers.{act_number, act_values, status_number, channel_lacked}
use Rattle.meaning.specs.declared.answers.Act.{Act}
use Rattle.meaning.specs.declared.answers.Moved.{Moved}
use Rattle.meaning.specs.declared.answers.Standing.{Standing}

-- a value fed to a channel, a value collected from one, a turn, a question about a level
pub data Call : Type 0 where
  feed : ℕ → ℤ → Call
  collect : ℕ → Call
  turn : Call
  ask : ℕ → Call

-- a refusal; done; the value collected; nobody, or a level with its act; the standing of a level
pub data Answer : Type 0 where
  refused : Refusal → Answer
  fed : Answer
  collected : ℤ → Answer
  turned : Option Moved → Answer
  told : Standing → Answer

-- what a turn answers that moved the copy at a level, by an act
abbrev pub moved_at : ℕ → Act → Option Moved
moved_at l act = Some (record { level = l; act = act })

-- an answer in numbers, the first for its kind, as the table of docs/visits.md has them
abbrev pub in_numbers : Answer → List ℤ
in_numbers (turned None) = pos 0 ∷ []
in_numbers (turned (Some m)) = pos 1 ∷ pos m.level ∷ pos (act_number m.act) ∷ act_values m.act
in_numbers (refused e) = pos 2 ∷ pos (number_of e) ∷ []
in_numbers fed = pos 3 ∷ []
in_numbers (collected v) = pos 4 ∷ v ∷ []
in_numbers (told s) = pos 5 ∷ pos (status_number s.status) ∷ pos (channel_lacked s.status) ∷ pos s.steps ∷ []

-- what the code answers to a call, as an answer of the log: f says what an accepted one is there
abbrev pub answer_of : {A : Type 0} → (A → Answer) → Result A Refusal → Answer
answer_of f (Ok a) = f a
answer_of f (Err e) = refused e

-- what the code answers to a feed
abbrev pub fed_by : Result (Unit {0}) Refusal → Answer
fed_by = answer_of (λ _. fed)

-- what the code answers to a collect
abbrev pub collected_by : Result ℤ Refusal → Answer
collected_by = answer_of collected

-- what the code answers to a turn
abbrev pub turned_by : Result (Option Moved) Refusal → Answer
turned_by = answer_of turned

-- what the code answers to a question about a level
abbrev pub told_by : Result Standing Refusal → Answer
told_by = answer_of told
