-- The records that splitting hands out. Assumes nothing.
use Rattle.std.specs.Prelude.{◌≡◌, ℕ, ◌+◌, ◌-◌, ◌<◌, ◌≤◌, List, length, take, drop, Some, None, Option, Result, MatchResult, slice_index_or}
use Rattle.refusal.specs.declared.Fault.{Fault}
use Rattle.script.specs.declared.parts.Instruction.TheVariants.{Skip}
use Rattle.script.specs.declared.accepted.Script.{Script}
use Rattle.script.specs.Laws.{blank}
use Rattle.script.specs.Model.{Model, model_of}
use Rattle.format.specs.Encoding.{encode, encode_channel, encode_instruction, channel_start, instruction_start}
use Rattle.format.specs.Refusals.{Refused, NoScript}
use Rattle.reader.specs.declared.split.Record.{Record}
use Rattle.reader.specs.declared.split.Record.TheVariants.{Channel, Instruction}

-- these bytes stand in the file from byte p on
abbrev pub Stands : List ℕ → ℕ → List ℕ → Type 0
Stands file p bytes = take (length bytes) (drop p file) ≡ bytes

-- the record is the one with index k in the file of the model s, channels first, and p is the number of its first byte
abbrev pub Hands : Model → List ℕ → ℕ → ℕ → Record → Type 0
Hands s file k p (Channel b) =
    (k < length s.channels)
    × (p ≡ channel_start s k)
    × (b.now ≡ encode_channel (slice_index_or s.channels k blank))
    × Stands file p b.now
Hands s file k p (Instruction b) =
    (length s.channels ≤ k)
    × (k < length s.channels + length s.instructions)
    × (p ≡ instruction_start s (k - length s.channels))
    × (b.now ≡ encode_instruction (slice_index_or s.instructions (k - length s.channels) Skip))
    × Stands file p b.now

-- the record with index k of the file, or nothing where k is past the last
abbrev pub Handed : Model → List ℕ → ℕ → Option (ℕ × Record) → Type 0
Handed s file k None = length s.channels + length s.instructions ≤ k
Handed s file k (Some x) = Hands s file k x.0 x.1

-- of a script's file the record that is asked for; any other file is refused as reading refuses it
abbrev pub Splits : List ℕ → ℕ → Result (Option (ℕ × Record)) Fault → Type 0
Splits file k r = MatchResult r (λ o. (s : Script) × (encode s ≡ file) × Handed (model_of s) file k o) (λ f. Refused file f × NoScript file)
