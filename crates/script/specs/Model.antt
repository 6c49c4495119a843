-- A script apart from the tables that hold it. Assumes nothing.
use Rattle.std.specs.Prelude.{◌≡◌, ℕ, List, length, take}
use Rattle.script.specs.declared.parts.Channel.{Channel}
use Rattle.script.specs.declared.parts.Instruction.{Instruction}
use Rattle.script.specs.declared.accepted.Script.{Script}
use Rattle.script.specs.Laws.{Headed, Counted, Below, Sound}

-- what a script says: its number of levels, its channels and its instructions
pub record Model : Type 0 where
  pub levels : ℕ
  pub channels : List Channel
  pub instructions : List Instruction

-- what a script holds: the used parts of its tables
abbrev pub model_of : Script → Model
model_of s = record {
  levels = s.levels;
  channels = take s.channel_count s.channels;
  instructions = take s.instruction_count s.instructions;
}

-- a model that some script has: the laws, over lists that are used whole
pub record Accepted (s : Model) : Type 0 where
  pub headed : Headed s.levels (length s.channels)
  pub counted : Counted (length s.instructions)
  pub below : Below s.levels s.channels (length s.channels)
  pub sound : Sound s.channels (length s.channels) (length s.instructions) s.instructions (length s.instructions)

-- every script holds an accepted model
abbrev pub EveryScriptAccepted : Type 0
EveryScriptAccepted = (s : Script) → Accepted (model_of s)

-- two scripts that hold the same are one value
abbrev pub SameScript : Type 0
SameScript = (s t : Script) → model_of s ≡ model_of t → s ≡ t
