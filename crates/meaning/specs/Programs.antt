-- A script without the facts that its type holds, so that a run of a script that is written out computes; and those
-- facts beside it. Assumes nothing.
use Rattle.std.specs.Prelude.{ℕ, Bool, List, get_or, slice_index_or}
use Rattle.script.specs.Laws as laws
use Rattle.script.specs.Laws.{blank, same}
use Rattle.script.specs.declared.accepted.Script.{Script}
use Rattle.script.specs.declared.parts.Channel.{Channel}
use Rattle.script.specs.declared.parts.Direction.TheVariants.{Out}
use Rattle.script.specs.declared.parts.Instruction.{Instruction}
use Rattle.script.specs.declared.parts.Instruction.TheVariants.{Skip}

-- the counts n, c and m of a script, and its two tables whole
pub record Program : Type 0 where
  pub levels : ℕ
  pub channel_count : ℕ
  pub channels : List Channel
  pub instruction_count : ℕ
  pub instructions : List Instruction

-- the counts and tables of an accepted script
abbrev pub program : Script → Program
program s = record {
  levels = s.levels;
  channel_count = s.channel_count;
  channels = s.channels;
  instruction_count = s.instruction_count;
  instructions = s.instructions;
}

-- the level of channel k; 0 past the table
abbrev pub level_at : Program → ℕ → ℕ
level_at p k = (get_or p.channels k blank).level

-- do values go out by channel k; past the table they do not
abbrev pub outward_at : Program → ℕ → Bool
outward_at p k = same Out (get_or p.channels k blank).direction

-- the instruction at place i; a skip past the table
abbrev pub instruction_at : Program → ℕ → Instruction
instruction_at p i = slice_index_or p.instructions i Skip

-- the laws of an accepted script
pub record Sound (p : Program) : Type 0 where
  pub headed : laws.Headed p.levels p.channel_count
  pub counted : laws.Counted p.instruction_count
  pub below : laws.Below p.levels p.channels p.channel_count
  pub sound : laws.Sound p.channels p.channel_count p.instruction_count p.instructions p.instruction_count

-- every script keeps them
abbrev pub EveryProgramSound : Type 0
EveryProgramSound = (s : Script) → Sound (program s)
