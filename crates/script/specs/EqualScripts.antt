-- Equality of scripts, and that it is equality of values. Assumes nothing.
use Rattle.std.specs.Prelude.{◌≡◌, Bool, ◌&&◌, ◌==◌, Decides}
use Rattle.std.proofs.Common.{ap}
use Rattle.std.proofs.lemmas.Bool.Decides.{Decides-and}
use Rattle.std.specs.Cmp.{unsigned_Decides}
use Rattle.std.specs.Cmp.Lexicographic.{pointwise, pointwise_decides}
use denote.Struct.Record.{values_one}
use Rattle.script.specs.contracts.parts.Channel.{the_row as channel_row}
use Rattle.script.specs.contracts.parts.Instruction.{the_row as instruction_row}
use Rattle.script.specs.contracts.accepted.Script.{struct, the_propositions}
use Rattle.script.specs.declared.accepted.Script.{Script}
use Rattle.script.specs.Equal.{same_channel, same_channel_decides, same_instruction, same_instruction_decides}

-- the same counts and tables
abbrev pub same_script : Script → Script → Bool
same_script x y = (x.levels == y.levels) && ((x.channel_count == y.channel_count) && ((x.instruction_count == y.instruction_count) && (pointwise same_channel x.channels y.channels && pointwise same_instruction x.instructions y.instructions)))

-- a script is known by its counts and tables
pub one_value : (s t : Script) → s.levels ≡ t.levels → s.channel_count ≡ t.channel_count → s.channels ≡ t.channels → s.instruction_count ≡ t.instruction_count → s.instructions ≡ t.instructions → s ≡ t
one_value s t levels c cs m is = values_one struct (the_propositions channel_row.coded instruction_row.coded) s t (λ i. (levels i, (c i, (cs i, (m i, (is i, tt))))))

-- the test of scripts decides equality of values
pub same_script_decides : (x y : Script) → Decides (same_script x y) (x ≡ y)
same_script_decides x y =
    let d = Decides-and _ _ (unsigned_Decides x.levels y.levels) (Decides-and _ _ (unsigned_Decides x.channel_count y.channel_count) (Decides-and _ _ (unsigned_Decides x.instruction_count y.instruction_count) (Decides-and _ _ (pointwise_decides same_channel_decides x.channels y.channels) (pointwise_decides same_instruction_decides x.instructions y.instructions)))) in (
      λ e. one_value x y (d.0 e).0 (d.0 e).1.0 (d.0 e).1.1.1.0 (d.0 e).1.1.0 (d.0 e).1.1.1.1,
      λ e. d.1 (ap (λ (s : Script). s.levels) e, (ap (λ (s : Script). s.channel_count) e, (ap (λ (s : Script). s.instruction_count) e, (ap (λ (s : Script). s.channels) e, ap (λ (s : Script). s.instructions) e)))),
    )
