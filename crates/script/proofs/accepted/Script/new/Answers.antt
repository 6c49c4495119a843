use Rattle.script.proofs.Held.{below_table, all_sound_table}
use Rattle.script.proofs.accepted.Script.new.Goals as goal

pub invariant_of-result-clause-below : goal.invariant_of-result-clause-below
invariant_of-result-clause-below c = below_table c.args.levels c.filled.result c.args.channels.now c.filled.ensures.front c.in_ok-judge_channels.ensures

pub invariant_of-result-clause-sound : goal.invariant_of-result-clause-sound
invariant_of-result-clause-sound c = all_sound_table c.filled.result c.args.channels.now c.filled-2.result c.args.instructions.now c.filled.ensures.front c.filled-2.ensures.front c.in_ok-judge_instructions.ensures
