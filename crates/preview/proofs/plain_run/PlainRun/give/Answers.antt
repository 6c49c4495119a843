use mathlib.Core.Path.{fun_ext}
use Rattle.preview.proofs.plain_run.PlainRun.give.Goals as goal

-- every channel keeps its values
pub returns-clause-lists : goal.returns-clause-lists
returns-clause-lists c = fun_ext c.begin_at.ensures.lists
