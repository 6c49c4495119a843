use Rattle.std.proofs.Common.{Ok, ap, ◌∙◌}
use Rattle.cases.proofs.Taught.{its_script, told_by_file}
use Rattle.cases.proofs.Parting.{known}
use Rattle.cases.proofs.lesson.teach_file.Goals as goal

-- F is some script's file, so it is not refused
pub returns-in_err-script : goal.returns-in_err-script
returns-in_err-script c = absurd (c.in_err-script.ensures.1 its_script.0 its_script.1)

pub returns : goal.returns
returns c = ap Ok (known c.teach.result (c.teach.ensures ∙ told_by_file c.in_ok-script.script c.in_ok-script.ensures))
