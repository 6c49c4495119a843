use Rattle.format.proofs.Theorems.{accepted_or_refused, accepted_not_refused, one_refusal}
use Rattle.format.proofs.laws.each_file_has_one_answer.Goals as goal

pub returns : goal.returns
returns c = record { some = accepted_or_refused; one = accepted_not_refused; single = one_refusal }
