use Rattle.format.proofs.Theorems.{appended_same}
use Rattle.format.proofs.laws.appended_bytes_change_nothing.Goals as goal

pub returns : goal.returns
returns c = appended_same
