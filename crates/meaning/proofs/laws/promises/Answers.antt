use Rattle.meaning.proofs.Kept.{kept}
use Rattle.meaning.proofs.laws.promises.Goals as goal

pub returns-clause-kept : goal.returns-clause-kept
returns-clause-kept c = kept
