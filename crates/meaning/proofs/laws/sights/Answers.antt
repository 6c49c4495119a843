use Rattle.meaning.proofs.Sighting.{every_sight}
use Rattle.meaning.proofs.laws.sights.Goals as goal

pub returns-clause-seen : goal.returns-clause-seen
returns-clause-seen c = every_sight
