use Rattle.meaning.proofs.Kept.{kept}
use Rattle.meaning.proofs.Soundness.{every_sound}
use Rattle.engine.specs.Views.{opening}
use Rattle.engine.proofs.visit.Visit.open.Goals as goal

-- the promises hold of every opening with a sound script and a lawful regime
pub returns-clause-promises : goal.returns-clause-promises
returns-clause-promises g c =
    kept (opening c.args.script (g.R.Regime.order c.args.regime) (g.H.Host.channels c.args.host)) (g.met.R.Regime.lawful c.args.regime) (every_sound c.args.script)
