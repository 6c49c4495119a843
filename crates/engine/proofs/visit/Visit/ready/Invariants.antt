use Rattle.meaning.specs.Visits.{plan, status, is_ready}
use Rattle.regime.specs.Members.{members}
use Rattle.engine.specs.Views.{frame_of, state_of}
use Rattle.engine.proofs.Gathered.{Below}
use Rattle.engine.proofs.visit.Visit.ready.Given as goal

-- the ready levels so far
abbrev pub invariant-loop-level : goal.invariant-loop-level
invariant-loop-level g l =
    Below (λ a. is_ready (status (plan (frame_of g.R.Regime.order g.H.Host.channels l.self) (state_of g.H.Host.channels l.self) a))) l.level (members l.ready)
