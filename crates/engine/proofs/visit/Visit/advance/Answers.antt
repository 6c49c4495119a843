use Rattle.engine.specs.Views.{frame_of, state_of}
use Rattle.engine.proofs.Moved.{moved}
use Rattle.engine.proofs.visit.Visit.advance.Goals as goal

pub returns-clause-answer : goal.returns-clause-answer
returns-clause-answer g c =
    let v = c.args.self.now in
    let kept = c.count_turn.ensures in
    let did = c.in_ok-act.ensures.does in
    (moved (frame_of g.R.Regime.order g.H.Host.channels v) (g.H.Host.channels v.host).list v.course c.count_turn.new.self kept.turns kept.copies kept.tapes
    c.in_ok-level.level c.in_ok-act.act (state_of g.H.Host.channels c.step.new.self) did.acts did.after c.args.level c.in_ok-level.was).1
