use Rattle.std.proofs.Common.{ℕ, ◌+◌, ◌<◌, Bool, sym, ◌∙◌, subst, arith}
use Rattle.meaning.specs.Visits.{plan, status, is_ready}
use Rattle.regime.specs.Members.{members}
use Rattle.regime.specs.declared.ready.ReadySet.{ReadySet}
use Rattle.engine.specs.Views.{frame_of, state_of}
use Rattle.engine.proofs.Gathered.{Below, with_it, without}
use Rattle.engine.proofs.visit.Visit.ready.Goals as goal
use Rattle.engine.proofs.visit.Visit.ready.Goals.{then-is_ready, else-is_ready}

pub loop-level-preserved : goal.loop-level-preserved
loop-level-preserved g c =
    let v = c.args.self.now in
    let f : ℕ → Bool = λ a. is_ready (status (plan (frame_of g.R.Regime.order g.H.Host.channels v) (state_of g.H.Host.channels v) a)) in
    let i = c.loop-level.level in
    let small : i < 16 = omega arith in
    let s = members c.loop-level.ready in
    let Again : ReadySet → Type 0 = λ r. Below f (i + 1) (members r) in
    elim c.if-is_ready.branch [
      | then-is_ready w ↦ subst Again (sym w.ready-is) (with_it f i s c.loop-level.invariant (sym c.is_ready.ensures ∙ w.if-is_ready.true) small _ w.insert.ensures)
      | else-is_ready w ↦ subst Again (sym w.ready-is) (without f i s c.loop-level.invariant (sym c.is_ready.ensures ∙ w.if-is_ready.false))
    ]
