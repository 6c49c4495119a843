use Rattle.text.specs.Words.{left}
use Rattle.text.proofs.Rows.{Sofar}
use Rattle.text.proofs.words.Words.entries.Given as goal

abbrev pub invariant-loop-i : goal.invariant-loop-i
invariant-loop-i g l = Sofar g.f (left l.initial.self) l.i l.entries (left l.self)
