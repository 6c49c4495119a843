use Rattle.std.proofs.Common.{lit<}
use native.Mathlib.Nat.{one-le-pow}
use Rattle.field.proofs.read_field.Goals as goal

-- nothing is read, and 0 fits any width
pub returns-then-not-announced-clause-small : goal.returns-then-not-announced-clause-small
returns-then-not-announced-clause-small g c = one-le-pow g.T.Number.width 256 (lit< tt)
