use Rattle.std.proofs.Common.{◌≡◌, ◌-◌}
use Rattle.regime.specs.Members.{members}
use Rattle.page.specs.Ladder.{lowest}
use Rattle.page.proofs.Finds.{first_from}
use Rattle.page.proofs.ladder.order.lowest.Given as goal

-- the lowest member is the first from this level on
abbrev pub invariant-loop-level : goal.invariant-loop-level
invariant-loop-level l = lowest l.n (members l.ready) ≡ first_from l.level (l.n - l.level) (members l.ready)
