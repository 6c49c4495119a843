use Rattle.std.proofs.Common.{take}
use Rattle.strip_device.specs.Rows.{FedAll}
use Rattle.strip_device.proofs.rows.feed_row.Given as goal

-- those before the index were fed
abbrev pub invariant-loop-fed : goal.invariant-loop-fed
invariant-loop-fed g l = FedAll g.R.Regime.order g.H.Host.channels g.H.Host.puts (take l.fed l.said) l.initial.visit l.visit
