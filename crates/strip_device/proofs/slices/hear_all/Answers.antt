-- The strip's part is in Storing, the visit's in Feeding. Assumes nothing.
use Rattle.std.proofs.Common.{◌≡◌, ◌≤◌, length, take, arith, length-take}
use Rattle.strip.specs.Stripped.{StripPuts, channels_of}
use Rattle.strip_device.proofs.Feeding.{led, puts_of}
use Rattle.strip_device.proofs.Storing.{row_stored}
use Rattle.strip_device.proofs.slices.hear_all.Goals as goal

pub returns-clause-entries : goal.returns-clause-entries
returns-clause-entries g c =
    let row = take c.feed_row.result c.args.said.now in
    (row_stored row c.args.visit.now.host c.feed_row.new.visit.host (puts_of g.R.Regime.order channels_of StripPuts row _ _ c.feed_row.ensures.fed)).0

pub returns-clause-used : goal.returns-clause-used
returns-clause-used g c =
    let said = c.args.said.now in
    let n = c.feed_row.result in
    let h = c.args.visit.now.host in
    let k = c.feed_row.new.visit.host in
    let within : n ≤ length said = c.feed_row.ensures.within in
    let all = (row_stored (take n said) h k (puts_of g.R.Regime.order channels_of StripPuts (take n said) _ _ c.feed_row.ensures.fed)).1 in
    omega (arith, length-take n said)

pub returns-clause-frame : goal.returns-clause-frame
returns-clause-frame g c = (led g.R.Regime.order channels_of StripPuts (take c.feed_row.result c.args.said.now) _ _ c.feed_row.ensures.fed).0

pub returns-clause-state : goal.returns-clause-state
returns-clause-state g c = (led g.R.Regime.order channels_of StripPuts (take c.feed_row.result c.args.said.now) _ _ c.feed_row.ensures.fed).1
