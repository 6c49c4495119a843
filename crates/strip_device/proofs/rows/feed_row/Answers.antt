-- A value that is fed is the next of the row. Assumes nothing.
use Rattle.std.proofs.Common.{◌≡◌, get_or, w32, to_z, of_z, rules}
use Rattle.strip.specs.Entries.{none}
use Rattle.strip_device.proofs.Feeding.{fed_next}
use Rattle.strip_device.proofs.rows.feed_row.Goals as goal

pub loop-fed-preserved : goal.loop-fed-preserved
loop-fed-preserved g c =
    let said = c.args.said.now in
    let e = get_or said c.loop-fed.fed none in
    let fits : to_z w32 (of_z w32 e.value) ≡ e.value = search rules in
    fed_next g.R.Regime.order g.H.Host.channels g.H.Host.puts said c.loop-fed.fed none _ _ _ _ c.loop-fed-test.true fits c.loop-fed.invariant c.in-Ok.ensures.served c.in-Ok.ensures.memory
