-- One queue changes. Assumes nothing.
use Rattle.std.proofs.Common.{to_z-of_z}
use Rattle.host.proofs.Queued.{pushed}
use Rattle.host.proofs.queues.put_at.Goals as goal

pub returns-clause-after : goal.returns-clause-after
returns-clause-after g c = λ k.
    let q = g.Q.ChannelQueue in
    let here = c.index-queues-at.is in
    let e = rw c.push.ensures.answer at (rw (to_z-of_z c.ranges.value) at c.push.ensures.after) in
    pushed q.list q.capacity k c.args.queues.now c.args.at _ _ c.requires here (rw (← here) at c.push.ensures.size) c.args.value (rw (← here) at e)
