-- One queue changes. Assumes nothing.
use Rattle.host.proofs.Queued.{popped}
use Rattle.host.proofs.queues.take_at.Goals as goal

pub returns-clause-after : goal.returns-clause-after
returns-clause-after g c = λ k.
    let q = g.Q.ChannelQueue in
    let here = c.index-queues-at.is in
    popped q.list q.capacity k c.args.queues.now c.args.at _ _ c.requires here (rw (← here) at c.pop.ensures.size) (rw (← here) at c.pop.ensures.after)
