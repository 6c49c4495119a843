use Rattle.page.proofs.Rowed.{told_space}
use Rattle.page.proofs.slots.calls.SlotHostHost.space.Goals as goal

pub returns : goal.returns
returns c = told_space c.args.self.now.queues c.space.result c.args.channel c.args.self.now.all c.space.ensures
