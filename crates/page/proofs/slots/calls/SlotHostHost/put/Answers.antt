use Rattle.page.proofs.Rowed.{told_put}
use Rattle.page.proofs.slots.calls.SlotHostHost.put.Goals as goal

pub returns-clause-answer : goal.returns-clause-answer
returns-clause-answer c = told_put c.args.self.now.queues c.put.result c.args.channel c.args.self.now.all c.put.ensures.answer
