use Rattle.std.proofs.Common.{rules}
use borrow.Author.Tests.{tests}
use Rattle.house.specs.Rows.{OnwardThrough, OnwardFrom}
use Rattle.house.proofs.Alls.{decides_from_all}
use Rattle.house.proofs.order_map.judge.Table.flows_on_from.Goals as goal

pub returns : goal.returns
unfolding OnwardFrom
returns c = decides_from_all _ _ (OnwardThrough c.args.self.now.levels c.args.self.now.rows c.args.a) c.args.self.now.levels c.all.result c.all.ensures.ran (cc) (λ x b q k. search (rules, tests))
