use Rattle.std.proofs.Common.{rules}
use borrow.Author.Tests.{tests}
use Rattle.house.specs.Rows.{OnwardFrom}
use Rattle.house.proofs.Alls.{decides_from_all}
use Rattle.house.proofs.order_map.judge.Table.is_transitive.Goals as goal

pub returns : goal.returns
returns c = decides_from_all _ _ (OnwardFrom c.args.self.now.levels c.args.self.now.rows) c.args.self.now.levels c.all.result c.all.ensures.ran (cc) (λ x b q k. search (rules, tests))
