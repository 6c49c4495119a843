use Rattle.std.proofs.Common.{rules, ◌≡◌, true}
use borrow.Author.Tests.{tests}
use Rattle.house.specs.Rows.{told}
use Rattle.house.proofs.Alls.{decides_from_all}
use Rattle.house.proofs.order_map.judge.Table.is_reflexive.Goals as goal

pub returns : goal.returns
returns c = decides_from_all _ _ (λ a. told c.args.self.now.rows a a ≡ true) c.args.self.now.levels c.all.result c.all.ensures.ran (cc) (λ x b q k. search (rules, tests))
