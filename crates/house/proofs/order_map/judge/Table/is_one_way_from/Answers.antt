use Rattle.std.proofs.Common.{rules, ◌≡◌, true}
use borrow.Author.Tests.{tests}
use Rattle.house.specs.Rows.{told, OneWayFrom}
use Rattle.house.proofs.Alls.{decides_from_all}
use Rattle.house.proofs.order_map.judge.Table.is_one_way_from.Goals as goal

pub returns : goal.returns
unfolding OneWayFrom
returns c = decides_from_all _ _ (λ b. told c.args.self.now.rows c.args.a b ≡ true → told c.args.self.now.rows b c.args.a ≡ true → c.args.a ≡ b) c.args.self.now.levels c.all.result c.all.ensures.ran (cc) (λ x b q k. search (rules, tests))
