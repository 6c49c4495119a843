use Rattle.std.proofs.Common.{rules, ◌≡◌, true}
use borrow.Author.Tests.{tests}
use Rattle.house.specs.Rows.{told}
use Rattle.house.proofs.Alls.{decides_from_all}
use Rattle.house.proofs.order_map.judge.Table.flows_on_through.Goals as goal

pub returns : goal.returns
returns c = decides_from_all _ _ (λ x. told c.args.self.now.rows c.args.a c.args.b ≡ true → told c.args.self.now.rows c.args.b x ≡ true → told c.args.self.now.rows c.args.a x ≡ true) c.args.self.now.levels c.all.result c.all.ensures.ran (cc) (λ x b q k. search (rules, tests))
