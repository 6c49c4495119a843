use Rattle.std.proofs.Common.{rules, arith}
use borrow.Author.Tests.{tests}
use Rattle.house.specs.Rows.{RowClear}
use Rattle.house.specs.Shown.{clear_from}
use Rattle.house.proofs.Alls.{decides_from_all}
use Rattle.house.proofs.order_map.judge.Table.is_clear.Goals as goal

pub returns : goal.returns
returns c =
    let d = decides_from_all _ _ (RowClear c.args.self.now.levels c.args.self.now.rows) 16 c.all.result c.all.ensures.ran (cc) (λ x b q k. search (rules, tests)) in
    (λ e. clear_from c.args.self.now.levels c.args.self.now.rows (omega arith) (d.0 e), λ h. d.1 (λ b _ a. h a b))
