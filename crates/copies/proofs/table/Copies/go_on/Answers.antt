use Rattle.std.proofs.Common.{◌<◌, length, ◌∙◌, arith}
use Rattle.meaning.specs.Copies.{go_on}
use Rattle.copies.proofs.Rows.{stepped, goes_too}
use Rattle.copies.proofs.table.Copies.go_on.Goals as goal

pub returns-then-level-lt16-clause-done : goal.returns-then-level-lt16-clause-done
returns-then-level-lt16-clause-done c may =
    let t = c.args.self.now in
    let l = c.args.level in
    let small : l < 16 = omega arith in
    let inside : l < length t.copies = omega arith in
    let can = goes_too t l small _ inside c.index-self-level.is ∙ may in
    stepped t l small _ inside c.index-self-level.is c.go_on.new.self go_on (c.go_on.ensures.done can)
