use Rattle.std.proofs.Common.{◌<◌, length, ◌∙◌, arith}
use Rattle.meaning.specs.Copies.{go_to}
use Rattle.copies.proofs.Rows.{stepped, steps_too}
use Rattle.copies.proofs.table.Copies.go_to.Goals as goal

pub returns-then-level-lt16-clause-done : goal.returns-then-level-lt16-clause-done
returns-then-level-lt16-clause-done c may =
    let t = c.args.self.now in
    let l = c.args.level in
    let small : l < 16 = omega arith in
    let inside : l < length t.copies = omega arith in
    let can = steps_too t l small _ inside c.index-self-level.is ∙ may in
    stepped t l small _ inside c.index-self-level.is c.go_to.new.self (λ x. go_to x c.args.next) (c.go_to.ensures.done can)
