use Rattle.std.proofs.Common.{◌<◌, length, ◌∙◌, arith}
use Rattle.copies.specs.Computed.{computed}
use Rattle.copies.proofs.Rows.{stepped, computes_too}
use Rattle.copies.proofs.table.Copies.compute.Goals as goal

pub returns-then-level-lt16-clause-done : goal.returns-then-level-lt16-clause-done
returns-then-level-lt16-clause-done c may =
    let t = c.args.self.now in
    let l = c.args.level in
    let small : l < 16 = omega arith in
    let inside : l < length t.copies = omega arith in
    let can = computes_too t l small _ inside c.index-self-level.is c.args.instruction ∙ may in
    stepped t l small _ inside c.index-self-level.is c.compute.new.self (λ x. computed x c.args.end c.args.instruction) (c.compute.ensures.done can)
