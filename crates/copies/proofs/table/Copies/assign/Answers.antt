use Rattle.std.proofs.Common.{◌≡◌, ◌<◌, length, ◌∙◌, arith, to_z-of_z, w32, to_z, of_z}
use Rattle.meaning.specs.Copies.{assign}
use Rattle.copies.proofs.Rows.{stepped, assigns_too}
use Rattle.copies.proofs.table.Copies.assign.Goals as goal

pub returns-then-level-lt16-clause-done : goal.returns-then-level-lt16-clause-done
returns-then-level-lt16-clause-done c may =
    let t = c.args.self.now in
    let l = c.args.level in
    let small : l < 16 = omega arith in
    let inside : l < length t.copies = omega arith in
    let can = assigns_too t l small _ inside c.index-self-level.is c.args.target ∙ may in
    let value : to_z w32 (of_z w32 c.args.value) ≡ c.args.value = to_z-of_z c.ranges.value in
    stepped t l small _ inside c.index-self-level.is c.assign.new.self (λ x. assign x c.args.target c.args.value) (rw value at (c.assign.ensures.done can))
