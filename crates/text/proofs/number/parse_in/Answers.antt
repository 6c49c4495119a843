use Rattle.std.proofs.Common.{◌<◌, length, sym, ◌∙◌, arith, false-eqb, rules}
use Rattle.std.proofs.lemmas.Iterator.{YieldsList-from_slice}
use Rattle.text.proofs.Counts.{read_all}
use Rattle.text.proofs.Digits.{so_far, last}
use Rattle.text.proofs.number.parse_in.Goals as goal

pub returns : goal.returns
returns c =
    let base = c.args.base in
    let some = c.requires.some in
    let text = c.args.text.now in
    let long : 0 < length text = omega (arith, false-eqb) in
    let ran = c.try_fold.ensures.ran in
    let (left, runs, same, reads) = so_far base some _ _ (λ a x q k. (search rules, sym k.2 ∙ (let called = k.1 in search rules))) ran.0 c.iter.result ran.4.0 text _ (ran.2, ran.3) (YieldsList-from_slice {s = c.iter.result} text (cc)).runs ran.4.1 ran.5 in
    last base some _ _ _ ran.3 (λ h. search rules) (λ x h. (h.5, (let called = h.3 in search rules))) ran.1 ran.4.0 c.try_fold.new.self left runs ran.4.2 ran.6 ∙ sym reads ∙ read_all base some text long
